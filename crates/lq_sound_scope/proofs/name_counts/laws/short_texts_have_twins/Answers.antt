use Rattle.lq_sound_scope.proofs.NameCountsLemmas.Texts.{short-twins}
use Rattle.lq_sound_scope.proofs.name_counts.laws.short_texts_have_twins.Goals as goal

pub returns : goal.returns
returns c =
    short-twins (record {
      below = c.normal_forms_bind_below.ensures;
      few = c.parsed_programs_make_few.ensures;
      reads = c.what_is_read_binds_the_same.ensures;
      one_pass = c.programs_are_one_pass.ensures;
      written = c.parsed_programs_are_written.ensures;
      plain = c.scoped_programs_are_plain.ensures;
    }) c.noted_texts_are_typed.ensures c.few_tokens.ensures
