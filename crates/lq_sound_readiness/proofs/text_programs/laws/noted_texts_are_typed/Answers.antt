use Rattle.lq_sound_readiness.proofs.TextProgramsLemmas.Composing.{noted_typed}
use Rattle.lq_sound_readiness.proofs.text_programs.laws.noted_texts_are_typed.Goals as goal

pub returns : goal.returns
returns c =
    noted_typed (record {
      renamed = c.renamed_are_principal.ensures;
      owners = c.scoped_items_own_slots.ensures;
      written = c.parsed_programs_are_written.ensures;
      plain = c.scoped_programs_are_plain.ensures;
      keep = c.programs_keep_types.ensures;
      run = c.made_names_run.ensures;
      suit = c.typed_texts_suit.ensures;
      can_be_read = c.normal_forms_can_be_read.ensures;
      source_uses = c.typed_uses_fit.ensures;
      uses = c.normal_uses_fit.ensures;
      general = c.general_uses_have_texts.ensures;
      defined = c.resolved_programs_define_texts.ensures;
      kept = c.normal_forms_keep_texts.ensures;
      unread = c.made_names_are_not_read.ensures;
      one_pass = c.programs_are_one_pass.ensures;
    })
