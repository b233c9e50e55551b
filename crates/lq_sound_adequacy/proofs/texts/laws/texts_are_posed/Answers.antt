use Rattle.lq_sound_adequacy.proofs.TextsLemmas.Texts.{texts_posed}
use Rattle.lq_sound_adequacy.proofs.texts.laws.texts_are_posed.Goals as goal

pub returns : goal.returns
returns c =
    texts_posed (record {
      ready = c.noted_texts_are_ready.ensures;
      parsed = c.parsed_programs_are_written.ensures;
      plain = c.scoped_programs_are_plain.ensures;
      differ = c.binders_of_normal_forms_differ.ensures;
      one_pass = c.programs_are_one_pass.ensures;
      twins = c.short_texts_have_twins.ensures;
      settled = c.typed_texts_are_settled.ensures;
      arms = c.typed_texts_have_arms.ensures;
      before = c.noted_texts_use_before.ensures;
      fit = c.text_measures_fit.ensures;
    }) c.noted_texts_are_typed.ensures c.normal_forms_are_posed.ensures
