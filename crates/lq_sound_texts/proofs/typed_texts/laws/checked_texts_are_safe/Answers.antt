use Rattle.lq_sound_texts.proofs.TypedTextsLemmas.Texts.{checked_safe}
use Rattle.lq_sound_texts.proofs.typed_texts.laws.checked_texts_are_safe.Goals as goal

pub returns : goal.returns
returns c =
    checked_safe (record {
      never = c.typed_programs.ensures.never_stuck;
      have_types = c.annotated_programs_have_types.ensures;
      apart = c.scoped_are_apart.ensures;
      keeps = c.normal_form_keeps_outcomes.ensures;
      without = c.same_outcomes.ensures.safe;
      typed = c.noted_texts_are_typed.ensures;
      ready = c.noted_texts_are_ready.ensures;
      list = c.list_is_checks.ensures;
      templates = c.templates_are_of_points.ensures;
      simple = c.what_is_read_is_typed.ensures;
      means = c.what_is_read_means_the_same.ensures;
      plain = c.plain_programs_are_safe.ensures;
    })
