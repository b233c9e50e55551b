use Rattle.lq_meaning_normal_form.proofs.OutcomesLemmas.ClearPrograms.{normal_form_keeps}
use Rattle.lq_meaning_normal_form.proofs.outcomes.laws.normal_form_keeps_outcomes.Goals as goal

pub returns : goal.returns
returns c = normal_form_keeps c.adequacy_of_programs.ensures.there c.named_are_clear.ensures c.clear_normal_form_keeps_outcomes.ensures
