use Rattle.lq_meaning_normal_form.proofs.OutcomesLemmas.FlatPrograms.{normal_form_keeps}
use Rattle.lq_meaning_normal_form.proofs.outcomes.laws.clear_normal_form_keeps_outcomes.Goals as goal

pub returns : goal.returns
returns c = normal_form_keeps c.same_outcomes.ensures.same c.same_outcomes.ensures.meaning c.naming_keeps_programs.ensures c.flattening_keeps_programs.ensures
