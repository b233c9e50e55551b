use Rattle.lq_types_rules.proofs.VisitsLemmas.Programs.{scoped_visits_are_in}
use Rattle.lq_types_rules.proofs.visits.laws.scoped_visits_are_in.Goals as goal

pub returns : goal.returns
returns c = scoped_visits_are_in
