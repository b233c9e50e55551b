use Rattle.lq_types_rules.proofs.VisitsLemmas.Programs.{scoped_slots_are_apart}
use Rattle.lq_types_rules.proofs.visits.laws.scoped_slots_are_apart.Goals as goal

pub returns : goal.returns
returns c = scoped_slots_are_apart
