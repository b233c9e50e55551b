use Rattle.lq_types_rules.proofs.VisitsLemmas.Programs.{scoped_items_own_slots}
use Rattle.lq_types_rules.proofs.visits.laws.scoped_items_own_slots.Goals as goal

pub returns : goal.returns
returns c = scoped_items_own_slots
