use Rattle.std.proofs.Common.{◌≡◌, List, length}
use Rattle.lq_refined_instances.specs.Scopes.{Scope}
use Rattle.lq_generate_reading.specs.Visibility.Fits.{Fits}
use Rattle.lq_generate_reading.specs.declared.visibility.notes.Notes.{Notes}
use Rattle.lq_generate_reading.proofs.visibility.bound.Bound.back_to.Given as goal

abbrev pub invariant-loop-self : goal.invariant-loop-self
invariant-loop-self l = record {
  fits : (m : Notes) (all : List Scope) → Fits m all l.initial.self → Fits m all l.self;
  kept : l.self.entries ≡ l.initial.self.entries;
}

abbrev pub decreases-loop-self : goal.decreases-loop-self
decreases-loop-self l = length l.self.levels.items
