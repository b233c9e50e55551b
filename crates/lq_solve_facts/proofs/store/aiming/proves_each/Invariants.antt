-- No negation of an instance so far is met where what is known holds.
use Rattle.std.proofs.Common.{◌≡◌, ℕ, Bool, List}
use Rattle.lq_solve_facts.specs.Facts.Known.{Hold, Keeps, readings_of}
use Rattle.lq_refined_types.specs.Parts.Substitution.{Subst}
use Rattle.lq_logic_predicates.specs.Formula.{Formula}
use Rattle.lq_logic_predicates.specs.Points.{Point}
use Rattle.lq_solve_facts.specs.Store.Reads.{AreReads}
use Rattle.lq_solve_facts.proofs.StoreLemmas.Readings.{EachFirst, IsUnmet, OfNumber}
use Rattle.lq_solve_facts.proofs.store.aiming.proves_each.Given as goal

abbrev pub invariant-loop-instance : goal.invariant-loop-instance
invariant-loop-instance l = record {
  kept : (p : Point) → Hold l.fn.known p → Hold l.known p;
  keeps : Keeps l.fn.known l.known;
  same : readings_of l.known ≡ readings_of l.fn.known;
  none : (chosen : ℕ → Bool) (σ : Subst) (qs : List Formula) → AreReads l.fn.known chosen σ qs l.reads → (p : Point) → Hold l.fn.known p
      → EachFirst l.instance-index l.reads (OfNumber qs (IsUnmet p σ));
}
