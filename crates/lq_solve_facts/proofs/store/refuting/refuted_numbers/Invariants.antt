-- Of the instances so far exactly these numbers are refuted, and they are plain.
use Rattle.std.proofs.Common.{ℕ, Bool, List}
use Rattle.lq_solve_facts.specs.Facts.Known.{IsAt}
use Rattle.lq_refined_types.specs.Parts.Substitution.{Subst}
use Rattle.lq_logic_predicates.specs.Formula.{Formula}
use Rattle.lq_logic_predicates.specs.Points.{Point}
use Rattle.lq_solve_facts.specs.Store.Reads.{AreReads}
use Rattle.lq_solve_facts.proofs.StoreLemmas.Readings.{AreNoted, EachFirst, IsPlainBy, OfNumber}
use Rattle.lq_solve_facts.proofs.store.refuting.refuted_numbers.Given as goal

abbrev pub invariant-loop-instance : goal.invariant-loop-instance
invariant-loop-instance l = record {
  refuted : (chosen : ℕ → Bool) (σ : Subst) (qs : List Formula) → AreReads l.known chosen σ qs l.reads → (p : Point) → IsAt l.known p
      → AreNoted l.instance-index chosen p σ qs l.reads l.numbers.items;
  plain : (chosen : ℕ → Bool) (σ : Subst) (qs : List Formula) → AreReads l.known chosen σ qs l.reads → EachFirst l.instance-index l.reads (OfNumber qs (IsPlainBy σ));
}
