-- What is known holds where the instances are met, and those so far are read.
use Rattle.std.proofs.Common.{ℕ, Bool, List, map}
use Rattle.lq_solve_facts.specs.Facts.Known.{Hold, Keeps, readings_of}
use Rattle.lq_solve_facts.specs.Facts.Values.{MeetsEachRow}
use Rattle.lq_logic_rows.specs.Row.{Valuation}
use Rattle.lq_solve_facts.proofs.NearestLemmas.Meeting.{IsMetBy}
use Rattle.lq_refined_types.specs.Parts.Flowing.{picked}
use Rattle.lq_refined_types.specs.Parts.Substitution.{Subst, formula_by}
use Rattle.lq_logic_predicates.specs.ClosedImplication.{MeetsEach}
use Rattle.lq_logic_predicates.specs.Formula.{Formula}
use Rattle.lq_logic_predicates.specs.Points.{Point}
use Rattle.lq_logic_predicates.specs.RowMeaning.{AgreesOn}
use Rattle.lq_logic_predicates.specs.TableView.{terms_of}
use Rattle.lq_solve_facts.specs.Store.Reads.{AreReads}
use Rattle.lq_solve_facts.proofs.StoreLemmas.Readings.{EachFirst, OfNumber}
use Rattle.lq_solve_facts.proofs.store.adding.add_each.Given as goal

abbrev pub invariant-loop-instance : goal.invariant-loop-instance
invariant-loop-instance l = record {
  held : (chosen : ℕ → Bool) (σ : Subst) (qs : List Formula) → AreReads l.fn.known chosen σ qs l.reads → (p : Point) → Hold l.fn.known p
      → MeetsEach p (map (formula_by σ) (picked chosen 0 qs)) → Hold l.known p;
  keeps : Keeps l.fn.known l.known;
  read : (chosen : ℕ → Bool) (σ : Subst) (qs : List Formula) → AreReads l.fn.known chosen σ qs l.reads → (v : Valuation) (p : Point) → AgreesOn (terms_of l.known.table) v p
      → MeetsEachRow v p (readings_of l.known) → MeetsEachRow v p (readings_of l.fn.known) × EachFirst l.instance-index l.reads (OfNumber qs (IsMetBy p σ));
}
