use Rattle.std.proofs.Common.{◌<◌, ℕ, Bool, Global, IfSome, List, Vec, arith, get_or, length, subst}
use Rattle.lq_solve_facts.specs.Facts.Known.{IsAt}
use Rattle.lq_refined_types.specs.Parts.Substitution.{Subst}
use Rattle.lq_logic_predicates.specs.Formula.{Formula}
use Rattle.lq_logic_predicates.specs.Points.{Point}
use Rattle.lq_solve_fixpoint.specs.Weakening.Judging.{AreRefuted}
use Rattle.lq_solve_facts.specs.Store.Aiming.{ChosenArePlain}
use Rattle.lq_solve_facts.specs.Store.Reads.{AreReads}
use Rattle.lq_solve_facts.proofs.StoreLemmas.Failing.{first_among, some_there}
use Rattle.lq_solve_facts.proofs.store.refuting.refute.Goals as goal

pub returns-clause-refuted : goal.returns-clause-refuted
returns-clause-refuted c = λ f σ qs a.
    let k = c.args.known.now in
    let reads = c.args.reads.now in
    let numbers = c.in-Some.numbers in
    let some : 0 < length numbers.items = some_there c.is_empty.result numbers.len (length numbers.items) c.is_empty.ensures c.if-is_empty.false (omega (arith, numbers.ok)) in
    let refuted : (chosen : ℕ → Bool) (σ : Subst) (qs : List Formula) → AreReads k chosen σ qs reads → (p : Point) → IsAt k p → AreRefuted chosen p σ qs numbers.items
    = subst (λ o. IfSome o (λ (ns : Vec ℕ Global). (chosen : ℕ → Bool) (σ : Subst) (qs : List Formula) → AreReads k chosen σ qs reads → (p : Point) → IsAt k p → AreRefuted chosen p σ qs ns.items)) c.in-Some.is
    c.in_ok-numbers.ensures.refuted in
    let plain : (chosen : ℕ → Bool) (σ : Subst) (qs : List Formula) → AreReads k chosen σ qs reads → ChosenArePlain chosen σ (length qs) qs
    = subst (λ o. IfSome o (λ (ns : Vec ℕ Global). (chosen : ℕ → Bool) (σ : Subst) (qs : List Formula) → AreReads k chosen σ qs reads → ChosenArePlain chosen σ (length qs) qs)) c.in-Some.is
    c.in_ok-numbers.ensures.plain in record {
      plain = plain f σ qs a;
      one = get_or numbers.items 0 0;
      among = first_among numbers.items some;
      at = λ class_of.
          let here = c.has_point.ensures class_of in record {
            point = here.point;
            classes = here.classes;
            values = _;
            agrees = here.at.terms;
            meets = c.meets_all.ensures c.if-not-meets_all.false here.point here.at;
            refuted = refuted f σ qs a here.point here.at;
          };
    }
