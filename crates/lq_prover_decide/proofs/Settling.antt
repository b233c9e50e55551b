-- A state that took the facts of a case and equations, and whose check found values, is settled.
use Rattle.std.proofs.Common.{◌≡◌, ◌∙◌, ℕ, suc, List, true, Some, map, slice_get, sym, ap, subst}
use Rattle.lq_prover_case.specs.State.Flags.{HasValue}
use Rattle.lq_prover_case.specs.State.PathState.{AllFlagsHold, NoObjectsClash, PathState, facts_in, objects_in}
use Rattle.lq_prover_case.specs.State.RowState.{is_solved, row_point}
use Rattle.lq_prover_proof_tree.specs.Trees.Path.{Fact, flag_fact}
use Rattle.lq_prover_proof_tree.specs.Trees.Proves.{rows_among}
use Rattle.lq_prover_decide.specs.Case.{Case}
use Rattle.lq_prover_case.specs.Equations.Equating.{AddsEquations, AreEquated, equation_fact}
use Rattle.lq_prover_case.specs.Equations.Naming.{AllTold, name_in}
use Rattle.lq_prover_decide.specs.Settled.{AgreeOnFlags, IsSettled}
use Rattle.lq_prover_decide.proofs.Reading.{get_append}
use Rattle.lq_logic_rows.specs.Contradiction.{Solves}
use Rattle.lq_logic_predicates.specs.Sum.{Sum}

pub settled : (objects : List Sum) (c : Case) (s t u : PathState) → facts_in (name_in objects) s ≡ c.facts → AllTold objects (objects_in s) c.facts
    → AddsEquations c.terms (facts_in (name_in objects) s) (facts_in (name_in objects) t) → objects_in t ≡ objects_in s → AreEquated objects c.terms (objects_in t) (facts_in (name_in objects) t)
    → facts_in (name_in objects) u ≡ facts_in (name_in objects) t → objects_in u ≡ objects_in t → is_solved u.rows ≡ true
    → Solves (row_point u.rows) (rows_among (facts_in (name_in objects) u)) → AllFlagsHold u.flags (facts_in (name_in objects) u) → NoObjectsClash u → IsSettled objects c u
settled objects c s t u stands told adds about equated facts same solved solves flags apart = record {
  solved = solved;
  adds = subst (λ l. AddsEquations c.terms l (facts_in (name_in objects) u)) stands (subst (AddsEquations c.terms (facts_in (name_in objects) s)) (sym facts) adds);
  solves = solves;
  flags = flags;
  apart = apart;
  told = subst (λ l. AllTold objects l c.facts) (sym (same ∙ about)) told;
  equated = subst (λ l. AreEquated objects c.terms l (facts_in (name_in objects) u)) (sym same) (subst (AreEquated objects c.terms (objects_in t)) (sym facts) equated);
}

-- the facts of a settled case give each flag one value
pub flags_agree : (objects : List Sum) (c : Case) (s : PathState) → IsSettled objects c s → AgreeOnFlags c.facts
flags_agree objects c s h j k x b d e f =
    let longer : (n : ℕ) (g : Fact) → slice_get c.facts n ≡ Some g → slice_get (facts_in (name_in objects) s) n ≡ Some g = λ n g i.
    ap (λ l. slice_get l n) h.adds.is ∙ get_append c.facts (map equation_fact h.adds.pairs) n g i in
    one (h.flags (suc j) x b (longer j (flag_fact x b) e)) (h.flags (suc k) x d (longer k (flag_fact x d) f))
  where
    one : HasValue s.flags x b → HasValue s.flags x d → b ≡ d
    one (g, i, p) (q, r, w) = let same : g ≡ q = (let z : Some g ≡ Some q = sym i ∙ r in cc) in sym p ∙ ap (λ y. y.value) same ∙ w
