-- Two verdicts on what is to be solved agree, unless the prover stopped for one of them.
use Rattle.std.specs.Prelude.{codes}
use Rattle.std.proofs.Common.{◌≡◌, ◌⊎◌, inl, inr, ℕ, ◌<◌, List, [], ◌++◌, Some, slice_get, sym, ap, subst, ◌∙◌}
use Rattle.std.proofs.lemmas.Bool.{cases_order}
use Rattle.lq_top_answers.specs.Failure.Failures.{ExplanationsDifferInValues, FailuresDifferInValues, IsExplained, IsFailure, rejected_lines, sides_text, undecided_lines}
use Rattle.lq_top_answers.specs.Failure.Heads.{line_at}
use Rattle.lq_prover_proof_tree.specs.Literals.Gathered.{CanBeGathered, IsFirstPast}
use Rattle.lq_prover_proof_tree.specs.Literals.Sources.{sources_of}
use Rattle.lq_refined_types.specs.Parts.Assignment.{Assignment}
use Rattle.lq_refined_types.specs.Parts.Constraint.{Constraint, IsFirstFailing}
use Rattle.lq_refined_types.specs.Parts.Flowing.{assigned}
use Rattle.lq_top_pose.specs.Stages.{Typed, constraints_in, implications_in}
use Rattle.lq_logic_predicates.specs.ClosedImplication.{ClosedImplication}
use Rattle.lq_logic_predicates.specs.Formula.{Formula}
use Rattle.lq_logic_predicates.specs.PredView.{formula_of}
use Rattle.lq_logic_predicates.specs.declared.pred.Stop.{Stop}
use Rattle.lq_logic_predicates.specs.declared.pred.Stop.TheVariants.{Number, Gather, Pivots, Memory as MemoryStop}
use Rattle.lq_logic_text.specs.Predicates.{formula_text}
use Rattle.lq_solve_fixpoint.specs.Questions.Assigned.{closed_under}
use Rattle.lq_solve_strongest.specs.Weaken.Gathering.{FirstIsNot, IsFirstUngathered}
use Rattle.lq_solve_strongest.specs.Weaken.Stops.{StopsSolving}
use Rattle.lq_solve_fixpoint.specs.declared.weakening.error.SolveError.TheVariants.{At}
use Rattle.lq_top_judge.specs.Judgement.Agreeing.{DifferAlike, IsOfProver}
use Rattle.lq_top_judge.specs.Verdict.Judgement.{IsAccepted, IsRejected, IsUndecided, instances_of, types_by}
use Rattle.lq_top_judge.specs.Verdict.Names.{called_in}
use Rattle.lq_top_judge.proofs.JudgementLemmas.Selections.{first_past_once, same_assigned}

pub record Laws : Type 0 where
  pub past : (i : ClosedImplication) (p : Formula) → IsFirstPast (sources_of i) p → CanBeGathered i → ⊥
  pub first : FirstIsNot
  pub failures : FailuresDifferInValues
  pub explanations : ExplanationsDifferInValues

some_same : {A : Type 0} {x y : A} → Some x ≡ Some y → x ≡ y
some_same e = cc

module _ (laws : Laws) (t : Typed) where
  -- ---- accepted

  pub accepted_once : (types others : List ℕ) → IsAccepted t types → IsAccepted t others → types ≡ others
  accepted_once types others a b =
      let same = same_assigned (instances_of t) a.solution b.solution (b.strongest.greatest a.solution a.strongest.meets)
      (a.strongest.greatest b.solution b.strongest.meets) in
      a.written ∙ ap (types_by t) same ∙ sym b.written

  pub accepted_or_rejected : (types failure explained : List ℕ) → IsAccepted t types → IsRejected t failure explained → ⊥
  accepted_or_rejected types failure explained a r = r.refutes.none_solves a.solution a.strongest.meets

  -- ---- rejected

  -- not earlier than the first that fails
  not_before : (A : Assignment) (at to : ℕ) → (a : IsFirstFailing A (constraints_in t) at) → IsFirstFailing A (constraints_in t) to → at < to → ⊥
  not_before A at to a b less = a.fails (b.before at a.constraint less a.is a.demand)

  first_once : (A : Assignment) (at to : ℕ) → IsFirstFailing A (constraints_in t) at → IsFirstFailing A (constraints_in t) to → at ≡ to
  first_once A at to a b =
      elim (cases_order at to) [
        | inl same ↦ same
        | inr (inl less) ↦ absurd (not_before A at to a b less)
        | inr (inr more) ↦ absurd (not_before A to at b a more)
      ]

  -- what fails, by its place and as it is closed
  record Failing (at to : ℕ) (i j : ClosedImplication) : Type 0 where
    place : at ≡ to
    closed : i ≡ j

  failing_once : (failure explained other also : List ℕ) (a : IsRejected t failure explained) (b : IsRejected t other also)
      → Failing a.at b.at (closed_under (assigned (instances_of t) a.solution) a.refutes.first.constraint)
      (closed_under (assigned (instances_of t) b.solution) b.refutes.first.constraint)
  failing_once failure explained other also a b =
      let same = same_assigned (instances_of t) a.solution b.solution (b.refutes.flowing.greatest a.solution a.refutes.flowing.meets)
      (a.refutes.flowing.greatest b.solution b.refutes.flowing.meets) in
      let first = subst (λ (A : Assignment). IsFirstFailing A (constraints_in t) a.at) same a.refutes.first in
      let place = first_once (assigned (instances_of t) b.solution) a.at b.at first b.refutes.first in
      let constraint : a.refutes.first.constraint ≡ b.refutes.first.constraint =
      some_same (sym a.refutes.first.is ∙ ap (slice_get (constraints_in t)) place ∙ b.refutes.first.is) in
      record {
        place = place;
        closed = ap (λ A. closed_under A a.refutes.first.constraint) same ∙ ap (closed_under (assigned (instances_of t) b.solution)) constraint;
      }

  pub rejected_once : (failure explained other also : List ℕ) → IsRejected t failure explained → IsRejected t other also
      → DifferAlike failure other × DifferAlike explained also
  rejected_once failure explained other also a b =
      let is = implications_in t in
      let c = called_in t in
      let f = failing_once failure explained other also a b in
      let j = closed_under (assigned (instances_of t) b.solution) b.refutes.first.constraint in
      let fails = subst (λ (k : ℕ). IsFailure c is k j a.point failure) f.place
      (subst (λ (i : ClosedImplication). IsFailure c is a.at i a.point failure) f.closed a.failing) in
      let explains = subst (λ (k : ℕ). IsExplained c is k j a.point explained) f.place
      (subst (λ (i : ClosedImplication). IsExplained c is a.at i a.point explained) f.closed a.explaining) in (
        (rejected_lines is b.at, [], laws.failures c is b.at j a.point b.point failure other fails b.failing),
        (rejected_lines is b.at, sides_text c j, laws.explanations c is b.at j a.point b.point explained also explains b.explaining),
      )

  -- ---- undecided

  pub gathered_or_not : (limit : ℕ) (cause : List ℕ) (u : IsUndecided limit t cause)
      → ((at : ℕ) (p : Formula) → IsFirstUngathered (instances_of t) (constraints_in t) at p → ⊥) → IsOfProver u.stop
  gathered_or_not limit cause u all = by_stop u.stop u.stops
    where
      by_stop : (s : Stop) → StopsSolving limit (instances_of t) (constraints_in t) (At u.at s) → IsOfProver s
      by_stop (Number past) is = tt
      by_stop (Pivots n) is = tt
      by_stop (Gather p) is = absurd (all u.at (formula_of p) is)
      by_stop MemoryStop is = absurd is

  ungathered_before : (at to : ℕ) (p q : Formula) → IsFirstUngathered (instances_of t) (constraints_in t) at p
      → IsFirstUngathered (instances_of t) (constraints_in t) to q → at < to → ⊥
  ungathered_before at to p q a b less = laws.past (closed_under (instances_of t) a.constraint) p a.past (b.before at less a.constraint a.here)

  ungathered_place : (at to : ℕ) (p q : Formula) → IsFirstUngathered (instances_of t) (constraints_in t) at p
      → IsFirstUngathered (instances_of t) (constraints_in t) to q → at ≡ to
  ungathered_place at to p q a b =
      elim (cases_order at to) [
        | inl same ↦ same
        | inr (inl less) ↦ absurd (ungathered_before at to p q a b less)
        | inr (inr more) ↦ absurd (ungathered_before to at q p b a more)
      ]

  ungathered_formula : (at to : ℕ) (p q : Formula) → IsFirstUngathered (instances_of t) (constraints_in t) at p
      → IsFirstUngathered (instances_of t) (constraints_in t) to q → p ≡ q
  ungathered_formula at to p q a b =
      let place = ungathered_place at to p q a b in
      let constraint : a.constraint ≡ b.constraint = some_same (sym a.here ∙ ap (slice_get (constraints_in t)) place ∙ b.here) in
      let past = subst (λ (k : Constraint). IsFirstPast (sources_of (closed_under (instances_of t) k)) p) constraint a.past in
      first_past_once (sources_of (closed_under (instances_of t) b.constraint)) p q past b.past

  -- the texts on these stops of the solver are one, or one of the two is of the prover
  stops_once : (limit at to : ℕ) (s r : Stop) → StopsSolving limit (instances_of t) (constraints_in t) (At at s)
      → StopsSolving limit (instances_of t) (constraints_in t) (At to r)
      → (undecided_lines (called_in t) (implications_in t) at s ≡ undecided_lines (called_in t) (implications_in t) to r) ⊎ (IsOfProver s ⊎ IsOfProver r)
  stops_once limit at to (Number e) r a b = inr (inl tt)
  stops_once limit at to (Pivots n) r a b = inr (inl tt)
  stops_once limit at to (Gather p) (Number e) a b = inr (inr tt)
  stops_once limit at to (Gather p) (Pivots n) a b = inr (inr tt)
  stops_once limit at to (Gather p) MemoryStop a b = absurd b
  stops_once limit at to MemoryStop r a b = absurd a
  stops_once limit at to (Gather p) (Gather q) a b =
      let place = ungathered_place at to (formula_of p) (formula_of q) a b in
      let formula = ungathered_formula at to (formula_of p) (formula_of q) a b in
      inl (ap (λ k. gathered_lines k (formula_of p)) place ∙ ap (gathered_lines to) formula)
    where
      gathered_lines : ℕ → Formula → List ℕ
      gathered_lines k f =
          codes "undecided\n" ++ line_at (implications_in t) k ++ (codes "number past in " ++ formula_text (called_in t) f ++ codes "\n")

  pub undecided_once : (limit : ℕ) (cause other : List ℕ) (a : IsUndecided limit t cause) (b : IsUndecided limit t other)
      → (cause ≡ other) ⊎ (IsOfProver a.stop ⊎ IsOfProver b.stop)
  undecided_once limit cause other a b =
      elim (stops_once limit a.at b.at a.stop b.stop a.stops b.stops) [
        | inl same ↦ inl (a.written ∙ same ∙ sym b.written)
        | inr prover ↦ inr prover
      ]
