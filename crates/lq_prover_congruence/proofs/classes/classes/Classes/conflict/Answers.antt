-- Two terms have one label exactly where they are the same.
use Rattle.std.proofs.Common.{◌≡◌, ℕ, List, get_or, sym, ap, ◌∙◌, subst}
use Rattle.lq_prover_congruence.specs.Classes.Steps.{IsDifference, IsSame}
use Rattle.lq_prover_congruence.specs.Classes.Standing.{IsExact, core_of, steps_of}
use Rattle.lq_prover_congruence.specs.declared.classes.steps.Step.{Step}
use Rattle.lq_prover_congruence.proofs.ClassesLemmas.Labels.{same-labels}
use Rattle.lq_prover_congruence.proofs.ClassesLemmas.Clashes.{none-map}
use Rattle.lq_prover_congruence.proofs.classes.classes.Classes.conflict.Goals as goal

pub returns-clause-none : goal.returns-clause-none
returns-clause-none c =
    let s = c.self.inside.state in
    let now = c.args.self.now in
    let P : List Step → Type 0 = λ l. IsExact l (core_of s) in
    let exact = subst P c.self.view_is c.self.invariant.standing.exact in
    let steps : steps_of c.deref.result.now ≡ now = ap steps_of c.deref.ensures.value ∙ c.self.view_is in
    none-map c.first_clash.result
    ((a b : ℕ) → IsDifference (steps_of c.deref.result.now) a b → get_or c.deref-2.result.now a 0 ≡ get_or c.deref-2.result.now b 0 → ⊥)
    ((a b : ℕ) → IsDifference now a b → IsSame now a b → ⊥)
    (λ k a b d e.
    let Q : List Step → Type 0 = λ l. IsDifference l a b in
    let R : List ℕ → Type 0 = λ ls. get_or ls a 0 ≡ get_or ls b 0 in
    k a b (subst Q (sym steps) d) (subst R (sym c.deref-2.ensures.value) (same-labels now (core_of s) exact a b e)))
    c.first_clash.ensures.none
