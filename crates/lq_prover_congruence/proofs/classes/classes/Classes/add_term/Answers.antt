-- A term that is found, or a new one.
use Rattle.std.proofs.Common.{inl, inr, ℕ, List, [], ◌∷◌, ◌++◌, length, refl, sym, ap, ap₂, ◌∙◌, subst}
use Rattle.lq_prover_congruence.specs.Classes.Terms.{find_in}
use Rattle.lq_prover_congruence.specs.Classes.Core.{AllBelow}
use Rattle.lq_prover_congruence.specs.Classes.Standing.{IsExact, core_of, steps_of}
use Rattle.lq_prover_congruence.specs.Classes.Forest.{IsKept}
use Rattle.lq_prover_congruence.specs.declared.classes.steps.Step.{Step}
use Rattle.lq_prover_congruence.specs.declared.classes.steps.Step.TheVariants.{Added}
use Rattle.lq_prover_congruence.proofs.ClassesLemmas.Following.{known-terms}
use Rattle.lq_prover_congruence.proofs.ClassesLemmas.Kept.{either, kept-added}
use Rattle.lq_prover_congruence.proofs.ClassesLemmas.Numbers.{found-term, no-term}
use Rattle.lq_prover_congruence.proofs.classes.classes.Classes.add_term.Goals as goal

pub returns-in-Some-clause-ok : goal.returns-in-Some-clause-ok
returns-in-Some-clause-ok c =
    let s = c.self.inside.state in
    let P : List Step → Type 0 = λ l. IsExact l (core_of s) in
    let exact = subst P c.self.view_is c.self.invariant.standing.exact in
    inl (refl, found-term c.args.self.now (core_of s) (c.args.head, c.args.args.now) c.in-Some.term exact (ap (λ l. find_in s.known (c.args.head, l)) (sym c.in_ok-to_vec.ensures) ∙ sym c.find.ensures ∙ c.in-Some.is))

pub add_new-requires-clause-known : goal.add_new-requires-clause-known
add_new-requires-clause-known c =
    let s = c.self.inside.state in
    let P : ℕ → Type 0 = λ n. AllBelow n c.args.args.now in
    let Q : List ℕ → Type 0 = λ l. AllBelow (length s.known) l in
    subst Q (sym c.in_ok-args.ensures) (subst P (known-terms s c.args.self.now c.self.invariant.standing c.self.view_is) c.requires.known)

pub returns-clause-ok : goal.returns-clause-ok
returns-clause-ok c =
    let s = c.self.inside.state in
    let P : List Step → Type 0 = λ l. IsExact l (core_of s) in
    let exact = subst P c.self.view_is c.self.invariant.standing.exact in
    inr (
      c.in_ok-add_new.ensures.ok ∙ ap₂ (λ ss xs. ss ++ Added c.args.head xs ∷ []) c.self.view_is c.in_ok-args.ensures,
      c.len-term.ensures,
      no-term c.args.self.now (core_of s) (c.args.head, c.args.args.now) exact (ap (λ l. find_in s.known (c.args.head, l)) (sym c.in_ok-to_vec.ensures) ∙ sym c.find.ensures ∙ c.in_default.is),
    )

pub invariant_of-self-2 : goal.invariant_of-self-2
invariant_of-self-2 c =
    let s = c.self.inside.state in
    let f = c.self.inside.forest in
    let steps = steps_of s.trail.items in
    let exact = c.self.invariant.standing.exact in
    let none = no-term steps (core_of s) (c.args.head, c.args.args.now) exact (ap (λ l. find_in s.known (c.args.head, l)) (sym c.in_ok-to_vec.ensures) ∙ sym c.find.ensures ∙ c.in_default.is) in
    let P : List Step → Type 0 = λ ss. IsKept ss f in
    record {
      standing = c.add_new.ensures.standing;
      kept = either c.add_new.result _ _ _ c.add_new.ensures.ok c.add_new.ensures.err
          (λ e. subst P (sym (e ∙ ap (λ xs. steps ++ Added c.args.head xs ∷ []) c.in_ok-args.ensures)) (kept-added steps c.args.head c.args.args.now (core_of s) f exact none c.self.invariant.kept))
          (λ e. subst P (sym e) c.self.invariant.kept);
    }
