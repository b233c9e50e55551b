-- What is left of a value where variables are left out.
use Rattle.std.proofs.Common.{◌≡◌, ℕ, Bool, true, false, ◌==◌, if◌then◌else◌, List, [], ◌∷◌, Option, Some, None, refl, sym, ap, ◌∙◌}
use Rattle.std.specs.List.{list_any}
use Rattle.std.proofs.lemmas.Bool.{eqb-true}
use Rattle.lq_meaning_steps.specs.Model.Core.{Value, Pairs, value_in, without}

-- what is left of a value where the variable is among those that are left out
abbrev pub unless : Bool → Option Value → Option Value
unless b o = if b then None else o

pub value_in-without : (xs : List ℕ) (ps : Pairs) (k : ℕ) → value_in (without xs ps) k ≡ unless (list_any (λ x. x == k) xs) (value_in ps k)
value_in-without xs [] k = nothing (list_any (λ x. x == k) xs)
  where
    nothing : (b : Bool) → None ≡ unless b None
    nothing true = refl
    nothing false = refl
value_in-without xs (p ∷ ps) k = by (list_any (λ x. x == p.0) xs) (p.0 == k) refl refl (value_in-without xs ps k)
  where
    by : (out here : Bool) → list_any (λ x. x == p.0) xs ≡ out → (p.0 == k) ≡ here → value_in (without xs ps) k ≡ unless (list_any (λ x. x == k) xs) (value_in ps k)
        → value_in (if out then without xs ps else p ∷ without xs ps) k ≡ unless (list_any (λ x. x == k) xs) (if here then Some p.1 else value_in ps k)
    by true true o h rest =
        let e : p.0 ≡ k = eqb-true p.0 k h in
        let out : list_any (λ x. x == k) xs ≡ true = sym (ap (λ j. list_any (λ x. x == j) xs) e) ∙ o in
        rest ∙ ap (λ b. unless b (value_in ps k)) out ∙ sym (ap (λ b. unless b (Some p.1)) out)
    by true false o h rest = rest
    by false true o h rest =
        let e : p.0 ≡ k = eqb-true p.0 k h in
        let out : list_any (λ x. x == k) xs ≡ false = sym (ap (λ j. list_any (λ x. x == j) xs) e) ∙ o in
        ap (λ b. if b then Some p.1 else value_in (without xs ps) k) h ∙ sym (ap (λ b. unless b (Some p.1)) out)
    by false false o h rest = ap (λ b. if b then Some p.1 else value_in (without xs ps) k) h ∙ rest
