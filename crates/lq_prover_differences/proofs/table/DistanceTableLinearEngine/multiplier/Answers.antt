use Rattle.std.proofs.Common.{◌≡◌, ◌∙◌, sym, ap, subst, refl, ℕ, Bool, List, slice_get, Some, None, IsNone}
use Rattle.std.proofs.lemmas.Option.{slice_get_past, slice_get_read}
use Rattle.lq_base_numbers.specs.Rationals.Rational.{ℚ}
use Rattle.lq_prover_differences.proofs.Rows.{multiplier_some, multiplier_none}
use Rattle.lq_prover_differences.proofs.table.DistanceTableLinearEngine.multiplier.Goals as goal

pub returns-in-None-clause-none : goal.returns-in-None-clause-none
returns-in-None-clause-none c =
    let found : List (ℕ × Bool) = c.self.inside.found.items in
    let past : slice_get c.as_slice.result.now c.args.at ≡ None = slice_get_past c.as_slice.result.now c.args.at c.in-None.ensures.lookup.3 in
    let none : slice_get found c.args.at ≡ None = subst (λ (l : List (ℕ × Bool)). slice_get l c.args.at ≡ None) c.as_slice.ensures.value past in
    rw (← c.self.view_is) (subst IsNone (sym (multiplier_none found c.args.at none)) refl)

pub returns-in-Some-clause-some : goal.returns-in-Some-clause-some
returns-in-Some-clause-some c =
    let found : List (ℕ × Bool) = c.self.inside.found.items in
    let l = c.in-Some.ensures.lookup in
    let some : slice_get c.as_slice.result.now c.args.at ≡ Some c.in-Some.step.now = slice_get_read c.as_slice.result.now _ c.args.at c.in-Some.step.now refl l.3.0 l.1 in
    let here : slice_get found c.args.at ≡ Some c.in-Some.step.now = subst (λ (x : List (ℕ × Bool)). slice_get x c.args.at ≡ Some c.in-Some.step.now) c.as_slice.ensures.value some in
    rw (← c.self.view_is) (multiplier_some found c.args.at c.in-Some.step.now here ∙ ap (λ (q : ℚ). Some (c.in-Some.step.now.0, q)) (sym c.sign.ensures))
