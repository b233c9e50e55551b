use Rattle.std.proofs.Common.{◌≡◌, sym, subst, refl, Some, None, IsNone, slice_get, List, ℕ}
use Rattle.std.proofs.lemmas.Option.{slice_get_past, slice_get_read}
use Rattle.lq_base_numbers.specs.declared.fractions.frac.Frac.{Frac}
use Rattle.lq_prover_simplex.proofs.Tables.{multiplier_get, multiplier_past}
use Rattle.lq_prover_simplex.proofs.tableau.TableauLinearEngine.multiplier.Goals as goal

pub returns-in-Some-clause-some : goal.returns-in-Some-clause-some
returns-in-Some-clause-some c =
    let l = c.in-Some.ensures.lookup in
    let some : slice_get c.as_slice.result.now c.args.at ≡ Some c.in-Some.pair.now = slice_get_read c.as_slice.result.now _ c.args.at c.in-Some.pair.now refl l.3.0 l.1 in
    rw (← c.self.view_is)
    (multiplier_get c.self.inside.found.items c.args.at c.in-Some.pair.now
    (subst (λ (x : List (ℕ × Frac)). slice_get x c.args.at ≡ Some c.in-Some.pair.now) c.as_slice.ensures.value some))

pub returns-in-None-clause-none : goal.returns-in-None-clause-none
returns-in-None-clause-none c =
    let past : slice_get c.as_slice.result.now c.args.at ≡ None = slice_get_past c.as_slice.result.now c.args.at c.in-None.ensures.lookup.3 in
    let none : slice_get c.self.inside.found.items c.args.at ≡ None = subst (λ (x : List (ℕ × Frac)). slice_get x c.args.at ≡ None) c.as_slice.ensures.value past in
    rw (← c.self.view_is) (multiplier_past c.self.inside.found.items c.args.at (subst IsNone (sym none) refl))
