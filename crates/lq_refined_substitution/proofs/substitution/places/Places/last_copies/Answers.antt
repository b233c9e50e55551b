use Rattle.std.proofs.Common.{◌≡◌, ◌<◌, Some, slice_get, subst, arith}
use Rattle.lq_refined_substitution.specs.declared.substitution.places.Copies.{Copies}
use Rattle.lq_refined_substitution.proofs.SubstitutionLemmas.Placing.{last-found}
use Rattle.lq_refined_substitution.proofs.substitution.places.Places.last_copies.Goals as goal

pub returns : goal.returns
returns c =
    let h = c.loop-low.invariant in
    let o = h.ordered in
    let w = h.within in
    let e = c.loop-low-test.false in
    last-found c.as_slice-copies.result.now c.args.self.now.copies.items c.loop-low.low c.args.unknown _ c.as_slice-copies.ensures.value
    c.if-low-eq0.false (omega (arith, o, e, w)) h.early (subst (λ i. (d : Copies) → slice_get c.as_slice-copies.result.now i ≡ Some d → c.args.unknown < d.first) (omega (arith, o, e)) h.late)
