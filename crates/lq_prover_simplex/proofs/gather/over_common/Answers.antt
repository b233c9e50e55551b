use Rattle.std.proofs.Common.{◌≡◌, ◌∙◌, ◌≤◌, ◌*ℤ◌, ◌/◌, ◌++◌, ◌∷◌, [], sym, ap, ap₂, subst, rules, arith, take, List, pos, FitsSigned, to_z, of_z}
use Rattle.std.proofs.Math.IntN.{nat_abs}
use Rattle.std.proofs.Math.Nat.{div-le_self}
use Rattle.std.specs.Int.{w128}
use Rattle.std.proofs.lemmas.Int.{to_z-of_z, to_z_pos}
use Rattle.std.proofs.lemmas.List.{take_more}
use Rattle.lq_base_numbers.specs.Fractions.Value.{numer_of, denom_of}
use Rattle.lq_prover_simplex.specs.declared.line.Entry.{Entry}
use Rattle.lq_prover_simplex.specs.declared.whole.Part.{Part}
use Rattle.lq_prover_simplex.specs.WholeLines.{entries_of}
use Rattle.lq_prover_simplex.proofs.Values.{there}
use Rattle.lq_prover_simplex.proofs.Numerators.{divide_at, over_is, gathered_push}
use Rattle.lq_prover_simplex.proofs.gather.over_common.Goals as goal

pub loop-entry-preserved : goal.loop-entry-preserved
loop-entry-preserved c = λ positive small.
    let es = c.args.entries.now in let i = c.loop-entry.entry-index in let e : Entry = c.entry-item.result in let d = c.args.denominator in
    let fits : FitsSigned w128 c.denom.result = search rules in
    let den : nat_abs (to_z w128 (of_z w128 c.denom.result)) ≡ denom_of e.factor = ap nat_abs (to_z-of_z w128 c.denom.result fits ∙ c.denom.ensures.denom) in
    let n = c.in-Some.numerator in let q = d / denom_of e.factor in
    let t = c.in-Some.ensures in
    let less : q ≤ d = div-le_self d (denom_of e.factor) in
    let times : to_z w128 (d / nat_abs (to_z w128 (of_z w128 c.denom.result))) ≡ pos q = ap (λ k. to_z w128 (d / k)) den ∙ to_z_pos w128 q (omega arith) in
    let numer_fits : FitsSigned w128 c.numer.result = search rules in
    let is : to_z w128 (of_z w128 n) ≡ numer_of e.factor *ℤ pos q =
    to_z-of_z w128 n (subst (λ z. FitsSigned w128 z) (sym t.1) t.0) ∙ t.1
    ∙ ap₂ (λ x y. x *ℤ y) (to_z-of_z w128 c.numer.result numer_fits ∙ c.numer.ensures.numer) times in
    let divides = divide_at es i e d c.requires.multiple (there es i e c.loop-entry-test.true c.entry-item.is) in
    ap (λ (ps : List Part). entries_of ps d positive small) c.in_ok-push.ensures.items
    ∙ gathered_push c.loop-entry.parts.items (take i es) e (to_z w128 (of_z w128 n)) d positive small (c.loop-entry.invariant positive small)
    (over_is e.factor (to_z w128 (of_z w128 n)) d divides positive is)
    ∙ sym (take_more es i e c.loop-entry-test.true ∙ ap (λ (x : Entry). take i es ++ x ∷ []) (sym c.entry-item.is))
