use Rattle.std.proofs.Common.{◌≡◌, ◌∙◌, ◌<◌, ◌+◌, ◌*◌, ◌/◌, ◌++◌, ◌∷◌, [], sym, ap, subst, rules, take, FitsSigned, to_z, of_z}
use Rattle.std.proofs.Math.IntN.{nat_abs}
use Rattle.std.proofs.Math.Nat.{mul-pos, pos_of_dvd_of_pos}
use Rattle.std.specs.Int.{w128, IsGcd}
use Rattle.std.proofs.lemmas.Int.{to_z-of_z}
use Rattle.std.proofs.lemmas.List.{take_more}
use Rattle.lq_base_numbers.specs.Rationals.Reduction.{quotient_some}
use Rattle.lq_base_numbers.specs.Fractions.Value.{denom_of}
use Rattle.lq_prover_simplex.specs.declared.line.Entry.{Entry}
use Rattle.lq_prover_simplex.proofs.Numerators.{divide_more, divide_push, both_divide}
use Rattle.lq_prover_simplex.proofs.gather.common_denominator.Goals as goal

pub loop-entry-preserved : goal.loop-entry-preserved
loop-entry-preserved c =
    let es = c.args.entries.now in let i = c.loop-entry.entry-index in let e : Entry = c.entry-item.result in let before = c.loop-entry.invariant in
    let a = c.loop-entry.common in let g = c.gcd-shared.result in let new = c.in_ok-common.common in
    let fits : FitsSigned w128 c.denom-denominator.result = search rules in
    let den : nat_abs (to_z w128 (of_z w128 c.denom-denominator.result)) ≡ denom_of e.factor = ap nat_abs (to_z-of_z w128 c.denom-denominator.result fits ∙ c.denom-denominator.ensures.denom) in
    let gcd : IsGcd a (denom_of e.factor) g = subst (λ k. IsGcd a k g) den c.gcd-shared.ensures in
    let is : new ≡ a * (denom_of e.factor / g) = c.in_ok-common.ensures.value ∙ ap (λ k. a * (k / g)) den in
    let both = both_divide a (denom_of e.factor) g new gcd is in
    let more : take (i + 1) es ≡ take i es ++ e ∷ [] = take_more es i e c.loop-entry-test.true ∙ ap (λ (x : Entry). take i es ++ x ∷ []) (sym c.entry-item.is) in
    rw more (record {
      some = subst (λ k. 0 < k) (sym is) (mul-pos before.some (quotient_some (denom_of e.factor) g e.factor.positive gcd.1));
      small = c.in_ok-common.ensures.small;
      multiple = divide_push (take i es) e new (divide_more (take i es) a new both.0 before.multiple) both.1;
    })

pub nonzero_div-denominator : goal.nonzero_div-denominator
nonzero_div-denominator c = pos_of_dvd_of_pos c.gcd-shared.ensures.0 c.loop-entry.invariant.some
