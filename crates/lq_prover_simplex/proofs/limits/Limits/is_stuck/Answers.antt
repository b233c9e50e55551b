use Rattle.std.proofs.Common.{◌≡◌, ◌∙◌, sym, subst, Some}
use Rattle.lq_base_numbers.specs.Fractions.Value.{value_of}
use Rattle.lq_prover_simplex.specs.declared.limits.Limit.{Limit}
use Rattle.lq_prover_simplex.specs.Bounds.{other, Beyond, bound_value}
use Rattle.lq_prover_simplex.proofs.Limiting.{not_false, not_true, beyond_not_within}
use Rattle.lq_prover_simplex.proofs.limits.Limits.is_stuck.Goals as goal

pub returns-in-Some-clause-yes : goal.returns-in-Some-clause-yes
returns-in-Some-clause-yes c = λ h. (c.in-Some.limit, sym c.in-Some.ensures, rw (sym c.opposite.ensures) (c.breaks.ensures.within (not_true c.breaks.result h)))

pub returns-in-Some-clause-no : goal.returns-in-Some-clause-no
returns-in-Some-clause-no c = λ h limit is within.
    let beyond : Beyond (other c.args.side) (value_of c.args.value.now) (bound_value c.in-Some.limit) = rw (sym c.opposite.ensures) (c.breaks.ensures.beyond (not_false c.breaks.result h)) in
    let found : Some c.in-Some.limit ≡ Some limit = c.in-Some.ensures ∙ is in
    let same : c.in-Some.limit ≡ limit = cc in
    beyond_not_within (other c.args.side) (value_of c.args.value.now) (bound_value limit) (subst (λ (l : Limit). Beyond (other c.args.side) (value_of c.args.value.now) (bound_value l)) same beyond) within
