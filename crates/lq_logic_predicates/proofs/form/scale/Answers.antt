use Rattle.std.proofs.Common.{◌≡◌, ◌*ℤ◌, ◌∙◌, ap, sym, subst, Some, FitsSigned, rules, to_z, of_z}
use Rattle.std.proofs.lemmas.Int.{to_z-of_z}
use Rattle.std.specs.Int.{w128}
use Rattle.lq_logic_predicates.proofs.Merging.{scale_step, fit_step, put_plain, Changes}
use Rattle.lq_logic_predicates.proofs.form.scale.Goals as goal

pub loop-term-preserved : goal.loop-term-preserved
loop-term-preserved c =
    let coefficient_fits : FitsSigned w128 c.in-Some.coefficient = search rules in
    let is : c.in-Some-checked_mul.product ≡ to_z w128 (of_z w128 c.args.n) *ℤ c.in-Some.coefficient = (c.in-Some-checked_mul.ensures).1 ∙ ap (λ x. to_z w128 (of_z w128 c.args.n) *ℤ x) (to_z-of_z w128 c.in-Some.coefficient coefficient_fits) in
    let fits : FitsSigned w128 c.in-Some-checked_mul.product = subst (FitsSigned w128) (sym (c.in-Some-checked_mul.ensures).1) (c.in-Some-checked_mul.ensures).0 in
    let put : Changes c.loop-term.into c.insert.new.self c.in-Some.term (Some c.in-Some-checked_mul.product) = put_plain c.loop-term.into c.insert.new.self c.in-Some.term c.in-Some-checked_mul.product fits (c.in_ok-insert.ensures.updates).0 in
    record {
      fit = fit_step c.loop-term.into c.insert.new.self c.in-Some.term c.in-Some-checked_mul.product put fits c.loop-term.invariant.fit;
      so_far = scale_step (to_z w128 (of_z w128 c.args.n)) c.args.from c.loop-term.from c.loop-term.into c.pop_first.new.self c.insert.new.self c.in-Some.term c.in-Some.coefficient c.in-Some-checked_mul.product
          c.in-Some.ensures.value (c.in-Some.ensures.updates).0 put is c.loop-term.invariant.so_far;
    }
