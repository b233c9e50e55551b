use Rattle.std.proofs.Common.{◌≡◌, ap, ◌∙◌, sym, subst, pos, unwrap_or, Some, FitsSigned, rules}
use Rattle.std.specs.Int.{w128}
use Rattle.lq_logic_predicates.specs.FormOf.{at, combined}
use Rattle.lq_logic_predicates.proofs.Merging.{merge_step, fit_step, put_plain, plain_result, Changes}
use Rattle.lq_logic_predicates.proofs.form.merge.Goals as goal

pub loop-term-preserved : goal.loop-term-preserved
loop-term-preserved c =
    let old : c.unwrap_or-old.result ≡ at c.loop-term.into c.in-Some.term = c.unwrap_or-old.ensures ∙ ap (λ o. unwrap_or o (pos 0)) (c.copied.ensures ∙ c.get.ensures.value) in
    let old_fits : FitsSigned w128 c.unwrap_or-old.result = subst (FitsSigned w128) (sym old) (c.loop-term.invariant.fit c.in-Some.term) in
    let change_fits : FitsSigned w128 c.in-Some.change = search rules in
    let sum = plain_result c.args.subtract c.unwrap_or-old.result c.in-Some.change c.in-Some-combine.new old_fits change_fits (c.in-Some-combine.ensures).0 (c.in-Some-combine.ensures).1 in
    let put : Changes c.loop-term.into c.insert.new.self c.in-Some.term (Some c.in-Some-combine.new) = put_plain c.loop-term.into c.insert.new.self c.in-Some.term c.in-Some-combine.new sum.0 (c.in_ok-insert.ensures.updates).0 in
    record {
      fit = fit_step c.loop-term.into c.insert.new.self c.in-Some.term c.in-Some-combine.new put sum.0 c.loop-term.invariant.fit;
      so_far = merge_step c.args.subtract c.loop-term.into c.loop-term.other c.insert.new.self c.pop_first.new.self c.in-Some.term c.in-Some.change c.in-Some-combine.new _
          c.in-Some.ensures.value (c.in-Some.ensures.updates).0 put
          (sum.1 ∙ ap (λ x. combined c.args.subtract x c.in-Some.change) old) c.loop-term.invariant.so_far;
    }
