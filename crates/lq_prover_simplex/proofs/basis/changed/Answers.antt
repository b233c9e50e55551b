use Rattle.std.proofs.Common.{◌≡◌, sym, subst, arith, [], List}
use Rattle.lq_prover_simplex.specs.declared.line.Entry.{Entry}
use Rattle.lq_prover_simplex.specs.Systems.{line_at, IsChange}
use Rattle.lq_prover_simplex.proofs.Systems.{added_step, added_all}
use Rattle.lq_prover_simplex.proofs.Values.{element}
use Rattle.lq_prover_simplex.proofs.basis.changed.Goals as goal

pub loop-line-preserved : goal.loop-line-preserved
loop-line-preserved c =
    let lines = c.args.lines.now in let i = c.loop-line.line-index in
    let here : c.line-item.result ≡ line_at lines i = sym (element lines i c.line-item.result [] c.loop-line-test.true c.line-item.is) in
    rw c.in_ok-push.ensures.items
    (added_step lines c.args.variable c.args.zero.now c.loop-line.changed.items i c.in_ok-change.field-0 c.loop-line.invariant
    (subst (λ (es : List Entry). IsChange es c.args.variable c.args.zero.now c.in_ok-change.field-0) here c.in_ok-change.ensures.change))

pub returns-clause-added : goal.returns-clause-added
returns-clause-added c =
    let e = c.loop-line-test.false in let f = c.loop-line.auto.line-index-end in
    added_all c.args.lines.now c.args.variable c.args.zero.now c.loop-line.changed.items c.loop-line.line-index c.loop-line.invariant (omega arith)
