use Rattle.std.proofs.Common.{◌≡◌, rules, sym, subst, Err}
use Rattle.lq_base_numbers.specs.Fractions.Value.{value_of}
use Rattle.lq_prover_simplex.specs.declared.error.TableauError.TheVariants.{Past}
use Rattle.lq_prover_simplex.specs.Operations.{IsJoining, IsLineSum}
use Rattle.lq_prover_simplex.proofs.Operations.{stops_past, past_among, joining_in_lines}
use Rattle.lq_prover_simplex.proofs.Merging.{Merged, merge_step, merge_falls, merge_start}
use Rattle.lq_prover_simplex.proofs.fractions.fraction_sum.Goals as goal

pub loop-i-init : goal.loop-i-init
loop-i-init c = subst (λ es. Merged c.args.left.now c.args.right.now (value_of c.args.times.now) 0 0 es) (sym c.new-entries.ensures.items) (merge_start c.args.left.now c.args.right.now (value_of c.args.times.now))

pub loop-i-preserved : goal.loop-i-preserved
loop-i-preserved c =
    merge_step c.args.left.now c.args.right.now (value_of c.args.times.now) c.loop-i.i c.loop-i.j c.least-variable.result c.head-first.result.next c.head-second.result.next
    c.loop-i.entries.items c.put.new.entries.items c.head-first.result.factor c.head-second.result.factor c.in_ok-factor.factor c.loop-i.invariant c.requires.left c.requires.right
    c.least-variable.ensures.one c.least-variable.ensures.left c.least-variable.ensures.right c.head-first.ensures c.head-second.ensures c.in_ok-factor.ensures.exact c.in_ok-put.ensures

pub loop-i-smaller : goal.loop-i-smaller
loop-i-smaller c =
    merge_falls c.args.left.now c.args.right.now (value_of c.args.times.now) c.loop-i.i c.loop-i.j c.least-variable.result c.head-first.result.next c.head-second.result.next
    c.loop-i.entries.items c.head-first.result.factor c.head-second.result.factor c.loop-i.invariant c.least-variable.ensures.one c.head-first.ensures c.head-second.ensures

pub returns-in_err-factor-clause-stop : goal.returns-in_err-factor-clause-stop
returns-in_err-factor-clause-stop c =
    let left = c.args.left.now in let right = c.args.right.now in let times = value_of c.args.times.now in
    let first = c.head-first.result in let second = c.head-second.result in
    let Is = IsLineSum left times right in
    let e = c.in_err-factor.field-0.0 in
    let was : c.from_residual.result ≡ Err (Past e) = search rules in
    stops_past Is c.from_residual.result e was
    (past_among (IsJoining first.factor times second.factor) Is e
    (joining_in_lines left right times c.loop-i.i c.loop-i.j first.next second.next c.least-variable.result first.factor second.factor c.head-first.ensures c.head-second.ensures)
    c.in_err-factor.ensures.stop)
