use Rattle.std.proofs.Common.{◌≡◌, ◌<◌, ◌≤◌, ◌∙◌, length, arith, rules, sym, subst, Some, Err, IfErr}
use mathlib.Core.Bool.{true≢false}
use Rattle.lq_base_numbers.specs.Fractions.Value.{value_of}
use Rattle.lq_prover_simplex.proofs.Resting.{settle_step}
use Rattle.lq_prover_simplex.proofs.Keeping.{below_step, below_free, below_bound, keep_all, value_read}
use Rattle.lq_prover_simplex.specs.Table.{HasWork}
use Rattle.lq_prover_simplex.specs.Bounds.{limit_at}
use Rattle.lq_prover_simplex.proofs.Working.{bringing_work, settled_work}
use Rattle.lq_prover_simplex.proofs.tableau.settle.Goals as goal
use Rattle.lq_prover_simplex.proofs.tableau.settle.Goals.{then-is_free+in-Some+in_ok-shift, then-is_free+in_default, else-is_free}

pub loop-variable-preserved : goal.loop-variable-preserved
loop-variable-preserved c =
    let before = c.loop-variable.invariant in
    let s = c.loop-variable.basis in let k = c.loop-variable.variable in
    let inside : k < length s.forms = (let t = c.loop-variable-test.true in let e = c.loop-variable.auto.variable-end in let n = c.len-variable-end.ensures.count in rw before.forms (omega arith)) in
    elim c.if-is_free.branch [
      | then-is_free+in-Some+in_ok-shift w ↦ rw w.basis-is (record {
        system = w.in_ok-shift.ensures.system;
        terms = w.in_ok-shift.ensures.terms ∙ before.terms;
        forms = w.in_ok-shift.ensures.forms ∙ before.forms;
        settles = settle_step c.args.limits.now c.args.basis.now s w.shift.new.self k
            (value_of c.index-values-variable.result) w.in-Some.broken before.settles w.in-Some.ensures.some.0 w.in-Some.ensures.some.1 w.in_ok-shift.ensures.brought;
        keeps = below_step c.args.limits.now s w.shift.new.self k w.in-Some.broken (value_of c.index-values-variable.result)
            (c.requires k (rw (sym before.forms) inside)) w.in-Some.ensures.some.0 w.in-Some.ensures.some.1 w.in_ok-shift.ensures.brought before.keeps;
      })
      | then-is_free+in_default w ↦ rw w.basis-is (record {
        system = before.system;
        terms = before.terms;
        forms = before.forms;
        settles = before.settles;
        keeps = below_free c.args.limits.now s k (value_of c.index-values-variable.result)
            (value_read s c.values.result.now k c.index-values-variable.result c.values.ensures.system c.values.ensures.values inside c.index-values-variable.is) before.keeps w.in_default.ensures.none;
      })
      | else-is_free w ↦ rw w.basis-is (record {
        system = before.system;
        terms = before.terms;
        forms = before.forms;
        settles = before.settles;
        keeps = below_bound c.args.limits.now s k (λ free. true≢false (sym (c.is_free.ensures.no free) ∙ w.if-is_free.false)) before.keeps;
      })
    ]

pub returns-clause-keeps : goal.returns-clause-keeps
returns-clause-keeps c =
    let before = c.loop-variable.invariant in
    let all : length c.loop-variable.basis.forms ≤ c.loop-variable.variable = (let t = c.loop-variable-test.false in let n = c.len-variable-end.ensures.count in rw before.forms (omega arith)) in
    keep_all c.args.limits.now c.loop-variable.basis c.loop-variable.variable all before.keeps

pub returns-in_err-shift-clause-stop : goal.returns-in_err-shift-clause-stop
returns-in_err-shift-clause-stop c =
    let old = c.args.basis.now in let s = c.loop-variable.basis in let limits = c.args.limits.now in let k = c.loop-variable.variable in
    let before = c.loop-variable.invariant in let broken = c.in-Some.broken in
    let e = c.in_err-shift.field-0.0 in
    let was : c.from_residual.result ≡ Err e = search rules in
    let limit : limit_at limits broken.side k ≡ Some broken.limit =
    subst (λ j. limit_at limits broken.side j ≡ Some broken.limit) c.in-Some.ensures.some.0 c.in-Some.ensures.some.1.limit in
    let free = c.is_free.ensures.yes c.if-is_free.true in
    subst (λ r. IfErr r (HasWork old limits)) (sym was)
    (settled_work old s limits e before.terms before.forms before.settles
    (bringing_work s limits k broken.side broken.limit e before.system free limit c.in_err-shift.ensures.stop))
