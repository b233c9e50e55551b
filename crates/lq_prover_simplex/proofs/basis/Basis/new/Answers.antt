use Rattle.std.proofs.Common.{◌≡◌, subst, arith}
use Rattle.lq_prover_simplex.specs.Systems.{IsSystem}
use Rattle.lq_prover_simplex.proofs.Forms.{start_step, start_system}
use Rattle.lq_prover_simplex.proofs.basis.Basis.new.Goals as goal

pub loop-term-preserved : goal.loop-term-preserved
loop-term-preserved c =
    rw (c.in_ok-extend.ensures.forms, c.in_ok-extend.ensures.lines, c.in_ok-extend.ensures.values)
    (start_step c.loop-term.term c.loop-term.forms.items c.loop-term.lines.items c.loop-term.values.items c.in_ok-form.form c.in_ok-line.line c.whole.result c.loop-term.invariant
    c.in_ok-form.ensures c.in_ok-line.ensures c.whole.ensures.value)

pub invariant_of-result : goal.invariant_of-result
invariant_of-result c =
    let e : c.loop-term.term ≡ c.args.terms = (let f = c.loop-term-test.false in let g = c.loop-term.auto.term-end in omega arith) in
    subst (λ n. IsSystem (record { terms = n; forms = c.loop-term.forms.items; lines = c.loop-term.lines.items; values = c.loop-term.values.items })) e
    (start_system c.loop-term.term c.loop-term.forms.items c.loop-term.lines.items c.loop-term.values.items c.loop-term.invariant)

pub returns-clause-zero : goal.returns-clause-zero
returns-clause-zero c = c.loop-term.invariant.value
