use Rattle.std.proofs.Common.{◌≡◌, ◌∙◌, inl, inr, sym, subst, []}
use Rattle.lq_prover_simplex.specs.Systems.{form_at}
use Rattle.lq_prover_simplex.proofs.Values.{element, last_or_before}
use Rattle.lq_prover_simplex.proofs.Forms.{same_parts, other_parts}
use Rattle.lq_prover_simplex.proofs.basis.find.Goals as goal

pub returns-then-eq-clause-some : goal.returns-then-eq-clause-some
returns-then-eq-clause-some c =
    let forms = c.args.forms.now in let at = c.loop-at.at in (
      c.loop-at-test.true,
      element forms at c.index-forms-at.result [] c.loop-at-test.true c.index-forms-at.is ∙ sym c.parts.ensures
          ∙ same_parts c.parts.result.now c.args.parts.now (sym c.eq.ensures ∙ c.if-eq.true),
    )

pub loop-at-preserved : goal.loop-at-preserved
loop-at-preserved c = λ k h.
    let forms = c.args.forms.now in let at = c.loop-at.at in
    elim (last_or_before k at h) [
      | inl l ↦ c.loop-at.invariant k l
      | inr q ↦ λ e.
          other_parts c.parts.result.now c.args.parts.now (sym c.eq.ensures ∙ c.if-eq.false)
          (c.parts.ensures ∙ sym (element forms at c.index-forms-at.result [] c.loop-at-test.true c.index-forms-at.is) ∙ subst (λ i. form_at forms i ≡ c.args.parts.now) q e)
    ]
