use Rattle.std.proofs.Common.{◌≡◌, ◌+◌, suc, [], ◌∷◌, ◌++◌, refl, ap, ◌∙◌, arith}
use Rattle.lq_types_rules.specs.Equations.Templates.{upto}
use Rattle.lq_types_rules.proofs.EquationsLemmas.Opening.{upto_more}
use Rattle.lq_types_rules.proofs.equations.template.numbers.Goals as goal

pub loop-at-preserved : goal.loop-at-preserved
loop-at-preserved c =
    c.in_ok-push.ensures.items ∙ ap (λ l. l ++ (c.args.first + c.loop-at.at) ∷ []) c.loop-at.invariant ∙ upto_more c.loop-at.at c.args.first (c.args.first + c.loop-at.at) refl
    ∙ ap (upto c.args.first) (let e : suc c.loop-at.at ≡ c.loop-at.at + 1 = omega arith in e)

pub returns : goal.returns
returns c = c.loop-at.invariant ∙ ap (upto c.args.first) (let b = c.loop-at-test.false in let d = c.loop-at.auto.at-end in omega arith)
