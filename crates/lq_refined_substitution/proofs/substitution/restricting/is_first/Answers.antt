use Rattle.std.proofs.Common.{◌&&◌, not, sym, ap₂, ◌∙◌}
use Rattle.lq_refined_substitution.proofs.SubstitutionLemmas.Growing.{in-reverse}
use Rattle.lq_refined_substitution.proofs.substitution.restricting.is_first.Goals as goal

pub returns-then-has-clause-new : goal.returns-then-has-clause-new
returns-then-has-clause-new c =
    let items = c.args.seen.now.items.items in
    sym (ap₂ (λ a b. a && not b) (sym c.has.ensures ∙ c.if-not-has.false) (in-reverse items c.args.symbol ∙ sym c.has-2.ensures ∙ c.if-has.true))

pub returns-clause-new : goal.returns-clause-new
returns-clause-new c =
    let items = c.args.seen.now.items.items in
    sym (ap₂ (λ a b. a && not b) (sym c.has.ensures ∙ c.if-not-has.false) (in-reverse items c.args.symbol ∙ sym c.has-2.ensures ∙ c.if-has.false))
