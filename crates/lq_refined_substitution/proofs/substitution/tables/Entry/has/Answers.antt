use Rattle.std.proofs.Common.{◌∙◌, sym}
use Rattle.lq_refined_substitution.proofs.SubstitutionLemmas.Growing.{hidden-in, other-in}
use Rattle.lq_refined_substitution.proofs.substitution.tables.Entry.has.Goals as goal

pub returns-then-is_same_symbol-2 : goal.returns-then-is_same_symbol-2
returns-then-is_same_symbol-2 c =
    hidden-in c.args.self.now c.in_ok-hidden.hidden c.args.symbol c.in_ok-hidden.was
    (sym c.is_same_symbol.ensures ∙ c.if-is_same_symbol.false) (sym c.is_same_symbol-2.ensures ∙ c.if-is_same_symbol-2.true)

pub returns : goal.returns
returns c =
    other-in c.args.self.now c.in_ok-hidden.hidden c.args.symbol c.in_ok-hidden.was
    (sym c.is_same_symbol.ensures ∙ c.if-is_same_symbol.false) (sym c.is_same_symbol-2.ensures ∙ c.if-is_same_symbol-2.false)
