use Rattle.std.proofs.Common.{◌∙◌, sym}
use Rattle.lq_solve_strongest.proofs.weaken.refuting.goes.Goals as goal

pub is_refuted-requires-clause-askable : goal.is_refuted-requires-clause-askable
is_refuted-requires-clause-askable c = λ q e. c.requires.askable c.args.at q (sym c.has-is_chosen.ensures ∙ c.if-is_chosen.true) e
