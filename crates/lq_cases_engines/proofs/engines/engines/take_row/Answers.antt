use Rattle.std.proofs.Common.{subst, sym}
use Rattle.lq_cases_engines.specs.Engines.Rows.{AreByPlace}
use Rattle.lq_cases_engines.proofs.EnginesLemmas.Behind.{placed_next}
use Rattle.lq_cases_engines.proofs.engines.engines.take_row.Goals as goal

pub returns-in-Ok-clause-placed : goal.returns-in-Ok-clause-placed
returns-in-Ok-clause-placed g c =
    subst AreByPlace (sym c.in-Ok.ensures.stands)
    (placed_next (g.E.LinearEngine.standing c.args.engine.now) c.mark-tag.result.0 c.args.row.now c.mark-tag.ensures c.requires.placed)
