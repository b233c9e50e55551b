use Rattle.lq_refined_substitution.specs.Implications.Growing.{Continues-either}
use Rattle.lq_generate_implications.proofs.obligations.implying.demand.Goals as goal

-- there was memory for it or not
pub returns-clause-continues : goal.returns-clause-continues
returns-clause-continues c =
    Continues-either c.push.result c.args.list.now c.push.new.self _ 1 c.push.ensures.added c.push.ensures.counted c.push.ensures.kept c.push.ensures.uncounted
