use Rattle.std.proofs.Common.{ap, ◌∙◌}
use Rattle.lq_top_answers.specs.Failure.Collected.{valued_views}
use Rattle.lq_top_answers.proofs.FailureLemmas.Keys.{views_with}
use Rattle.lq_top_answers.proofs.failure.collecting.add.Goals as goal

pub returns : goal.returns
returns c = ap valued_views c.in_ok-insert.ensures.keys ∙ views_with c.args.seen.now.keys c.args.valued
