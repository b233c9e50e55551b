use Rattle.std.proofs.Common.{codes}
use Rattle.lq_top_words.specs.Sample.Sample.{count_line}
use Rattle.lq_top_words.proofs.SampleLemmas.Joins.{lines_written}
use Rattle.lq_top_words.proofs.sample.counts.push_counts.Goals as goal

pub returns-clause-written : goal.returns-clause-written
returns-clause-written c =
    lines_written c.push_count-4.result c.args.text.now.items (count_line (codes "functions ") c.args.functions) (count_line (codes "unknowns ") c.args.unknowns)
    (count_line (codes "instances ") c.args.instances) (count_line (codes "implications ") c.args.implications)
    _ _ _ _ c.in_ok-push_count.ensures.written c.in_ok-push_count-2.ensures.written c.in_ok-push_count-3.ensures.written c.push_count-4.ensures.written
