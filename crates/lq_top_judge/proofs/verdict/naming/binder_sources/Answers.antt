use Rattle.std.proofs.Common.{map, ap, ◌∙◌, arith}
use Rattle.std.proofs.lemmas.List.{take_all}
use Rattle.lq_logic_text.specs.Views.{source_view}
use Rattle.lq_text_walk.specs.Scoped.Whole.{scoped_view}
use Rattle.lq_top_judge.proofs.VerdictLemmas.Taken.{made_next}
use Rattle.lq_top_judge.proofs.verdict.naming.binder_sources.Goals as goal

pub loop-at-preserved : goal.loop-at-preserved
loop-at-preserved c =
    ap (map source_view) c.in_ok-push.ensures.items
    ∙ made_next source_view (scoped_view c.args.program.now).sources c.loop-at.names.items c.loop-at.at c.source_of.result c.source_of.ensures c.loop-at.invariant

pub returns : goal.returns
returns c = c.loop-at.invariant ∙ take_all c.loop-at.at (scoped_view c.args.program.now).sources (omega arith)
