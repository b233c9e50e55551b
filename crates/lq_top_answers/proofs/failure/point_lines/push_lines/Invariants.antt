use Rattle.lq_logic_text.specs.Views.{calling_view}
use Rattle.lq_logic_points.specs.Values.{point_of_values}
use Rattle.lq_top_answers.specs.Failure.Adding.{ShowsFirst}
use Rattle.lq_top_answers.specs.Failure.Collected.{valued_views}
use Rattle.lq_top_answers.proofs.failure.point_lines.push_lines.Given as goal

abbrev pub invariant-loop-at : goal.invariant-loop-at
invariant-loop-at l = ShowsFirst (calling_view l.calling) (point_of_values l.values) (valued_views l.seen.keys) l.at l.initial.line.items l.line.items l.classes.keys
