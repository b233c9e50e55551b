use Rattle.std.proofs.Common.{drop}
use Rattle.lq_generate_fresh.specs.Fresh.Patterns.{ArePatterns}
use Rattle.lq_generate_fresh.specs.Fresh.Views.{scopes_of}
use Rattle.lq_refined_templates.specs.Programs.PointView.{points_view}
use Rattle.lq_types_table.specs.Whole.{types_of}
use Rattle.lq_generate_fresh.proofs.FreshLemmas.Following.{PointsDone}
use Rattle.lq_generate_fresh.proofs.fresh.points.all_rows.Given as goal

abbrev pub invariant-loop-point : goal.invariant-loop-point
invariant-loop-point l =
    let view = points_view (scopes_of l.fn.templates) (types_of l.given.types.now) in
    record {
      done : PointsDone l.given.datatypes.now l.fn.templates l.templates l.made.items (view l.points) (view (drop l.point-index l.points));
      patterns : ArePatterns l.given.datatypes.now (types_of l.given.types.now) l.templates l.patterns;
    }
