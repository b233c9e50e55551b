use Rattle.std.proofs.Common.{◌+◌, All, drop, length, subst, sym}
use Rattle.std.proofs.lemmas.List.Elements.{All-nil}
use Rattle.lq_generate_fresh.specs.Fresh.Patterns.{IsPattern}
use Rattle.lq_generate_fresh.specs.Fresh.Views.{scopes_of}
use Rattle.lq_refined_templates.specs.Programs.PointView.{point_view, points_view}
use Rattle.lq_types_table.specs.Whole.{types_of}
use Rattle.lq_generate_fresh.specs.Fresh.There.{IsThere}
use Rattle.lq_generate_fresh.specs.Fresh.Wanted.{Rows}
use Rattle.lq_generate_fresh.proofs.FreshLemmas.Following.{none_left, point_kept, points_begin, points_made, points_next, points_types, rest_of, PointsDone}
use Rattle.lq_generate_fresh.proofs.fresh.points.all_rows.Goals as goal

pub loop-point-init : goal.loop-point-init
loop-point-init c =
    let D = c.args.given.now.datatypes.now in
    let old = c.args.templates.now in
    let types = types_of c.args.given.now.types.now in
    let all = points_view (scopes_of old) types c.args.points.now in
    record {
      done = subst (λ (rows : Rows). PointsDone D old old rows all all) (sym c.new-made.ensures.items) (points_begin D old all);
      patterns = subst (All (IsPattern D types old)) (sym c.in_ok-patterns.ensures) (All-nil (IsPattern D types old));
    }

pub loop-point-preserved : goal.loop-point-preserved
loop-point-preserved c =
    let old = c.args.templates.now in
    let mid = c.loop-point.templates in
    let scopes = scopes_of old in
    let types = types_of c.args.given.now.types.now in
    let view = point_view scopes types in
    let points = c.args.points.now in
    let i = c.loop-point.point-index in
    let point = c.point-item.result in
    let there = subst (IsThere (length scopes) (length types)) (sym c.point-item.is) (c.requires.points_there i point c.loop-point-test.true) in
    record {
      done = points_next c.args.given.now.datatypes.now old mid c.rows_of.new.templates c.loop-point.made.items c.push.new.self.items
          c.in_ok-rows.rows (points_view scopes types points) (points_view scopes types (drop i points))
          (points_view scopes types (drop (i + 1) points)) (view point) (point_view (scopes_of mid) types point) c.loop-point.invariant.done
          (rest_of scopes types points i point c.loop-point-test.true c.point-item.is)
          (point_kept scopes (scopes_of mid) types (length types) point c.loop-point.invariant.done.grown.scopes there)
          c.in_ok-rows.ensures.templates c.in_ok-push.ensures.items;
      patterns = c.in_ok-rows.ensures.patterns;
    }

pub returns-clause-refined : goal.returns-clause-refined
returns-clause-refined c =
    let scopes = scopes_of c.args.templates.now in
    let types = types_of c.args.given.now.types.now in
    let points = c.args.points.now in
    let i = c.loop-point.point-index in
    points_types c.args.given.now.datatypes.now c.args.templates.now c.loop-point.templates c.loop-point.made.items (points_view scopes types points)
    (points_view scopes types (drop i points)) c.loop-point.invariant.done (none_left scopes types points i c.loop-point-test.false)

pub returns-clause-made : goal.returns-clause-made
returns-clause-made c =
    let scopes = scopes_of c.args.templates.now in
    let types = types_of c.args.given.now.types.now in
    let points = c.args.points.now in
    let i = c.loop-point.point-index in
    points_made c.args.given.now.datatypes.now c.args.templates.now c.loop-point.templates c.loop-point.made.items (points_view scopes types points)
    (points_view scopes types (drop i points)) c.loop-point.invariant.done (none_left scopes types points i c.loop-point-test.false)
