use Rattle.std.proofs.Common.{List, ℕ, length, refl, subst, sym}
use Rattle.lq_generate_fresh.specs.Fresh.Views.{scopes_of, unknowns_of}
use Rattle.lq_generate_fresh.specs.Fresh.Walking.{AreTemplates}
use Rattle.lq_refined_templates.specs.Programs.PointView.{point_view}
use Rattle.lq_refined_templates.specs.declared.programs.point.Point.{Point}
use Rattle.lq_types_table.specs.Heads.{each}
use Rattle.lq_types_table.specs.Nodes as types
use Rattle.lq_types_table.specs.Whole.{types_of}
use Rattle.lq_generate_fresh.specs.Fresh.Wanted.{all_plain_wanted, point_wanted}
use Rattle.lq_generate_fresh.proofs.FreshLemmas.Copying.{patterns_kept}
use Rattle.lq_generate_fresh.proofs.fresh.points.rows_of.Goals as goal

pub returns-in_ok-rows-in-Idle-clause-templates : goal.returns-in_ok-rows-in-Idle-clause-templates
returns-in_ok-rows-in-Idle-clause-templates c =
    let D = c.args.given.now.datatypes.now in
    let old = c.args.templates.now in
    let new = c.each_plain.new.templates in
    let all = types_of c.args.given.now.types.now in
    let rows = c.in_ok-rows-in-Idle.rows.items in
    subst (λ (q : Point). AreTemplates D old new rows (point_wanted (length (unknowns_of old)) (point_view (scopes_of old) all q))) (sym c.in-Idle.is)
    (subst (λ (ts : List ℕ). AreTemplates D old new rows (all_plain_wanted (each (types.at all) ts))) c.as_slice.ensures.value
    c.in_ok-rows-in-Idle.ensures)

pub returns-in_ok-rows-in-Inner-clause-patterns : goal.returns-in_ok-rows-in-Inner-clause-patterns
returns-in_ok-rows-in-Inner-clause-patterns c =
    let ps = c.args.patterns.now in
    patterns_kept c.args.given.now.datatypes.now (types_of c.args.given.now.types.now) c.args.templates.now c.inner.new.templates ps ps
    c.in_ok-rows-in-Inner.ensures.grown refl c.requires.patterns

pub returns-in_ok-rows-in-Constant-clause-patterns : goal.returns-in_ok-rows-in-Constant-clause-patterns
returns-in_ok-rows-in-Constant-clause-patterns c =
    let ps = c.args.patterns.now in
    patterns_kept c.args.given.now.datatypes.now (types_of c.args.given.now.types.now) c.args.templates.now c.fieldless.new.templates ps ps
    c.in_ok-rows-in-Constant.ensures.grown refl c.requires.patterns

pub returns-in_ok-rows-in-Empty-clause-patterns : goal.returns-in_ok-rows-in-Empty-clause-patterns
returns-in_ok-rows-in-Empty-clause-patterns c =
    let ps = c.args.patterns.now in
    patterns_kept c.args.given.now.datatypes.now (types_of c.args.given.now.types.now) c.args.templates.now c.absent.new.templates ps ps
    c.in_ok-rows-in-Empty.ensures.grown refl c.requires.patterns

pub returns-in_ok-rows-in-Idle-clause-patterns : goal.returns-in_ok-rows-in-Idle-clause-patterns
returns-in_ok-rows-in-Idle-clause-patterns c =
    let ps = c.args.patterns.now in
    patterns_kept c.args.given.now.datatypes.now (types_of c.args.given.now.types.now) c.args.templates.now c.each_plain.new.templates ps ps
    c.in_ok-rows-in-Idle.ensures.grown refl c.requires.patterns
