use Rattle.std.proofs.Common.{◌+◌, drop, get_or, length, map, None, ap}
use Rattle.lq_refined_subtyping.specs.Table.Forms.{matrix_view}
use Rattle.lq_generate_fresh.specs.Fresh.Fields.{cells_of_parameters}
use Rattle.lq_generate_fresh.specs.Fresh.Growing.{scope_kept, scope_there}
use Rattle.lq_generate_fresh.specs.Fresh.Views.{scope_at, scopes_of, shape_if, unknowns_of}
use Rattle.lq_generate_fresh.proofs.FreshLemmas.Loops.{cells_begin, cells_all, none_left, parameters_next, rest_of}
use Rattle.lq_generate_fresh.proofs.fresh.templates.Templates.add_parameters.Goals as goal

pub loop-at-init : goal.loop-at-init
loop-at-init c =
    cells_begin c.args.self.now (matrix_view c.args.matrix.now)
    (λ k. cells_of_parameters k (scope_at c.args.self.now c.args.scope) c.args.constructor.0 c.args.field 0 (map shape_if c.args.shapes.now))

pub add_cell-requires : goal.add_cell-requires
add_cell-requires c =
    scope_there (scopes_of c.args.self.now) (scopes_of c.loop-at.self) c.args.scope c.loop-at.invariant.made.scopes c.requires

pub loop-at-preserved : goal.loop-at-preserved
loop-at-preserved c =
    let old = c.args.self.now in
    let mid = c.loop-at.self in
    let shapes = c.args.shapes.now in
    let ss = map shape_if shapes in
    let i = c.loop-at.at in
    parameters_next old mid c.add_cell.new.self (matrix_view c.args.matrix.now) (matrix_view c.loop-at.matrix) (matrix_view c.add_cell.new.matrix)
    (scope_at old c.args.scope) (scope_at mid c.args.scope) c.args.constructor.0 c.args.field ss i (drop i ss) (shape_if (get_or shapes i None))
    (drop (i + 1) ss) c.loop-at.invariant (rest_of shape_if shapes i None c.loop-at-test.true)
    (scope_kept (scopes_of old) (scopes_of mid) c.args.scope c.loop-at.invariant.made.scopes c.requires)
    c.in_ok-add_cell.ensures.made c.in_ok-add_cell.ensures.matrix

pub returns-clause-matrix : goal.returns-clause-matrix
returns-clause-matrix c =
    let old = c.args.self.now in
    let ss = map shape_if c.args.shapes.now in
    let i = c.loop-at.at in
    let Γ = scope_at old c.args.scope in
    let mid = c.loop-at.self in
    (cells_all old mid (matrix_view c.args.matrix.now) (matrix_view c.loop-at.matrix)
    (cells_of_parameters (length (unknowns_of old)) Γ c.args.constructor.0 c.args.field 0 ss)
    (λ k. cells_of_parameters k Γ c.args.constructor.0 c.args.field i (drop i ss)) c.loop-at.invariant
    (ap (cells_of_parameters (length (unknowns_of mid)) Γ c.args.constructor.0 c.args.field i)
    (none_left shape_if c.args.shapes.now i c.loop-at-test.false))).1

pub returns-clause-made : goal.returns-clause-made
returns-clause-made c =
    let old = c.args.self.now in
    let ss = map shape_if c.args.shapes.now in
    let i = c.loop-at.at in
    let Γ = scope_at old c.args.scope in
    let mid = c.loop-at.self in
    (cells_all old mid (matrix_view c.args.matrix.now) (matrix_view c.loop-at.matrix)
    (cells_of_parameters (length (unknowns_of old)) Γ c.args.constructor.0 c.args.field 0 ss)
    (λ k. cells_of_parameters k Γ c.args.constructor.0 c.args.field i (drop i ss)) c.loop-at.invariant
    (ap (cells_of_parameters (length (unknowns_of mid)) Γ c.args.constructor.0 c.args.field i)
    (none_left shape_if c.args.shapes.now i c.loop-at-test.false))).0
