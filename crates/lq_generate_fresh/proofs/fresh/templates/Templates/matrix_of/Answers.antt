use Rattle.std.proofs.Common.{◌+◌, ◌∷◌, ◌∙◌, [], drop, length, map, sym, ap, subst}
use Rattle.lq_refined_types.specs.Types.Refined as refined
use Rattle.lq_refined_subtyping.specs.Table.Forms.{matrix_view}
use Rattle.lq_generate_fresh.specs.Fresh.Fields.{cells_of_constructors}
use Rattle.lq_generate_fresh.specs.Fresh.Views.{constructor_view, shape_if, unknowns_of}
use Rattle.lq_generate_fresh.specs.declared.fresh.fields.Constructor.{Constructor}
use Rattle.lq_generate_fresh.proofs.FreshLemmas.Loops.{ConstructorsDone, cells_begin, cells_all, constructors_next, none_left, rest_of}
use Rattle.lq_generate_fresh.proofs.fresh.templates.Templates.matrix_of.Goals as goal

pub loop-constructor-init : goal.loop-constructor-init
loop-constructor-init c =
    let old = c.args.self.now in
    let ss = map shape_if c.args.shapes.now in
    let ks = map constructor_view c.args.constructors.now in
    subst (λ (m : refined.Matrix). ConstructorsDone old old m c.args.datatype.0 ss ks ks) (sym c.new-matrix.ensures)
    (cells_begin old [] (λ k. cells_of_constructors k c.args.datatype.0 ss ks))

pub loop-constructor-preserved : goal.loop-constructor-preserved
loop-constructor-preserved c =
    let cs = c.args.constructors.now in
    let ks = map constructor_view cs in
    let i = c.loop-constructor.constructor-index in
    let x = c.constructor-item.result in
    constructors_next c.args.self.now c.loop-constructor.self c.add_fields.new.self (matrix_view c.loop-constructor.matrix)
    (matrix_view c.add_fields.new.matrix) c.args.datatype.0 (map shape_if c.args.shapes.now) ks (drop i ks) (constructor_view x) (drop (i + 1) ks)
    c.loop-constructor.invariant
    (rest_of constructor_view cs i x c.loop-constructor-test.true
    ∙ ap (λ (k : Constructor). constructor_view k ∷ drop (i + 1) ks) (sym c.constructor-item.is))
    c.in_ok-add_fields.ensures.made c.in_ok-add_fields.ensures.matrix

pub returns-clause-matrix : goal.returns-clause-matrix
returns-clause-matrix c =
    let old = c.args.self.now in
    let mid = c.loop-constructor.self in
    let d = c.args.datatype.0 in
    let ss = map shape_if c.args.shapes.now in
    let ks = map constructor_view c.args.constructors.now in
    let i = c.loop-constructor.constructor-index in
    (cells_all old mid [] (matrix_view c.loop-constructor.matrix) (cells_of_constructors (length (unknowns_of old)) d ss ks)
    (λ k. cells_of_constructors k d ss (drop i ks)) c.loop-constructor.invariant
    (ap (cells_of_constructors (length (unknowns_of mid)) d ss) (none_left constructor_view c.args.constructors.now i c.loop-constructor-test.false))).1

pub returns-clause-made : goal.returns-clause-made
returns-clause-made c =
    let old = c.args.self.now in
    let mid = c.loop-constructor.self in
    let d = c.args.datatype.0 in
    let ss = map shape_if c.args.shapes.now in
    let ks = map constructor_view c.args.constructors.now in
    let i = c.loop-constructor.constructor-index in
    (cells_all old mid [] (matrix_view c.loop-constructor.matrix) (cells_of_constructors (length (unknowns_of old)) d ss ks)
    (λ k. cells_of_constructors k d ss (drop i ks)) c.loop-constructor.invariant
    (ap (cells_of_constructors (length (unknowns_of mid)) d ss) (none_left constructor_view c.args.constructors.now i c.loop-constructor-test.false))).0
