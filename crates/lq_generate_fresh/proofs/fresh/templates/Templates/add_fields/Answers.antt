use Rattle.std.proofs.Common.{◌+◌, ◌≡◌, ◌++◌, ◌∙◌, List, [], subst, ap₂, append-nil, drop, get_or, length, map, sym, ap}
use Rattle.lq_refined_subtyping.specs.Table.Forms.{matrix_view}
use Rattle.lq_refined_templates.specs.Templates.Cells.{Cells}
use Rattle.lq_generate_fresh.specs.Fresh.Fields.{any_again, cells_of_fields, scope_of_fields}
use Rattle.lq_generate_fresh.specs.Fresh.Growing.{made_nothing, scope_kept, scope_there}
use Rattle.lq_generate_fresh.specs.Fresh.Views.{field_view, scope_at, scopes_of, shape_if, unknowns_of, IsMade}
use Rattle.lq_generate_fresh.specs.declared.fresh.fields.Field.{Field}
use Rattle.lq_generate_fresh.specs.declared.fresh.fields.Field.TheVariants.{Again}
use Rattle.lq_generate_fresh.proofs.FreshLemmas.Loops.{length_map, cells_after, cells_all, fields_next, none_left, rest_of}
use Rattle.lq_generate_fresh.proofs.FreshLemmas.Cells.{none_again}
use Rattle.lq_generate_fresh.proofs.fresh.templates.Templates.add_fields.Goals as goal

pub loop-at-init : goal.loop-at-init
loop-at-init c =
    let old = c.args.self.now in
    let xs = map field_view c.as_slice-fields.result.now in
    let ss = map shape_if c.args.shapes.now in
    let Γ = scope_of_fields c.args.datatype.0 ss 0 xs [] in
    record {
      done = cells_after old c.scope_of_fields.new.self (matrix_view c.args.matrix.now) (λ k. cells_of_fields k Γ c.args.constructor.now.name.0 ss 0 xs)
          c.in_ok-scope.ensures.made;
      scope = c.in_ok-scope.ensures.scope;
      there = c.in_ok-scope.ensures.there;
    }

pub add_field-requires : goal.add_field-requires
add_field-requires c = c.loop-at.invariant.there

pub loop-at-preserved : goal.loop-at-preserved
loop-at-preserved c =
    let fields = c.as_slice-fields.result.now in
    let xs = map field_view fields in
    let ss = map shape_if c.args.shapes.now in
    let Γ = scope_of_fields c.args.datatype.0 ss 0 xs [] in
    let mid = c.loop-at.self in
    let new = c.add_field.new.self in
    let s = c.in_ok-scope.scope in
    let i = c.loop-at.at in
    let x = Again 0 in
    record {
      done = fields_next c.args.self.now mid new (matrix_view c.args.matrix.now) (matrix_view c.loop-at.matrix) (matrix_view c.add_field.new.matrix) Γ
          (scope_at mid s) c.args.constructor.now.name.0 ss xs i (drop i xs) (field_view (get_or fields i x)) (drop (i + 1) xs) c.loop-at.invariant.done
          (rest_of field_view fields i x c.loop-at-test.true) c.loop-at.invariant.scope c.in_ok-add_field.ensures.made c.in_ok-add_field.ensures.matrix;
      scope = scope_kept (scopes_of mid) (scopes_of new) s c.in_ok-add_field.ensures.made.scopes c.loop-at.invariant.there ∙ c.loop-at.invariant.scope;
      there = scope_there (scopes_of mid) (scopes_of new) s c.in_ok-add_field.ensures.made.scopes c.loop-at.invariant.there;
    }

pub returns-clause-matrix : goal.returns-clause-matrix
returns-clause-matrix c =
    let old = c.args.self.now in
    let mid = c.loop-at.self in
    let fields = c.as_slice-fields.result.now in
    let xs = map field_view fields in
    let ss = map shape_if c.args.shapes.now in
    let Γ = scope_of_fields c.args.datatype.0 ss 0 xs [] in
    let e = c.args.constructor.now.name.0 in
    let i = c.loop-at.at in
    let is = c.as_slice-fields.ensures.value in
    subst (λ (l : List Field). matrix_view c.loop-at.matrix ≡ matrix_view c.args.matrix.now ++ (cells_of_fields (length (unknowns_of old)) (scope_of_fields c.args.datatype.0 ss 0 (map field_view l) []) e ss 0 (map field_view l)).matrix) is
    (cells_all old mid (matrix_view c.args.matrix.now) (matrix_view c.loop-at.matrix) (cells_of_fields (length (unknowns_of old)) Γ e ss 0 xs)
    (λ k. cells_of_fields k Γ e ss i (drop i xs)) c.loop-at.invariant.done
    (ap (cells_of_fields (length (unknowns_of mid)) Γ e ss i) (none_left field_view fields i c.loop-at-test.false))).1

pub returns-clause-made : goal.returns-clause-made
returns-clause-made c =
    let old = c.args.self.now in
    let mid = c.loop-at.self in
    let fields = c.as_slice-fields.result.now in
    let xs = map field_view fields in
    let ss = map shape_if c.args.shapes.now in
    let Γ = scope_of_fields c.args.datatype.0 ss 0 xs [] in
    let e = c.args.constructor.now.name.0 in
    let i = c.loop-at.at in
    let is = c.as_slice-fields.ensures.value in
    subst (λ (l : List Field). IsMade old mid (cells_of_fields (length (unknowns_of old)) (scope_of_fields c.args.datatype.0 ss 0 (map field_view l) []) e ss 0 (map field_view l)).unknowns) is
    (cells_all old mid (matrix_view c.args.matrix.now) (matrix_view c.loop-at.matrix) (cells_of_fields (length (unknowns_of old)) Γ e ss 0 xs)
    (λ k. cells_of_fields k Γ e ss i (drop i xs)) c.loop-at.invariant.done
    (ap (cells_of_fields (length (unknowns_of mid)) Γ e ss i) (none_left field_view fields i c.loop-at-test.false))).0

pub returns-then-not-has_again-clause-matrix : goal.returns-then-not-has_again-clause-matrix
returns-then-not-has_again-clause-matrix c =
    let xs = map field_view c.args.constructor.now.fields.items in
    let ss = map shape_if c.args.shapes.now in
    let m = matrix_view c.args.matrix.now in
    let e = ap₂ any_again (length_map shape_if c.args.shapes.now) (ap (map field_view) (sym c.as_slice-fields.ensures.value))
    ∙ (sym c.has_again.ensures ∙ c.if-not-has_again.true) in
    let none = none_again (length (unknowns_of c.args.self.now)) (scope_of_fields c.args.datatype.0 ss 0 xs []) c.args.constructor.now.name.0 ss 0 xs e in
    sym (ap (λ (a : Cells). m ++ a.matrix) none ∙ append-nil m)

pub returns-then-not-has_again-clause-made : goal.returns-then-not-has_again-clause-made
returns-then-not-has_again-clause-made c =
    let self = c.args.self.now in
    let xs = map field_view c.args.constructor.now.fields.items in
    let ss = map shape_if c.args.shapes.now in
    let e = ap₂ any_again (length_map shape_if c.args.shapes.now) (ap (map field_view) (sym c.as_slice-fields.ensures.value))
    ∙ (sym c.has_again.ensures ∙ c.if-not-has_again.true) in
    let none = none_again (length (unknowns_of self)) (scope_of_fields c.args.datatype.0 ss 0 xs []) c.args.constructor.now.name.0 ss 0 xs e in
    subst (λ (a : Cells). IsMade self self a.unknowns) (sym none) (made_nothing self)
