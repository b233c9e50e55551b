use Rattle.std.proofs.Common.{◌≡◌, ◌∙◌, ℕ, ◌<◌, List, [], All, length, map, get_or, sym, ap, ap₂, subst, arith}
use Rattle.lq_refined_subtyping.specs.Table.Forms.{binder_view}
use Rattle.lq_refined_subtyping.specs.declared.table.forms.Form.TheVariants as made
use Rattle.lq_text_qualifiers.specs.Faults.Shapes.{shape_of}
use Rattle.lq_refined_templates.specs.Templates.Fresh as templates
use Rattle.lq_refined_templates.specs.Templates.Scopes.{with_argument}
use Rattle.lq_text_tree.specs.MlType as ml
use Rattle.lq_text_tree.specs.MlType.{MlType}
use Rattle.lq_types_table.specs.Heads.{each}
use Rattle.lq_types_table.specs.Nodes as types
use Rattle.lq_types_table.specs.Seen.{node_parts, node_type}
use Rattle.lq_types_table.specs.Whole.{types_of}
use Rattle.lq_generate_fresh.specs.Fresh.Growing.{scope_kept, scope_there}
use Rattle.lq_generate_fresh.specs.Fresh.Views.{constructor_view, scope_at, scopes_of, shape_if, unknowns_of}
use Rattle.lq_generate_fresh.specs.Fresh.Walking.{above, arguments_wanted, components_wanted, form_wanted, IsForm}
use Rattle.lq_generate_fresh.proofs.FreshLemmas.Rows.{above_low, above_part, arguments_next, arguments_rest, components_next, components_rest, parts_end, parts_there, position_added, rows_all, rows_begin, RowsDone}
use Rattle.lq_generate_fresh.proofs.FreshLemmas.Walked.{data_made, function_made, map_made, template_made}
use Rattle.lq_generate_fresh.proofs.fresh.templates.Templates.+walk.Goals as goal

pub template-returns : goal.template-returns
template-returns t c =
    let old = c.args.self.now in
    let mid = c.form.new.self in
    template_made c.args.given.now.datatypes.now old mid c.topped.new.self c.in_ok-form.form c.in_ok-row.row c.shape_at.result
    (scope_at old c.args.inner) (scope_at old c.args.outer) (scope_at mid c.args.outer) (map binder_view c.args.names.now)
    (types.at (types_of c.args.given.now.types.now) c.args.at) c.in_ok-form.ensures c.shape_at.ensures
    (scope_kept (scopes_of old) (scopes_of mid) c.args.outer c.in_ok-form.ensures.grown.scopes c.requires.outer)
    c.in_ok-row.ensures.refined c.in_ok-row.ensures.there c.in_ok-row.ensures.made

pub function-returns : goal.function-returns
function-returns t c =
    let old = c.args.self.now in
    let one = c.template.new.self in
    let two = c.with_argument.new.self in
    let F = types.at (types_of c.args.given.now.types.now) in
    let names = map binder_view c.args.names.now in
    let s = F c.args.argument in
    function_made c.args.given.now.datatypes.now old one two c.template-2.new.self c.in_ok-first.first c.in_ok-second.second c.first_name-name.result
    (scope_at old c.args.scope) (scope_at two c.in_ok-named.named) s (F c.args.value) names (map binder_view c.later_names-later.result.now)
    c.in_ok-first.ensures c.in_ok-named.ensures.made c.in_ok-second.ensures c.first_name-name.ensures c.later_names-later.ensures
    (c.in_ok-named.ensures.scope
    ∙ (ap₂ (λ x y. with_argument x y (scope_at one c.args.scope)) c.first_name-name.ensures c.shape_at-shape.ensures
    ∙ ap (with_argument (templates.first_name names) (shape_of s))
    (scope_kept (scopes_of old) (scopes_of one) c.args.scope c.in_ok-first.ensures.grown.scopes c.requires.scope)))

pub data-returns : goal.data-returns
data-returns t c =
    let old = c.args.self.now in
    data_made c.args.given.now.datatypes.now old c.arguments.new.self c.matrix_of.new.self c.args.name c.in_ok-arguments.arguments
    c.in_ok-matrix.matrix (scope_at old c.args.scope) [] (each (types.at (types_of c.args.given.now.types.now)) c.args.parts.now)
    (map shape_if c.as_slice.result.now) (map constructor_view c.of-constructors.result.now) c.in_ok-arguments.ensures
    (ap (map shape_if) c.as_slice.ensures.value ∙ c.in_ok-shapes.ensures) c.of-constructors.ensures c.in_ok-matrix.ensures.matrix
    c.in_ok-matrix.ensures.made

-- ---- the form of each type

pub form-components-requires : goal.form-components-requires
form-components-requires t c =
    let at = c.args.at in
    let ps = c.in-Tuple.parts.now in
    let earlier : All (λ p. p < at) ps = subst (λ x. All (λ p. p < at) (node_parts x)) c.in-Tuple.is c.node.ensures.earlier in
    let low = above_low at ps earlier in (
      (let e = c.decreases in omega (arith, low, e)),
      (parts_there at (length (types_of c.args.given.now.types.now)) ps c.requires.type_there earlier, c.requires.scope),
    )

pub form-data-requires : goal.form-data-requires
form-data-requires t c =
    let at = c.args.at in
    let ps = c.in-Named.parts.now in
    let earlier : All (λ p. p < at) ps = subst (λ x. All (λ p. p < at) (node_parts x)) c.in-Named.is c.node.ensures.earlier in
    let low = above_low at ps earlier in (
      (let e = c.decreases in omega (arith, low, e)),
      (parts_there at (length (types_of c.args.given.now.types.now)) ps c.requires.type_there earlier, c.requires.scope),
    )

pub form-template-requires-in-Map : goal.form-template-requires-in-Map
form-template-requires-in-Map t c =
    let old = c.args.self.now in
    let low : c.in-Map.element < c.args.at =
    subst (λ x. All (λ p. p < c.args.at) (node_parts x)) c.in-Map.is c.node.ensures.earlier 0 0 (omega arith) in
    let there = c.requires.type_there in (
      (let e = c.decreases in omega (arith, low, e)),
      (
        omega (arith, low, there),
        (
          scope_there (scopes_of old) (scopes_of c.with_symbol.new.self) c.args.scope c.in_ok-keyed-in-Map.ensures.made.scopes c.requires.scope,
          c.in_ok-keyed-in-Map.ensures.there,
        ),
      ),
    )

pub form-returns-in_ok-element-in-Map : goal.form-returns-in_ok-element-in-Map
form-returns-in_ok-element-in-Map t c =
    let D = c.args.given.now.datatypes.now in
    let old = c.args.self.now in
    let mid = c.with_symbol.new.self in
    let new = c.template-in-Map.new.self in
    let all = types_of c.args.given.now.types.now in
    let n = length (unknowns_of old) in
    let Γ = scope_at old c.args.scope in
    let xs = map binder_view c.args.names.now in
    let e = c.in_ok-element-in-Map.element in
    let element = types.at all c.in-Map.element in
    let is : types.at all c.args.at ≡ ml.map_of element = sym c.node.ensures.types ∙ ap (node_type all) c.in-Map.is in
    subst (λ (s : MlType). IsForm D old new (made.Map e) (form_wanted n Γ xs s)) (sym is)
    (map_made D old mid new e Γ (scope_at mid c.args.scope) (scope_at mid c.in_ok-keyed-in-Map.keyed) xs element c.in_ok-keyed-in-Map.ensures.made
    c.in_ok-element-in-Map.ensures
    (scope_kept (scopes_of old) (scopes_of mid) c.args.scope c.in_ok-keyed-in-Map.ensures.made.scopes c.requires.scope)
    c.in_ok-keyed-in-Map.ensures.scope)

-- ---- arguments

pub arguments-loop-at-init : goal.arguments-loop-at-init
arguments-loop-at-init t c =
    let D = c.args.given.now.datatypes.now in
    let old = c.args.self.now in
    let F = types.at (types_of c.args.given.now.types.now) in
    let ps = c.args.parts.now in
    let Γ = scope_at old c.args.scope in
    subst (λ (rs : List ℕ). RowsDone D old old rs (arguments_wanted (length (unknowns_of old)) Γ (each F ps)) (arguments_rest D F ps Γ 0))
    (sym c.new-made.ensures.items) (rows_begin D old (arguments_rest D F ps Γ 0))

pub arguments-template-requires : goal.arguments-template-requires
arguments-template-requires t c =
    let old = c.args.self.now in
    let mid = c.loop-at.self in
    let ps = c.args.parts.now in
    let i = c.loop-at.at in
    let l = c.loop-at-test.true in
    let low : get_or ps i 0 < above ps = above_part ps i l in
    let there = scope_there (scopes_of old) (scopes_of mid) c.args.scope c.loop-at.invariant.grown.scopes c.requires.scope in
    ((let e = c.decreases in omega (arith, low, e)), (c.requires.parts i 0 l, (there, there)))

pub arguments-loop-at-preserved : goal.arguments-loop-at-preserved
arguments-loop-at-preserved t c =
    let old = c.args.self.now in
    let mid = c.loop-at.self in
    let F = types.at (types_of c.args.given.now.types.now) in
    let ps = c.args.parts.now in
    let Γ = scope_at old c.args.scope in
    arguments_next c.args.given.now.datatypes.now F ps Γ old mid c.template.new.self c.loop-at.made.items c.push.new.self.items c.in_ok-row.row
    (scope_at mid c.args.scope) (arguments_wanted (length (unknowns_of old)) Γ (each F ps)) c.loop-at.at c.loop-at.invariant c.loop-at-test.true
    c.in_ok-row.ensures
    (scope_kept (scopes_of old) (scopes_of mid) c.args.scope c.loop-at.invariant.grown.scopes c.requires.scope) c.in_ok-push.ensures.items

pub arguments-returns : goal.arguments-returns
arguments-returns t c =
    let D = c.args.given.now.datatypes.now in
    let old = c.args.self.now in
    let mid = c.loop-at.self in
    let F = types.at (types_of c.args.given.now.types.now) in
    let ps = c.args.parts.now in
    let Γ = scope_at old c.args.scope in
    let i = c.loop-at.at in
    rows_all D old mid c.loop-at.made.items (arguments_wanted (length (unknowns_of old)) Γ (each F ps)) (arguments_rest D F ps Γ i) c.loop-at.invariant
    (λ g ordered. ap (templates.arguments g ordered (length (unknowns_of mid)) Γ) (parts_end F ps i c.loop-at-test.false))

-- ---- components

pub components-loop-at-init : goal.components-loop-at-init
components-loop-at-init t c =
    let D = c.args.given.now.datatypes.now in
    let old = c.args.self.now in
    let F = types.at (types_of c.args.given.now.types.now) in
    let ps = c.args.parts.now in
    let Γ = scope_at old c.args.scope in
    record {
      there = c.requires.scope;
      done = subst (λ (rs : List ℕ). RowsDone D old old rs (components_wanted (length (unknowns_of old)) Γ (each F ps)) (components_rest D F ps Γ Γ 0))
          (sym c.new-made.ensures.items) (rows_begin D old (components_rest D F ps Γ Γ 0));
    }

pub components-template-requires : goal.components-template-requires
components-template-requires t c =
    let old = c.args.self.now in
    let mid = c.loop-at.self in
    let ps = c.args.parts.now in
    let i = c.loop-at.at in
    let l = c.loop-at-test.true in
    let low : get_or ps i 0 < above ps = above_part ps i l in
    let there = scope_there (scopes_of old) (scopes_of mid) c.args.scope c.loop-at.invariant.done.grown.scopes c.requires.scope in
    ((let e = c.decreases in omega (arith, low, e)), (c.requires.parts i 0 l, (there, c.loop-at.invariant.there)))

pub components-loop-at-preserved : goal.components-loop-at-preserved
components-loop-at-preserved t c =
    let old = c.args.self.now in
    let mid = c.loop-at.self in
    let one = c.template.new.self in
    let new = c.with_symbol.new.self in
    let F = types.at (types_of c.args.given.now.types.now) in
    let ps = c.args.parts.now in
    let Γ = scope_at old c.args.scope in
    let i = c.loop-at.at in
    let top = c.loop-at.top in
    record {
      there = c.in_ok-top.ensures.there;
      done = components_next c.args.given.now.datatypes.now F ps Γ old mid one new c.loop-at.made.items c.push.new.self.items c.in_ok-row.row
          (scope_at mid c.args.scope) (scope_at mid top) (scope_at new c.in_ok-top.top) (components_wanted (length (unknowns_of old)) Γ (each F ps)) i
          c.loop-at.invariant.done c.loop-at-test.true c.in_ok-row.ensures
          (scope_kept (scopes_of old) (scopes_of mid) c.args.scope c.loop-at.invariant.done.grown.scopes c.requires.scope) c.in_ok-push.ensures.items
          c.in_ok-top.ensures.made
          (position_added i c.in_ok-position_behind.field-0 (shape_if c.shape_at-shape.result) (shape_of (F (get_or ps i 0))) (scope_at mid top)
          (scope_at one top) (scope_at new c.in_ok-top.top) c.in_ok-top.ensures.scope c.in_ok-position_behind.ensures c.shape_at-shape.ensures
          (scope_kept (scopes_of mid) (scopes_of one) top c.in_ok-row.ensures.grown.scopes c.loop-at.invariant.there));
    }

pub components-returns : goal.components-returns
components-returns t c =
    let D = c.args.given.now.datatypes.now in
    let old = c.args.self.now in
    let mid = c.loop-at.self in
    let F = types.at (types_of c.args.given.now.types.now) in
    let ps = c.args.parts.now in
    let Γ = scope_at old c.args.scope in
    let i = c.loop-at.at in
    let Δ = scope_at mid c.loop-at.top in
    rows_all D old mid c.loop-at.made.items (components_wanted (length (unknowns_of old)) Γ (each F ps)) (components_rest D F ps Γ Δ i)
    c.loop-at.invariant.done (λ g ordered. ap (templates.components g ordered (length (unknowns_of mid)) Γ Δ i) (parts_end F ps i c.loop-at-test.false))
