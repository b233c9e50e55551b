use Rattle.std.proofs.Common.{◌≡◌, ◌∙◌, ℕ, ◌<◌, List, None, All, length, get_or, sym, ap, subst, arith}
use Rattle.lq_generate_fresh.specs.Fresh.Walking.{above, IsForm}
use Rattle.lq_refined_subtyping.specs.declared.table.forms.Form.TheVariants as made
use Rattle.lq_refined_substitution.specs.Substitution.Views.{parts_view}
use Rattle.lq_text_tree.specs.MlType as ml
use Rattle.lq_text_tree.specs.MlType.{MlType, MlTypes}
use Rattle.lq_types_table.specs.Heads.{each}
use Rattle.lq_types_table.specs.Nodes as types
use Rattle.lq_types_table.specs.Seen.{node_parts, node_type}
use Rattle.lq_types_table.specs.Whole.{types_of}
use Rattle.lq_generate_fresh.proofs.FreshLemmas.Rows.{above_low, above_part, parts_end, parts_there, rows_all, rows_begin, RowsDone}
use Rattle.lq_generate_fresh.specs.Fresh.Wanted.{all_plain_wanted, plain_wanted}
use Rattle.lq_generate_fresh.proofs.FreshLemmas.Alone.{bare_template}
use Rattle.lq_generate_fresh.proofs.FreshLemmas.Plains.{plain_array, plain_data, plain_function, plain_map, plain_next, plain_rest, plain_tuple}
use Rattle.lq_generate_fresh.proofs.fresh.plain.+plains.Goals as goal

pub plain-returns : goal.plain-returns
plain-returns t c =
    bare_template c.args.given.now.datatypes.now c.args.templates.now c.plain_form.new.templates c.push.new.self c.in_ok-form.form c.in_ok-row.row
    (parts_view c.new.result) (plain_wanted (types.at (types_of c.args.given.now.types.now) c.args.at)) c.in_ok-form.ensures
    c.in_ok-row.ensures.refined c.new.ensures c.in_ok-row.ensures.there c.in_ok-row.ensures.made

-- ---- the form of each type

pub plain_form-each_plain-requires : goal.plain_form-each_plain-requires
plain_form-each_plain-requires t c =
    let at = c.args.at in
    let ps = c.in-Tuple.parts.now in
    let earlier : All (λ p. p < at) ps = subst (λ x. All (λ p. p < at) (node_parts x)) c.in-Tuple.is c.node.ensures.earlier in
    let low = above_low at ps earlier in
    ((let e = c.decreases in omega (arith, low, e)), parts_there at (length (types_of c.args.given.now.types.now)) ps c.requires earlier)

pub plain_form-each_plain-requires-in-Named : goal.plain_form-each_plain-requires-in-Named
plain_form-each_plain-requires-in-Named t c =
    let at = c.args.at in
    let ps = c.in-Named.parts.now in
    let earlier : All (λ p. p < at) ps = subst (λ x. All (λ p. p < at) (node_parts x)) c.in-Named.is c.node.ensures.earlier in
    let low = above_low at ps earlier in
    ((let e = c.decreases in omega (arith, low, e)), parts_there at (length (types_of c.args.given.now.types.now)) ps c.requires earlier)

pub plain_form-returns-in_ok-second-in-Arrow : goal.plain_form-returns-in_ok-second-in-Arrow
plain_form-returns-in_ok-second-in-Arrow t c =
    let D = c.args.given.now.datatypes.now in
    let old = c.args.templates.now in
    let new = c.plain-in-Arrow.new.templates in
    let all = types_of c.args.given.now.types.now in
    let a = c.in_ok-first-in-Arrow.first in
    let b = c.in_ok-second-in-Arrow.second in
    let is : ml.arrow (types.at all c.in-Arrow.argument) (types.at all c.in-Arrow.value) ≡ types.at all c.args.at =
    sym (ap (node_type all) c.in-Arrow.is) ∙ c.node.ensures.types in
    subst (λ (s : MlType). IsForm D old new (made.Function None a b) (plain_wanted s)) is
    (plain_function D old c.plain.new.templates new a b (types.at all c.in-Arrow.argument) (types.at all c.in-Arrow.value)
    c.in_ok-first-in-Arrow.ensures c.in_ok-second-in-Arrow.ensures)

pub plain_form-returns-in_ok-components-in-Tuple : goal.plain_form-returns-in_ok-components-in-Tuple
plain_form-returns-in_ok-components-in-Tuple t c =
    let D = c.args.given.now.datatypes.now in
    let old = c.args.templates.now in
    let new = c.each_plain.new.templates in
    let all = types_of c.args.given.now.types.now in
    let is : ml.tuple (each (types.at all) c.in-Tuple.parts.now) ≡ types.at all c.args.at = sym (ap (node_type all) c.in-Tuple.is) ∙ c.node.ensures.types in
    subst (λ (s : MlType). IsForm D old new (made.Tuple c.in_ok-components-in-Tuple.components) (plain_wanted s)) is
    (plain_tuple D old new c.in_ok-components-in-Tuple.components (each (types.at all) c.in-Tuple.parts.now) c.in_ok-components-in-Tuple.ensures)

pub plain_form-returns-in_ok-element-in-Array : goal.plain_form-returns-in_ok-element-in-Array
plain_form-returns-in_ok-element-in-Array t c =
    let D = c.args.given.now.datatypes.now in
    let old = c.args.templates.now in
    let new = c.plain-in-Array.new.templates in
    let all = types_of c.args.given.now.types.now in
    let is : ml.array (types.at all c.in-Array.element) ≡ types.at all c.args.at = sym (ap (node_type all) c.in-Array.is) ∙ c.node.ensures.types in
    subst (λ (s : MlType). IsForm D old new (made.Array c.in_ok-element-in-Array.element) (plain_wanted s)) is
    (plain_array D old new c.in_ok-element-in-Array.element (types.at all c.in-Array.element) c.in_ok-element-in-Array.ensures)

pub plain_form-returns-in_ok-arguments-in-Named : goal.plain_form-returns-in_ok-arguments-in-Named
plain_form-returns-in_ok-arguments-in-Named t c =
    let D = c.args.given.now.datatypes.now in
    let old = c.args.templates.now in
    let new = c.each_plain-in-Named.new.templates in
    let all = types_of c.args.given.now.types.now in
    let is : ml.named c.in-Named.name.0 (each (types.at all) c.in-Named.parts.now) ≡ types.at all c.args.at = sym (ap (node_type all) c.in-Named.is) ∙ c.node.ensures.types in
    subst (λ (s : MlType). IsForm D old new (made.Data c.in-Named.name c.in_ok-arguments-in-Named.arguments c.new.result) (plain_wanted s)) is
    (plain_data D old new c.in-Named.name c.in_ok-arguments-in-Named.arguments c.new.result (each (types.at all) c.in-Named.parts.now)
    c.in_ok-arguments-in-Named.ensures c.new.ensures)

pub plain_form-returns-in_ok-element-in-Map : goal.plain_form-returns-in_ok-element-in-Map
plain_form-returns-in_ok-element-in-Map t c =
    let D = c.args.given.now.datatypes.now in
    let old = c.args.templates.now in
    let new = c.plain-in-Map.new.templates in
    let all = types_of c.args.given.now.types.now in
    let is : ml.map_of (types.at all c.in-Map.element) ≡ types.at all c.args.at = sym (ap (node_type all) c.in-Map.is) ∙ c.node.ensures.types in
    subst (λ (s : MlType). IsForm D old new (made.Map c.in_ok-element-in-Map.element) (plain_wanted s)) is
    (plain_map D old new c.in_ok-element-in-Map.element (types.at all c.in-Map.element) c.in_ok-element-in-Map.ensures)

-- ---- the loop over types

pub each_plain-loop-at-init : goal.each_plain-loop-at-init
each_plain-loop-at-init t c =
    let D = c.args.given.now.datatypes.now in
    let old = c.args.templates.now in
    let F = types.at (types_of c.args.given.now.types.now) in
    let ps = c.args.parts.now in
    subst (λ (rs : List ℕ). RowsDone D old old rs (all_plain_wanted (each F ps)) (plain_rest D F ps 0)) (sym c.new-made.ensures.items)
    (rows_begin D old (plain_rest D F ps 0))

pub each_plain-plain-requires : goal.each_plain-plain-requires
each_plain-plain-requires t c =
    let ps = c.args.parts.now in
    let i = c.loop-at.at in
    let l = c.loop-at-test.true in
    let low : get_or ps i 0 < above ps = above_part ps i l in
    ((let e = c.decreases in omega (arith, low, e)), c.requires i 0 l)

pub each_plain-loop-at-preserved : goal.each_plain-loop-at-preserved
each_plain-loop-at-preserved t c =
    let F = types.at (types_of c.args.given.now.types.now) in
    let ps = c.args.parts.now in
    plain_next c.args.given.now.datatypes.now F ps c.args.templates.now c.loop-at.templates c.plain.new.templates c.loop-at.made.items
    c.push.new.self.items c.in_ok-row.row (all_plain_wanted (each F ps)) c.loop-at.at c.loop-at.invariant c.loop-at-test.true c.in_ok-row.ensures
    c.in_ok-push.ensures.items

pub each_plain-returns : goal.each_plain-returns
each_plain-returns t c =
    let D = c.args.given.now.datatypes.now in
    let F = types.at (types_of c.args.given.now.types.now) in
    let ps = c.args.parts.now in
    let i = c.loop-at.at in
    rows_all D c.args.templates.now c.loop-at.templates c.loop-at.made.items (all_plain_wanted (each F ps)) (plain_rest D F ps i) c.loop-at.invariant
    (λ g ordered. ap (λ (ts : MlTypes). all_plain_wanted ts g ordered) (parts_end F ps i c.loop-at-test.false))
