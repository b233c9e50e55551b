use Rattle.std.proofs.Common.{map, refl, sym, ap, ◌∙◌, arith, ◌&&◌}
use Rattle.std.proofs.lemmas.List.{map-append}
use Rattle.lq_base_names.specs.declared.name.Binder.{Binder}
use Rattle.lq_text_tree.specs.Tree.{tree}
use Rattle.lq_text_tree.specs.declared.expr.Expr.{out-Expr}
use Rattle.lq_text_tree.specs.TreeView.{trees_view, form_view}
use Rattle.lq_text_walk.specs.Walk.Shape.{listed}
use Rattle.lq_text_walk.specs.Walk.View.{row_view}
use Rattle.lq_types_infer.specs.Inference.Pending.{pending_view, pending_trees}
use Rattle.lq_types_rules.specs.Typings.Uses.{is_value, all_values}
use Rattle.lq_types_infer.proofs.InferenceLemmas.Pendings.{no_value, value_left, parts_left, fewer, fewer_parts, row_longer}
use Rattle.lq_types_infer.proofs.inference.values.is_value.Goals as goal

pub returns-then-not-is_value_leaf : goal.returns-then-not-is_value_leaf
returns-then-not-is_value_leaf c =
    no_value (pending_trees c.loop-part.pending.items) (pending_trees c.pop.new.self.items) c.in-Some.field-0.0.now (ap pending_trees c.in-Some.ensures.items ∙ map-append pending_view c.pop.new.self.items _) _ c.in-Leaf.ensures
    _ c.loop-part.invariant (sym c.is_value_leaf.ensures ∙ c.if-not-is_value_leaf.true)

pub loop-part-smaller-else-not-is_value_leaf : goal.loop-part-smaller-else-not-is_value_leaf
loop-part-smaller-else-not-is_value_leaf c =
    fewer (pending_trees c.loop-part.pending.items) (pending_trees c.pop.new.self.items) c.in-Some.field-0.0.now (ap pending_trees c.in-Some.ensures.items ∙ map-append pending_view c.pop.new.self.items _) _ c.in-Leaf.ensures (omega arith)

pub loop-part-preserved-else-not-is_value_leaf : goal.loop-part-preserved-else-not-is_value_leaf
loop-part-preserved-else-not-is_value_leaf c =
    value_left (pending_trees c.loop-part.pending.items) (pending_trees c.pop.new.self.items) c.in-Some.field-0.0.now (ap pending_trees c.in-Some.ensures.items ∙ map-append pending_view c.pop.new.self.items _) _ c.in-Leaf.ensures
    _ c.loop-part.invariant (sym c.is_value_leaf.ensures ∙ c.if-not-is_value_leaf.false)

pub returns-then-not-is_value_row : goal.returns-then-not-is_value_row
returns-then-not-is_value_row c =
    no_value (pending_trees c.loop-part.pending.items) (pending_trees c.pop.new.self.items) c.in-Some.field-0.0.now (ap pending_trees c.in-Some.ensures.items ∙ map-append pending_view c.pop.new.self.items _) _ c.in-Row.ensures
    _ c.loop-part.invariant (ap (λ b. b && all_values (map is_value (listed (trees_view Binder (λ b. b.0) c.in-Row.parts.now)))) (sym c.is_value_row.ensures ∙ c.if-not-is_value_row.true))

pub loop-part-smaller-in-Continue-branch-2 : goal.loop-part-smaller-in-Continue-branch-2
loop-part-smaller-in-Continue-branch-2 c =
    let parts = listed (trees_view Binder (λ b. b.0) c.in-Row.parts.now) in
    fewer_parts (pending_trees c.loop-part.pending.items) (pending_trees c.pop.new.self.items) c.in-Some.field-0.0.now (ap pending_trees c.in-Some.ensures.items ∙ map-append pending_view c.pop.new.self.items _) _ c.in-Row.ensures
    parts (pending_trees c.push_parts.new.pending.items) (row_longer (tree (out-Expr Binder c.in-Some.field-0.0.now).id (out-Expr Binder c.in-Some.field-0.0.now).place (form_view Binder (λ b. b.0) (out-Expr Binder c.in-Some.field-0.0.now).node)) (row_view c.in-Row.row) parts) c.in_ok-push_parts-in-Row.ensures

pub loop-part-preserved-in-Continue-branch-2 : goal.loop-part-preserved-in-Continue-branch-2
loop-part-preserved-in-Continue-branch-2 c =
    let parts = listed (trees_view Binder (λ b. b.0) c.in-Row.parts.now) in
    parts_left (pending_trees c.loop-part.pending.items) (pending_trees c.pop.new.self.items) c.in-Some.field-0.0.now (ap pending_trees c.in-Some.ensures.items ∙ map-append pending_view c.pop.new.self.items _) _ c.in-Row.ensures
    _ parts (pending_trees c.push_parts.new.pending.items) c.loop-part.invariant
    (ap (λ b. b && all_values (map is_value parts)) (sym c.is_value_row.ensures ∙ c.if-not-is_value_row.false)) c.in_ok-push_parts-in-Row.ensures

pub loop-part-smaller : goal.loop-part-smaller
loop-part-smaller c =
    fewer (pending_trees c.loop-part.pending.items) (pending_trees c.pop.new.self.items) c.in-Some.field-0.0.now (ap pending_trees c.in-Some.ensures.items ∙ map-append pending_view c.pop.new.self.items _) _ c.in-Fun.ensures (omega arith)

pub loop-part-preserved : goal.loop-part-preserved
loop-part-preserved c =
    value_left (pending_trees c.loop-part.pending.items) (pending_trees c.pop.new.self.items) c.in-Some.field-0.0.now (ap pending_trees c.in-Some.ensures.items ∙ map-append pending_view c.pop.new.self.items _) _ c.in-Fun.ensures _ c.loop-part.invariant refl

pub returns-in-One : goal.returns-in-One
returns-in-One c =
    no_value (pending_trees c.loop-part.pending.items) (pending_trees c.pop.new.self.items) c.in-Some.field-0.0.now (ap pending_trees c.in-Some.ensures.items ∙ map-append pending_view c.pop.new.self.items _) _ c.in-One.ensures _ c.loop-part.invariant refl

pub returns-in-Two : goal.returns-in-Two
returns-in-Two c =
    no_value (pending_trees c.loop-part.pending.items) (pending_trees c.pop.new.self.items) c.in-Some.field-0.0.now (ap pending_trees c.in-Some.ensures.items ∙ map-append pending_view c.pop.new.self.items _) _ c.in-Two.ensures _ c.loop-part.invariant refl

pub returns-in-Three : goal.returns-in-Three
returns-in-Three c =
    no_value (pending_trees c.loop-part.pending.items) (pending_trees c.pop.new.self.items) c.in-Some.field-0.0.now (ap pending_trees c.in-Some.ensures.items ∙ map-append pending_view c.pop.new.self.items _) _ c.in-Three.ensures _ c.loop-part.invariant refl

pub returns-in-Let : goal.returns-in-Let
returns-in-Let c =
    no_value (pending_trees c.loop-part.pending.items) (pending_trees c.pop.new.self.items) c.in-Some.field-0.0.now (ap pending_trees c.in-Some.ensures.items ∙ map-append pending_view c.pop.new.self.items _) _ c.in-Let.ensures _ c.loop-part.invariant refl

pub returns-in-LetRec : goal.returns-in-LetRec
returns-in-LetRec c =
    no_value (pending_trees c.loop-part.pending.items) (pending_trees c.pop.new.self.items) c.in-Some.field-0.0.now (ap pending_trees c.in-Some.ensures.items ∙ map-append pending_view c.pop.new.self.items _) _ c.in-LetRec.ensures _ c.loop-part.invariant refl

pub returns-in-Match : goal.returns-in-Match
returns-in-Match c =
    no_value (pending_trees c.loop-part.pending.items) (pending_trees c.pop.new.self.items) c.in-Some.field-0.0.now (ap pending_trees c.in-Some.ensures.items ∙ map-append pending_view c.pop.new.self.items _) _ c.in-Match.ensures _ c.loop-part.invariant refl
