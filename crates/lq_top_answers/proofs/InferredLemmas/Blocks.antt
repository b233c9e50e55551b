-- The last operation of a block in memory.
use Rattle.std.proofs.Common.{◌≡◌, ℕ, List, [], ◌∷◌, refl, ap, ◌∙◌, rules}
use Rattle.lq_refined_rules.specs.Checks.Tree as t
use Rattle.lq_refined_rules.specs.Checks.Tree.{last_operation}
use Rattle.lq_refined_templates.specs.Programs.BlockView.{arm_view, arm_step, binding_step, binding_view, bindings_view, block_step, block_view, operation_step, operation_view, Around, Branch}
use Rattle.lq_refined_templates.specs.declared.programs.block.Arm.{Arm}
use Rattle.lq_refined_templates.specs.declared.programs.block.Binding.{Binding, out-Binding, map-Binding, fold_out-Binding}
use Rattle.lq_refined_templates.specs.declared.programs.block.Binding.TheOpen.{Binding-F}
use Rattle.lq_refined_templates.specs.declared.programs.block.Block.{Block}
use Rattle.lq_refined_templates.specs.declared.programs.block.Operation.{Operation, the_lemmas}
use Rattle.lq_top_answers.specs.Inferred.Lines.{function_point, point_of}

block_seen : (x : Block) → block_view x ≡ bindings_view x.bindings.items (t.last x.place (operation_view x.last))
block_seen x = search (rules, the_lemmas)

abbrev Layer : Type 0
Layer = Binding-F Binding Operation Arm Block

abbrev layer_seen : Layer → Around
layer_seen l = binding_step (map-Binding Binding Operation Arm Block Around t.Operation Branch t.Block binding_view operation_view arm_view block_view l)

binding_is : (a : Binding) (l : Layer) → out-Binding a ≡ l → binding_view a ≡ layer_seen l
binding_is a l e = fold_out-Binding Around t.Operation Branch t.Block binding_step operation_step arm_step block_step a ∙ ap layer_seen e

-- a binding leaves the last operation of the block behind it
binding-last : (a : Binding) (b : t.Block) → last_operation (binding_view a b) ≡ last_operation b
binding-last a b = by_layer (out-Binding a) refl
  where
    by_layer : (l : Layer) → out-Binding a ≡ l → last_operation (binding_view a b) ≡ last_operation b
    by_layer (Binding-F.Value x l o) e = ap (λ f. last_operation (f b)) (binding_is a (Binding-F.Value x l o) e)
    by_layer (Binding-F.Function f p y c) e = ap (λ g. last_operation (g b)) (binding_is a (Binding-F.Function f p y c) e)

bindings-last : (bs : List Binding) (b : t.Block) → last_operation (bindings_view bs b) ≡ last_operation b
bindings-last [] b = refl
bindings-last (x ∷ xs) b = binding-last x (bindings_view xs b) ∙ bindings-last xs b

pub point_by_last : (k : ℕ) (x : Block) → point_of k (block_view x) ≡ function_point k (operation_view x.last)
point_by_last k x = ap (λ b. function_point k (last_operation b)) (block_seen x) ∙ ap (function_point k) (bindings-last x.bindings.items (t.last x.place (operation_view x.last)))
