-- Operations that have blocks of their own, and blocks of one operation.
use Rattle.std.proofs.Common.{◌≡◌, ◌∙◌, ℕ, suc, Bool, true, List, [], ◌++◌, map, refl, sym, ap, arith}
use Rattle.std.specs.declared.alloc.Global.{Global}
use Rattle.std.specs.declared.boxed.Box.{Box}
use Rattle.std.specs.declared.vec.Vec.{Vec}
use Rattle.lq_meaning_normal_tree.specs.AtomView.{atom_node_view, atom_view}
use Rattle.lq_meaning_normal_tree.specs.BlockView.{block_view, branch_view, operation_node_view, operation_view}
use Rattle.lq_meaning_normal_tree.specs.declared.atom.Atom.{Atom}
use Rattle.lq_meaning_normal_tree.specs.declared.atom.AtomNode.{AtomNode, out-AtomNode}
use Rattle.lq_meaning_normal_tree.specs.declared.atom.AtomNode.TheOpen.{AtomNode-F}
use Rattle.lq_meaning_normal_tree.specs.declared.block.Block.{Block}
use Rattle.lq_meaning_normal_tree.specs.declared.block.Bound.TheOpen.{OperationNode-F}
use Rattle.lq_meaning_normal_tree.specs.declared.block.Branch.{Branch}
use Rattle.lq_meaning_normal_tree.specs.declared.block.Local.{Local}
use Rattle.lq_meaning_normal_tree.specs.declared.block.Operation.{Operation}
use Rattle.lq_meaning_normal_tree.specs.declared.block.OperationNode.{OperationNode, out-OperationNode}
use Rattle.lq_meaning_normal_tree.specs.declared.block.OperationNode.TheVariants as operation
use Rattle.lq_refined_rules.specs.Checks.Tree as t
use Rattle.lq_base_names.specs.declared.place.Place.{Place}
use Rattle.lq_refined_templates.specs.Points.Annotation as annotation
use Rattle.lq_refined_templates.specs.Points.Annotation.{Annotation}
use Rattle.lq_refined_templates.specs.Points.Point.{Point, whole}
use Rattle.lq_refined_templates.specs.Points.Pure.{Read, after, with_one, with_two, pure_of, variable_of}
use Rattle.lq_refined_templates.specs.Points.Reading.{arms_of, block_form, block_of, expecting, only, operation_form, pointed}
use Rattle.lq_refined_templates.specs.Points.Seen.{Seen, scope_at}
use Rattle.lq_text_tree.specs.Tree as form
use Rattle.lq_text_tree.specs.Tree.{Tree, Form, Cases}
use Rattle.lq_text_tree.specs.TreeView.{cases_of}
use Rattle.lq_generate_reading.specs.Reading.Blocks.{behind, if_of, match_of, own_of}
use Rattle.lq_generate_reading.proofs.ReadingLemmas.BlockForms.{OperationLayer, operation_form_is, operation_is, operation_layer_seen, operation_seen}
use Rattle.lq_generate_reading.proofs.ReadingLemmas.Forms.{AtomLayer, atom_form_is, atom_layer_seen}

-- the next point behind one and what is read behind it
pub after_behind : {A : Type 0} (k : ℕ) (q : Point) (r : Read A) → after k (behind q r) ≡ after (suc k) r
after_behind k q r = omega arith

module _ (n : Annotation) (g : Bool) (k : ℕ) (Δ : List Seen) (i : ℕ) where
  if_same : (l : Place) (c a b : Tree) → block_form n g k Δ i l (form.if_else c a b) ≡ only l (if_of n g k Δ i c a b)
  if_same l c a b =
      let x = pure_of n Δ (suc k) c in
      let q = expecting g (whole (scope_at n Δ i) [] (n.types i)) in
      ap
      (λ j. let A = block_of n true j Δ a in let B = block_of n true (after j A) Δ b in
      only l (pointed q (record { read = t.if_else k x.read A.read B.read; points = x.points ++ (A.points ++ B.points) })))
      (sym (after_behind {A = ℕ × t.Pure} k q (with_one x (λ y. (k, y)))))

  match_same : (l : Place) (e : Tree) (cs : Cases) → block_form n g k Δ i l (form.match_on e cs) ≡ only l (match_of n g k Δ i e cs)
  match_same l e cs =
      let x = variable_of n Δ (suc k) e in
      let q = expecting g (whole (scope_at n Δ i) [] (annotation.type_of_form n i (form.match_on e cs))) in
      ap (λ j. only l (pointed q (with_two x (arms_of n j Δ [] cs) (t.match_on k)))) (sym (after_behind {A = ℕ × t.Use} k q (with_one x (λ y. (k, y)))))

  -- a pure expression has no block
  atom_same : (l : Place) (a : AtomNode) → block_form n g k Δ i l (atom_node_view a) ≡ only l (own_of n g k Δ i (atom_node_view a))
  atom_same l a = by_layer (out-AtomNode a) refl
    where
      by_form : (f : Form) → atom_node_view a ≡ f → block_form n g k Δ i l f ≡ only l (own_of n g k Δ i f)
          → block_form n g k Δ i l (atom_node_view a) ≡ only l (own_of n g k Δ i (atom_node_view a))
      by_form f e h = ap (block_form n g k Δ i l) e ∙ (h ∙ sym (ap (λ x. only l (own_of n g k Δ i x)) e))

      by_layer : (x : AtomLayer) → out-AtomNode a ≡ x → block_form n g k Δ i l (atom_node_view a) ≡ only l (own_of n g k Δ i (atom_node_view a))
      by_layer AtomNode-F.Unit e = by_form form.unit (atom_form_is a AtomNode-F.Unit e) refl
      by_layer x e = by_form (atom_layer_seen x) (atom_form_is a x e) refl

  node_same : (l : Place) (a : OperationNode) → block_form n g k Δ i l (operation_node_view a) ≡ only l (own_of n g k Δ i (operation_node_view a))
  node_same l a = by_layer (out-OperationNode a) refl
    where
      by_form : (f : Form) → operation_node_view a ≡ f → block_form n g k Δ i l f ≡ only l (own_of n g k Δ i f)
          → block_form n g k Δ i l (operation_node_view a) ≡ only l (own_of n g k Δ i (operation_node_view a))
      by_form f e h = ap (block_form n g k Δ i l) e ∙ (h ∙ sym (ap (λ x. only l (own_of n g k Δ i x)) e))

      by_layer : (x : OperationLayer) → out-OperationNode a ≡ x
          → block_form n g k Δ i l (operation_node_view a) ≡ only l (own_of n g k Δ i (operation_node_view a))
      by_layer (OperationNode-F.Pure x) e = by_form (atom_node_view x) (operation_form_is a (OperationNode-F.Pure x) e) (atom_same l x)
      by_layer (OperationNode-F.If c x y) e = by_form (operation_layer_seen (OperationNode-F.If c x y)) (operation_form_is a (OperationNode-F.If c x y) e)
          (if_same l (atom_view c) (block_view x.value) (block_view y.value))
      by_layer (OperationNode-F.Match j x cs) e = by_form (operation_layer_seen (OperationNode-F.Match j x cs)) (operation_form_is a (OperationNode-F.Match j x cs) e)
          (match_same l (form.tree j x.place (form.use_of x.binder.0)) (cases_of (map branch_view cs.items)))
      by_layer x e = by_form (operation_layer_seen x) (operation_form_is a x e) refl

  -- an operation without blocks of its own
  pub own_simple : (a : OperationNode) → ((x : Local) (b : Box Block Global) → a ≡ operation.Fun x b → ⊥)
      → ((c : Atom) (x y : Box Block Global) → a ≡ operation.If c x y → ⊥) → ((j : ℕ) (x : Local) (cs : Vec Branch Global) → a ≡ operation.Match j x cs → ⊥)
      → own_of n g k Δ i (operation_node_view a) ≡ operation_form n k Δ i (operation_node_view a)
  own_simple a no_fun no_if no_match = by_layer (out-OperationNode a) refl
    where
      by_form : (f : Form) → operation_node_view a ≡ f → own_of n g k Δ i f ≡ operation_form n k Δ i f
          → own_of n g k Δ i (operation_node_view a) ≡ operation_form n k Δ i (operation_node_view a)
      by_form f e h = ap (own_of n g k Δ i) e ∙ (h ∙ sym (ap (operation_form n k Δ i) e))

      of_atom : (x : AtomNode) → own_of n g k Δ i (atom_node_view x) ≡ operation_form n k Δ i (atom_node_view x)
      of_atom x = by_atom (out-AtomNode x) refl
        where
          by_atom : (y : AtomLayer) → out-AtomNode x ≡ y → own_of n g k Δ i (atom_node_view x) ≡ operation_form n k Δ i (atom_node_view x)
          by_atom AtomNode-F.Unit e =
              ap (own_of n g k Δ i) (atom_form_is x AtomNode-F.Unit e) ∙ sym (ap (operation_form n k Δ i) (atom_form_is x AtomNode-F.Unit e))
          by_atom y e = ap (own_of n g k Δ i) (atom_form_is x y e) ∙ sym (ap (operation_form n k Δ i) (atom_form_is x y e))

      by_layer : (x : OperationLayer) → out-OperationNode a ≡ x
          → own_of n g k Δ i (operation_node_view a) ≡ operation_form n k Δ i (operation_node_view a)
      by_layer (OperationNode-F.Fun x b) e = absurd (no_fun x b (operation_is a (OperationNode-F.Fun x b) e ∙ operation.rolls-Fun x b))
      by_layer (OperationNode-F.If c x y) e = absurd (no_if c x y (operation_is a (OperationNode-F.If c x y) e ∙ operation.rolls-If c x y))
      by_layer (OperationNode-F.Match j x cs) e =
          absurd (no_match j x cs (operation_is a (OperationNode-F.Match j x cs) e ∙ operation.rolls-Match j x cs))
      by_layer (OperationNode-F.Pure x) e = by_form (atom_node_view x) (operation_form_is a (OperationNode-F.Pure x) e) (of_atom x)
      by_layer x e = by_form (operation_layer_seen x) (operation_form_is a x e) refl

-- a block of one operation
pub own_block : (n : Annotation) (g : Bool) (k : ℕ) (Δ : List Seen) (o : Operation)
    → block_of n g k Δ (operation_view o) ≡ with_one (own_of n g k Δ o.id (operation_node_view o.node)) (t.last o.place)
own_block n g k Δ o = ap (block_of n g k Δ) (operation_seen o) ∙ node_same n g k Δ o.id o.place o.node
