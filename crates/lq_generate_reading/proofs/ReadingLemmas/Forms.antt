-- Nodes in memory by their forms.
use Rattle.std.proofs.Common.{◌≡◌, ◌∙◌, ℕ, ◌≤◌, List, [], ◌∷◌, length, map, None, refl, sym, ap, arith, rules}
use Rattle.std.specs.declared.alloc.Global.{Global}
use Rattle.std.specs.declared.boxed.Box.{Box}
use Rattle.std.specs.declared.vec.Vec.{Vec}
use Rattle.lq_meaning_normal_tree.specs.AtomView.{atom_node_step, atom_node_view, atom_step, atom_view}
use Rattle.lq_meaning_normal_tree.specs.BlockView.{atoms_view, block_view, branch_view, local_view, operation_node_view}
use Rattle.lq_meaning_normal_tree.specs.declared.atom.Atom.{Atom}
use Rattle.lq_meaning_normal_tree.specs.declared.atom.AtomNode.{AtomNode, out-AtomNode, roll-AtomNode, roll-out-AtomNode, map-AtomNode, fold_out-AtomNode, the_lemmas}
use Rattle.lq_meaning_normal_tree.specs.declared.atom.AtomNode.TheOpen.{AtomNode-F}
use Rattle.lq_meaning_normal_tree.specs.declared.atom.AtomNode.TheVariants as atom
use Rattle.lq_meaning_normal_tree.specs.declared.atom.RingOp.TheVariants as ring
use Rattle.lq_meaning_normal_tree.specs.declared.block.Block.{Block}
use Rattle.lq_meaning_normal_tree.specs.declared.block.Branch.{Branch}
use Rattle.lq_meaning_normal_tree.specs.declared.block.Local.{Local}
use Rattle.lq_meaning_normal_tree.specs.declared.block.OperationNode.{the_lemmas as block_lemmas}
use Rattle.lq_meaning_normal_tree.specs.declared.block.OperationNode.TheVariants as operation
use Rattle.lq_refined_rules.specs.Checks.Tree as t
use Rattle.lq_base_names.specs.declared.name.Binder.{Binder}
use Rattle.lq_base_names.specs.declared.name.Name.{Name}
use Rattle.lq_refined_templates.specs.Points.Annotation.{Annotation}
use Rattle.lq_refined_templates.specs.Points.Pure.{pure_form, variable_form, with_one, without_points}
use Rattle.lq_refined_templates.specs.Points.Point.{inner}
use Rattle.lq_refined_templates.specs.Points.Reading.{built, names_in, operation_form}
use Rattle.lq_refined_templates.specs.Points.Seen.{Seen}
use Rattle.lq_refined_instances.specs.Scopes.{Scope}
use Rattle.lq_text_tree.specs.MlType.{MlType}
use Rattle.lq_text_tree.specs.Tree.{Tree, tree, Form, use_of, fun, build, if_else, match_on}
use Rattle.lq_text_tree.specs.TreeView.{cases_of}
use Rattle.lq_text_tree.specs.declared.expr.Arguments.{Arguments}

abbrev pub AtomLayer : Type 0
AtomLayer = AtomNode-F AtomNode Atom

abbrev pub atom_layer_seen : AtomLayer → Form
atom_layer_seen l = atom_node_step (map-AtomNode AtomNode Atom Form Tree atom_node_view atom_view l)

pub atom_form_is : (a : AtomNode) (l : AtomLayer) → out-AtomNode a ≡ l → atom_node_view a ≡ atom_layer_seen l
atom_form_is a l e = fold_out-AtomNode Form Tree atom_node_step atom_step a ∙ ap atom_layer_seen e

pub atom_is : (a : AtomNode) (l : AtomLayer) → out-AtomNode a ≡ l → a ≡ roll-AtomNode l
atom_is a l e = sym (roll-out-AtomNode a) ∙ ap (λ (m : AtomLayer). roll-AtomNode m) e

pub atom_seen : (a : Atom) → atom_view a ≡ tree a.id a.place (atom_node_view a.node)
atom_seen a = search (rules, the_lemmas)

pub no_variable : (n : Annotation) (Δ : List Seen) (k i : ℕ) (a : AtomNode) → ((x : Binder) → a ≡ atom.Use x → ⊥)
    → variable_form n Δ k i (atom_node_view a) ≡ without_points record { name = 0; type_arguments = None }
no_variable n Δ k i a other = by_layer (out-AtomNode a) refl
  where
    by_layer : (l : AtomLayer) → out-AtomNode a ≡ l
        → variable_form n Δ k i (atom_node_view a) ≡ without_points record { name = 0; type_arguments = None }
    by_layer (AtomNode-F.Use x) e = absurd (other x (atom_is a (AtomNode-F.Use x) e ∙ atom.rolls-Use x))
    by_layer l e = ap (variable_form n Δ k i) (atom_form_is a l e)

-- a pure expression as an operation
pub pure_operation : (n : Annotation) (Δ : List Seen) (k i : ℕ) (a : AtomNode)
    → operation_form n k Δ i (atom_node_view a) ≡ with_one (pure_form n Δ k i (atom_node_view a)) t.pure
pure_operation n Δ k i a = by_layer (out-AtomNode a) refl
  where
    by_form : (f : Form) → atom_node_view a ≡ f → operation_form n k Δ i f ≡ with_one (pure_form n Δ k i f) t.pure
        → operation_form n k Δ i (atom_node_view a) ≡ with_one (pure_form n Δ k i (atom_node_view a)) t.pure
    by_form f e h = ap (operation_form n k Δ i) e ∙ (h ∙ sym (ap (λ g. with_one (pure_form n Δ k i g) t.pure) e))

    by_layer : (l : AtomLayer) → out-AtomNode a ≡ l
        → operation_form n k Δ i (atom_node_view a) ≡ with_one (pure_form n Δ k i (atom_node_view a)) t.pure
    by_layer (AtomNode-F.Ring ring.Add x y) e = by_form (atom_layer_seen (AtomNode-F.Ring ring.Add x y)) (atom_form_is a (AtomNode-F.Ring ring.Add x y) e) refl
    by_layer (AtomNode-F.Ring ring.Sub x y) e = by_form (atom_layer_seen (AtomNode-F.Ring ring.Sub x y)) (atom_form_is a (AtomNode-F.Ring ring.Sub x y) e) refl
    by_layer (AtomNode-F.Ring ring.Mul x y) e = by_form (atom_layer_seen (AtomNode-F.Ring ring.Mul x y)) (atom_form_is a (AtomNode-F.Ring ring.Mul x y) e) refl
    by_layer l e = by_form (atom_layer_seen l) (atom_form_is a l e) refl

-- no function
pub atom_names : (n : Annotation) (a : AtomNode) → names_in n (atom_node_view a) ≡ []
atom_names n a = by_layer (out-AtomNode a) refl
  where
    by_layer : (l : AtomLayer) → out-AtomNode a ≡ l → names_in n (atom_node_view a) ≡ []
    by_layer AtomNode-F.Unit e = ap (names_in n) (atom_form_is a AtomNode-F.Unit e)
    by_layer l e = ap (names_in n) (atom_form_is a l e)

-- ---- operations

pub seen_pure : (a : AtomNode) → operation_node_view (operation.Pure a) ≡ atom_node_view a
seen_pure a = search (rules, block_lemmas)

pub seen_build : (c : Name) (w : Arguments) (as_ : Vec Atom Global) → operation_node_view (operation.Build c w as_) ≡ build c.0 w (atoms_view as_.items)
seen_build c w as_ = search (rules, block_lemmas)

pub seen_fun : (x : Local) (b : Box Block Global) → operation_node_view (operation.Fun x b) ≡ fun (local_view x) (block_view b.value)
seen_fun x b = search (rules, block_lemmas)

pub seen_if : (c : Atom) (a b : Box Block Global) → operation_node_view (operation.If c a b) ≡ if_else (atom_view c) (block_view a.value) (block_view b.value)
seen_if c a b = search (rules, block_lemmas)

pub seen_match : (i : ℕ) (x : Local) (cs : Vec Branch Global) → operation_node_view (operation.Match i x cs)
    ≡ match_on (tree i x.place (use_of x.binder.0)) (cases_of (map branch_view cs.items))
seen_match i x cs = search (rules, block_lemmas)

-- the point of a constructor with fields
pub built_more : (Γ : Scope) (a : MlType) (as_ : List Atom) → 1 ≤ length as_ → inner Γ a ≡ built Γ a (atoms_view as_)
built_more Γ a [] h = absurd (omega arith)
built_more Γ a (x ∷ as_) h = refl
