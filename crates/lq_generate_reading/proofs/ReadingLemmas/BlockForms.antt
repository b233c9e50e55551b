-- Blocks and bindings in memory by their forms.
use Rattle.std.proofs.Common.{◌≡◌, ◌∙◌, ℕ, zero, suc, List, [], ◌∷◌, map, slice_get, Option, Some, None, MatchOption, refl, sym, ap, subst, rules}
use Rattle.std.specs.declared.alloc.Global.{Global}
use Rattle.std.specs.declared.boxed.Box.{Box}
use Rattle.std.specs.declared.vec.Vec.{Vec}
use Rattle.lq_meaning_normal_tree.specs.BlockView.{Rest, binding_step, binding_view, block_step, block_view, bound_step, branch_step, branch_view, lets_view, local_view, operation_node_step, operation_node_view, operation_step, operation_view, recursive_step, recursive_view}
use Rattle.lq_meaning_normal_tree.specs.declared.block.Binding.{Binding}
use Rattle.lq_meaning_normal_tree.specs.declared.block.Block.{Block, out-Block}
use Rattle.lq_meaning_normal_tree.specs.declared.block.Bound.{Bound, out-Bound, map-Bound, fold-Bound, fold_out-Bound}
use Rattle.lq_meaning_normal_tree.specs.declared.block.Bound.TheOpen.{Bound-F, OperationNode-F}
use Rattle.lq_meaning_normal_tree.specs.declared.block.Branch.{Branch}
use Rattle.lq_meaning_normal_tree.specs.declared.block.Local.{Local}
use Rattle.lq_meaning_normal_tree.specs.declared.block.Operation.{Operation}
use Rattle.lq_meaning_normal_tree.specs.declared.block.OperationNode.{OperationNode, out-OperationNode, roll-OperationNode, roll-out-OperationNode, map-OperationNode, fold_out-OperationNode, the_lemmas}
use Rattle.lq_meaning_normal_tree.specs.declared.block.OperationNode.TheVariants as operation
use Rattle.lq_meaning_normal_tree.specs.declared.block.Recursive.{Recursive}
use Rattle.lq_base_names.specs.declared.place.Place.{Place}
use Rattle.lq_meaning_normal_form.specs.Outcomes.Flattening.{Let, put_in}
use Rattle.lq_refined_templates.specs.Points.Annotation.{Annotation, argument_name, type_of, type_of_form}
use Rattle.lq_refined_templates.specs.Points.Reading.{names_in, written_names}
use Rattle.lq_text_tree.specs.Pattern.{Pattern}
use Rattle.lq_text_tree.specs.Tree.{Tree, tree, Form, let_in, let_rec, match_on, use_of}
use Rattle.lq_text_tree.specs.TreeView as view
use Rattle.lq_text_tree.specs.TreeView.{Case, cases_of}
use Rattle.lq_generate_reading.specs.Reading.Lets.{IsLet}
use Rattle.lq_generate_reading.proofs.ReadingLemmas.Forms.{atom_names, seen_fun, seen_match}

pub block_seen : (b : Block) → block_view b ≡ put_in (lets_view (out-Block b).bindings.items) (operation_view (out-Block b).last)
block_seen b = search (rules, the_lemmas)

pub operation_seen : (o : Operation) → operation_view o ≡ tree o.id o.place (operation_node_view o.node)
operation_seen o = search (rules, the_lemmas)

abbrev pub bound_view : Bound → Rest
bound_view = fold-Bound Rest Form Let Tree Case Tree view.Recursive bound_step operation_node_step binding_step block_step branch_step operation_step recursive_step

pub binding_seen : (b : Binding) → binding_view b ≡ bound_view b.bound b.id b.place
binding_seen b = search (rules, the_lemmas)

abbrev pub BoundLayer : Type 0
BoundLayer = Bound-F Bound OperationNode Binding Block Branch Operation Recursive

abbrev pub bound_layer_seen : BoundLayer → Rest
bound_layer_seen l =
    bound_step
    (map-Bound Bound OperationNode Binding Block Branch Operation Recursive Rest Form Let Tree Case Tree view.Recursive bound_view operation_node_view binding_view
    block_view branch_view operation_view recursive_view l)

pub bound_form_is : (b : Bound) (l : BoundLayer) → out-Bound b ≡ l → bound_view b ≡ bound_layer_seen l
bound_form_is b l e =
    fold_out-Bound Rest Form Let Tree Case Tree view.Recursive bound_step operation_node_step binding_step block_step branch_step operation_step recursive_step b
    ∙ ap bound_layer_seen e

abbrev pub OperationLayer : Type 0
OperationLayer = OperationNode-F Bound OperationNode Binding Block Branch Operation Recursive

abbrev pub operation_layer_seen : OperationLayer → Form
operation_layer_seen l =
    operation_node_step
    (map-OperationNode Bound OperationNode Binding Block Branch Operation Recursive Rest Form Let Tree Case Tree view.Recursive bound_view operation_node_view
    binding_view block_view branch_view operation_view recursive_view l)

pub operation_form_is : (a : OperationNode) (l : OperationLayer) → out-OperationNode a ≡ l → operation_node_view a ≡ operation_layer_seen l
operation_form_is a l e =
    fold_out-OperationNode Rest Form Let Tree Case Tree view.Recursive bound_step operation_node_step binding_step block_step branch_step operation_step
    recursive_step a
    ∙ ap operation_layer_seen e

pub operation_is : (a : OperationNode) (l : OperationLayer) → out-OperationNode a ≡ l → a ≡ roll-OperationNode l
operation_is a l e = sym (roll-out-OperationNode a) ∙ ap (λ (m : OperationLayer). roll-OperationNode m) e

-- ---- a block that begins with a binding

type_of_let : (n : Annotation) (i : ℕ) (q : Pattern) (e b : Tree) → type_of_form n i (let_in q e b) ≡ n.types i
type_of_let n zero q e b = refl
type_of_let n (suc i) q e b = refl

type_of_let_rec : (n : Annotation) (i f j : ℕ) (m : Place) (q : Pattern) (b e : Tree) → type_of_form n i (let_rec f j m q b e) ≡ n.types i
type_of_let_rec n zero f j m q b e = refl
type_of_let_rec n (suc i) f j m q b e = refl

binding_is_let : (b : Binding) (n : Annotation) (ls : List Let) (t : Tree) → IsLet n b.id (put_in (binding_view b ∷ ls) t)
binding_is_let b n ls t = subst P (sym (binding_seen b)) (by_layer (out-Bound b.bound) refl)
  where
    P : Let → Type 0
    P l = IsLet n b.id (put_in (l ∷ ls) t)

    by_layer : (l : BoundLayer) → out-Bound b.bound ≡ l → P (bound_view b.bound b.id b.place)
    by_layer (Bound-F.Value x o) e =
        subst P (sym (ap (λ (r : Rest). r b.id b.place) (bound_form_is b.bound (Bound-F.Value x o) e)))
        (record { number = refl; type = type_of_let n b.id (local_view x) (operation_view o) (put_in ls t); names = refl })
    by_layer (Bound-F.Function f r) e =
        subst P (sym (ap (λ (r : Rest). r b.id b.place) (bound_form_is b.bound (Bound-F.Function f r) e)))
        (record {
          number = refl;
          type = type_of_let_rec n b.id f.0 (recursive_view r).id (recursive_view r).place (recursive_view r).parameter (recursive_view r).body (put_in ls t);
          names = refl;
        })

-- a block with bindings is a let with the number of the first one, and one without is its operation
pub first_binding : (b : Block) (o : Option Binding) → o ≡ slice_get (out-Block b).bindings.items 0
    → MatchOption o (block_view b ≡ operation_view (out-Block b).last) (λ x. (n : Annotation) → IsLet n x.id (block_view b))
first_binding b o e = by (out-Block b).bindings.items refl o e
  where
    by : (l : List Binding) → (out-Block b).bindings.items ≡ l → (o : Option Binding) → o ≡ slice_get l 0
        → MatchOption o (block_view b ≡ operation_view (out-Block b).last) (λ x. (n : Annotation) → IsLet n x.id (block_view b))
    by [] e None h = block_seen b ∙ ap (λ l. put_in (lets_view l) (operation_view (out-Block b).last)) e
    by [] e (Some x) h = absurd (cc)
    by (y ∷ bs) e None h = absurd (cc)
    by (y ∷ bs) e (Some x) h =
        λ n. subst (λ (z : Binding). IsLet n z.id (block_view b)) (let p : y ≡ x = cc in p)
        (subst (IsLet n y.id) (sym (block_seen b ∙ ap (λ l. put_in (lets_view l) (operation_view (out-Block b).last)) e))
        (binding_is_let y n (lets_view bs) (operation_view (out-Block b).last)))

pub no_fun : (n : Annotation) (a : OperationNode) → ((x : Local) (b : Box Block Global) → a ≡ operation.Fun x b → ⊥) → names_in n (operation_node_view a) ≡ []
no_fun n a other = by_layer (out-OperationNode a) refl
  where
    by_layer : (l : OperationLayer) → out-OperationNode a ≡ l → names_in n (operation_node_view a) ≡ []
    by_layer (OperationNode-F.Fun x b) e = absurd (other x b (operation_is a (OperationNode-F.Fun x b) e ∙ operation.rolls-Fun x b))
    by_layer (OperationNode-F.Pure x) e = ap (names_in n) (operation_form_is a (OperationNode-F.Pure x) e) ∙ atom_names n x
    by_layer l e = ap (names_in n) (operation_form_is a l e)

-- the names that are written in a block that is one operation
pub written_fun : (n : Annotation) (b : Block) (x : Local) (c : Box Block Global) → block_view b ≡ operation_view (out-Block b).last
    → (out-Block b).last.node ≡ operation.Fun x c → written_names n (block_view b) ≡ argument_name n x.binder.0 ∷ written_names n (block_view c.value)
written_fun n b x c e h =
    ap (written_names n) (e ∙ operation_seen (out-Block b).last)
    ∙ (ap (λ a. names_in n (operation_node_view a)) h ∙ ap (names_in n) (seen_fun x c))

pub written_none : (n : Annotation) (b : Block) → block_view b ≡ operation_view (out-Block b).last
    → ((x : Local) (c : Box Block Global) → (out-Block b).last.node ≡ operation.Fun x c → ⊥) → written_names n (block_view b) ≡ []
written_none n b e other = ap (written_names n) (e ∙ operation_seen (out-Block b).last) ∙ no_fun n (out-Block b).last.node other

pub match_type : (n : Annotation) (o : Operation) (i : ℕ) (x : Local) (cs : Vec Branch Global) → o.node ≡ operation.Match i x cs
    → type_of n (operation_view o) ≡ type_of_form n o.id (match_on (tree i x.place (use_of x.binder.0)) (cases_of (map branch_view cs.items)))
match_type n o i x cs h =
    ap (type_of n) (operation_seen o)
    ∙ (ap (λ a. type_of_form n o.id (operation_node_view a)) h ∙ ap (type_of_form n o.id) (seen_match i x cs))
