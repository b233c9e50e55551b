-- What is in range stays so, and the rules of the visits of a walk, one more at a time.
use Rattle.std.proofs.Common.{◌≡◌, ℕ, ◌≤◌, List, [], ◌∷◌, ◌++◌, All, length, sym, ap, subst, ◌∙◌, arith, append_assoc, append-nil}
use Rattle.lq_text_tree.specs.Items.{ItemForm, type_of, let_of, let_rec_of}
use Rattle.lq_text_tree.specs.Pattern.{Pattern}
use Rattle.lq_text_tree.specs.Tree.{Tree, tree}
use Rattle.lq_text_tree.specs.Types.{Signature}
use Rattle.lq_text_walk.specs.Walk.Shape as shape
use Rattle.lq_text_walk.specs.Walk.Shape.{Leaf, Shape, shape_of}
use Rattle.lq_text_walk.specs.Walk.Visits.{Visit, enter_item, leave_item, enter, leave, leave_function, declare, show, hide, show_name, hide_name}
use Rattle.lq_types_rules.specs.declared.equations.system.System.{System}
use Rattle.lq_types_rules.specs.declared.equations.template.Constructors.{Constructors}
use Rattle.lq_types_rules.specs.Equations.Adding.{IsSystem, IsFresh, IsLonger, Adds, count_of}
use Rattle.lq_types_rules.specs.Equations.Within.{PatternIn, LeafIn, ShapeIn, TreeIn, ItemIn}
use Rattle.lq_types_rules.specs.Equations.Templates.{HasSignature}
use Rattle.lq_types_rules.specs.Equations.Gathered.{VisitRule, VisitIn, IsGathered}
use Rattle.lq_types_rules.proofs.EquationsLemmas.Growing.{all_right}
use Rattle.lq_types_rules.proofs.EquationsLemmas.Prefixes.{gathered_none, gathered_more}

module _ (nodes n m : ℕ) (le : n ≤ m) where
  pattern_wider : (q : Pattern) → PatternIn nodes n q → PatternIn nodes m q
  pattern_wider q h k d l = let x = h k d l in omega arith

  leaf_wider : (h : Leaf) → LeafIn nodes n h → LeafIn nodes m h
  leaf_wider (shape.whole i) h = tt
  leaf_wider (shape.flag b) h = tt
  leaf_wider shape.unit h = tt
  leaf_wider (shape.use_of x) h = omega arith
  leaf_wider (shape.qualified i x) h = tt
  leaf_wider shape.assert_false h = tt
  leaf_wider shape.map_empty h = tt

  shape_wider : (s : Shape) → ShapeIn nodes n s → ShapeIn nodes m s
  shape_wider (shape.leaf h) r = leaf_wider h r
  shape_wider (shape.one h a) r = omega arith
  shape_wider (shape.two h a b) r = (let x = r.0 in omega arith, let x = r.1 in omega arith)
  shape_wider (shape.three h a b c) r = (let x = r.0 in omega arith, let x = r.1 in omega arith, let x = r.2 in omega arith)
  shape_wider (shape.row h ts) r = λ k d l. let x = r k d l in omega arith
  shape_wider (shape.function p b) r = (pattern_wider p r.0, let x = r.1 in omega arith)
  shape_wider (shape.let_in p e b) r = (pattern_wider p r.0, let x = r.1 in omega arith, let x = r.2 in omega arith)
  shape_wider (shape.let_rec f i q p e b) r = (let x = r.0 in omega arith, let x = r.1 in omega arith, let x = r.2 in omega arith)
  shape_wider (shape.match_on e as_) r = (let x = r.0 in omega arith, λ k d l. let x = r.1 k d l in (λ i f j. let y = x.0 i f j in omega arith, let y = x.1 in omega arith))

  tree_wider : (e : Tree) → TreeIn nodes n e → TreeIn nodes m e
  tree_wider (tree i p f) h = (let x = h.0 in omega arith, shape_wider (shape_of f) h.1)

  item_wider : (f : ItemForm) → ItemIn nodes n f → ItemIn nodes m f
  item_wider (type_of d) h = tt
  item_wider (let_of q e) h = (pattern_wider q h.0, let x = h.1 in omega arith)
  item_wider (let_rec_of f r) h = (let x = h.0 in omega arith, let x = h.1 in omega arith)

  pub visit_wider : (v : Visit) → VisitIn nodes n v → VisitIn nodes m v
  visit_wider (enter_item i) h = tt
  visit_wider (leave_item i) h = item_wider i.form h
  visit_wider (enter e) h = tt
  visit_wider (leave e) h = tree_wider e h
  visit_wider (leave_function r) h = (pattern_wider r.parameter h.0, let x = h.1 in omega arith, let x = h.2 in omega arith)
  visit_wider (declare q) h = tt
  visit_wider (show q) h = tt
  visit_wider (hide q) h = tt
  visit_wider (show_name x) h = tt
  visit_wider (hide_name x) h = tt

-- the rules of the visits that came are there
pub record IsGathering (cs : Constructors) (nodes slots : ℕ) (all left : List Visit) (ends : List ℕ) (s : System) : Type 0 where
  pub done : List Visit
  pub all_is : all ≡ done ++ left
  pub system : IsSystem s
  pub longer : slots ≤ count_of s
  pub gathered : (g : Signature) → HasSignature cs g → IsGathered g nodes slots done ends s

pub gathering_none : (cs : Constructors) (nodes slots : ℕ) (all left : List Visit) (s : System) → IsFresh slots s → left ≡ all → IsGathering cs nodes slots all left [] s
gathering_none cs nodes slots all left s h e = record {
  done = [];
  all_is = sym e;
  system = h.system;
  longer = let x = h.long in omega arith;
  gathered = λ g k. gathered_none g nodes slots s h;
}

pub next_in : (cs : Constructors) (nodes slots : ℕ) (all left rest : List Visit) (ends : List ℕ) (s : System) (v : Visit) → IsGathering cs nodes slots all left ends s → left ≡ v ∷ rest → All (VisitIn nodes slots) all
    → VisitIn nodes slots v
next_in cs nodes slots all left rest ends s v i e a = all_right (VisitIn nodes slots) i.done (v ∷ rest) (subst (All (VisitIn nodes slots)) (i.all_is ∙ ap (λ (l : List Visit). i.done ++ l) e) a) 0 v (omega arith)

pub gathering_more : (cs : Constructors) (nodes slots : ℕ) (all left rest : List Visit) (ends longer_ends : List ℕ) (s new : System) (v : Visit) → IsGathering cs nodes slots all left ends s → left ≡ v ∷ rest
    → All (VisitIn nodes slots) all → IsLonger s new → ((g : Signature) → HasSignature cs g → Adds s new (VisitRule g nodes v)) → longer_ends ≡ ends ++ length new.equations.items ∷ []
    → IsGathering cs nodes slots all rest longer_ends new
gathering_more cs nodes slots all left rest ends longer_ends s new v i e a l r q = record {
  done = i.done ++ v ∷ [];
  all_is = i.all_is ∙ ap (λ (x : List Visit). i.done ++ x) e ∙ sym (append_assoc i.done (v ∷ []) rest);
  system = l.system;
  longer = let x = i.longer in let y = l.longer in omega arith;
  gathered = λ g h. subst (λ es. IsGathered g nodes slots (i.done ++ v ∷ []) es new) (sym q)
      (gathered_more g nodes slots i.done ends s new v (i.gathered g h) (next_in cs nodes slots all left rest ends s v i e a) (r g h));
}
