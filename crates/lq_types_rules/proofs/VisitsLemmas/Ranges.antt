-- Where the slots that the rule of a visit names are in range, so are its numbers.
use Rattle.std.specs.Prelude.{All}
use Rattle.std.proofs.Common.{◌≡◌, ℕ, ◌+◌, ◌<◌, List, [], ◌∷◌, map, None, refl, subst}
use Rattle.std.proofs.lemmas.List.Elements.{All-nil, All-cons}
use Rattle.lq_text_tree.specs.Items.{ItemForm, type_of, let_of, let_rec_of}
use Rattle.lq_text_tree.specs.Pattern.{Pattern, bound_in}
use Rattle.lq_text_tree.specs.Tree.{Tree, tree}
use Rattle.lq_text_tree.specs.TreeView.{Case}
use Rattle.lq_text_walk.specs.Walk.Shape as shape
use Rattle.lq_text_walk.specs.Walk.Shape.{Leaf, Shape, shape_of}
use Rattle.lq_text_walk.specs.Walk.Visits.{Visit, enter_item, leave_item, enter, leave, leave_function, declare, show, hide, show_name, hide_name}
use Rattle.lq_types_rules.specs.Equations.Gathered.{VisitIn}
use Rattle.lq_types_rules.specs.Equations.Rows.{number_of}
use Rattle.lq_types_rules.specs.Equations.Within.{PatternIn, LeafIn, CaseIn, ShapeIn, ItemIn}
use Rattle.lq_types_rules.specs.Typings.Uses.{none_known, use_at_leaf, use_at_shape}
use Rattle.lq_types_rules.specs.Visits.Owning.{pattern_slots, leaf_slots, cases_slots, shape_slots, item_slots, slots_by, slots_at}
use Rattle.lq_types_rules.proofs.VisitsLemmas.Lists.{AllOf, all_left, all_right, to_all, from_slots}

-- without generalised definitions no visit is a use of one
no_use_leaf : (i : ℕ) (h : Leaf) → use_at_leaf none_known i h ≡ None
no_use_leaf i (shape.whole m) = refl
no_use_leaf i (shape.flag b) = refl
no_use_leaf i shape.unit = refl
no_use_leaf i (shape.use_of x) = refl
no_use_leaf i (shape.qualified m x) = refl
no_use_leaf i shape.assert_false = refl
no_use_leaf i shape.map_empty = refl

no_use : (i : ℕ) (s : Shape) → use_at_shape none_known i s ≡ None
no_use i (shape.leaf h) = no_use_leaf i h
no_use i (shape.one h a) = refl
no_use i (shape.two h a b) = refl
no_use i (shape.three h a b c) = refl
no_use i (shape.row h ts) = refl
no_use i (shape.function p b) = refl
no_use i (shape.let_in p e b) = refl
no_use i (shape.let_rec f j q p e b) = refl
no_use i (shape.match_on e as_) = refl

module _ (nodes n : ℕ) where
  abbrev pub AreLow : List ℕ → Type 0
  AreLow = AllOf (λ j. j < n)

  pattern_in : (q : Pattern) → AreLow (pattern_slots nodes q) → PatternIn nodes n q
  pattern_in q h = to_all (λ x. nodes + x < n) (bound_in q) (from_slots (λ j. j < n) nodes (bound_in q) h)

  leaf_in : (h : Leaf) → AreLow (leaf_slots nodes h) → LeafIn nodes n h
  leaf_in (shape.whole m) low = tt
  leaf_in (shape.flag b) low = tt
  leaf_in shape.unit low = tt
  leaf_in (shape.use_of x) low = low.0
  leaf_in (shape.qualified m x) low = tt
  leaf_in shape.assert_false low = tt
  leaf_in shape.map_empty low = tt

  row_in : (ts : List Tree) → AreLow (map number_of ts) → All (λ t. number_of t < n) ts
  row_in [] low = All-nil (λ t. number_of t < n)
  row_in (t ∷ ts) low = All-cons (λ t. number_of t < n) t ts low.0 (row_in ts low.1)

  cases_in : (cs : List Case) → AreLow (cases_slots nodes cs) → All (CaseIn nodes n) cs
  cases_in [] low = All-nil (CaseIn nodes n)
  cases_in (c ∷ cs) low =
      let own = all_left (λ j. j < n) (pattern_slots nodes c.pattern) (cases_slots nodes cs) low.1 in
      All-cons (CaseIn nodes n) c cs (pattern_in c.pattern own, low.0)
      (cases_in cs (all_right (λ j. j < n) (pattern_slots nodes c.pattern) (cases_slots nodes cs) low.1))

  shape_in : (s : Shape) → AreLow (shape_slots nodes s) → ShapeIn nodes n s
  shape_in (shape.leaf h) low = leaf_in h low
  shape_in (shape.one h a) low = low.0
  shape_in (shape.two h a b) low = (low.0, low.1.0)
  shape_in (shape.three h a b c) low = (low.0, low.1.0, low.1.1.0)
  shape_in (shape.row h ts) low = row_in ts low
  shape_in (shape.function p b) low = (pattern_in p low.1, low.0)
  shape_in (shape.let_in p e b) low = (pattern_in p low.1.1, low.0, low.1.0)
  shape_in (shape.let_rec f i q p e b) low = (low.0, low.1.0, low.1.1.0)
  shape_in (shape.match_on e as_) low = (low.0, cases_in as_ low.1)

  pub item_in : (f : ItemForm) → AreLow (item_slots nodes f) → ItemIn nodes n f
  item_in (type_of d) low = tt
  item_in (let_of q e) low = (pattern_in q low.1, low.0)
  item_in (let_rec_of f r) low = (low.0, low.1.0)

  pub visit_in : (v : Visit) → AreLow (slots_at nodes none_known v) → VisitIn nodes n v
  visit_in (enter_item i) low = tt
  visit_in (leave_item i) low = item_in i.form low
  visit_in (enter e) low = tt
  visit_in (leave (tree i p f)) low =
      let all = subst (λ o. AreLow (slots_by nodes o (i ∷ shape_slots nodes (shape_of f)))) (no_use i (shape_of f)) low in
      (all.0, shape_in (shape_of f) all.1)
  visit_in (leave_function r) low = (pattern_in r.parameter low.1.1, low.1.0, low.0)
  visit_in (declare q) low = tt
  visit_in (show q) low = tt
  visit_in (hide q) low = tt
  visit_in (show_name x) low = tt
  visit_in (hide_name x) low = tt
