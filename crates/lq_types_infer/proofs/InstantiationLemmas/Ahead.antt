-- What holds of the visits that are left, one visit after another.
use Rattle.std.specs.Prelude.{All}
use Rattle.std.proofs.Common.{◌≡◌, ℕ, suc, ◌+◌, ◌<◌, List, [], ◌∷◌, ◌++◌, length, Option, Some, None, ◌⊎◌, inl, inr, refl, sym, ap, subst, arith}
use Rattle.std.proofs.lemmas.List.Elements.{All-head, All-tail}
use Rattle.lq_text_tree.specs.MlType.{MlType}
use Rattle.lq_text_tree.specs.Tree.{tree}
use Rattle.lq_text_walk.specs.Walk.Shape as shape
use Rattle.lq_text_walk.specs.Walk.Shape.{Leaf, Shape, shape_of}
use Rattle.lq_text_walk.specs.Walk.Visits.{Visit, enter_item, leave_item, enter, leave, leave_function, declare, show, hide, show_name, hide_name, visits_of_items}
use Rattle.lq_text_walk.specs.Scoped.Numbers.{from_on}
use Rattle.lq_text_walk.specs.Scoped.Scoping.{Scoping, IsScoped}
use Rattle.lq_text_walk.specs.Scoped.Signature.{signature_in}
use Rattle.lq_types_rules.specs.Equations.Gathered.{VisitIn, VisitRule}
use Rattle.lq_types_rules.specs.Equations.Within.{LeafIn, ShapeIn}
use Rattle.lq_types_rules.specs.Visits.Laws.{slot_count, ScopedVisitsAreIn}
use Rattle.lq_types_rules.specs.Typings.Fronts.{left_at, left_in}
use Rattle.lq_types_rules.specs.Typings.Inference.{typed, IsInference}
use Rattle.lq_types_rules.specs.Typings.Laws.{VisitsAreRules}
use Rattle.lq_types_rules.specs.Typings.Principal.{node_count}
use Rattle.lq_types_rules.specs.Typings.Uses.{Known, GeneralUse, none_known, behind, before_in, use_by, use_at_leaf, use_at_shape, use_at, RuleBy, CopyRule}
use Rattle.lq_types_infer.proofs.InferenceLemmas.Leaving.{items_left}
use Rattle.lq_types_infer.specs.Instantiation.Visiting.{IsUseIf, IsAhead}

-- ---- a use's node and binder

abbrev node_or : Option GeneralUse → ℕ
node_or None = 0
node_or (Some u) = u.node

abbrev binder_or : Option GeneralUse → ℕ
binder_or None = 0
binder_or (Some u) = u.binder

module _ (i x : ℕ) (u : GeneralUse) where
  by_node : (o : Option (List ℕ)) → use_by i x o ≡ Some u → i ≡ u.node
  by_node None e = absurd (cc)
  by_node (Some ps) e = ap node_or e

  by_binder : (o : Option (List ℕ)) → use_by i x o ≡ Some u → x ≡ u.binder
  by_binder None e = absurd (cc)
  by_binder (Some ps) e = ap binder_or e

module _ (k : Known) (i : ℕ) (u : GeneralUse) where
  leaf_node : (h : Leaf) → use_at_leaf k i h ≡ Some u → i ≡ u.node
  leaf_node (shape.use_of x) e = by_node i x u (before_in k.general x) e
  leaf_node (shape.whole m) e = absurd (cc)
  leaf_node (shape.flag b) e = absurd (cc)
  leaf_node shape.unit e = absurd (cc)
  leaf_node (shape.qualified m x) e = absurd (cc)
  leaf_node shape.assert_false e = absurd (cc)
  leaf_node shape.map_empty e = absurd (cc)

  shape_node : (h : Shape) → use_at_shape k i h ≡ Some u → i ≡ u.node
  shape_node (shape.leaf h) e = leaf_node h e
  shape_node (shape.one h a) e = absurd (cc)
  shape_node (shape.two h a b) e = absurd (cc)
  shape_node (shape.three h a b c) e = absurd (cc)
  shape_node (shape.row h ts) e = absurd (cc)
  shape_node (shape.function p b) e = absurd (cc)
  shape_node (shape.let_in p e b) h = absurd (cc)
  shape_node (shape.let_rec f n q p e b) h = absurd (cc)
  shape_node (shape.match_on e as_) h = absurd (cc)

  module _ (nodes n : ℕ) where
    leaf_binder : (h : Leaf) → use_at_leaf k i h ≡ Some u → LeafIn nodes n h → nodes + u.binder < n
    leaf_binder (shape.use_of x) e l =
        let same = by_binder i x u (before_in k.general x) e in omega (arith, same, l)
    leaf_binder (shape.whole m) e l = absurd (cc)
    leaf_binder (shape.flag b) e l = absurd (cc)
    leaf_binder shape.unit e l = absurd (cc)
    leaf_binder (shape.qualified m x) e l = absurd (cc)
    leaf_binder shape.assert_false e l = absurd (cc)
    leaf_binder shape.map_empty e l = absurd (cc)

    shape_binder : (h : Shape) → use_at_shape k i h ≡ Some u → ShapeIn nodes n h → nodes + u.binder < n
    shape_binder (shape.leaf h) e l = leaf_binder h e l
    shape_binder (shape.one h a) e l = absurd (cc)
    shape_binder (shape.two h a b) e l = absurd (cc)
    shape_binder (shape.three h a b c) e l = absurd (cc)
    shape_binder (shape.row h ts) e l = absurd (cc)
    shape_binder (shape.function p b) e l = absurd (cc)
    shape_binder (shape.let_in p e b) h l = absurd (cc)
    shape_binder (shape.let_rec f m q p e b) h l = absurd (cc)
    shape_binder (shape.match_on e as_) h l = absurd (cc)

module _ (k : Known) (u : GeneralUse) where
  pub node_left : (v : Visit) → use_at k v ≡ Some u → left_at v ≡ u.node ∷ []
  node_left (enter_item i) e = absurd (cc)
  node_left (leave_item i) e = absurd (cc)
  node_left (enter t) e = absurd (cc)
  node_left (leave (tree i p f)) e = ap (λ (n : ℕ). n ∷ []) (shape_node k i u (shape_of f) e)
  node_left (leave_function r) e = absurd (cc)
  node_left (declare q) e = absurd (cc)
  node_left (show q) e = absurd (cc)
  node_left (hide q) e = absurd (cc)
  node_left (show_name x) e = absurd (cc)
  node_left (hide_name x) e = absurd (cc)

  binder_low : (nodes n : ℕ) (v : Visit) → use_at k v ≡ Some u → VisitIn nodes n v → nodes + u.binder < n
  binder_low nodes n (enter_item i) e l = absurd (cc)
  binder_low nodes n (leave_item i) e l = absurd (cc)
  binder_low nodes n (enter t) e l = absurd (cc)
  binder_low nodes n (leave (tree i p f)) e l = shape_binder k i u nodes n (shape_of f) e l.1
  binder_low nodes n (leave_function r) e l = absurd (cc)
  binder_low nodes n (declare q) e l = absurd (cc)
  binder_low nodes n (show q) e l = absurd (cc)
  binder_low nodes n (hide q) e l = absurd (cc)
  binder_low nodes n (show_name x) e l = absurd (cc)
  binder_low nodes n (hide_name x) e l = absurd (cc)

-- ---- one visit more

pub left_cases : (v : Visit) → (left_at v ≡ []) ⊎ ((j : ℕ) × (left_at v ≡ j ∷ []))
left_cases (enter_item i) = inl refl
left_cases (leave_item i) = inl refl
left_cases (enter t) = inl refl
left_cases (leave (tree i p f)) = inr (i, refl)
left_cases (leave_function r) = inr (r.id, refl)
left_cases (declare q) = inl refl
left_cases (show q) = inl refl
left_cases (hide q) = inl refl
left_cases (show_name x) = inl refl
left_cases (hide_name x) = inl refl

abbrev pub first_or : List ℕ → ℕ
first_or [] = 0
first_or (x ∷ xs) = x

abbrev rest_of : List ℕ → List ℕ
rest_of [] = []
rest_of (x ∷ xs) = xs

module _ (s : Scoping) (types : ℕ → MlType) (k : Known) (v : Visit) (vs : List Visit) (count : ℕ)
    (ahead : IsAhead s types k (v ∷ vs) count) where
  within_rest : All (VisitIn (node_count s) (slot_count s)) vs
  within_rest = All-tail (VisitIn (node_count s) (slot_count s)) v vs ahead.within

  pub ahead_none : left_at v ≡ [] → IsAhead s types (behind k v) vs count
  ahead_none none =
      let same : left_in (v ∷ vs) ≡ left_in vs = ap (λ (l : List ℕ). l ++ left_in vs) none in
      record {
        obeys = ahead.obeys.1;
        within = within_rest;
        numbers = subst (λ (l : List ℕ). l ≡ from_on count (length l)) same ahead.numbers;
        total = subst (λ (l : List ℕ). count + length l ≡ node_count s) same ahead.total;
      }

  module _ (j : ℕ) (one : left_at v ≡ j ∷ []) where
    same_left : left_in (v ∷ vs) ≡ j ∷ left_in vs
    same_left = ap (λ (l : List ℕ). l ++ left_in vs) one

    numbered : j ∷ left_in vs ≡ count ∷ from_on (suc count) (length (left_in vs))
    numbered = subst (λ (l : List ℕ). l ≡ from_on count (length l)) same_left ahead.numbers

    totalled : count + length (j ∷ left_in vs) ≡ node_count s
    totalled = subst (λ (l : List ℕ). count + length l ≡ node_count s) same_left ahead.total

    pub next_is : j ≡ count
    next_is = ap first_or numbered

    pub next_low : count < node_count s
    next_low = let t = totalled in omega (arith, t)

    pub ahead_one : IsAhead s types (behind k v) vs (suc count)
    ahead_one = record {
      obeys = ahead.obeys.1;
      within = within_rest;
      numbers = ap rest_of numbered;
      total = let t = totalled in omega (arith, t);
    }

  use_if : (o : Option GeneralUse) → use_at k v ≡ o → IsUseIf s types o
  use_if None e = tt
  use_if (Some u) e =
      let other = VisitRule (signature_in s.datatypes) (node_count s) v types in
      let rule : CopyRule (node_count s) u types =
      subst (λ (o : Option GeneralUse). RuleBy (node_count s) o types other) e ahead.obeys.0 in
      let left = node_left k u v e in
      let low = next_low u.node left in
      let same = next_is u.node left in
      let binder = binder_low k u (node_count s) (slot_count s) v e (All-head (VisitIn (node_count s) (slot_count s)) v vs ahead.within) in
      record { node_low = omega (arith, low, same); binder_low = omega (arith, binder); copied = (rule.0, rule.2) }

  pub is_use : IsUseIf s types (use_at k v)
  is_use = use_if (use_at k v) refl

-- ---- the whole program

pub ahead_first : VisitsAreRules → ScopedVisitsAreIn → (s : Scoping) (types : ℕ → MlType) → IsScoped s → IsInference s (typed types)
    → IsAhead s types none_known (visits_of_items s.items) 0
ahead_first rules ranges s types scoped is =
    let left = items_left s.items in
    record {
      obeys = (rules (signature_in s.datatypes) (node_count s) types s scoped).visits_obey is.0.obeys;
      within = ranges s scoped;
      numbers = subst (λ (l : List ℕ). l ≡ from_on 0 (length l)) (sym left) scoped.nodes;
      total = let t = ap length left in omega (arith, t);
    }
