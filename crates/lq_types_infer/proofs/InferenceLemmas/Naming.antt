-- The rule of a visit rests on the types of the slots that it names.
use Rattle.std.proofs.Common.{◌≡◌, ℕ, zero, suc, ◌+◌, List, [], ◌∷◌, ◌++◌, map, All, refl, sym, ap, ap₂, subst, ◌∙◌, arith}
use Rattle.lq_text_tree.specs.MlType as ml
use Rattle.lq_text_tree.specs.MlType.{MlType, MlTypes}
use Rattle.lq_text_tree.specs.Items.{ItemForm, type_of, let_of, let_rec_of}
use Rattle.lq_text_tree.specs.Pattern.{Pattern, pattern, PatternForm, any, bind, nothing, tuple_of, build_of, Patterns, no_patterns, more_patterns, bound_in, bound_in_form, bound_in_all}
use Rattle.lq_text_tree.specs.Tree.{Tree, tree}
use Rattle.lq_text_tree.specs.TreeView.{Case, Recursive}
use Rattle.lq_text_tree.specs.Types.{Signature, Builds, Lists}
use Rattle.lq_text_tree.specs.TypingRules.{type_in, PatternIs, PatternFormIs, PatternsAre, ItemPatternIs}
use Rattle.lq_text_walk.specs.Walk.Shape as shape
use Rattle.lq_text_walk.specs.Walk.Shape.{Leaf, One, Two, Three, Row, Shape, shape_of}
use Rattle.lq_text_walk.specs.Walk.Visits.{Visit, enter_item, leave_item, enter, leave, leave_function, declare, show, hide, show_name, hide_name}
use Rattle.lq_types_rules.specs.Equations.Solutions.{each}
use Rattle.lq_types_rules.specs.Equations.Rows.{annotation_of, number_of, LeafIs, OneIs, TwoIs, ThreeIs, last_of, ChainIs, RowIs, ArmsFit, ShapeIs, TreeRule, FunctionRule, ItemRule}
use Rattle.lq_types_rules.specs.Equations.Gathered.{VisitRule}
use Rattle.lq_types_rules.proofs.EquationsLemmas.Forming.{numbered, shape_to, shape_from}
use Rattle.lq_types_rules.specs.Visits.Owning.{binder_slots, pattern_slots, leaf_slots, cases_slots, shape_slots, tree_slots, function_slots, item_slots, visit_slots}

-- ---- facts of each of a list

pub all_first : {X : Type 0} (P : X → Type 0) (x : X) (xs : List X) → All P (x ∷ xs) → P x
all_first P x xs a = a 0 x (omega arith)

pub all_rest : {X : Type 0} (P : X → Type 0) (x : X) (xs : List X) → All P (x ∷ xs) → All P xs
all_rest P x xs a k d l = a (suc k) d (omega arith)

pub all_left : {X : Type 0} (P : X → Type 0) (xs ys : List X) → All P (xs ++ ys) → All P xs
all_left P [] ys a k d l = absurd (omega arith)
all_left P (x ∷ xs) ys a zero d l = a 0 x (omega arith)
all_left P (x ∷ xs) ys a (suc k) d l = all_left P xs ys (all_rest P x (xs ++ ys) a) k d (omega arith)

pub all_right : {X : Type 0} (P : X → Type 0) (xs ys : List X) → All P (xs ++ ys) → All P ys
all_right P [] ys a = a
all_right P (x ∷ xs) ys a = all_right P xs ys (all_rest P x (xs ++ ys) a)

-- ---- what rests on what

module _ (nodes : ℕ) (t later : ℕ → MlType) where
  -- they have the same types of these slots
  abbrev pub Same : List ℕ → Type 0
  Same is = All (λ i. later i ≡ t i) is

  head_is : (i : ℕ) (is : List ℕ) → Same (i ∷ is) → later i ≡ t i
  head_is i is h = all_first (λ (j : ℕ). later j ≡ t j) i is h

  tail_is : (i : ℕ) (is : List ℕ) → Same (i ∷ is) → Same is
  tail_is i is h = all_rest (λ (j : ℕ). later j ≡ t j) i is h

  left_is : (is js : List ℕ) → Same (is ++ js) → Same is
  left_is is js h = all_left (λ (j : ℕ). later j ≡ t j) is js h

  right_is : (is js : List ℕ) → Same (is ++ js) → Same js
  right_is is js h = all_right (λ (j : ℕ). later j ≡ t j) is js h

  slots_left : (xs ys : List ℕ) → Same (binder_slots nodes (xs ++ ys)) → Same (binder_slots nodes xs)
  slots_left [] ys h k d l = absurd (omega arith)
  slots_left (x ∷ xs) ys h zero d l = h 0 (nodes + x) (omega arith)
  slots_left (x ∷ xs) ys h (suc k) d l = slots_left xs ys (tail_is (nodes + x) (binder_slots nodes (xs ++ ys)) h) k d (omega arith)

  slots_right : (xs ys : List ℕ) → Same (binder_slots nodes (xs ++ ys)) → Same (binder_slots nodes ys)
  slots_right [] ys h = h
  slots_right (x ∷ xs) ys h = slots_right xs ys (tail_is (nodes + x) (binder_slots nodes (xs ++ ys)) h)

  each_is : (ps : List ℕ) → Same ps → each later ps ≡ each t ps
  each_is [] h = refl
  each_is (p ∷ ps) h = ap₂ ml.more_types (head_is p ps h) (each_is ps (tail_is p ps h))

  module _ (g : Signature) where
    mutual
      pattern_rests : (q : Pattern) → Same (pattern_slots nodes q) → (a : MlType) → PatternIs g (annotation_of nodes t) q a → PatternIs g (annotation_of nodes later) q a
      pattern_rests (pattern p f) h a e = form_rests f h a e

      form_rests : (f : PatternForm) → Same (binder_slots nodes (bound_in_form f)) → (a : MlType) → PatternFormIs g (annotation_of nodes t) f a → PatternFormIs g (annotation_of nodes later) f a
      form_rests any h a e = tt
      form_rests (bind x) h a e = head_is (nodes + x) [] h ∙ e
      form_rests nothing h a e = e
      form_rests (tuple_of qs) h a e = (e.0, e.1, all_rest_on qs h e.0 e.2)
      form_rests (build_of c p qs) h a e = (e.0, e.1, all_rest_on qs h e.0 e.2)

      all_rest_on : (qs : Patterns) → Same (binder_slots nodes (bound_in_all qs)) → (ts : MlTypes) → PatternsAre g (annotation_of nodes t) qs ts → PatternsAre g (annotation_of nodes later) qs ts
      all_rest_on no_patterns h ts e = e
      all_rest_on (more_patterns q qs) h ts e =
          (e.0, e.1, e.2, pattern_rests q (slots_left (bound_in q) (bound_in_all qs) h) e.0 e.3, all_rest_on qs (slots_right (bound_in q) (bound_in_all qs) h) e.1 e.4)

    pattern_at : (q : Pattern) (slot : ℕ) → Same (pattern_slots nodes q) → later slot ≡ t slot → PatternIs g (annotation_of nodes t) q (t slot) → PatternIs g (annotation_of nodes later) q (later slot)
    pattern_at q slot h l e = subst (PatternIs g (annotation_of nodes later) q) (sym l) (pattern_rests q h (t slot) e)

    leaf_rests : (h : Leaf) (at : ℕ) → later at ≡ t at → Same (leaf_slots nodes h) → LeafIs nodes h at t → LeafIs nodes h at later
    leaf_rests (shape.whole m) at l i e = l ∙ e
    leaf_rests (shape.flag b) at l i e = l ∙ e
    leaf_rests shape.unit at l i e = l ∙ e
    leaf_rests (shape.use_of x) at l i e = l ∙ e ∙ sym (head_is (nodes + x) [] i)
    leaf_rests (shape.qualified m x) at l i e = e
    leaf_rests shape.assert_false at l i e = e
    leaf_rests shape.map_empty at l i e = e

    one_rests : (h : One) (a at : ℕ) → later at ≡ t at → later a ≡ t a → OneIs h a at t → OneIs h a at later
    one_rests shape.negated a at l i e = (i ∙ e.0, l ∙ e.1)
    one_rests shape.not_of a at l i e = (i ∙ e.0, l ∙ e.1)
    one_rests shape.assert a at l i e = (i ∙ e.0, l ∙ e.1)
    one_rests shape.length_of a at l i e = (e.0, i ∙ e.1, l ∙ e.2)
    one_rests shape.print a at l i e = (i ∙ e.0, l ∙ e.1)
    one_rests shape.read a at l i e = (i ∙ e.0, l ∙ e.1)

    two_rests : (h : Two) (a b at : ℕ) → later at ≡ t at → later a ≡ t a → later b ≡ t b → TwoIs h a b at t → TwoIs h a b at later
    two_rests shape.call a b at l i j e = i ∙ e ∙ ap₂ ml.arrow (sym j) (sym l)
    two_rests (shape.arithmetic o) a b at l i j e = (i ∙ e.0, j ∙ e.1, l ∙ e.2)
    two_rests (shape.compare o) a b at l i j e = (i ∙ e.0, j ∙ e.1, l ∙ e.2)
    two_rests shape.and_of a b at l i j e = (i ∙ e.0, j ∙ e.1, l ∙ e.2)
    two_rests shape.or_of a b at l i j e = (i ∙ e.0, j ∙ e.1, l ∙ e.2)
    two_rests shape.make a b at l i j e = (i ∙ e.0, l ∙ e.1 ∙ ap ml.array (sym j))
    two_rests shape.fetch a b at l i j e = (i ∙ e.0 ∙ ap ml.array (sym l), j ∙ e.1)
    two_rests shape.map_find a b at l i j e = e

    three_rests : (h : Three) (a b c at : ℕ) → later at ≡ t at → later a ≡ t a → later b ≡ t b → later c ≡ t c → ThreeIs h a b c at t → ThreeIs h a b c at later
    three_rests shape.if_else a b c at l i j k e = (i ∙ e.0, j ∙ e.1 ∙ sym l, k ∙ e.2 ∙ sym l)
    three_rests shape.store a b c at l i j k e = (i ∙ e.0 ∙ ap ml.array (sym k), j ∙ e.1, l ∙ e.2)
    three_rests shape.map_add a b c at l i j k e = e

    last_is : (a : ℕ) (as_ : List ℕ) → Same (a ∷ as_) → later (last_of a as_) ≡ t (last_of a as_)
    last_is a [] h = head_is a [] h
    last_is a (b ∷ bs) h = last_is b bs (tail_is a (b ∷ bs) h)

    chain_rests : (ps : List ℕ) (at : ℕ) → later at ≡ t at → Same ps → ChainIs ps at t → ChainIs ps at later
    chain_rests [] at l h e = l ∙ e
    chain_rests (a ∷ as_) at l h e = l ∙ e ∙ sym (last_is a as_ h)

    row_rests : (h : Row) (ps : List ℕ) (at : ℕ) → later at ≡ t at → Same ps → RowIs g h ps at t → RowIs g h ps at later
    row_rests shape.tuple ps at l h e = l ∙ e ∙ ap ml.tuple (sym (each_is ps h))
    row_rests (shape.build c w) ps at l h e = subst (Builds g c (each later ps)) (sym l) (subst (λ ts. Builds g c ts (t at)) (sym (each_is ps h)) e)
    row_rests shape.list_of ps at l h e = subst (Lists (each later ps)) (sym l) (subst (λ ts. Lists ts (t at)) (sym (each_is ps h)) e)
    row_rests shape.chain ps at l h e = chain_rests ps at l h e

    arms_rest : (cs : List Case) (m at : ℕ) → later at ≡ t at → later m ≡ t m → Same (cases_slots nodes cs) → ArmsFit g nodes cs m at t → ArmsFit g nodes cs m at later
    arms_rest [] m at l i h e = tt
    arms_rest (c ∷ cs) m at l i h e =
        let rest = tail_is (number_of c.body) (pattern_slots nodes c.pattern ++ cases_slots nodes cs) h in (
          pattern_at c.pattern m (left_is (pattern_slots nodes c.pattern) (cases_slots nodes cs) rest) i e.0,
          head_is (number_of c.body) (pattern_slots nodes c.pattern ++ cases_slots nodes cs) h ∙ e.1 ∙ sym l,
          arms_rest cs m at l i (right_is (pattern_slots nodes c.pattern) (cases_slots nodes cs) rest) e.2,
        )

    shape_rests : (h : Shape) (at : ℕ) → later at ≡ t at → Same (shape_slots nodes h) → ShapeIs g nodes h at t → ShapeIs g nodes h at later
    shape_rests (shape.leaf h) at l i r = leaf_rests h at l i r
    shape_rests (shape.one h a) at l i r = one_rests h (number_of a) at l (i 0 0 (omega arith)) r
    shape_rests (shape.two h a b) at l i r = two_rests h (number_of a) (number_of b) at l (i 0 0 (omega arith)) (i 1 0 (omega arith)) r
    shape_rests (shape.three h a b c) at l i r = three_rests h (number_of a) (number_of b) (number_of c) at l (i 0 0 (omega arith)) (i 1 0 (omega arith)) (i 2 0 (omega arith)) r
    shape_rests (shape.row h ts) at l i r = row_rests h (map number_of ts) at l i r
    shape_rests (shape.function p b) at l i r =
        let n = number_of b in (r.0, l ∙ r.1 ∙ ap (ml.arrow r.0) (sym (head_is n (pattern_slots nodes p) i)), pattern_rests p (tail_is n (pattern_slots nodes p) i) r.0 r.2)
    shape_rests (shape.let_in p e b) at l i r =
        let n = number_of e in
        let m = number_of b in (
          l ∙ r.0 ∙ sym (i 1 0 (omega arith)),
          pattern_at p n (tail_is m (pattern_slots nodes p) (tail_is n (m ∷ pattern_slots nodes p) i)) (i 0 0 (omega arith)) r.1,
        )
    shape_rests (shape.let_rec f k q p e b) at l i r = (l ∙ r.0 ∙ sym (i 2 0 (omega arith)), i 1 0 (omega arith) ∙ r.1 ∙ sym (i 0 0 (omega arith)))
    shape_rests (shape.match_on e as_) at l i r =
        let n = number_of e in arms_rest as_ n at l (head_is n (cases_slots nodes as_) i) (tail_is n (cases_slots nodes as_) i) r

    tree_rests : (e : Tree) → Same (tree_slots nodes e) → TreeRule g nodes e t → TreeRule g nodes e later
    tree_rests (tree i p f) h r =
        shape_to nodes later g i f (shape_rests (shape_of f) i (head_is i (shape_slots nodes (shape_of f)) h) (tail_is i (shape_slots nodes (shape_of f)) h) (shape_from nodes t g i f r))

    function_rests : (r : Recursive) → Same (function_slots nodes r) → FunctionRule g nodes r t → FunctionRule g nodes r later
    function_rests r h e =
        let n = number_of r.body in (
          e.0,
          h 0 0 (omega arith) ∙ e.1 ∙ ap (ml.arrow e.0) (numbered nodes t r.body ∙ sym (h 1 0 (omega arith)) ∙ sym (numbered nodes later r.body)),
          pattern_rests r.parameter (tail_is n (pattern_slots nodes r.parameter) (tail_is r.id (n ∷ pattern_slots nodes r.parameter) h)) e.0 e.2,
        )

    item_pattern_rests : (q : Pattern) (a : MlType) → Same (pattern_slots nodes q) → ItemPatternIs (annotation_of nodes t) q a → ItemPatternIs (annotation_of nodes later) q a
    item_pattern_rests (pattern p any) a h e = tt
    item_pattern_rests (pattern p (bind x)) a h e = head_is (nodes + x) [] h ∙ e
    item_pattern_rests (pattern p nothing) a h e = e
    item_pattern_rests (pattern p (tuple_of qs)) a h e = e
    item_pattern_rests (pattern p (build_of c m qs)) a h e = e

    item_rests : (f : ItemForm) → Same (item_slots nodes f) → ItemRule nodes f t → ItemRule nodes f later
    item_rests (type_of d) h e = tt
    item_rests (let_of q b) h e =
        let n = number_of b in
        subst (ItemPatternIs (annotation_of nodes later) q) (numbered nodes t b ∙ sym (head_is n (pattern_slots nodes q) h) ∙ sym (numbered nodes later b))
        (item_pattern_rests q (type_in (annotation_of nodes t) b) (tail_is n (pattern_slots nodes q) h) e)
    item_rests (let_rec_of f r) h e = h 1 0 (omega arith) ∙ e ∙ sym (h 0 0 (omega arith))

    pub visit_rests : (v : Visit) → Same (visit_slots nodes v) → VisitRule g nodes v t → VisitRule g nodes v later
    visit_rests (enter_item i) h e = tt
    visit_rests (leave_item i) h e = item_rests i.form h e
    visit_rests (enter x) h e = tt
    visit_rests (leave x) h e = tree_rests x h e
    visit_rests (leave_function r) h e = function_rests r h e
    visit_rests (declare q) h e = tt
    visit_rests (show q) h e = tt
    visit_rests (hide q) h e = tt
    visit_rests (show_name x) h e = tt
    visit_rests (hide_name x) h e = tt
