-- In a typed program a definition that is no value has a type without variables, and so has what its normal form ends in.
use Rattle.std.proofs.Common.{◌≡◌, ℕ, suc, ◌+◌, ◌<◌, Bool, true, false, not, ◌&&◌, if◌then◌else◌, List, [], ◌∷◌, ◌++◌, length, All, Option, Some, None, ◌⊎◌, inl, inr, refl, sym, ap, subst, ◌∙◌, arith}
use Rattle.std.proofs.Math.Logic.{∥∥₁_elim}
use Rattle.std.proofs.lemmas.Bool.{or_parts, false≢true}
use Rattle.std.proofs.lemmas.List.Elements.{All-head}
use Rattle.std.specs.Coded.{×_prop, Π_prop, Unit-prop}
use Rattle.lq_types_infer.specs.Annotation.Whole.{program_of, types_of}
use Rattle.lq_types_rules.specs.Visits.Laws.{IsOf, OwnSlots, ScopedItemsOwnSlots}
use Rattle.lq_base_names.specs.declared.place.Place.{Place}
use Rattle.lq_meaning_normal_form.specs.Outcomes.OnePass.{normal, tree_of}
use Rattle.lq_meaning_normal_form.specs.Types.Programs.{next_item, normal_item, normal_items}
use Rattle.lq_meaning_normalize.specs.Normalize.Laws.{ProgramsAreOnePass}
use Rattle.lq_refined_templates.specs.Points.Annotation.{Annotation}
use Rattle.lq_types_rules.specs.Equations.Rows.{annotation_of, number_of}
use Rattle.lq_sound_scope.specs.Scalars.Scalar.{HasNoTypeVariables, HaveNoTypeVariables, IsSettled, IsValueTree, end_type}
use Rattle.lq_text_walk.specs.Scoped.Numbers.{nodes_of, nodes_of_form, binders_in}
use Rattle.lq_text_walk.specs.Scoped.Signature.{signature_in}
use Rattle.lq_text_tree.specs.Items.{ItemTree, ItemForm, type_of, let_of, let_rec_of}
use Rattle.lq_text_tree.specs.MlType as ml
use Rattle.lq_text_tree.specs.MlType.{MlType, MlTypes}
use Rattle.lq_text_tree.specs.Pattern.{Pattern, pattern, any, bind, nothing, tuple_of, build_of, bound_in}
use Rattle.lq_text_tree.specs.Tree.{Tree, tree}
use Rattle.lq_text_tree.specs.Types.{Signature, general, Names}
use Rattle.lq_text_tree.specs.TypingRules as rules
use Rattle.lq_text_tree.specs.TypingRules.{Every, ItemIs, ItemPatternIs, ItemsAre, TreeIs, named, type_in}
use Rattle.lq_types_rules.specs.Typings.Principal.{node_count, is_open, some_open, is_weak, weak_place, first_weak}
use Rattle.lq_types_rules.specs.Typings.Uses.{is_value}
use Rattle.lq_text_walk.specs.Walk.Visits.{Visit, visits_of, visits_of_form, show, leave_item}
use Rattle.lq_sound_scope.specs.Values.Laws.{NormalFormsOfValuesAreValues, TypedProgramsAreSettled}
use Rattle.lq_sound_scope.specs.Values.Settled.{ItemIsSettled, AreSettled}
use Rattle.lq_sound_scope.proofs.ValuesLemmas.Ends.{EndsAs, end_in, ends}

-- ---- types without variables

mutual
  closed_none : (a : MlType) → is_open a ≡ false → HasNoTypeVariables a
  closed_none ml.int h = tt
  closed_none ml.bool h = tt
  closed_none ml.unit h = tt
  closed_none (ml.var i) h = false≢true (sym h)
  closed_none (ml.arrow a b) h = let both = or_parts (is_open a) (is_open b) h in (closed_none a both.0, closed_none b both.1)
  closed_none (ml.tuple ts) h = all_closed ts h
  closed_none (ml.array a) h = closed_none a h
  closed_none (ml.named d ts) h = all_closed ts h
  closed_none (ml.map_of a) h = closed_none a h

  all_closed : (ts : MlTypes) → some_open ts ≡ false → HaveNoTypeVariables ts
  all_closed ml.no_types h = tt
  all_closed (ml.more_types t ts) h = let both = or_parts (is_open t) (some_open ts) h in (closed_none t both.0, all_closed ts both.1)

mutual
  none_prop : (a : MlType) → IsProp (HasNoTypeVariables a)
  none_prop ml.int = Unit-prop
  none_prop ml.bool = Unit-prop
  none_prop ml.unit = Unit-prop
  none_prop (ml.var i) = λ a b. absurd a
  none_prop (ml.arrow a b) = ×_prop (none_prop a) (none_prop b)
  none_prop (ml.tuple ts) = nones_prop ts
  none_prop (ml.array a) = none_prop a
  none_prop (ml.named d ts) = nones_prop ts
  none_prop (ml.map_of a) = none_prop a

  nones_prop : (ts : MlTypes) → IsProp (HaveNoTypeVariables ts)
  nones_prop ml.no_types = Unit-prop
  nones_prop (ml.more_types t ts) = ×_prop (none_prop t) (nones_prop ts)

-- ---- definitions that aren't weak

closed_if : (v o : Bool) → (not v && o) ≡ false → v ≡ false → o ≡ false
closed_if true o h e = absurd (false≢true (sym e))
closed_if false o h e = h

none_weak : (p : Place) (w : Bool) (o : Option Place) → (if w then Some p else o) ≡ None → (w ≡ false) × (o ≡ None)
none_weak p true o h = absurd (cc)
none_weak p false o h = (refl, h)

module _ (n : Annotation) where
  -- a definition of a name that is no value ends in a type without variables
  abbrev IsClosed : ℕ → Pattern → Tree → Type 0
  IsClosed k (pattern p (bind x)) e = is_value e ≡ false → HasNoTypeVariables (end_type n x (tree_of (normal k e)))
  IsClosed k q e = Unit {0}

  abbrev ItemIsClosed : ℕ → ItemForm → Type 0
  ItemIsClosed k (type_of d) = Unit {0}
  ItemIsClosed k (let_of q e) = IsClosed k q e
  ItemIsClosed k (let_rec_of f r) = Unit {0}

  abbrev AreClosed : ℕ → List ItemTree → Type 0
  AreClosed k [] = Unit {0}
  AreClosed k (i ∷ is) = ItemIsClosed k i.form × AreClosed (next_item k i.form) is

  closed_prop : (k : ℕ) (q : Pattern) (e : Tree) → IsProp (IsClosed k q e)
  closed_prop k (pattern p any) e = Unit-prop
  closed_prop k (pattern p (bind x)) e = Π_prop (λ h. none_prop (end_type n x (tree_of (normal k e))))
  closed_prop k (pattern p nothing) e = Unit-prop
  closed_prop k (pattern p (tuple_of qs)) e = Unit-prop
  closed_prop k (pattern p (build_of c o qs)) e = Unit-prop

  item_prop : (k : ℕ) (f : ItemForm) → IsProp (ItemIsClosed k f)
  item_prop k (type_of d) = Unit-prop
  item_prop k (let_of q e) = closed_prop k q e
  item_prop k (let_rec_of f r) = Unit-prop

  are_prop : (k : ℕ) (is : List ItemTree) → IsProp (AreClosed k is)
  are_prop k [] = Unit-prop
  are_prop k (i ∷ is) = ×_prop (item_prop k i.form) (are_prop (next_item k i.form) is)

  -- ---- typed programs

  module _ (g : Signature) (nodes sources : ℕ) (owner : ℕ → ℕ) (types : ℕ → MlType)
      (same : (j : ℕ) → j < nodes + sources → n.types j ≡ types j) (names : (x : ℕ) → x < sources → n.names x ≡ types (nodes + x)) where
    abbrev m : rules.Annotation
    m = annotation_of nodes types

    name_closed : (k c x : ℕ) (ns : Names) (e : Tree) → x < sources → All (IsOf (nodes + sources) owner c) (nodes_of e)
        → types (nodes + x) ≡ type_in m e → TreeIs g m Every ns e → is_open (type_in m e) ≡ false
        → HasNoTypeVariables (end_type n x (tree_of (normal k e)))
    name_closed k c x ns e low slots binder rule closed =
        let N = normal k e in
        subst HasNoTypeVariables (sym (end_in n x N.lets N.last)) (of_end (ends n x (IsOf (nodes + sources) owner c) m g e ns k rule slots))
      where
        of_end : EndsAs n x (IsOf (nodes + sources) owner c) m (type_in m e) (normal k e).last → HasNoTypeVariables (end_type n x (normal k e).last)
        of_end (inl h) = subst HasNoTypeVariables (sym (h ∙ names x low ∙ binder)) (closed_none (type_in m e) closed)
        of_end (inr h) = subst HasNoTypeVariables (sym (h.1 ∙ same h.0 h.3.0 ∙ h.2)) (closed_none (type_in m e) closed)

    number_type : (e : Tree) → types (number_of e) ≡ type_in m e
    number_type (tree i p f) = refl

    let_closed : (k c : ℕ) (ns : Names) (q : Pattern) (e : Tree) (later : List ℕ) → is_weak types (let_of q e) ≡ false
        → All (IsOf (nodes + sources) owner c) (nodes_of e) → All (λ x. IsOf (nodes + sources) owner c (nodes + x)) (bound_in q ++ later)
        → ItemPatternIs m q (type_in m e) → TreeIs g m Every ns e → IsClosed k q e
    let_closed k c ns (pattern p (bind x)) e later weak slots binders binder rule = λ no_value.
        let own : nodes + x < nodes + sources = (All-head (λ x. IsOf (nodes + sources) owner c (nodes + x)) x later binders).0 in
        let closed = closed_if (is_value e) (is_open (types (number_of e))) weak no_value in
        name_closed k c x ns e (omega (arith, own)) slots binder rule (ap is_open (sym (number_type e)) ∙ closed)
    let_closed k c ns (pattern p any) e later weak slots binders binder rule = tt
    let_closed k c ns (pattern p nothing) e later weak slots binders binder rule = tt
    let_closed k c ns (pattern p (tuple_of qs)) e later weak slots binders binder rule = tt
    let_closed k c ns (pattern p (build_of d o qs)) e later weak slots binders binder rule = tt

    -- an item, where what follows obeys the rules under some names
    item_closed : (f : ItemForm) (ns : Names) (k c : ℕ) (ends : List Visit) (rest : Names → Type 0) → is_weak types f ≡ false
        → All (IsOf (nodes + sources) owner c) (nodes_of_form f)
        → All (λ x. IsOf (nodes + sources) owner c (nodes + x)) (binders_in (visits_of_form f ++ ends)) → ItemIs g m ns f rest
        → ItemIsClosed k f × ((ms : Names) × rest ms)
    item_closed (type_of d) ns k c vs rest weak slots binders t = (tt, (ns, t))
    item_closed (let_of q e) ns k c vs rest weak slots binders t = (
      let_closed k c ns q e (binders_in ((visits_of e ++ show q ∷ []) ++ vs)) weak slots binders t.2 t.3,
      (named q t.0 ns, t.4),
    )
    item_closed (let_rec_of f r) ns k c vs rest weak slots binders t = (tt, ((f, general t.0 (m.binders f)) ∷ ns, t.7))

    items_closed : (is : List ItemTree) (ns : Names) (k c : ℕ) → first_weak types is ≡ None → OwnSlots nodes (nodes + sources) owner c is
        → ItemsAre g m ns is → AreClosed k is
    items_closed [] ns k c weak own t = tt
    items_closed (i ∷ is) ns k c weak own t =
        let none = none_weak (weak_place i.form i.place) (is_weak types i.form) (first_weak types is) weak in
        let here = item_closed i.form ns k c (leave_item i ∷ []) (λ ms. ItemsAre g m ms is) none.0 own.0 own.1 t in
        (here.0, items_closed is here.1.0 (next_item k i.form) (suc c) none.1 own.3 here.1.1)

-- ---- definitions in normal form

module _ (values : NormalFormsOfValuesAreValues) (n : Annotation) where
  settle_name : (k x : ℕ) (e : Tree) (v : Bool) → is_value e ≡ v
      → (is_value e ≡ false → HasNoTypeVariables (end_type n x (tree_of (normal k e))))
      → IsValueTree (tree_of (normal k e)) ⊎ HasNoTypeVariables (end_type n x (tree_of (normal k e)))
  settle_name k x e true h closed = inl (values k e h)
  settle_name k x e false h closed = inr (closed h)

  settle_let : (k : ℕ) (q : Pattern) (e : Tree) → IsClosed n k q e → IsSettled n q (tree_of (normal k e))
  settle_let k (pattern p any) e h = tt
  settle_let k (pattern p (bind x)) e h = settle_name k x e (is_value e) refl h
  settle_let k (pattern p nothing) e h = tt
  settle_let k (pattern p (tuple_of qs)) e h = tt
  settle_let k (pattern p (build_of c o qs)) e h = tt

  settle_item : (k : ℕ) (f : ItemForm) → ItemIsClosed n k f → ItemIsSettled n (normal_item k f)
  settle_item k (type_of d) h = tt
  settle_item k (let_of q e) h = settle_let k q e h
  settle_item k (let_rec_of f r) h = tt

  settle : (k : ℕ) (is : List ItemTree) → AreClosed n k is → AreSettled n (normal_items k is)
  settle k [] h = tt
  settle k (i ∷ is) h = (settle_item k i.form h.0, settle (next_item k i.form) is h.1)

pub programs_settled : NormalFormsOfValuesAreValues → ScopedItemsOwnSlots → ProgramsAreOnePass → TypedProgramsAreSettled
programs_settled values owners one i n knows =
    let s = program_of i.annotated in let k = length s.sources in
    let own = owners s i.annotated.program.scoped in
    let closed : AreClosed n k s.items =
    ∥∥₁_elim i.annotated.answer (are_prop n k s.items)
    (λ inference.
    items_closed n (signature_in s.datatypes) (node_count s) k own.0 (types_of i.annotated) knows.slots knows.binders s.items [] k 0 inference.1 own.1
    inference.0.obeys) in
    subst (AreSettled n) (sym (one k s.items)) (settle values n k s.items closed)
