-- The names that items define are binders of theirs, and the variables of their types are numbered as they appear.
use Rattle.std.specs.List.{AllByRecursion}
use Rattle.std.proofs.Common.{ℕ, suc, ◌+◌, inl, inr, List, [], ◌∷◌, ◌++◌, map, sym, ap, subst, ◌∙◌}
use Rattle.lq_generate_reading.specs.GeneralNames.Defined.{Defines, IsDefined, IsName}
use Rattle.lq_types_rules.specs.Equations.Rows.{annotation_of, number_of}
use Rattle.lq_text_walk.specs.Scoped.Numbers.{binders_at, binders_in, binders_of_items, nodes_of_form}
use Rattle.lq_text_tree.specs.Items.{ItemTree, ItemForm, type_of, let_of, let_rec_of}
use Rattle.lq_text_tree.specs.MlType.{MlType}
use Rattle.lq_text_tree.specs.Pattern.{Pattern, pattern, any, bind, nothing, tuple_of, build_of, bound_in}
use Rattle.lq_text_tree.specs.Tree.{Tree, tree}
use Rattle.lq_text_tree.specs.Types.{Signature, Names}
use Rattle.lq_text_tree.specs.TypingRules.{Annotation, ItemIs, ItemPatternIs, ItemsAre, named, type_in}
use Rattle.lq_types_rules.specs.Typings.Principal.{AreNumbered, IsNumbered, own_node, variables_at, variables_of}
use Rattle.lq_text_walk.specs.Walk.Visits.{Visit, visits_of_form, visits_of_item, visits_of_items}
use Rattle.lq_sound_readiness.proofs.UniquenessLemmas.Lists.{all_right}

-- ---- types of names

numbered_left : (k : ℕ) (xs ys : List ℕ) → AreNumbered k (xs ++ ys) → AreNumbered k xs
numbered_left k [] ys h = tt
numbered_left k (x ∷ xs) ys (inl h) = inl (h.0, numbered_left k xs ys h.1)
numbered_left k (x ∷ xs) ys (inr h) = inr (h.0, numbered_left (suc k) xs ys h.1)

module _ (g : Signature) (nodes : ℕ) (types : ℕ → MlType) where
  abbrev n : Annotation
  n = annotation_of nodes types

  abbrev HasNumbered : MlType → Type 0
  HasNumbered a = AreNumbered 0 (variables_of a)

  pattern_numbered : (q : Pattern) (e : Tree) (rest : List ℕ) (x : ℕ) → ItemPatternIs n q (type_in n e) → AreNumbered 0 (variables_at types (number_of e ∷ rest))
      → IsName q x
      → HasNumbered (types (nodes + x))
  pattern_numbered (pattern l any) e rest x is h none = absurd none
  pattern_numbered (pattern l (bind y)) (tree k r f) rest x is h same =
      subst HasNumbered (sym is ∙ ap (λ (z : ℕ). types (nodes + z)) same) (numbered_left 0 (variables_of (types k)) (variables_at types rest) h)
  pattern_numbered (pattern l nothing) e rest x is h none = absurd none
  pattern_numbered (pattern l (tuple_of qs)) e rest x is h none = absurd none
  pattern_numbered (pattern l (build_of c m qs)) e rest x is h none = absurd none

  form_numbered : (f : ItemForm) (rest : List ℕ) (ns : Names) (later : Names → Type 0) (x : ℕ) → ItemIs g n ns f later
      → AreNumbered 0 (variables_at types (own_node f ++ rest))
      → Defines f x
      → HasNumbered (types (nodes + x))
  form_numbered (type_of d) rest ns later x is h none = absurd none
  form_numbered (let_of q e) rest ns later x is h d = pattern_numbered q e rest x is.2 h d
  form_numbered (let_rec_of y r) rest ns later x is h same =
      subst HasNumbered (is.3 ∙ ap (λ (z : ℕ). types (nodes + z)) same) (numbered_left 0 (variables_of (types r.id)) (variables_at types rest) h)

  -- the items behind one obey the rules under some names
  behind_form : (f : ItemForm) (ns : Names) (later : Names → Type 0) → ItemIs g n ns f later → (ms : Names) × later ms
  behind_form (type_of d) ns later is = (ns, is)
  behind_form (let_of q e) ns later is = (named q is.0 ns, is.4)
  behind_form (let_rec_of y r) ns later is = (_, is.7)

  pub names_numbered : (is : List ItemTree) (ns : Names) → ItemsAre g n ns is → AllByRecursion (IsNumbered nodes types) is → (x : ℕ) → IsDefined is x
      → HasNumbered (types (nodes + x))
  names_numbered [] ns h m x none = absurd none
  names_numbered (i ∷ is) ns h m x (inl d) =
      form_numbered i.form (nodes_of_form i.form ++ map (λ (y : ℕ). nodes + y) (binders_in (visits_of_item i))) ns (λ ms. ItemsAre g n ms is) x h m.0 d
  names_numbered (i ∷ is) ns h m x (inr d) =
      let later = behind_form i.form ns (λ ms. ItemsAre g n ms is) h in names_numbered is later.0 later.1 m.1 x d

-- ---- binders

module _ (P : ℕ → Type 0) where
  binders_behind : (us vs : List Visit) → AllByRecursion P (binders_in (us ++ vs)) → AllByRecursion P (binders_in vs)
  binders_behind [] vs h = h
  binders_behind (u ∷ us) vs h = binders_behind us vs (all_right P (binders_at u) (binders_in (us ++ vs)) h)

  pattern_holds : (q : Pattern) (rest : List ℕ) (x : ℕ) → AllByRecursion P (bound_in q ++ rest) → IsName q x → P x
  pattern_holds (pattern l any) rest x h none = absurd none
  pattern_holds (pattern l (bind y)) rest x h same = subst P same h.0
  pattern_holds (pattern l nothing) rest x h none = absurd none
  pattern_holds (pattern l (tuple_of qs)) rest x h none = absurd none
  pattern_holds (pattern l (build_of c m qs)) rest x h none = absurd none

  form_holds : (f : ItemForm) (us vs : List Visit) (x : ℕ) → AllByRecursion P (binders_in ((visits_of_form f ++ us) ++ vs)) → Defines f x → P x
  form_holds (type_of d) us vs x h none = absurd none
  form_holds (let_of q e) us vs x h d = pattern_holds q _ x h d
  form_holds (let_rec_of y r) us vs x h same = subst P same h.0

  -- what holds of the binders of items holds of the names that they define
  pub names_hold : (is : List ItemTree) → AllByRecursion P (binders_of_items is) → (x : ℕ) → IsDefined is x → P x
  names_hold [] h x none = absurd none
  names_hold (i ∷ is) h x (inl d) = form_holds i.form _ (visits_of_items is) x h d
  names_hold (i ∷ is) h x (inr d) = names_hold is (binders_behind (visits_of_item i) (visits_of_items is) h) x d
