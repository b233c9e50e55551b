-- Each generalised definition that is known is an item's, and so are those that are used, visit by visit.
use Rattle.std.specs.Prelude.{All, ◌==◌, if◌then◌else◌}
use Rattle.std.specs.Option.{is_some}
use Rattle.std.proofs.Common.{◌≡◌, inl, inr, ℕ, Bool, true, false, List, [], ◌∷◌, ◌++◌, Option, Some, None, refl, ap, subst}
use Rattle.std.proofs.lemmas.Bool.{eqb-true}
use Rattle.std.proofs.lemmas.List.Elements.{All-nil, All-cons, All-weaker}
use Rattle.lq_text_tree.specs.Items.{ItemTree, ItemForm, type_of, let_of, let_rec_of}
use Rattle.lq_text_tree.specs.Pattern.{Pattern, pattern, any, bind, nothing, tuple_of, build_of}
use Rattle.lq_text_tree.specs.Tree as form
use Rattle.lq_text_tree.specs.Tree.{tree, Form}
use Rattle.lq_text_walk.specs.Walk.Shape.{shape_of}
use Rattle.lq_text_walk.specs.Walk.Visits.{Visit, leave_item, leave, visits_of_items}
use Rattle.lq_types_rules.specs.Typings.Uses.{General, Known, GeneralUse, none_known, with_name, behind_form, behind, before_in, use_by, use_at_shape, use_at}
use Rattle.lq_types_infer.specs.Instantiation.Uses.{listed_use, uses_from, uses_of}
use Rattle.lq_generate_reading.specs.SourceNames.Texts.{DefinesTexts, ItemHasTexts, NameHasText}
use Rattle.lq_generate_reading.specs.GeneralNames.Defined.{Defines, IsDefined, IsName}
use Rattle.lq_generate_reading.specs.GeneralNames.Laws.{GeneralUsesAreDefined, GeneralUsesHaveTexts}
use Rattle.lq_generate_reading.proofs.GeneralNamesLemmas.Inside.{AllDefine, FormDefines, FormsDefine, VisitDefines, items_define}

module _ (Named : ℕ → Type 0) where
  abbrev UseNamed : GeneralUse → Type 0
  UseNamed u = Named u.binder

  -- each generalised definition has such a name
  abbrev AllNamed : List General → Type 0
  AllNamed [] = Unit {0}
  AllNamed (d ∷ ds) = Named d.binder × AllNamed ds

  -- the use has, if there is one
  abbrev IfNamed : Option GeneralUse → Type 0
  IfNamed None = Unit {0}
  IfNamed (Some u) = UseNamed u

  -- ---- what is known

  behind_name : (k : Known) (x : ℕ) (value : Bool) → Named x → AllNamed k.general → AllNamed (with_name k x value).general
  behind_name k x true h ds = (h, ds)
  behind_name k x false h ds = ds

  behind_item : (k : Known) (f : ItemForm) → FormDefines Named f → AllNamed k.general → AllNamed (behind_form k f).general
  behind_item k (type_of d) h ds = ds
  behind_item k (let_of (pattern p any) e) h ds = ds
  behind_item k (let_of (pattern p (bind x)) e) h ds = behind_name k x _ (h x refl) ds
  behind_item k (let_of (pattern p nothing) e) h ds = ds
  behind_item k (let_of (pattern p (tuple_of qs)) e) h ds = ds
  behind_item k (let_of (pattern p (build_of c m qs)) e) h ds = ds
  behind_item k (let_rec_of f r) h ds = (h f refl, ds)

  behind_visit : (k : Known) (v : Visit) → VisitDefines Named v → AllNamed k.general → AllNamed (behind k v).general
  behind_visit k (leave_item i) h ds = behind_item k i.form h ds
  behind_visit k v h ds = ds

  -- ---- uses

  first_named : (i x : ℕ) (b : Bool) (d : General) (o : Option (List ℕ)) → (b ≡ true → d.binder ≡ x) → Named d.binder → IfNamed (use_by i x o)
      → IfNamed (use_by i x (if b then Some d.before else o))
  first_named i x true d o same own h = subst Named (same refl) own
  first_named i x false d o same own h = h

  use_named : (i x : ℕ) (ds : List General) → AllNamed ds → IfNamed (use_by i x (before_in ds x))
  use_named i x [] h = tt
  use_named i x (d ∷ ds) h =
      first_named i x (d.binder == x) d (before_in ds x) (eqb-true d.binder x) h.0 (use_named i x ds h.1)

  at_form : (k : Known) (i : ℕ) (f : Form) → AllNamed k.general → IfNamed (use_at_shape k i (shape_of f))
  at_form k i (form.use_of x) ds = use_named i x k.general ds
  at_form k i f ds = tt

  at_visit : (k : Known) (v : Visit) → AllNamed k.general → IfNamed (use_at k v)
  at_visit k (leave (tree i p f)) ds = at_form k i f ds
  at_visit k v ds = tt

  listed_named : (o : Option GeneralUse) (us : List GeneralUse) → IfNamed o → All UseNamed us → All UseNamed (listed_use o ++ us)
  listed_named None us h all = all
  listed_named (Some u) us h all = All-cons UseNamed u us h all

  uses_named : (vs : List Visit) (k : Known) → AllDefine Named vs → AllNamed k.general → All UseNamed (uses_from k vs)
  uses_named [] k h ds = All-nil UseNamed
  uses_named (v ∷ vs) k h ds =
      listed_named (use_at k v) (uses_from (behind k v) vs) (at_visit k v ds) (uses_named vs (behind k v) h.1 (behind_visit k v h.0 ds))

-- ---- the items' names

each_defines : (Named : ℕ → Type 0) (is : List ItemTree) → ((x : ℕ) → IsDefined is x → Named x) → FormsDefine Named is
each_defines Named [] h = tt
each_defines Named (i ∷ is) h = (λ x d. h x (inl d), each_defines Named is (λ x d. h x (inr d)))

pub uses_are_defined : GeneralUsesAreDefined
uses_are_defined s =
    let Named : ℕ → Type 0 = IsDefined s.items in
    uses_named Named (visits_of_items s.items) none_known (items_define Named s.items (each_defines Named s.items (λ x d. d))) tt

-- ---- source names

module _ (text : ℕ → Option ℕ) where
  name_has : (q : Pattern) (x : ℕ) → IsName q x → NameHasText text q → is_some (text x) ≡ true
  name_has (pattern l (bind y)) x same h = subst (λ (z : ℕ). is_some (text z) ≡ true) same (ap is_some h.1)
  name_has (pattern l any) x d h = absurd d
  name_has (pattern l nothing) x d h = absurd d
  name_has (pattern l (tuple_of qs)) x d h = absurd d
  name_has (pattern l (build_of c m qs)) x d h = absurd d

  form_has : (f : ItemForm) (x : ℕ) → Defines f x → ItemHasTexts text f → is_some (text x) ≡ true
  form_has (type_of d) x none h = absurd none
  form_has (let_of q e) x d h = name_has q x d h.0
  form_has (let_rec_of f r) x same h = subst (λ (z : ℕ). is_some (text z) ≡ true) same (ap is_some h.0.1)

  has_text : (is : List ItemTree) → DefinesTexts text is → (x : ℕ) → IsDefined is x → is_some (text x) ≡ true
  has_text [] h x none = absurd none
  has_text (i ∷ is) h x (inl d) = form_has i.form x d h.0
  has_text (i ∷ is) h x (inr d) = has_text is h.1 x d

pub uses_have_texts : GeneralUsesHaveTexts
uses_have_texts s text h =
    All-weaker (λ u. IsDefined s.items u.binder) (λ u. is_some (text u.binder) ≡ true) (λ u d. has_text text s.items h u.binder d) (uses_of s) (uses_are_defined s)
