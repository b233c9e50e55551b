-- A solution with other names for the variables of each item is the answer.
use Rattle.std.specs.Prelude.{All, min, ◌^◌, ◌-◌, nat_lt, if◌then◌else◌, not, ◌&&◌, ◌||◌}
use Rattle.std.proofs.Common.{◌≡◌, ℕ, suc, ◌+◌, Bool, List, [], ◌∷◌, ◌++◌, map, Option, Some, None, refl, sym, ap, ap₂, subst, ◌∙◌}
use Rattle.std.proofs.lemmas.List.{map-append}
use Rattle.std.proofs.lemmas.List.Elements.{All-nil, All-cons}
use Rattle.lq_base_names.specs.declared.place.Place.{Place}
use Rattle.lq_text_tree.specs.Items.{ItemTree, ItemForm, type_of, let_of, let_rec_of}
use Rattle.lq_text_tree.specs.MlType as ml
use Rattle.lq_text_tree.specs.MlType.{MlType, MlTypes}
use Rattle.lq_text_tree.specs.Types.{put, put_all}
use Rattle.lq_text_walk.specs.Walk.Visits.{visits_of_item, visits_of_items}
use Rattle.lq_types_rules.specs.Constructors.Tasks.{size_of, size_of_all}
use Rattle.lq_types_rules.specs.Equations.Rows.{number_of}
use Rattle.lq_text_walk.specs.Scoped.Numbers.{nodes_of_form, binders_in}
use Rattle.lq_text_walk.specs.Scoped.Scoping.{Scoping}
use Rattle.lq_types_rules.specs.Typings.Inference.{typed, IsInference}
use Rattle.lq_types_rules.specs.Typings.Principal.{node_count, IsPrincipalAnnotation, IsItemInstance, is_open, some_open, is_weak, weak_place, first_weak, first_past, placed_in, variables_of, variables_in, variables_at, own_node, in_order, AreNumbered, IsNumbered}
use Rattle.lq_types_rules.specs.Typings.Renaming.{RenamedArePrincipal}
use Rattle.lq_types_rules.specs.Typings.Uses.{is_value}
use Rattle.lq_types_infer.specs.Annotation.Naming.{named, item_variables, NumbersItem}
use Rattle.lq_types_infer.proofs.AnnotationLemmas.Types.{AllOf, from_all, to_all, left_part, right_part, put_put}

-- ---- types with other names

module _ (names : ℕ → ℕ) where
  abbrev by : ℕ → MlType
  by v = ml.var (names v)

  mutual
    size_named : (a : MlType) → size_of (put by a) ≡ size_of a
    size_named ml.int = refl
    size_named ml.bool = refl
    size_named ml.unit = refl
    size_named (ml.var i) = refl
    size_named (ml.arrow a b) = ap₂ (λ (m : ℕ) (n : ℕ). suc (m + n)) (size_named a) (size_named b)
    size_named (ml.tuple ts) = ap (λ (n : ℕ). suc n) (sizes_named ts)
    size_named (ml.array a) = ap (λ (n : ℕ). suc n) (size_named a)
    size_named (ml.named d ts) = ap (λ (n : ℕ). suc n) (sizes_named ts)
    size_named (ml.map_of a) = ap (λ (n : ℕ). suc n) (size_named a)

    sizes_named : (ts : MlTypes) → size_of_all (put_all by ts) ≡ size_of_all ts
    sizes_named ml.no_types = refl
    sizes_named (ml.more_types t ts) = ap₂ (λ (m : ℕ) (n : ℕ). m + n) (size_named t) (sizes_named ts)

  mutual
    open_named : (a : MlType) → is_open (put by a) ≡ is_open a
    open_named ml.int = refl
    open_named ml.bool = refl
    open_named ml.unit = refl
    open_named (ml.var i) = refl
    open_named (ml.arrow a b) = ap₂ (λ (m : Bool) (n : Bool). m || n) (open_named a) (open_named b)
    open_named (ml.tuple ts) = some_named ts
    open_named (ml.array a) = open_named a
    open_named (ml.named d ts) = some_named ts
    open_named (ml.map_of a) = open_named a

    some_named : (ts : MlTypes) → some_open (put_all by ts) ≡ some_open ts
    some_named ml.no_types = refl
    some_named (ml.more_types t ts) = ap₂ (λ (m : Bool) (n : Bool). m || n) (open_named t) (some_named ts)

  mutual
    variables_named : (a : MlType) → variables_of (put by a) ≡ map names (variables_of a)
    variables_named ml.int = refl
    variables_named ml.bool = refl
    variables_named ml.unit = refl
    variables_named (ml.var i) = refl
    variables_named (ml.arrow a b) =
        ap₂ (λ (xs : List ℕ) (ys : List ℕ). xs ++ ys) (variables_named a) (variables_named b) ∙ sym
        (map-append names (variables_of a) (variables_of b))
    variables_named (ml.tuple ts) = all_variables_named ts
    variables_named (ml.array a) = variables_named a
    variables_named (ml.named d ts) = all_variables_named ts
    variables_named (ml.map_of a) = variables_named a

    all_variables_named : (ts : MlTypes) → variables_in (put_all by ts) ≡ map names (variables_in ts)
    all_variables_named ml.no_types = refl
    all_variables_named (ml.more_types t ts) =
        ap₂ (λ (xs : List ℕ) (ys : List ℕ). xs ++ ys) (variables_named t) (all_variables_named ts) ∙ sym
        (map-append names (variables_of t) (variables_in ts))

  -- names that are told apart can be taken back
  module _ (original : ℕ → ℕ) where
    abbrev IsBack : ℕ → Type 0
    IsBack v = original (names v) ≡ v

    abbrev back : ℕ → MlType
    back v = ml.var (original v)

    mutual
      stays : (a : MlType) → AllOf IsBack (variables_of a) → put (λ v. ml.var (original (names v))) a ≡ a
      stays ml.int h = refl
      stays ml.bool h = refl
      stays ml.unit h = refl
      stays (ml.var i) h = ap ml.var h.0
      stays (ml.arrow a b) h =
          ap₂ ml.arrow (stays a (left_part IsBack (variables_of a) (variables_of b) h))
          (stays b (right_part IsBack (variables_of a) (variables_of b) h))
      stays (ml.tuple ts) h = ap ml.tuple (all_stay ts h)
      stays (ml.array a) h = ap ml.array (stays a h)
      stays (ml.named d ts) h = ap (ml.named d) (all_stay ts h)
      stays (ml.map_of a) h = ap ml.map_of (stays a h)

      all_stay : (ts : MlTypes) → AllOf IsBack (variables_in ts) → put_all (λ v. ml.var (original (names v))) ts ≡ ts
      all_stay ml.no_types h = refl
      all_stay (ml.more_types t ts) h =
          ap₂ ml.more_types (stays t (left_part IsBack (variables_of t) (variables_in ts) h))
          (all_stay ts (right_part IsBack (variables_of t) (variables_in ts) h))

    taken_back : (a : MlType) → AllOf IsBack (variables_of a) → a ≡ put back (put by a)
    taken_back a h = sym (put_put a by back ∙ stays a h)

    module _ (types : ℕ → MlType) where
      each_back : (ks : List ℕ) → AllOf IsBack (variables_at types ks) → AllOf (λ k. types k ≡ put back (named names types k)) ks
      each_back [] h = tt
      each_back (k ∷ ks) h = (
        taken_back (types k) (left_part IsBack (variables_of (types k)) (variables_at types ks) h),
        each_back ks (right_part IsBack (variables_of (types k)) (variables_at types ks) h),
      )

      -- those behind others
      behind_back : (ks ls : List ℕ) → AllOf IsBack (variables_at types (ks ++ ls)) → AllOf IsBack (variables_at types ls)
      behind_back [] ls h = h
      behind_back (k ∷ ks) ls h = behind_back ks ls (right_part IsBack (variables_of (types k)) (variables_at types (ks ++ ls)) h)

      both_parts : (xs ys : List ℕ) → AllOf IsBack xs → AllOf IsBack ys → AllOf IsBack (xs ++ ys)
      both_parts [] ys h l = l
      both_parts (x ∷ xs) ys h l = (h.0, both_parts xs ys h.1 l)

      before_back : (ks ls : List ℕ) → AllOf IsBack (variables_at types (ks ++ ls)) → AllOf IsBack (variables_at types ks)
      before_back [] ls h = tt
      before_back (k ∷ ks) ls h =
          both_parts (variables_of (types k)) (variables_at types ks) (left_part IsBack (variables_of (types k)) (variables_at types (ks ++ ls)) h)
          (before_back ks ls (right_part IsBack (variables_of (types k)) (variables_at types (ks ++ ls)) h))

      -- binders behind the nodes
      at_binders : (nodes : ℕ) (xs : List ℕ) → AllOf (λ k. types k ≡ put back (named names types k)) (map (λ x. nodes + x) xs)
          → AllOf (λ x. types (nodes + x) ≡ put back (named names types (nodes + x))) xs
      at_binders nodes [] h = tt
      at_binders nodes (x ∷ xs) h = (h.0, at_binders nodes xs h.1)

  -- ---- the answer's parts

  module _ (types : ℕ → MlType) where
    numbered_at : (ks : List ℕ) → variables_at (named names types) ks ≡ map names (variables_at types ks)
    numbered_at [] = refl
    numbered_at (k ∷ ks) =
        ap₂ (λ (xs : List ℕ) (ys : List ℕ). xs ++ ys) (variables_named (types k)) (numbered_at ks)
        ∙ sym (map-append names (variables_of (types k)) (variables_at types ks))

    weak_named : (f : ItemForm) → is_weak (named names types) f ≡ is_weak types f
    weak_named (type_of d) = refl
    weak_named (let_of q e) = ap (λ (b : Bool). not (is_value e) && b) (open_named (types (number_of e)))
    weak_named (let_rec_of f r) = refl

    first_weak_named : (is : List ItemTree) → first_weak (named names types) is ≡ first_weak types is
    first_weak_named [] = refl
    first_weak_named (i ∷ is) =
        ap₂ (λ (b : Bool) (o : Option Place). if b then Some (weak_place i.form i.place) else o) (weak_named i.form) (first_weak_named is)

    first_past_named : (ns : List (ℕ × Place)) → first_past (named names types) ns ≡ first_past types ns
    first_past_named [] = refl
    first_past_named (n ∷ ns) =
        ap₂ (λ (m : ℕ) (o : Option (Place × ℕ)). if nat_lt 2000 m then Some (n.1, min m (2 ^ 64 - 1)) else o) (size_named (types n.0))
        (first_past_named ns)

    each_refl : (ks : List ℕ) → All (λ k. named names types k ≡ put by (types k)) ks
    each_refl [] = All-nil (λ k. named names types k ≡ put by (types k))
    each_refl (k ∷ ks) = All-cons (λ k. named names types k ≡ put by (types k)) k ks refl (each_refl ks)

    each_binder : (nodes : ℕ) (xs : List ℕ) → All (λ x. named names types (nodes + x) ≡ put by (types (nodes + x))) xs
    each_binder nodes [] = All-nil (λ x. named names types (nodes + x) ≡ put by (types (nodes + x)))
    each_binder nodes (x ∷ xs) = All-cons (λ x. named names types (nodes + x) ≡ put by (types (nodes + x))) x xs refl (each_binder nodes xs)

    item_to : (nodes : ℕ) (i : ItemTree) → IsItemInstance nodes types (named names types) i
    item_to nodes i = (by, each_refl (nodes_of_form i.form), each_binder nodes (binders_in (visits_of_item i)))

    item_back : (nodes : ℕ) (i : ItemTree) → NumbersItem nodes types names i → IsItemInstance nodes (named names types) types i
    item_back nodes i h =
        let own = own_node i.form in
        let ks = nodes_of_form i.form in
        let xs = binders_in (visits_of_item i) in
        let undone = from_all (IsBack h.original) (item_variables nodes types i) h.undone in
        let rest = behind_back h.original types own (ks ++ map (λ x. nodes + x) xs) undone in (
          back h.original,
          to_all (λ k. types k ≡ put (back h.original) (named names types k)) ks
              (each_back h.original types ks (before_back h.original types ks (map (λ x. nodes + x) xs) rest)),
          to_all (λ x. types (nodes + x) ≡ put (back h.original) (named names types (nodes + x))) xs
              (at_binders h.original types nodes xs
              (each_back h.original types (map (λ x. nodes + x) xs) (behind_back h.original types ks (map (λ x. nodes + x) xs) rest))),
        )

    items_to : (nodes : ℕ) (is : List ItemTree) → All (IsItemInstance nodes types (named names types)) is
    items_to nodes [] = All-nil (IsItemInstance nodes types (named names types))
    items_to nodes (i ∷ is) = All-cons (IsItemInstance nodes types (named names types)) i is (item_to nodes i) (items_to nodes is)

    items_back : (nodes : ℕ) (is : List ItemTree) → AllOf (NumbersItem nodes types names) is → All (IsItemInstance nodes (named names types) types) is
    items_back nodes [] h = All-nil (IsItemInstance nodes (named names types) types)
    items_back nodes (i ∷ is) h = All-cons (IsItemInstance nodes (named names types) types) i is (item_back nodes i h.0) (items_back nodes is h.1)

    items_numbered : (nodes : ℕ) (is : List ItemTree) → AllOf (NumbersItem nodes types names) is → All (IsNumbered nodes (named names types)) is
    items_numbered nodes [] h = All-nil (IsNumbered nodes (named names types))
    items_numbered nodes (i ∷ is) h =
        All-cons (IsNumbered nodes (named names types)) i is (subst (AreNumbered 0) (sym (numbered_at (in_order nodes i))) h.0.numbered)
        (items_numbered nodes is h.1)

pub named_is_inference : RenamedArePrincipal → (s : Scoping) (types : ℕ → MlType) (names : ℕ → ℕ) → IsPrincipalAnnotation s types
    → first_weak types s.items ≡ None
    → first_past types (placed_in (visits_of_items s.items)) ≡ None → All (NumbersItem (node_count s) types names) s.items
    → IsInference s (typed (named names types))
named_is_inference renamed s types names is weak past numbers =
    let nodes = node_count s in
    let own = from_all (NumbersItem nodes types names) s.items numbers in (
      renamed s types (named names types) is weak (items_to names types nodes s.items) (items_back names types nodes s.items own),
      first_weak_named names types s.items ∙ weak,
      first_past_named names types (placed_in (visits_of_items s.items)) ∙ past,
      items_numbered names types nodes s.items own,
    )
