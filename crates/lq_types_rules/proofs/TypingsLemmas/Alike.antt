-- Types that are instances of one another, by replacements of variables.
use Rattle.std.proofs.Common.{◌≡◌, ℕ, suc, ◌<◌, ◌≤◌, Bool, true, false, List, [], ◌∷◌, ◌++◌, ◌⊎◌, inl, inr, refl, sym, ap, ap₂, subst, ◌∙◌, arith, map}
use Rattle.std.proofs.lemmas.List.{map-append}
use Rattle.std.proofs.lemmas.Bool.{or_parts, false≢true, cases_eq, cases_lt}
use Rattle.lq_text_tree.specs.MlType as ml
use Rattle.lq_text_tree.specs.MlType.{MlType, MlTypes}
use Rattle.lq_text_tree.specs.Types.{put, put_all}
use Rattle.lq_types_rules.specs.Constructors.Tasks.{size_of, size_of_all}
use Rattle.lq_types_rules.specs.Typings.Principal.{is_open, some_open, variables_of, variables_in, AreNumbered}
use Rattle.lq_types_rules.specs.Typings.Uses.{Each, EachIn, Leaves}
use Rattle.lq_types_rules.proofs.TypingsLemmas.Lists.{AllOf, all_both, all_left, all_right}

below_but : (z n : ℕ) → z < suc n → (z ≡ n → ⊥) → z < n
below_but z n less other = elim (cases_lt z n) [ inl l ↦ l | inr r ↦ absurd (other (omega (arith, less, r))) ]

-- ---- sizes

some_size : (a : MlType) → 1 ≤ size_of a
some_size ml.int = omega arith
some_size ml.bool = omega arith
some_size ml.unit = omega arith
some_size (ml.var i) = omega arith
some_size (ml.arrow a b) = omega arith
some_size (ml.tuple ts) = omega arith
some_size (ml.array a) = omega arith
some_size (ml.named d ts) = omega arith
some_size (ml.map_of a) = omega arith

module _ (by : ℕ → MlType) where
  mutual
    put_size : (a : MlType) → size_of a ≤ size_of (put by a)
    put_size ml.int = omega arith
    put_size ml.bool = omega arith
    put_size ml.unit = omega arith
    put_size (ml.var i) = some_size (by i)
    put_size (ml.arrow a b) = let l = put_size a in let r = put_size b in omega (arith, l, r)
    put_size (ml.tuple ts) = let l = put_sizes ts in omega (arith, l)
    put_size (ml.array a) = let l = put_size a in omega (arith, l)
    put_size (ml.named d ts) = let l = put_sizes ts in omega (arith, l)
    put_size (ml.map_of a) = let l = put_size a in omega (arith, l)

    put_sizes : (ts : MlTypes) → size_of_all ts ≤ size_of_all (put_all by ts)
    put_sizes ml.no_types = omega arith
    put_sizes (ml.more_types t ts) = let l = put_size t in let r = put_sizes ts in omega (arith, l, r)

  -- a type without variables stays
  mutual
    pub closed_stays : (a : MlType) → is_open a ≡ false → put by a ≡ a
    closed_stays ml.int h = refl
    closed_stays ml.bool h = refl
    closed_stays ml.unit h = refl
    closed_stays (ml.var i) h = absurd (false≢true (sym h))
    closed_stays (ml.arrow a b) h = let both = or_parts (is_open a) (is_open b) h in ap₂ ml.arrow (closed_stays a both.0) (closed_stays b both.1)
    closed_stays (ml.tuple ts) h = ap ml.tuple (all_stay ts h)
    closed_stays (ml.array a) h = ap ml.array (closed_stays a h)
    closed_stays (ml.named d ts) h = ap (ml.named d) (all_stay ts h)
    closed_stays (ml.map_of a) h = ap ml.map_of (closed_stays a h)

    all_stay : (ts : MlTypes) → some_open ts ≡ false → put_all by ts ≡ ts
    all_stay ml.no_types h = refl
    all_stay (ml.more_types t ts) h = let both = or_parts (is_open t) (some_open ts) h in ap₂ ml.more_types (closed_stays t both.0) (all_stay ts both.1)

-- instances of one another
abbrev pub Alike : MlType → MlType → Type 0
Alike a b = ((by : ℕ → MlType) × (b ≡ put by a)) × ((by : ℕ → MlType) × (a ≡ put by b))

pub alike_size : (a b : MlType) → Alike a b → size_of a ≡ size_of b
alike_size a b h =
    let one : size_of a ≤ size_of b = subst (λ c. size_of a ≤ size_of c) (sym h.0.1) (put_size h.0.0 a) in
    let other : size_of b ≤ size_of a = subst (λ c. size_of b ≤ size_of c) (sym h.1.1) (put_size h.1.0 b) in
    omega (arith, one, other)

closed_alike : (a b : MlType) → Alike a b → is_open a ≡ false → is_open b ≡ false
closed_alike a b h closed = ap is_open (h.0.1 ∙ closed_stays h.0.0 a closed) ∙ closed

open_at : (a b : MlType) (x y : Bool) → is_open a ≡ x → is_open b ≡ y → Alike a b → x ≡ y
open_at a b true true f g h = refl
open_at a b true false f g h = absurd (false≢true (sym (closed_alike b a (h.1, h.0) g) ∙ f))
open_at a b false true f g h = absurd (false≢true (sym (closed_alike a b h f) ∙ g))
open_at a b false false f g h = refl

pub alike_open : (a b : MlType) → Alike a b → is_open a ≡ is_open b
alike_open a b h = open_at a b (is_open a) (is_open b) refl refl h

-- ---- variables for variables

-- what holds of the variables that stand in a type, and of those in its list
mutual
  pub each_list : (P : ℕ → Type 0) (a : MlType) → Each P a → AllOf P (variables_of a)
  each_list P ml.int h = tt
  each_list P ml.bool h = tt
  each_list P ml.unit h = tt
  each_list P (ml.var i) h = (h, tt)
  each_list P (ml.arrow a b) h = all_both P (variables_of a) (variables_of b) (each_list P a h.0) (each_list P b h.1)
  each_list P (ml.tuple ts) h = each_lists P ts h
  each_list P (ml.array a) h = each_list P a h
  each_list P (ml.named d ts) h = each_lists P ts h
  each_list P (ml.map_of a) h = each_list P a h

  each_lists : (P : ℕ → Type 0) (ts : MlTypes) → EachIn P ts → AllOf P (variables_in ts)
  each_lists P ml.no_types h = tt
  each_lists P (ml.more_types t ts) h = all_both P (variables_of t) (variables_in ts) (each_list P t h.0) (each_lists P ts h.1)

mutual
  pub list_each : (P : ℕ → Type 0) (a : MlType) → AllOf P (variables_of a) → Each P a
  list_each P ml.int h = tt
  list_each P ml.bool h = tt
  list_each P ml.unit h = tt
  list_each P (ml.var i) h = h.0
  list_each P (ml.arrow a b) h = (list_each P a (all_left P (variables_of a) (variables_of b) h), list_each P b (all_right P (variables_of a) (variables_of b) h))
  list_each P (ml.tuple ts) h = lists_each P ts h
  list_each P (ml.array a) h = list_each P a h
  list_each P (ml.named d ts) h = lists_each P ts h
  list_each P (ml.map_of a) h = list_each P a h

  lists_each : (P : ℕ → Type 0) (ts : MlTypes) → AllOf P (variables_in ts) → EachIn P ts
  lists_each P ml.no_types h = tt
  lists_each P (ml.more_types t ts) h =
      (list_each P t (all_left P (variables_of t) (variables_in ts) h), lists_each P ts (all_right P (variables_of t) (variables_in ts) h))

-- a replacement that leaves the variables of a type leaves the type
mutual
  pub leaves_stay : (by : ℕ → MlType) (a : MlType) → Leaves by a → put by a ≡ a
  leaves_stay by ml.int h = refl
  leaves_stay by ml.bool h = refl
  leaves_stay by ml.unit h = refl
  leaves_stay by (ml.var i) h = h
  leaves_stay by (ml.arrow a b) h = ap₂ ml.arrow (leaves_stay by a h.0) (leaves_stay by b h.1)
  leaves_stay by (ml.tuple ts) h = ap ml.tuple (all_leave_stay by ts h)
  leaves_stay by (ml.array a) h = ap ml.array (leaves_stay by a h)
  leaves_stay by (ml.named d ts) h = ap (ml.named d) (all_leave_stay by ts h)
  leaves_stay by (ml.map_of a) h = ap ml.map_of (leaves_stay by a h)

  all_leave_stay : (by : ℕ → MlType) (ts : MlTypes) → EachIn (λ i. by i ≡ ml.var i) ts → put_all by ts ≡ ts
  all_leave_stay by ml.no_types h = refl
  all_leave_stay by (ml.more_types t ts) h = ap₂ ml.more_types (leaves_stay by t h.0) (all_leave_stay by ts h.1)

-- ---- parts of types

abbrev pub name_of : MlType → ℕ
name_of (ml.var i) = i
name_of a = 0

abbrev is_variable : MlType → Bool
is_variable (ml.var i) = true
is_variable a = false

abbrev pub first_of_two : MlType → MlType
first_of_two (ml.arrow a b) = a
first_of_two c = c

abbrev pub second_of_two : MlType → MlType
second_of_two (ml.arrow a b) = b
second_of_two c = c

abbrev inner_of : MlType → MlType
inner_of (ml.array a) = a
inner_of (ml.map_of a) = a
inner_of c = c

abbrev row_of : MlType → MlTypes
row_of (ml.tuple ts) = ts
row_of (ml.named d ts) = ts
row_of c = ml.no_types

abbrev head_type : MlTypes → MlType
head_type (ml.more_types t ts) = t
head_type ml.no_types = ml.unit

abbrev tail_types : MlTypes → MlTypes
tail_types (ml.more_types t ts) = ts
tail_types ml.no_types = ml.no_types

-- a replacement and one that undoes it
module _ (by undo : ℕ → MlType) where
  abbrev pub IsUndone : ℕ → Type 0
  IsUndone x = (by x ≡ ml.var (name_of (by x))) × (name_of (undo (name_of (by x))) ≡ x)

  variable_is : (x : ℕ) (b : MlType) → put undo b ≡ ml.var x → (b ≡ ml.var (name_of b)) × (name_of (undo (name_of b)) ≡ x)
  variable_is x (ml.var y) h = (refl, ap name_of h)
  variable_is x ml.int h = absurd (false≢true (ap is_variable h))
  variable_is x ml.bool h = absurd (false≢true (ap is_variable h))
  variable_is x ml.unit h = absurd (false≢true (ap is_variable h))
  variable_is x (ml.arrow a b) h = absurd (false≢true (ap is_variable h))
  variable_is x (ml.tuple ts) h = absurd (false≢true (ap is_variable h))
  variable_is x (ml.array a) h = absurd (false≢true (ap is_variable h))
  variable_is x (ml.named d ts) h = absurd (false≢true (ap is_variable h))
  variable_is x (ml.map_of a) h = absurd (false≢true (ap is_variable h))

  mutual
    pub undone : (a : MlType) → put undo (put by a) ≡ a → Each IsUndone a
    undone ml.int h = tt
    undone ml.bool h = tt
    undone ml.unit h = tt
    undone (ml.var x) h = variable_is x (by x) h
    undone (ml.arrow a b) h = (undone a (ap first_of_two h), undone b (ap second_of_two h))
    undone (ml.tuple ts) h = all_undone ts (ap row_of h)
    undone (ml.array a) h = undone a (ap inner_of h)
    undone (ml.named d ts) h = all_undone ts (ap row_of h)
    undone (ml.map_of a) h = undone a (ap inner_of h)

    all_undone : (ts : MlTypes) → put_all undo (put_all by ts) ≡ ts → EachIn IsUndone ts
    all_undone ml.no_types h = tt
    all_undone (ml.more_types t ts) h = (undone t (ap head_type h), all_undone ts (ap tail_types h))

  -- the variables of a type with others in place of them
  mutual
    pub variables_put : (a : MlType) → Each IsUndone a → variables_of (put by a) ≡ map (λ x. name_of (by x)) (variables_of a)
    variables_put ml.int h = refl
    variables_put ml.bool h = refl
    variables_put ml.unit h = refl
    variables_put (ml.var x) h = ap variables_of h.0
    variables_put (ml.arrow a b) h =
        ap₂ (λ (xs : List ℕ) (ys : List ℕ). xs ++ ys) (variables_put a h.0) (variables_put b h.1) ∙ sym (map-append (λ x. name_of (by x)) (variables_of a) (variables_of b))
    variables_put (ml.tuple ts) h = all_variables_put ts h
    variables_put (ml.array a) h = variables_put a h
    variables_put (ml.named d ts) h = all_variables_put ts h
    variables_put (ml.map_of a) h = variables_put a h

    all_variables_put : (ts : MlTypes) → EachIn IsUndone ts → variables_in (put_all by ts) ≡ map (λ x. name_of (by x)) (variables_in ts)
    all_variables_put ml.no_types h = refl
    all_variables_put (ml.more_types t ts) h =
        ap₂ (λ (xs : List ℕ) (ys : List ℕ). xs ++ ys) (variables_put t h.0) (all_variables_put ts h.1) ∙ sym (map-append (λ x. name_of (by x)) (variables_of t) (variables_in ts))

  -- variables below this number stay, and so do those that are numbered from it on
  abbrev Stays : ℕ → Type 0
  Stays n = (z : ℕ) → z < n → (name_of (by z) ≡ z) × (name_of (undo z) ≡ z)

  one_stays : (n x : ℕ) → IsUndone x → (x < n) ⊎ (x ≡ n) → (name_of (by x) < n) ⊎ (name_of (by x) ≡ n) → Stays n → name_of (by x) ≡ x
  one_stays n x h (inl l) r s = (s x l).0
  one_stays n x h (inr same) (inr e) s = e ∙ sym same
  one_stays n x h (inr same) (inl l) s =
      let back = (s (name_of (by x)) l).1 in let there = h.1 in let y : name_of (by x) ≡ x = sym back ∙ there in
      absurd (let e = same in let less = l in omega (arith, e, less, y))

  stays_more : (n x : ℕ) → IsUndone x → x ≡ n → name_of (by x) ≡ x → Stays n → Stays (suc n)
  stays_more n x h same e s z less = elim (cases_eq z n) [
    | inl here ↦
        let at : x ≡ z = same ∙ sym here in
        let to : name_of (undo x) ≡ x = ap (λ (y : ℕ). name_of (undo y)) (sym e) ∙ h.1 in
        (subst (λ y. name_of (by y) ≡ y) at e, subst (λ y. name_of (undo y) ≡ y) at to)
    | inr other ↦ s z (let l = less in below_but z n l other)
  ]

  pub numbered_stay : (n : ℕ) (xs : List ℕ) → AllOf IsUndone xs → AreNumbered n xs → AreNumbered n (map (λ x. name_of (by x)) xs) → Stays n
      → AllOf (λ x. by x ≡ ml.var x) xs
  numbered_stay n [] h l r s = tt
  numbered_stay n (x ∷ xs) h (inl l) (inl r) s =
      let e = one_stays n x h.0 (inl l.0) (inl r.0) s in (h.0.0 ∙ ap ml.var e, numbered_stay n xs h.1 l.1 r.1 s)
  numbered_stay n (x ∷ xs) h (inr l) (inr r) s =
      let e = one_stays n x h.0 (inr l.0) (inr r.0) s in (h.0.0 ∙ ap ml.var e, numbered_stay (suc n) xs h.1 l.1 r.1 (stays_more n x h.0 l.0 e s))
  numbered_stay n (x ∷ xs) h (inl l) (inr r) s =
      let e = one_stays n x h.0 (inl l.0) (inr r.0) s in absurd (let a = l.0 in let b = r.0 in omega (arith, e, a, b))
  numbered_stay n (x ∷ xs) h (inr l) (inl r) s =
      let e = one_stays n x h.0 (inr l.0) (inl r.0) s in absurd (let a = l.0 in let b = r.0 in omega (arith, e, a, b))
