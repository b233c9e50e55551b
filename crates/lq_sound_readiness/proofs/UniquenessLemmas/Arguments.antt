-- The types for the variables of a type are determined by what it becomes, where its variables are numbered as they appear.
use Rattle.std.specs.List.{AllByRecursion}
use Rattle.std.proofs.Common.{◌≡◌, ℕ, zero, suc, ◌<◌, ◌≤◌, max, ◌⊎◌, inl, inr, List, [], ◌∷◌, ◌++◌, length, slice_index_or, refl, sym, ap, ap₂, subst, ◌∙◌, arith}
use Rattle.std.proofs.lemmas.Bool.{cases_lt}
use Rattle.lq_types_infer.specs.Annotation.Bounds.{bound_of, bound_of_all}
use Rattle.lq_text_tree.specs.MlType as ml
use Rattle.lq_text_tree.specs.MlType.{MlType, MlTypes}
use Rattle.lq_text_tree.specs.Types.{count_types, put, put_all, type_at}
use Rattle.lq_types_table.specs.Heads.{each}
use Rattle.lq_types_rules.specs.Typings.Principal.{variables_of, variables_in, AreNumbered}
use Rattle.lq_sound_readiness.proofs.UniquenessLemmas.Lists.{all_both}

-- ---- what a type becomes determines what is put for its variables

abbrev first_part : MlType → MlType
first_part (ml.arrow a b) = a
first_part (ml.array a) = a
first_part (ml.map_of a) = a
first_part a = a

abbrev second_part : MlType → MlType
second_part (ml.arrow a b) = b
second_part a = a

abbrev row_of : MlType → MlTypes
row_of (ml.tuple ts) = ts
row_of (ml.named d ts) = ts
row_of a = ml.no_types

abbrev first_type : MlTypes → MlType
first_type ml.no_types = ml.unit
first_type (ml.more_types t ts) = t

abbrev other_types : MlTypes → MlTypes
other_types ml.no_types = ml.no_types
other_types (ml.more_types t ts) = ts

module _ (by to : ℕ → MlType) where
  abbrev Same : ℕ → Type 0
  Same v = by v ≡ to v

  mutual
    variables_same : (a : MlType) → put by a ≡ put to a → AllByRecursion Same (variables_of a)
    variables_same ml.int e = tt
    variables_same ml.bool e = tt
    variables_same ml.unit e = tt
    variables_same (ml.var v) e = (e, tt)
    variables_same (ml.arrow a b) e =
        all_both Same (variables_of a) (variables_of b) (variables_same a (ap first_part e)) (variables_same b (ap second_part e))
    variables_same (ml.tuple ts) e = row_same ts (ap row_of e)
    variables_same (ml.array a) e = variables_same a (ap first_part e)
    variables_same (ml.named d ts) e = row_same ts (ap row_of e)
    variables_same (ml.map_of a) e = variables_same a (ap first_part e)

    row_same : (ts : MlTypes) → put_all by ts ≡ put_all to ts → AllByRecursion Same (variables_in ts)
    row_same ml.no_types e = tt
    row_same (ml.more_types t ts) e =
        all_both Same (variables_of t) (variables_in ts) (variables_same t (ap first_type e)) (row_same ts (ap other_types e))

-- ---- each number below the bound of a type is a variable's or below one

-- one of these is this number or a later one
abbrev SomeFrom : ℕ → List ℕ → Type 0
SomeFrom v [] = ⊥
SomeFrom v (x ∷ xs) = (v ≤ x) ⊎ SomeFrom v xs

from_left : (v : ℕ) (xs ys : List ℕ) → SomeFrom v xs → SomeFrom v (xs ++ ys)
from_left v [] ys none = absurd none
from_left v (x ∷ xs) ys (inl h) = inl h
from_left v (x ∷ xs) ys (inr h) = inr (from_left v xs ys h)

from_right : (v : ℕ) (xs ys : List ℕ) → SomeFrom v ys → SomeFrom v (xs ++ ys)
from_right v [] ys h = h
from_right v (x ∷ xs) ys h = inr (from_right v xs ys h)

from_either : (v p q : ℕ) (xs ys : List ℕ) → (v < p → SomeFrom v xs) → (v < q → SomeFrom v ys) → v < max p q → (v < p) ⊎ (p ≤ v) → SomeFrom v (xs ++ ys)
from_either v p q xs ys f g h (inl low) = from_left v xs ys (f low)
from_either v p q xs ys f g h (inr high) = from_right v xs ys (g (omega (arith, h, high)))

mutual
  appears : (v : ℕ) (a : MlType) → v < bound_of a → SomeFrom v (variables_of a)
  appears v ml.int h = absurd (omega (arith, h))
  appears v ml.bool h = absurd (omega (arith, h))
  appears v ml.unit h = absurd (omega (arith, h))
  appears v (ml.var x) h = inl (omega (arith, h))
  appears v (ml.arrow a b) h =
      from_either v (bound_of a) (bound_of b) (variables_of a) (variables_of b) (appears v a) (appears v b) h (cases_lt v (bound_of a))
  appears v (ml.tuple ts) h = appears_in v ts h
  appears v (ml.array a) h = appears v a h
  appears v (ml.named d ts) h = appears_in v ts h
  appears v (ml.map_of a) h = appears v a h

  appears_in : (v : ℕ) (ts : MlTypes) → v < bound_of_all ts → SomeFrom v (variables_in ts)
  appears_in v ml.no_types h = absurd (omega (arith, h))
  appears_in v (ml.more_types t ts) h =
      from_either v (bound_of t) (bound_of_all ts) (variables_of t) (variables_in ts) (appears v t) (appears_in v ts) h (cases_lt v (bound_of t))

-- ---- where variables are numbered as they appear, what holds of each holds of all numbers up to the last

next_by : (P : ℕ → Type 0) (n x : ℕ) → x ≡ n → ((v : ℕ) → v < n → P v) → P x → (v : ℕ) → v < suc n → (v < n) ⊎ (n ≤ v) → P v
next_by P n x same low own v h (inl less) = low v less
next_by P n x same low own v h (inr high) = let last : x ≡ v = omega (arith, same, h, high) in subst P last own

next : (P : ℕ → Type 0) (n x : ℕ) → x ≡ n → ((v : ℕ) → v < n → P v) → P x → (v : ℕ) → v < suc n → P v
next P n x same low own v h = next_by P n x same low own v h (cases_lt v n)

numbered_all : (P : ℕ → Type 0) (n : ℕ) (xs : List ℕ) → AreNumbered n xs → ((v : ℕ) → v < n → P v) → AllByRecursion P xs → (v : ℕ) → SomeFrom v xs → P v
numbered_all P n [] m low all v none = absurd none
numbered_all P n (x ∷ xs) (inl m) low all v (inl h) = let less = m.0 in low v (omega (arith, h, less))
numbered_all P n (x ∷ xs) (inl m) low all v (inr h) = numbered_all P n xs m.1 low all.1 v h
numbered_all P n (x ∷ xs) (inr m) low all v (inl h) = let same = m.0 in next P n x same low all.0 v (omega (arith, h, same))
numbered_all P n (x ∷ xs) (inr m) low all v (inr h) = numbered_all P (suc n) xs m.1 (next P n x m.0 low all.0) all.1 v h

types_same : (ts us : MlTypes) → count_types ts ≡ count_types us → ((v : ℕ) → v < count_types ts → type_at ts v ≡ type_at us v) → ts ≡ us
types_same ml.no_types ml.no_types e h = refl
types_same ml.no_types (ml.more_types u us) e h = absurd (omega (arith, e))
types_same (ml.more_types t ts) ml.no_types e h = absurd (omega (arith, e))
types_same (ml.more_types t ts) (ml.more_types u us) e h =
    ap₂ ml.more_types (h 0 (omega arith)) (types_same ts us (omega (arith, e)) (λ v low. h (suc v) (omega (arith, low))))

pub arguments_same : (a : MlType) → AreNumbered 0 (variables_of a) → (ts us : MlTypes) → count_types ts ≡ bound_of a → count_types us ≡ bound_of a
    → put (type_at ts) a ≡ put (type_at us) a
    → ts ≡ us
arguments_same a numbered ts us n m e =
    types_same ts us (n ∙ sym m)
    (λ v low.
    numbered_all (λ (w : ℕ). type_at ts w ≡ type_at us w) 0 (variables_of a) numbered (λ w none. absurd (omega (arith, none)))
    (variables_same (type_at ts) (type_at us) a e) v (appears v a (omega (arith, low, n))))

-- ---- rows of types by their numbers

pub count_each : (f : ℕ → MlType) (rows : List ℕ) → count_types (each f rows) ≡ length rows
count_each f [] = refl
count_each f (r ∷ rows) = ap suc (count_each f rows)

pub at_row : (f : ℕ → MlType) (rows : List ℕ) (v : ℕ) → v < length rows → type_at (each f rows) v ≡ f (slice_index_or rows v 0)
at_row f [] v low = absurd (omega (arith, low))
at_row f (r ∷ rows) zero low = refl
at_row f (r ∷ rows) (suc v) low = at_row f rows v (omega (arith, low))

below_left : (v p q : ℕ) → v < p → v < max p q
below_left v p q h = omega (arith, h)

below_right : (v p q : ℕ) → v < q → v < max p q
below_right v p q h = omega (arith, h)

-- only what is put for numbers below the bound counts
module _ (by to : ℕ → MlType) where
  mutual
    pub put_like : (a : MlType) → ((v : ℕ) → v < bound_of a → by v ≡ to v) → put by a ≡ put to a
    put_like ml.int h = refl
    put_like ml.bool h = refl
    put_like ml.unit h = refl
    put_like (ml.var v) h = h v (omega arith)
    put_like (ml.arrow a b) h =
        ap₂ ml.arrow (put_like a (λ v low. h v (below_left v (bound_of a) (bound_of b) low)))
        (put_like b (λ v low. h v (below_right v (bound_of a) (bound_of b) low)))
    put_like (ml.tuple ts) h = ap ml.tuple (put_all_like ts h)
    put_like (ml.array a) h = ap ml.array (put_like a h)
    put_like (ml.named d ts) h = ap (ml.named d) (put_all_like ts h)
    put_like (ml.map_of a) h = ap ml.map_of (put_like a h)

    put_all_like : (ts : MlTypes) → ((v : ℕ) → v < bound_of_all ts → by v ≡ to v) → put_all by ts ≡ put_all to ts
    put_all_like ml.no_types h = refl
    put_all_like (ml.more_types t ts) h =
        ap₂ ml.more_types (put_like t (λ v low. h v (below_left v (bound_of t) (bound_of_all ts) low)))
        (put_all_like ts (λ v low. h v (below_right v (bound_of t) (bound_of_all ts) low)))
