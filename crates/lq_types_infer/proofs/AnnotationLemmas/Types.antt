-- Types with others in place of their variables.
use Rattle.std.specs.Prelude.{All, ◌==◌, ◌||◌}
use Rattle.std.specs.List.{list_any}
use Rattle.std.proofs.Common.{◌≡◌, ℕ, zero, suc, Bool, true, false, List, [], ◌∷◌, ◌++◌, refl, ap, ap₂, subst, ◌∙◌}
use Rattle.std.proofs.lemmas.Bool.{eqb-true, false≢true}
use Rattle.std.proofs.lemmas.List.Elements.{All-nil, All-cons, All-head, All-tail}
use Rattle.lq_text_tree.specs.MlType as ml
use Rattle.lq_text_tree.specs.MlType.{MlType, MlTypes}
use Rattle.lq_text_tree.specs.Types.{put, put_all}
use Rattle.lq_types_rules.specs.Typings.Principal.{variables_of, variables_in}
use Rattle.lq_types_infer.specs.Annotation.Laws.{IsIn}

-- ---- what holds of each element

abbrev pub AllOf : {A : Type 0} → (A → Type 0) → List A → Type 0
AllOf P [] = Unit {0}
AllOf P (x ∷ xs) = P x × AllOf P xs

module _ {A : Type 0} (P : A → Type 0) where
  pub from_all : (xs : List A) → All P xs → AllOf P xs
  from_all [] h = tt
  from_all (x ∷ xs) h = (All-head P x xs h, from_all xs (All-tail P x xs h))

  pub to_all : (xs : List A) → AllOf P xs → All P xs
  to_all [] h = All-nil P
  to_all (x ∷ xs) h = All-cons P x xs h.0 (to_all xs h.1)

  pub left_part : (xs ys : List A) → AllOf P (xs ++ ys) → AllOf P xs
  left_part [] ys h = tt
  left_part (x ∷ xs) ys h = (h.0, left_part xs ys h.1)

  pub right_part : (xs ys : List A) → AllOf P (xs ++ ys) → AllOf P ys
  right_part [] ys h = h
  right_part (x ∷ xs) ys h = right_part xs ys h.1

module _ (P : ℕ → Type 0) where
  pub all_both : (xs ys : List ℕ) → AllOf P xs → AllOf P ys → AllOf P (xs ++ ys)
  all_both [] ys h more_of = more_of
  all_both (x ∷ xs) ys h more_of = (h.0, all_both xs ys h.1 more_of)

  at_first : (x v : ℕ) (xs : List ℕ) (b : Bool) → (b ≡ true → x ≡ v) → P x → (IsIn xs v → P v) → (b || list_any (λ y. y == v) xs) ≡ true → P v
  at_first x v xs true same here later h = subst P (same refl) here
  at_first x v xs false same here later h = later h

  pub all_at : (xs : List ℕ) (v : ℕ) → AllOf P xs → IsIn xs v → P v
  all_at [] v all h = absurd (false≢true h)
  all_at (x ∷ xs) v all h = at_first x v xs (x == v) (eqb-true x v) all.0 (all_at xs v all.1) h

-- ---- replacements

mutual
  pub put_put : (a : MlType) (f h : ℕ → MlType) → put h (put f a) ≡ put (λ i. put h (f i)) a
  put_put ml.int f h = refl
  put_put ml.bool f h = refl
  put_put ml.unit f h = refl
  put_put (ml.var i) f h = refl
  put_put (ml.arrow a b) f h = ap₂ ml.arrow (put_put a f h) (put_put b f h)
  put_put (ml.tuple ts) f h = ap ml.tuple (all_put_put ts f h)
  put_put (ml.array a) f h = ap ml.array (put_put a f h)
  put_put (ml.named d ts) f h = ap (ml.named d) (all_put_put ts f h)
  put_put (ml.map_of a) f h = ap ml.map_of (put_put a f h)

  all_put_put : (ts : MlTypes) (f h : ℕ → MlType) → put_all h (put_all f ts) ≡ put_all (λ i. put h (f i)) ts
  all_put_put ml.no_types f h = refl
  all_put_put (ml.more_types t ts) f h = ap₂ ml.more_types (put_put t f h) (all_put_put ts f h)

-- each variable for itself
mutual
  pub put_same : (a : MlType) → put ml.var a ≡ a
  put_same ml.int = refl
  put_same ml.bool = refl
  put_same ml.unit = refl
  put_same (ml.var i) = refl
  put_same (ml.arrow a b) = ap₂ ml.arrow (put_same a) (put_same b)
  put_same (ml.tuple ts) = ap ml.tuple (all_put_same ts)
  put_same (ml.array a) = ap ml.array (put_same a)
  put_same (ml.named d ts) = ap (ml.named d) (all_put_same ts)
  put_same (ml.map_of a) = ap ml.map_of (put_same a)

  all_put_same : (ts : MlTypes) → put_all ml.var ts ≡ ts
  all_put_same ml.no_types = refl
  all_put_same (ml.more_types t ts) = ap₂ ml.more_types (put_same t) (all_put_same ts)

abbrev pub name_of : MlType → ℕ
name_of (ml.var i) = i
name_of a = 0

abbrev first_of_two : MlType → MlType
first_of_two (ml.arrow a b) = a
first_of_two c = c

abbrev second_of_two : MlType → MlType
second_of_two (ml.arrow a b) = b
second_of_two c = c

abbrev inner_of : MlType → MlType
inner_of (ml.array a) = a
inner_of (ml.map_of a) = a
inner_of c = c

abbrev row_of : MlType → MlTypes
row_of (ml.tuple ts) = ts
row_of (ml.named d ts) = ts
row_of c = ml.no_types

abbrev head_type : MlTypes → MlType
head_type (ml.more_types t ts) = t
head_type ml.no_types = ml.unit

abbrev tail_types : MlTypes → MlTypes
tail_types (ml.more_types t ts) = ts
tail_types ml.no_types = ml.no_types

-- two replacements by which a type becomes the same put the same for its variables
module _ (f h : ℕ → MlType) where
  abbrev pub IsSame : ℕ → Type 0
  IsSame v = f v ≡ h v

  mutual
    pub same_at : (a : MlType) → put f a ≡ put h a → AllOf IsSame (variables_of a)
    same_at ml.int e = tt
    same_at ml.bool e = tt
    same_at ml.unit e = tt
    same_at (ml.var i) e = (e, tt)
    same_at (ml.arrow a b) e = all_both IsSame (variables_of a) (variables_of b) (same_at a (ap first_of_two e)) (same_at b (ap second_of_two e))
    same_at (ml.tuple ts) e = all_same ts (ap row_of e)
    same_at (ml.array a) e = same_at a (ap inner_of e)
    same_at (ml.named d ts) e = all_same ts (ap row_of e)
    same_at (ml.map_of a) e = same_at a (ap inner_of e)

    all_same : (ts : MlTypes) → put_all f ts ≡ put_all h ts → AllOf IsSame (variables_in ts)
    all_same ml.no_types e = tt
    all_same (ml.more_types t ts) e = all_both IsSame (variables_of t) (variables_in ts) (same_at t (ap head_type e)) (all_same ts (ap tail_types e))

-- ---- other names: each variable's number and one more

abbrev pub up : ℕ → MlType
up i = ml.var (suc i)

abbrev below : ℕ → ℕ
below zero = zero
below (suc i) = i

abbrev pub down : ℕ → MlType
down i = ml.var (below i)

pub down_up : (a : MlType) → put down (put up a) ≡ a
down_up a = put_put a up down ∙ put_same a
