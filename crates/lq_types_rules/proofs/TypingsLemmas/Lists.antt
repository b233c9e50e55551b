-- What holds of each element of a list.
use Rattle.std.specs.Prelude.{All}
use Rattle.std.proofs.Common.{List, [], ◌∷◌, ◌++◌}
use Rattle.std.proofs.lemmas.List.Elements.{All-nil, All-cons, All-head, All-tail}

abbrev pub AllOf : {A : Type 0} → (A → Type 0) → List A → Type 0
AllOf P [] = Unit {0}
AllOf P (x ∷ xs) = P x × AllOf P xs

module _ {A : Type 0} (P : A → Type 0) where
  pub all_both : (xs ys : List A) → AllOf P xs → AllOf P ys → AllOf P (xs ++ ys)
  all_both [] ys h more_of = more_of
  all_both (x ∷ xs) ys h more_of = (h.0, all_both xs ys h.1 more_of)

  pub all_left : (xs ys : List A) → AllOf P (xs ++ ys) → AllOf P xs
  all_left [] ys h = tt
  all_left (x ∷ xs) ys h = (h.0, all_left xs ys h.1)

  pub all_right : (xs ys : List A) → AllOf P (xs ++ ys) → AllOf P ys
  all_right [] ys h = h
  all_right (x ∷ xs) ys h = all_right xs ys h.1

  -- an element that stands before others or behind the first of them
  pub all_in : (x : A) (xs ys : List A) → AllOf P (x ∷ (xs ++ ys)) → AllOf P (xs ++ (x ∷ ys))
  all_in x xs ys h = all_both xs (x ∷ ys) (all_left xs ys h.1) (h.0, all_right xs ys h.1)

  pub all_out : (x : A) (xs ys : List A) → AllOf P (xs ++ (x ∷ ys)) → AllOf P (x ∷ (xs ++ ys))
  all_out x xs ys h =
      let behind = all_right xs (x ∷ ys) h in
      (behind.0, all_both xs ys (all_left xs (x ∷ ys) h) behind.1)

pub all_weaker : {A : Type 0} (P Q : A → Type 0) → ((x : A) → P x → Q x) → (xs : List A) → AllOf P xs → AllOf Q xs
all_weaker P Q f [] h = tt
all_weaker P Q f (x ∷ xs) h = (f x h.0, all_weaker P Q f xs h.1)

-- the same by places
pub from_all : {A : Type 0} (P : A → Type 0) (xs : List A) → All P xs → AllOf P xs
from_all P [] h = tt
from_all P (x ∷ xs) h = (All-head P x xs h, from_all P xs (All-tail P x xs h))

pub to_all : {A : Type 0} (P : A → Type 0) (xs : List A) → AllOf P xs → All P xs
to_all P [] h = All-nil P
to_all P (x ∷ xs) h = All-cons P x xs h.0 (to_all P xs h.1)
