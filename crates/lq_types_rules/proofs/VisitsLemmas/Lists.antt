-- What holds of each element of a list.
use Rattle.std.specs.Prelude.{All}
use Rattle.std.proofs.Common.{ℕ, ◌+◌, List, [], ◌∷◌, ◌++◌}
use Rattle.std.proofs.lemmas.List.Elements.{All-nil, All-cons}
use Rattle.lq_types_rules.specs.Visits.Owning.{binder_slots}

abbrev pub AllOf : {A : Type 0} → (A → Type 0) → List A → Type 0
AllOf P [] = Unit {0}
AllOf P (x ∷ xs) = P x × AllOf P xs

module _ {A : Type 0} (P : A → Type 0) where
  pub all_both : (xs ys : List A) → AllOf P xs → AllOf P ys → AllOf P (xs ++ ys)
  all_both [] ys h more_of = more_of
  all_both (x ∷ xs) ys h more_of = (h.0, all_both xs ys h.1 more_of)

  pub all_left : (xs ys : List A) → AllOf P (xs ++ ys) → AllOf P xs
  all_left [] ys h = tt
  all_left (x ∷ xs) ys h = (h.0, all_left xs ys h.1)

  pub all_right : (xs ys : List A) → AllOf P (xs ++ ys) → AllOf P ys
  all_right [] ys h = h
  all_right (x ∷ xs) ys h = all_right xs ys h.1

  -- an element that stands before others or behind the first of them
  pub all_in : (x : A) (xs ys : List A) → AllOf P (x ∷ (xs ++ ys)) → AllOf P (xs ++ (x ∷ ys))
  all_in x xs ys h = all_both xs (x ∷ ys) (all_left xs ys h.1) (h.0, all_right xs ys h.1)

  pub all_out : (x : A) (xs ys : List A) → AllOf P (xs ++ (x ∷ ys)) → AllOf P (x ∷ (xs ++ ys))
  all_out x xs ys h = let behind = all_right xs (x ∷ ys) h in (behind.0, all_both xs ys (all_left xs (x ∷ ys) h) behind.1)

  -- the same by places
  pub to_all : (xs : List A) → AllOf P xs → All P xs
  to_all [] h = All-nil P
  to_all (x ∷ xs) h = All-cons P x xs h.0 (to_all xs h.1)

module _ {A : Type 0} (P Q : A → Type 0) where
  pub all_weaker : ((x : A) → P x → Q x) → (xs : List A) → AllOf P xs → AllOf Q xs
  all_weaker f [] h = tt
  all_weaker f (x ∷ xs) h = (f x h.0, all_weaker f xs h.1)

-- what holds of each binder's slot
module _ (P : ℕ → Type 0) (nodes : ℕ) where
  pub to_slots : (xs : List ℕ) → AllOf (λ x. P (nodes + x)) xs → AllOf P (binder_slots nodes xs)
  to_slots [] h = tt
  to_slots (x ∷ xs) h = (h.0, to_slots xs h.1)

  pub from_slots : (xs : List ℕ) → AllOf P (binder_slots nodes xs) → AllOf (λ x. P (nodes + x)) xs
  from_slots [] h = tt
  from_slots (x ∷ xs) h = (h.0, from_slots xs h.1)
