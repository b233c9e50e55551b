-- What is stored where a reading is put, and where room is made.
use Rattle.std.proofs.Common.{◌≡◌, ◌∙◌, ◌⊎◌, inl, inr, ℕ, zero, suc, ◌<◌, List, [], ◌∷◌, ◌++◌, Option, Some, None, get_or, length, slice_get, slice_set, refl, sym, ap, ap₂, subst, arith}
use Rattle.std.proofs.lemmas.Option.{same_Some}
use Rattle.std.specs.Global.{Vec}
use Rattle.std.specs.Option.{option_and_then, option_flatten, option_map}
use Rattle.lq_solve_facts.specs.declared.facts.read.ReadPred.{ReadPred}
use Rattle.lq_solve_facts.specs.Store.Store.{left_at, read_at, stored_at}
use Rattle.lq_solve_facts.specs.declared.store.store.PartPlace.{PartPlace}
use Rattle.lq_solve_facts.specs.declared.store.store.PartPlace.TheVariants.{Environment, Goal, Left}
use Rattle.lq_solve_facts.specs.declared.store.store.Rows.{Rows}
use Rattle.lq_solve_facts.specs.declared.store.store.Store.{Store}

-- ---- a row, in which a place may be empty

pub empty_behind : {X Y : Type 0} (f : X → Y) (xs : List (Option X)) (n : ℕ) → option_map f (option_flatten (slice_get (xs ++ None ∷ []) n)) ≡ option_map f (option_flatten (slice_get xs n))
empty_behind f [] zero = refl
empty_behind f [] (suc n) = refl
empty_behind f (o ∷ xs) zero = refl
empty_behind f (o ∷ xs) (suc n) = empty_behind f xs n

pub put_in : {X Y : Type 0} (f : X → Y) (xs : List (Option X)) (i : ℕ) (x : X) (n : ℕ) (r : Y) → option_map f (option_flatten (slice_get (slice_set xs i (Some x)) n)) ≡ Some r
    → (option_map f (option_flatten (slice_get xs n)) ≡ Some r) ⊎ ((n ≡ i) × (r ≡ f x))
put_in f [] i x n r e = inl e
put_in f (o ∷ xs) zero x zero r e = inr (refl, sym (same_Some (f x) r e))
put_in f (o ∷ xs) zero x (suc n) r e = inl e
put_in f (o ∷ xs) (suc i) x zero r e = inl e
put_in f (o ∷ xs) (suc i) x (suc n) r e = elim (put_in f xs i x n r e) [ inl h ↦ inl h | inr h ↦ inr (ap suc h.0, h.1) ]

-- ---- rows of what has readings by keys

pub none_behind : {X K : Type 0} (f : X → K → Option ReadPred) (xs : List X) (e : X) (j : ℕ) (k : K) → f e k ≡ None
    → option_and_then (λ x. f x k) (slice_get (xs ++ e ∷ []) j) ≡ option_and_then (λ x. f x k) (slice_get xs j)
none_behind f [] e zero k h = h
none_behind f [] e (suc j) k h = refl
none_behind f (x ∷ xs) e zero k h = refl
none_behind f (x ∷ xs) e (suc j) k h = none_behind f xs e j k h

-- where a reading comes to one of them, it comes to the whole, and no other does
pub put_below : {X K : Type 0} (f : X → K → Option ReadPred) (xs : List X) (i : ℕ) (old new : X) (key : K) (read : ReadPred) → i < length xs → old ≡ get_or xs i old
    → ((k : K) (r : ReadPred) → f new k ≡ Some r → (f old k ≡ Some r) ⊎ ((k ≡ key) × (r ≡ read)))
    → (j : ℕ) (k : K) (r : ReadPred) → option_and_then (λ x. f x k) (slice_get (slice_set xs i new) j) ≡ Some r
    → (option_and_then (λ x. f x k) (slice_get xs j) ≡ Some r) ⊎ ((j ≡ i) × (k ≡ key) × (r ≡ read))
put_below f [] i old new key read w is h j k r e = inl e
put_below f (x ∷ xs) zero old new key read w is h zero k r e = elim (h k r e) [ inl g ↦ inl (subst (λ y. f y k ≡ Some r) is g) | inr g ↦ inr (refl, g.0, g.1) ]
put_below f (x ∷ xs) zero old new key read w is h (suc j) k r e = inl e
put_below f (x ∷ xs) (suc i) old new key read w is h zero k r e = inl e
put_below f (x ∷ xs) (suc i) old new key read w is h (suc j) k r e = elim (put_below f xs i old new key read (omega (arith, w)) is h j k r e) [ inl g ↦ inl g | inr g ↦ inr (ap suc g.0, g.1, g.2) ]

-- ---- the whole store, where a reading comes to one place

pub put_environment : (s : Store) (rows : Rows) (env : ℕ) (place : PartPlace) (number : ℕ) (read : ReadPred) → place ≡ Environment env
    → ((i n : ℕ) (r : ReadPred) → read_at rows i n ≡ Some r → (read_at s.environments i n ≡ Some r) ⊎ ((i ≡ env) × (n ≡ number) × (r ≡ read)))
    → (q : PartPlace) (n : ℕ) (r : ReadPred) → stored_at (record { alloc = s.alloc; environments = rows; goals = s.goals; lefts = s.lefts; count = s.count }) q n ≡ Some r
    → (stored_at s q n ≡ Some r) ⊎ ((q ≡ place) × (n ≡ number) × (r ≡ read))
put_environment s rows env place number read is h (Environment i) n r e = elim (h i n r e) [ inl x ↦ inl x | inr x ↦ inr (ap Environment x.0 ∙ sym is, x.1, x.2) ]
put_environment s rows env place number read is h (Goal i) n r e = inl e
put_environment s rows env place number read is h (Left j i) n r e = inl e

pub put_goal : (s : Store) (rows : Rows) (at : ℕ) (place : PartPlace) (number : ℕ) (read : ReadPred) → place ≡ Goal at
    → ((i n : ℕ) (r : ReadPred) → read_at rows i n ≡ Some r → (read_at s.goals i n ≡ Some r) ⊎ ((i ≡ at) × (n ≡ number) × (r ≡ read)))
    → (q : PartPlace) (n : ℕ) (r : ReadPred) → stored_at (record { alloc = s.alloc; environments = s.environments; goals = rows; lefts = s.lefts; count = s.count }) q n ≡ Some r
    → (stored_at s q n ≡ Some r) ⊎ ((q ≡ place) × (n ≡ number) × (r ≡ read))
put_goal s rows at place number read is h (Environment i) n r e = inl e
put_goal s rows at place number read is h (Goal i) n r e = elim (h i n r e) [ inl x ↦ inl x | inr x ↦ inr (ap Goal x.0 ∙ sym is, x.1, x.2) ]
put_goal s rows at place number read is h (Left j i) n r e = inl e

pub put_left : (s : Store) (lefts : Vec Rows) (at behind : ℕ) (place : PartPlace) (number : ℕ) (read : ReadPred) → place ≡ Left at behind
    → ((j i n : ℕ) (r : ReadPred) → left_at lefts.items j i n ≡ Some r → (left_at s.lefts.items j i n ≡ Some r) ⊎ ((j ≡ at) × (i ≡ behind) × (n ≡ number) × (r ≡ read)))
    → (q : PartPlace) (n : ℕ) (r : ReadPred) → stored_at (record { alloc = s.alloc; environments = s.environments; goals = s.goals; lefts = lefts; count = s.count }) q n ≡ Some r
    → (stored_at s q n ≡ Some r) ⊎ ((q ≡ place) × (n ≡ number) × (r ≡ read))
put_left s lefts at behind place number read is h (Environment i) n r e = inl e
put_left s lefts at behind place number read is h (Goal i) n r e = inl e
put_left s lefts at behind place number read is h (Left j i) n r e = elim (h j i n r e) [ inl x ↦ inl x | inr x ↦ inr (ap₂ Left x.0 x.1 ∙ sym is, x.2, x.3) ]

-- how many readings were stored doesn't matter
pub counted : (s : Store) (k : ℕ) (q : PartPlace) (n : ℕ)
    → stored_at (record { alloc = s.alloc; environments = s.environments; goals = s.goals; lefts = s.lefts; count = k }) q n ≡ stored_at s q n
counted s k (Environment i) n = refl
counted s k (Goal i) n = refl
counted s k (Left j i) n = refl
