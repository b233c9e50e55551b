-- What lies before in the text, and at one place has the lower code, is an order.
use Rattle.std.specs.Prelude.{◌==◌, ◌&&◌, ◌||◌, nat_lt}
use Rattle.std.proofs.Common.{◌≡◌, ◌⊎◌, inl, inr, ℕ, ◌<◌, ◌≤◌, Bool, true, false, List, [], ◌∷◌, Option, Some, None, refl, sym, subst, ◌∙◌, arith, if◌then◌else◌}
use Rattle.std.proofs.lemmas.Bool.{cases_lt}
use Rattle.std.proofs.lemmas.Bool.Decides.{Decides-eqb, Decides-ltb}
use Rattle.lq_text_qualifiers.specs.Faults.Complaints.{Complaint, code_of, is_less, least_with}
use Rattle.lq_text_qualifiers.specs.Faults.Least.{IsAmong, IsLeast, IsTold, LeastIsLeast}

-- three numbers before three others
abbrev Before : ℕ → ℕ → ℕ → ℕ → ℕ → ℕ → Type 0
Before l c k m d j = (l < m) ⊎ ((l ≡ m) × ((c < d) ⊎ ((c ≡ d) × (k < j))))

abbrev before : ℕ → ℕ → ℕ → ℕ → ℕ → ℕ → Bool
before l c k m d j = (nat_lt l m || (l == m && nat_lt c d)) || (l == m && c == d && nat_lt k j)

holds : (l c k m d j : ℕ) → Before l c k m d j → before l c k m d j ≡ true
holds l c k m d j (inl less) = let a = (Decides-ltb l m).1 less in cc
holds l c k m d j (inr (same, inl less)) = let a = (Decides-eqb l m).1 same in let b = (Decides-ltb c d).1 less in by_first (nat_lt l m) a b
  where
    by_first : (t : Bool) → (l == m) ≡ true → nat_lt c d ≡ true → (t || (l == m && nat_lt c d)) || (l == m && c == d && nat_lt k j) ≡ true
    by_first true a b = refl
    by_first false a b = cc
holds l c k m d j (inr (same, inr (also, less))) = let a = (Decides-eqb l m).1 same in let b = (Decides-eqb c d).1 also in let e = (Decides-ltb k j).1 less in by_first (nat_lt l m) (nat_lt c d) a b e
  where
    by_first : (t u : Bool) → (l == m) ≡ true → (c == d) ≡ true → nat_lt k j ≡ true → (t || (l == m && u)) || (l == m && c == d && nat_lt k j) ≡ true
    by_first true u a b e = refl
    by_first false true a b e = cc
    by_first false false a b e = cc

means : (l c k m d j : ℕ) → before l c k m d j ≡ true → Before l c k m d j
means l c k m d j is = by_tests (nat_lt l m) (l == m) (nat_lt c d) (c == d) (nat_lt k j) refl refl refl refl refl is
  where
    by_tests : (t u v w x : Bool) → nat_lt l m ≡ t → (l == m) ≡ u → nat_lt c d ≡ v → (c == d) ≡ w → nat_lt k j ≡ x → (t || (u && v)) || (u && w && x) ≡ true → Before l c k m d j
    by_tests true u v w x a b e f g is = inl ((Decides-ltb l m).0 a)
    by_tests false true true w x a b e f g is = inr ((Decides-eqb l m).0 b, inl ((Decides-ltb c d).0 e))
    by_tests false true false true true a b e f g is = inr ((Decides-eqb l m).0 b, inr ((Decides-eqb c d).0 f, (Decides-ltb k j).0 g))
    by_tests false true false true false a b e f g is = absurd (let it = is in cc)
    by_tests false true false false x a b e f g is = absurd (let it = is in cc)
    by_tests false false v w x a b e f g is = absurd (let it = is in cc)

-- what is not before
not_before : (l c k m d j : ℕ) → (Before l c k m d j → ⊥) → before l c k m d j ≡ false
not_before l c k m d j none = by_test (before l c k m d j) refl
  where
    by_test : (t : Bool) → before l c k m d j ≡ t → before l c k m d j ≡ false
    by_test true is = absurd (none (means l c k m d j is))
    by_test false is = is

never : (l c k m d j : ℕ) → before l c k m d j ≡ false → Before l c k m d j → ⊥
never l c k m d j is less = let wrong : true ≡ false = sym (holds l c k m d j less) ∙ is in cc

itself : (l c k : ℕ) → Before l c k l c k → ⊥
itself l c k (inl less) = omega (arith, less)
itself l c k (inr (same, inl less)) = omega (arith, less)
itself l c k (inr (same, inr (also, less))) = omega (arith, less)

through : (l c k m d j n e h : ℕ) → Before l c k m d j → Before m d j n e h → Before l c k n e h
through l c k m d j n e h (inl x) (inl y) = inl (omega (arith, x, y))
through l c k m d j n e h (inl x) (inr (s, y)) = inl (omega (arith, x, s))
through l c k m d j n e h (inr (s, x)) (inl y) = inl (omega (arith, s, y))
through l c k m d j n e h (inr (s, inl x)) (inr (t, inl y)) = inr (s ∙ t, inl (omega (arith, x, y)))
through l c k m d j n e h (inr (s, inl x)) (inr (t, inr (u, y))) = inr (s ∙ t, inl (omega (arith, x, u)))
through l c k m d j n e h (inr (s, inr (u, x))) (inr (t, inl y)) = inr (s ∙ t, inl (omega (arith, u, y)))
through l c k m d j n e h (inr (s, inr (u, x))) (inr (t, inr (v, y))) = inr (s ∙ t, inr (u ∙ v, omega (arith, x, y)))

-- what is before a third, and not before a second, has the second before the third
behind : (l c k m d j n e h : ℕ) → (Before l c k m d j → ⊥) → Before l c k n e h → Before m d j n e h
behind l c k m d j n e h no_less less = by_lines (cases_lt l m) (cases_lt m l)
  where
    by_codes : l ≡ m → c ≡ d → (k < j) ⊎ (j ≤ k) → Before l c k n e h → Before m d j n e h
    by_codes s t (inl x) y = absurd (no_less (inr (s, inr (t, x))))
    by_codes s t (inr x) (inl y) = inl (omega (arith, s, y))
    by_codes s t (inr x) (inr (u, inl y)) = inr (sym s ∙ u, inl (omega (arith, t, y)))
    by_codes s t (inr x) (inr (u, inr (v, y))) = inr (sym s ∙ u, inr (sym t ∙ v, omega (arith, x, y)))

    by_columns : l ≡ m → (c < d) ⊎ (d ≤ c) → (d < c) ⊎ (c ≤ d) → Before m d j n e h
    by_columns s (inl x) z = absurd (no_less (inr (s, inl x)))
    by_columns s (inr x) (inl y) = through m d j l c k n e h (inr (sym s, inl y)) less
    by_columns s (inr x) (inr y) = by_codes s (omega (arith, x, y)) (cases_lt k j) less

    by_lines : (l < m) ⊎ (m ≤ l) → (m < l) ⊎ (l ≤ m) → Before m d j n e h
    by_lines (inl x) z = absurd (no_less (inl x))
    by_lines (inr x) (inl y) = through m d j l c k n e h (inl y) less
    by_lines (inr x) (inr y) = by_columns (omega (arith, x, y)) (cases_lt c d) (cases_lt d c)

not_itself : (c : Complaint) → is_less c c ≡ false
not_itself c = not_before c.place.line c.place.column (code_of c.cause) c.place.line c.place.column (code_of c.cause) (itself c.place.line c.place.column (code_of c.cause))

-- what is not less than one, which is not less than a third, is not less than the third
not_less : (c b r : Complaint) → is_less c b ≡ false → is_less b r ≡ false → is_less c r ≡ false
not_less c b r x y =
    not_before c.place.line c.place.column (code_of c.cause) r.place.line r.place.column (code_of r.cause)
    (λ z. never b.place.line b.place.column (code_of b.cause) r.place.line r.place.column (code_of r.cause) y
    (behind c.place.line c.place.column (code_of c.cause) b.place.line b.place.column (code_of b.cause) r.place.line r.place.column (code_of r.cause)
    (never c.place.line c.place.column (code_of c.cause) b.place.line b.place.column (code_of b.cause) x) z))

-- what a lesser one took the place of
given_up : (c b r : Complaint) → is_less c b ≡ true → is_less c r ≡ false → is_less b r ≡ false
given_up c b r x y =
    not_before b.place.line b.place.column (code_of b.cause) r.place.line r.place.column (code_of r.cause)
    (λ z. never c.place.line c.place.column (code_of c.cause) r.place.line r.place.column (code_of r.cause) y
    (through c.place.line c.place.column (code_of c.cause) b.place.line b.place.column (code_of b.cause) r.place.line r.place.column (code_of r.cause)
    (means c.place.line c.place.column (code_of c.cause) b.place.line b.place.column (code_of b.cause) x) z))

-- the least of one and of a list is one of these, and none of them is less
abbrev LeastOf : Complaint → List Complaint → Option Complaint → Type 0
LeastOf b cs None = ⊥
LeastOf b cs (Some r) = IsLeast (b ∷ cs) r

least_of_all : (cs : List Complaint) (b : Complaint) → LeastOf b cs (least_with (Some b) cs)
least_of_all [] b = record { among = inl refl; least_of = λ d among. by_one d among }
  where
    by_one : (d : Complaint) → IsAmong d (b ∷ []) → is_less d b ≡ false
    by_one d (inl same) = subst (λ e. is_less e b ≡ false) (sym same) (not_itself b)
    by_one d (inr none) = absurd none
least_of_all (c ∷ cs) b = by_test (is_less c b) refl (least_of_all cs c) (least_of_all cs b)
  where
    with_new : (o : Option Complaint) → is_less c b ≡ true → LeastOf c cs o → LeastOf b (c ∷ cs) o
    with_new None less none = none
    with_new (Some r) less is = record {
      among = inr is.among;
      least_of = λ d among. all d among;
    }
      where
        all : (d : Complaint) → IsAmong d (b ∷ c ∷ cs) → is_less d r ≡ false
        all d (inl same) = subst (λ e. is_less e r ≡ false) (sym same) (given_up c b r less (is.least_of c (inl refl)))
        all d (inr more) = is.least_of d more

    with_old : (o : Option Complaint) → is_less c b ≡ false → LeastOf b cs o → LeastOf b (c ∷ cs) o
    with_old None other none = none
    with_old (Some r) other is = record {
      among = one_of is.among;
      least_of = λ d among. all d among;
    }
      where
        one_of : IsAmong r (b ∷ cs) → IsAmong r (b ∷ c ∷ cs)
        one_of (inl same) = inl same
        one_of (inr more) = inr (inr more)

        all : (d : Complaint) → IsAmong d (b ∷ c ∷ cs) → is_less d r ≡ false
        all d (inl same) = is.least_of d (inl same)
        all d (inr (inl same)) = subst (λ e. is_less e r ≡ false) (sym same) (not_less c b r other (is.least_of b (inl refl)))
        all d (inr (inr more)) = is.least_of d (inr more)

    by_test : (t : Bool) → is_less c b ≡ t → LeastOf c cs (least_with (Some c) cs) → LeastOf b cs (least_with (Some b) cs)
        → LeastOf b (c ∷ cs) (least_with (if t then Some c else Some b) cs)
    by_test true less new old = with_new (least_with (Some c) cs) less new
    by_test false other new old = with_old (least_with (Some b) cs) other old

pub least_is_least : LeastIsLeast
least_is_least [] = refl
least_is_least (c ∷ cs) = told (least_with (Some c) cs) (least_of_all cs c)
  where
    told : (o : Option Complaint) → LeastOf c cs o → IsTold (c ∷ cs) o
    told None none = absurd none
    told (Some r) is = is
