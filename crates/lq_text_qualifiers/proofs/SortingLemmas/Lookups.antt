-- Lookups put together, and tables that grow.
use Rattle.std.specs.Prelude.{◌==◌}
use Rattle.std.proofs.Common.{◌≡◌, ℕ, Bool, true, false, List, [], ◌∷◌, ◌++◌, Option, Some, None, refl, sym, ap, ◌∙◌, if◌then◌else◌}
use Rattle.std.specs.Option.{option_map}
use Rattle.lq_text_qualifiers.specs.Faults.Lookups.{Lookup, or_else, one, first_in}

pub joined : {X : Type 0} (a b c : Option X) → or_else (or_else a b) c ≡ or_else a (or_else b c)
joined None b c = refl
joined (Some a) b c = refl

pub nothing_behind : {X : Type 0} (a : Option X) → or_else a None ≡ a
nothing_behind None = refl
nothing_behind (Some a) = refl

pub first_append : {X : Type 0} (ps qs : List (ℕ × X)) (x : ℕ) → first_in (ps ++ qs) x ≡ or_else (first_in ps x) (first_in qs x)
first_append [] qs x = refl
first_append (p ∷ ps) qs x = ap (or_else (one p.0 p.1 x)) (first_append ps qs x) ∙ sym (joined (one p.0 p.1 x) (first_in ps x) (first_in qs x))

mapped : {T X : Type 0} (view : T → X) (a b : Option T) → option_map view (or_else a b) ≡ or_else (option_map view a) (option_map view b)
mapped view None b = refl
mapped view (Some a) b = refl

mapped_one : {T X : Type 0} (view : T → X) (k : ℕ) (v : T) (x : ℕ) → option_map view (one k v x) ≡ one k (view v) x
mapped_one {T} {X} view k v x = by_test (k == x)
  where
    by_test : (t : Bool) → option_map view (if t then Some v else None) ≡ (if t then Some (view v) else None)
    by_test true = refl
    by_test false = refl

-- a table with one name more, seen
pub added : {T X : Type 0} (view : T → X) (old new : Lookup T) (k : ℕ) (v : T) → ((x : ℕ) → new x ≡ or_else (old x) (one k v x))
    → (x : ℕ) → option_map view (new x) ≡ or_else (option_map view (old x)) (one k (view v) x)
added view old new k v is x =
    ap (option_map view) (is x) ∙ mapped view (old x) (one k v x) ∙ ap (or_else (option_map view (old x))) (mapped_one view k v x)

-- what a table has and what is left: the next one goes into the table
pub one_less : {X : Type 0} (old new : Lookup X) (p : ℕ × X) (rest : List (ℕ × X)) (whole : Lookup X) → ((x : ℕ) → new x ≡ or_else (old x) (one p.0 p.1 x))
    → ((x : ℕ) → or_else (old x) (first_in (p ∷ rest) x) ≡ whole x) → (x : ℕ) → or_else (new x) (first_in rest x) ≡ whole x
one_less old new p rest whole is before x =
    ap (λ o. or_else o (first_in rest x)) (is x) ∙ joined (old x) (one p.0 p.1 x) (first_in rest x) ∙ before x

-- the same of several
pub some_less : {X : Type 0} (old new : Lookup X) (ps rest : List (ℕ × X)) (whole : Lookup X) → ((x : ℕ) → new x ≡ or_else (old x) (first_in ps x))
    → ((x : ℕ) → or_else (old x) (first_in (ps ++ rest) x) ≡ whole x) → (x : ℕ) → or_else (new x) (first_in rest x) ≡ whole x
some_less old new ps rest whole is before x =
    ap (λ o. or_else o (first_in rest x)) (is x) ∙ joined (old x) (first_in ps x) (first_in rest x) ∙ ap (or_else (old x)) (sym (first_append ps rest x)) ∙ before x
