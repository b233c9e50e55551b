-- How what is put for symbols comes to stand for values, symbol by symbol.
use Rattle.std.proofs.Common.{◌≡◌, ℕ, suc, ◌<◌, Bool, true, false, cond, ◌==◌, ◌||◌, List, [], ◌∷◌, length, Some, refl, sym, ap, ◌∙◌, subst, arith as numbers}
use Rattle.std.proofs.lemmas.Bool.{eqb-true}
use Rattle.lq_logic_predicates.specs.declared.symbol.Symbol.{Symbol}
use Rattle.lq_logic_predicates.specs.declared.symbol.Symbol.TheVariants as symbol
use Rattle.lq_logic_predicates.specs.Sum.{Sum, var, same_symbol}
use Rattle.lq_logic_predicates.specs.Formula.{Formula, flag}
use Rattle.lq_logic_predicates.specs.Truth.{object_of, term_value, truth_of}
use Rattle.lq_meaning_steps.specs.Model.Core.{Value, Values, no_values, more_values}
use Rattle.lq_refined_types.specs.Parts.Substitution.{Atom, of_sum, of_formula, swap, Subst, sum_at, flag_at}
use Rattle.lq_refined_types.specs.Types.Operations.{symbol_of, atom_of}
use Rattle.lq_refined_types.specs.Types.Refined.{Refineds, none, more, Kind, number, truth_value, object, other, kind, count}
use Rattle.lq_refined_types.specs.Subtyping.Splitting.{first_of, rest_of}
use Rattle.lq_refined_rules.specs.Checks.Match.{names_for}
use Rattle.lq_sound_values.specs.Inhabitants.Truth.{Givens, given, value_at, as_number, as_flag, as_object, Objects, meaning_of}
use Rattle.lq_sound_values.specs.Inhabitants.Shut.{field_values}
use Rattle.lq_sound_values.specs.Inclusion.Symbols.{Symbols, with_symbol}
use Rattle.lq_sound_values.proofs.InclusionLemmas.Truths.{same_symbol-is, decide, at_but}
use Rattle.lq_sound_values.specs.Runs.Closed.{with_value}
use Rattle.lq_sound_values.proofs.RunsLemmas.Closing.{or_parts}
use Rattle.lq_sound_forms.specs.Fields.Standing.{StandsOn}
use Rattle.lq_sound_forms.specs.Fields.Fields.{with_term, with_flag, terms_from, flags_from}

-- an atom for a value of a kind
abbrev pub AtomStands : Objects → Givens → Kind → Atom → Value → Type 0
AtomStands O σ truth_value (of_formula p) w = truth_of (meaning_of O σ) p ≡ as_flag (Some w)
AtomStands O σ truth_value (of_sum s) w = ⊥
AtomStands O σ number (of_sum s) w = (term_value (meaning_of O σ) s ≡ as_number (Some w)) × (object_of (meaning_of O σ) s ≡ as_object O (Some w))
AtomStands O σ number (of_formula p) w = ⊥
AtomStands O σ object (of_sum s) w = (term_value (meaning_of O σ) s ≡ as_number (Some w)) × (object_of (meaning_of O σ) s ≡ as_object O (Some w))
AtomStands O σ object (of_formula p) w = ⊥
AtomStands O σ other (of_sum s) w = (term_value (meaning_of O σ) s ≡ as_number (Some w)) × (object_of (meaning_of O σ) s ≡ as_object O (Some w))
AtomStands O σ other (of_formula p) w = ⊥

clash : (b : Bool) → b ≡ false → b ≡ true → ⊥
clash true p q = cc
clash false p q = cc

module _ (O : Objects) (θ : Subst) (P Q : Symbols) (σ τ : Givens) (x : Symbol) (w : Value) (newer : P x ≡ false) (newest : Q x ≡ false) (s : StandsOn O θ P Q σ τ) where
  -- a symbol of a set that lacks x is another one
  off : (R : Symbols) → R x ≡ false → (y : Symbol) → R y ≡ true → same_symbol x y ≡ false
  off R n y h =
      decide (same_symbol x y ≡ false) (same_symbol x y) (λ e. absurd (clash (R x) n (subst (λ z. R z ≡ true) (sym (same_symbol-is x y e)) h))) (λ e. e)

  behind : (y : Symbol) → same_symbol x y ≡ false → value_at (given x w ∷ τ) y ≡ value_at τ y
  behind y e = at_but τ x y w e

  here : (y : Symbol) → same_symbol x y ≡ true → value_at (given x w ∷ τ) y ≡ Some w
  here y e = ap (λ b. cond b (Some w) (value_at τ y)) e

  term_cons : (t : Sum) → term_value (meaning_of O σ) t ≡ as_number (Some w) → object_of (meaning_of O σ) t ≡ as_object O (Some w) → StandsOn O (swap x (of_sum t) ∷ θ) (with_symbol P x) Q σ (given x w ∷ τ)
  term_cons t n o =
      record { number = numbers_at; object = objects_at; holds = λ y h. s.holds y h ∙ sym (ap as_flag (behind y (off Q newest y h))) }
    where
      numbers_at : (y : Symbol) → with_symbol P x y ≡ true → term_value (meaning_of O σ) (cond (same_symbol x y) t (sum_at θ y)) ≡ as_number (value_at (given x w ∷ τ) y)
      numbers_at y h =
          decide _ (same_symbol x y) (λ e. ap (λ b. term_value (meaning_of O σ) (cond b t (sum_at θ y))) e ∙ n ∙ sym (ap as_number (here y e))) (λ e.
          ap (λ b. term_value (meaning_of O σ) (cond b t (sum_at θ y))) e ∙ s.number y (or_parts (P y ≡ true) (P y) (same_symbol x y) h (λ p. p) (λ q. absurd (clash (same_symbol x y) e q))) ∙ sym (ap as_number (behind y e)))

      objects_at : (y : Symbol) → with_symbol P x y ≡ true → object_of (meaning_of O σ) (cond (same_symbol x y) t (sum_at θ y)) ≡ as_object O (value_at (given x w ∷ τ) y)
      objects_at y h =
          decide _ (same_symbol x y) (λ e. ap (λ b. object_of (meaning_of O σ) (cond b t (sum_at θ y))) e ∙ o ∙ sym (ap (as_object O) (here y e))) (λ e.
          ap (λ b. object_of (meaning_of O σ) (cond b t (sum_at θ y))) e ∙ s.object y (or_parts (P y ≡ true) (P y) (same_symbol x y) h (λ p. p) (λ q. absurd (clash (same_symbol x y) e q))) ∙ sym (ap (as_object O) (behind y e)))

  flag_cons : (p : Formula) → truth_of (meaning_of O σ) p ≡ as_flag (Some w) → StandsOn O (swap x (of_formula p) ∷ θ) P (with_symbol Q x) σ (given x w ∷ τ)
  flag_cons p t =
      record { number = λ y h. s.number y h ∙ sym (ap as_number (behind y (off P newer y h))); object = λ y h. s.object y h ∙ sym (ap (as_object O) (behind y (off P newer y h))); holds = flags_at }
    where
      flags_at : (y : Symbol) → with_symbol Q x y ≡ true → truth_of (meaning_of O σ) (cond (same_symbol x y) p (flag_at θ y)) ≡ as_flag (value_at (given x w ∷ τ) y)
      flags_at y h =
          decide _ (same_symbol x y) (λ e. ap (λ b. truth_of (meaning_of O σ) (cond b p (flag_at θ y))) e ∙ t ∙ sym (ap as_flag (here y e))) (λ e.
          ap (λ b. truth_of (meaning_of O σ) (cond b p (flag_at θ y))) e ∙ s.holds y (or_parts (Q y ≡ true) (Q y) (same_symbol x y) h (λ q. q) (λ q. absurd (clash (same_symbol x y) e q))) ∙ sym (ap as_flag (behind y e)))

  -- one more symbol, with an atom for its value
  pub stands_cons : (k : Kind) (a : Atom) → AtomStands O σ k a w → StandsOn O (swap x a ∷ θ) (with_term k P x) (with_flag k Q x) σ (given x w ∷ τ)
  stands_cons number (of_sum t) h = term_cons t h.0 h.1
  stands_cons object (of_sum t) h = term_cons t h.0 h.1
  stands_cons other (of_sum t) h = term_cons t h.0 h.1
  stands_cons truth_value (of_formula p) h = flag_cons p h
  stands_cons number (of_formula p) h = absurd h
  stands_cons object (of_formula p) h = absurd h
  stands_cons other (of_formula p) h = absurd h
  stands_cons truth_value (of_sum t) h = absurd h

-- v, where nothing is put for it
pub stands_value : (O : Objects) (θ : Subst) (P Q : Symbols) (σ τ : Givens) (u : Value) → sum_at θ symbol.Value ≡ var symbol.Value → flag_at θ symbol.Value ≡ flag symbol.Value → StandsOn O θ P Q (given symbol.Value u ∷ σ) τ → StandsOn O θ (with_value P) (with_value Q) (given symbol.Value u ∷ σ) (given symbol.Value u ∷ τ)
stands_value O θ P Q σ τ u own_sum own_flag s =
    record { number = λ y h. decide _ (same_symbol symbol.Value y) (number_here y) (number_there y h); object = λ y h. decide _ (same_symbol symbol.Value y) (object_here y) (object_there y h); holds = λ y h. decide _ (same_symbol symbol.Value y) (holds_here y) (holds_there y h) }
  where
    left : (R : Symbols) (y : Symbol) → with_value R y ≡ true → same_symbol symbol.Value y ≡ false → R y ≡ true
    left R y h e = or_parts (R y ≡ true) (R y) (same_symbol symbol.Value y) h (λ p. p) (λ q. absurd (clash (same_symbol symbol.Value y) e q))

    number_here : (y : Symbol) → same_symbol symbol.Value y ≡ true → term_value (meaning_of O (given symbol.Value u ∷ σ)) (sum_at θ y) ≡ as_number (value_at (given symbol.Value u ∷ τ) y)
    number_here y e =
        subst (λ z. term_value (meaning_of O (given symbol.Value u ∷ σ)) (sum_at θ z) ≡ as_number (value_at (given symbol.Value u ∷ τ) z)) (same_symbol-is symbol.Value y e) (ap (term_value (meaning_of O (given symbol.Value u ∷ σ))) own_sum)

    number_there : (y : Symbol) → with_value P y ≡ true → same_symbol symbol.Value y ≡ false → term_value (meaning_of O (given symbol.Value u ∷ σ)) (sum_at θ y) ≡ as_number (value_at (given symbol.Value u ∷ τ) y)
    number_there y h e = s.number y (left P y h e) ∙ sym (ap as_number (at_but τ symbol.Value y u e))

    object_here : (y : Symbol) → same_symbol symbol.Value y ≡ true → object_of (meaning_of O (given symbol.Value u ∷ σ)) (sum_at θ y) ≡ as_object O (value_at (given symbol.Value u ∷ τ) y)
    object_here y e =
        subst (λ z. object_of (meaning_of O (given symbol.Value u ∷ σ)) (sum_at θ z) ≡ as_object O (value_at (given symbol.Value u ∷ τ) z)) (same_symbol-is symbol.Value y e) (ap (object_of (meaning_of O (given symbol.Value u ∷ σ))) own_sum)

    object_there : (y : Symbol) → with_value P y ≡ true → same_symbol symbol.Value y ≡ false → object_of (meaning_of O (given symbol.Value u ∷ σ)) (sum_at θ y) ≡ as_object O (value_at (given symbol.Value u ∷ τ) y)
    object_there y h e = s.object y (left P y h e) ∙ sym (ap (as_object O) (at_but τ symbol.Value y u e))

    holds_here : (y : Symbol) → same_symbol symbol.Value y ≡ true → truth_of (meaning_of O (given symbol.Value u ∷ σ)) (flag_at θ y) ≡ as_flag (value_at (given symbol.Value u ∷ τ) y)
    holds_here y e =
        subst (λ z. truth_of (meaning_of O (given symbol.Value u ∷ σ)) (flag_at θ z) ≡ as_flag (value_at (given symbol.Value u ∷ τ) z)) (same_symbol-is symbol.Value y e) (ap (truth_of (meaning_of O (given symbol.Value u ∷ σ))) own_flag)

    holds_there : (y : Symbol) → with_value Q y ≡ true → same_symbol symbol.Value y ≡ false → truth_of (meaning_of O (given symbol.Value u ∷ σ)) (flag_at θ y) ≡ as_flag (value_at (given symbol.Value u ∷ τ) y)
    holds_there y h e = s.holds y (left Q y h e) ∙ sym (ap as_flag (at_but τ symbol.Value y u e))

-- nothing is put, at values that agree
pub stands_agree : (O : Objects) (P Q : Symbols) (σ τ : Givens) → ((y : Symbol) → P y ≡ true → value_at σ y ≡ value_at τ y) → ((y : Symbol) → Q y ≡ true → value_at σ y ≡ value_at τ y) → StandsOn O [] P Q σ τ
stands_agree O P Q σ τ f g =
    record { number = λ y h. ap as_number (f y h); object = λ y h. ap (as_object O) (f y h); holds = λ y h. ap as_flag (g y h) }

-- ---- fields

-- only later fields are among those from one on
later_term : (k : Kind) (R : Symbols) (j i : ℕ) → (R (symbol.Position i) ≡ true → suc j < i) → with_term k R (symbol.Position (suc j)) (symbol.Position i) ≡ true → j < i
later_term number R j i f h = or_parts (j < i) (R (symbol.Position i)) (suc j == i) h (λ p. let l = f p in omega (numbers, l)) (λ e. let q = eqb-true (suc j) i e in omega (numbers, q))
later_term truth_value R j i f h = let l = f h in omega (numbers, l)
later_term object R j i f h = or_parts (j < i) (R (symbol.Position i)) (suc j == i) h (λ p. let l = f p in omega (numbers, l)) (λ e. let q = eqb-true (suc j) i e in omega (numbers, q))
later_term other R j i f h = or_parts (j < i) (R (symbol.Position i)) (suc j == i) h (λ p. let l = f p in omega (numbers, l)) (λ e. let q = eqb-true (suc j) i e in omega (numbers, q))

later_flag : (k : Kind) (R : Symbols) (j i : ℕ) → (R (symbol.Position i) ≡ true → suc j < i) → with_flag k R (symbol.Position (suc j)) (symbol.Position i) ≡ true → j < i
later_flag truth_value R j i f h = or_parts (j < i) (R (symbol.Position i)) (suc j == i) h (λ p. let l = f p in omega (numbers, l)) (λ e. let q = eqb-true (suc j) i e in omega (numbers, q))
later_flag number R j i f h = let l = f h in omega (numbers, l)
later_flag object R j i f h = let l = f h in omega (numbers, l)
later_flag other R j i f h = let l = f h in omega (numbers, l)

terms_later : (ts : Refineds) (j i : ℕ) → terms_from j ts (symbol.Position i) ≡ true → j < i
terms_later none j i h = absurd (cc)
terms_later (more t ts) j i h = later_term (kind t) (terms_from (suc j) ts) j i (terms_later ts (suc j) i) h

flags_later : (ts : Refineds) (j i : ℕ) → flags_from j ts (symbol.Position i) ≡ true → j < i
flags_later none j i h = absurd (cc)
flags_later (more t ts) j i h = later_flag (kind t) (flags_from (suc j) ts) j i (flags_later ts (suc j) i) h

is_false : (b : Bool) → (b ≡ true → ⊥) → b ≡ false
is_false true f = absurd (f refl)
is_false false f = refl

pub terms_new : (ts : Refineds) (j : ℕ) → terms_from (suc j) ts (symbol.Position (suc j)) ≡ false
terms_new ts j = is_false (terms_from (suc j) ts (symbol.Position (suc j))) (λ h. let l = terms_later ts (suc j) (suc j) h in omega (numbers, l))

pub flags_new : (ts : Refineds) (j : ℕ) → flags_from (suc j) ts (symbol.Position (suc j)) ≡ false
flags_new ts j = is_false (flags_from (suc j) ts (symbol.Position (suc j))) (λ h. let l = flags_later ts (suc j) (suc j) h in omega (numbers, l))

-- nor is v among them
or_false : (b : Bool) → b ≡ false → b || false ≡ false
or_false true h = absurd (cc)
or_false false h = refl

with_term_value : (k : Kind) (R : Symbols) (j : ℕ) → R symbol.Value ≡ false → with_term k R (symbol.Position j) symbol.Value ≡ false
with_term_value number R j h = or_false (R symbol.Value) h
with_term_value truth_value R j h = h
with_term_value object R j h = or_false (R symbol.Value) h
with_term_value other R j h = or_false (R symbol.Value) h

with_flag_value : (k : Kind) (R : Symbols) (j : ℕ) → R symbol.Value ≡ false → with_flag k R (symbol.Position j) symbol.Value ≡ false
with_flag_value number R j h = h
with_flag_value truth_value R j h = or_false (R symbol.Value) h
with_flag_value object R j h = h
with_flag_value other R j h = h

pub terms_not_value : (ts : Refineds) (j : ℕ) → terms_from j ts symbol.Value ≡ false
terms_not_value none j = refl
terms_not_value (more t ts) j = with_term_value (kind t) (terms_from (suc j) ts) (suc j) (terms_not_value ts (suc j))

pub flags_not_value : (ts : Refineds) (j : ℕ) → flags_from j ts symbol.Value ≡ false
flags_not_value none j = refl
flags_not_value (more t ts) j = with_flag_value (kind t) (flags_from (suc j) ts) (suc j) (flags_not_value ts (suc j))

-- ---- names for fields

-- the names have these values
abbrev pub HaveValues : Givens → List ℕ → Values → Type 0
HaveValues σ [] no_values = Unit {0}
HaveValues σ [] (more_values v vs) = ⊥
HaveValues σ (x ∷ xs) no_values = ⊥
HaveValues σ (x ∷ xs) (more_values v vs) = (value_at σ (symbol_of x) ≡ Some v) × HaveValues σ xs vs

pub name_stands : (O : Objects) (σ : Givens) (k : Kind) (x : Symbol) (w : Value) → value_at σ x ≡ Some w → AtomStands O σ k (atom_of k x) w
name_stands O σ number x w e = (ap as_number e, ap (as_object O) e)
name_stands O σ truth_value x w e = ap as_flag e
name_stands O σ object x w e = (ap as_number e, ap (as_object O) e)
name_stands O σ other x w e = (ap as_number e, ap (as_object O) e)

pub stands_nothing : (O : Objects) (σ : Givens) → StandsOn O [] (λ y. false) (λ y. false) σ []
stands_nothing O σ = record { number = λ y h. absurd (cc); object = λ y h. absurd (cc); holds = λ y h. absurd (cc) }

pub names_stand : (O : Objects) (σ : Givens) (xs : List ℕ) (ts : Refineds) (vs : Values) → length xs ≡ count ts → HaveValues σ xs vs → (j : ℕ) → StandsOn O (names_for j xs ts) (terms_from j ts) (flags_from j ts) σ (field_values j vs)
names_stand O σ [] none no_values e h j = stands_nothing O σ
names_stand O σ [] none (more_values v vs) e h j = absurd h
names_stand O σ (x ∷ xs) (more t ts) no_values e h j = absurd h
names_stand O σ [] (more t ts) vs e h j = absurd (omega (numbers, e))
names_stand O σ (x ∷ xs) none vs e h j = absurd (omega (numbers, e))
names_stand O σ (x ∷ xs) (more t ts) (more_values v vs) e h j =
    stands_cons O (names_for (suc j) xs ts) (terms_from (suc j) ts) (flags_from (suc j) ts) σ (field_values (suc j) vs) (symbol.Position (suc j)) v (terms_new ts j) (flags_new ts j) (names_stand O σ xs ts vs (omega (numbers, e)) h.1 (suc j)) (kind t) (atom_of (kind t) (symbol_of x)) (name_stands O σ (kind t) (symbol_of x) v h.0)

-- nothing is put for v
pub own_sum_cons : (k : Kind) (x : Symbol) (j : ℕ) (θ : Subst) → sum_at θ symbol.Value ≡ var symbol.Value → sum_at (swap (symbol.Position j) (atom_of k x) ∷ θ) symbol.Value ≡ var symbol.Value
own_sum_cons number x j θ h = h
own_sum_cons truth_value x j θ h = h
own_sum_cons object x j θ h = h
own_sum_cons other x j θ h = h

pub own_flag_cons : (k : Kind) (x : Symbol) (j : ℕ) (θ : Subst) → flag_at θ symbol.Value ≡ flag symbol.Value → flag_at (swap (symbol.Position j) (atom_of k x) ∷ θ) symbol.Value ≡ flag symbol.Value
own_flag_cons number x j θ h = h
own_flag_cons truth_value x j θ h = h
own_flag_cons object x j θ h = h
own_flag_cons other x j θ h = h

own_sum : (xs : List ℕ) (ts : Refineds) (j : ℕ) → sum_at (names_for j xs ts) symbol.Value ≡ var symbol.Value
own_sum [] ts j = refl
own_sum (x ∷ xs) ts j = own_sum_cons (kind (first_of ts)) (symbol_of x) (suc j) (names_for (suc j) xs (rest_of ts)) (own_sum xs (rest_of ts) (suc j))

own_flag : (xs : List ℕ) (ts : Refineds) (j : ℕ) → flag_at (names_for j xs ts) symbol.Value ≡ flag symbol.Value
own_flag [] ts j = refl
own_flag (x ∷ xs) ts j = own_flag_cons (kind (first_of ts)) (symbol_of x) (suc j) (names_for (suc j) xs (rest_of ts)) (own_flag xs (rest_of ts) (suc j))

-- the names stand for the fields, whatever v is
pub names_put : (O : Objects) (σ : Givens) (xs : List ℕ) (ts : Refineds) (vs : Values) → length xs ≡ count ts → HaveValues σ xs vs → (u : Value) → StandsOn O (names_for 0 xs ts) (with_value (terms_from 0 ts)) (with_value (flags_from 0 ts)) (given symbol.Value u ∷ σ) (given symbol.Value u ∷ field_values 0 vs)
names_put O σ xs ts vs e h u =
    stands_value O (names_for 0 xs ts) (terms_from 0 ts) (flags_from 0 ts) σ (field_values 0 vs) u (own_sum xs ts 0) (own_flag xs ts 0) (names_stand O (given symbol.Value u ∷ σ) xs ts vs e (with_v xs vs h) 0)
  where
    with_v : (ys : List ℕ) (ws : Values) → HaveValues σ ys ws → HaveValues (given symbol.Value u ∷ σ) ys ws
    with_v [] no_values k = k
    with_v [] (more_values w ws) k = absurd k
    with_v (y ∷ ys) no_values k = absurd k
    with_v (y ∷ ys) (more_values w ws) k = (k.0, with_v ys ws k.1)
