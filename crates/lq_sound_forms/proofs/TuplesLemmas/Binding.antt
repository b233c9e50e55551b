-- Names with types and values, one after another.
use Rattle.std.proofs.Common.{◌≡◌, ℕ, suc, ◌≤◌, ◌==◌, Bool, true, false, List, [], ◌∷◌, ◌++◌, length, Some, refl, sym, ap, ◌∙◌, if◌then◌else◌, arith as numbers}
use Rattle.std.proofs.lemmas.Bool.{eqb-true, eq-eqb}
use Rattle.lq_logic_predicates.specs.declared.symbol.Symbol.{Symbol}
use Rattle.lq_logic_predicates.specs.declared.symbol.Symbol.TheVariants as symbol
use Rattle.lq_logic_predicates.specs.Sum.{same_symbol}
use Rattle.lq_meaning_steps.specs.Model.Core.{Pairs, value_in, Value, Values, no_values, more_values}
use Rattle.lq_meaning_steps.specs.Model.Operations.{fits_all, both_pairs}
use Rattle.lq_refined_types.specs.Types.Context.{Context}
use Rattle.lq_refined_types.specs.Types.Operations.{symbol_of}
use Rattle.lq_refined_types.specs.Types.Refined.{Refineds, none, more, top, count}
use Rattle.lq_refined_types.specs.Subtyping.Splitting.{first_of, rest_of}
use Rattle.lq_refined_rules.specs.Checks.Binders.{IsNotIn}
use Rattle.lq_refined_rules.specs.Checks.Match.{bind_all}
use Rattle.lq_refined_rules.specs.Checks.Operation.{bind}
use Rattle.lq_sound_values.specs.Inhabitants.Truth.{Givens, given, Scene, AreTrue}
use Rattle.lq_sound_values.specs.Inhabitants.Shut.{shut_all, Shuts}
use Rattle.lq_sound_values.specs.Inhabitants.Inhabits.{Table, CallsBelow, SameBelow}
use Rattle.lq_sound_values.proofs.InhabitantsLemmas.Keeping.{AllFit}
use Rattle.lq_sound_values.proofs.InhabitantsLemmas.Topped.{type_has, top_true}
use Rattle.lq_sound_values.specs.Inclusion.Apart.{IsKnown}
use Rattle.lq_sound_values.specs.Inclusion.Laws.{IsScene}
use Rattle.lq_sound_values.specs.Inclusion.Symbols.{Symbols, Agree}
use Rattle.lq_sound_values.proofs.InclusionLemmas.Truths.{at_self, same_symbol-refl, parts_same, agree_with, agree_back}
use Rattle.lq_sound_values.specs.Runs.Closed.{names_in, with_value, IsClosedIn, IsClosed}
use Rattle.lq_sound_values.specs.Runs.Meets.{pairs, Variables, Named, Meets}
use Rattle.lq_sound_values.proofs.RunsLemmas.Closing.{or_left, or_right, new_name, agree_new, may_bind_in}
use Rattle.lq_sound_values.proofs.RunsLemmas.Lower.{Lower}
use Rattle.lq_sound_values.proofs.RunsLemmas.Meeting.{extends_self, meets_less, named_at, within_bind, only_own, new_outside}
use Rattle.lq_sound_forms.proofs.FieldsLemmas.Stands.{HaveValues}
use Rattle.lq_sound_forms.specs.Pures.Cores.{name_patterns}

-- values for the names in front, the last one first
abbrev pub onto : List ℕ → Values → Givens → Givens
onto [] vs σ = σ
onto (x ∷ xs) no_values σ = σ
onto (x ∷ xs) (more_values v vs) σ = onto xs vs (given (symbol_of x) v ∷ σ)

abbrev pub count_values : Values → ℕ
count_values no_values = 0
count_values (more_values v vs) = suc (count_values vs)

-- what is no name of the environment is neither general nor hidden
abbrev IsWithin : Variables → Context → Type 0
IsWithin by Γ = (x : Symbol) → names_in Γ x ≡ false → (by.general x ≡ false) × (by.hidden x ≡ false)

module _ (S : Scene) where
  -- an environment in which names are bound is closed where it is with them, and what is inside its types speaks of these symbols
  closed_before : (N : Symbols) (xs : List ℕ) (ts : Refineds) (Γ : Context) → IsClosedIn S N (bind_all xs ts Γ) → IsClosedIn S N Γ
  closed_before N [] ts Γ c = c
  closed_before N (x ∷ xs) ts Γ c = (closed_before N xs (rest_of ts) (bind x (first_of ts) Γ) c).3

  -- the first of the names is new there, and its type is over the names before it
  first_bound : (x : ℕ) (xs : List ℕ) (ts : Refineds) (Γ : Context) → IsClosed S (bind_all (x ∷ xs) ts Γ) → IsClosedIn S (names_in (bind_all (x ∷ xs) ts Γ)) (bind x (first_of ts) Γ)
  first_bound x xs ts Γ c = closed_before (names_in (bind_all (x ∷ xs) ts Γ)) xs (rest_of ts) (bind x (first_of ts) Γ) c

  -- earlier names keep their values
  pub agree_all : (xs : List ℕ) (ts : Refineds) (vs : Values) (Γ : Context) (σ : Givens) → IsClosed S (bind_all xs ts Γ) → Agree (names_in Γ) (onto xs vs σ) σ
  agree_all [] ts vs Γ σ c y h = refl
  agree_all (x ∷ xs) ts no_values Γ σ c y h = refl
  agree_all (x ∷ xs) ts (more_values v vs) Γ σ c y h =
      agree_all xs (rest_of ts) vs (bind x (first_of ts) Γ) (given (symbol_of x) v ∷ σ) c y (or_left (names_in Γ y) (same_symbol (symbol_of x) y) h) ∙ agree_new Γ (symbol_of x) v σ (first_bound x xs ts Γ c).1 y h

  pub have_values : (xs : List ℕ) (ts : Refineds) (vs : Values) (Γ : Context) (σ : Givens) → length xs ≡ count_values vs → IsClosed S (bind_all xs ts Γ) → HaveValues (onto xs vs σ) xs vs
  have_values [] ts no_values Γ σ e c = tt
  have_values [] ts (more_values v vs) Γ σ e c = absurd (omega (numbers, e))
  have_values (x ∷ xs) ts no_values Γ σ e c = absurd (omega (numbers, e))
  have_values (x ∷ xs) ts (more_values v vs) Γ σ e c =
      (agree_all xs (rest_of ts) vs (bind x (first_of ts) Γ) (given (symbol_of x) v ∷ σ) c (symbol_of x) (or_right (names_in Γ (symbol_of x)) (same_symbol (symbol_of x) (symbol_of x)) (same_symbol-refl (symbol_of x))) ∙ at_self σ (symbol_of x) v, have_values xs (rest_of ts) vs (bind x (first_of ts) Γ) (given (symbol_of x) v ∷ σ) (omega (numbers, e)) c)

  -- values that inhabit the names' types, where all names have values, are good for the environment
  module _ (law : Lower) (is : IsScene S) (by : Variables) (m : ℕ) (W : Table) where
    bound_all : (xs : List ℕ) (ts : Refineds) (vs : Values) → length xs ≡ count ts → (Γ : Context) (σ : Givens) → IsClosed S (bind_all xs ts Γ) → IsKnown S Γ σ → Named S by m W (onto xs vs σ) Γ σ → IsWithin by Γ → AllFit S m W (shut_all (onto xs vs σ) by.types ts) vs → Meets S by m W (bind_all xs ts Γ) (onto xs vs σ)
    bound_all [] ts vs e Γ σ c k h i fit = record { known = k; named = h; within = i }
    bound_all (x ∷ xs) none vs e Γ σ c k h i fit = absurd (omega (numbers, e))
    bound_all (x ∷ xs) (more t ts) no_values e Γ σ c k h i fit = absurd fit
    bound_all (x ∷ xs) (more t ts) (more_values v vs) e Γ σ c k h i fit =
        let ρ = onto (x ∷ xs) (more_values v vs) σ in
        let N = names_in (bind_all (x ∷ xs) (more t ts) Γ) in
        let inner = first_bound x xs (more t ts) Γ c in
        let agree : Agree (names_in Γ) ρ σ = agree_all (x ∷ xs) (more t ts) (more_values v vs) Γ σ c in
        let holds : AreTrue S (given symbol.Value v ∷ σ) (top t) = parts_same S (with_value (names_in Γ)) (given symbol.Value v ∷ ρ) (given symbol.Value v ∷ σ) (top t) (agree_with (names_in Γ) ρ σ symbol.Value v agree) inner.2.0.1 (top_true S (CallsBelow S m) (SameBelow S m) W ρ ρ by.types t v fit.0) in
        let known = law.bound S is Γ σ (symbol_of x) t v (may_bind_in law S is N Γ (symbol_of x) t inner) k (type_has S (CallsBelow S m) (SameBelow S m) W ρ ρ by.types t v fit.0) holds in
        let own = only_own law S by m W ρ (symbol_of x) t v (i (symbol_of x) (new_outside law S Γ (symbol_of x) inner.1)).0 fit.0 in
        bound_all xs ts vs (omega (numbers, e)) (bind x t Γ) (given (symbol_of x) v ∷ σ) c known (refl, own, h) (within_bind law S Γ (symbol_of x) t by i) fit.1

  pub meets_all : Lower → IsScene S → (by : Variables) (n m : ℕ) (W : Table) → m ≤ n → (xs : List ℕ) (ts : Refineds) (vs : Values) → length xs ≡ count ts → (Γ : Context) (σ : Givens) → IsClosed S Γ → IsClosed S (bind_all xs ts Γ) → Meets S by n W Γ σ → AllFit S m W (shut_all (onto xs vs σ) by.types ts) vs → Meets S by m W (bind_all xs ts Γ) (onto xs vs σ)
  meets_all law is by n m W le xs ts vs e Γ σ closed c k fit =
      let less = meets_less law S by n m W W Γ σ le (extends_self W) k in
      bound_all law is by m W xs ts vs e Γ σ c less.known (named_at law S is by m W (names_in Γ) σ (onto xs vs σ) (agree_back (names_in Γ) (onto xs vs σ) σ (agree_all xs ts vs Γ σ c)) Γ σ (λ y h. h) closed less.named) less.within fit

  -- no name comes twice
  pub name_differs : (xs : List ℕ) (ts : Refineds) (Γ : Context) (x : ℕ) → IsClosed S (bind_all xs ts Γ) → names_in Γ (symbol_of x) ≡ true → IsNotIn xs x
  name_differs [] ts Γ x c h = tt
  name_differs (z ∷ zs) ts Γ x c h =
      (new_name Γ (symbol_of z) (symbol_of x) (first_bound z zs ts Γ c).1 h, name_differs zs (rest_of ts) (bind z (first_of ts) Γ) x c (or_left (names_in Γ (symbol_of x)) (same_symbol (symbol_of z) (symbol_of x)) h))

-- ---- the program's variables

-- what names as patterns give
abbrev pub zipped : List ℕ → Values → Pairs
zipped [] vs = []
zipped (x ∷ xs) no_values = []
zipped (x ∷ xs) (more_values v vs) = (x, v) ∷ zipped xs vs

pub names_fit : (xs : List ℕ) (vs : Values) → length xs ≡ count_values vs → fits_all (name_patterns xs) vs ≡ Some (zipped xs vs)
names_fit [] no_values e = refl
names_fit [] (more_values v vs) e = absurd (omega (numbers, e))
names_fit (x ∷ xs) no_values e = absurd (omega (numbers, e))
names_fit (x ∷ xs) (more_values v vs) e = ap (both_pairs (Some ((x, v) ∷ []))) (names_fit xs vs (omega (numbers, e)))

-- a pair may stand behind pairs of other variables
moved : (x : ℕ) (v : Value) (xs : List ℕ) (vs : Values) (ps : Pairs) (y : ℕ) → IsNotIn xs x → value_in ((x, v) ∷ (zipped xs vs ++ ps)) y ≡ value_in (zipped xs vs ++ (x, v) ∷ ps) y
moved x v [] vs ps y h = refl
moved x v (z ∷ zs) no_values ps y h = refl
moved x v (z ∷ zs) (more_values u us) ps y h = at (x == y) (z == y) refl refl (moved x v zs us ps y h.1)
  where
    at : (b c : Bool) → (x == y) ≡ b → (z == y) ≡ c → (if x == y then Some v else value_in (zipped zs us ++ ps) y) ≡ value_in (zipped zs us ++ (x, v) ∷ ps) y → (if x == y then Some v else (if z == y then Some u else value_in (zipped zs us ++ ps) y)) ≡ (if z == y then Some u else value_in (zipped zs us ++ (x, v) ∷ ps) y)
    at true true p q r = absurd (clash (z == x) h.0 (eq-eqb z x (eqb-true z y q ∙ sym (eqb-true x y p))))
      where
        clash : (b : Bool) → b ≡ false → b ≡ true → ⊥
        clash true s t = cc
        clash false s t = cc
    at true false p q r =
        ap (λ b. if b then Some v else (if z == y then Some u else value_in (zipped zs us ++ ps) y)) p ∙ sym (ap (λ b. if b then Some v else value_in (zipped zs us ++ ps) y) p) ∙ r ∙ sym (ap (λ b. if b then Some u else value_in (zipped zs us ++ (x, v) ∷ ps) y) q)
    at false true p q r =
        ap (λ b. if b then Some v else (if z == y then Some u else value_in (zipped zs us ++ ps) y)) p ∙ ap (λ b. if b then Some u else value_in (zipped zs us ++ ps) y) q ∙ sym (ap (λ b. if b then Some u else value_in (zipped zs us ++ (x, v) ∷ ps) y) q)
    at false false p q r =
        ap (λ b. if b then Some v else (if z == y then Some u else value_in (zipped zs us ++ ps) y)) p ∙ ap (λ b. if b then Some u else value_in (zipped zs us ++ ps) y) q ∙ sym (ap (λ b. if b then Some v else value_in (zipped zs us ++ ps) y) p) ∙ r ∙ sym (ap (λ b. if b then Some u else value_in (zipped zs us ++ (x, v) ∷ ps) y) q)

pub same_pairs : (S : Scene) (xs : List ℕ) (ts : Refineds) (vs : Values) (Γ : Context) (σ : Givens) → IsClosed S (bind_all xs ts Γ) → (y : ℕ) → value_in (zipped xs vs ++ pairs σ) y ≡ value_in (pairs (onto xs vs σ)) y
same_pairs S [] ts vs Γ σ c y = refl
same_pairs S (x ∷ xs) ts no_values Γ σ c y = refl
same_pairs S (x ∷ xs) ts (more_values v vs) Γ σ c y =
    moved x v xs vs (pairs σ) y (name_differs S xs (rest_of ts) (bind x (first_of ts) Γ) x c (or_right (names_in Γ (symbol_of x)) (same_symbol (symbol_of x) (symbol_of x)) (same_symbol-refl (symbol_of x)))) ∙ same_pairs S xs (rest_of ts) vs (bind x (first_of ts) Γ) (given (symbol_of x) v ∷ σ) c y
