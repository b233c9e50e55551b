-- Matches on values that are no datatype's: the first arm is taken.
use Rattle.std.proofs.Common.{◌≡◌, ◌⊎◌, inl, inr, ℕ, suc, ◌<◌, ◌≤◌, ◌==◌, ◌||◌, Bool, true, false, List, [], ◌∷◌, ◌++◌, length, Some, refl, sym, ap, ◌∙◌, subst, arith as numbers}
use Rattle.std.proofs.lemmas.Bool.{eqb-true}
use Rattle.lq_base_names.specs.declared.place.Place.{Place}
use Rattle.lq_logic_predicates.specs.declared.symbol.Symbol.{Symbol}
use Rattle.lq_logic_predicates.specs.declared.symbol.Symbol.TheVariants as symbol
use Rattle.lq_logic_predicates.specs.Formula.{flag}
use Rattle.lq_logic_predicates.specs.Sum.{var, same_symbol}
use Rattle.lq_meaning_steps.specs.Model.Core as core
use Rattle.lq_meaning_steps.specs.Model.Core.{Core, use_of, match_on, more_arms, Value, v_unit, v_tuple, Values, no_values, more_values, Pairs, close}
use Rattle.lq_meaning_steps.specs.Model.Operations.{World, fits}
use Rattle.lq_refined_types.specs.Parts.Assignment.{Assignment}
use Rattle.lq_refined_types.specs.Parts.Part.{Parts, Scopes, parts_by}
use Rattle.lq_refined_types.specs.Parts.Substitution.{Subst, sum_at, flag_at}
use Rattle.lq_text_tree.specs.MlType as ml
use Rattle.lq_text_tree.specs.MlType.{MlType, MlTypes}
use Rattle.lq_text_tree.specs.Types.{Constructor, count_types}
use Rattle.lq_refined_types.specs.Types.Context.{Context, IsNew}
use Rattle.lq_refined_types.specs.Types.Operations.{symbol_of, atom_of}
use Rattle.lq_refined_types.specs.Types.Refined.{Refined, Refineds, int_with, bool_with, unit_type, function, tuple_of, array_with, data_with, map_with, type_variable, none, more, Kind, number, truth_value, object, other, kind, top, with_top, count, erased, all_erased}
use Rattle.lq_refined_types.specs.Subtyping.Splitting.{first_of, rest_of}
use Rattle.lq_refined_rules.specs.Checks.Basis.{Basis}
use Rattle.lq_refined_rules.specs.Checks.Fitting.{Fits}
use Rattle.lq_refined_rules.specs.Checks.Match.{is_data_match, is_datatype, in_arm, arm_context, name_for, bind_all, bind_components}
use Rattle.lq_refined_rules.specs.Checks.Operation.{bind}
use Rattle.lq_refined_rules.specs.Checks.Pure.{pure_type, variable_type}
use Rattle.lq_refined_rules.specs.Checks.Pure as pures
use Rattle.lq_refined_rules.specs.Checks.Tree as tree
use Rattle.lq_refined_rules.specs.Checks.Tree.{Use, Pattern, pattern_any, pattern_name, pattern_unit, pattern_tuple, pattern_build}
use Rattle.lq_refined_rules.specs.Checks.Typing as typing
use Rattle.lq_refined_rules.specs.Checks.Typing.{Points, AreTemplates, Types, HasPattern, has_any, has_name, has_nothing, has_components, has_fields}
use Rattle.lq_sound_values.specs.Inhabitants.Truth.{Givens, given, value_at, Objects, AreTrue, Scene}
use Rattle.lq_sound_values.specs.Inhabitants.Shut.{shut, read_at, shut_all, Shuts, position, components}
use Rattle.lq_sound_values.specs.Inhabitants.Inhabits.{Table, Inhabits, Agrees}
use Rattle.lq_sound_values.specs.Inhabitants.Runs.{RunsWell, LandsIn}
use Rattle.lq_sound_values.specs.Inhabitants.Datatypes.{DatatypesFit}
use Rattle.lq_sound_values.proofs.InhabitantsLemmas.Keeping.{AllFit}
use Rattle.lq_sound_values.specs.Inclusion.Laws.{IsScene}
use Rattle.lq_sound_values.specs.Inclusion.Symbols.{Symbols, ComponentsOn, TopOn, TypeOn, Agree}
use Rattle.lq_sound_values.proofs.InclusionLemmas.Truths as truths
use Rattle.lq_sound_values.proofs.InclusionLemmas.Truths.{agree_back, at_but}
use Rattle.lq_sound_values.proofs.InclusionLemmas.Likes.{inside_like}
use Rattle.lq_sound_values.proofs.InclusionLemmas.Putting.{same_like}
use Rattle.lq_sound_values.specs.Runs.Closed.{names_in, with_value, IsClosed}
use Rattle.lq_sound_values.specs.Runs.Meets.{pairs, Variables, Meets}
use Rattle.lq_sound_values.specs.Runs.Runs.{Exactly, RunsTo}
use Rattle.lq_sound_values.proofs.RunsLemmas.Closing.{value_apart, agree_new}
use Rattle.lq_sound_values.proofs.RunsLemmas.Lower as lower
use Rattle.lq_sound_values.proofs.RunsLemmas.Meeting.{extends_self, meets_less, new_outside}
use Rattle.lq_sound_forms.specs.Fields.Fields.{with_term, with_flag}
use Rattle.lq_sound_forms.specs.Fields.Standing.{StandsOn}
use Rattle.lq_sound_forms.proofs.FieldsLemmas.Standing.{parts_put}
use Rattle.lq_sound_forms.proofs.FieldsLemmas.Stands.{HaveValues, name_stands, own_sum_cons, own_flag_cons, stands_agree, stands_cons, stands_value}
use Rattle.lq_sound_forms.specs.Pures.Cores.{arm_pattern}
use Rattle.lq_sound_forms.specs.Pures.Pures.{KnowsLengths, scene_of, UseIn}
use Rattle.lq_sound_forms.proofs.PuresLemmas.Pures.{Instancing, value_of_pair, no_position, Used, use_type, look_up}
use Rattle.lq_sound_forms.specs.Calls.Operands.{IsUsable, OperandsRun}
use Rattle.lq_sound_forms.proofs.CallsLemmas.Operands.{no_value}
use Rattle.lq_sound_forms.specs.Tuples.Tuples.{AreComponentsOver, HasComponentsOver}
use Rattle.lq_sound_forms.proofs.TuplesLemmas.Alike.{plain_below, own_inside}
use Rattle.lq_sound_forms.proofs.TuplesLemmas.Arms.{Closings, match_goes, arm_runs}
use Rattle.lq_sound_forms.proofs.TuplesLemmas.Binding.{onto, count_values, agree_all, have_values, meets_all, zipped, names_fit, same_pairs}

abbrev pub predicates : lower.Lower → truths.Lower
predicates law = record { valid = law.valid; truth-by = law.truth-by; under-by = law.under-by }

-- ---- components

-- the types that the names of components get
abbrev pub component_types : Scopes → Subst → ℕ → List ℕ → Refineds → Refineds
component_types scopes θ j [] ts = none
component_types scopes θ j (x ∷ xs) ts =
    more (with_top (parts_by scopes θ (top (first_of ts))) (first_of ts)) (component_types scopes (name_for j x (first_of ts) ∷ θ) (suc j) xs (rest_of ts))

bound-components : (scopes : Scopes) (θ : Subst) (j : ℕ) (xs : List ℕ) (ts : Refineds) (Γ : Context) → bind_components scopes θ j xs ts Γ ≡ bind_all xs (component_types scopes θ j xs ts) Γ
bound-components scopes θ j [] ts Γ = refl
bound-components scopes θ j (x ∷ xs) ts Γ =
    bound-components scopes (name_for j x (first_of ts) ∷ θ) (suc j) xs (rest_of ts) (bind x (with_top (parts_by scopes θ (top (first_of ts))) (first_of ts)) Γ)

count-components : (scopes : Scopes) (θ : Subst) (j : ℕ) (xs : List ℕ) (ts : Refineds) → length xs ≡ count (component_types scopes θ j xs ts)
count-components scopes θ j [] ts = refl
count-components scopes θ j (x ∷ xs) ts = ap suc (count-components scopes (name_for j x (first_of ts) ∷ θ) (suc j) xs (rest_of ts))

pub components_counts : (S : Scene) (n : ℕ) (W : Table) (σ κ : Givens) (by : Shuts) (j : ℕ) (ts : Refineds) (vs : Values) → AllFit S n W (components σ by κ j ts vs) vs → count ts ≡ count_values vs
components_counts S n W σ κ by j none no_values h = refl
components_counts S n W σ κ by j none (more_values v vs) h = absurd h
components_counts S n W σ κ by j (more t ts) no_values h = absurd h
components_counts S n W σ κ by j (more t ts) (more_values v vs) h = ap suc (components_counts S n W σ (position j v κ) by (suc j) ts vs h.1)

-- another top, read at other values
pub other_top : (S : Scene) (n : ℕ) (W : Table) (κ μ σ : Givens) (by : Shuts) (v : Value) (t : Refined) (q : Parts) → (AreTrue S (given symbol.Value v ∷ κ) (top t) → AreTrue S (given symbol.Value v ∷ μ) q) → Inhabits S n W (read_at κ σ by t) v → Inhabits S n W (read_at μ σ by (with_top q t)) v
other_top S n W κ μ σ by v (int_with p) q f h = (h.0, (f h.1.0, tt))
other_top S n W κ μ σ by v (bool_with p) q f h = (h.0, (f h.1.0, tt))
other_top S n W κ μ σ by v unit_type q f h = (h.0, tt)
other_top S n W κ μ σ by v (function x a b) q f h = (h.0, tt)
other_top S n W κ μ σ by v (tuple_of ts) q f h = (h.0, tt)
other_top S n W κ μ σ by v (array_with e p) q f h = (h.0, (f h.1.0, tt))
other_top S n W κ μ σ by v (data_with d ts m p) q f h = (h.0, (f h.1.0, tt))
other_top S n W κ μ σ by v (map_with e p) q f h = (h.0, tt)
other_top S n W κ μ σ by v (type_variable i) q f h = (h.0, h.1)

-- a symbol that is none of these nor the one more
not_one : (P : Symbols) (x y : Symbol) → P y ≡ false → same_symbol x y ≡ false → P y || same_symbol x y ≡ false
not_one P x y h e = both (P y) (same_symbol x y) h e
  where
    both : (a b : Bool) → a ≡ false → b ≡ false → a || b ≡ false
    both true b p q = absurd (cc)
    both false b p q = q

less_apart : (j i : ℕ) → j < i → (j == i) ≡ false
less_apart j i lt = differ (j == i) (λ e. let q = eqb-true j i e in omega (numbers, q, lt))
  where
    differ : (b : Bool) → (b ≡ true → ⊥) → b ≡ false
    differ true f = absurd (f refl)
    differ false f = refl

-- no later component is among the symbols
abbrev Before : ℕ → Symbols → Type 0
Before j P = (i : ℕ) → j ≤ i → P (symbol.Position (suc i)) ≡ false

before_term : (k : Kind) (P : Symbols) (j : ℕ) → Before j P → Before (suc j) (with_term k P (symbol.Position (suc j)))
before_term k P j f i le = at k (f i (omega (numbers, le)))
  where
    at : (k : Kind) → P (symbol.Position (suc i)) ≡ false → with_term k P (symbol.Position (suc j)) (symbol.Position (suc i)) ≡ false
    at number h = not_one P (symbol.Position (suc j)) (symbol.Position (suc i)) h (less_apart (suc j) (suc i) (omega (numbers, le)))
    at truth_value h = h
    at object h = not_one P (symbol.Position (suc j)) (symbol.Position (suc i)) h (less_apart (suc j) (suc i) (omega (numbers, le)))
    at other h = not_one P (symbol.Position (suc j)) (symbol.Position (suc i)) h (less_apart (suc j) (suc i) (omega (numbers, le)))

before_flag : (k : Kind) (P : Symbols) (j : ℕ) → Before j P → Before (suc j) (with_flag k P (symbol.Position (suc j)))
before_flag k P j f i le = at k (f i (omega (numbers, le)))
  where
    at : (k : Kind) → P (symbol.Position (suc i)) ≡ false → with_flag k P (symbol.Position (suc j)) (symbol.Position (suc i)) ≡ false
    at truth_value h = not_one P (symbol.Position (suc j)) (symbol.Position (suc i)) h (less_apart (suc j) (suc i) (omega (numbers, le)))
    at number h = h
    at object h = h
    at other h = h

module _ (law : lower.Lower) (fit : DatatypesFit) (S : Scene) (is : IsScene S) (by : Shuts) where
  -- components' values inhabit the types of their names, where all names have values
  components_named : (σ τ : Givens) (N : Symbols) → Agree N σ τ → (xs : List ℕ) (ts : Refineds) (vs : Values) → length xs ≡ count ts → (j : ℕ) (M : Symbols) → ComponentsOn S.assignment ts N j M → (θ : Subst) (P Q : Symbols) (κ : Givens) → Before j P → Before j Q → ((u : Value) → StandsOn S.objects θ P Q (given symbol.Value u ∷ τ) κ) → sum_at θ symbol.Value ≡ var symbol.Value → flag_at θ symbol.Value ≡ flag symbol.Value → AreComponentsOver S.assignment P Q j ts → HaveValues τ xs vs → (n : ℕ) (W : Table) → AllFit S n W (components σ by κ j ts vs) vs → AllFit S n W (shut_all τ by (component_types S.setting.scopes θ j xs ts)) vs
  components_named σ τ N agree [] none no_values e j M on θ P Q κ bp bq s os of over h n W fits = tt
  components_named σ τ N agree [] none (more_values v vs) e j M on θ P Q κ bp bq s os of over h n W fits = absurd h
  components_named σ τ N agree [] (more t ts) vs e j M on θ P Q κ bp bq s os of over h n W fits = absurd (omega (numbers, e))
  components_named σ τ N agree (x ∷ xs) none vs e j M on θ P Q κ bp bq s os of over h n W fits = absurd (omega (numbers, e))
  components_named σ τ N agree (x ∷ xs) (more t ts) no_values e j M on θ P Q κ bp bq s os of over h n W fits = absurd h
  components_named σ τ N agree (x ∷ xs) (more t ts) (more_values v vs) e j M on θ P Q κ bp bq s os of over h n W fits =
      let moved : Inhabits S n W (read_at κ τ by t) v = inside_like fit S is.covariant (same_like S by t N on.0 σ τ agree) κ κ (λ u has q. q) n W v fits.0 in
      let put = parts_put (predicates law) S θ (with_value P) (with_value Q) (given symbol.Value v ∷ τ) (given symbol.Value v ∷ κ) (stands_value S.objects θ P Q τ κ v os of (s v)) is.scoped (top t) over.0 in (
        other_top S n W κ τ τ by v t (parts_by S.setting.scopes θ (top t)) put.1 moved,
        components_named σ τ N agree xs ts vs (omega (numbers, e)) (suc j) _ on.2 (name_for j x t ∷ θ) (with_term (kind t) P (symbol.Position (suc j))) (with_flag (kind t) Q (symbol.Position (suc j))) (position j v κ) (before_term (kind t) P j bp) (before_flag (kind t) Q j bq) (λ u.
            stands_cons S.objects θ P Q (given symbol.Value u ∷ τ) κ (symbol.Position (suc j)) v (bp j (omega numbers)) (bq j (omega numbers)) (s u) (kind t) (atom_of (kind t) (symbol_of x)) (name_stands S.objects (given symbol.Value u ∷ τ) (kind t) (symbol_of x) v h.0)) (own_sum_cons (kind t) (symbol_of x) (suc j) θ os) (own_flag_cons (kind t) (symbol_of x) (suc j) θ of) over.1 h.1 n W fits.1,
      )

-- ---- first arms

pub unit_of : (S : Scene) (n : ℕ) (W : Table) (σ : Givens) (by : Shuts) (v : Value) → Inhabits S n W (shut σ by unit_type) v → v ≡ v_unit
unit_of S n W σ by v_unit h = refl
unit_of S n W σ by _ h = absurd h.0

pub tuple_of_them : (S : Scene) (n : ℕ) (W : Table) (σ : Givens) (by : Shuts) (ts : Refineds) (v : Value) → Inhabits S n W (shut σ by (tuple_of ts)) v → (vs : Values) × (v ≡ v_tuple vs) × AllFit S n W (components σ by σ 0 ts vs) vs
tuple_of_them S n W σ by ts (v_tuple vs) h = (vs, refl, h.0)
tuple_of_them S n W σ by ts _ h = absurd h.0

-- what a variable runs to exactly is its value
pub exact_is : (σ : Givens) (x : ℕ) (v u : Value) (w : World) → value_at σ (symbol_of x) ≡ Some v → RunsWell 0 (close (pairs σ) (use_of x)) w (Exactly u w) → v ≡ u
exact_is σ x v u w is h =
    (subst (λ o. RunsWell 0 (core.replaced x o) w (Exactly u w)) (value_of_pair σ x ∙ is) h).0

-- types of a form
unit_form : (t : Refined) → erased t ≡ ml.unit → t ≡ unit_type
unit_form unit_type e = refl
unit_form (int_with p) e = absurd (cc)
unit_form (bool_with p) e = absurd (cc)
unit_form (function x a b) e = absurd (cc)
unit_form (tuple_of ts) e = absurd (cc)
unit_form (array_with c p) e = absurd (cc)
unit_form (data_with d ts m p) e = absurd (cc)
unit_form (map_with c p) e = absurd (cc)
unit_form (type_variable i) e = absurd (cc)

tuple_form : (t : Refined) (us : MlTypes) → erased t ≡ ml.tuple us → (ts : Refineds) × (t ≡ tuple_of ts) × (all_erased ts ≡ us)
tuple_form (tuple_of ts) us e = (ts, refl, ap inner e)
  where
    inner : MlType → MlTypes
    inner (ml.tuple vs) = vs
    inner _ = ml.no_types
tuple_form unit_type us e = absurd (cc)
tuple_form (int_with p) us e = absurd (cc)
tuple_form (bool_with p) us e = absurd (cc)
tuple_form (function x a b) us e = absurd (cc)
tuple_form (array_with c p) us e = absurd (cc)
tuple_form (data_with d ts m p) us e = absurd (cc)
tuple_form (map_with c p) us e = absurd (cc)
tuple_form (type_variable i) us e = absurd (cc)

no_datatype : (t : Refined) (d : ℕ) (us : MlTypes) → erased t ≡ ml.named d us → is_datatype t ≡ false → ⊥
no_datatype (data_with d ts m p) c us e h = absurd (cc)
no_datatype (int_with p) c us e h = absurd (cc)
no_datatype (bool_with p) c us e h = absurd (cc)
no_datatype unit_type c us e h = absurd (cc)
no_datatype (function x a b) c us e h = absurd (cc)
no_datatype (tuple_of ts) c us e h = absurd (cc)
no_datatype (array_with f p) c us e h = absurd (cc)
no_datatype (map_with f p) c us e h = absurd (cc)
no_datatype (type_variable i) c us e h = absurd (cc)

-- what a pattern's typing says
abbrev pub PatternHas : Basis → MlType → Pattern → Type 0
PatternHas P a pattern_any = Unit {0}
PatternHas P a (pattern_name x) = Unit {0}
PatternHas P a pattern_unit = a ≡ ml.unit
PatternHas P a (pattern_tuple xs) = (us : MlTypes) × (a ≡ ml.tuple us) × (length xs ≡ count_types us)
PatternHas P a (pattern_build c xs) =
    (k : Constructor) × (us : MlTypes) × (a ≡ ml.named k.datatype us) × (P.setting.constructors c ≡ Some k) × (count_types us ≡ k.parameters)
    × (length xs ≡ count_types k.fields)

pub pattern_has : (P : Basis) {Δ Θ : Types} {a : MlType} {q : Pattern} → HasPattern P Δ a q Θ → PatternHas P a q
pattern_has P has_any = tt
pattern_has P has_name = tt
pattern_has P has_nothing = refl
pattern_has P (has_components {us = us} e) = (us, refl, e)
pattern_has P (has_fields {k = k} {us = us} c n e) = (k, us, refl, c, n, e)

pub count-erased : (ts : Refineds) → count_types (all_erased ts) ≡ count ts
count-erased none = refl
count-erased (more t ts) = ap suc (count-erased ts)

module _ (law : lower.Lower) (inst : Instancing) (closings : Closings) (fit : DatatypesFit) (operands : OperandsRun) (P : Basis) (A : Assignment) (O : Objects) (is : IsScene (scene_of P A O)) (lengths : KnowsLengths O) (by : Variables) (Q : Points) (are : AreTemplates P Q) (Δ : Types) (Γ : Context) (fits_in : Fits Δ Γ) (closed : IsClosed (scene_of P A O) Γ) (l : Place) (u : Use) (over : UseIn P A by Γ u) where
  abbrev S : Scene
  S = scene_of P A O

  abbrev own : Refined
  own = pures.type_of_use P Γ u

  -- its simple type
  simple-is : erased own ≡ typing.type_of_use Q Δ u
  simple-is = use_type law inst P A O is lengths by Q are Δ Γ fits_in closed u

  -- an arm whose pattern fits and whose names have good values
  taken : (q : core.Pattern) (b : Core) (rest : core.Arms) (t : Refined) (Θ : Context) → TypeOn A t (names_in Γ) → RunsTo S by Θ b t → (n : ℕ) (W : Table) (σ τ : Givens) (w : World) → Agrees S n W w → (v : Value) → value_at σ (symbol_of u.name) ≡ Some v → (ps : Pairs) → fits q v ≡ Some ps → Agree (names_in Γ) τ σ → ((y : ℕ) → core.value_in (ps ++ pairs σ) y ≡ core.value_in (pairs τ) y) → Meets S by (suc n) W Θ τ → RunsWell n (close (pairs σ) (match_on l (use_of u.name) (more_arms q b rest))) w (LandsIn S W (shut σ by.types t))
  taken q b rest t Θ on runs n W σ τ w ag v at ps fit agree same m =
      match_goes l u.name (more_arms q b rest) σ v at n w (close ps (close (core.without (core.variables_of q) (pairs σ)) b)) (LandsIn S W (shut σ by.types t)) (rw fit) (λ k eq.
      arm_runs law closings S is by Γ Θ t b runs on σ τ agree q v ps fit same k W w (meets_less law S by (suc n) (suc k) W W Θ τ (omega (numbers, eq)) (extends_self W) m) (law.stores S n k W w (omega (numbers, eq)) ag))

  found : (n : ℕ) (W : Table) (σ : Givens) → Meets S by (suc n) W Γ σ → Used P A O by Γ (suc n) W σ u
  found n W σ m = look_up law inst P A O is lengths by Q are Δ Γ fits_in closed (suc n) W σ m u over

  -- a value of the variable's own type inhabits it where a new name has the value
  own_at : (y : ℕ) → IsNew (symbol_of y) Γ → TopOn A (pure_type P Γ (tree.use_of u)) (names_in Γ) → (n : ℕ) (W : Table) (σ : Givens) → Meets S by (suc n) W Γ σ → (v : Value) → TypeOn A own (names_in Γ) → Inhabits S (suc n) W (shut σ by.types (pure_type P Γ (tree.use_of u))) v → Inhabits S (suc n) W (shut (given (symbol_of y) v ∷ σ) by.types (pure_type P Γ (tree.use_of u))) v
  own_at y new top n W σ m v on h =
      let N = names_in Γ in
      let T = pure_type P Γ (tree.use_of u) in
      let τ = given (symbol_of y) v ∷ σ in
      either (own_inside S P.setting.scopes u.name N own on.0) (λ i.
      law.thin S is T N (i, top) σ τ by.types (agree_back N τ σ (agree_new Γ (symbol_of y) v σ new)) (suc n) W v h) (λ p.
      plain_below fit S is by.types σ (symbol_of y) v (no_value S by (suc n) W σ Γ σ m.named (symbol_of y) (new_outside law S Γ (symbol_of y) new)) (p (suc n) W σ by.types v h) T (suc n) W v h)
    where
      either : {X Y Z : Type 0} → X ⊎ Y → (X → Z) → (Y → Z) → Z
      either (inl x) f g = f x
      either (inr y) f g = g y

  -- by the pattern of the first arm
  pub first_runs : (q : Pattern) → PatternHas P (typing.type_of_use Q Δ u) q → IsUsable S Γ own → is_data_match P Γ u ≡ false → HasComponentsOver A (names_in Γ) own → IsClosed S (in_arm P Γ u q) → (b : Core) (rest : core.Arms) (t : Refined) → TypeOn A t (names_in Γ) → RunsTo S by (in_arm P Γ u q) b t → RunsTo S by Γ (match_on l (use_of u.name) (more_arms (arm_pattern q) b rest)) t
  first_runs pattern_any h k d o c b rest t on runs n W σ w m ag =
      let f = found n W σ m in
      taken core.any b rest t Γ on runs n W σ σ w ag f.value f.is [] refl (λ y i. refl) (λ y. refl) m
  first_runs (pattern_name y) h k d o c b rest t on runs n W σ w m ag =
      let f = found n W σ m in
      let T = pure_type P Γ (tree.use_of u) in
      let r = operands P A O is lengths by Q are Δ Γ fits_in closed (tree.use_of u) (typing.type_of_use Q Δ u) typing.has_use over k n W σ m in
      let own_fit : Inhabits S (suc n) W (shut σ by.types T) f.value = subst (Inhabits S (suc n) W (shut σ by.types T)) (sym (exact_is σ u.name f.value r.0 w f.is (r.3 0 w))) r.1 in
      taken (core.bind y) b rest t (bind y T Γ) on runs n W σ (given (symbol_of y) f.value ∷ σ) w ag f.value f.is ((y, f.value) ∷ []) refl (agree_new Γ (symbol_of y) f.value σ c.1) (λ z. refl) (meets_all S law is by (suc n) (suc n) W (omega numbers) (y ∷ []) (more T none) (more_values f.value no_values) refl Γ σ closed c m (own_at y c.1 c.2.0.1 n W σ m f.value f.over own_fit, tt))
  first_runs pattern_unit h k d o c b rest t on runs n W σ w m ag =
      let f = found n W σ m in
      let e : f.value ≡ v_unit = unit_of S (suc n) W σ by.types f.value (subst (λ T. Inhabits S (suc n) W (shut σ by.types T) f.value) (unit_form own (simple-is ∙ h)) f.fits) in
      taken core.nothing b rest t Γ on runs n W σ σ w ag v_unit (f.is ∙ ap Some e) [] refl (λ y i. refl) (λ y. refl) m
  first_runs (pattern_tuple xs) h k d o c b rest t on runs n W σ w m ag =
      let f = found n W σ m in
      let N = names_in Γ in
      let T = tuple_form own h.0 (simple-is ∙ h.1) in
      let ts = T.0 in
      let V = tuple_of_them S (suc n) W σ by.types ts f.value (subst (λ z. Inhabits S (suc n) W (shut σ by.types z) f.value) T.1 f.fits) in
      let vs = V.0 in
      let cts = component_types P.setting.scopes [] 0 xs ts in
      let E : in_arm P Γ u (pattern_tuple xs) ≡ bind_all xs cts Γ = ap (λ z. arm_context P Γ u.name z (pattern_tuple xs)) T.1 ∙ bound-components P.setting.scopes [] 0 xs ts Γ in
      let closed2 : IsClosed S (bind_all xs cts Γ) = subst (IsClosed S) E c in
      let τ = onto xs vs σ in
      let counted : length xs ≡ count ts = h.2 ∙ sym (ap count_types T.2) ∙ count-erased ts in
      let valued : length xs ≡ count_values vs = counted ∙ components_counts S (suc n) W σ σ by.types 0 ts vs V.2 in
      let agree : Agree N τ σ = agree_all S xs cts vs Γ σ closed2 in
      let inner : ComponentsOn A ts N 0 N = (subst (λ z. TypeOn A z N) T.1 f.over).0 in
      let stands : (y : Value) → StandsOn O [] N N (given symbol.Value y ∷ τ) σ = λ y.
      let same : (z : Symbol) → N z ≡ true → value_at (given symbol.Value y ∷ τ) z ≡ value_at σ z = λ z i. at_but τ symbol.Value z y (value_apart S Γ closed z i) ∙ agree z i in
      stands_agree O N N (given symbol.Value y ∷ τ) σ same same in
      let new : Before 0 N = λ j le. no_position Δ Γ fits_in (suc j) in
      let good = components_named law fit S is by.types σ τ N (agree_back N τ σ agree) xs ts vs counted 0 N inner [] N N σ new new stands refl refl (subst (HasComponentsOver A N) T.1 o) (have_values S xs cts vs Γ σ valued closed2) (suc n) W V.2 in
      taken (arm_pattern (pattern_tuple xs)) b rest t (bind_all xs cts Γ) on (subst (λ z. RunsTo S by z b t) E runs) n W σ τ w ag (v_tuple vs) (f.is ∙ ap Some V.1) (zipped xs vs) (names_fit xs vs valued) agree (same_pairs S xs cts vs Γ σ closed2) (meets_all S law is by (suc n) (suc n) W (omega numbers) xs cts vs (count-components P.setting.scopes [] 0 xs ts) Γ σ closed closed2 m good)
  first_runs (pattern_build j xs) h k d o c b rest t on runs n W σ w m ag =
      absurd (no_datatype own _ h.1 (simple-is ∙ h.2) d)
