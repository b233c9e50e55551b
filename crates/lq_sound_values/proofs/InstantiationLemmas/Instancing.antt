-- A type with types for its variables has the inhabitants of the type at their closed types.
use Rattle.std.proofs.Common.{◌≡◌, ℕ, zero, suc, ◌<◌, false, ◌∷◌, Option, Some, None, refl, sym, ◌∙◌, subst, arith as numbers}
use Rattle.lq_logic_predicates.specs.declared.symbol.Symbol.{Symbol}
use Rattle.lq_logic_predicates.specs.declared.symbol.Symbol.TheVariants as symbol
use Rattle.lq_logic_predicates.specs.Sum.{same_symbol}
use Rattle.lq_meaning_steps.specs.Model.Core.{Value, Values, no_values, more_values}
use Rattle.lq_refined_types.specs.Parts.Assignment.{Assignment}
use Rattle.lq_refined_types.specs.Parts.Part.{Parts}
use Rattle.lq_refined_types.specs.Types.Operations.{symbol_of, instantiated, all_instantiated}
use Rattle.lq_refined_types.specs.Types.Refined.{Matrix, Refined, Refineds, int_with, bool_with, unit_type, function, tuple_of, array_with, data_with, map_with, type_variable, none, more, type_at, count}
use Rattle.lq_sound_values.specs.Inhabitants.Truth.{Givens, given, Scene}
use Rattle.lq_sound_values.specs.Inhabitants.Shut.{shut, read_at, Shuts, shut_all, form, form_at, tops, tops_at, with_argument, position, components}
use Rattle.lq_sound_values.specs.Inhabitants.Inhabits.{Table, TopsTrue}
use Rattle.lq_sound_values.specs.Inhabitants.Below.{Below, AllBelow}
use Rattle.lq_sound_values.specs.Inhabitants.Datatypes.{DatatypesFit}
use Rattle.lq_sound_values.proofs.InhabitantsLemmas.Keeping.{FormAt, AllFit}
use Rattle.lq_sound_values.specs.Inclusion.Laws.{IsScene}
use Rattle.lq_sound_values.specs.Inclusion.Symbols.{Symbols, TypeOn, Agree}
use Rattle.lq_sound_values.proofs.InclusionLemmas.Forms.{function_below, array_below, map_below, tuple_below}
use Rattle.lq_sound_values.proofs.InclusionLemmas.Likes.{inside_like}
use Rattle.lq_sound_values.proofs.InclusionLemmas.Putting.{same_like, top_same}
use Rattle.lq_sound_values.proofs.InclusionLemmas.Subtypes.{data_by}
use Rattle.lq_sound_values.proofs.InclusionLemmas.Truths.{at_but, not_false, agree_back}
use Rattle.lq_sound_values.proofs.TwinsLemmas.Leaving.{outside}
use Rattle.lq_sound_values.specs.Instantiation.Instances.{HasVariablesBelow, HaveVariablesBelow, NamesOutside, AllNamesOutside, AllTypesOn}

-- ---- what is put for a variable

pub form_made : (σ : Givens) (by : Shuts) (ts : Refineds) (i : ℕ) → i < count ts
    → form_at (shut_all σ by ts) i ≡ form (shut σ by (type_at ts i))
form_made σ by none i h = absurd (omega (numbers, h))
form_made σ by (more t ts) zero h = refl
form_made σ by (more t ts) (suc i) h = form_made σ by ts i (omega (numbers, h))

pub tops_made : (σ : Givens) (by : Shuts) (ts : Refineds) (i : ℕ) → i < count ts
    → tops_at (shut_all σ by ts) i ≡ tops (shut σ by (type_at ts i))
tops_made σ by none i h = absurd (omega (numbers, h))
tops_made σ by (more t ts) zero h = refl
tops_made σ by (more t ts) (suc i) h = tops_made σ by ts i (omega (numbers, h))

pub type_on : (A : Assignment) (ts : Refineds) (P : Symbols) → AllTypesOn A ts P → (i : ℕ) → TypeOn A (type_at ts i) P
type_on A none P on i = (tt, tt)
type_on A (more t ts) P on zero = on.0
type_on A (more t ts) P on (suc i) = type_on A ts P on.1 i

-- ---- values that agree

-- a value for a symbol that is none of these
agree_but : (P : Symbols) (σ τ : Givens) (x : Symbol) (v : Value) → P x ≡ false → Agree P σ τ → Agree P σ (given x v ∷ τ)
agree_but P σ τ x v o f y h = f y h ∙ sym (at_but τ x y v (not_false (same_symbol x y) (outside P x o y h)))

-- ---- at values that agree with those of the types on what these speak of

module _ (fit : DatatypesFit) (S : Scene) (is : IsScene S) (Ts : Refineds) (P : Symbols) (on : AllTypesOn S.assignment Ts P)
    (positions : (k : ℕ) → P (symbol.Position k) ≡ false) (τ : Givens) (by : Shuts) where
  abbrev made : Shuts
  made = shut_all τ by Ts

  -- both ways, at the values and at those for the top
  abbrev Both : Givens → Givens → Refined → Type 0
  Both κ σ t =
      Below S (read_at κ σ made t) (read_at κ σ by (instantiated Ts t))
      × Below S (read_at κ σ by (instantiated Ts t)) (read_at κ σ made t)

  -- a variable's type, at its own values and at these
  module _ (κ σ : Givens) (g : Agree P τ κ) (f : Agree P τ σ) (i : ℕ) (lt : i < count Ts) where
    abbrev own : Refined
    own = type_at Ts i

    own_on : TypeOn S.assignment own P
    own_on = type_on S.assignment Ts P on i

    own_forth : Below S (shut τ by own) (read_at κ σ by own)
    own_forth = inside_like fit S is.covariant (same_like S by own P own_on.0 τ σ f) τ κ (top_same S by own P own_on.1 τ κ g)

    own_back : Below S (read_at κ σ by own) (shut τ by own)
    own_back =
        let like = same_like S by own P own_on.0 σ τ (agree_back P τ σ f) in
        inside_like fit S is.covariant like κ τ (top_same S by own P own_on.1 κ τ (agree_back P τ κ g))

    variable_both : Both κ σ (type_variable i)
    variable_both = (
      λ n W v h. own_forth n W v (subst (λ F. FormAt S n W F v) (form_made τ by Ts i lt) h.0, subst (TopsTrue S v) (tops_made τ by Ts i lt) h.1),
      λ n W v h.
          let k = own_back n W v h in
          (subst (λ F. FormAt S n W F v) (sym (form_made τ by Ts i lt)) k.0, subst (TopsTrue S v) (sym (tops_made τ by Ts i lt)) k.1),
    )

  -- a function, from its argument's type and from its results'
  function_both : (κ σ : Givens) (x : Option ℕ) (a c : Refined) → Both σ σ a
      → ((v : Value) → Both (with_argument x v σ) (with_argument x v σ) c) → Both κ σ (function x a c)
  function_both κ σ x a c l r = (
    function_below S κ κ σ σ made by x x a c (instantiated Ts a) (instantiated Ts c) l.1 (λ m Y v h. (r v).0),
    function_below S κ κ σ σ by made x x (instantiated Ts a) (instantiated Ts c) a c l.0 (λ m Y v h. (r v).1),
  )

  array_both : (κ σ : Givens) (e : Refined) (p : Parts) → Both σ σ e → Both κ σ (array_with e p)
  array_both κ σ e p r = (
    array_below S κ κ σ σ made by e (instantiated Ts e) p p (λ v k h. h) r.0 r.1,
    array_below S κ κ σ σ by made (instantiated Ts e) e p p (λ v k h. h) r.1 r.0,
  )

  abbrev AllBoth : Givens → Refineds → Type 0
  AllBoth σ ts =
      AllBelow S (shut_all σ made ts) (shut_all σ by (all_instantiated Ts ts))
      × AllBelow S (shut_all σ by (all_instantiated Ts ts)) (shut_all σ made ts)

  data_both : (κ σ : Givens) (d : ℕ) (ts : Refineds) (m : Matrix) (p : Parts) → AllBoth σ ts → Both κ σ (data_with d ts m p)
  data_both κ σ d ts m p r =
      let us = all_instantiated Ts ts in (
        data_by fit S is.covariant κ κ σ σ made by d ts us m m p p (λ c k vs j h q z u w e. e) r.0 (λ v k h. h),
        data_by fit S is.covariant κ κ σ σ by made d us ts m m p p (λ c k vs j h q z u w e. e) r.1 (λ v k h. h),
      )

  -- components, of which the first k have values
  abbrev ComponentsBoth : Givens → Givens → ℕ → Refineds → Type 0
  ComponentsBoth κ σ k ts =
      (n : ℕ) (W : Table) (vs : Values)
      → (AllFit S n W (components σ made κ k ts vs) vs → AllFit S n W (components σ by κ k (all_instantiated Ts ts) vs) vs)
      × (AllFit S n W (components σ by κ k (all_instantiated Ts ts) vs) vs → AllFit S n W (components σ made κ k ts vs) vs)

  tuple_both : (κ σ : Givens) (ts : Refineds) → ComponentsBoth σ σ 0 ts → Both κ σ (tuple_of ts)
  tuple_both κ σ ts r = (
    tuple_below S κ κ σ σ made by ts (all_instantiated Ts ts) (λ n W vs. (r n W vs).0),
    tuple_below S κ κ σ σ by made (all_instantiated Ts ts) ts (λ n W vs. (r n W vs).1),
  )

  components_both : (κ σ : Givens) (k : ℕ) (t : Refined) (ts : Refineds) → Both κ σ t
      → ((v : Value) → ComponentsBoth (position k v κ) σ (suc k) ts) → ComponentsBoth κ σ k (more t ts)
  components_both κ σ k t ts l r n W no_values = (λ h. absurd h, λ h. absurd h)
  components_both κ σ k t ts l r n W (more_values v vs) = (λ h. (l.0 n W v h.0, (r v n W vs).0 h.1), λ h. (l.1 n W v h.0, (r v n W vs).1 h.1))

  map_both : (κ σ : Givens) (e : Refined) (p : Parts) → Both κ σ (map_with e p)
  map_both κ σ e p = (map_below S κ κ σ σ made by e (instantiated Ts e) p p, map_below S κ κ σ σ by made (instantiated Ts e) e p p)

  mutual
    pub instanced_both : (t : Refined) → HasVariablesBelow (count Ts) t → NamesOutside P t → (κ σ : Givens)
        → Agree P τ κ → Agree P τ σ → Both κ σ t
    instanced_both (int_with p) b o κ σ g f = (λ n W v h. h, λ n W v h. h)
    instanced_both (bool_with p) b o κ σ g f = (λ n W v h. h, λ n W v h. h)
    instanced_both unit_type b o κ σ g f = (λ n W v h. h, λ n W v h. h)
    instanced_both (function None a c) b o κ σ g f =
        function_both κ σ None a c (instanced_both a b.0 o.0 σ σ f f) (λ v. instanced_both c b.1 o.1 σ σ f f)
    instanced_both (function (Some x) a c) b o κ σ g f =
        function_both κ σ (Some x) a c (instanced_both a b.0 o.1 σ σ f f) (λ v.
        let ρ = given (symbol_of x) v ∷ σ in
        let h = agree_but P τ σ (symbol_of x) v o.0 f in
        instanced_both c b.1 o.2 ρ ρ h h)
    instanced_both (tuple_of ts) b o κ σ g f = tuple_both κ σ ts (each_component ts b o σ f σ f 0)
    instanced_both (array_with e p) b o κ σ g f = array_both κ σ e p (instanced_both e b o σ σ f f)
    instanced_both (data_with d ts m p) b o κ σ g f = data_both κ σ d ts m p (each_argument ts b o σ f)
    instanced_both (map_with e p) b o κ σ g f = map_both κ σ e p
    instanced_both (type_variable i) b o κ σ g f = variable_both κ σ g f i b

    each_argument : (ts : Refineds) → HaveVariablesBelow (count Ts) ts → AllNamesOutside P ts → (σ : Givens) → Agree P τ σ → AllBoth σ ts
    each_argument none b o σ f = (tt, tt)
    each_argument (more t ts) b o σ f =
        let l = instanced_both t b.0 o.0 σ σ f f in
        let r = each_argument ts b.1 o.1 σ f in
        ((l.0, r.0), (l.1, r.1))

    each_component : (ts : Refineds) → HaveVariablesBelow (count Ts) ts → AllNamesOutside P ts → (κ : Givens) → Agree P τ κ → (σ : Givens)
        → Agree P τ σ → (k : ℕ) → ComponentsBoth κ σ k ts
    each_component none b o κ g σ f k = λ n W vs. (λ h. h, λ h. h)
    each_component (more t ts) b o κ g σ f k =
        components_both κ σ k t ts (instanced_both t b.0 o.0 κ σ g f) (λ v.
        let h = agree_but P τ κ (symbol.Position (suc k)) v (positions (suc k)) g in
        each_component ts b.1 o.1 (position k v κ) h σ f (suc k))
