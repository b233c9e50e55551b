-- A list of types with unit types behind it makes the same instances, and enough of these leave no variable of a type without its own.
use Rattle.std.proofs.Common.{◌≡◌, ℕ, zero, suc, ◌+◌, ◌≤◌, false, refl, ap, ◌∙◌, subst, arith as numbers}
use Rattle.lq_logic_predicates.specs.declared.symbol.Symbol.TheVariants as symbol
use Rattle.lq_refined_types.specs.Parts.Assignment.{Assignment}
use Rattle.lq_refined_types.specs.Types.Operations.{instantiated, all_instantiated}
use Rattle.lq_refined_types.specs.Types.Refined.{Refined, Refineds, int_with, bool_with, unit_type, function, tuple_of, array_with, data_with, map_with, type_variable, none, more, type_at, count}
use Rattle.lq_sound_values.specs.Inhabitants.Truth.{Givens, Scene}
use Rattle.lq_sound_values.specs.Inhabitants.Shut.{shut, shut_all, Shuts}
use Rattle.lq_sound_values.specs.Inhabitants.Below.{Below}
use Rattle.lq_sound_values.specs.Inhabitants.Datatypes.{DatatypesFit}
use Rattle.lq_sound_values.specs.Inclusion.Laws.{IsScene}
use Rattle.lq_sound_values.specs.Inclusion.Symbols.{Symbols}
use Rattle.lq_sound_values.specs.Instantiation.Instances.{HasVariablesBelow, HaveVariablesBelow, NamesOutside, AllTypesOn}
use Rattle.lq_sound_values.proofs.InstantiationLemmas.Instancing.{instanced_both}

-- ---- the list with so many unit types behind it

abbrev padded : Refineds → ℕ → Refineds
padded none zero = none
padded none (suc m) = more unit_type (padded none m)
padded (more t ts) m = more t (padded ts m)

padded_count : (ts : Refineds) (m : ℕ) → m ≤ count (padded ts m)
padded_count none zero = omega (numbers)
padded_count none (suc m) = let h = padded_count none m in omega (numbers, h)
padded_count (more t ts) m = let h = padded_count ts m in omega (numbers, h)

padded_at : (ts : Refineds) (m i : ℕ) → type_at (padded ts m) i ≡ type_at ts i
padded_at none zero i = refl
padded_at none (suc m) zero = refl
padded_at none (suc m) (suc i) = padded_at none m i
padded_at (more t ts) m zero = refl
padded_at (more t ts) m (suc i) = padded_at ts m i

padded_on : (A : Assignment) (P : Symbols) (ts : Refineds) (m : ℕ) → AllTypesOn A ts P → AllTypesOn A (padded ts m) P
padded_on A P none zero on = tt
padded_on A P none (suc m) on = ((tt, tt), padded_on A P none m tt)
padded_on A P (more t ts) m on = (on.0, padded_on A P ts m on.1)

-- lists with the same types make the same instances
module _ (Ts Us : Refineds) (same : (i : ℕ) → type_at Us i ≡ type_at Ts i) where
  mutual
    instance_same : (t : Refined) → instantiated Us t ≡ instantiated Ts t
    instance_same (int_with p) = refl
    instance_same (bool_with p) = refl
    instance_same unit_type = refl
    instance_same (function x a b) = ap (λ c. function x c (instantiated Us b)) (instance_same a) ∙ ap (function x (instantiated Ts a)) (instance_same b)
    instance_same (tuple_of ts) = ap tuple_of (instances_same ts)
    instance_same (array_with e p) = ap (λ c. array_with c p) (instance_same e)
    instance_same (data_with d ts m p) = ap (λ us. data_with d us m p) (instances_same ts)
    instance_same (map_with e p) = ap (λ c. map_with c p) (instance_same e)
    instance_same (type_variable i) = same i

    instances_same : (ts : Refineds) → all_instantiated Us ts ≡ all_instantiated Ts ts
    instances_same none = refl
    instances_same (more t ts) = ap (λ c. more c (all_instantiated Us ts)) (instance_same t) ∙ ap (more (instantiated Ts t)) (instances_same ts)

-- ---- a number above the variables of a type

abbrev mutual
  bound : Refined → ℕ
  bound (int_with p) = 0
  bound (bool_with p) = 0
  bound unit_type = 0
  bound (function x a b) = bound a + bound b
  bound (tuple_of ts) = all_bound ts
  bound (array_with e p) = bound e
  bound (data_with d ts m p) = all_bound ts
  bound (map_with e p) = bound e
  bound (type_variable i) = suc i

  all_bound : Refineds → ℕ
  all_bound none = 0
  all_bound (more t ts) = bound t + all_bound ts

mutual
  bounded : (t : Refined) (n : ℕ) → bound t ≤ n → HasVariablesBelow n t
  bounded (int_with p) n h = tt
  bounded (bool_with p) n h = tt
  bounded unit_type n h = tt
  bounded (function x a b) n h = (bounded a n (omega (numbers, h)), bounded b n (omega (numbers, h)))
  bounded (tuple_of ts) n h = all_bounded ts n h
  bounded (array_with e p) n h = bounded e n h
  bounded (data_with d ts m p) n h = all_bounded ts n h
  bounded (map_with e p) n h = bounded e n h
  bounded (type_variable i) n h = omega (numbers, h)

  all_bounded : (ts : Refineds) (n : ℕ) → all_bound ts ≤ n → HaveVariablesBelow n ts
  all_bounded none n h = tt
  all_bounded (more t ts) n h = (bounded t n (omega (numbers, h)), all_bounded ts n (omega (numbers, h)))

-- ---- closed types at which a type has the inhabitants of its instance

module _ (fit : DatatypesFit) (S : Scene) (is : IsScene S) (Ts : Refineds) (P : Symbols) (on : AllTypesOn S.assignment Ts P)
    (positions : (k : ℕ) → P (symbol.Position k) ≡ false) (t : Refined) (outside : NamesOutside P t) (σ : Givens) (by : Shuts) where
  pub instance_there : (to : Shuts) × Below S (shut σ to t) (shut σ by (instantiated Ts t)) × Below S (shut σ by (instantiated Ts t)) (shut σ to t)
  instance_there =
      let m = bound t in
      let Us = padded Ts m in
      let to = shut_all σ by Us in
      let below = bounded t (count Us) (padded_count Ts m) in
      let both = instanced_both fit S is Us P (padded_on S.assignment P Ts m on) positions σ by t below outside σ σ (λ y h. refl) (λ y h. refl) in
      let same = instance_same Ts Us (padded_at Ts m) t in (
        to,
        subst (λ u. Below S (shut σ to t) (shut σ by u)) same both.0,
        subst (λ u. Below S (shut σ by u) (shut σ to t)) same both.1,
      )
