-- Two types of one form, each read at values of its own, whose parts follow from one another.
use Rattle.std.specs.Prelude.{ℕ, suc, Option, ◌∷◌}
use Rattle.lq_logic_predicates.specs.declared.symbol.Symbol.TheVariants as symbol
use Rattle.lq_meaning_steps.specs.Model.Core.{Value}
use Rattle.lq_refined_types.specs.Parts.Part.{Parts}
use Rattle.lq_refined_types.specs.Types.Refined.{Matrix, Refined, Refineds, int_with, bool_with, unit_type, function, tuple_of, array_with, data_with, map_with, none, more, top}
use Rattle.lq_sound_values.specs.Inhabitants.Truth.{Givens, given, Scene, AreTrue}
use Rattle.lq_sound_values.specs.Inhabitants.Shut.{read_at, Shuts, with_argument, position}
use Rattle.lq_sound_values.specs.Inhabitants.Below.{Below}
use Rattle.lq_sound_values.specs.Inhabitants.Datatypes.{TypeHas}

-- at each value the parts of the one top give those of the other
abbrev pub TopGives : Scene → Givens → Givens → Refined → Refined → Type 0
TopGives S σ τ T U =
    (v : Value) → TypeHas T v → AreTrue S (given symbol.Value v ∷ σ) (top T) → AreTrue S (given symbol.Value v ∷ τ) (top U)

mutual
  pub data Like (S : Scene) : Givens → Givens → Shuts → Shuts → Refined → Refined → Type 0 where
    like_int : {σ τ : Givens} {by to : Shuts} {p q : Parts} → Like S σ τ by to (int_with p) (int_with q)
    like_bool : {σ τ : Givens} {by to : Shuts} {p q : Parts} → Like S σ τ by to (bool_with p) (bool_with q)
    like_unit : {σ τ : Givens} {by to : Shuts} → Like S σ τ by to unit_type unit_type
    -- the arguments the other way round, then the results at each argument
    like_function : {σ τ : Givens} {by to : Shuts} {x y : Option ℕ} {A T U V : Refined} → Like S τ σ to by U A → TopGives S τ σ U A
        → ((a : Value) → TypeHas U a → Like S (with_argument x a σ) (with_argument y a τ) by to T V)
        → ((a : Value) → TypeHas U a → TopGives S (with_argument x a σ) (with_argument y a τ) T V)
        → Like S σ τ by to (function x A T) (function y U V)
    like_tuple : {σ τ : Givens} {by to : Shuts} {Ts Us : Refineds} → LikeComponents S σ τ by to σ τ 0 Ts Us
        → Like S σ τ by to (tuple_of Ts) (tuple_of Us)
    like_array : {σ τ : Givens} {by to : Shuts} {E F : Refined} {p q : Parts} → Like S σ τ by to E F → TopGives S σ τ E F
        → Like S τ σ to by F E → TopGives S τ σ F E → Like S σ τ by to (array_with E p) (array_with F q)
    like_data : {σ τ : Givens} {by to : Shuts} {d : ℕ} {As Bs : Refineds} {M : Matrix} {p q : Parts} → LikeAll S σ τ by to As Bs
        → Like S σ τ by to (data_with d As M p) (data_with d Bs M q)
    like_map : {σ τ : Givens} {by to : Shuts} {E F : Refined} {p q : Parts} → Like S σ τ by to (map_with E p) (map_with F q)
    -- what is put for a variable
    like_below : {σ τ : Givens} {by to : Shuts} {T U : Refined}
        → ((κ μ : Givens) → TopGives S κ μ T U → Below S (read_at κ σ by T) (read_at μ τ to U))
        → Like S σ τ by to T U

  pub data LikeAll (S : Scene) : Givens → Givens → Shuts → Shuts → Refineds → Refineds → Type 0 where
    like_none : {σ τ : Givens} {by to : Shuts} → LikeAll S σ τ by to none none
    like_more : {σ τ : Givens} {by to : Shuts} {T U : Refined} {Ts Us : Refineds} → Like S σ τ by to T U → TopGives S σ τ T U
        → LikeAll S σ τ by to Ts Us → LikeAll S σ τ by to (more T Ts) (more U Us)

  -- the tops of components are read with the earlier components' values
  pub data LikeComponents (S : Scene) : Givens → Givens → Shuts → Shuts → Givens → Givens → ℕ → Refineds → Refineds → Type 0 where
    like_no_component : {σ τ κ μ : Givens} {by to : Shuts} {k : ℕ} → LikeComponents S σ τ by to κ μ k none none
    like_component : {σ τ κ μ : Givens} {by to : Shuts} {k : ℕ} {T U : Refined} {Ts Us : Refineds} → Like S σ τ by to T U → TopGives S κ μ T U
        → ((v : Value) → TypeHas T v → LikeComponents S σ τ by to (position k v κ) (position k v μ) (suc k) Ts Us)
        → LikeComponents S σ τ by to κ μ k (more T Ts) (more U Us)
