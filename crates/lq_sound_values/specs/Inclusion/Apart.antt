-- What is known where names have values, and what a subtyping needs besides its implications.
use Rattle.std.specs.Prelude.{◌≡◌, ℕ, zero, suc, true, false, ltb, ◌∷◌, [], Option, Some, None}
use Rattle.lq_logic_predicates.specs.declared.symbol.Symbol.{Symbol}
use Rattle.lq_logic_predicates.specs.declared.symbol.Symbol.TheVariants as symbol
use Rattle.lq_logic_predicates.specs.Sum.{same_symbol}
use Rattle.lq_meaning_steps.specs.Model.Core.{Value}
use Rattle.lq_refined_types.specs.Parts.Assignment.{Assignment}
use Rattle.lq_text_tree.specs.Types.{count_types}
use Rattle.lq_refined_types.specs.Types.Context.{Context, name}
use Rattle.lq_refined_types.specs.Types.Operations.{symbol_of, renamed}
use Rattle.lq_refined_types.specs.Types.Refined.{Matrix, Refined, Refineds, none, more, kind, top, type_at}
use Rattle.lq_refined_types.specs.Types.Unfolding.{cell, unfolded}
use Rattle.lq_refined_types.specs.Subtyping.Subtype.{Setting, fields_of, shared, facts, IsSubtype, sub, IsInside, in_int, in_bool, in_unit, in_variable, in_function, in_tuple, in_array, in_data, in_map, AreSubtypes, sub_none, sub_more, AreComponents, component_none, component_more}
use Rattle.lq_sound_values.specs.Inhabitants.Truth.{Givens, value_at, Scene, AreTrue}
use Rattle.lq_sound_values.specs.Inhabitants.Shut.{shut, Shuts, with_argument}
use Rattle.lq_sound_values.specs.Inhabitants.Below.{Below}
use Rattle.lq_sound_values.specs.Inhabitants.Datatypes.{TypeHas}
use Rattle.lq_sound_values.specs.Inclusion.Symbols.{Symbols, PartsOn, Lacks}

-- the values make the environment's hypotheses true; neither speaks of v
pub record IsKnown (S : Scene) (Γ : Context) (σ : Givens) : Type 0 where
  pub true_facts : AreTrue S σ (facts S.setting Γ)
  pub no_value : value_at σ symbol.Value ≡ None
  pub lacks_value : Lacks S.assignment symbol.Value (facts S.setting Γ)

-- The symbol may be bound to the type: no hypothesis and no part of the type's top speaks of it, and the new hypotheses don't speak of v.
abbrev pub MayBind : Scene → Symbol → Refined → Context → Type 0
MayBind S x T Γ =
    Lacks S.assignment x (facts S.setting Γ) × Lacks S.assignment x (top T) × (same_symbol x symbol.Value ≡ false)
    × Lacks S.assignment symbol.Value (facts S.setting (name x T ∷ Γ))

abbrev pub MayBindSome : Scene → Option ℕ → Refined → Context → Type 0
MayBindSome S None T Γ = Unit {0}
MayBindSome S (Some x) T Γ = MayBind S (symbol_of x) T Γ

-- the fields behind the first j, as `#k`
abbrev pub MayBindFields : Scene → ℕ → Refineds → Context → Type 0
MayBindFields S j none Γ = Unit {0}
MayBindFields S j (more T Ts) Γ =
    MayBind S (symbol.Position (suc j)) T Γ × MayBindFields S (suc j) Ts (name (symbol.Position (suc j)) T ∷ Γ)

-- v, and `#1`, `#2`, .. for so many fields
abbrev pub of_fields : ℕ → Symbols
of_fields n symbol.Value = true
of_fields n (symbol.Bound x) = false
of_fields n (symbol.Position zero) = false
of_fields n (symbol.Position (suc k)) = ltb k n

-- the entries of a matrix speak of v and of the fields of their constructors
abbrev pub CellsOn : Scene → Matrix → Type 0
CellsOn S M =
    (c j i : ℕ) → PartsOn S.assignment (of_fields (count_types (fields_of (S.setting.constructors c)))) (cell M c j i)

-- the fields may be bound, the arguments' tops don't speak of fields, and entries speak of nothing else than of v and of fields
pub record AreCellsApart (S : Scene) (Γ : Context) (d : ℕ) (Ls : Refineds) (M N : Matrix) : Type 0 where
  pub fields : (c : ℕ) → MayBindFields S 0 (unfolded S.setting.scopes [] d Ls M c (fields_of (S.setting.constructors c))) Γ
  pub arguments : (i j : ℕ) → Lacks S.assignment (symbol.Position (suc j)) (top (type_at Ls i))
  pub left_cells : CellsOn S M
  pub right_cells : CellsOn S N

-- The result of a function type under its own name of the argument and under the shared one: with the same value for both, no value leaves.
abbrev pub Turns : Scene → Refined → Option ℕ → Refined → Option ℕ → Refined → Type 0
Turns S B x T z U =
    (σ : Givens) (by : Shuts) (a : Value) → TypeHas B a → value_at σ symbol.Value ≡ None → Below S (shut (with_argument x a σ) by T) (shut (with_argument z a σ) by U)

-- What a subtyping needs besides its implications: each name is new where it is bound, and stands for the argument on both sides.
abbrev mutual
  pub Apart : (S : Scene) {P : Setting} {B : Assignment} {Γ : Context} {L R : Refined} → IsSubtype P B Γ L R → Type 0
  Apart S (sub t i) = ApartInside S i

  pub ApartInside : (S : Scene) {P : Setting} {B : Assignment} {Γ : Context} {L R : Refined} → IsInside P B Γ L R → Type 0
  ApartInside S in_int = Unit {0}
  ApartInside S in_bool = Unit {0}
  ApartInside S in_unit = Unit {0}
  ApartInside S in_variable = Unit {0}
  ApartInside S (in_function {Γ = Γ} {x = x} {y = y} {a = A} {b = T} {c = U} {d = V} l r) =
      Apart S l × Apart S r × MayBindSome S (shared x y) U Γ
      × Turns S U x T (shared x y) (renamed S.setting.scopes x (shared x y) (kind A) T) × Turns S U (shared x y) V y V
  ApartInside S (in_tuple c) = ApartComponents S c
  ApartInside S (in_array l r) = Apart S l × Apart S r
  ApartInside S (in_data {Γ = Γ} {d = d} {ls = Ls} {m = M} {n = N} a c) = AllApart S a × AreCellsApart S Γ d Ls M N
  ApartInside S (in_map l) = Unit {0}

  pub AllApart : (S : Scene) {P : Setting} {B : Assignment} {Γ : Context} {Ls Rs : Refineds} → AreSubtypes P B Γ Ls Rs → Type 0
  AllApart S sub_none = Unit {0}
  AllApart S (sub_more a rest) = Apart S a × AllApart S rest

  pub ApartComponents : (S : Scene) {P : Setting} {B : Assignment} {Γ Δ : Context} {k : ℕ} {Ls Rs : Refineds} → AreComponents P B Γ Δ k Ls Rs → Type 0
  ApartComponents S component_none = Unit {0}
  ApartComponents S (component_more {Δ = Δ} {k = k} {l = L} t i r) =
      ApartInside S i × MayBind S (symbol.Position (suc k)) L Δ × ApartComponents S r
