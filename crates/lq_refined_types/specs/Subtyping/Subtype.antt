-- Subtyping: a relation by cases.
use Rattle.std.specs.Prelude.{ℕ, suc, [], ◌∷◌, ◌++◌, Option, Some, None}
use Rattle.lq_refined_types.specs.Parts.Assignment.{Assignment}
use Rattle.lq_refined_types.specs.Parts.Part.{Parts, Scopes}
use Rattle.lq_logic_predicates.specs.declared.symbol.Symbol.TheVariants.{Position}
use Rattle.lq_text_tree.specs.MlType.{MlTypes, no_types}
use Rattle.lq_text_tree.specs.Types.{Constructor, Signature}
use Rattle.lq_refined_types.specs.Types.Context.{name, guard, Context, hypotheses_of}
use Rattle.lq_refined_types.specs.Types.Operations.{renamed, symbol_of}
use Rattle.lq_refined_types.specs.Types.Refined.{Cell, Matrix, Refined, int_with, bool_with, unit_type, function, tuple_of, array_with, data_with, map_with, type_variable, Refineds, none, more, kind, top, type_at}
use Rattle.lq_refined_types.specs.Types.Unfolding.{cell, unfolded}
use Rattle.lq_refined_types.specs.Subtyping.Implication.{EachImplied}

-- the scopes of the unknowns, and what constructors stand for
pub record Setting : Type 0 where
  pub scopes : Scopes
  pub constructors : Signature

abbrev pub fields_of : Option Constructor → MlTypes
fields_of None = no_types
fields_of (Some k) = k.fields

-- the binder of two function types: the right one's, else the left one's
abbrev pub shared : Option ℕ → Option ℕ → Option ℕ
shared x (Some y) = Some y
shared x None = x

abbrev pub with_binder : Option ℕ → Refined → Context → Context
with_binder None t Γ = Γ
with_binder (Some x) t Γ = name (symbol_of x) t ∷ Γ

-- the key of a map, which the elements may speak of
abbrev pub with_key : Context → Context
with_key Γ = name (Position 0) (int_with []) ∷ Γ

-- the fields behind the first j, as `#k`
abbrev pub with_fields : ℕ → Refineds → Context → Context
with_fields j none Γ = Γ
with_fields j (more t ts) Γ = with_fields (suc j) ts (name (Position (suc j)) t ∷ Γ)

abbrev pub with_guards : Parts → Context → Context
with_guards [] Γ = Γ
with_guards (q ∷ qs) Γ = with_guards qs (guard q ∷ Γ)

module _ (P : Setting) where
  -- Under which an entry of the right matrix is to follow from the left one's: the fields with their left types, and the left argument's
  -- parts for v.
  abbrev pub cell_context : Context → ℕ → Refineds → Matrix → Cell → Context
  cell_context Γ d ts m e =
      with_guards (top (type_at ts e.parameter)) (with_fields 0 (unfolded P.scopes [] d ts m e.constructor (fields_of (P.constructors e.constructor))) Γ)

  abbrev pub facts : Context → Parts
  facts = hypotheses_of P.scopes

  abbrev pub CellsImplied : Assignment → Context → ℕ → Refineds → Matrix → Matrix → Type 0
  CellsImplied A Γ d ts m [] = Unit {0}
  CellsImplied A Γ d ts m (e ∷ n) =
      EachImplied A (facts (cell_context Γ d ts m e) ++ cell m e.constructor e.field e.parameter) e.parts × CellsImplied A Γ d ts m n

mutual
  -- the tops, and what is inside
  pub data IsSubtype (P : Setting) (A : Assignment) : Context → Refined → Refined → Type 0 where
    sub : {Γ : Context} {l r : Refined} → EachImplied A (facts P Γ ++ top l) (top r) → IsInside P A Γ l r → IsSubtype P A Γ l r

  pub data IsInside (P : Setting) (A : Assignment) : Context → Refined → Refined → Type 0 where
    in_int : {Γ : Context} {p q : Parts} → IsInside P A Γ (int_with p) (int_with q)
    in_bool : {Γ : Context} {p q : Parts} → IsInside P A Γ (bool_with p) (bool_with q)
    in_unit : {Γ : Context} → IsInside P A Γ unit_type unit_type
    in_variable : {Γ : Context} {i : ℕ} → IsInside P A Γ (type_variable i) (type_variable i)
    -- the arguments the other way round, then the results under the right argument
    in_function : {Γ : Context} {x y : Option ℕ} {a b c d : Refined} → IsSubtype P A Γ c a
        → IsSubtype P A (with_binder (shared x y) c Γ) (renamed P.scopes x (shared x y) (kind a) b) d
        → IsInside P A Γ (function x a b) (function y c d)
    in_tuple : {Γ : Context} {ls rs : Refineds} → AreComponents P A Γ Γ 0 ls rs → IsInside P A Γ (tuple_of ls) (tuple_of rs)
    -- what is stored may be read and written, so both ways
    in_array : {Γ : Context} {e f : Refined} {p q : Parts} → IsSubtype P A Γ e f → IsSubtype P A Γ f e
        → IsInside P A Γ (array_with e p) (array_with f q)
    in_data : {Γ : Context} {d : ℕ} {ls rs : Refineds} {m n : Matrix} {p q : Parts} → AreSubtypes P A Γ ls rs
        → CellsImplied P A Γ d ls m n → IsInside P A Γ (data_with d ls m p) (data_with d rs n q)
    in_map : {Γ : Context} {e f : Refined} {p q : Parts} → IsSubtype P A (with_key Γ) e f → IsInside P A Γ (map_with e p) (map_with f q)

  pub data AreSubtypes (P : Setting) (A : Assignment) : Context → Refineds → Refineds → Type 0 where
    sub_none : {Γ : Context} → AreSubtypes P A Γ none none
    sub_more : {Γ : Context} {l r : Refined} {ls rs : Refineds} → IsSubtype P A Γ l r → AreSubtypes P A Γ ls rs
        → AreSubtypes P A Γ (more l ls) (more r rs)

  -- the top of each component under the earlier ones as `#k`, what is inside it without them
  pub data AreComponents (P : Setting) (A : Assignment) : Context → Context → ℕ → Refineds → Refineds → Type 0 where
    component_none : {Γ Δ : Context} {k : ℕ} → AreComponents P A Γ Δ k none none
    component_more : {Γ Δ : Context} {k : ℕ} {l r : Refined} {ls rs : Refineds} → EachImplied A (facts P Δ ++ top l) (top r)
        → IsInside P A Γ l r → AreComponents P A Γ (name (Position (suc k)) l ∷ Δ) (suc k) ls rs
        → AreComponents P A Γ Δ k (more l ls) (more r rs)
