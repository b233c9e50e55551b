-- Fresh templates: of a simple type, with an unknown wherever predicates speak of a part of it.
use Rattle.std.specs.Prelude.{ℕ, suc, ◌+◌, List, [], ◌∷◌, ◌++◌, length, Option, None}
use Rattle.lq_refined_instances.specs.Scopes.{Scope}
use Rattle.lq_logic_predicates.specs.declared.symbol.Symbol.TheVariants.{Position}
use Rattle.lq_refined_types.specs.Types.Refined.{Refined, int_with, bool_with, unit_type, function, tuple_of, array_with, data_with, map_with, type_variable, Refineds, none, more, with_top}
use Rattle.lq_text_qualifiers.specs.Faults.Shapes.{Shape, int, bool, array, data_of, other, shape_of}
use Rattle.lq_refined_templates.specs.Templates.Cells.{constructor_cells, one_unknown}
use Rattle.lq_refined_templates.specs.Templates.Scopes.{Unknown, with_argument, with_position, with_symbol}
use Rattle.lq_text_tree.specs.MlType as ml
use Rattle.lq_text_tree.specs.MlType.{MlType, MlTypes}
use Rattle.lq_text_tree.specs.Types.{Signature}

-- a template, and its unknowns in the order of their numbers
pub record Made : Type 0 where
  pub type : Refined
  pub unknowns : List Unknown

pub record AllMade : Type 0 where
  pub types : Refineds
  pub unknowns : List Unknown

-- with an unknown at the top, behind those inside, where predicates speak of the shape
abbrev pub topped : ℕ → Scope → Shape → Made → Made
topped n Δ int m = record { type = with_top (one_unknown (n + length m.unknowns)) m.type; unknowns = m.unknowns ++ (Δ, int) ∷ [] }
topped n Δ bool m = record { type = with_top (one_unknown (n + length m.unknowns)) m.type; unknowns = m.unknowns ++ (Δ, bool) ∷ [] }
topped n Δ array m = record { type = with_top (one_unknown (n + length m.unknowns)) m.type; unknowns = m.unknowns ++ (Δ, array) ∷ [] }
topped n Δ (data_of d) m = record { type = with_top (one_unknown (n + length m.unknowns)) m.type; unknowns = m.unknowns ++ (Δ, data_of d) ∷ [] }
topped n Δ other m = m

abbrev pub first_name : List (Option ℕ) → Option ℕ
first_name [] = None
first_name (x ∷ xs) = x

abbrev pub later_names : List (Option ℕ) → List (Option ℕ)
later_names [] = []
later_names (x ∷ xs) = xs

-- over what constructors stand for, and the constructors of each datatype in their order
module _ (g : Signature) (constructors : ℕ → List ℕ) where
  -- From the unknown n on, in a scope: a template without an unknown at its top. A function that is written as such has names for its
  -- arguments, the first one first; what stands behind a name may speak of it.
  abbrev mutual
    pub inside : ℕ → Scope → List (Option ℕ) → MlType → Made
    inside n Γ xs ml.int = record { type = int_with []; unknowns = [] }
    inside n Γ xs ml.bool = record { type = bool_with []; unknowns = [] }
    inside n Γ xs ml.unit = record { type = unit_type; unknowns = [] }
    inside n Γ xs (ml.var i) = record { type = type_variable i; unknowns = [] }
    inside n Γ xs (ml.arrow a b) =
        let s = topped n Γ (shape_of a) (inside n Γ [] a) in
        let Δ = with_argument (first_name xs) (shape_of a) Γ in
        let k = n + length s.unknowns in
        let t = topped k Δ (shape_of b) (inside k Δ (later_names xs) b) in
        record { type = function (first_name xs) s.type t.type; unknowns = s.unknowns ++ t.unknowns }
    inside n Γ xs (ml.tuple ts) = let m = components n Γ Γ 0 ts in record { type = tuple_of m.types; unknowns = m.unknowns }
    inside n Γ xs (ml.array a) =
        let m = topped n Γ (shape_of a) (inside n Γ [] a) in record { type = array_with m.type []; unknowns = m.unknowns }
    inside n Γ xs (ml.named d ts) =
        let m = arguments n Γ ts in
        let c = constructor_cells g (n + length m.unknowns) d ts (constructors d) in
        record { type = data_with d m.types c.matrix []; unknowns = m.unknowns ++ c.unknowns }
    -- the elements of a map may speak of its key
    inside n Γ xs (ml.map_of a) =
        let m = topped n (with_symbol (Position 0) int Γ) (shape_of a) (inside n Γ [] a) in record { type = map_with m.type []; unknowns = m.unknowns }

    -- the components behind the first k: the top of each may speak of those before it, what is inside it may not
    pub components : ℕ → Scope → Scope → ℕ → MlTypes → AllMade
    components n Γ Δ k ml.no_types = record { types = none; unknowns = [] }
    components n Γ Δ k (ml.more_types t ts) =
        let m = topped n Δ (shape_of t) (inside n Γ [] t) in
        let rest = components (n + length m.unknowns) Γ (with_position k (shape_of t) Δ) (suc k) ts in
        record { types = more m.type rest.types; unknowns = m.unknowns ++ rest.unknowns }

    pub arguments : ℕ → Scope → MlTypes → AllMade
    arguments n Γ ml.no_types = record { types = none; unknowns = [] }
    arguments n Γ (ml.more_types t ts) =
        let m = topped n Γ (shape_of t) (inside n Γ [] t) in
        let rest = arguments (n + length m.unknowns) Γ ts in record { types = more m.type rest.types; unknowns = m.unknowns ++ rest.unknowns }

  -- the fresh template of a type
  abbrev pub fresh : ℕ → Scope → List (Option ℕ) → MlType → Made
  fresh n Γ xs t = topped n Γ (shape_of t) (inside n Γ xs t)
