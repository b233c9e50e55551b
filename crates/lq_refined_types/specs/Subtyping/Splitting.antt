-- The implications of a subtyping, as a list.
use Rattle.std.specs.Prelude.{ℕ, suc, List, [], ◌∷◌, ◌++◌, ◌↔◌}
use Rattle.lq_refined_types.specs.Parts.Assignment.{Assignment}
use Rattle.lq_logic_predicates.specs.declared.symbol.Symbol.TheVariants.{Position}
use Rattle.lq_text_tree.specs.MlType as ml
use Rattle.lq_text_tree.specs.MlType.{MlType, MlTypes}
use Rattle.lq_refined_types.specs.Types.Context.{name, Context}
use Rattle.lq_refined_types.specs.Types.Operations.{renamed}
use Rattle.lq_refined_types.specs.Types.Refined.{Matrix, Refined, unit_type, Refineds, none, more, kind, top, binder_of, argument_of, result_of, element_of, components_of, arguments_of, matrix_of, erased}
use Rattle.lq_refined_types.specs.Types.Unfolding.{cell}
use Rattle.lq_refined_types.specs.Subtyping.Implication.{Origin, Implication, AllHold, goals}
use Rattle.lq_refined_types.specs.Subtyping.Shaped.{SameShape}
use Rattle.lq_refined_types.specs.Subtyping.Subtype.{Setting, shared, with_binder, with_key, cell_context, facts, IsSubtype}

abbrev pub first_of : Refineds → Refined
first_of none = unit_type
first_of (more t ts) = t

abbrev pub rest_of : Refineds → Refineds
rest_of none = none
rest_of (more t ts) = ts

module _ (P : Setting) (o : Origin) where
  abbrev pub tops : Context → Refined → Refined → List Implication
  tops Γ l r = goals (facts P Γ) (top l) (top r) o

  abbrev pub cells : Context → ℕ → Refineds → Matrix → Matrix → List Implication
  cells Γ d ts m [] = []
  cells Γ d ts m (e ∷ n) = goals (facts P (cell_context P Γ d ts m e)) (cell m e.constructor e.field e.parameter) e.parts o ++ cells Γ d ts m n

  -- the left result of two function types, and the environment of the results
  abbrev pub left_result : Refined → Refined → Refined
  left_result l r = renamed P.scopes (binder_of l) (shared (binder_of l) (binder_of r)) (kind (argument_of l)) (result_of l)

  abbrev pub result_context : Refined → Refined → Context → Context
  result_context l r Γ = with_binder (shared (binder_of l) (binder_of r)) (argument_of r) Γ

  -- the implications inside two types of one simple type, in the order of its parts
  abbrev mutual
    pub inside : MlType → Context → Refined → Refined → List Implication
    inside ml.int Γ l r = []
    inside ml.bool Γ l r = []
    inside ml.unit Γ l r = []
    inside (ml.var i) Γ l r = []
    inside (ml.arrow s u) Γ l r =
        (tops Γ (argument_of r) (argument_of l) ++ inside s Γ (argument_of r) (argument_of l))
        ++ (tops (result_context l r Γ) (left_result l r) (result_of r) ++ inside u (result_context l r Γ) (left_result l r) (result_of r))
    inside (ml.tuple ss) Γ l r = components ss Γ Γ 0 (components_of l) (components_of r)
    inside (ml.array s) Γ l r =
        (tops Γ (element_of l) (element_of r) ++ inside s Γ (element_of l) (element_of r))
        ++ (tops Γ (element_of r) (element_of l) ++ inside s Γ (element_of r) (element_of l))
    inside (ml.named d ss) Γ l r = arguments ss Γ (arguments_of l) (arguments_of r) ++ cells Γ d (arguments_of l) (matrix_of l) (matrix_of r)
    inside (ml.map_of s) Γ l r = tops (with_key Γ) (element_of l) (element_of r) ++ inside s (with_key Γ) (element_of l) (element_of r)

    pub components : MlTypes → Context → Context → ℕ → Refineds → Refineds → List Implication
    components ml.no_types Γ Δ k ls rs = []
    components (ml.more_types s ss) Γ Δ k ls rs =
        (tops Δ (first_of ls) (first_of rs) ++ inside s Γ (first_of ls) (first_of rs))
        ++ components ss Γ (name (Position (suc k)) (first_of ls) ∷ Δ) (suc k) (rest_of ls) (rest_of rs)

    pub arguments : MlTypes → Context → Refineds → Refineds → List Implication
    arguments ml.no_types Γ ls rs = []
    arguments (ml.more_types s ss) Γ ls rs =
        (tops Γ (first_of ls) (first_of rs) ++ inside s Γ (first_of ls) (first_of rs)) ++ arguments ss Γ (rest_of ls) (rest_of rs)

  -- the implications of a subtyping, in order
  abbrev pub split : Context → Refined → Refined → List Implication
  split Γ l r = tops Γ l r ++ inside (erased r) Γ l r

-- the implications of a subtyping are valid under an assignment exactly where it holds under it
abbrev pub SplitIsSubtype : Type 0
SplitIsSubtype =
    (P : Setting) (A : Assignment) (o : Origin) (Γ : Context) (l r : Refined) → SameShape l r → (AllHold A (split P o Γ l r) ↔ IsSubtype P A Γ l r)
