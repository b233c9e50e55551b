-- The implications of a program, as a list.
use Rattle.std.specs.Prelude.{ℕ, Bool, cond, List, [], ◌∷◌, ◌++◌}
use Rattle.lq_base_names.specs.declared.place.Place.{Place}
use Rattle.lq_refined_types.specs.Parts.Part.{known}
use Rattle.lq_logic_predicates.specs.Formula.{Formula, falsity, negation}
use Rattle.lq_refined_types.specs.Types.Context.{guard, Context}
use Rattle.lq_refined_types.specs.Types.Refined.{Refined, unit_type, Refineds, argument_of, element_of}
use Rattle.lq_refined_types.specs.Subtyping.Implication.{Reason, of_assertion, of_index, of_divisor, of_length, of_case, of_argument, of_flow, Origin, Implication}
use Rattle.lq_refined_types.specs.Subtyping.Splitting.{first_of, rest_of, split}
use Rattle.lq_refined_types.specs.Subtyping.Subtype.{facts}
use Rattle.lq_refined_rules.specs.Checks.Basis.{Basis}
use Rattle.lq_refined_rules.specs.Checks.Match.{is_data_match, matched_constructors, in_arm, missing_context}
use Rattle.lq_refined_rules.specs.Checks.Operation.{in_range, not_zero, not_negative, element_at, type_of, field_types, bind, body_context, body_type, recursive_context, recursive_type, last_context, last_type}
use Rattle.lq_refined_rules.specs.Checks.Pure.{formula_of, type_of_use, pure_type}
use Rattle.lq_refined_rules.specs.Checks.Tree.{Use, Pure, is_arm_of, takes_all, has_default, passes_on, has_template, Operation, pure, fun, if_else, match_on, call, tuple, build, make, fetch, store, divide, remainder, assert, assert_false, read, print, map_empty, map_add, map_find, Block, last, binding, recursive, Arms, no_arms, arm, Program, no_items, define, define_recursive, run_unit, run_any}

abbrev pub from : Place → Reason → Origin
from l r = record { place = l; reason = r }

-- the implications of each of a list
abbrev pub each : (ℕ → List Implication) → List ℕ → List Implication
each f [] = []
each f (c ∷ cs) = f c ++ each f cs

module _ (P : Basis) where
  abbrev pub demand : Context → Formula → Origin → List Implication
  demand Γ p o = record { hypotheses = facts P.setting Γ; left = []; goal = known p; origin = o } ∷ []

  abbrev pub subtyping : Context → Refined → Refined → Origin → List Implication
  subtyping Γ l r o = split P.setting o Γ l r

  abbrev pub operands : Context → List Pure → Refineds → Origin → List Implication
  operands Γ [] ts o = []
  operands Γ (e ∷ es) ts o = subtyping Γ (pure_type P Γ e) (first_of ts) o ++ operands Γ es (rest_of ts) o

  abbrev mutual
    -- of an operation at a place: its own, and those of its branches or its body against the type
    pub of_operation : Context → Place → Operation → Refined → List Implication
    of_operation Γ l (pure e) t = []
    of_operation Γ l (fun p y b) t = of_block (body_context Γ y t) b (body_type P.setting.scopes y t)
    of_operation Γ l (if_else p c a b) t =
        of_block (guard (known (formula_of c)) ∷ Γ) a t ++ of_block (guard (known (negation (formula_of c))) ∷ Γ) b t
    of_operation Γ l (match_on p u arms) t =
        cond (is_data_match P Γ u)
        (each (λ c. of_constructor Γ l u (has_default arms) c t arms) (matched_constructors P Γ u) ++ of_default Γ u arms t)
        (of_first Γ u arms t)
    of_operation Γ l (call g a) t = subtyping Γ (pure_type P Γ a) (argument_of (pure_type P Γ g)) (from l of_argument)
    of_operation Γ l (tuple es) t = []
    of_operation Γ l (build p c es) t = operands Γ es (field_types P Γ p c es) (from l of_argument)
    of_operation Γ l (make p n e) t =
        demand Γ (not_negative n) (from l of_length) ++ subtyping Γ (pure_type P Γ e) (P.template p) (from l of_argument)
    of_operation Γ l (fetch u i) t = demand Γ (in_range u i) (from l of_index)
    of_operation Γ l (store u i e) t =
        demand Γ (in_range u i) (from l of_index) ++ subtyping Γ (pure_type P Γ e) (element_of (type_of_use P Γ u)) (from l of_argument)
    of_operation Γ l (divide x y) t = demand Γ (not_zero y) (from l of_divisor)
    of_operation Γ l (remainder x y) t = demand Γ (not_zero y) (from l of_divisor)
    of_operation Γ l (assert e) t = demand Γ (formula_of e) (from l of_assertion)
    of_operation Γ l (assert_false p) t = demand Γ falsity (from l of_assertion)
    of_operation Γ l (read e) t = []
    of_operation Γ l (print e) t = []
    of_operation Γ l (map_empty p) t = []
    of_operation Γ l (map_add p k e m) t =
        subtyping Γ (pure_type P Γ e) (element_at P.setting.scopes k (P.template p)) (from l of_argument)
        ++ subtyping Γ (pure_type P Γ m) (P.template p) (from l of_argument)
    of_operation Γ l (map_find k m) t = []

    -- of a block against the type
    pub of_block : Context → Block → Refined → List Implication
    of_block Γ (last l o) t = of_operation Γ l o t ++ cond (passes_on o) [] (subtyping Γ (type_of P Γ o) t (from l of_flow))
    of_block Γ (binding x l o b) t = of_operation Γ l o (type_of P Γ o) ++ of_block (bind x (type_of P Γ o) Γ) b t
    of_block Γ (recursive g p y b c) t =
        of_block (recursive_context P Γ g p y) b (recursive_type P p y) ++ of_block (bind g (P.template p) Γ) c t

    -- of the arm of a constructor, or that there is no value of it
    pub of_constructor : Context → Place → Use → Bool → ℕ → Refined → Arms → List Implication
    of_constructor Γ l u d c t no_arms =
        cond d [] (demand (missing_context P Γ u c) falsity (from l of_case))
    of_constructor Γ l u d c t (arm q b arms) =
        cond (is_arm_of c q) (of_block (in_arm P Γ u q) b t) (of_constructor Γ l u d c t arms)

    pub of_default : Context → Use → Arms → Refined → List Implication
    of_default Γ u no_arms t = []
    of_default Γ u (arm q b arms) t = cond (takes_all q) (of_block (in_arm P Γ u q) b t) (of_default Γ u arms t)

    pub of_first : Context → Use → Arms → Refined → List Implication
    of_first Γ u no_arms t = []
    of_first Γ u (arm q b arms) t = of_block (in_arm P Γ u q) b t

  -- of a recursive function's body
  abbrev pub of_recursive : Context → ℕ → ℕ → ℕ → Block → List Implication
  of_recursive Γ g p y b = of_block (recursive_context P Γ g p y) b (recursive_type P p y)

  -- of a block of which no type is expected
  abbrev pub of_given : Context → Block → List Implication
  of_given Γ (last l o) = of_operation Γ l o (type_of P Γ o)
  of_given Γ (binding x l o b) = of_operation Γ l o (type_of P Γ o) ++ of_given (bind x (type_of P Γ o) Γ) b
  of_given Γ (recursive g p y b c) = of_recursive Γ g p y b ++ of_given (bind g (P.template p) Γ) c

  -- of a definition's own template
  abbrev pub of_definition : Context → Place → ℕ → Block → List Implication
  of_definition Γ l k b = cond (has_template b) (subtyping (last_context P Γ b) (last_type P Γ b) (P.template k) (from l of_flow)) []

  -- the implications of a program, in order
  abbrev pub implications_of : Context → Program → List Implication
  implications_of Γ no_items = []
  implications_of Γ (define x l k b rest) =
      of_given Γ b ++ (of_definition Γ l k b ++ implications_of (bind x (last_type P Γ b) (last_context P Γ b)) rest)
  implications_of Γ (define_recursive g p y b rest) = of_recursive Γ g p y b ++ implications_of (bind g (P.template p) Γ) rest
  implications_of Γ (run_unit b rest) = of_block Γ b unit_type ++ implications_of Γ rest
  implications_of Γ (run_any b rest) = of_given Γ b ++ implications_of Γ rest
