-- Programs of covered forms, and what their runs need besides the typing rules.
use Rattle.std.specs.Prelude.{◌≡◌, ◌⊎◌, ℕ, true, false, List, [], ◌∷◌, Option, Some, None}
use Rattle.lq_refined_types.specs.Parts.Assignment.{Assignment}
use Rattle.lq_refined_types.specs.Types.Context.{Context}
use Rattle.lq_refined_types.specs.Types.Operations.{symbol_of}
use Rattle.lq_refined_types.specs.Types.Refined.{unit_type}
use Rattle.lq_refined_rules.specs.Checks.Basis.{Basis}
use Rattle.lq_refined_rules.specs.Checks.Checks.{Checks}
use Rattle.lq_refined_rules.specs.Checks.Operation.{type_of, bind, last_context, last_type}
use Rattle.lq_refined_rules.specs.Checks.Tree.{names_of, Use, Pure, Arms, no_arms, arm, Operation, pure, fun, if_else, match_on, call, tuple, build, make, fetch, store, divide, remainder, assert, assert_false, read, print, map_empty, map_add, map_find, Block, last, binding, recursive, Program, no_items, define, define_recursive, run_unit, run_any}
use Rattle.lq_refined_rules.specs.Checks.Typing.{Points, AreTemplates, HasProgram}
use Rattle.lq_meaning_steps.specs.Model.Program.{IsSafe}
use Rattle.lq_sound_values.specs.Inhabitants.Truth.{Objects}
use Rattle.lq_sound_values.specs.Inclusion.Laws.{IsScene}
use Rattle.lq_sound_values.specs.Inclusion.Symbols.{Symbols, with_symbol}
use Rattle.lq_sound_values.specs.Instantiation.Instances.{HasNoVariables}
use Rattle.lq_sound_forms.specs.Quiet.Quiet.{IsValueBlock}
use Rattle.lq_logic_predicates.specs.declared.symbol.Symbol.{Symbol}
use Rattle.lq_sound_values.specs.Runs.Closed.{names_in, Binds}
use Rattle.lq_sound_values.specs.Runs.Meets.{Variables}
use Rattle.lq_sound_forms.specs.Pures.Cores.{items_core}
use Rattle.lq_sound_forms.specs.Pures.Pures.{KnowsLengths, scene_of, EachUse, IsOf}
use Rattle.lq_sound_programs.specs.Safety.Scoped.{IsScoped, IsScopedBlock, IsScopedRecursive}

-- these and the names
abbrev pub with_names : Symbols → List ℕ → Symbols
with_names V [] = V
with_names V (x ∷ xs) = with_names (with_symbol V (symbol_of x)) xs

abbrev pub IsUseOf : Symbols → ℕ → Option ℕ → Type 0
IsUseOf G x None = Unit {0}
IsUseOf G x (Some i) = G (symbol_of x) ≡ true

-- the use is of one of the second names, and of one of the first where it puts types for variables
abbrev pub IsUse : Symbols → Symbols → Use → Type 0
IsUse G V u = IsOf V u × IsUseOf G u.name u.type_arguments

abbrev pub ArePuresOf : Symbols → Symbols → List Pure → Type 0
ArePuresOf G V [] = Unit {0}
ArePuresOf G V (e ∷ es) = EachUse (IsUse G V) e × ArePuresOf G V es

-- Each variable is one of the second names, or bound in the expression, and one of the first names where types are put for variables. No
-- operation is on maps.
abbrev mutual
  pub UsesOnly : Symbols → Symbols → Operation → Type 0
  UsesOnly G V (pure e) = EachUse (IsUse G V) e
  UsesOnly G V (if_else p c a b) = EachUse (IsUse G V) c × BlockUsesOnly G V a × BlockUsesOnly G V b
  UsesOnly G V (divide x y) = EachUse (IsUse G V) x × EachUse (IsUse G V) y
  UsesOnly G V (remainder x y) = EachUse (IsUse G V) x × EachUse (IsUse G V) y
  UsesOnly G V (assert e) = EachUse (IsUse G V) e
  UsesOnly G V (read e) = EachUse (IsUse G V) e
  UsesOnly G V (print e) = EachUse (IsUse G V) e
  UsesOnly G V (fun p y b) = BlockUsesOnly G (with_symbol V (symbol_of y)) b
  UsesOnly G V (match_on p u arms) = IsUse G V u × ArmsUseOnly G V arms
  UsesOnly G V (call g a) = EachUse (IsUse G V) g × EachUse (IsUse G V) a
  UsesOnly G V (tuple es) = ArePuresOf G V es
  UsesOnly G V (build p c es) = ArePuresOf G V es
  UsesOnly G V (make p n e) = EachUse (IsUse G V) n × EachUse (IsUse G V) e
  UsesOnly G V (fetch u i) = IsUse G V u × EachUse (IsUse G V) i
  UsesOnly G V (store u i e) = IsUse G V u × EachUse (IsUse G V) i × EachUse (IsUse G V) e
  UsesOnly G V (assert_false p) = Unit {0}
  UsesOnly G V (map_empty p) = ⊥
  UsesOnly G V (map_add p k e m) = ⊥
  UsesOnly G V (map_find k m) = ⊥

  pub BlockUsesOnly : Symbols → Symbols → Block → Type 0
  BlockUsesOnly G V (last l o) = UsesOnly G V o
  BlockUsesOnly G V (binding x l o b) = UsesOnly G V o × BlockUsesOnly G (with_symbol V (symbol_of x)) b
  BlockUsesOnly G V (recursive g p y b c) =
      BlockUsesOnly G (with_symbol (with_symbol V (symbol_of g)) (symbol_of y)) b × BlockUsesOnly G (with_symbol V (symbol_of g)) c

  pub ArmsUseOnly : Symbols → Symbols → Arms → Type 0
  ArmsUseOnly G V no_arms = Unit {0}
  ArmsUseOnly G V (arm q b arms) = BlockUsesOnly G (with_names V (names_of q)) b × ArmsUseOnly G V arms

-- What stands for type variables allows uses of the second names, and at types for variables of the first ones: none of the second names is
-- hidden, the first ones are general, and what is general or hidden is of the environment.
pub record Allows (by : Variables) (G V : Symbols) (Γ : Context) : Type 0 where
  pub within : (x : Symbol) → names_in Γ x ≡ false → (by.general x ≡ false) × (by.hidden x ≡ false)
  pub shown : (x : Symbol) → V x ≡ true → by.hidden x ≡ false
  pub general : (x : Symbol) → G x ≡ true → by.general x ≡ true

module _ (P : Basis) (A : Assignment) (O : Objects) where
  -- a block of which no type is expected
  abbrev pub IsScopedGiven : Context → Block → Type 0
  IsScopedGiven Γ (last l o) = IsScoped P A O Γ o (type_of P Γ o)
  IsScopedGiven Γ (binding x l o b) =
      IsScoped P A O Γ o (type_of P Γ o) × Binds (scene_of P A O) (symbol_of x) (type_of P Γ o) Γ × IsScopedGiven (bind x (type_of P Γ o) Γ) b
  IsScopedGiven Γ (recursive g p y b c) = IsScopedRecursive P A O Γ g p y b × IsScopedGiven (bind g (P.template p) Γ) c

  -- Definition by definition, with the names that are visible: what a definition's block binds stays known, but no later definition uses it. Of
  -- a definition that isn't a value the type has no variables.
  abbrev pub IsScopedProgram : Symbols → Context → Program → Type 0
  IsScopedProgram V Γ no_items = Unit {0}
  IsScopedProgram V Γ (define x l k b rest) =
      BlockUsesOnly V V b × IsScopedGiven Γ b × Binds (scene_of P A O) (symbol_of x) (last_type P Γ b) (last_context P Γ b)
      × (IsValueBlock b ⊎ HasNoVariables (last_type P Γ b))
      × IsScopedProgram (with_symbol V (symbol_of x)) (bind x (last_type P Γ b) (last_context P Γ b)) rest
  IsScopedProgram V Γ (define_recursive g p y b rest) =
      BlockUsesOnly V (with_symbol (with_symbol V (symbol_of g)) (symbol_of y)) b × IsScopedRecursive P A O Γ g p y b
      × IsScopedProgram (with_symbol V (symbol_of g)) (bind g (P.template p) Γ) rest
  IsScopedProgram V Γ (run_unit b rest) = BlockUsesOnly V V b × IsScopedBlock P A O Γ b unit_type × IsScopedProgram V Γ rest
  IsScopedProgram V Γ (run_any b rest) = BlockUsesOnly V V b × IsScopedGiven Γ b × IsScopedProgram V Γ rest

abbrev pub no_symbols : Symbols
no_symbols y = false

-- A simply typed program that checks under an assignment is safe: on every input no number of steps meets a fault or gets stuck, where its
-- names are in scope.
abbrev pub ChecksAreSafe : Type 0
ChecksAreSafe =
    (P : Basis) (A : Assignment) (O : Objects) → IsScene (scene_of P A O) → KnowsLengths O → (Q : Points) → AreTemplates P Q → (p : Program)
    → HasProgram P Q [] p → Checks P A [] p → IsScopedProgram P A O no_symbols [] p → IsSafe (items_core p)
