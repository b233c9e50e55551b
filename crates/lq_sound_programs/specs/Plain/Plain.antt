-- Programs of which all that soundness asks besides the typing rules can be read off them, their templates and the instances of unknowns.
use Rattle.std.specs.Prelude.{◌≡◌, ◌⊎◌, ℕ, suc, List, [], ◌∷◌, Some}
use Rattle.lq_refined_types.specs.Parts.Assignment.{Assignment}
use Rattle.lq_refined_types.specs.Parts.Part.{known}
use Rattle.lq_logic_predicates.specs.Formula.{negation}
use Rattle.lq_logic_predicates.specs.declared.symbol.Symbol.TheVariants as symbol
use Rattle.lq_text_tree.specs.Types.{Constructor}
use Rattle.lq_refined_types.specs.Types.Context.{Context, guard}
use Rattle.lq_refined_types.specs.Types.Operations.{symbol_of}
use Rattle.lq_refined_types.specs.Types.Refined.{Refined, int_with, bool_with, unit_type, function, tuple_of, array_with, data_with, map_with, type_variable, Refineds, none, more, argument_of, element_of}
use Rattle.lq_refined_types.specs.Subtyping.Splitting.{first_of, rest_of}
use Rattle.lq_refined_rules.specs.Checks.Basis.{Basis}
use Rattle.lq_refined_rules.specs.Checks.Checks.{Checks}
use Rattle.lq_refined_rules.specs.Checks.Match.{is_data_match, in_arm}
use Rattle.lq_refined_rules.specs.Checks.Operation.{type_of, called_type, built_type, field_types, body_context, body_type, recursive_context, recursive_type, bind, last_context, last_type}
use Rattle.lq_refined_rules.specs.Checks.Pure.{formula_of, type_of_use, pure_type, pure_types}
use Rattle.lq_refined_rules.specs.Checks.Ready.{Where}
use Rattle.lq_refined_rules.specs.Checks.Tree.{passes_on, is_arm_of, takes_all, Use, Pure, Pattern, Arms, no_arms, arm, Operation, pure, fun, if_else, match_on, call, tuple, build, make, fetch, store, divide, remainder, assert, assert_false, read, print, map_empty, map_add, map_find, Block, last, binding, recursive, Program, no_items, define, define_recursive, run_unit, run_any}
use Rattle.lq_refined_rules.specs.Checks.Typing.{Points, AreTemplates, HasProgram}
use Rattle.lq_meaning_steps.specs.Model.Program.{IsSafe}
use Rattle.lq_sound_values.specs.Inhabitants.Truth.{Objects, Scene}
use Rattle.lq_sound_values.specs.Inclusion.Apart.{CellsOn}
use Rattle.lq_sound_values.specs.Inclusion.Laws.{IsScene}
use Rattle.lq_sound_values.specs.Inclusion.Symbols.{Symbols, with_symbol, TypeOn}
use Rattle.lq_sound_values.specs.Instantiation.Instances.{HasNoVariables}
use Rattle.lq_sound_forms.specs.Quiet.Quiet.{IsValueBlock}
use Rattle.lq_sound_values.specs.Runs.Closed.{names_in, IsTypeOver, IsClosed}
use Rattle.lq_sound_forms.specs.Calls.Operands.{IsUsable}
use Rattle.lq_sound_values.specs.NewNames.NewNames.{IsInScope, HasNoNames}
use Rattle.lq_sound_forms.specs.Fields.Fields.{KnowsMeasures, IsDatatypeFor}
use Rattle.lq_sound_forms.specs.Pures.Cores.{items_core}
use Rattle.lq_sound_forms.specs.Pures.Pures.{KnowsLengths, scene_of, UseOver, PureOver}
use Rattle.lq_sound_forms.specs.Pures.Values.{IsBasicIn}
use Rattle.lq_sound_forms.specs.Tuples.Tuples.{AreUsable, HasComponentsOver}
use Rattle.lq_sound_programs.specs.Safety.Programs.{BlockUsesOnly, no_symbols}
use Rattle.lq_sound_programs.specs.Safety.Scoped.{NamesArgument, IsOperand, AreDatatypesFor}

abbrev pub IsBase : Refined → Type 0
IsBase (int_with p) = Unit {0}
IsBase (bool_with p) = Unit {0}
IsBase unit_type = Unit {0}
IsBase (function x a b) = ⊥
IsBase (tuple_of ts) = ⊥
IsBase (array_with e p) = ⊥
IsBase (data_with d ts m p) = ⊥
IsBase (map_with e p) = ⊥
IsBase (type_variable i) = ⊥

abbrev pub AreBase : Refineds → Type 0
AreBase none = Unit {0}
AreBase (more t ts) = IsBase t × AreBase ts

-- a type without functions
abbrev mutual
  pub IsFlat : Refined → Type 0
  IsFlat (int_with p) = Unit {0}
  IsFlat (bool_with p) = Unit {0}
  IsFlat unit_type = Unit {0}
  IsFlat (function x a b) = ⊥
  IsFlat (tuple_of ts) = AreFlat ts
  IsFlat (array_with e p) = IsFlat e
  IsFlat (data_with d ts m p) = AreFlat ts
  IsFlat (map_with e p) = Unit {0}
  IsFlat (type_variable i) = Unit {0}

  pub AreFlat : Refineds → Type 0
  AreFlat none = Unit {0}
  AreFlat (more t ts) = IsFlat t × AreFlat ts

-- of these types, each over these symbols
abbrev pub AreBaseOver : Scene → Symbols → Refineds → Type 0
AreBaseOver S N none = Unit {0}
AreBaseOver S N (more t ts) = IsBase t × IsTypeOver S N t × AreBaseOver S N ts

-- what may be matched on whatever its names: a value of a datatype whatever it holds, and a tuple without functions
abbrev pub IsMatched : Refined → Type 0
IsMatched (data_with d ts m p) = Unit {0}
IsMatched (int_with p) = Unit {0}
IsMatched (bool_with p) = Unit {0}
IsMatched unit_type = Unit {0}
IsMatched (function x a b) = ⊥
IsMatched (tuple_of ts) = AreFlat ts
IsMatched (array_with e p) = Unit {0}
IsMatched (map_with e p) = Unit {0}
IsMatched (type_variable i) = Unit {0}

-- components of two tuples: base types, the left ones over these symbols and earlier components
abbrev pub AreSides : Scene → Symbols → ℕ → Refineds → Refineds → Type 0
AreSides S N k none none = Unit {0}
AreSides S N k none (more r rs) = ⊥
AreSides S N k (more l ls) none = ⊥
AreSides S N k (more l ls) (more r rs) =
    IsBase l × IsBase r × IsTypeOver S N l × AreSides S (with_symbol N (symbol.Position (suc k))) (suc k) ls rs

-- The two types of a subtyping of base types: the right one is of a base type, or both are arrays of base types, tuples of such, or datatypes of
-- such with entries that speak of v and of fields.
abbrev pub IsBaseFlow : Scene → Symbols → Refined → Refined → Type 0
IsBaseFlow S N (data_with d ls m p) (data_with e rs n q) = AreBaseOver S N ls × AreBase rs × CellsOn S m × CellsOn S n
IsBaseFlow S N (tuple_of ls) (tuple_of rs) = AreSides S N 0 ls rs
IsBaseFlow S N (array_with e p) (array_with f q) = IsBase e × IsBase f
IsBaseFlow S N l (int_with q) = Unit {0}
IsBaseFlow S N l (bool_with q) = Unit {0}
IsBaseFlow S N l unit_type = Unit {0}
IsBaseFlow S N _ _ = ⊥

-- types in scope, one of which has no names of arguments
abbrev pub AreInScope : Scene → Symbols → Refined → Refined → Type 0
AreInScope S N l r = IsTypeOver S N l × IsInScope S N l × IsTypeOver S N r × IsInScope S N r × (HasNoNames l ⊎ HasNoNames r)

-- the two types of a subtyping: either of these
abbrev pub IsFlow : Scene → Symbols → Refined → Refined → Type 0
IsFlow S N l r = IsBaseFlow S N l r ⊎ AreInScope S N l r

module _ (P : Basis) (A : Assignment) (O : Objects) where
  -- a template whose parts speak of names in scope
  abbrev pub IsTemplateOver : Context → ℕ → Type 0
  IsTemplateOver Γ p = IsTypeOver (scene_of P A O) (names_in Γ) (P.template p)

  -- the type of an array's elements
  abbrev pub elements_type : Context → Use → Refined
  elements_type Γ u = element_of (type_of_use P Γ u)

  -- operands in a row, of whose types all is said by their values
  abbrev pub ArePlain : Context → List Pure → Type 0
  ArePlain Γ [] = Unit {0}
  ArePlain Γ (e ∷ es) = PureOver P A Γ e × IsBasicIn P Γ e × ArePlain Γ es

  -- where an operation is bound, or no type is expected of it, its type is its template, that of an array's elements, of a constructor's value
  -- or of a call, or put together from its operands
  abbrev pub IsGivenOver : Context → Operation → Type 0
  IsGivenOver Γ (pure e) = IsBasicIn P Γ e ⊎ IsTypeOver (scene_of P A O) (names_in Γ) (pure_type P Γ e)
  IsGivenOver Γ (tuple es) = ArePlain Γ es ⊎ IsTypeOver (scene_of P A O) (names_in Γ) (tuple_of (pure_types P Γ es))
  IsGivenOver Γ (if_else p c a b) = IsTemplateOver Γ p
  IsGivenOver Γ (match_on p u arms) = IsTemplateOver Γ p
  IsGivenOver Γ (assert_false p) = IsTemplateOver Γ p
  IsGivenOver Γ (fetch u i) = IsTypeOver (scene_of P A O) (names_in Γ) (elements_type Γ u)
  IsGivenOver Γ (build p c es) = IsTypeOver (scene_of P A O) (names_in Γ) (built_type P Γ p c es)
  IsGivenOver Γ (fun p y b) = IsTemplateOver Γ p
  IsGivenOver Γ (call g a) = IsTypeOver (scene_of P A O) (names_in Γ) (called_type P Γ (pure_type P Γ g) a)
  IsGivenOver Γ o = Unit {0}

  -- operands of a constructor, by the types of its fields
  abbrev pub ArePlainArguments : Context → List Pure → Refineds → Type 0
  ArePlainArguments Γ [] ts = Unit {0}
  ArePlainArguments Γ (e ∷ es) ts =
      IsFlow (scene_of P A O) (names_in Γ) (pure_type P Γ e) (first_of ts) × ArePlainArguments Γ es (rest_of ts)

  -- a recursive function's template speaks of names in scope, and its body's type of these, its own name and its parameter
  abbrev pub IsRecursionOver : Context → ℕ → ℕ → ℕ → Type 0
  IsRecursionOver Γ g p y =
      NamesArgument A (names_in Γ) y (P.template p) × IsTemplateOver Γ p
      × IsTypeOver (scene_of P A O) (names_in (bind g (P.template p) Γ)) (argument_of (P.template p))
      × TypeOn A (recursive_type P p y) (names_in (recursive_context P Γ g p y))

  -- the environment of an arm is closed where that of the match is
  abbrev pub IsArmClosed : Context → Use → Pattern → Type 0
  IsArmClosed Γ u q = IsClosed (scene_of P A O) Γ → IsClosed (scene_of P A O) (in_arm P Γ u q)

  -- the forms, with their variables in scope, where branches are against a type
  abbrev mutual
    pub IsPlain : Context → Operation → Refined → Type 0
    IsPlain Γ (pure e) t = IsOperand P A O Γ e
    IsPlain Γ (if_else p c a b) t =
        PureOver P A Γ c × IsPlainBlock (guard (known (formula_of c)) ∷ Γ) a t
        × IsPlainBlock (guard (known (negation (formula_of c))) ∷ Γ) b t
    IsPlain Γ (match_on p u arms) t =
        UseOver P A Γ u × (IsMatched (type_of_use P Γ u) ⊎ IsUsable (scene_of P A O) Γ (type_of_use P Γ u))
        × Where (is_data_match P Γ u) (AreDatatypesFor P A O Γ u × ((c : ℕ) → IsPlainCase Γ u c t arms) × IsPlainDefault Γ u t arms)
        (HasComponentsOver A (names_in Γ) (type_of_use P Γ u) × IsPlainFirst Γ u t arms)
    IsPlain Γ (tuple es) t = AreUsable P A O Γ es
    IsPlain Γ (build p c es) t =
        AreUsable P A O Γ es × ArePlainArguments Γ es (field_types P Γ p c es) × KnowsMeasures P O
        × ((k : Constructor) → P.setting.constructors c ≡ Some k → IsDatatypeFor (scene_of P A O) P c k (P.template p))
    IsPlain Γ (divide x y) t = PureOver P A Γ x × PureOver P A Γ y
    IsPlain Γ (remainder x y) t = PureOver P A Γ x × PureOver P A Γ y
    IsPlain Γ (assert e) t = PureOver P A Γ e
    IsPlain Γ (assert_false p) t = Unit {0}
    IsPlain Γ (read e) t = PureOver P A Γ e
    IsPlain Γ (print e) t = PureOver P A Γ e
    IsPlain Γ (make p n e) t =
        PureOver P A Γ n × IsOperand P A O Γ e × IsTemplateOver Γ p
        × IsFlow (scene_of P A O) (names_in Γ) (pure_type P Γ e) (P.template p)
    IsPlain Γ (fetch u i) t = UseOver P A Γ u × PureOver P A Γ i
    IsPlain Γ (store u i e) t =
        UseOver P A Γ u × PureOver P A Γ i × IsOperand P A O Γ e
        × IsFlow (scene_of P A O) (names_in Γ) (pure_type P Γ e) (elements_type Γ u)
    IsPlain Γ (fun p y b) t =
        NamesArgument A (names_in Γ) y t × IsTypeOver (scene_of P A O) (names_in Γ) (argument_of t)
        × TypeOn A (body_type P.setting.scopes y t) (names_in (body_context Γ y t))
        × IsPlainBlock (body_context Γ y t) b (body_type P.setting.scopes y t)
    IsPlain Γ (call g a) t =
        IsOperand P A O Γ g × IsOperand P A O Γ a × IsFlow (scene_of P A O) (names_in Γ) (pure_type P Γ a) (argument_of (pure_type P Γ g))
    IsPlain Γ (map_empty p) t = ⊥
    IsPlain Γ (map_add p k e m) t = ⊥
    IsPlain Γ (map_find k m) t = ⊥

    pub IsPlainBlock : Context → Block → Refined → Type 0
    IsPlainBlock Γ (last l o) t =
        IsPlain Γ o t × Where (passes_on o) (Unit {0}) (IsFlow (scene_of P A O) (names_in Γ) (type_of P Γ o) t)
    IsPlainBlock Γ (binding x l o b) t = IsPlain Γ o (type_of P Γ o) × IsGivenOver Γ o × IsPlainBlock (bind x (type_of P Γ o) Γ) b t
    IsPlainBlock Γ (recursive g p y b c) t =
        IsRecursionOver Γ g p y × IsPlainBlock (recursive_context P Γ g p y) b (recursive_type P p y)
        × IsPlainBlock (bind g (P.template p) Γ) c t

    -- the arms that are checked
    pub IsPlainCase : Context → Use → ℕ → Refined → Arms → Type 0
    IsPlainCase Γ u c t no_arms = Unit {0}
    IsPlainCase Γ u c t (arm q b arms) =
        Where (is_arm_of c q) (IsArmClosed Γ u q × IsPlainBlock (in_arm P Γ u q) b t) (IsPlainCase Γ u c t arms)

    pub IsPlainDefault : Context → Use → Refined → Arms → Type 0
    IsPlainDefault Γ u t no_arms = Unit {0}
    IsPlainDefault Γ u t (arm q b arms) =
        Where (takes_all q) (IsArmClosed Γ u q × IsPlainBlock (in_arm P Γ u q) b t) (IsPlainDefault Γ u t arms)

    pub IsPlainFirst : Context → Use → Refined → Arms → Type 0
    IsPlainFirst Γ u t no_arms = ⊥
    IsPlainFirst Γ u t (arm q b arms) = IsArmClosed Γ u q × IsPlainBlock (in_arm P Γ u q) b t

  -- a block of which no type is expected
  abbrev pub IsPlainGiven : Context → Block → Type 0
  IsPlainGiven Γ (last l o) = IsPlain Γ o (type_of P Γ o) × IsGivenOver Γ o
  IsPlainGiven Γ (binding x l o b) =
      IsPlain Γ o (type_of P Γ o) × IsGivenOver Γ o × IsPlainGiven (bind x (type_of P Γ o) Γ) b
  IsPlainGiven Γ (recursive g p y b c) =
      IsRecursionOver Γ g p y × IsPlainBlock (recursive_context P Γ g p y) b (recursive_type P p y)
      × IsPlainGiven (bind g (P.template p) Γ) c

  -- with the names that are visible
  abbrev pub IsPlainProgram : Symbols → Context → Program → Type 0
  IsPlainProgram V Γ no_items = Unit {0}
  IsPlainProgram V Γ (define x l k b rest) =
      BlockUsesOnly V V b × IsPlainGiven Γ b × (IsValueBlock b ⊎ HasNoVariables (last_type P Γ b))
      × IsPlainProgram (with_symbol V (symbol_of x)) (bind x (last_type P Γ b) (last_context P Γ b)) rest
  IsPlainProgram V Γ (define_recursive g p y b rest) =
      BlockUsesOnly V (with_symbol (with_symbol V (symbol_of g)) (symbol_of y)) b × IsRecursionOver Γ g p y
      × IsPlainBlock (recursive_context P Γ g p y) b (recursive_type P p y)
      × IsPlainProgram (with_symbol V (symbol_of g)) (bind g (P.template p) Γ) rest
  IsPlainProgram V Γ (run_unit b rest) = BlockUsesOnly V V b × IsPlainBlock Γ b unit_type × IsPlainProgram V Γ rest
  IsPlainProgram V Γ (run_any b rest) = BlockUsesOnly V V b × IsPlainGiven Γ b × IsPlainProgram V Γ rest

-- A simply typed program of these forms that checks under an assignment is safe.
abbrev pub PlainProgramsAreSafe : Type 0
PlainProgramsAreSafe =
    (P : Basis) (A : Assignment) (O : Objects) → IsScene (scene_of P A O) → KnowsLengths O → (Q : Points) → AreTemplates P Q → (p : Program)
    → HasProgram P Q [] p → Checks P A [] p → IsPlainProgram P A O no_symbols [] p → IsSafe (items_core p)
