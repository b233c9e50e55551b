-- Of which kind each name of a program is: the kind of its type where it is bound.
use Rattle.std.specs.Prelude.{◌≡◌, ℕ, Bool, true, false, List, [], ◌∷◌}
use Rattle.lq_refined_rules.specs.Checks.Basis.{Basis}
use Rattle.lq_refined_rules.specs.Checks.Match.{fields_by, in_arm, names_for}
use Rattle.lq_refined_rules.specs.Checks.Operation.{bind, body_context, body_type, last_context, last_type, recursive_context, recursive_type, type_of}
use Rattle.lq_refined_rules.specs.Checks.Pure.{formula_of, type_of_use, variable_type}
use Rattle.lq_refined_rules.specs.Checks.Tree.{Use, Pattern, pattern_any, pattern_name, pattern_unit, pattern_tuple, pattern_build, Arms, no_arms, arm, Operation, pure, fun, if_else, match_on, call, tuple, build, make, fetch, store, divide, remainder, assert, assert_false, read, print, map_empty, map_add, map_find, Block, last, binding, recursive, Program, no_items, define, define_recursive, run_unit, run_any}
use Rattle.lq_refined_types.specs.Parts.Part.{known}
use Rattle.lq_logic_predicates.specs.Formula.{negation}
use Rattle.lq_refined_types.specs.Types.Context.{Context, guard}
use Rattle.lq_refined_types.specs.Types.Refined.{Refined, int_with, bool_with, unit_type, function, tuple_of, array_with, data_with, map_with, type_variable, Refineds, Kind, kind, argument_of, components_of}
use Rattle.lq_refined_types.specs.Subtyping.Splitting.{first_of, rest_of}

abbrev pub is_variable : Refined → Bool
is_variable (int_with p) = false
is_variable (bool_with p) = false
is_variable unit_type = false
is_variable (function x a b) = false
is_variable (tuple_of ts) = false
is_variable (array_with e p) = false
is_variable (data_with d ts m p) = false
is_variable (map_with e p) = false
is_variable (type_variable i) = true

-- the kind of a name's type, and whether the type is a variable
abbrev pub NameKind : Type 0
NameKind = Kind × Bool

abbrev pub name_kind : Refined → NameKind
name_kind t = (kind t, is_variable t)

module _ (P : Basis) (K : ℕ → NameKind) where
  -- the name has the kind of the type
  abbrev pub IsOf : ℕ → Refined → Type 0
  IsOf x t = K x ≡ name_kind t

  abbrev pub ComponentKinds : List ℕ → Refineds → Type 0
  ComponentKinds [] ts = Unit {0}
  ComponentKinds (x ∷ xs) ts = IsOf x (first_of ts) × ComponentKinds xs (rest_of ts)

  abbrev pub PatternKinds : Context → Use → Pattern → Type 0
  PatternKinds Γ u pattern_any = Unit {0}
  PatternKinds Γ u (pattern_name x) = IsOf x (variable_type P.setting.scopes u.name (type_of_use P Γ u))
  PatternKinds Γ u pattern_unit = Unit {0}
  PatternKinds Γ u (pattern_tuple xs) = ComponentKinds xs (components_of (type_of_use P Γ u))
  PatternKinds Γ u (pattern_build c xs) =
      let t = type_of_use P Γ u in
      ComponentKinds xs (fields_by P Γ u.name t c (names_for 0 xs (fields_by P Γ u.name t c [])))

  -- each name that an operation, a block or arms bind, where a type is expected of them
  abbrev mutual
    pub OperationKinds : Context → Operation → Refined → Type 0
    OperationKinds Γ (fun p y b) t = IsOf y (argument_of t) × BlockKinds (body_context Γ y t) b (body_type P.setting.scopes y t)
    OperationKinds Γ (if_else p c a b) t =
        BlockKinds (guard (known (formula_of c)) ∷ Γ) a t × BlockKinds (guard (known (negation (formula_of c))) ∷ Γ) b t
    OperationKinds Γ (match_on p u arms) t = ArmsKinds Γ u arms t
    OperationKinds Γ (pure e) t = Unit {0}
    OperationKinds Γ (call g a) t = Unit {0}
    OperationKinds Γ (tuple es) t = Unit {0}
    OperationKinds Γ (build p c es) t = Unit {0}
    OperationKinds Γ (make p n e) t = Unit {0}
    OperationKinds Γ (fetch u i) t = Unit {0}
    OperationKinds Γ (store u i e) t = Unit {0}
    OperationKinds Γ (divide x y) t = Unit {0}
    OperationKinds Γ (remainder x y) t = Unit {0}
    OperationKinds Γ (assert e) t = Unit {0}
    OperationKinds Γ (assert_false p) t = Unit {0}
    OperationKinds Γ (read e) t = Unit {0}
    OperationKinds Γ (print e) t = Unit {0}
    OperationKinds Γ (map_empty p) t = Unit {0}
    OperationKinds Γ (map_add p k e m) t = Unit {0}
    OperationKinds Γ (map_find k m) t = Unit {0}

    pub BlockKinds : Context → Block → Refined → Type 0
    BlockKinds Γ (last l o) t = OperationKinds Γ o t
    BlockKinds Γ (binding x l o b) t =
        OperationKinds Γ o (type_of P Γ o) × IsOf x (type_of P Γ o) × BlockKinds (bind x (type_of P Γ o) Γ) b t
    BlockKinds Γ (recursive g p y b c) t =
        IsOf g (P.template p) × IsOf y (argument_of (P.template p)) × BlockKinds (recursive_context P Γ g p y) b (recursive_type P p y)
        × BlockKinds (bind g (P.template p) Γ) c t

    pub ArmsKinds : Context → Use → Arms → Refined → Type 0
    ArmsKinds Γ u no_arms t = Unit {0}
    ArmsKinds Γ u (arm q b arms) t = (PatternKinds Γ u q × BlockKinds (in_arm P Γ u q) b t) × ArmsKinds Γ u arms t

  -- of a block of which no type is expected
  abbrev pub GivenKinds : Context → Block → Type 0
  GivenKinds Γ (last l o) = OperationKinds Γ o (type_of P Γ o)
  GivenKinds Γ (binding x l o b) =
      OperationKinds Γ o (type_of P Γ o) × IsOf x (type_of P Γ o) × GivenKinds (bind x (type_of P Γ o) Γ) b
  GivenKinds Γ (recursive g p y b c) =
      IsOf g (P.template p) × IsOf y (argument_of (P.template p)) × BlockKinds (recursive_context P Γ g p y) b (recursive_type P p y)
      × GivenKinds (bind g (P.template p) Γ) c

  abbrev pub ProgramKinds : Context → Program → Type 0
  ProgramKinds Γ no_items = Unit {0}
  ProgramKinds Γ (define x l k b rest) =
      GivenKinds Γ b × IsOf x (last_type P Γ b) × ProgramKinds (bind x (last_type P Γ b) (last_context P Γ b)) rest
  ProgramKinds Γ (define_recursive g p y b rest) =
      IsOf g (P.template p) × IsOf y (argument_of (P.template p)) × BlockKinds (recursive_context P Γ g p y) b (recursive_type P p y)
      × ProgramKinds (bind g (P.template p) Γ) rest
  ProgramKinds Γ (run_unit b rest) = BlockKinds Γ b unit_type × ProgramKinds Γ rest
  ProgramKinds Γ (run_any b rest) = GivenKinds Γ b × ProgramKinds Γ rest

-- the type of no definition is a type variable
abbrev pub DefinitionsFixed : (ℕ → NameKind) → Program → Type 0
DefinitionsFixed K no_items = Unit {0}
DefinitionsFixed K (define x l k b rest) = ((K x).1 ≡ false) × DefinitionsFixed K rest
DefinitionsFixed K (define_recursive g p y b rest) = DefinitionsFixed K rest
DefinitionsFixed K (run_unit b rest) = DefinitionsFixed K rest
DefinitionsFixed K (run_any b rest) = DefinitionsFixed K rest
