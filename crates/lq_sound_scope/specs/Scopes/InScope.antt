-- Programs in scope: each use is of a name in scope, and where a rule takes a template, or types for type variables, these speak of names in
-- scope alone.
use Rattle.std.specs.Prelude.{◌≡◌, ℕ, true, false, List, [], ◌∷◌, Option, Some, None}
use Rattle.lq_refined_types.specs.Types.Operations.{symbol_of}
use Rattle.lq_refined_types.specs.Types.Refined.{Refined, int_with, bool_with, unit_type, function, tuple_of, array_with, data_with, map_with, type_variable}
use Rattle.lq_sound_values.specs.Inclusion.Symbols.{Symbols, with_symbol}
use Rattle.lq_refined_rules.specs.Checks.Basis.{Basis}
use Rattle.lq_refined_rules.specs.Checks.Ready.{Where}
use Rattle.lq_refined_rules.specs.Checks.Tree.{Use, Pure, whole, flag, unit, use_of, negated, add, subtract, multiply, length_of, compare, not_of, and_of, or_of, names_of, has_template, Operation, pure, fun, if_else, match_on, call, tuple, build, make, fetch, store, divide, remainder, assert, assert_false, read, print, map_empty, map_add, map_find, Block, last, binding, recursive, Arms, no_arms, arm, Program, no_items, define, define_recursive, run_unit, run_any}
use Rattle.lq_refined_templates.specs.Templates.Scopes.{Unknown}
use Rattle.lq_sound_scope.specs.Scopes.Over.{of_any_sort, TypeOver, TypesOver}

-- no name
abbrev pub no_names : Symbols
no_names y = false

-- these and one more name, or more
abbrev pub with_name : Symbols → ℕ → Symbols
with_name N x = with_symbol N (symbol_of x)

abbrev pub with_names : Symbols → List ℕ → Symbols
with_names N [] = N
with_names N (x ∷ xs) = with_names (with_name N x) xs

-- a function type that names its argument by this parameter, or doesn't name it
abbrev pub NamesParameter : ℕ → Refined → Type 0
NamesParameter y (function None a b) = Unit {0}
NamesParameter y (function (Some x) a b) = x ≡ y
NamesParameter y (int_with p) = ⊥
NamesParameter y (bool_with p) = ⊥
NamesParameter y unit_type = ⊥
NamesParameter y (tuple_of ts) = ⊥
NamesParameter y (array_with e p) = ⊥
NamesParameter y (data_with d ts m p) = ⊥
NamesParameter y (map_with e p) = ⊥
NamesParameter y (type_variable i) = ⊥

-- over templates, and what unknowns may speak of
module _ (P : Basis) (unknowns : ℕ → Unknown) where
  abbrev pub TemplateOver : Symbols → ℕ → Type 0
  TemplateOver N p = TypeOver P.setting.constructors unknowns (of_any_sort N) (P.template p)

  -- the types for the type variables of a use
  abbrev pub ArgumentsOver : Symbols → Option ℕ → Type 0
  ArgumentsOver N None = Unit {0}
  ArgumentsOver N (Some i) = TypesOver P.setting.constructors unknowns (of_any_sort N) (P.type_arguments i)

  abbrev pub UseInScope : Symbols → Use → Type 0
  UseInScope N u = (N (symbol_of u.name) ≡ true) × ArgumentsOver N u.type_arguments

  abbrev pub PureInScope : Symbols → Pure → Type 0
  PureInScope N (whole n) = Unit {0}
  PureInScope N (flag b) = Unit {0}
  PureInScope N unit = Unit {0}
  PureInScope N (use_of u) = UseInScope N u
  PureInScope N (negated a) = PureInScope N a
  PureInScope N (add a b) = PureInScope N a × PureInScope N b
  PureInScope N (subtract a b) = PureInScope N a × PureInScope N b
  PureInScope N (multiply a b) = PureInScope N a × PureInScope N b
  PureInScope N (length_of a) = PureInScope N a
  PureInScope N (compare o a b) = PureInScope N a × PureInScope N b
  PureInScope N (not_of a) = PureInScope N a
  PureInScope N (and_of a b) = PureInScope N a × PureInScope N b
  PureInScope N (or_of a b) = PureInScope N a × PureInScope N b

  abbrev pub PuresInScope : Symbols → List Pure → Type 0
  PuresInScope N [] = Unit {0}
  PuresInScope N (e ∷ es) = PureInScope N e × PuresInScope N es

  abbrev mutual
    pub OperationInScope : Symbols → Operation → Type 0
    OperationInScope N (pure e) = PureInScope N e
    OperationInScope N (fun p y b) = TemplateOver N p × NamesParameter y (P.template p) × BlockInScope (with_name N y) b
    OperationInScope N (if_else p c a b) = TemplateOver N p × PureInScope N c × BlockInScope N a × BlockInScope N b
    OperationInScope N (match_on p u arms) = TemplateOver N p × UseInScope N u × ArmsInScope N arms
    OperationInScope N (call g a) = PureInScope N g × PureInScope N a
    OperationInScope N (tuple es) = PuresInScope N es
    OperationInScope N (build p c es) = TemplateOver N p × PuresInScope N es
    OperationInScope N (make p n e) = TemplateOver N p × PureInScope N n × PureInScope N e
    OperationInScope N (fetch u i) = UseInScope N u × PureInScope N i
    OperationInScope N (store u i e) = UseInScope N u × PureInScope N i × PureInScope N e
    OperationInScope N (divide x y) = PureInScope N x × PureInScope N y
    OperationInScope N (remainder x y) = PureInScope N x × PureInScope N y
    OperationInScope N (assert e) = PureInScope N e
    OperationInScope N (assert_false p) = TemplateOver N p
    OperationInScope N (read e) = PureInScope N e
    OperationInScope N (print e) = PureInScope N e
    OperationInScope N (map_empty p) = TemplateOver N p
    OperationInScope N (map_add p k e m) = TemplateOver N p × PureInScope N k × PureInScope N e × PureInScope N m
    OperationInScope N (map_find k m) = PureInScope N k × PureInScope N m

    -- the template of a recursive function doesn't speak of its own name, and names its argument by its parameter
    pub BlockInScope : Symbols → Block → Type 0
    BlockInScope N (last l o) = OperationInScope N o
    BlockInScope N (binding x l o b) = OperationInScope N o × BlockInScope (with_name N x) b
    BlockInScope N (recursive g p y b c) =
        TemplateOver N p × NamesParameter y (P.template p) × BlockInScope (with_name (with_name N g) y) b × BlockInScope (with_name N g) c

    pub ArmsInScope : Symbols → Arms → Type 0
    ArmsInScope N no_arms = Unit {0}
    ArmsInScope N (arm q b arms) = BlockInScope (with_names N (names_of q)) b × ArmsInScope N arms

  abbrev pub InScope : Symbols → Program → Type 0
  InScope N no_items = Unit {0}
  InScope N (define x l k b rest) =
      BlockInScope N b × Where (has_template b) (TemplateOver N k) (Unit {0}) × InScope (with_name N x) rest
  InScope N (define_recursive g p y b rest) =
      TemplateOver N p × NamesParameter y (P.template p) × BlockInScope (with_name (with_name N g) y) b × InScope (with_name N g) rest
  InScope N (run_unit b rest) = BlockInScope N b × InScope N rest
  InScope N (run_any b rest) = BlockInScope N b × InScope N rest
