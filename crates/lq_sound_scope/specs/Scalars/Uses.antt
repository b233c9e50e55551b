-- Programs in which a name that is used at types for its type's variables is one that an earlier item defined.
use Rattle.std.specs.Prelude.{List, [], ◌∷◌}
use Rattle.lq_refined_types.specs.Types.Operations.{symbol_of}
use Rattle.lq_refined_rules.specs.Checks.Tree.{Use, Pure, Arms, no_arms, arm, Operation, pure, fun, if_else, match_on, call, tuple, build, make, fetch, store, divide, remainder, assert, assert_false, read, print, map_empty, map_add, map_find, Block, last, binding, recursive, Program, no_items, define, define_recursive, run_unit, run_any}
use Rattle.lq_sound_values.specs.Inclusion.Symbols.{Symbols, with_symbol}
use Rattle.lq_sound_forms.specs.Pures.Pures.{EachUse}
use Rattle.lq_sound_programs.specs.Safety.Programs.{IsUseOf}

-- a name at which types are put for variables is one of these
abbrev pub IsUseBefore : Symbols → Use → Type 0
IsUseBefore G u = IsUseOf G u.name u.type_arguments

abbrev pub PureUsesBefore : Symbols → Pure → Type 0
PureUsesBefore G e = EachUse (IsUseBefore G) e

abbrev pub PuresUseBefore : Symbols → List Pure → Type 0
PuresUseBefore G [] = Unit {0}
PuresUseBefore G (e ∷ es) = PureUsesBefore G e × PuresUseBefore G es

-- So is each use in an operation, in a block and in arms. What they bind isn't among the names.
abbrev mutual
  pub UsesBefore : Symbols → Operation → Type 0
  UsesBefore G (pure e) = PureUsesBefore G e
  UsesBefore G (if_else p c a b) = PureUsesBefore G c × BlockUsesBefore G a × BlockUsesBefore G b
  UsesBefore G (divide x y) = PureUsesBefore G x × PureUsesBefore G y
  UsesBefore G (remainder x y) = PureUsesBefore G x × PureUsesBefore G y
  UsesBefore G (assert e) = PureUsesBefore G e
  UsesBefore G (read e) = PureUsesBefore G e
  UsesBefore G (print e) = PureUsesBefore G e
  UsesBefore G (fun p y b) = BlockUsesBefore G b
  UsesBefore G (match_on p u arms) = IsUseBefore G u × ArmsUseBefore G arms
  UsesBefore G (call g a) = PureUsesBefore G g × PureUsesBefore G a
  UsesBefore G (tuple es) = PuresUseBefore G es
  UsesBefore G (build p c es) = PuresUseBefore G es
  UsesBefore G (make p n e) = PureUsesBefore G n × PureUsesBefore G e
  UsesBefore G (fetch u i) = IsUseBefore G u × PureUsesBefore G i
  UsesBefore G (store u i e) = IsUseBefore G u × PureUsesBefore G i × PureUsesBefore G e
  UsesBefore G (assert_false p) = Unit {0}
  UsesBefore G (map_empty p) = Unit {0}
  UsesBefore G (map_add p k e m) = PureUsesBefore G k × PureUsesBefore G e × PureUsesBefore G m
  UsesBefore G (map_find k m) = PureUsesBefore G k × PureUsesBefore G m

  pub BlockUsesBefore : Symbols → Block → Type 0
  BlockUsesBefore G (last l o) = UsesBefore G o
  BlockUsesBefore G (binding x l o b) = UsesBefore G o × BlockUsesBefore G b
  BlockUsesBefore G (recursive g p y b c) = BlockUsesBefore G b × BlockUsesBefore G c

  pub ArmsUseBefore : Symbols → Arms → Type 0
  ArmsUseBefore G no_arms = Unit {0}
  ArmsUseBefore G (arm q b arms) = BlockUsesBefore G b × ArmsUseBefore G arms

-- Definition by definition, with the names that were defined before: a recursive one isn't among those in its own body.
abbrev pub ProgramUsesBefore : Symbols → Program → Type 0
ProgramUsesBefore G no_items = Unit {0}
ProgramUsesBefore G (define x l k b rest) = BlockUsesBefore G b × ProgramUsesBefore (with_symbol G (symbol_of x)) rest
ProgramUsesBefore G (define_recursive g p y b rest) = BlockUsesBefore G b × ProgramUsesBefore (with_symbol G (symbol_of g)) rest
ProgramUsesBefore G (run_unit b rest) = BlockUsesBefore G b × ProgramUsesBefore G rest
ProgramUsesBefore G (run_any b rest) = BlockUsesBefore G b × ProgramUsesBefore G rest
