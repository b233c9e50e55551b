-- What a normal tree runs as.
use Rattle.std.specs.Prelude.{ℕ, List, [], ◌∷◌}
use Rattle.lq_base_names.specs.declared.place.Place.{Place}
use Rattle.lq_meaning_steps.specs.Model.Core as core
use Rattle.lq_meaning_steps.specs.Model.Core.{Core, Cores, v_whole, v_flag, v_unit, variable, ignored, empty}
use Rattle.lq_meaning_steps.specs.Model.Program.{Item, let_item, rec_item}
use Rattle.lq_refined_rules.specs.Checks.Tree as tree
use Rattle.lq_refined_rules.specs.Checks.Tree.{Use, Pure, whole, flag, unit, use_of, negated, add, subtract, multiply, length_of, compare, not_of, and_of, or_of, pattern_any, pattern_name, pattern_unit, pattern_tuple, pattern_build, Operation, pure, fun, if_else, match_on, call, tuple, build, make, fetch, store, divide, remainder, assert, assert_false, read, print, map_empty, map_add, map_find, Block, last, binding, recursive, Arms, no_arms, arm, Program, no_items, define, define_recursive, run_unit, run_any}

abbrev pub pure_core : Pure → Core
pure_core (whole n) = core.val (v_whole n)
pure_core (flag b) = core.val (v_flag b)
pure_core unit = core.val v_unit
pure_core (use_of u) = core.use_of u.name
pure_core (negated a) = core.one core.negate (pure_core a)
pure_core (add a b) = core.two (core.arithmetic core.sum) (pure_core a) (pure_core b)
pure_core (subtract a b) = core.two (core.arithmetic core.difference) (pure_core a) (pure_core b)
pure_core (multiply a b) = core.two (core.arithmetic core.product) (pure_core a) (pure_core b)
pure_core (length_of a) = core.one core.length_of (pure_core a)
pure_core (compare o a b) = core.two (core.comparison o) (pure_core a) (pure_core b)
pure_core (not_of a) = core.one core.invert (pure_core a)
pure_core (and_of a b) = core.and_of (pure_core a) (pure_core b)
pure_core (or_of a b) = core.or_of (pure_core a) (pure_core b)

abbrev pub pure_cores : List Pure → Cores
pure_cores [] = core.none
pure_cores (e ∷ es) = core.more (pure_core e) (pure_cores es)

abbrev pub name_patterns : List ℕ → core.Patterns
name_patterns [] = core.no_patterns
name_patterns (x ∷ xs) = core.more_patterns (core.bind x) (name_patterns xs)

abbrev pub arm_pattern : tree.Pattern → core.Pattern
arm_pattern pattern_any = core.any
arm_pattern (pattern_name x) = core.bind x
arm_pattern pattern_unit = core.nothing
arm_pattern (pattern_tuple xs) = core.tuple_of (name_patterns xs)
arm_pattern (pattern_build c xs) = core.build_of c (name_patterns xs)

-- An operation at its place, and a block. Maps have no meaning yet: what stands for their operations is no program's.
abbrev mutual
  pub operation_core : Place → Operation → Core
  operation_core l (pure e) = pure_core e
  operation_core l (fun p y b) = core.fun (variable y) (block_core b)
  operation_core l (if_else p c a b) = core.if_else (pure_core c) (block_core a) (block_core b)
  operation_core l (match_on p u arms) = core.match_on l (core.use_of u.name) (arms_core arms)
  operation_core l (call g a) = core.call (pure_core g) (pure_core a)
  operation_core l (tuple es) = core.row core.tuple (pure_cores es)
  operation_core l (build p c es) = core.row (core.build c) (pure_cores es)
  operation_core l (make p n e) = core.two (core.make l) (pure_core n) (pure_core e)
  operation_core l (fetch u i) = core.two (core.fetch l) (core.use_of u.name) (pure_core i)
  operation_core l (store u i e) = core.three (core.store l) (core.use_of u.name) (pure_core i) (pure_core e)
  operation_core l (divide x y) = core.two (core.arithmetic (core.quotient l)) (pure_core x) (pure_core y)
  operation_core l (remainder x y) = core.two (core.arithmetic (core.remainder l)) (pure_core x) (pure_core y)
  operation_core l (assert e) = core.one (core.assert l) (pure_core e)
  operation_core l (assert_false p) = core.assert_false l
  operation_core l (read e) = core.one (core.read l) (pure_core e)
  operation_core l (print e) = core.one core.print (pure_core e)
  operation_core l (map_empty p) = core.assert_false l
  operation_core l (map_add p k e m) = core.assert_false l
  operation_core l (map_find k m) = core.assert_false l

  pub block_core : Block → Core
  block_core (last l o) = operation_core l o
  block_core (binding x l o b) = core.let_in (variable x) (operation_core l o) (block_core b)
  block_core (recursive g p y b c) = core.let_rec g (variable y) (block_core b) (block_core c)

  pub arms_core : Arms → core.Arms
  arms_core no_arms = core.no_arms
  arms_core (arm q b arms) = core.more_arms (arm_pattern q) (block_core b) (arms_core arms)

-- the items of a program
abbrev pub items_core : Program → List Item
items_core no_items = []
items_core (define x l k b rest) = let_item (variable x) (block_core b) ∷ items_core rest
items_core (define_recursive g p y b rest) = rec_item g (variable y) (block_core b) ∷ items_core rest
items_core (run_unit b rest) = let_item empty (block_core b) ∷ items_core rest
items_core (run_any b rest) = let_item ignored (block_core b) ∷ items_core rest
