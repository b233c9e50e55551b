-- Quiet expressions: they read no input, write no output, and neither make nor read nor change an array. And the blocks of the typing rules
-- that run as such.
use Rattle.lq_meaning_steps.specs.Model.Core.{Parameter, ignored, variable, empty, matched, Operation, negate, invert, assert, length_of, print, read, Arithmetic, sum, difference, product, quotient, remainder, Binary, arithmetic, comparison, make, fetch, Core, val, use_of, fun, row, let_in, let_rec, call, one, two, three, and_of, or_of, if_else, match_on, seq, assert_false, Cores, none, more}
use Rattle.lq_refined_rules.specs.Checks.Tree as tree
use Rattle.lq_refined_rules.specs.Checks.Tree.{Block, last, binding, recursive}

-- it is no pattern
abbrev pub IsPlain : Parameter → Type 0
IsPlain ignored = Unit {0}
IsPlain (variable x) = Unit {0}
IsPlain empty = Unit {0}
IsPlain (matched p q) = ⊥

-- the negative, `not`, `Array.length`
abbrev pub IsQuietUnary : Operation → Type 0
IsQuietUnary negate = Unit {0}
IsQuietUnary invert = Unit {0}
IsQuietUnary (assert p) = ⊥
IsQuietUnary length_of = Unit {0}
IsQuietUnary print = ⊥
IsQuietUnary (read p) = ⊥

-- arithmetic without a fault
abbrev pub IsQuietArithmetic : Arithmetic → Type 0
IsQuietArithmetic sum = Unit {0}
IsQuietArithmetic difference = Unit {0}
IsQuietArithmetic product = Unit {0}
IsQuietArithmetic (quotient p) = ⊥
IsQuietArithmetic (remainder p) = ⊥

abbrev pub IsQuietBinary : Binary → Type 0
IsQuietBinary (arithmetic o) = IsQuietArithmetic o
IsQuietBinary (comparison o) = Unit {0}
IsQuietBinary (make p) = ⊥
IsQuietBinary (fetch p) = ⊥

-- Values, variables, functions, whatever their bodies, rows, `let` without a pattern, arithmetic without a fault, comparisons, truth values
-- and `Array.length`, of quiet parts.
abbrev mutual
  pub IsQuiet : Core → Type 0
  IsQuiet (val v) = Unit {0}
  IsQuiet (use_of x) = Unit {0}
  IsQuiet (fun q b) = Unit {0}
  IsQuiet (row r es) = AreQuiet es
  IsQuiet (let_in q e b) = IsPlain q × IsQuiet e × IsQuiet b
  IsQuiet (let_rec f q b e) = ⊥
  IsQuiet (call f a) = ⊥
  IsQuiet (one o e) = IsQuietUnary o × IsQuiet e
  IsQuiet (two o a b) = IsQuietBinary o × IsQuiet a × IsQuiet b
  IsQuiet (three o a b c) = ⊥
  IsQuiet (and_of a b) = IsQuiet a × IsQuiet b
  IsQuiet (or_of a b) = IsQuiet a × IsQuiet b
  IsQuiet (if_else c a b) = ⊥
  IsQuiet (match_on p e cs) = ⊥
  IsQuiet (seq a b) = ⊥
  IsQuiet (assert_false p) = ⊥

  pub AreQuiet : Cores → Type 0
  AreQuiet none = Unit {0}
  AreQuiet (more e es) = IsQuiet e × AreQuiet es

-- ---- blocks

-- a pure expression, a function, a tuple, a constructor
abbrev pub IsValueOperation : tree.Operation → Type 0
IsValueOperation (tree.pure e) = Unit {0}
IsValueOperation (tree.fun p y b) = Unit {0}
IsValueOperation (tree.tuple es) = Unit {0}
IsValueOperation (tree.build p c es) = Unit {0}
IsValueOperation _ = ⊥

-- bindings of such operations, and a last one
abbrev pub IsValueBlock : Block → Type 0
IsValueBlock (last l o) = IsValueOperation o
IsValueBlock (binding x l o b) = IsValueOperation o × IsValueBlock b
IsValueBlock (recursive f p y b c) = ⊥
