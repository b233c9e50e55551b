-- Pure expressions, and blocks of values, run as quiet expressions.
use Rattle.std.proofs.Common.{List, [], ◌∷◌}
use Rattle.lq_base_names.specs.declared.place.Place.{Place}
use Rattle.lq_refined_rules.specs.Checks.Tree.{Pure, whole, flag, unit, use_of, negated, add, subtract, multiply, length_of, compare, not_of, and_of, or_of, Operation, pure, fun, tuple, build, Block, last, binding, recursive}
use Rattle.lq_sound_forms.specs.Pures.Cores.{pure_core, pure_cores, operation_core, block_core}
use Rattle.lq_sound_forms.specs.Quiet.Quiet.{IsQuiet, AreQuiet, IsValueOperation, IsValueBlock}

pub pure_quiet : (e : Pure) → IsQuiet (pure_core e)
pure_quiet (whole n) = tt
pure_quiet (flag b) = tt
pure_quiet unit = tt
pure_quiet (use_of u) = tt
pure_quiet (negated a) = (tt, pure_quiet a)
pure_quiet (add a b) = (tt, pure_quiet a, pure_quiet b)
pure_quiet (subtract a b) = (tt, pure_quiet a, pure_quiet b)
pure_quiet (multiply a b) = (tt, pure_quiet a, pure_quiet b)
pure_quiet (length_of a) = (tt, pure_quiet a)
pure_quiet (compare o a b) = (tt, pure_quiet a, pure_quiet b)
pure_quiet (not_of a) = (tt, pure_quiet a)
pure_quiet (and_of a b) = (pure_quiet a, pure_quiet b)
pure_quiet (or_of a b) = (pure_quiet a, pure_quiet b)

pub pures_quiet : (es : List Pure) → AreQuiet (pure_cores es)
pures_quiet [] = tt
pures_quiet (e ∷ es) = (pure_quiet e, pures_quiet es)

pub operation_quiet : (l : Place) (o : Operation) → IsValueOperation o → IsQuiet (operation_core l o)
operation_quiet l (pure e) h = pure_quiet e
operation_quiet l (fun p y b) h = tt
operation_quiet l (tuple es) h = pures_quiet es
operation_quiet l (build p c es) h = pures_quiet es
operation_quiet l _ h = absurd h

pub block_quiet : (b : Block) → IsValueBlock b → IsQuiet (block_core b)
block_quiet (last l o) h = operation_quiet l o h
block_quiet (binding x l o b) h = (tt, operation_quiet l o h.0, block_quiet b h.1)
block_quiet (recursive f p y b c) h = absurd h
