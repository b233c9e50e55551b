-- What each error says of a program.
use Rattle.lq_types_infer.specs.declared.inference.solving.SolveError.{SolveError}
use Rattle.lq_types_infer.specs.declared.inference.solving.SolveError.TheVariants as solve
use Rattle.lq_text_walk.specs.Scoped.Scoping.{Scoping}
use Rattle.lq_types_rules.specs.Typings.Inference.{ill_typed, weak, past, IsInference}
use Rattle.lq_types_infer.specs.declared.annotation.errors.TypeError.{TypeError}
use Rattle.lq_types_infer.specs.declared.annotation.errors.TypeError.TheVariants.{IllTyped, WeakType, TypePast, Memory}

abbrev pub HasTypeError : Scoping → TypeError → Type 0
HasTypeError s (IllTyped p) = IsInference s (ill_typed p)
HasTypeError s (WeakType p) = IsInference s (weak p)
HasTypeError s (TypePast p n) = IsInference s (past p n)
HasTypeError s Memory = Unit {0}

-- what is answered where equations have no solution
abbrev pub refusal_of : SolveError → TypeError
refusal_of (solve.IllTyped p) = IllTyped p
refusal_of solve.Memory = Memory
