-- A program that checks under every assignment, and one that checks under none. Their function is 10, and its parameter, a truth value, 12.
use Rattle.std.specs.Prelude.{[], ◌∷◌, Some}
use Rattle.lq_refined_types.specs.Parts.Assignment.{Assignment}
use Rattle.lq_refined_types.specs.Types.Refined.{bool_with, unit_type, function}
use Rattle.lq_refined_rules.specs.Checks.Basis.{Basis}
use Rattle.lq_refined_rules.specs.Checks.Checks.{Checks}
use Rattle.lq_refined_rules.specs.Checks.Sample.{at, variable, basis}
use Rattle.lq_refined_rules.specs.Checks.Tree as t
use Rattle.lq_refined_rules.specs.Checks.Tree.{Block, Program, fun, if_else, assert, last, no_items, define}

-- nothing is said of the parameter
abbrev pub judged_basis : Basis
judged_basis = basis [] (function (Some 12) (bool_with []) unit_type ∷ [])

abbrev pub judged_program : Block → Program
judged_program b = define 10 (at 1) 0 (last (at 2) (fun 0 12 b)) no_items

-- let f x = if x then assert x else assert (not x)
abbrev pub GuardedChecks : Type 0
GuardedChecks =
    (A : Assignment) →
    Checks judged_basis A []
    (judged_program
    (last (at 3)
    (if_else 9 (variable 12) (last (at 4) (assert (variable 12))) (last (at 5) (assert (t.not_of (variable 12)))))))

-- let f x = assert x
abbrev pub UnguardedFails : Type 0
UnguardedFails = (A : Assignment) → Checks judged_basis A [] (judged_program (last (at 3) (assert (variable 12)))) → ⊥
