-- A program that meets every condition of the law:
--     let f x = assert x
--     let () = let n = read_int () in let b = n < 100 in if b then f b else print_int n
-- where f takes true alone. Its names are 10, 12, 13 and 14.
use Rattle.std.specs.Prelude.{ℕ, pos, [], ◌∷◌, Some}
use Rattle.lq_base_names.specs.declared.operation.CompareOp.TheVariants as op
use Rattle.lq_refined_types.specs.Parts.Assignment.{Assignment}
use Rattle.lq_refined_types.specs.Parts.Part.{known}
use Rattle.lq_logic_predicates.specs.Formula.{flag}
use Rattle.lq_logic_predicates.specs.declared.symbol.Symbol.TheVariants as symbol
use Rattle.lq_refined_types.specs.Types.Refined.{bool_with, unit_type, function, erased, all_erased}
use Rattle.lq_meaning_steps.specs.Model.Core.{Value, v_array}
use Rattle.lq_meaning_steps.specs.Model.Program.{IsSafe}
use Rattle.lq_refined_rules.specs.Checks.Basis.{Basis}
use Rattle.lq_refined_rules.specs.Checks.Checks.{Checks}
use Rattle.lq_refined_rules.specs.Checks.Sample.{at, variable, amount, basis}
use Rattle.lq_refined_rules.specs.Checks.Tree.{Program, no_items, define, run_unit, last, binding, pure, unit, compare, fun, if_else, call, assert, read, print}
use Rattle.lq_refined_rules.specs.Checks.Typing.{Points, AreTemplates, HasProgram}
use Rattle.lq_sound_values.specs.Inhabitants.Truth.{Objects}
use Rattle.lq_sound_values.specs.Inclusion.Laws.{IsScene}
use Rattle.lq_sound_forms.specs.Pures.Cores.{items_core}
use Rattle.lq_sound_forms.specs.Pures.Pures.{KnowsLengths, scene_of}
use Rattle.lq_sound_programs.specs.Safety.Programs.{IsScopedProgram, no_symbols}

-- ---- numbers of objects: an array has its length, and all else 0

abbrev pub number_by_length : Value → ℕ
number_by_length (v_array r n) = n
number_by_length _ = 0

abbrev pub objects_by_length : Objects
objects_by_length = record { number_of = number_by_length; length = λ n. pos n; measured = λ m n. pos 0 }

-- ---- the program

abbrev pub example_basis : Basis
example_basis = basis [] (function (Some 12) (bool_with (known (flag symbol.Value) ∷ [])) unit_type ∷ [])

abbrev pub example_points : Points
example_points =
    record { point = λ p. erased (example_basis.template p); type_arguments = λ i. all_erased (example_basis.type_arguments i) }

abbrev pub example_program : Program
example_program =
    define 10 (at 1) 0 (last (at 2) (fun 0 12 (last (at 3) (assert (variable 12)))))
    (run_unit
    (binding 13 (at 4) (read unit)
    (binding 14 (at 5) (pure (compare op.Lt (variable 13) (amount 100)))
    (last (at 6)
    (if_else 1 (variable 14) (last (at 7) (call (variable 10) (variable 14))) (last (at 8) (print (variable 13)))))))
    no_items)

-- it has no unknowns
abbrev pub no_instances : Assignment
no_instances u = []

-- ---- the conditions

abbrev pub ExampleHasAll : Type 0
ExampleHasAll =
    IsScene (scene_of example_basis no_instances objects_by_length) × KnowsLengths objects_by_length × AreTemplates example_basis example_points
    × HasProgram example_basis example_points [] example_program × Checks example_basis no_instances [] example_program
    × IsScopedProgram example_basis no_instances objects_by_length no_symbols [] example_program

-- its second definition without the condition: f b
abbrev pub unguarded_program : Program
unguarded_program =
    define 10 (at 1) 0 (last (at 2) (fun 0 12 (last (at 3) (assert (variable 12)))))
    (run_unit
    (binding 13 (at 4) (read unit)
    (binding 14 (at 5) (pure (compare op.Lt (variable 13) (amount 100))) (last (at 6) (call (variable 10) (variable 14)))))
    no_items)

abbrev pub UnguardedIsUnsafe : Type 0
UnguardedIsUnsafe = IsSafe (items_core unguarded_program) → ⊥

abbrev pub ExampleIsSafe : Type 0
ExampleIsSafe = IsSafe (items_core example_program)
