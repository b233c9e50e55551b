-- A program with a list, a tuple and matches that meets every condition of the law:
--     let () = let n = [] in let l = 5 :: n in match l with [] -> () | h :: t -> print_int h
--     let () = let p = (1, 2) in match p with (a, b) -> print_int a
-- Its names are 20 to 23 and 24 to 26.
use Rattle.std.specs.Prelude.{ℕ, suc, pos, ◌==◌, if◌then◌else◌, [], ◌∷◌}
use Rattle.lq_refined_types.specs.Types.Refined.{Refined, int_with, data_with, none, more, erased, all_erased}
use Rattle.lq_meaning_steps.specs.Model.Core.{Value, v_array, v_build, Values, no_values, more_values}
use Rattle.lq_meaning_steps.specs.Model.Program.{IsSafe}
use Rattle.lq_refined_rules.specs.Checks.Basis.{Basis}
use Rattle.lq_refined_rules.specs.Checks.Checks.{Checks}
use Rattle.lq_refined_rules.specs.Checks.Sample.{at, the, variable, amount, basis}
use Rattle.lq_refined_rules.specs.Checks.Tree.{Block, Program, no_items, run_unit, last, binding, pure, unit, match_on, tuple, build, print, no_arms, arm, pattern_tuple, pattern_build}
use Rattle.lq_refined_rules.specs.Checks.Typing.{Points, AreTemplates, HasProgram}
use Rattle.lq_sound_values.specs.Inhabitants.Truth.{Objects}
use Rattle.lq_sound_values.specs.Inclusion.Laws.{IsScene}
use Rattle.lq_sound_forms.specs.Pures.Cores.{items_core}
use Rattle.lq_sound_forms.specs.Pures.Pures.{KnowsLengths, scene_of}
use Rattle.lq_sound_programs.specs.Safety.Example.{no_instances}
use Rattle.lq_sound_programs.specs.Safety.Programs.{IsScopedProgram, no_symbols}

-- ---- numbers of objects: an array has its length, a list its size, and all else 0

abbrev mutual
  pub number_by_size : Value → ℕ
  number_by_size (v_array r n) = n
  number_by_size (v_build c vs) = if c == 8 then suc (number_of_second vs) else 0
  number_by_size _ = 0

  pub number_of_first : Values → ℕ
  number_of_first no_values = 0
  number_of_first (more_values v vs) = number_by_size v

  pub number_of_second : Values → ℕ
  number_of_second no_values = 0
  number_of_second (more_values v vs) = number_of_first vs

abbrev pub objects_by_size : Objects
objects_by_size = record { number_of = number_by_size; length = λ n. pos n; measured = λ m n. pos n }

-- ---- the program

-- lists of numbers of which nothing is known
abbrev pub numbers_type : Refined
numbers_type = data_with 4 (more (int_with []) none) [] []

abbrev pub data_basis : Basis
data_basis = basis [] (numbers_type ∷ numbers_type ∷ [])

abbrev pub data_points : Points
data_points = record { point = λ p. erased (data_basis.template p); type_arguments = λ i. all_erased (data_basis.type_arguments i) }

abbrev pub list_block : Block
list_block =
    binding 20 (at 1) (build 0 7 [])
    (binding 21 (at 2) (build 1 8 (amount 5 ∷ variable 20 ∷ []))
    (last (at 3)
    (match_on 2 (the 21)
    (arm (pattern_build 7 []) (last (at 4) (pure unit)) (arm (pattern_build 8 (22 ∷ 23 ∷ [])) (last (at 5) (print (variable 22))) no_arms)))))

abbrev pub tuple_block : Block
tuple_block =
    binding 24 (at 6) (tuple (amount 1 ∷ amount 2 ∷ []))
    (last (at 7) (match_on 2 (the 24) (arm (pattern_tuple (25 ∷ 26 ∷ [])) (last (at 8) (print (variable 25))) no_arms)))

abbrev pub data_program : Program
data_program = run_unit list_block (run_unit tuple_block no_items)

-- ---- the conditions

abbrev pub DataExampleHasAll : Type 0
DataExampleHasAll =
    IsScene (scene_of data_basis no_instances objects_by_size) × KnowsLengths objects_by_size × AreTemplates data_basis data_points
    × HasProgram data_basis data_points [] data_program × Checks data_basis no_instances [] data_program
    × IsScopedProgram data_basis no_instances objects_by_size no_symbols [] data_program

abbrev pub DataExampleIsSafe : Type 0
DataExampleIsSafe = IsSafe (items_core data_program)

-- a match on the empty list without an arm for it: let () = let n = [] in match n with h :: t -> print_int h
abbrev pub incomplete_program : Program
incomplete_program =
    run_unit
    (binding 20 (at 1) (build 0 7 []) (last (at 2) (match_on 2 (the 20) (arm (pattern_build 8 (22 ∷ 23 ∷ [])) (last (at 3) (print (variable 22))) no_arms))))
    no_items

abbrev pub IncompleteIsUnsafe : Type 0
IncompleteIsUnsafe = IsSafe (items_core incomplete_program) → ⊥
