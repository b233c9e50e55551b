-- A program with a definition of a general type, used at two instances of it, that meets every condition of the law:
--     let id = fun x -> x
--     let () = let n = id 3 in let b = id (n < 5) in if b then print_int n else print_int 0
-- Its names are 30 to 33.
use Rattle.std.specs.Prelude.{ℕ, zero, suc, [], ◌∷◌, Some}
use Rattle.lq_base_names.specs.declared.operation.CompareOp.TheVariants as op
use Rattle.lq_refined_types.specs.Types.Refined.{int_with, bool_with, function, type_variable, Refineds, none, more, erased, all_erased}
use Rattle.lq_meaning_steps.specs.Model.Program.{IsSafe}
use Rattle.lq_refined_rules.specs.Checks.Basis.{Basis}
use Rattle.lq_refined_rules.specs.Checks.Checks.{Checks}
use Rattle.lq_refined_rules.specs.Checks.Sample.{at, variable, amount, template_at}
use Rattle.lq_refined_rules.specs.Checks.Tree.{Pure, use_of, Block, Program, no_items, define, run_unit, last, binding, pure, compare, fun, if_else, call, print}
use Rattle.lq_refined_rules.specs.Checks.Typing.{Points, AreTemplates, HasProgram}
use Rattle.lq_sound_values.specs.Inclusion.Laws.{IsScene}
use Rattle.lq_sound_forms.specs.Pures.Cores.{items_core}
use Rattle.lq_sound_forms.specs.Pures.Pures.{KnowsLengths, scene_of}
use Rattle.lq_sound_programs.specs.Safety.Example.{objects_by_length, example_basis, no_instances}
use Rattle.lq_sound_programs.specs.Safety.Programs.{IsScopedProgram, no_symbols}

-- ---- the program

-- the types that uses put for the type variable: int for the first, bool for the second
abbrev pub put_types : ℕ → Refineds
put_types zero = more (int_with []) none
put_types (suc i) = more (bool_with []) none

-- with a template `x:'a -> 'a`
abbrev pub general_basis : Basis
general_basis = record {
  setting = example_basis.setting;
  constructors_of = example_basis.constructors_of;
  equations = example_basis.equations;
  template = template_at (function (Some 31) (type_variable 0) (type_variable 0) ∷ []);
  type_arguments = put_types;
}

abbrev pub general_points : Points
general_points =
    record { point = λ p. erased (general_basis.template p); type_arguments = λ i. all_erased (general_basis.type_arguments i) }

-- `id` with the i-th types
abbrev pub id_at : ℕ → Pure
id_at i = use_of record { name = 30; type_arguments = Some i }

-- the function, in whose body `x` has the type variable for its type
abbrev pub id_block : Block
id_block = last (at 2) (fun 0 31 (last (at 3) (pure (variable 31))))

abbrev pub uses_block : Block
uses_block =
    binding 32 (at 4) (call (id_at 0) (amount 3))
    (binding 33 (at 5) (call (id_at 1) (compare op.Lt (variable 32) (amount 5)))
    (last (at 6) (if_else 1 (variable 33) (last (at 7) (print (variable 32))) (last (at 8) (print (amount 0))))))

abbrev pub general_program : Program
general_program = define 30 (at 1) 0 id_block (run_unit uses_block no_items)

-- ---- the conditions

abbrev pub GeneralExampleHasAll : Type 0
GeneralExampleHasAll =
    IsScene (scene_of general_basis no_instances objects_by_length) × KnowsLengths objects_by_length × AreTemplates general_basis general_points
    × HasProgram general_basis general_points [] general_program × Checks general_basis no_instances [] general_program
    × IsScopedProgram general_basis no_instances objects_by_length no_symbols [] general_program

abbrev pub GeneralExampleIsSafe : Type 0
GeneralExampleIsSafe = IsSafe (items_core general_program)

-- what `id` gives of a number as a condition: let () = let b = id 3 in if b then print_int 1 else print_int 0
abbrev pub mistaken_program : Program
mistaken_program =
    define 30 (at 1) 0 id_block
    (run_unit
    (binding 33 (at 4) (call (id_at 1) (amount 3))
    (last (at 5) (if_else 1 (variable 33) (last (at 6) (print (amount 1))) (last (at 7) (print (amount 0))))))
    no_items)

abbrev pub MistakenIsUnsafe : Type 0
MistakenIsUnsafe = IsSafe (items_core mistaken_program) → ⊥
