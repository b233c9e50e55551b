use Rattle.std.proofs.Common.{pos, [], ◌∷◌}
use Rattle.lq_sound_programs.proofs.SafetyLemmas.Example.{has_all}
use Rattle.lq_sound_programs.proofs.safety.laws.an_example_is_safe.Goals as goal
use Rattle.lq_sound_programs.specs.Safety.Example.{example_basis, example_points, example_program, no_instances, objects_by_length}

pub returns-clause-conditions : goal.returns-clause-conditions
returns-clause-conditions c = has_all

pub returns-clause-safe : goal.returns-clause-safe
returns-clause-safe c =
    c.checks_are_safe.ensures example_basis no_instances objects_by_length has_all.0 has_all.1 example_points has_all.2 example_program has_all.3 has_all.4 has_all.5

-- on the input 100
pub returns-clause-unguarded : goal.returns-clause-unguarded
returns-clause-unguarded c = λ safe. safe (pos 100 ∷ []) 20
