use Rattle.std.proofs.Common.{[]}
use Rattle.lq_sound_programs.specs.Safety.DataExample.{data_basis, data_points, data_program, objects_by_size}
use Rattle.lq_sound_programs.specs.Safety.Example.{no_instances}
use Rattle.lq_sound_programs.proofs.SafetyLemmas.DataExample.{has_all}
use Rattle.lq_sound_programs.proofs.safety.laws.data_example_is_safe.Goals as goal

pub returns-clause-conditions : goal.returns-clause-conditions
returns-clause-conditions c = has_all

pub returns-clause-safe : goal.returns-clause-safe
returns-clause-safe c =
    c.checks_are_safe.ensures data_basis no_instances objects_by_size has_all.0 has_all.1 data_points has_all.2 data_program has_all.3 has_all.4 has_all.5

-- on every input
pub returns-clause-incomplete : goal.returns-clause-incomplete
returns-clause-incomplete c = λ safe. safe [] 5
