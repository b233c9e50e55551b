use Rattle.std.proofs.Common.{[]}
use Rattle.lq_sound_programs.specs.Safety.Example.{no_instances, objects_by_length}
use Rattle.lq_sound_programs.specs.Safety.GeneralExample.{general_basis, general_points, general_program}
use Rattle.lq_sound_programs.proofs.SafetyLemmas.GeneralExample.{has_all}
use Rattle.lq_sound_programs.proofs.safety.laws.general_example_is_safe.Goals as goal

pub returns-clause-conditions : goal.returns-clause-conditions
returns-clause-conditions c = has_all

pub returns-clause-safe : goal.returns-clause-safe
returns-clause-safe c =
    c.checks_are_safe.ensures general_basis no_instances objects_by_length has_all.0 has_all.1 general_points has_all.2 general_program has_all.3 has_all.4 has_all.5

-- on every input
pub returns-clause-mistaken : goal.returns-clause-mistaken
returns-clause-mistaken c = λ safe. safe [] 10
