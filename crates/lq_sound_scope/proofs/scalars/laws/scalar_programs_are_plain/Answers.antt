use Rattle.lq_sound_scope.proofs.ScalarsLemmas.Programs.{scalar_plain}
use Rattle.lq_sound_scope.proofs.scalars.laws.scalar_programs_are_plain.Goals as goal

pub returns : goal.returns
returns c =
    scalar_plain c.types_over_names_are_over_them.ensures c.names_are_kept.ensures c.recursions_are_over_environments.ensures
    c.simple_types_are_given.ensures c.matrices_are_sorted.ensures c.arguments_lack_fields.ensures
