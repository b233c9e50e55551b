use Rattle.lq_sound_scope.proofs.ScalarsLemmas.Normal.{normal_plain}
use Rattle.lq_sound_scope.proofs.scalars.laws.scalar_normal_forms_are_plain.Goals as goal

pub returns : goal.returns
returns c =
    normal_plain c.templates_are_in_scope.ensures c.scopes_are_of_unknowns.ensures c.templates_are_of_points.ensures c.what_is_read_is_typed.ensures
    c.templates_are_written.ensures c.scalar_programs_are_plain.ensures
