use Rattle.lq_sound_adequacy.proofs.SubtypingsLemmas.Normal.{normal_posed}
use Rattle.lq_sound_adequacy.proofs.subtypings.laws.normal_forms_are_posed.Goals as goal

pub returns : goal.returns
returns c =
    normal_posed c.templates_are_in_scope.ensures c.scopes_are_of_unknowns.ensures c.templates_are_of_points.ensures c.what_is_read_is_typed.ensures
    c.templates_are_written.ensures c.definitions_are_nameless.ensures
