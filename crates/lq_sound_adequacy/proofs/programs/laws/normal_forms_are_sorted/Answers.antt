use Rattle.lq_sound_adequacy.proofs.ProgramsLemmas.Programs.{programs_sorted}
use Rattle.lq_sound_adequacy.proofs.programs.laws.normal_forms_are_sorted.Goals as goal

pub returns : goal.returns
returns c =
    programs_sorted c.templates_are_sorted.ensures c.program_points_are_sorted.ensures c.names_are_of_their_kinds.ensures c.definitions_are_fixed.ensures
    c.normal_forms_are_posed.ensures
