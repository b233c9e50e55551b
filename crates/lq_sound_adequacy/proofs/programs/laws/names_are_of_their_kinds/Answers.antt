use Rattle.lq_sound_adequacy.proofs.ProgramsLemmas.Names.{names_kinds}
use Rattle.lq_sound_adequacy.proofs.programs.laws.names_are_of_their_kinds.Goals as goal

pub returns : goal.returns
returns c = names_kinds c.templates_are_of_points.ensures c.simple_types_are_given.ensures
