use Rattle.lq_sound_adequacy.proofs.SubtypingsLemmas.Programs.{obligations_bound}
use Rattle.lq_sound_adequacy.proofs.subtypings.laws.obligations_are_bound.Goals as goal

pub returns : goal.returns
returns c = obligations_bound c.types_over_names_are_over_them.ensures c.names_are_kept.ensures c.simple_types_are_given.ensures
