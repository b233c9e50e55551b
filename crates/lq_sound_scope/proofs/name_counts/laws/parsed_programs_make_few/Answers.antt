use Rattle.lq_sound_scope.proofs.NameCountsLemmas.Few.{make-few}
use Rattle.lq_sound_scope.proofs.name_counts.laws.parsed_programs_make_few.Goals as goal

pub returns : goal.returns
returns c = make-few c.same_trees.ensures.programs c.parsed_programs_are_small.ensures
