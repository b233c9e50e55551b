use Rattle.lq_text_front.proofs.TreesLemmas.Parsed.{have-places}
use Rattle.lq_text_front.proofs.trees.laws.parsed_programs_have_places.Goals as goal

pub returns : goal.returns
returns c = have-places c.same_trees.ensures.programs
