use Rattle.lq_text_front.proofs.TreesLemmas.Parsed.{are-small}
use Rattle.lq_text_front.proofs.trees.laws.parsed_programs_are_small.Goals as goal

pub returns : goal.returns
returns c = are-small c.same_trees.ensures.programs
