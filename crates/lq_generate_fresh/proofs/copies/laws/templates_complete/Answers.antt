use Rattle.lq_generate_fresh.proofs.CopiesLemmas.Copies.{fresh_completed}
use Rattle.lq_generate_fresh.proofs.copies.laws.templates_complete.Goals as goal

pub returns : goal.returns
returns c = fresh_completed
