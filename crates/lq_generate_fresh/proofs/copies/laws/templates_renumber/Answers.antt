use Rattle.lq_generate_fresh.proofs.CopiesLemmas.Copies.{fresh_renumbered}
use Rattle.lq_generate_fresh.proofs.copies.laws.templates_renumber.Goals as goal

pub returns : goal.returns
returns c = fresh_renumbered
