use Rattle.std.proofs.Common.{refl, sym, subst}
use Rattle.lq_prover_search.specs.Search.Splits.{IsOpen}
use Rattle.lq_prover_search.proofs.search.choosing.better.Goals as goal

pub returns : goal.returns
returns c = subst (IsOpen c.args.choices.now) (sym c.rank_of-other.ensures) (c.if-not-is_open.ensures refl)
