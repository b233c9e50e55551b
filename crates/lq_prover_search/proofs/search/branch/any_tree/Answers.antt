use Rattle.std.proofs.Common.{subst}
use Rattle.lq_prover_search.specs.Search.Branches.{SplitProves}
use Rattle.lq_prover_search.proofs.SearchLemmas.Nodes.{any_proves}
use Rattle.lq_prover_search.proofs.search.branch.any_tree.Goals as goal

pub returns-in-Each : goal.returns-in-Each
returns-in-Each c = λ n p members e h. any_proves n p c.args.at members c.in-Each.trees e (subst (SplitProves n p members) c.in-Each.is h)
