use Rattle.std.specs.Prelude.{◌++◌, refl}
use Rattle.lq_prover_search.proofs.PruningLemmas.Pruned.{pruned}
use Rattle.lq_prover_search.proofs.pruning.laws.spared_facts_can_go.Goals as goal

pub returns : goal.returns
returns c = λ n f g h c d e facts choices tree fb fc cb ct o p.
    pruned n f g c d facts choices fb fc cb ct h e (record { facts = f ++ (g ++ h); choices = c ++ (d ++ e) }) tree refl o p
