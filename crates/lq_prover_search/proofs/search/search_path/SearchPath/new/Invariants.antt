use Rattle.std.proofs.Common.{◌≡◌, All, false, take}
use Rattle.lq_prover_search.specs.Path.SearchPath.{choices_of}
use Rattle.lq_prover_search.specs.declared.path.choice.Choice.{Choice}
use Rattle.lq_prover_search.specs.Search.SearchPath.{ways_of}
use Rattle.lq_prover_search.proofs.search.search_path.SearchPath.new.Given as goal

abbrev pub invariant-loop-pair : goal.invariant-loop-pair
invariant-loop-pair l = record {
  members : choices_of l.ways.items ≡ ways_of (take l.pair-index l.pairs);
  open_still : All (λ (c : Choice). c.is_done ≡ false) l.ways.items;
}
