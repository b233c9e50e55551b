use Rattle.std.proofs.Common.{◌≡◌, All, false, take}
use Rattle.lq_prover_search.specs.Path.SearchPath.{choices_of}
use Rattle.lq_prover_search.specs.declared.path.choice.Choice.{Choice}
use Rattle.lq_prover_search.proofs.search.search_path.open_all.Given as goal

abbrev pub invariant-loop-at : goal.invariant-loop-at
invariant-loop-at l = record {
  members : choices_of l.choices.items ≡ choices_of l.fn.choices.items;
  open_still : All (λ (c : Choice). c.is_done ≡ false) (take l.at l.choices.items);
}
