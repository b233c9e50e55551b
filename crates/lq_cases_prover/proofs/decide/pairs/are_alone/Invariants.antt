use Rattle.std.proofs.Common.{ℕ, ◌<◌}
use Rattle.lq_cases_prover.specs.Decide.Pairs.{IsAlone}
use Rattle.lq_logic_predicates.specs.TableView.{terms_of}
use Rattle.lq_cases_prover.proofs.decide.pairs.are_alone.Given as goal

abbrev pub invariant-loop-at : goal.invariant-loop-at
invariant-loop-at l = (k : ℕ) → k < l.at → IsAlone (terms_of l.table) k
