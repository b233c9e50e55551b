use Rattle.std.proofs.Common.{ℕ, ◌<◌}
use Rattle.lq_logic_predicates.specs.TableView.{terms_of}
use Rattle.lq_cases_engines.specs.Engines.Askable.{EarlierFit}
use Rattle.lq_cases_engines.proofs.engines.askable.pairs_fit.Given as goal

abbrev pub invariant-loop-at : goal.invariant-loop-at
invariant-loop-at l = (n : ℕ) → n < l.at → EarlierFit (terms_of l.terms) n n
