-- Readings that stand while goals are asked.
use Rattle.std.specs.Prelude.{◌≡◌, ◌≤◌, ℕ, length}
use Rattle.lq_prover_case.specs.State.PathState.{facts_in}
use Rattle.lq_prover_proof_tree.specs.Trees.Path.{Path}
use Rattle.lq_prover_proof_tree.specs.declared.trees.tree.ProofTree.{ProofTree}
use Rattle.lq_logic_rows.specs.Row.{Row}
use Rattle.lq_prover_search.specs.Path.SearchPath.{Begins, SameLimits, choices_of}
use Rattle.lq_logic_predicates.specs.Reading.{Reading}
use Rattle.lq_logic_predicates.specs.Sum.{Sum}
use Rattle.lq_prover_valid.specs.declared.standing.Asked.{Asked}
use Rattle.lq_prover_valid.specs.declared.standing.Asked.TheVariants.{Proved, Open}
use Rattle.lq_prover_valid.specs.declared.standing.Ended.{Ended}
use Rattle.lq_prover_valid.specs.declared.standing.Standing.{Standing}
use Rattle.lq_prover_search.specs.Search.SearchPath.{AreAllOpen, AreGiven, IsReady, KeepsFacts, path_of, scope_of, ways_of}
use Rattle.lq_prover_search.specs.Search.Stopping.{HandsFrom}

-- the path of what stands
abbrev pub path_on : Standing → Path
path_on st = path_of (scope_of st.givens) st.path

-- what always holds: the givens are as a search asks, more can be taken on the path, and nothing was split
pub record IsStanding (st : Standing) : Type 0 where
  pub given : AreGiven (scope_of st.givens) st.givens.pairs.now
  pub ready : IsReady (scope_of st.givens) st.givens.pairs.now st.path
  pub open_still : AreAllOpen st.path

-- the same readings stand after a question, and the tableau was handed more rows, those that the question's search may take
pub record StandsAgain (goal : Reading Row) (old new : Standing) : Type 0 where
  pub standing : IsStanding new
  pub givens : new.givens ≡ old.givens
  pub facts : (name : ℕ → Sum) → facts_in name new.path.state ≡ facts_in name old.path.state
  pub choices : choices_of new.path.choices.items ≡ choices_of old.path.choices.items
  pub limits : SameLimits new.path.state old.path.state
  pub handed : HandsFrom goal (scope_of old.givens) old.givens.pairs.now old.path new.path

-- the path of a question begins with what stood before it, so many facts and choices
pub record BeginsWith (goal : Reading Row) (old : Standing) (ended : Ended) : Type 0 where
  pub givens : ended.givens ≡ old.givens
  pub facts : (name : ℕ → Sum) → ended.before.facts ≡ length (facts_in name old.path.state)
  pub choices : ended.before.choices ≡ length old.path.choices.items
  pub begins : Begins (path_on old) (path_of (scope_of old.givens) ended.path)
  pub pairs : choices_of ended.path.pairs.items ≡ ways_of old.givens.pairs.now
  pub kept : KeepsFacts old.path.state ended.path.state
  pub handed : HandsFrom goal (scope_of old.givens) old.givens.pairs.now old.path ended.path

-- as many facts are there as stood before the question
abbrev pub CanGoBack : Ended → Type 0
CanGoBack ended = (name : ℕ → Sum) → ended.before.facts ≤ length (facts_in name ended.path.state)

-- P holds of the tree and of what stands again, where a tree is the answer
abbrev pub IfProved : Asked → (ProofTree → Standing → Type 0) → Type 0
IfProved (Proved tree st) P = P tree st
IfProved (Open path) P = Unit {0}

-- P holds of the path with which the question ended, where nothing is left to split on it
abbrev pub IfOpen : Asked → (Ended → Type 0) → Type 0
IfOpen (Proved tree st) P = Unit {0}
IfOpen (Open ended) P = P ended
