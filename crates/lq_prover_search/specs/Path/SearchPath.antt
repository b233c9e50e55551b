-- What the path of a search is.
use Rattle.std.specs.Prelude.{◌≡◌, ℕ, pos, List, ◌++◌, map, Option, Some, None, slice_get}
use Rattle.lq_prover_case.specs.State.PathState.{PathState, facts_in}
use Rattle.lq_prover_case.specs.State.RowState.{terms_of}
use Rattle.lq_prover_proof_tree.specs.Trees.Path.{Fact, never, Path, numbered_at}
use Rattle.lq_prover_proof_tree.specs.Trees.Proves.{Clashes}
use Rattle.lq_prover_proof_tree.specs.Trees.Tree.{Clash, Tree, absurdity, leaf}
use Rattle.lq_logic_rows.specs.Row.{Row}
use Rattle.lq_logic_predicates.specs.NnfView.{nnfs_view}
use Rattle.lq_logic_predicates.specs.Reading.{Readings}
use Rattle.lq_logic_predicates.specs.Sum.{Sum, whole}
use Rattle.lq_prover_search.specs.declared.path.choice.Choice.{Choice}

abbrev pub term_or : Option Sum → Sum
term_or (Some t) = t
term_or None = whole (pos 0)

-- the object of this number
abbrev pub name_in : List Sum → ℕ → Sum
name_in objects k = term_or (slice_get objects k)

abbrev pub choices_of : List Choice → List (Readings Row)
choices_of = map (λ c. nnfs_view c.members.now)

-- the facts and the choices, over the objects by their numbers
abbrev pub path_by : List Sum → PathState → List Choice → Path
path_by objects state choices = record { facts = facts_in (name_in objects) state; choices = choices_of choices }

-- the facts and choices of the first stand first in the second
pub record Begins (p q : Path) : Type 0 where
  pub facts : List Fact
  pub choices : List (Readings Row)
  pub are_facts : q.facts ≡ p.facts ++ facts
  pub are_choices : q.choices ≡ p.choices ++ choices

-- a fact that never holds, or facts that clash
pub data IsLeafOf (p : Path) : Tree → Type 0 where
  by_never : (t : ℕ) → numbered_at p.facts t ≡ Some never → IsLeafOf p (absurdity t)
  by_facts : (c : Clash) → Clashes p.facts c → IsLeafOf p (leaf c)

-- as many terms, pivots and objects
abbrev pub SameLimits : PathState → PathState → Type 0
SameLimits s t = (terms_of s.rows ≡ terms_of t.rows) × (s.rows.pivots ≡ t.rows.pivots) × (s.objects.count ≡ t.objects.count)
