-- When a search stops: as an engine may on rows that it may take.
use Rattle.std.specs.Prelude.{◌≡◌, ◌⊎◌, ◌<◌, ◌≤◌, ◌+◌, ◌^◌, ℕ, List, [], ◌∷◌, All, Some, if◌then◌else◌, length, slice_get}
use Rattle.lq_prover_case.specs.State.PathState.{HandsMore, HasHanded, HasStops}
use Rattle.lq_prover_case.specs.State.RowState.{terms_of}
use Rattle.lq_prover_proof_tree.specs.Trees.Path.{Fact, Path, row_fact, taken}
use Rattle.lq_prover_proof_tree.specs.Trees.Proves.{rows_among}
use Rattle.lq_prover_differences.specs.Table.{constants}
use Rattle.lq_prover_case.specs.Equations.Equating.{AreOneFunction, equation}
use Rattle.lq_logic_rows.specs.Row.{Row}
use Rattle.lq_logic_rows.specs.declared.engine.LinearStop.{LinearStop}
use Rattle.lq_logic_rows.specs.declared.engine.LinearStop.TheVariants.{Number, Pivots, Memory}
use Rattle.lq_prover_search.specs.declared.path.choice.Choice.{Choice}
use Rattle.lq_logic_predicates.specs.NnfView.{nnfs_view}
use Rattle.lq_logic_predicates.specs.Reading.{Reading, yes, no, row, flag_is, objects_are, all_of, any_of, Readings, none, more}
use Rattle.lq_logic_predicates.specs.Sum.{Sum}
use Rattle.lq_prover_search.specs.Search.Scope.{Scope}
use Rattle.lq_prover_search.specs.Search.SearchPath.{KeepsFacts, facts_of, path_of, ways_of}
use Rattle.lq_prover_search.specs.Search.Sizes.{most, most_of_any, row_size}
use Rattle.lq_prover_search.specs.declared.search.pair.Pair.{Pair}
use Rattle.lq_prover_search.specs.declared.search.search_path.SearchPath.{SearchPath}

-- ---- rows

-- the row is a literal of the reading
abbrev mutual
  pub HasRow : Row → Reading Row → Type 0
  HasRow r yes = ⊥
  HasRow r no = ⊥
  HasRow r (row q) = q ≡ r
  HasRow r (flag_is x sign) = ⊥
  HasRow r (objects_are a b sign) = ⊥
  HasRow r (all_of rs) = AnyHasRow r rs
  HasRow r (any_of rs) = AnyHasRow r rs

  pub AnyHasRow : Row → Readings Row → Type 0
  AnyHasRow r none = ⊥
  AnyHasRow r (more q rs) = HasRow r q ⊎ AnyHasRow r rs

-- The rows that a search may take on a path: those of its facts, of its choices and of the ways of pairs, and that two terms are equal which
-- apply one function, a length or a measure.
pub data MayTake (terms : List Sum) (path : Path) (ways : List (Readings Row)) (r : Row) : Type 0 where
  of_fact : (k : ℕ) → slice_get path.facts k ≡ Some (row_fact r) → MayTake terms path ways r
  of_choice : (k : ℕ) (members : Readings Row) → slice_get path.choices k ≡ Some members → AnyHasRow r members → MayTake terms path ways r
  of_way : (k : ℕ) (members : Readings Row) → slice_get ways k ≡ Some members → AnyHasRow r members → MayTake terms path ways r
  of_equation : (p : ℕ × ℕ) → AreOneFunction terms p → r ≡ equation p → MayTake terms path ways r

-- ---- sizes

-- of choices, where only those count of which no member was taken
abbrev pub choice_most : Choice → ℕ
choice_most c = if c.is_done then 0 else most_of_any row_size (nnfs_view c.members.now)

abbrev pub most_open : List Choice → ℕ
most_open [] = 0
most_open (c ∷ cs) = choice_most c + most_open cs

-- the most that the sizes of the constants of rows sum to that stand on a path when it is searched
abbrev pub most_on : Scope → SearchPath → ℕ
most_on s p = constants (rows_among (facts_of s p)) + (most_open p.choices.items + most_open p.pairs.items)

-- ---- stops

-- facts to which a search may come on the path, whose rows' constants have sizes that sum to at most n
pub record MayReach (terms : List Sum) (path : Path) (ways : List (Readings Row)) (n : ℕ) (facts : List Fact) : Type 0 where
  pub each : All (λ r. MayTake terms path ways r.1) (rows_among facts)
  pub sizes : constants (rows_among facts) ≤ n

-- a stop of an engine on such facts, fewer than 2^64, over so many terms and with this limit on pivots; the tableau was ever handed some rows,
-- and then rows that the search may take
pub record StopsOn (terms : List Sum) (count limit : ℕ) (ever : List Row) (path : Path) (ways : List (Readings Row)) (n : ℕ) (stop : LinearStop) : Type 0 where
  pub facts : List Fact
  pub few : length facts < 2 ^ 64
  pub reached : MayReach terms path ways n facts
  pub stops : HasStops count limit ever (MayTake terms path ways) facts stop

-- want of memory, or a stop of an engine
abbrev pub StopsSearch : List Sum → ℕ → ℕ → List Row → Path → List (Readings Row) → ℕ → LinearStop → Type 0
StopsSearch terms count limit ever path ways n Memory = Unit {0}
StopsSearch terms count limit ever path ways n (Number e) = StopsOn terms count limit ever path ways n (Number e)
StopsSearch terms count limit ever path ways n (Pivots k) = StopsOn terms count limit ever path ways n (Pivots k)

-- a search with a reading, from one path: a stop, whatever rows the tableau was handed before, the rows that are handed to it besides, and the
-- facts with which it ends
abbrev pub StopsFrom : Reading Row → Scope → List Pair → SearchPath → LinearStop → Type 0
StopsFrom r s pairs p stop =
    (ever : List Row) → HasHanded p.state ever
    → StopsSearch s.terms (terms_of p.state.rows) p.state.rows.pivots ever (taken (path_of s p) r) (ways_of pairs) (most_on s p + most row_size r) stop

abbrev pub HandsFrom : Reading Row → Scope → List Pair → SearchPath → SearchPath → Type 0
HandsFrom r s pairs p q = HandsMore (MayTake s.terms (taken (path_of s p) r) (ways_of pairs)) p.state q.state

-- the rows that were handed until then, and the facts of the path, which are kept
pub record ReachesFrom (r : Reading Row) (s : Scope) (pairs : List Pair) (p q : SearchPath) : Type 0 where
  pub kept : KeepsFacts p.state q.state
  pub facts : MayReach s.terms (taken (path_of s p) r) (ways_of pairs) (most_on s p + most row_size r) (facts_of s q)
  pub handed : HandsFrom r s pairs p q
