-- The path of a search: what always holds of it, and when nothing is left to split.
use Rattle.std.specs.Prelude.{◌≡◌, ℕ, true, false, Bool, List, ◌++◌, All, Some, length, map, slice_get, slice_set}
use Rattle.lq_prover_case.specs.State.PathState.{AllFlagsHold, NoObjectsClash, PathState, facts_in, objects_in}
use Rattle.lq_prover_case.specs.State.RowState.{is_solved, row_point, terms_of as row_terms}
use Rattle.lq_prover_proof_tree.specs.Trees.Met.{AllHold}
use Rattle.lq_prover_proof_tree.specs.Trees.Path.{Fact, Path, taken}
use Rattle.lq_prover_proof_tree.specs.Trees.Proves.{rows_among}
use Rattle.lq_prover_case.specs.Equations.Equating.{AreEquated, Grows}
use Rattle.lq_prover_case.specs.Equations.Naming.{AllTold, HasAllArguments, name_in, objects_of}
use Rattle.lq_logic_rows.specs.Contradiction.{Solves}
use Rattle.lq_logic_rows.specs.Row.{Row, Valuation}
use Rattle.lq_prover_search.specs.Path.Meeting.{IsAt}
use Rattle.lq_prover_search.specs.Path.SearchPath.{Begins, SameLimits, choices_of}
use Rattle.lq_prover_search.specs.declared.path.choice.Choice.{Choice}
use Rattle.lq_logic_predicates.specs.NnfView.{nnfs_view}
use Rattle.lq_logic_predicates.specs.Points.{Point}
use Rattle.lq_logic_predicates.specs.Reading.{Reading, Readings}
use Rattle.lq_logic_predicates.specs.RowMeaning.{MeetsAnyRow, MeetsRows}
use Rattle.lq_logic_predicates.specs.Sum.{Sum}
use Rattle.lq_logic_predicates.specs.TableView.{terms_of}
use Rattle.lq_prover_search.specs.Search.Pairs.{IsPair}
use Rattle.lq_prover_search.specs.Search.Parts.{AddsOpen}
use Rattle.lq_prover_search.specs.Search.Scope.{AllMayHold, AreWithin, Scope}
use Rattle.lq_prover_search.specs.Search.Splits.{IsDoneOrMet}
use Rattle.lq_prover_search.specs.declared.search.givens.Givens.{Givens}
use Rattle.lq_prover_search.specs.declared.search.pair.Pair.{Pair}
use Rattle.lq_prover_search.specs.declared.search.search_path.SearchPath.{SearchPath}

abbrev pub scope_of : Givens → Scope
scope_of g = record { terms = terms_of g.terms.now; objects = objects_of g.objects.now; flags = g.flags.now.keys }

abbrev pub ways_of : List Pair → List (Readings Row)
ways_of = map (λ pair. nnfs_view pair.ways)

-- what is known of the givens
pub record AreGiven (s : Scope) (pairs : List Pair) : Type 0 where
  pub arguments : HasAllArguments s.objects s.terms
  pub each : All (IsPair s.terms) pairs
  pub within : All (λ pair. AreWithin s (nnfs_view pair.ways)) pairs

-- the facts, over a list of objects
abbrev pub facts_of : Scope → SearchPath → List Fact
facts_of s p = facts_in (name_in s.objects) p.state

abbrev pub path_of : Scope → SearchPath → Path
path_of s p = record { facts = facts_of s p; choices = choices_of p.choices.items }

-- a member of a choice is met
abbrev pub IsMet : Valuation → Point → Choice → Type 0
IsMet v p c = MeetsAnyRow v p (nnfs_view c.members.now)

-- Where all facts hold, and of each choice and each pair a member is met or was taken, a member of each is met.
pub record AreMet (v : Valuation) (p : Point) (choices pairs : List Choice) : Type 0 where
  pub choices_are : All (IsMet v p) choices
  pub pairs_are : All (IsMet v p) pairs

abbrev pub IsCovered : (Valuation → Point → Type 0) → List Fact → List Choice → List Choice → Type 0
IsCovered given facts choices pairs =
    (v : Valuation) (p : Point) → given v p → AllHold v p facts → All (IsDoneOrMet v p) choices → All (IsDoneOrMet v p) pairs → AreMet v p choices pairs

-- what holds of the path of a search where something is given
pub record IsReadyWhen (given : Valuation → Point → Type 0) (s : Scope) (pairs : List Pair) (p : SearchPath) : Type 0 where
  pub terms_are : row_terms p.state.rows ≡ length s.terms
  pub count : p.state.objects.count ≡ length s.objects
  pub may_hold : AllMayHold (facts_of s p)
  pub choices_in : All (λ c. AreWithin s (nnfs_view c.members.now)) p.choices.items
  pub pairs_are : choices_of p.pairs.items ≡ ways_of pairs
  pub told : AllTold s.objects (objects_in p.state) (facts_of s p)
  pub covered : IsCovered given (facts_of s p) p.choices.items p.pairs.items

-- nothing more is given
abbrev pub Always : Valuation → Point → Type 0
Always v p = Unit {0}

-- what always holds of the path of a search
abbrev pub IsReady : Scope → List Pair → SearchPath → Type 0
IsReady s pairs p = IsReadyWhen Always s pairs p

-- what holds where one of some readings is met, and where one reading is met
abbrev pub IsReadyForAny : Readings Row → Scope → List Pair → SearchPath → Type 0
IsReadyForAny rs s pairs p = IsReadyWhen (λ v q. MeetsAnyRow v q rs) s pairs p

abbrev pub IsReadyFor : Reading Row → Scope → List Pair → SearchPath → Type 0
IsReadyFor r s pairs p = IsReadyWhen (λ v q. MeetsRows v q r) s pairs p

-- the path begins with the facts and choices of the old one, and has its pairs
pub record IsLonger (old new : SearchPath) : Type 0 where
  pub facts : (name : ℕ → Sum) → Grows (facts_in name old.state) (facts_in name new.state)
  pub more : List Choice
  pub choices_are : new.choices.items ≡ old.choices.items ++ more
  pub pairs_are : new.pairs.items ≡ old.pairs.items
  pub limits : SameLimits new.state old.state

-- the path has what the reading adds behind its facts and choices, no member was taken of the choices, and the pairs stay
pub record IsTaken (s : Scope) (r : Reading Row) (old new : SearchPath) : Type 0 where
  pub path : path_of s new ≡ taken (path_of s old) r
  pub adds : AddsOpen old.choices.items new.choices.items
  pub pairs_are : new.pairs.items ≡ old.pairs.items
  pub limits : SameLimits new.state old.state

-- facts, choices and pairs are as before
pub record IsBack (old new : SearchPath) : Type 0 where
  pub facts : (name : ℕ → Sum) → facts_in name new.state ≡ facts_in name old.state
  pub choices_are : new.choices.items ≡ old.choices.items
  pub pairs_are : new.pairs.items ≡ old.pairs.items
  pub limits : SameLimits new.state old.state

-- the facts have more behind them at most, and the limits are as before
pub record KeepsFacts (old new : PathState) : Type 0 where
  pub facts : (name : ℕ → Sum) → Grows (facts_in name old) (facts_in name new)
  pub limits : SameLimits new old

-- no member of a choice and no way of a pair was taken
pub record AreAllOpen (p : SearchPath) : Type 0 where
  pub choices_are : All (λ c. c.is_done ≡ false) p.choices.items
  pub pairs_are : All (λ c. c.is_done ≡ false) p.pairs.items

-- Values solve the rows, no flags and no objects clash, lengths and measures of one object are equal, and of each choice and each pair a member
-- was taken or is met where flags and objects are as the facts say.
pub record IsSettled (s : Scope) (pairs : List Pair) (p : SearchPath) : Type 0 where
  pub ready : IsReady s pairs p
  pub solved : is_solved p.state.rows ≡ true
  pub solves : Solves (row_point p.state.rows) (rows_among (facts_of s p))
  pub flags : AllFlagsHold p.state.flags (facts_of s p)
  pub apart : NoObjectsClash p.state
  pub equated : AreEquated s.objects s.terms (objects_in p.state) (facts_of s p)
  pub choices_met : (q : Point) → IsAt s.objects p.state q → All (IsDoneOrMet (row_point p.state.rows) q) p.choices.items
  pub pairs_met : (q : Point) → IsAt s.objects p.state q → All (IsDoneOrMet (row_point p.state.rows) q) p.pairs.items

-- a path became another that begins with its facts and choices, and nothing is left to split
pub record EndsMet (s : Scope) (pairs : List Pair) (path : Path) (new : SearchPath) : Type 0 where
  pub begins : Begins path (path_of s new)
  pub settled : IsSettled s pairs new

-- the choice at a place says whether a member of it was taken, and the others stay
pub record SetsDone (old : List Choice) (at : ℕ) (is_done : Bool) (new : List Choice) : Type 0 where
  pub choice : Choice
  pub here : slice_get old at ≡ Some choice
  pub is : new ≡ slice_set old at (record { members = choice.members; is_done = is_done })
