-- Two applications of one operation, and the ways in which they stand as readings.
use Rattle.std.specs.Prelude.{◌≡◌, ◌<◌, ◌≤◌, ℕ, List, [], ◌∷◌, Some, All, Contains, map, slice_get, take}
use Rattle.std.specs.List.{filter}
use Rattle.lq_prover_proof_tree.specs.Trees.Path.{numbered_at}
use Rattle.lq_prover_proof_tree.specs.Trees.Proves.{ApplyTwo, AreRowsOf, five_ways}
use Rattle.lq_logic_rows.specs.Row.{Row}
use Rattle.lq_prover_proof_tree.specs.Literals.Gathered.{sizes}
use Rattle.lq_prover_proof_tree.specs.Literals.Parts.{is_application, places_from}
use Rattle.lq_logic_predicates.specs.Comparison.{CanGather, Comparison, IsRowOf}
use Rattle.lq_logic_predicates.specs.Literals.{all_pairs, below_row, equal_row}
use Rattle.lq_logic_predicates.specs.NnfView.{nnfs_view, readings_of}
use Rattle.lq_logic_predicates.specs.Reading.{Reading, row, all_of, Readings, none, more}
use Rattle.lq_logic_predicates.specs.Sum.{Sum}
use Rattle.lq_logic_predicates.specs.Table.{numbered}
use Rattle.lq_logic_predicates.specs.TermView.{sum_of}
use Rattle.lq_prover_search.specs.Search.Operations.{operation_of}
use Rattle.lq_prover_search.specs.Search.Sizes.{most_of_each}
use Rattle.lq_prover_search.specs.declared.search.applied.Operation.{Operation}
use Rattle.lq_prover_search.specs.declared.search.pair.Pair.{Pair}

-- the row of a comparison
pub record IsRowReading (terms : List Sum) (c : Comparison) (reading : Reading Row) : Type 0 where
  pub line : Row
  pub is : reading ≡ row line
  pub are : IsRowOf terms c line

-- the terms have two arguments, the application and all that is numbered in them
pub record IsNumbered (terms : List Sum) (s a b : Sum) : Type 0 where
  pub whole : numbered terms s ≡ terms
  pub left : numbered terms a ≡ terms
  pub right : numbered terms b ≡ terms

-- the rows on two applications can be gathered
pub record CanPair (s a b t c d : Sum) : Type 0 where
  pub equal_left : CanGather (equal_row a c)
  pub equal_right : CanGather (equal_row b d)
  pub equal_results : CanGather (equal_row s t)
  pub left_below : CanGather (below_row a c)
  pub left_above : CanGather (below_row c a)
  pub right_below : CanGather (below_row b d)
  pub right_above : CanGather (below_row d b)

-- the arguments and the results are equal
abbrev pub equal_rows : Sum → Sum → Sum → Sum → Sum → Sum → List Comparison
equal_rows s a b t c d = equal_row a c ∷ (equal_row b d ∷ (equal_row s t ∷ []))

-- one row alone, or all of some
abbrev pub reading_of_rows : List Row → Reading Row
reading_of_rows (r ∷ []) = row r
reading_of_rows rs = all_of (readings_of (map row rs))

-- the rows of these comparisons
pub record IsWay (terms : List Sum) (cs : List Comparison) (reading : Reading Row) : Type 0 where
  pub rows : List Row
  pub is : reading ≡ reading_of_rows rows
  pub are : AreRowsOf terms cs rows

-- for each list of comparisons its rows
abbrev pub AreWays : List Sum → List (List Comparison) → Readings Row → Type 0
AreWays terms [] none = Unit {0}
AreWays terms (cs ∷ ways) (more r rs) = IsWay terms cs r × AreWays terms ways rs
AreWays terms [] (more r rs) = ⊥
AreWays terms (cs ∷ ways) none = ⊥

-- the applications among the terms, numbered from 1
abbrev pub application_at : List Sum → ℕ → Sum → Type 0
application_at terms k s = numbered_at (filter is_application terms) k ≡ Some s

-- two applications of one of `*`, `/` and `mod`, and the five ways in which they stand
pub record IsPair (terms : List Sum) (pair : Pair) : Type 0 where
  pub first : Sum
  pub first_left : Sum
  pub first_right : Sum
  pub second : Sum
  pub second_left : Sum
  pub second_right : Sum
  pub is_first : application_at terms pair.left first
  pub is_second : application_at terms pair.right second
  pub apply : ApplyTwo first first_left first_right second second_left second_right
  pub ways : AreWays terms (five_ways first first_left first_right second second_left second_right) (nnfs_view pair.ways)

-- a pair of the two of these numbers is there
pub record HasPair (pairs : List Pair) (i j : ℕ) : Type 0 where
  pub pair : Pair
  pub among : Contains pairs pair
  pub is_left : pair.left ≡ i
  pub is_right : pair.right ≡ j

-- the operation that an application is, by its place among the applications
pub record IsOperationAt (terms : List Sum) (k : ℕ) (o : Operation) : Type 0 where
  pub place : ℕ
  pub is_place : slice_get (places_from 0 terms) k ≡ Some place
  pub here : slice_get terms place ≡ Some (sum_of o.term.now)
  pub is : operation_of (sum_of o.term.now) ≡ Some (o.operator, sum_of o.left.now, sum_of o.right.now)

-- the first application of each pair is the earlier one
abbrev pub AreOrdered : List Pair → Type 0
AreOrdered pairs = All (λ pair. pair.left < pair.right) pairs

-- each is a pair, and each two applications of one of `*`, `/` and `mod` are there, the later one among the first n; of each pair one way
-- adds no more, in all, than the sizes of the rows on the first n
pub record ArePairsUpTo (terms : List Sum) (n : ℕ) (pairs : List Pair) : Type 0 where
  pub each : All (IsPair terms) pairs
  pub ordered : AreOrdered pairs
  pub sizes_are : most_of_each (map (λ pair. nnfs_view pair.ways) pairs) ≤ sizes (all_pairs (take n (filter is_application terms)))
  pub all : (i j : ℕ) (s a b t c d : Sum) → i < j → j ≤ n → application_at terms i s → application_at terms j t → ApplyTwo s a b t c d → HasPair pairs i j

-- each is a pair, and each two applications of one of `*`, `/` and `mod` are there
pub record AreAllPairs (terms : List Sum) (pairs : List Pair) : Type 0 where
  pub each : All (IsPair terms) pairs
  pub all : (i j : ℕ) (s a b t c d : Sum) → i < j → application_at terms i s → application_at terms j t → ApplyTwo s a b t c d → HasPair pairs i j
