-- The ways of pairs are over the terms.
use Rattle.std.proofs.Common.{List, [], ◌∷◌, All, length, map, sym, subst}
use Rattle.std.proofs.lemmas.List.Elements.{All-weaker}
use Rattle.lq_prover_proof_tree.specs.Trees.Proves.{AreRowsOf, five_ways}
use Rattle.lq_logic_rows.specs.Row.{Row}
use Rattle.lq_logic_predicates.specs.Comparison.{Comparison}
use Rattle.lq_logic_predicates.specs.NnfView.{nnfs_view, readings_of}
use Rattle.lq_logic_predicates.specs.Reading.{Readings, more, none, row}
use Rattle.lq_prover_search.specs.Search.Pairs.{AreWays, IsPair, reading_of_rows}
use Rattle.lq_prover_search.specs.Search.Scope.{AreWithin, IsWithin, Scope}
use Rattle.lq_prover_search.specs.declared.search.pair.Pair.{Pair}
use Rattle.lq_prover_valid.proofs.Naming.{RowsAreWithin, below}

rows_within : RowsAreWithin → (s : Scope) (cs : List Comparison) (rs : List Row) → AreRowsOf s.terms cs rs → AreWithin s (readings_of (map row rs))
rows_within w s [] [] a = tt
rows_within w s (c ∷ cs) (r ∷ rs) a = (below (length s.terms) r (w s.terms c r a.0), rows_within w s cs rs a.1)
rows_within w s [] (r ∷ rs) a = absurd a
rows_within w s (c ∷ cs) [] a = absurd a

way_within : (s : Scope) (rs : List Row) → AreWithin s (readings_of (map row rs)) → IsWithin s (reading_of_rows rs)
way_within s [] h = tt
way_within s (r ∷ []) h = h.0
way_within s (r ∷ q ∷ rs) h = h

ways_within : RowsAreWithin → (s : Scope) (ways : List (List Comparison)) (rs : Readings Row) → AreWays s.terms ways rs → AreWithin s rs
ways_within w s [] none a = tt
ways_within w s (cs ∷ ways) (more r rs) a =
    (subst (IsWithin s) (sym a.0.is) (way_within s a.0.rows (rows_within w s cs a.0.rows a.0.are)), ways_within w s ways rs a.1)
ways_within w s [] (more r rs) a = absurd a
ways_within w s (cs ∷ ways) none a = absurd a

pair_within : RowsAreWithin → (s : Scope) (pair : Pair) → IsPair s.terms pair → AreWithin s (nnfs_view pair.ways)
pair_within w s pair i = ways_within w s (five_ways i.first i.first_left i.first_right i.second i.second_left i.second_right) (nnfs_view pair.ways) i.ways

pub pairs_within : RowsAreWithin → (s : Scope) (pairs : List Pair) → All (IsPair s.terms) pairs → All (λ (pair : Pair). AreWithin s (nnfs_view pair.ways)) pairs
pairs_within w s pairs h = All-weaker (IsPair s.terms) (λ (pair : Pair). AreWithin s (nnfs_view pair.ways)) (pair_within w s) pairs h
