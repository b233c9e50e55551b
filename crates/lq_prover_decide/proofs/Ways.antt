-- The rows of a way that the facts of a case hold.
use Rattle.std.proofs.Common.{List, [], ◌∷◌, All, Contains}
use Rattle.std.proofs.lemmas.List.Elements.{All-cons, All-contains, All-nil}
use Rattle.lq_prover_proof_tree.specs.Trees.Met.{AllHold, FactHolds}
use Rattle.lq_prover_proof_tree.specs.Trees.Path.{Fact, row_fact}
use Rattle.lq_prover_proof_tree.specs.Trees.Proves.{AreRowsOf}
use Rattle.lq_prover_proof_tree.proofs.TreesLemmas.Comparing.{AllCompare}
use Rattle.lq_logic_rows.specs.Row.{Row, RowHolds, Valuation}
use Rattle.lq_logic_predicates.specs.Comparison.{Comparison, IsRowOf}
use Rattle.lq_logic_predicates.specs.Points.{ComparisonHolds, Point}
use Rattle.lq_logic_predicates.specs.Sum.{Sum}
use Rattle.lq_prover_decide.specs.Deciding.{AreFacts}

all_from_hold : (v : Valuation) (p : Point) (facts : List Fact) → AllHold v p facts → All (FactHolds v p) facts
all_from_hold v p [] h = All-nil (FactHolds v p)
all_from_hold v p (f ∷ facts) h = All-cons (FactHolds v p) f facts h.0 (all_from_hold v p facts h.1)

row_holds : (v : Valuation) (p : Point) (facts : List Fact) (r : Row) → AllHold v p facts → Contains facts (row_fact r) → RowHolds v r
row_holds v p facts r h among = All-contains (FactHolds v p) facts (row_fact r) (all_from_hold v p facts h) among

pub compare_all : (terms : List Sum) (v : Valuation) (p : Point) → ((c : Comparison) (r : Row) → IsRowOf terms c r → RowHolds v r → ComparisonHolds p c) → (facts : List Fact) → AllHold v p facts
    → (cs : List Comparison) (rs : List Row) → AreRowsOf terms cs rs → AreFacts facts rs → AllCompare p cs
compare_all terms v p says facts h [] [] a f = tt
compare_all terms v p says facts h (c ∷ cs) (r ∷ rs) a f = (says c r a.0 (row_holds v p facts r h f.0), compare_all terms v p says facts h cs rs a.1 f.1)
compare_all terms v p says facts h [] (r ∷ rs) a f = absurd a
compare_all terms v p says facts h (c ∷ cs) [] a f = absurd a
