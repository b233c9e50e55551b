-- Under fewer instances the sizes of rows are no larger.
use Rattle.std.proofs.Common.{◌≡◌, inl, inr, ℕ, zero, suc, ◌<◌, ◌≤◌, arith, refl, sym, subst, get_or, List, [], ◌∷◌, length}
use Rattle.std.specs.List.{Contains}
use Rattle.lq_prover_proof_tree.specs.Trees.Proves.{AreRowsOf}
use Rattle.lq_logic_rows.specs.Difference.{TermsBelow}
use Rattle.lq_logic_rows.specs.Row.{Row, IsRow}
use Rattle.lq_prover_pivots.specs.Pivots.Rows.{Variables}
use Rattle.lq_logic_predicates.specs.ClosedImplication.{ClosedImplication, terms_in}
use Rattle.lq_logic_predicates.specs.Comparison.{Comparison, IsRowOf}
use Rattle.lq_logic_predicates.specs.Literals.{implication_literals}
use Rattle.lq_logic_predicates.specs.Sum.{Sum}
use Rattle.lq_prover_pivots.proofs.WorkLemmas.Part.{cases_in, no_row, tail_in}
use Rattle.lq_solve_strongest.specs.Selections.Fewer.{AreFewer}
use Rattle.lq_solve_strongest.specs.Selections.Small.{FewerAreSmall}
use Rattle.lq_solve_strongest.proofs.SelectionsLemmas.Existing.{variables_exist}
use Rattle.lq_solve_strongest.proofs.SelectionsLemmas.Fewer.{terms_differ}
use Rattle.lq_solve_strongest.proofs.SelectionsLemmas.Making.{rows_exist}
use Rattle.lq_solve_strongest.proofs.SelectionsLemmas.Matched.{row_below}
use Rattle.lq_solve_strongest.proofs.SelectionsLemmas.Sizes.{EachMatched, chain_no_more, sizes_no_more}

-- the comparison of a row, and the row of a comparison
comparison_of : (l : List Sum) (cs : List Comparison) (rows : List Row) → AreRowsOf l cs rows → (r : Row) → Contains rows r
    → (c : Comparison) × Contains cs c × IsRowOf l c r
comparison_of l [] [] are r there = no_row r there
comparison_of l [] (x ∷ rows) are r there = absurd are
comparison_of l (c ∷ cs) [] are r there = absurd are
comparison_of l (c ∷ cs) (x ∷ rows) are r there = elim (cases_in x rows r there) [
  | inl e ↦ (c, (0, omega arith, refl), subst (IsRowOf l c) e are.0)
  | inr h ↦ let f = comparison_of l cs rows are.1 r h in let n = f.1.1 in (f.0, (suc f.1.0, (omega arith), f.1.2), f.2)
]

row_of : (l : List Sum) (cs : List Comparison) (rows : List Row) → AreRowsOf l cs rows → (k : ℕ) (c d : Comparison) → k < length cs → get_or cs k d ≡ c
    → (r : Row) × Contains rows r × IsRowOf l c r
row_of l [] rows are k c d h e = absurd (omega arith)
row_of l (x ∷ cs) [] are k c d h e = absurd are
row_of l (x ∷ cs) (r ∷ rows) are zero c d h e = (r, (0, omega arith, refl), subst (λ y. IsRowOf l y r) e are.0)
row_of l (x ∷ cs) (r ∷ rows) are (suc k) c d h e =
    let f = row_of l cs rows are.1 k c d (omega arith) e in (f.0, tail_in r rows f.0 f.1, f.2)

matched : (i j : ClosedImplication) → AreFewer i j → (some all : List Row) → AreRowsOf (terms_in i) (implication_literals i) some
    → AreRowsOf (terms_in j) (implication_literals j) all → EachMatched (terms_in i) (terms_in j) some all
matched i j fewer some all are other r there =
    let c = comparison_of (terms_in i) (implication_literals i) some are r there in
    let d = fewer.literals c.0 c.1 in
    let s = row_of (terms_in j) (implication_literals j) all other d.1.0 d.0 d.0 d.1.1 d.1.2 in
    (s.0, s.1, record { left = c.0; right = d.0; row = c.2; other = s.2; alike = d.2 })

each_row : (l : List Sum) (cs : List Comparison) (rows : List Row) → AreRowsOf l cs rows → (r : Row) → Contains rows r → IsRow r × TermsBelow (length l) r.parts
each_row l cs rows are r there = let c = comparison_of l cs rows are r there in (c.2.formed, row_below l c.0 r c.2)

pub fewer_are_small : FewerAreSmall
fewer_are_small i j all vs fewer least are =
    let rows = rows_exist i in
    let found = variables_exist rows.0 (length (terms_in i)) (each_row (terms_in i) (implication_literals i) rows.0 rows.1) in
    let us : Variables = found.variables in
    let links = matched i j fewer rows.0 all rows.1 are.rows_of in
    let sized = are.small.sized in
    record {
      rows = rows.0;
      variables = us;
      are = record {
        rows_of = rows.1;
        terms = found.same;
        small =
            sizes_no_more (terms_in i) (terms_in j) (terms_differ i) (terms_differ j) fewer.terms rows.0 all us vs links found.same are.terms found.are sized
            (subst (λ n. 1 ≤ n) (sym found.same) least) are.small.small;
      };
      short = chain_no_more (terms_in i) (terms_in j) (terms_differ i) (terms_differ j) fewer.terms rows.0 all us vs links found.same are.terms found.are sized;
    }
