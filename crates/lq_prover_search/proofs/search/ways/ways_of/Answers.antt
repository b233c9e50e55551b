use Rattle.std.proofs.Common.{◌≡◌, ◌∙◌, [], ◌∷◌, ◌++◌, ap, subst}
use Rattle.lq_logic_predicates.specs.Literals.{below_row}
use Rattle.lq_logic_predicates.specs.NnfView.{nnf_items, nnf_view}
use Rattle.lq_logic_predicates.specs.TableView.{terms_of}
use Rattle.lq_logic_predicates.specs.TermView.{sum_of}
use Rattle.lq_prover_search.specs.Search.Pairs.{IsRowReading}
use Rattle.lq_prover_search.proofs.SearchLemmas.FiveRows.{five_rows}
use Rattle.lq_prover_search.proofs.search.ways.ways_of.Goals as goal

pub returns-clause-ways : goal.returns-clause-ways
returns-clause-ways c =
    let v = c.in_ok-all_equal.field-0 in let w = c.in_ok-below.field-0 in let x = c.in_ok-below-2.field-0 in let y = c.in_ok-below-3.field-0 in let z = c.in_ok-below-4.field-0 in
    let one = c.args.one in let other = c.args.other in
    let s = sum_of one.term.now in let a = sum_of one.left.now in let b = sum_of one.right.now in
    let t = sum_of other.term.now in let d = sum_of other.left.now in let e = sum_of other.right.now in
    let items : nnf_items c.push-5.new.self ≡ v ∷ w ∷ x ∷ y ∷ z ∷ [] =
    c.in_ok-push-5.ensures.ok ∙ ap (λ l. l ++ z ∷ []) (c.in_ok-push-4.ensures.ok ∙ ap (λ l. l ++ y ∷ []) (c.in_ok-push-3.ensures.ok
    ∙ ap (λ l. l ++ x ∷ []) (c.in_ok-push-2.ensures.ok ∙ ap (λ l. l ++ w ∷ []) (c.in_ok-push.ensures.ok ∙ ap (λ l. l ++ v ∷ []) c.in_ok-ways.ensures)))) in
    let one_same = c.in_ok-all_equal.ensures.same in
    let two_same = c.in_ok-below.ensures.same ∙ one_same in
    let three_same = c.in_ok-below-2.ensures.same ∙ two_same in
    let four_same = c.in_ok-below-3.ensures.same ∙ three_same in
    five_rows (terms_of c.args.table.now) s a b t d e v w x y z c.push-5.new.self items c.in_ok-all_equal.ensures.way
    (subst (λ l. IsRowReading l (below_row a d) (nnf_view w)) one_same c.in_ok-below.ensures.row)
    (subst (λ l. IsRowReading l (below_row d a) (nnf_view x)) two_same c.in_ok-below-2.ensures.row)
    (subst (λ l. IsRowReading l (below_row b e) (nnf_view y)) three_same c.in_ok-below-3.ensures.row)
    (subst (λ l. IsRowReading l (below_row e b) (nnf_view z)) four_same c.in_ok-below-4.ensures.row)
