use Rattle.std.proofs.Common.{◌≡◌, ◌∙◌, [], ◌∷◌, ◌++◌, ap, subst}
use Rattle.lq_logic_predicates.specs.Literals.{equal_row}
use Rattle.lq_logic_predicates.specs.NnfView.{nnf_items, nnf_view}
use Rattle.lq_logic_predicates.specs.TableView.{terms_of}
use Rattle.lq_logic_predicates.specs.TermView.{sum_of}
use Rattle.lq_prover_search.specs.Search.Pairs.{IsRowReading}
use Rattle.lq_prover_search.proofs.SearchLemmas.FiveRows.{three_rows}
use Rattle.lq_prover_search.proofs.search.ways.all_equal.Goals as goal

pub returns-clause-way : goal.returns-clause-way
returns-clause-way c =
    let x = c.in_ok-equal.field-0 in let y = c.in_ok-equal-2.field-0 in let z = c.in_ok-equal-3.field-0 in
    let p = equal_row (sum_of c.args.one.left.now) (sum_of c.args.other.left.now) in
    let q = equal_row (sum_of c.args.one.right.now) (sum_of c.args.other.right.now) in
    let r = equal_row (sum_of c.args.one.term.now) (sum_of c.args.other.term.now) in
    let items : nnf_items c.push-3.new.self ≡ x ∷ y ∷ z ∷ [] =
    c.in_ok-push-3.ensures.ok ∙ ap (λ l. l ++ z ∷ []) (c.in_ok-push-2.ensures.ok ∙ ap (λ l. l ++ y ∷ []) (c.in_ok-push.ensures.ok ∙ ap (λ l. l ++ x ∷ []) c.in_ok-rows.ensures)) in
    three_rows (terms_of c.args.table.now) p q r x y z c.push-3.new.self items c.in_ok-equal.ensures.row
    (subst (λ l. IsRowReading l q (nnf_view y)) c.in_ok-equal.ensures.same c.in_ok-equal-2.ensures.row)
    (subst (λ l. IsRowReading l r (nnf_view z)) (c.in_ok-equal-2.ensures.same ∙ c.in_ok-equal.ensures.same) c.in_ok-equal-3.ensures.row)
