use Rattle.std.proofs.Common.{◌≡◌, List, [], ◌∷◌, OnOk, sym, ap, subst, ◌∙◌}
use Rattle.lq_logic_predicates.specs.Table.{literal_of}
use Rattle.lq_logic_predicates.specs.TermView.{sum_of}
use Rattle.lq_top_answers.specs.Failure.Occurrences.{Valued, number, same_valued}
use Rattle.lq_top_answers.specs.Failure.Collected.{valued_views, with_each}
use Rattle.lq_top_answers.proofs.FailureLemmas.Keys.{some_literal, no_literal}
use Rattle.lq_top_answers.proofs.failure.collecting.add_product.Goals as goal

pub returns-then-is_scaled : goal.returns-then-is_scaled
returns-then-is_scaled c =
    let t = sum_of c.args.term.now in
    ap (with_each same_valued (valued_views c.args.seen.now.keys))
    (sym (some_literal (literal_of (sum_of c.args.left.now)) (literal_of (sum_of c.args.right.now)) [] (number t ∷ []) (sym c.is_scaled.ensures ∙ c.if-is_scaled.true)))

pub returns-else-is_scaled : goal.returns-else-is_scaled
returns-else-is_scaled c =
    let t = sum_of c.args.term.now in
    let e = no_literal (literal_of (sum_of c.args.left.now)) (literal_of (sum_of c.args.right.now)) [] (number t ∷ []) (sym c.is_scaled.ensures ∙ c.if-is_scaled.false) in
    subst (λ (l : List Valued). OnOk c.add.result (valued_views c.add.new.seen.keys ≡ with_each same_valued (valued_views c.args.seen.now.keys) l)) (sym e) c.add.ensures
