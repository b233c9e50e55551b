use Rattle.std.proofs.Common.{◌≡◌, ◌∙◌, ◌<◌, length, get_or, refl, sym, ap, subst}
use Rattle.lq_logic_predicates.specs.NnfView.{nnf_items, nnf_view, nnfs_view}
use Rattle.lq_logic_predicates.specs.RowMeaning.{MeetsAllRows, MeetsRows}
use Rattle.lq_solve_facts.proofs.FactsLemmas.Holding.{grows_same, grows_then}
use Rattle.lq_solve_facts.proofs.FactsLemmas.Members.{flag_seen, item_met, item_smaller, row_of, row_seen, size, size_each, view_items}
use Rattle.lq_solve_facts.proofs.facts.reads.+take.Goals as goal

pub take-returns-in-Row-clause-held : goal.take-returns-in-Row-clause-held
take-returns-in-Row-clause-held t c = λ v p h m. c.take_row.ensures.held v p h (subst (MeetsRows v p) (ap nnf_view c.in-Row.is ∙ row_seen _) m)

pub take-returns-in-Row-clause-clash : goal.take-returns-in-Row-clause-clash
take-returns-in-Row-clause-clash t c = λ b v p h m. c.take_row.ensures.clash b v p h (subst (MeetsRows v p) (ap nnf_view c.in-Row.is ∙ row_seen _) m)

pub take-returns-in-Flag-clause-held : goal.take-returns-in-Flag-clause-held
take-returns-in-Flag-clause-held t c = λ v p h m. c.take_flag.ensures.held v p h (subst (MeetsRows v p) (ap nnf_view c.in-Flag.is ∙ flag_seen _ _) m)

pub take-returns-in-Flag-clause-clash : goal.take-returns-in-Flag-clause-clash
take-returns-in-Flag-clause-clash t c = λ b v p h m. c.take_flag.ensures.clash b v p h (subst (MeetsRows v p) (ap nnf_view c.in-Flag.is ∙ flag_seen _ _) m)

pub take_all-loop-reading-init : goal.take_all-loop-reading-init
take_all-loop-reading-init t c = record { held = λ v p h m. h; grows = grows_same _ _ refl; limits = refl }

pub take_all-take-requires : goal.take_all-take-requires
take_all-take-requires t c =
    let items = nnf_items c.args.readings.now in let i = c.loop-reading.reading-index in let n = c.reading-item.result in
    let is : n ≡ get_or items i n = c.reading-item.is ∙ ap (λ l. get_or l i n) c.as_slice-reading-items.ensures in
    let inside : i < length items = subst (λ l. i < length l) c.as_slice-reading-items.ensures c.loop-reading-test.true in
    let smaller : size (nnf_view n) < size_each (nnfs_view c.args.readings.now) =
    subst (λ m. size (nnf_view m) < size_each (nnfs_view c.args.readings.now)) (sym is)
    (subst (λ r. size (nnf_view (get_or items i n)) < size_each r) (sym (view_items c.args.readings.now)) (item_smaller items i n inside)) in
    let at : size_each (nnfs_view c.args.readings.now) ≡ t = c.decreases in
    (subst (λ x. size (nnf_view n) < x) at smaller, c.loop-reading.invariant.limits ∙ c.requires)

pub take_all-loop-reading-preserved : goal.take_all-loop-reading-preserved
take_all-loop-reading-preserved t c =
    let items = c.as_slice-reading-items.result.now in let i = c.loop-reading.reading-index in let n = c.reading-item.result in
    let before = c.loop-reading.invariant in
    record {
      held = λ v p h m. c.take.ensures.held v p (before.held v p h m) (subst (λ x. MeetsRows v p (nnf_view x)) (sym c.reading-item.is) (item_met v p items i n c.loop-reading-test.true m));
      grows = grows_then _ _ _ before.grows c.take.ensures.grows;
      limits = c.take.ensures.limits ∙ before.limits;
    }

pub take_all-returns-then-take-clause-held : goal.take_all-returns-then-take-clause-held
take_all-returns-then-take-clause-held t c = λ v p h m.
    let items = c.as_slice-reading-items.result.now in let i = c.loop-reading.reading-index in let n = c.reading-item.result in
    let all : MeetsAllRows v p (row_of items) = subst (λ l. MeetsAllRows v p (row_of l)) (sym c.as_slice-reading-items.ensures) (subst (MeetsAllRows v p) (view_items c.args.readings.now) m) in
    c.take.ensures.held v p (c.loop-reading.invariant.held v p h all) (subst (λ x. MeetsRows v p (nnf_view x)) (sym c.reading-item.is) (item_met v p items i n c.loop-reading-test.true all))

pub take_all-returns-then-take-clause-clash : goal.take_all-returns-then-take-clause-clash
take_all-returns-then-take-clause-clash t c = λ _ v p h m.
    let items = c.as_slice-reading-items.result.now in let i = c.loop-reading.reading-index in let n = c.reading-item.result in
    let all : MeetsAllRows v p (row_of items) = subst (λ l. MeetsAllRows v p (row_of l)) (sym c.as_slice-reading-items.ensures) (subst (MeetsAllRows v p) (view_items c.args.readings.now) m) in
    c.take.ensures.clash c.if-take.true v p (c.loop-reading.invariant.held v p h all) (subst (λ x. MeetsRows v p (nnf_view x)) (sym c.reading-item.is) (item_met v p items i n c.loop-reading-test.true all))

pub take_all-returns-then-take-clause-grows : goal.take_all-returns-then-take-clause-grows
take_all-returns-then-take-clause-grows t c = grows_then _ _ _ c.loop-reading.invariant.grows c.take.ensures.grows

pub take_all-returns-clause-held : goal.take_all-returns-clause-held
take_all-returns-clause-held t c = λ v p h m.
    c.loop-reading.invariant.held v p h (subst (λ l. MeetsAllRows v p (row_of l)) (sym c.as_slice-reading-items.ensures) (subst (MeetsAllRows v p) (view_items c.args.readings.now) m))
