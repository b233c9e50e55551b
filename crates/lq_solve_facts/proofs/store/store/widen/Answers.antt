use Rattle.std.proofs.Common.{◌∙◌, ℕ, Option, ap, slice_get}
use Rattle.std.specs.Option.{option_and_then}
use Rattle.lq_solve_facts.specs.declared.facts.read.ReadPred.{ReadPred}
use Rattle.lq_solve_facts.specs.Store.Store.{read_at}
use Rattle.lq_solve_facts.specs.declared.store.store.Rows.{Rows}
use Rattle.lq_solve_facts.proofs.StoreLemmas.Stores.{none_behind}
use Rattle.lq_solve_facts.proofs.store.store.widen.Goals as goal

pub loop-alloc-preserved : goal.loop-alloc-preserved
loop-alloc-preserved c = λ j i n.
    let at : Rows → ℕ × ℕ → Option ReadPred = λ rows k. read_at rows k.0 k.1 in
    ap (λ l. option_and_then (λ rows. read_at rows i n) (slice_get l j)) c.in_ok-push.ensures.items ∙ none_behind at c.loop-alloc.lefts.items c.new.result j (i, n) (c.new.ensures i n)
    ∙ c.loop-alloc.invariant j i n
