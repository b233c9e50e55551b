use Rattle.std.proofs.Common.{◌∙◌, ap, slice_get}
use Rattle.std.specs.Option.{option_and_then, option_flatten, option_map}
use Rattle.lq_solve_facts.specs.Store.Store.{read_in}
use Rattle.lq_solve_facts.proofs.StoreLemmas.Stores.{none_behind}
use Rattle.lq_solve_facts.proofs.store.store.Rows.widen.Goals as goal

pub loop-alloc-preserved : goal.loop-alloc-preserved
loop-alloc-preserved c = λ i n.
    ap (λ l. option_and_then (λ row. read_in row n) (slice_get l i)) c.in_ok-push.ensures.items
    ∙ none_behind read_in c.loop-alloc.self.rows.items (record { reads = c.new.result }) i n
    (ap (λ l. option_map (λ r. r.value) (option_flatten (slice_get l n))) c.new.ensures.items)
    ∙ c.loop-alloc.invariant i n
