use Rattle.std.proofs.Common.{◌∙◌, ap, slice_get}
use Rattle.std.specs.Option.{option_flatten, option_map}
use Rattle.lq_solve_facts.proofs.StoreLemmas.Stores.{empty_behind}
use Rattle.lq_solve_facts.proofs.store.store.Row.widen.Goals as goal

pub loop-self-preserved : goal.loop-self-preserved
loop-self-preserved c = λ n.
    ap (λ l. option_map (λ r. r.value) (option_flatten (slice_get l n))) c.in_ok-push.ensures.items
    ∙ empty_behind (λ r. r.value) c.loop-self.self.reads.items n ∙ c.loop-self.invariant n
