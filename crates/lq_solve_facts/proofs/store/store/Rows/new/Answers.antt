use Rattle.std.proofs.Common.{ap, slice_get}
use Rattle.std.specs.Option.{option_and_then}
use Rattle.lq_solve_facts.specs.Store.Store.{read_in}
use Rattle.lq_solve_facts.proofs.store.store.Rows.new.Goals as goal

pub returns : goal.returns
returns c = λ i n. ap (λ l. option_and_then (λ row. read_in row n) (slice_get l i)) c.new.ensures.items
