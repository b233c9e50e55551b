use Rattle.std.proofs.Common.{◌∙◌, inl, inr, sym}
use Rattle.lq_solve_facts.specs.Store.Store.{read_in}
use Rattle.lq_solve_facts.proofs.StoreLemmas.Stores.{put_below}
use Rattle.lq_solve_facts.proofs.store.store.Rows.put.Goals as goal

pub returns : goal.returns
returns c = λ i n r e.
    elim (put_below read_in c.widen.new.self.rows.items c.args.row c.index_mut.result.now c.put.new.self c.args.number c.args.read.value c.in_ok-widen.ensures.long c.index_mut.ensures.value c.put.ensures i n r e) [
      | inl h ↦ inl (sym (c.in_ok-widen.ensures.same i n) ∙ h)
      | inr h ↦ inr h
    ]

pub returns-in_err-widen : goal.returns-in_err-widen
returns-in_err-widen c = λ i n r e. inl (sym (c.in_err-widen.ensures.same i n) ∙ e)
