use Rattle.std.proofs.Common.{◌∙◌, inl, inr, sym}
use Rattle.lq_solve_facts.proofs.StoreLemmas.Stores.{put_in}
use Rattle.lq_solve_facts.proofs.store.store.Row.put.Goals as goal

pub returns : goal.returns
returns c = λ n r e.
    elim (put_in (λ x. x.value) c.widen.new.self.reads.items c.args.number c.args.read n r e) [
      | inl h ↦ inl (sym (c.in_ok-widen.ensures.same n) ∙ h)
      | inr h ↦ inr h
    ]

pub returns-in_err-widen : goal.returns-in_err-widen
returns-in_err-widen c = λ n r e. inl (sym (c.in_err-widen.ensures.same n) ∙ e)
