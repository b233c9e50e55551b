use Rattle.std.proofs.Common.{◌∙◌, ◌+◌, inl, inr, sym}
use Rattle.lq_solve_facts.proofs.StoreLemmas.Stores.{counted}
use Rattle.lq_solve_facts.proofs.store.store.Store.put.Goals as goal

pub returns-in-Ok : goal.returns-in-Ok
returns-in-Ok c = λ q n r e.
    elim (c.put_at-stored.ensures q n r e) [
      | inl h ↦ inl (sym (counted c.args.self.now (c.args.self.now.count + 1) q n) ∙ h)
      | inr h ↦ inr (h.0, h.1, h.2 ∙ c.in-Ok.ensures.cases)
    ]
