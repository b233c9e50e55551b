use Rattle.std.proofs.Common.{◌∙◌, inl, inr, ℕ, Option, ap, ap₂, sym}
use Rattle.std.specs.Vec.{with_item}
use Rattle.lq_solve_facts.specs.declared.facts.read.ReadPred.{ReadPred}
use Rattle.lq_solve_facts.specs.Store.Store.{read_at}
use Rattle.lq_solve_facts.specs.declared.store.store.Rows.{Rows}
use Rattle.lq_solve_facts.proofs.StoreLemmas.Stores.{put_below, put_environment, put_goal, put_left}
use Rattle.lq_solve_facts.proofs.store.store.Store.put_at.Goals as goal

pub returns-in-Environment : goal.returns-in-Environment
returns-in-Environment c = put_environment c.args.self.now c.put.new.self c.in-Environment.env c.args.place c.args.number c.args.read.value c.in-Environment.is c.put.ensures

pub returns-in-Goal : goal.returns-in-Goal
returns-in-Goal c = put_goal c.args.self.now c.put-in-Goal.new.self c.in-Goal.at c.args.place c.args.number c.args.read.value c.in-Goal.is c.put-in-Goal.ensures

pub returns-in_ok-widen-in-Left : goal.returns-in_ok-widen-in-Left
returns-in_ok-widen-in-Left c =
    let at : Rows → ℕ × ℕ → Option ReadPred = λ rows k. read_at rows k.0 k.1 in
    put_left c.args.self.now (with_item c.widen.new.lefts c.in-Left.at c.put-in-Left.new.self) c.in-Left.at c.in-Left.behind c.args.place c.args.number c.args.read.value c.in-Left.is
    (λ j i n r e.
    elim (put_below at c.widen.new.lefts.items c.in-Left.at c.index_mut.result.now c.put-in-Left.new.self (c.in-Left.behind, c.args.number) c.args.read.value c.in_ok-widen-in-Left.ensures.long c.index_mut.ensures.value
    (λ k s d. elim (c.put-in-Left.ensures k.0 k.1 s d) [ inl h ↦ inl h | inr h ↦ inr (ap₂ (λ a b. (a, b)) h.0 h.1, h.2) ]) j (i, n) r e) [
      | inl h ↦ inl (sym (c.in_ok-widen-in-Left.ensures.same j i n) ∙ h)
      | inr h ↦ inr (h.0, ap (λ k. k.0) h.1, ap (λ k. k.1) h.1, h.2)
    ])

pub returns-in_err-widen-in-Left : goal.returns-in_err-widen-in-Left
returns-in_err-widen-in-Left c =
    put_left c.args.self.now c.widen.new.lefts c.in-Left.at c.in-Left.behind c.args.place c.args.number c.args.read.value c.in-Left.is
    (λ j i n r e. inl (sym (c.in_err-widen-in-Left.ensures.same j i n) ∙ e))
