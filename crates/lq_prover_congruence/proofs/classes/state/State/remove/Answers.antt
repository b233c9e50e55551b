-- The last term goes from each list.
use Rattle.std.proofs.Common.{◌≡◌, ℕ, ◌+◌, ◌-◌, ◌<◌, List, [], ◌∷◌, length, take, drop, get_or, sym, ap, ◌∙◌, subst, arith, length-append}
use Rattle.lq_prover_congruence.specs.Ring.Ring.{times}
use Rattle.lq_prover_congruence.specs.Classes.Core.{AllBelow}
use Rattle.lq_prover_congruence.specs.Classes.Standing.{core_of}
use Rattle.lq_prover_congruence.proofs.ClassesLemmas.Joins.{front-all}
use Rattle.lq_prover_congruence.proofs.ClassesLemmas.Labels.{below-more}
use Rattle.lq_prover_congruence.proofs.ClassesLemmas.Undone.{snoc-front, front-of, added-args, uses-less, same-core}
use Rattle.lq_prover_congruence.proofs.classes.state.State.remove.Goals as goal

pub forget-requires : goal.forget-requires
forget-requires c =
    let s = c.args.self.now in
    let b = c.requires.added.1 in
    let h = c.requires.added.3 in
    let n = length b.known in
    let long : length s.known ≡ n + 1 = omega (arith, ap length h.known, length-append b.known (((c.requires.added.0, c.args.args.now), n) ∷ [])) in
    let e = ap (λ t. t.1) (added-args (c.requires.added.0, c.args.args.now) b (core_of s) h) in
    let P : List ℕ → Type 0 = λ l. AllBelow n l in
    let below = subst P e (c.requires.ready.shaped.args n (omega arith)) in
    let Q : List ℕ → Type 0 = λ l. AllBelow (length c.deref_mut.result.now) l in
    subst Q (sym c.as_slice.ensures) (below-more n (length c.deref_mut.result.now) c.args.args.now (omega (arith, long, ap length c.deref_mut.ensures.value, c.requires.ready.uses.each)) below)

pub returns-clause-uses : goal.returns-clause-uses
returns-clause-uses c =
    let s = c.args.self.now in
    let last = c.pop-5.ensures in
    let even : length c.forget.new.uses ≡ length s.uses.items = c.forget.auto.uses ∙ ap length c.deref_mut.ensures.value in
    let whole = front-all s.uses.len c.forget.new.uses (drop (length c.forget.new.uses) s.uses.items) (s.uses.ok.0 ∙ sym even) in
    uses-less s.known c.pop-5.new.self last.0 s.uses.items c.forget.new.uses c.pop.new.self.items s.uses.len last.1 c.requires.ready.uses c.requires.ready.shaped.args even s.uses.ok.0
    (c.pop.ensures.rest ∙ ap (take (s.uses.len - 1)) whole)
    (λ a i d z.
    let long : length s.known ≡ length c.pop-5.new.self + 1 = omega (arith, ap length last.1, length-append c.pop-5.new.self (last.0 ∷ [])) in
    let P : List (List ℕ) → Type 0 = λ us. 0 < times i (get_or us a []) in
    c.forget.ensures a i (λ q. d (omega (arith, q, c.len.ensures, long))) (subst P (sym c.deref_mut.ensures.value) z))

pub returns-clause-core : goal.returns-clause-core
returns-clause-core c = λ head b h a.
    let s = c.args.self.now in
    let known = snoc-front c.pop-5.new.self b.known c.pop-5.ensures.0 ((head, c.args.args.now), length b.known) (sym c.pop-5.ensures.1 ∙ a.known) in
    let labels = c.pop-3.ensures.rest ∙ front-of s.labels.items b.labels (length b.known) s.labels.len s.labels.ok.0 a.labels in
    let next = snoc-front c.pop-4.new.self b.next (length c.pop-4.new.self) (length b.known) (sym c.pop-4.ensures ∙ a.next) in
    same-core c.pop-5.new.self b.known c.pop-3.new.self.items b.labels c.pop-4.new.self b.next s.filed b.filed known labels next a.filed
