-- The term, and its place among the users of its arguments.
use Rattle.std.proofs.Common.{◌≡◌, ℕ, ◌<◌, List, [], ◌∷◌, ◌++◌, length, drop, get_or, sym, ap, ◌∙◌, subst}
use Rattle.lq_prover_congruence.specs.Ring.Ring.{times}
use Rattle.lq_prover_congruence.specs.Classes.Standing.{core_of, IsAdded}
use Rattle.lq_prover_congruence.specs.Classes.Moves.{KeepsUses}
use Rattle.lq_prover_congruence.proofs.ClassesLemmas.Joins.{front-all}
use Rattle.lq_prover_congruence.proofs.ClassesLemmas.Following.{grown}
use Rattle.lq_prover_congruence.proofs.classes.state.State.add.Goals as goal

pub returns-clause-ok : goal.returns-clause-ok
returns-clause-ok c =
    let s = c.args.self.now in
    let t = c.grow.new.self in
    let g = c.in_ok-grow.ensures.ok in
    let u = c.list_user.new.uses in
    let P : List ℕ → Type 0 = λ l. IsAdded (c.args.key.head, l) (core_of s) (core_of t) in
    let even : length u ≡ length s.uses.items = c.list_user.auto.uses ∙ ap length c.deref_mut.ensures.value in
    let whole = front-all s.uses.len u (drop (length u) s.uses.items) (s.uses.ok.0 ∙ sym even) in
    let K : List (List ℕ) → Type 0 = λ us. KeepsUses us u in
    let args : c.deref.result.now ≡ c.args.args = c.deref.ensures.value ∙ sym c.requires.args in
    let L : List ℕ → Type 0 = λ l. (a : ℕ) → 0 < times a l → 0 < times c.len-term.result (get_or u a []) in
    let M : ℕ → Type 0 = λ n. (a : ℕ) → 0 < times a c.args.args → 0 < times n (get_or u a []) in
    grown s t u c.args.key.head c.args.args c.in_ok-users.users c.requires.order c.requires.known (subst P (sym c.requires.args) g.added) g.rings g.trail g.sizes g.steps
    (g.uses ∙ ap (λ l. l ++ c.in_ok-users.users ∷ []) whole) (subst K c.deref_mut.ensures.value c.list_user.ensures.kept) even
    (subst M c.len-term.ensures (subst L args c.in_ok-list_user.ensures.listed))
