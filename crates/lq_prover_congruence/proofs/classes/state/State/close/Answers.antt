-- A join goes on with the work.
use Rattle.std.proofs.Common.{◌≡◌, ℕ, ◌<◌, ◌⊎◌, List, Option, Some, IfSome, subst}
use Rattle.lq_prover_congruence.specs.Classes.Moves.{Goes, IsWorking, IsClash, Unites, roots}
use Rattle.lq_prover_congruence.specs.declared.classes.state.State.{State}
use Rattle.lq_prover_congruence.proofs.ClassesLemmas.Moving.{goes-on, goes-nowhere, joined-on}
use Rattle.lq_prover_congruence.proofs.classes.state.State.close.Goals as goal

pub returns-clause-goes : goal.returns-clause-goes
returns-clause-goes c = goes-on c.args.self.now c.loop-left.self c.next_clash.new.self c.loop-left.invariant.goes c.next_clash.ensures.goes

pub returns-in_err-left-clause-goes : goal.returns-in_err-left-clause-goes
returns-in_err-left-clause-goes c = goes-on c.args.self.now c.loop-left.self c.next_clash.new.self c.loop-left.invariant.goes c.next_clash.ensures.goes

pub returns-in_err-join-clause-goes : goal.returns-in_err-join-clause-goes
returns-in_err-join-clause-goes c =
    goes-on c.args.self.now c.loop-left.self c.join.new.self c.loop-left.invariant.goes
    (goes-on c.loop-left.self c.next_clash.new.self c.join.new.self c.next_clash.ensures.goes (goes-nowhere c.next_clash.new.self c.join.new.self c.next_clash.ensures.goes.shaped c.in_err-join.ensures.err))

joined : (s t : State) (p : Option (ℕ × ℕ)) (l r : ℕ) (queue more : List ℕ) → IfSome p (λ q. IsWorking s queue q.0 q.1 × IsClash s q.0 q.1) → p ≡ Some (l, r) → (Unites s t l r queue more) ⊎ (Unites s t r l queue more) → Goes s t × IsWorking t more 0 0 × (roots 0 t.labels.items < roots 0 s.labels.items)
joined s t p l r queue more h e u =
    let P : Option (ℕ × ℕ) → Type 0 = λ o. IfSome o (λ q. IsWorking s queue q.0 q.1 × IsClash s q.0 q.1) in
    let w = subst P e h in
    joined-on s t l r queue more w.0 w.1 u

pub loop-left-smaller : goal.loop-left-smaller
loop-left-smaller c =
    let j = joined c.next_clash.new.self c.join.new.self c.in_ok-left.field-0 c.in-Some.left c.in-Some.right c.next_clash.new.queue.items c.join.new.queue.items c.in_ok-left.ensures.some c.in-Some.is c.in_ok-join.ensures.ok in
    let P : List ℕ → Type 0 = λ ls. roots 0 c.join.new.self.labels.items < roots 0 ls in
    subst P c.next_clash.ensures.labels j.2

pub loop-left-preserved : goal.loop-left-preserved
loop-left-preserved c =
    let j = joined c.next_clash.new.self c.join.new.self c.in_ok-left.field-0 c.in-Some.left c.in-Some.right c.next_clash.new.queue.items c.join.new.queue.items c.in_ok-left.ensures.some c.in-Some.is c.in_ok-join.ensures.ok in
    record {
      goes = goes-on c.args.self.now c.loop-left.self c.join.new.self c.loop-left.invariant.goes (goes-on c.loop-left.self c.next_clash.new.self c.join.new.self c.next_clash.ensures.goes j.0);
      working = j.1;
    }
