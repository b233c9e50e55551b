use Rattle.std.proofs.Common.{◌≡◌, ℕ, ◌≤◌, ◌<◌, ◌∷◌, ◌++◌, [], true, take, get_or, sym, subst, arith}
use Rattle.lq_solve_fixpoint.specs.Weakening.Among.{IsAmong}
use Rattle.lq_solve_fixpoint.specs.Weakening.Chosen.{AreWithout, chosen_in, total}
use Rattle.lq_solve_fixpoint.proofs.WeakeningLemmas.Members.{falls_next, next_taken, without_next}
use Rattle.lq_solve_fixpoint.proofs.weakening.removing.remove_all.Goals as goal

pub loop-instance-preserved : goal.loop-instance-preserved
loop-instance-preserved c =
    let u = c.args.unknown in
    let at = c.loop-instance.instance-index in
    let ks = take at c.args.instances.now in
    let n = get_or c.args.instances.now at 0 in
    let before = chosen_in c.args.chosen.now in
    let mid = chosen_in c.loop-instance.chosen in
    let after = chosen_in c.remove.new.self in
    let h = c.loop-instance.invariant in
    let e = next_taken c.args.instances.now at 0 c.loop-instance-test.true in
    let w : AreWithout u (ks ++ n ∷ []) before after = without_next u ks n before mid after h.0 c.remove.ensures.chosen in
    let f : (k : ℕ) → IsAmong (ks ++ n ∷ []) k → before u k ≡ true → total c.remove.new.self < total c.args.chosen.now =
    falls_next u ks n before mid (total c.args.chosen.now) (total c.loop-instance.chosen) (total c.remove.new.self) h.0 h.1 c.remove.ensures.total h.2 c.remove.ensures.falls in
    let le : total c.remove.new.self ≤ total c.args.chosen.now = let a = h.1 in let b = c.remove.ensures.total in omega (arith, a, b) in
    (subst (λ l. AreWithout u l before after) (sym e) w, le, λ k m. f k (subst (λ l. IsAmong l k) e m))
