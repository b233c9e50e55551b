use Rattle.std.proofs.Common.{◌≡◌, suc, ◌+◌, ◌∷◌, ◌++◌, [], take, get_or, subst, sym, arith}
use Rattle.std.proofs.Math.Seq.{take-suc}
use Rattle.std.proofs.lemmas.List.{take_all}
use Rattle.lq_solve_fixpoint.proofs.WeakeningLemmas.Rows.{full_append, full_rows, AreFull}
use Rattle.lq_solve_fixpoint.proofs.weakening.chosen.Chosen.all.Goals as goal

pub returns : goal.returns
returns c = λ u k. full_rows c.args.counts.now c.loop-count.rows.items (subst (λ l. AreFull l c.loop-count.rows.items) (take_all c.loop-count.count-index c.args.counts.now c.loop-count-test.false) c.loop-count.invariant) u k

pub loop-count-preserved : goal.loop-count-preserved
loop-count-preserved c =
    let at = c.loop-count.count-index in
    let n = get_or c.args.counts.now at 0 in
    let before = take at c.args.counts.now in
    let h = full_append before c.loop-count.rows.items n c.in_ok-full.field-0 c.loop-count.invariant c.in_ok-full.ensures in
    let next : suc at ≡ at + 1 = omega arith in
    let one : take (at + 1) c.args.counts.now ≡ before ++ n ∷ [] =
    subst (λ m. take m c.args.counts.now ≡ before ++ n ∷ []) next (take-suc c.args.counts.now at 0 c.loop-count-test.true) in
    subst (AreFull (take (at + 1) c.args.counts.now)) (sym c.in_ok-push.ensures.items) (subst (λ ns. AreFull ns (c.loop-count.rows.items ++ c.in_ok-full.field-0 ∷ [])) (sym one) h)
