use Rattle.std.proofs.Common.{◌∷◌, ◌++◌, [], take, get_or, sym, subst, arith}
use Rattle.lq_types_infer.specs.Inference.Opening.{IsSifted}
use Rattle.lq_types_infer.proofs.InferenceLemmas.Opened.{sifted_later, sifted_closed, sifted_asked, next_place}
use Rattle.lq_types_infer.proofs.inference.open.sift.Goals as goal

pub loop-at-preserved-then-at-before : goal.loop-at-preserved-then-at-before
loop-at-preserved-then-at-before c =
    let plain = c.args.plain.now in
    let places = c.args.places.now in
    let n = c.loop-at.at-index in
    record {
      knows = c.loop-at.invariant.knows;
      sifted = next_place c.args.nodes c.args.system.now plain c.args.before places n c.push.new.self.items c.loop-at.asked.items c.loop-at-test.true
          (subst (λ kept. IsSifted c.args.nodes c.args.system.now plain c.args.before (take n places ++ get_or places n 0 ∷ []) kept c.loop-at.asked.items) (sym c.in_ok-push.ensures.items)
          (sifted_later c.args.nodes c.args.system.now plain c.args.before (take n places) c.loop-at.kept.items c.loop-at.asked.items (get_or places n 0) c.loop-at.invariant.sifted (omega (arith, c.if-at-before.true))));
    }

pub loop-at-preserved-then-not-branch : goal.loop-at-preserved-then-not-branch
loop-at-preserved-then-not-branch c =
    let plain = c.args.plain.now in
    let places = c.args.places.now in
    let n = c.loop-at.at-index in
    record {
      knows = c.in_ok-may_vary.ensures.knows;
      sifted = next_place c.args.nodes c.args.system.now plain c.args.before places n c.loop-at.kept.items c.loop-at.asked.items c.loop-at-test.true
          (sifted_closed c.args.nodes c.args.system.now plain c.args.before (take n places) c.loop-at.kept.items c.loop-at.asked.items (get_or places n 0) c.loop-at.invariant.sifted
          (c.in_ok-may_vary.ensures.determined c.if-not-branch.true));
    }

pub loop-at-preserved : goal.loop-at-preserved
loop-at-preserved c =
    let plain = c.args.plain.now in
    let places = c.args.places.now in
    let n = c.loop-at.at-index in
    record {
      knows = c.in_ok-may_vary.ensures.knows;
      sifted = next_place c.args.nodes c.args.system.now plain c.args.before places n c.push-in-loop-at.new.self.items c.push-in-loop-at-2.new.self.items c.loop-at-test.true
          (subst (λ kept. IsSifted c.args.nodes c.args.system.now plain c.args.before (take n places ++ get_or places n 0 ∷ []) kept c.push-in-loop-at-2.new.self.items) (sym c.in_ok-push-2.ensures.items)
          (subst (λ asked. IsSifted c.args.nodes c.args.system.now plain c.args.before (take n places ++ get_or places n 0 ∷ []) (c.loop-at.kept.items ++ get_or places n 0 ∷ []) asked) (sym c.in_ok-push-3.ensures.items)
          (sifted_asked c.args.nodes c.args.system.now plain c.args.before (take n places) c.loop-at.kept.items c.loop-at.asked.items (get_or places n 0) c.loop-at.invariant.sifted (omega (arith, c.if-at-before.false)))));
    }
