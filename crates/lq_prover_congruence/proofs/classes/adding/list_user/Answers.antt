-- One argument more.
use Rattle.std.proofs.Common.{◌≡◌, ◌<◌, [], length, get_or, sym, ◌∙◌, arith}
use Rattle.std.proofs.lemmas.List.{get_or_read}
use Rattle.lq_prover_congruence.proofs.ClassesLemmas.Walks.{below-at}
use Rattle.lq_prover_congruence.proofs.ClassesLemmas.Users.{kept-on, listed-on}
use Rattle.lq_prover_congruence.proofs.classes.adding.list_user.Goals as goal

pub bounds-uses-arg : goal.bounds-uses-arg
bounds-uses-arg c = omega (arith, below-at (length c.args.uses.now) c.args.args.now c.loop-arg.arg-index c.requires c.loop-arg-test.true, c.loop-arg.auto.uses)

pub offset_bounds-uses-arg : goal.offset_bounds-uses-arg
offset_bounds-uses-arg c = omega (arith, below-at (length c.args.uses.now) c.args.args.now c.loop-arg.arg-index c.requires c.loop-arg-test.true, c.loop-arg.auto.uses)

pub loop-arg-preserved : goal.loop-arg-preserved
loop-arg-preserved c =
    let at = get_or c.args.args.now c.loop-arg.arg-index 0 in
    let within = (let z : get_or c.args.args.now c.loop-arg.arg-index 0 < length c.loop-arg.uses = omega (arith, below-at (length c.args.uses.now) c.args.args.now c.loop-arg.arg-index c.requires c.loop-arg-test.true, c.loop-arg.auto.uses) in z) in
    let old = get_or c.loop-arg.uses at c.index-uses-arg.result in
    let is : old ≡ get_or c.loop-arg.uses at [] = sym c.index-uses-arg.is ∙ get_or_read c.loop-arg.uses at c.index-uses-arg.result within c.index-uses-arg.is [] in
    record {
      kept = kept-on c.args.uses.now c.loop-arg.uses at c.args.term c.push.new.self old within is c.in_ok-push.ensures.ok c.loop-arg.invariant.kept;
      listed = listed-on c.loop-arg.uses c.args.args.now c.loop-arg.arg-index c.args.term c.push.new.self old c.loop-arg-test.true within is c.in_ok-push.ensures.ok c.loop-arg.invariant.listed;
    }
