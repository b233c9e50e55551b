use Rattle.std.proofs.Common.{◌≤◌, ℕ, All, length, take, get_or, refl, subst, take_all}
use Rattle.lq_types_unify.specs.Nodes.{form_at}
use Rattle.lq_types_unify.specs.Classes.{root}
use Rattle.lq_types_unify.specs.Reaching.{IsMet}
use Rattle.lq_types_unify.proofs.Merging.{one_taken}
use Rattle.lq_types_unify.proofs.Same.{same_then}
use Rattle.lq_types_unify.proofs.Listing.{lists_then, met_still, among_one}
use Rattle.lq_types_unify.proofs.reaching.meet_all.Goals as goal

pub loop-node-preserved : goal.loop-node-preserved
loop-node-preserved c =
    let forms = form_at c.args.arena.now in
    let n = length c.args.arena.now.nodes.items in
    let shapes = c.args.shapes.now in
    let weak = c.args.weak.now in
    let i = c.loop-node.invariant in
    let e = c.in_ok-meet.ensures in
    let at : ℕ = c.loop-node.node-index in
    record {
      classes = same_then c.args.parents.now c.loop-node.parents c.meet.new.parents i.classes c.meet.ensures.classes;
      listed = e.listed;
      lists = lists_then forms n shapes weak c.args.copies.now c.loop-node.copies c.meet.new.copies c.args.classes.now.items c.loop-node.classes.items c.meet.new.classes.items i.lists e.lists;
      met = one_taken (λ j. IsMet forms n shapes weak c.meet.new.copies (root c.args.parents.now j)) c.args.nodes.now at 0 c.loop-node-test.true
          (met_still forms n c.args.parents.now shapes weak c.loop-node.copies c.meet.new.copies c.loop-node.classes.items c.meet.new.classes.items (take at c.args.nodes.now) e.lists i.met)
          (subst (IsMet forms n shapes weak c.meet.new.copies) (i.classes.roots (get_or c.args.nodes.now at 0)) e.met);
      among = λ seen before all. among_one c.args.parents.now c.loop-node.parents c.loop-node.classes.items c.meet.new.classes.items c.args.nodes.now at (get_or c.args.nodes.now at 0) seen i.classes e.among refl
          c.loop-node-test.true (i.among seen before all) all;
    }

pub returns-clause-met : goal.returns-clause-met
returns-clause-met c =
    let past : length c.args.nodes.now ≤ c.loop-node.node-index = c.loop-node-test.false in
    subst (All (λ i. IsMet (form_at c.args.arena.now) (length c.args.arena.now.nodes.items) c.args.shapes.now c.args.weak.now c.loop-node.copies (root c.args.parents.now i)))
    (take_all c.loop-node.node-index c.args.nodes.now past) c.loop-node.invariant.met
