use Rattle.std.proofs.Common.{◌≡◌, ◌<◌, ◌≤◌, length, ap, subst, arith, rules, take_all, length-append}
use Rattle.lq_types_unify.specs.Nodes.{form_at}
use Rattle.lq_types_unify.specs.Classes.{rooted, AreFollowed}
use Rattle.lq_types_unify.proofs.Same.{same_self, same_grows}
use Rattle.lq_types_unify.proofs.Rows.{grows_then, followed_later, one_more}
use Rattle.lq_types_unify.proofs.classes.settle.Goals as goal

pub pairs-init : goal.pairs-init
pairs-init c = record {
  state = c.requires.state;
  grows = same_grows _ _ _ c.requires.state.down (same_self _ c.requires.state.down);
  within = c.requires.within;
  followed = c.requires.followed;
  shared = λ types f h. h;
}

pub returns-then-not-branch-clause-grows : goal.returns-then-not-branch-clause-grows
returns-then-not-branch-clause-grows c = grows_then _ _ _ _ _ _ c.pairs.invariant.grows c.in_ok-join_parts.ensures.grows

pub returns-then-not-branch-clause-shared : goal.returns-then-not-branch-clause-shared
returns-then-not-branch-clause-shared c = λ types f h. c.in_ok-join_parts.ensures.shared types f (c.pairs.invariant.shared types f h)

pub returns-then-not-branch-clause-clash : goal.returns-then-not-branch-clause-clash
returns-then-not-branch-clause-clash c = λ t types f h. c.in_ok-join_parts.ensures.clash c.if-not-branch.true types f (c.pairs.invariant.shared types f h)

pub pairs-preserved : goal.pairs-preserved
pairs-preserved c =
    let i = c.pairs.invariant in
    let g = c.in_ok-join_parts.ensures.grows in
    let forms = form_at c.args.arena.now in
    let new = c.join_parts.new.parents in
    let inside : c.pairs.at < length c.pairs.found.items = search rules in
    record {
      state = c.in_ok-join_parts.ensures.state;
      grows = grows_then _ _ _ _ _ _ i.grows g;
      within = omega (arith, ap length g.after_is, length-append c.pairs.found.items g.added);
      followed = one_more (λ e. rooted forms new e.left ≡ rooted forms new e.right) c.pairs.found.items c.join_parts.new.found.items g.added c.pairs.at c.index-pair.result.now
          g.after_is inside c.index-pair.ensures (followed_later forms c.pairs.parents new _ g.coarser i.followed) (c.in_ok-join_parts.ensures.same c.if-not-branch.false);
      shared = λ types f h. c.in_ok-join_parts.ensures.shared types f (i.shared types f h);
    }

pub returns-clause-closed : goal.returns-clause-closed
returns-clause-closed c = λ t. let past : length c.pairs.found.items ≤ c.pairs.at = search rules in subst (AreFollowed (form_at c.args.arena.now) c.pairs.parents) (take_all c.pairs.at c.pairs.found.items past) c.pairs.invariant.followed

pub returns-in_err-join_parts-clause-grows : goal.returns-in_err-join_parts-clause-grows
returns-in_err-join_parts-clause-grows c = grows_then _ _ _ _ _ _ c.pairs.invariant.grows c.join_parts.ensures.grows

pub returns-in_err-join_parts-clause-shared : goal.returns-in_err-join_parts-clause-shared
returns-in_err-join_parts-clause-shared c = λ types f h. c.join_parts.ensures.shared types f (c.pairs.invariant.shared types f h)
