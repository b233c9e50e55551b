use Rattle.std.proofs.Common.{◌≡◌, ℕ, ◌+◌, ◌<◌, List, get_or, sym, ap, ◌∙◌, arith, below_more}
use Rattle.std.proofs.lemmas.List.{get_or_read}
use Rattle.lq_types_unify.specs.Classes.{root}
use Rattle.lq_types_unify.proofs.Same.{same_self, same_grows}
use Rattle.lq_types_unify.proofs.Rows.{grows_then}
use Rattle.lq_types_unify.proofs.classes.join_rows.Goals as goal

pub loop-at-init : goal.loop-at-init
loop-at-init c = record {
  state = c.requires.state;
  grows = same_grows _ _ _ c.requires.state.down (same_self _ c.requires.state.down);
  same = λ k h. absurd (omega arith);
  shared = λ types h e. h;
}

later : (new old : List ℕ) (x y : ℕ) → ((i : ℕ) → root new (root old i) ≡ root new i) → root old x ≡ root old y → root new x ≡ root new y
later new old x y h e = sym (h x) ∙ ap (root new) e ∙ h y

pub loop-at-preserved : goal.loop-at-preserved
loop-at-preserved c =
    let xs = c.args.arena.now.parts.items in
    let i = c.loop-at.invariant in
    let at : ℕ = c.loop-at.at in
    let old = c.loop-at.parents in
    let new = c.join.new.parents in
    let inside : at < c.args.count = c.loop-at-test.true in
    let left : c.index-left.result.now ≡ get_or xs (c.args.first + at) 0 = get_or_read xs _ _ (let f = c.requires.first_in in omega arith) c.index-left.ensures 0 in
    let right : c.index-right.result.now ≡ get_or xs (c.args.start + at) 0 = get_or_read xs _ _ (let f = c.requires.start_in in omega arith) c.index-right.ensures 0 in
    let g = c.in_ok-join.ensures.grows in
    record {
      state = c.in_ok-join.ensures.state;
      grows = grows_then _ _ _ _ _ _ i.grows g;
      same = below_more (λ k. root new (get_or xs (c.args.first + k) 0) ≡ root new (get_or xs (c.args.start + k) 0)) at
          (λ k h. later new old (get_or xs (c.args.first + k) 0) (get_or xs (c.args.start + k) 0) g.coarser (i.same k h))
          (ap (root new) (sym left) ∙ c.in_ok-join.ensures.same ∙ ap (root new) right);
      shared = λ types h e. c.in_ok-join.ensures.shared types (i.shared types h e) (ap types left ∙ e at inside ∙ ap types (sym right));
    }

pub returns-in_err-join-clause-grows : goal.returns-in_err-join-clause-grows
returns-in_err-join-clause-grows c = grows_then _ _ _ _ _ _ c.loop-at.invariant.grows c.join.ensures.grows

pub returns-in_err-join-clause-shared : goal.returns-in_err-join-clause-shared
returns-in_err-join-clause-shared c = λ types h e.
    let xs = c.args.arena.now.parts.items in
    let at : ℕ = c.loop-at.at in
    let left : c.index-left.result.now ≡ get_or xs (c.args.first + at) 0 = get_or_read xs _ _ (let f = c.requires.first_in in omega arith) c.index-left.ensures 0 in
    let right : c.index-right.result.now ≡ get_or xs (c.args.start + at) 0 = get_or_read xs _ _ (let f = c.requires.start_in in omega arith) c.index-right.ensures 0 in
    c.join.ensures.shared types (c.loop-at.invariant.shared types h e) (ap types left ∙ e at c.loop-at-test.true ∙ ap types (sym right))
