use Rattle.std.proofs.Common.{◌≡◌, ℕ, ◌≤◌, ◌++◌, true, false, List, length, take, refl, sym, ap, subst, ◌∙◌, arith, rules, take_at, take_all, All}
use Rattle.lq_types_unify.specs.declared.arena.Equation.{Equation}
use Rattle.lq_types_unify.specs.Nodes.{form_at}
use Rattle.lq_types_unify.specs.Solution.{HasNoSolution}
use Rattle.lq_types_unify.specs.Classes.{root, AreFollowed, IsKnown}
use Rattle.lq_types_unify.proofs.Same.{same_self, same_grows}
use Rattle.lq_types_unify.proofs.Rows.{grows_then, followed_later}
use Rattle.lq_types_unify.proofs.Merging.{one_taken, met_later, merged_known, merged_clash, if_ok}
use Rattle.lq_types_unify.proofs.Standing.{between}
use Rattle.lq_types_unify.proofs.merge.merge.Goals as goal

abbrev none : Equation
none = record { left = 0; right = 0 }

pub loop-equation-init : goal.loop-equation-init
loop-equation-init c = record {
  state = c.requires.state;
  grows = same_grows _ _ _ c.requires.state.down (same_self _ c.requires.state.down);
  met = λ k d h. absurd (omega arith);
  shared = λ types h m. h;
}

pub loop-equation-preserved : goal.loop-equation-preserved
loop-equation-preserved c =
    let i = c.loop-equation.invariant in
    let at : ℕ = c.loop-equation.equation-index in
    let g = c.in_ok-join.ensures.grows in
    let new = c.join.new.parents in
    record {
      state = c.in_ok-join.ensures.state;
      grows = grows_then _ _ _ _ _ _ i.grows g;
      met = one_taken (λ e. root new e.left ≡ root new e.right) c.args.equations.now at none c.loop-equation-test.true
          (met_later c.loop-equation.parents new (take at c.args.equations.now) g.coarser i.met) c.in_ok-join.ensures.same;
      shared = λ types h m. c.in_ok-join.ensures.shared types (i.shared types h m) (m at none c.loop-equation-test.true);
    }

pub settle-requires-clause-followed : goal.settle-requires-clause-followed
settle-requires-clause-followed c =
    let i = c.loop-equation.invariant in
    let g = i.grows in
    let e : c.len-followed.result ≡ length c.args.found.now.items = search rules in
    subst (AreFollowed (form_at c.args.arena.now) c.loop-equation.parents)
    (sym (ap (λ (k : ℕ). take k c.loop-equation.found.items) e ∙ ap (take (length c.args.found.now.items)) g.after_is ∙ take_at c.args.found.now.items g.added (length c.args.found.now.items) refl))
    (followed_later (form_at c.args.arena.now) c.args.parents.now c.loop-equation.parents c.args.found.now.items g.coarser c.requires.followed)

pub returns-clause-known : goal.returns-clause-known
returns-clause-known c =
    let i = c.loop-equation.invariant in
    let past : length c.args.equations.now ≤ c.loop-equation.equation-index = c.loop-equation-test.false in
    let met = subst (All (λ e. root c.loop-equation.parents e.left ≡ root c.loop-equation.parents e.right)) (take_all c.loop-equation.equation-index c.args.equations.now past) i.met in
    if_ok c.settle.result {K = λ b. b ≡ true → (before : List Equation) → IsKnown (form_at c.args.arena.now) (length c.args.arena.now.nodes.items) c.args.parents.now c.args.shapes.now c.args.found.now.items before → IsKnown (form_at c.args.arena.now) (length c.args.arena.now.nodes.items) c.settle.new.parents c.settle.new.shapes c.settle.new.found.items (before ++ c.args.equations.now)}
    c.settle.ensures.closed
    (λ b closed t before known. merged_known _ _ _ _ _ _ _ _ _ _ before c.args.equations.now known i.grows met i.shared c.settle.ensures.state c.settle.ensures.grows (closed t) c.settle.ensures.shared)

pub returns-clause-clash : goal.returns-clause-clash
returns-clause-clash c =
    let i = c.loop-equation.invariant in
    if_ok c.settle.result {K = λ b. b ≡ false → (before : List Equation) → IsKnown (form_at c.args.arena.now) (length c.args.arena.now.nodes.items) c.args.parents.now c.args.shapes.now c.args.found.now.items before → HasNoSolution (form_at c.args.arena.now) (before ++ c.args.equations.now)}
    c.settle.ensures.clash
    (λ b clash t before known. merged_clash _ _ _ _ _ _ before c.args.equations.now known i.shared (clash t))

pub returns-in_err-join-clause-stands : goal.returns-in_err-join-clause-stands
returns-in_err-join-clause-stands c = λ before known.
    let i = c.loop-equation.invariant in
    let g = c.join.ensures.grows in
    between _ _ _ _ _ _ _ _ before c.args.equations.now known c.join.ensures.state (grows_then _ _ _ _ _ _ i.grows g)
    (λ types f h m. c.join.ensures.shared types (i.shared types h m) (m c.loop-equation.equation-index none c.loop-equation-test.true))

pub returns-clause-stands : goal.returns-clause-stands
returns-clause-stands c = λ before known.
    let i = c.loop-equation.invariant in
    between _ _ _ _ _ _ _ _ before c.args.equations.now known c.settle.ensures.state (grows_then _ _ _ _ _ _ i.grows c.settle.ensures.grows)
    (λ types f h m. c.settle.ensures.shared types f (i.shared types h m))
