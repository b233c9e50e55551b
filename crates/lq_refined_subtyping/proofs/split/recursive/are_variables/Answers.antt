use Rattle.std.proofs.Common.{◌≡◌, ◌<◌, true, false, get_or, sym, ap, ◌∙◌}
use Rattle.lq_refined_subtyping.specs.Table.Growing.{extends-at, Extends-trans}
use Rattle.lq_refined_subtyping.specs.Table.Whole.{count_of, refined_at, types_of}
use Rattle.lq_refined_substitution.specs.Substitution.Views.{scopes_view}
use Rattle.lq_refined_subtyping.specs.Split.Recursive.{is_variable}
use Rattle.lq_refined_subtyping.proofs.SplitLemmas.Again.{variables-no, variables-yes}
use Rattle.lq_refined_subtyping.proofs.split.recursive.are_variables.Goals as goal

pub returns-then-not-branch-clause-are : goal.returns-then-not-branch-clause-are
returns-then-not-branch-clause-are c =
    let init = c.args.types.now in
    let now = c.loop-at.types in
    let S = scopes_view c.args.scopes.now in
    let i = c.loop-at.at in
    let row = c.args.row.now in
    let there : get_or row i 0 < count_of init = c.requires i 0 c.loop-at-test.true in
    let is : is_variable i (refined_at S init (get_or row i 0)) ≡ false =
    ap (is_variable i) (sym (extends-at S init.rows.items now.rows.items (get_or row i 0) c.loop-at.invariant.grows there))
    ∙ sym c.in_ok-is_variable.ensures.is ∙ c.if-not-branch.true in
    sym (c.loop-at.invariant.are ∙ variables-no (types_of S init) row i 0 c.loop-at-test.true is)

pub loop-at-preserved : goal.loop-at-preserved
loop-at-preserved c =
    let init = c.args.types.now in
    let now = c.loop-at.types in
    let new = c.is_variable.new.types in
    let S = scopes_view c.args.scopes.now in
    let i = c.loop-at.at in
    let row = c.args.row.now in
    let there : get_or row i 0 < count_of init = c.requires i 0 c.loop-at-test.true in
    let is : is_variable i (refined_at S init (get_or row i 0)) ≡ true =
    ap (is_variable i) (sym (extends-at S init.rows.items now.rows.items (get_or row i 0) c.loop-at.invariant.grows there))
    ∙ sym c.in_ok-is_variable.ensures.is ∙ c.if-not-branch.false in
    record {
      are = c.loop-at.invariant.are ∙ variables-yes (types_of S init) row i 0 c.loop-at-test.true is;
      grows = Extends-trans init.rows.items now.rows.items new.rows.items c.loop-at.invariant.grows c.is_variable.ensures.grows;
    }
