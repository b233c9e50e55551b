use Rattle.std.proofs.Common.{◌≡◌, ap, arith}
use Rattle.lq_refined_subtyping.specs.Table.Growing.{extends-at, extends-count, Extends-trans}
use Rattle.lq_refined_subtyping.specs.Table.Whole.{count_of, refined_at}
use Rattle.lq_refined_substitution.specs.Substitution.Views.{scopes_view}
use Rattle.lq_refined_subtyping.specs.Split.Counting.{on_right}
use Rattle.lq_refined_subtyping.proofs.SplitLemmas.Lengths.{split-count}
use Rattle.lq_refined_subtyping.proofs.SplitLemmas.Rows.{extends-back}
use Rattle.lq_refined_subtyping.proofs.split.counting.implication_count.Goals as goal

pub returns-clause-count : goal.returns-clause-count
returns-clause-count c =
    let init = c.args.types.now in
    let now = c.counts.new.types in
    let S = scopes_view c.args.scopes.now in
    let l = c.args.sides.0 in
    let r = c.args.sides.1 in
    let stays : on_right (refined_at S now r) ≡ on_right (refined_at S init r) = ap on_right (extends-at S init.rows.items now.rows.items r c.in_ok-left.ensures.grows c.requires.right) in
    let left = c.in_ok-left.ensures.left in
    let right = c.in_ok-right.ensures.right in
    let e = c.saturating_add.ensures in
    λ P o Γ. let n = split-count P o Γ (refined_at S init l) (refined_at S init r) c.requires.same in omega arith

pub returns-clause-grows : goal.returns-clause-grows
returns-clause-grows c =
    let init = c.args.types.now in
    let now = c.counts.new.types in
    let last = c.counts-2.new.types in
    let new = c.truncate.new.self in
    let both = Extends-trans init.rows.items now.rows.items last.rows.items c.in_ok-left.ensures.grows c.in_ok-right.ensures.grows in
    let more = extends-count init.rows.items last.rows.items both in
    let cut = c.truncate.ensures.count in
    let len = c.len-len.ensures in
    let same : count_of new ≡ count_of init = omega arith in
    extends-back init.rows.items new.rows.items last.rows.items both c.truncate.ensures.kept same
