use Rattle.std.proofs.Common.{refl, sym}
use Rattle.lq_refined_substitution.specs.Implications.Views.{count_of, environment_at, implications_of}
use Rattle.lq_refined_types.specs.Types.Refined.{top}
use Rattle.lq_refined_subtyping.specs.Table.Whole.{refined_at}
use Rattle.lq_refined_types.specs.Subtyping.Subtype.{facts}
use Rattle.lq_refined_subtyping.specs.Split.Given.{origin_of, scopes_of, setting_of}
use Rattle.lq_refined_subtyping.proofs.SplitLemmas.Appending.{goals-more, on-ok-both}
use Rattle.lq_refined_subtyping.proofs.split.tops.tops.Goals as goal

pub returns-clause-added : goal.returns-clause-added
returns-clause-added c =
    let given = c.args.given.now in
    let S = scopes_of given in
    let l0 = c.args.list.now in
    let l1 = c.tops.new.list in
    let hs = environment_at l0 c.args.env in
    let ls = top (refined_at S c.args.types.now c.args.sides.0) in
    let qs = top (refined_at S c.args.types.now c.args.sides.1) in
    on-ok-both c.tops.result c.tops.ensures.added c.tops.ensures.counted
    (λ a k. λ g Γ e. goals-more (implications_of l0) (implications_of l0) (implications_of l1) (count_of l0) (count_of l0) (count_of l1)
    (facts (setting_of given g) Γ) hs ls ls qs qs (origin_of given) refl refl (sym e) refl refl (a S) (k S))
