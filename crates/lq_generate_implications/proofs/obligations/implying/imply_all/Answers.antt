use Rattle.std.proofs.Common.{◌<◌, get_or, length, take, refl, sym, ap, subst, ◌∙◌, arith}
use Rattle.std.proofs.lemmas.List.{take_all}
use Rattle.std.proofs.lemmas.List.Elements.{All-get_or}
use Rattle.lq_refined_substitution.specs.Implications.Growing.{Continues-refl, Continues-trans}
use Rattle.lq_refined_substitution.specs.Implications.Views.{count_of as implication_count, environment_lists, implications_of}
use Rattle.lq_refined_rules.specs.Obligations.Obligation.{all_implications, implications_in}
use Rattle.lq_refined_subtyping.specs.Table.Growing.{Extends-refl, Extends-trans}
use Rattle.lq_refined_subtyping.specs.Table.Whole.{count_of, types_of}
use Rattle.lq_refined_subtyping.specs.Split.Growing.{HasMore-refl, HasMore-trans}
use Rattle.lq_refined_subtyping.proofs.SplitLemmas.Appending.{appends-none, more-both, more-same}
use Rattle.lq_generate_implications.specs.Obligations.Views.{scopes_of, stated_view, IsShaped, IsThere}
use Rattle.lq_generate_implications.proofs.ObligationsLemmas.Keeping.{over-grown, shaped-kept, stated-kept}
use Rattle.lq_generate_implications.proofs.ObligationsLemmas.Stating.{all-more, as-many, nothing, stated-at}
use Rattle.lq_generate_implications.proofs.obligations.implying.imply_all.Goals as goal

pub loop-obligation-init : goal.loop-obligation-init
loop-obligation-init c = record {
  added = λ P xs o e. appends-none c.args.list.now;
  environments = HasMore-refl (environment_lists c.args.list.now);
  continues = Continues-refl c.args.list.now;
  grows = Extends-refl c.args.types.now.rows.items;
}

pub imply-requires-clause-shaped : goal.imply-requires-clause-shaped
imply-requires-clause-shaped c =
    let S = scopes_of c.args.sources.now in
    let t0 = c.args.types.now in
    let t1 = c.loop-obligation.types in
    let items = c.args.obligations.now in
    let i = c.loop-obligation.obligation-index in
    let x = c.obligation-item.result in
    let P = IsThere (length (environment_lists c.args.list.now)) (count_of t0) in
    let there = subst P (sym c.obligation-item.is) (All-get_or P items i x c.loop-obligation-test.true c.requires.there) in
    let shaped = subst (IsShaped (types_of S t0)) (sym c.obligation-item.is)
    (All-get_or (IsShaped (types_of S t0)) items i x c.loop-obligation-test.true c.requires.shaped) in
    shaped-kept S t0.rows.items t1.rows.items c.loop-obligation.invariant.grows x there.asked shaped

pub loop-obligation-preserved : goal.loop-obligation-preserved
loop-obligation-preserved c =
    let s = c.args.sources.now in
    let S = scopes_of s in
    let t0 = c.args.types.now in
    let t1 = c.loop-obligation.types in
    let t2 = c.imply.new.types in
    let l0 = c.args.list.now in
    let l1 = c.loop-obligation.list in
    let l2 = c.imply.new.list in
    let e0 = environment_lists l0 in
    let e1 = environment_lists l1 in
    let items = c.args.obligations.now in
    let i = c.loop-obligation.obligation-index in
    let x = c.obligation-item.result in
    let Q = IsThere (length e0) (count_of t0) in
    let there = subst Q (sym c.obligation-item.is) (All-get_or Q items i x c.loop-obligation-test.true c.requires.there) in
    record {
      added = λ P xs o e.
          let v = stated_view e0 (types_of S t0) in
          let d = nothing (v x).origin in
          let n = as-many P v xs items e in
          let inside : i < length xs = let h = c.loop-obligation-test.true in omega arith in
          more-same (implications_of l0) (implications_of l2) (implication_count l0) (implication_count l2) _ _ (sym (all-more P xs i d inside))
          (more-both (implications_of l0) (implications_of l1) (implications_of l1) (implications_of l2) (implication_count l0) (implication_count l1)
          (implication_count l1) (implication_count l2) (all_implications P (take i xs)) (implications_in P (get_or xs i d))
          (c.loop-obligation.invariant.added P xs o e) refl refl
          (c.in_ok-imply.ensures.added P (get_or xs i d)
          (over-grown P s t0.rows.items t1.rows.items c.loop-obligation.invariant.grows c.requires.fields o)
          (stated-at P v xs items e i d x c.loop-obligation-test.true ∙ ap v (sym c.obligation-item.is)
          ∙ sym (stated-kept S t0.rows.items t1.rows.items c.loop-obligation.invariant.grows e0 e1 c.loop-obligation.invariant.environments x there))));
      environments = HasMore-trans e0 e1 (environment_lists l2) c.loop-obligation.invariant.environments c.imply.ensures.environments;
      continues = Continues-trans l0 l1 l2 c.loop-obligation.invariant.continues c.imply.ensures.continues;
      grows = Extends-trans t0.rows.items t1.rows.items t2.rows.items c.loop-obligation.invariant.grows c.imply.ensures.grows;
    }

pub returns-clause-added : goal.returns-clause-added
returns-clause-added c =
    let s = c.args.sources.now in
    let l0 = c.args.list.now in
    let l1 = c.loop-obligation.list in
    λ P xs o e.
    let v = stated_view (environment_lists l0) (types_of (scopes_of s) c.args.types.now) in
    let n = as-many P v xs c.args.obligations.now e in
    more-same (implications_of l0) (implications_of l1) (implication_count l0) (implication_count l1) _ _
    (ap (all_implications P) (take_all c.loop-obligation.obligation-index xs (let h = c.loop-obligation-test.false in omega arith)))
    (c.loop-obligation.invariant.added P xs o e)
