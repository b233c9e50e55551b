use Rattle.std.proofs.Common.{◌-◌, ◌^◌, ◌<◌, get_or, length, min, take, sym, ap, subst, ◌∙◌, arith}
use Rattle.std.proofs.lemmas.List.{take_all}
use Rattle.std.proofs.lemmas.List.Elements.{All-get_or}
use Rattle.lq_refined_rules.specs.Obligations.Obligation.{all_implications, implications_in}
use Rattle.lq_refined_subtyping.specs.Table.Growing.{Extends-trans}
use Rattle.lq_refined_subtyping.specs.Table.Whole.{count_of, types_of}
use Rattle.lq_refined_substitution.specs.Substitution.Views.{scopes_view}
use Rattle.lq_generate_implications.specs.Obligations.Views.{stated_view, IsAskedThere, IsShaped}
use Rattle.lq_generate_implications.proofs.ObligationsLemmas.Keeping.{shaped-kept, types-kept}
use Rattle.lq_generate_implications.proofs.ObligationsLemmas.Stating.{all-more, as-many, count-on, nothing, stated-at}
use Rattle.lq_generate_implications.proofs.obligations.counting.count_all.Goals as goal

pub count-requires-clause-shaped : goal.count-requires-clause-shaped
count-requires-clause-shaped c =
    let S = scopes_view c.args.scopes.now in
    let t0 = c.args.types.now in
    let t1 = c.loop-obligation.types in
    let items = c.args.obligations.now in
    let i = c.loop-obligation.obligation-index in
    let x = c.obligation-item.result in
    let there = subst (λ y. IsAskedThere (count_of t0) y.asked) (sym c.obligation-item.is)
    (All-get_or (λ y. IsAskedThere (count_of t0) y.asked) items i x c.loop-obligation-test.true c.requires.there) in
    let shaped = subst (IsShaped (types_of S t0)) (sym c.obligation-item.is)
    (All-get_or (IsShaped (types_of S t0)) items i x c.loop-obligation-test.true c.requires.shaped) in
    shaped-kept S t0.rows.items t1.rows.items c.loop-obligation.invariant.grows x there shaped

pub loop-obligation-preserved : goal.loop-obligation-preserved
loop-obligation-preserved c =
    let S = scopes_view c.args.scopes.now in
    let t0 = c.args.types.now in
    let t1 = c.loop-obligation.types in
    let t2 = c.count.new.types in
    let items = c.args.obligations.now in
    let i = c.loop-obligation.obligation-index in
    let x = c.obligation-item.result in
    let there = subst (λ y. IsAskedThere (count_of t0) y.asked) (sym c.obligation-item.is)
    (All-get_or (λ y. IsAskedThere (count_of t0) y.asked) items i x c.loop-obligation-test.true c.requires.there) in
    record {
      count = λ P xs es e.
          let v = stated_view es (types_of S t0) in
          let d = nothing (v x).origin in
          let n = as-many P v xs items e in
          let inside : i < length xs = let h = c.loop-obligation-test.true in omega arith in
          let now = c.in_ok-more.ensures.count P (get_or xs i d) es
          (stated-at P v xs items e i d x c.loop-obligation-test.true ∙ ap v (sym c.obligation-item.is)
          ∙ sym (types-kept S t0.rows.items t1.rows.items c.loop-obligation.invariant.grows es x there)) in
          c.saturating_add-total.ensures
          ∙ count-on c.loop-obligation.total c.in_ok-more.more (2 ^ 64 - 1) (all_implications P (take i xs)) (implications_in P (get_or xs i d)) _
          (all-more P xs i d inside) (c.loop-obligation.invariant.count P xs es e) now;
      grows = Extends-trans t0.rows.items t1.rows.items t2.rows.items c.loop-obligation.invariant.grows c.count.ensures.grows;
    }

pub returns-clause-count : goal.returns-clause-count
returns-clause-count c =
    λ P xs es e.
    let v = stated_view es (types_of (scopes_view c.args.scopes.now) c.args.types.now) in
    let n = as-many P v xs c.args.obligations.now e in
    c.loop-obligation.invariant.count P xs es e
    ∙ ap (λ l. min (length (all_implications P l)) (2 ^ 64 - 1)) (take_all c.loop-obligation.obligation-index xs (let h = c.loop-obligation-test.false in omega arith))
