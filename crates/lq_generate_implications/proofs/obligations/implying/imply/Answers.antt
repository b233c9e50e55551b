use Rattle.std.proofs.Common.{◌≡◌, refl, sym, ap, ◌∙◌}
use Rattle.lq_refined_substitution.specs.Implications.Views.{count_of, environment_at, implications_of, origin_view}
use Rattle.lq_refined_rules.specs.Obligations.Obligation.{fits}
use Rattle.lq_refined_subtyping.specs.Table.Whole.{refined_at, types_of}
use Rattle.lq_refined_subtyping.proofs.SplitLemmas.Appending.{more-same}
use Rattle.lq_refined_types.specs.Subtyping.Subtype.{Setting, facts}
use Rattle.lq_generate_implications.specs.Obligations.Views.{asked_view, scopes_of, stated}
use Rattle.lq_generate_implications.proofs.ObligationsLemmas.Stating.{of-fits, setting-is, on-ok}
use Rattle.lq_generate_implications.proofs.obligations.implying.imply.Goals as goal

pub returns-in-Fits-clause-added : goal.returns-in-Fits-clause-added
returns-in-Fits-clause-added c =
    let l0 = c.args.list.now in
    let l1 = c.split-made.new.list in
    let s = c.args.sources.now in
    let x = c.args.obligation.now in
    let S = scopes_of s in
    let types = c.args.types.now in
    let o = origin_view x.place x.reason in
    on-ok c.split-made.result c.split-made.ensures.added
    (λ added P y over e.
    let Q : Setting = record { scopes = S; constructors = P.setting.constructors } in
    let same = setting-is P Q over.scopes refl in
    let h : stated P y ≡ record { facts = environment_at l0 x.env; asked = fits (refined_at S types c.in-Fits.left) (refined_at S types c.in-Fits.right); origin = o } =
    e ∙ ap (λ a. record { facts = environment_at l0 x.env; asked = asked_view (types_of S types) a; origin = o }) c.in-Fits.is in
    more-same (implications_of l0) (implications_of l1) (count_of l0) (count_of l1) _ _
    (sym (of-fits P Q y (environment_at l0 x.env) (refined_at S types c.in-Fits.left) (refined_at S types c.in-Fits.right) o same h))
    (added P.setting.constructors y.context over.fields (ap (λ q. facts q y.context) (sym same) ∙ ap (λ q. q.facts) e)))
