use Rattle.std.proofs.Common.{◌≡◌, true, Some, refl, ap, ◌∙◌}
use Rattle.lq_meaning_normal_tree.specs.BlockView.{lets_view, local_view, operation_view}
use Rattle.lq_base_names.specs.declared.name.Binder.{Binder}
use Rattle.lq_text_tree.specs.PatternView.{pat_view}
use Rattle.lq_text_tree.specs.TreeView.{scoped_view}
use Rattle.lq_meaning_normal_form.specs.Outcomes.Naming.{parameter}
use Rattle.lq_text_tree.specs.Tree.{Tree}
use Rattle.lq_meaning_normalize.specs.Pass.Forming.{body_under, is_matched}
use Rattle.lq_meaning_normalize.specs.Pass.Views.{became, lets_of, under_view, is_there}
use Rattle.lq_meaning_normalize.specs.Normalize.Frames.{plugged}
use Rattle.lq_meaning_normalize.proofs.NormalizeLemmas.BodySteps.{bound_matches}
use Rattle.lq_meaning_normalize.proofs.normalize.frames.Machine.bound.Goals as goal

pub returns-in_ok-next-in-Some-clause-whole : goal.returns-in_ok-next-in-Some-clause-whole
returns-in_ok-next-in-Some-clause-whole c =
    let q = pat_view Binder (λ b. b.0) c.args.pattern.now in
    let P = c.parameter.new.pass in let Q = c.bind.new.self in let R = c.begin_block-around.new.pass in
    let l = c.in_ok-local.field-0.local in
    let r = c.in-Some.pattern in
    let there : is_there (Some r) ≡ true = refl in
    let matched : is_matched q ≡ true = (let m = c.in_ok-local.ensures.matched in let p = c.in_ok-local.pattern-is in let s = c.in-Some.is in cc (there, m, p, s)) in
    let local : local_view c.in_ok-local.field-0.local ≡ parameter c.args.self.now.pass.next q = (let m = c.in_ok-local.ensures.local in let p = c.in_ok-local.local-is in cc (m, p)) in
    let under : (d : Tree) → under_view l (Some r) d ≡ body_under c.args.self.now.pass.next q d =
    (λ d. let m = c.in_ok-local.ensures.under d in let p = c.in_ok-local.pattern-is in let o = c.in_ok-local.local-is in let s = c.in-Some.is in cc (m, p, o, s)) in
    c.in_ok-next-in-Some.ensures.whole
    ∙ ap (plugged c.args.self.now.frames.items)
    (bound_matches c.args.label.id c.args.label.place q (became c.args.self.now.pass c.args.normal) (scoped_view c.args.body.now) (lets_of P) (lets_of Q) (lets_of R)
    (lets_view c.begin_block-around.result.items) Q.next R.next (local_view c.in_ok-local.field-0.local) (operation_view c.into_operation-value.result) l c.in-Some.pattern
    matched local c.in_ok-local.ensures.lets c.in_ok-bind.ensures.lets c.into_operation-value.ensures
    (c.in_ok-bind.ensures.next ∙ c.in_ok-local.ensures.next) c.begin_block-around.ensures.around c.begin_block-around.ensures.lets c.begin_block-around.ensures.next
    under)
