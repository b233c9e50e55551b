use Rattle.std.proofs.Common.{◌≡◌, IfOk, sym, ap, subst, ◌∙◌, rules}
use Rattle.lq_top_answers.specs.Assignment.Views.{assignment_view}
use Rattle.lq_refined_types.specs.Types.Operations.{under}
use Rattle.lq_refined_types.specs.Types.Refined.{Refined, unit_type}
use Rattle.lq_refined_subtyping.specs.Table.Whole.{count_of, types_of}
use Rattle.lq_refined_substitution.specs.Substitution.Views.{scopes_view}
use Rattle.lq_top_answers.specs.TypeText.ShownView.{shown_view}
use Rattle.lq_top_answers.specs.declared.type_text.tree.Shown.{the_lemmas}
use Rattle.lq_top_answers.specs.declared.type_text.tree.Shown.TheVariants as tree
use Rattle.lq_top_answers.proofs.inferred.lines.type_of.Goals as goal

unit_seen : shown_view tree.Unit ≡ unit_type
unit_seen = search (rules, the_lemmas)

pub type_at-requires : goal.type_at-requires
type_at-requires c = c.in-Some.ensures.below (count_of c.args.types.now) c.requires

pub returns-in-Some-clause-shown : goal.returns-in-Some-clause-shown
returns-in-Some-clause-shown c =
    let A = assignment_view c.args.solution.now.assignment.now in
    let S = scopes_view c.args.solution.now.scopes.now in
    subst (λ (t : Refined). IfOk c.type_at.result (λ made. shown_view made ≡ under A t)) (sym (c.in-Some.ensures.template (types_of S c.args.types.now))) c.type_at.ensures.shown

pub returns-in-None-clause-shown : goal.returns-in-None-clause-shown
returns-in-None-clause-shown c =
    let A = assignment_view c.args.solution.now.assignment.now in
    let S = scopes_view c.args.solution.now.scopes.now in
    unit_seen ∙ ap (under A) (sym (c.in-None.ensures.template (types_of S c.args.types.now)))
