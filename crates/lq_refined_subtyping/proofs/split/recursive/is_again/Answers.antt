use Rattle.std.proofs.Common.{◌≡◌, sym, ap, ◌∙◌}
use Rattle.lq_refined_types.specs.Types.Refined.{data_with}
use Rattle.lq_refined_subtyping.specs.Table.Forms.{each, form_type, matrix_view}
use Rattle.lq_refined_subtyping.specs.Table.Whole.{refined_at, types_of}
use Rattle.lq_refined_substitution.specs.Substitution.Views.{parts_view, scopes_view}
use Rattle.lq_refined_subtyping.specs.Split.Recursive.{again, are_variables}
use Rattle.lq_refined_subtyping.proofs.SplitLemmas.Again.{again-data, again-longer}
use Rattle.lq_refined_subtyping.proofs.split.recursive.is_again.Goals as goal

pub returns-then-len-count-clause-is : goal.returns-then-len-count-clause-is
returns-then-len-count-clause-is c =
    let init = c.args.types.now in
    let now = c.expose.new.self in
    let S = scopes_view c.args.scopes.now in
    let all = types_of S now in
    let d = c.args.datatype.0 in
    let n = c.args.count in
    let top = parts_view c.node.result.now.top in
    let row = c.in-Data.arguments.items in
    let whole : refined_at S init c.args.at ≡ data_with c.in-Data.name.0 (each all row) (matrix_view c.in-Data.field-2) top =
    sym c.in_ok-exposed.ensures.refined ∙ c.node.ensures.refined S ∙ sym (c.in_ok-form.ensures.same all top)
    ∙ ap (λ f. form_type all f top) c.in-Data.is in
    sym (ap (again d n) whole ∙ again-longer all d c.in-Data.name.0 n row (matrix_view c.in-Data.field-2) top
    (λ e. c.if-len-count.true (c.len.ensures ∙ c.in-Data.arguments.ok.0 ∙ e)))

pub returns-in-Data-clause-is : goal.returns-in-Data-clause-is
returns-in-Data-clause-is c =
    let init = c.args.types.now in
    let now = c.expose.new.self in
    let S = scopes_view c.args.scopes.now in
    let all = types_of S now in
    let d = c.args.datatype.0 in
    let n = c.args.count in
    let top = parts_view c.node.result.now.top in
    let row = c.in-Data.arguments.items in
    let whole : refined_at S init c.args.at ≡ data_with c.in-Data.name.0 (each all row) (matrix_view c.in-Data.field-2) top =
    sym c.in_ok-exposed.ensures.refined ∙ c.node.ensures.refined S ∙ sym (c.in_ok-form.ensures.same all top)
    ∙ ap (λ f. form_type all f top) c.in-Data.is in
    c.in_ok-are-in-Data.ensures.are ∙ ap (λ l. are_variables 0 (each all l)) c.deref.ensures.value
    ∙ sym (ap (again d n) whole ∙ again-data all d c.in-Data.name.0 n row (matrix_view c.in-Data.field-2) top c.if-name-datatype.false
    (sym c.in-Data.arguments.ok.0 ∙ sym c.len.ensures ∙ c.if-len-count.false))
