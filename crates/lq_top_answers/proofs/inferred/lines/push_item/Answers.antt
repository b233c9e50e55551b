use Rattle.std.proofs.Common.{◌≡◌, ℕ, List, ◌++◌, OnOk, sym, ap, subst, ◌∙◌}
use Rattle.std.proofs.lemmas.List.{append-nil}
use Rattle.lq_refined_subtyping.specs.Table.Growing.{Extends-refl}
use Rattle.lq_top_answers.specs.Inferred.Views.{solution_view}
use Rattle.lq_top_answers.proofs.inferred.lines.push_item.Goals as goal

pub returns-in-Some-clause-text : goal.returns-in-Some-clause-text
returns-in-Some-clause-text c =
    let I = solution_view c.args.types.now c.args.solution.now in
    let old = c.args.line.now.items in
    subst (λ (l : List ℕ). OnOk c.push_definition.result (c.push_definition.new.line.items ≡ old ++ l)) (sym (c.in-Some.ensures I)) c.push_definition.ensures.text

pub returns-in-None-clause-text : goal.returns-in-None-clause-text
returns-in-None-clause-text c =
    let I = solution_view c.args.types.now c.args.solution.now in
    let old = c.args.line.now.items in
    sym (append-nil old) ∙ ap (λ (l : List ℕ). old ++ l) (sym (c.in-None.ensures I))

pub returns-in-None-clause-grows : goal.returns-in-None-clause-grows
returns-in-None-clause-grows c = Extends-refl c.args.types.now.rows.items
