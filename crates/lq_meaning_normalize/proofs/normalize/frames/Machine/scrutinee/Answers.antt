use Rattle.std.proofs.Common.{◌≡◌, map, ap, ◌∙◌}
use Rattle.lq_meaning_normal_tree.specs.BlockView.{branch_view}
use Rattle.lq_base_names.specs.declared.name.Binder.{Binder}
use Rattle.lq_text_tree.specs.TreeView.{scoped_view, cases_of, cases_view}
use Rattle.lq_text_walk.specs.Walk.Shape.{listed_cases}
use Rattle.lq_meaning_normalize.specs.Pass.Forming.{formed_cases}
use Rattle.lq_meaning_normalize.specs.Pass.Views.{became, lets_of}
use Rattle.lq_meaning_normalize.specs.Normalize.Frames.{plugged, match_with, scrutinee_view}
use Rattle.lq_meaning_normalize.proofs.NormalizeLemmas.BodySteps.{scrutinee_done}
use Rattle.lq_meaning_normalize.proofs.normalize.frames.Machine.scrutinee.Goals as goal

pub returns-clause-whole : goal.returns-clause-whole
returns-clause-whole c =
    let cs = listed_cases (cases_view Binder (λ b. b.0) c.args.all.now) in
    let P = c.scrutinee.new.pass in let x = scrutinee_view c.in_ok-scrutinee.scrutinee in
    c.in_ok-next.ensures.whole
    ∙ ap (plugged c.args.self.now.frames.items)
    (ap (λ bs. match_with c.args.label.id c.args.label.place (lets_of P) x (map branch_view bs) (formed_cases P.next (cases_of cs))) c.new-done.ensures.items
    ∙ scrutinee_done c.args.label.id c.args.label.place (scoped_view c.args.part.now) (became c.args.self.now.pass c.args.normal) (lets_of P) P.next x cs c.in_ok-scrutinee.ensures)
