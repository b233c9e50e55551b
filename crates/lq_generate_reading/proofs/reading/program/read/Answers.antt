use Rattle.std.proofs.Common.{◌∙◌, length, sym, ap, ap₂}
use Rattle.lq_meaning_normal_tree.specs.BlockView.{definitions_view}
use Rattle.lq_refined_rules.specs.Checks.Tree as t
use Rattle.lq_refined_templates.specs.Points.Pure.{Read}
use Rattle.lq_refined_templates.specs.Points.Reading.{program_from}
use Rattle.lq_generate_reading.specs.Visibility.Notes.{annotation_view}
use Rattle.lq_generate_reading.proofs.ReadingLemmas.ItemForms.{items_onto-all}
use Rattle.lq_generate_reading.proofs.reading.program.read.Goals as goal

pub returns-clause-program : goal.returns-clause-program
returns-clause-program c =
    let n = annotation_view c.args.notes.now in
    let is = definitions_view c.args.definitions.now in
    sym (items_onto-all c.in_ok-items.items.items)
    ∙ (ap (λ (r : Read t.Program). r.read) (sym c.in_ok-items.ensures.is)
    ∙ ap₂ (λ k Δ. (program_from n k Δ is).read) (ap length c.new-2.ensures.items) c.new.ensures.seen)
