use Rattle.std.proofs.Common.{◌∙◌, None, sym, ap, subst}
use Rattle.lq_refined_rules.specs.Checks.Tree as t
use Rattle.lq_refined_templates.specs.Points.Pure.{Read, variable_of}
use Rattle.lq_generate_reading.specs.Visibility.Notes.{annotation_view}
use Rattle.lq_generate_reading.specs.Reading.State.{count_of, seen_of, Reads}
use Rattle.lq_generate_reading.proofs.ReadingLemmas.Composing.{reads_nothing}
use Rattle.lq_generate_reading.proofs.ReadingLemmas.Forms.{atom_seen, no_variable}
use Rattle.lq_generate_reading.proofs.reading.state.State.variable.Goals as goal

pub returns-in_default : goal.returns-in_default
returns-in_default c =
    let m = c.args.notes.now in
    let s = c.args.self.now in
    let a = c.args.atom.now in
    let u : t.Use = record { name = 0; type_arguments = None } in
    subst (λ (r : Read t.Use). Reads m s s u r)
    (sym (ap (variable_of (annotation_view m) (seen_of s) (count_of s)) (atom_seen a)
    ∙ no_variable (annotation_view m) (seen_of s) (count_of s) a.id a.node c.in_default.not-Use))
    (reads_nothing m s u c.requires)
