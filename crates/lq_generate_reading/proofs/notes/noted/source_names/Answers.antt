use Rattle.std.proofs.Common.{slice_get, map, sym, ap, ◌∙◌}
use Rattle.lq_text_walk.specs.Scoped.Views.{source_view}
use Rattle.lq_text_walk.specs.Scoped.Whole.{scoped_view}
use Rattle.lq_generate_reading.proofs.NotesLemmas.Slots.{one_source}
use Rattle.lq_generate_reading.proofs.notes.noted.source_names.Goals as goal

pub loop-at-preserved : goal.loop-at-preserved
loop-at-preserved c =
    let sources = (scoped_view c.args.program.now).sources in
    ap (map source_view) c.in_ok-push.ensures.items
    ∙ one_source sources c.loop-at.texts.items c.source_of.result c.loop-at.at c.loop-at.invariant
    (ap (slice_get sources) (sym c.in_ok-number.ensures) ∙ c.source_of.ensures)
