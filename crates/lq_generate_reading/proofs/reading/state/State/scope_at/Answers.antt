use Rattle.std.proofs.Common.{◌∙◌, length, refl, sym}
use Rattle.std.proofs.lemmas.List.{append-nil}
use Rattle.lq_generate_reading.specs.Visibility.Notes.{types_in}
use Rattle.lq_generate_reading.specs.Reading.State.{points_in, scopes_of}
use Rattle.lq_generate_reading.proofs.ReadingLemmas.Kept.{all_there_kept, views_kept}
use Rattle.lq_refined_instances.specs.Views.{scopes_view}
use Rattle.lq_generate_reading.proofs.reading.state.State.scope_at.Goals as goal

pub returns-clause-reads : goal.returns-clause-reads
returns-clause-reads c =
    let old = c.args.self.now in
    let new = scopes_view c.scope_at.new.scopes in
    let types = types_in c.args.notes.now in
    let longer = c.scope_at.ensures.grown in
    record {
      read = refl;
      points = views_kept (scopes_of old) new longer types (length types) old.points.items c.requires.there ∙ sym (append-nil (points_in c.args.notes.now old));
      seen = c.scope_at.ensures.kept;
      scopes = longer;
      stands = record { right = c.requires.right; fits = c.scope_at.ensures.fits; there = all_there_kept (scopes_of old) new longer (length types) old.points.items c.requires.there };
    }
