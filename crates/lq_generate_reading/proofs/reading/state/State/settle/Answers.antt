use Rattle.std.proofs.Common.{◌∙◌, ◌++◌, length, take, drop, cond, refl, sym, ap}
use Rattle.lq_refined_templates.specs.Points.Reading.{all_idled}
use Rattle.lq_generate_reading.specs.Visibility.Growing.{Longer-refl}
use Rattle.lq_generate_reading.specs.Visibility.Notes.{types_in}
use Rattle.lq_generate_reading.specs.Reading.State.{points_in, scopes_of}
use Rattle.lq_generate_reading.proofs.reading.state.State.settle.Goals as goal

pub returns-in_ok-idle_from : goal.returns-in_ok-idle_from
returns-in_ok-idle_from c =
    let m = c.args.notes.now in
    let old = c.args.self.now in
    let k = c.args.mark in
    let types = types_in m in
    record {
      points = c.in_ok-idle_from.ensures.idled (scopes_of old) types
          ∙ sym (ap (λ b. cond b (points_in m old) (take k (points_in m old) ++ all_idled (drop k (points_in m old)))) c.if-not-stay.true);
      seen = refl;
      scopes = Longer-refl (scopes_of old);
      stands = record {
        right = c.requires.stands.right;
        fits = c.requires.stands.fits;
        there = c.in_ok-idle_from.ensures.there (length (scopes_of old)) (length types) c.requires.stands.there;
      };
    }
