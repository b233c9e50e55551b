use Rattle.lq_generate_reading.specs.Visibility.Latest.{latest_in}
use Rattle.lq_generate_reading.specs.Visibility.Notes.{annotation_view}
use Rattle.lq_generate_reading.proofs.VisibilityLemmas.FitsSteps.{forgotten}
use Rattle.lq_generate_reading.proofs.visibility.bound.Bound.forget.Goals as goal

pub returns-in-Some-clause-fits : goal.returns-in-Some-clause-fits
returns-in-Some-clause-fits c = λ m all h.
    record {
      levels = forgotten (annotation_view m) all c.args.self.now.entries.items c.args.self.now.levels.items c.pop.new.self.items c.in-Some.level
          (latest_in c.args.self.now.latest.entries) (latest_in c.set_latest-refused.new.latest.entries) c.in-Some.ensures.items h.levels
          c.set_latest-refused.result c.set_latest-refused.ensures.set c.set_latest-refused.ensures.kept c.set_latest-refused.ensures.absent;
    }
