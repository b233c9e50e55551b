use Rattle.lq_top_app.proofs.Determined.{determined}
use Rattle.lq_top_app.proofs.laws.one_report.Goals as goal

pub returns : goal.returns
returns c =
    determined
    record {
      judgements = c.one_judgement.ensures;
      posed = c.one_posing.ensures;
      faults = c.one_fault.ensures.faults;
      either = c.one_fault.ensures.either;
      handed = c.one_fault.ensures.handed;
    }
