use Rattle.lq_logic_points.specs.Values.{numbers_of, table_of, values_of}
use Rattle.lq_logic_predicates.specs.NnfView.{nnf_view}
use Rattle.lq_logic_predicates.specs.PredView.{formula_of}
use Rattle.lq_logic_predicates.specs.TableView.{terms_of}
use Rattle.lq_cases_kit.proofs.Readable.{can_evaluate}
use Rattle.lq_cases_kit.proofs.meeting.meets.Goals as goal

pub holds-requires : goal.holds-requires
holds-requires c =
    can_evaluate c.gathered_readings_can_be_evaluated.ensures c.args.positive (formula_of c.args.pred.now) (table_of (values_of c.args.point.now))
    (terms_of c.args.table.now) (terms_of c.tighten.new.table) (numbers_of (values_of c.args.point.now)) (nnf_view c.in_ok-reading.reading)
    c.requires.table c.in_ok-reading.ensures.numbered c.requires.numbered c.len-terms.ensures.distinct c.in_ok-reading.ensures.reading c.requires.evaluates
