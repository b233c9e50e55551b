use Rattle.lq_logic_rows.specs.Clash.{clash}
use Rattle.lq_logic_rows.proofs.engine.conflict_or_point.Goals as goal

pub returns : goal.returns
returns c v rows ms s k = clash v rows ms s k
