use Rattle.lq_logic_rows.specs.Seen.{level_seen}
use Rattle.lq_logic_rows.proofs.value.level_sees_its_terms.Goals as goal

pub returns : goal.returns
returns c v w row h = level_seen v w row h
