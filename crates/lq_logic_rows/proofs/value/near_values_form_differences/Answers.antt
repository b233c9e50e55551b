use Rattle.lq_logic_rows.specs.Nearness.{near_formed}
use Rattle.lq_logic_rows.proofs.value.near_values_form_differences.Goals as goal

pub returns : goal.returns
returns c n terms v row small near d t size = near_formed n terms v row small near d t size
