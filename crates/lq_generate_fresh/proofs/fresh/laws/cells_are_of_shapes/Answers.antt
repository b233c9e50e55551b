use Rattle.lq_generate_fresh.specs.Fresh.Views.{constructors_of}
use Rattle.lq_generate_fresh.proofs.FreshLemmas.Cells.{constructors_same}
use Rattle.lq_generate_fresh.proofs.fresh.laws.cells_are_of_shapes.Goals as goal

pub returns : goal.returns
returns c = λ D g ordered n d us h. constructors_same d us g n (ordered d) (constructors_of D d) (h d)
