use Rattle.lq_solve_strongest.proofs.SmallFormsLemmas.Rows.{narrow_gathers}
use Rattle.lq_solve_strongest.proofs.small_forms.laws.narrow_implications_gather.Goals as goal

pub returns : goal.returns
returns c = narrow_gathers
