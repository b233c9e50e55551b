use Rattle.lq_refined_subtyping.proofs.TableLemmas.Twins.{twins-stay}
use Rattle.lq_refined_subtyping.proofs.table.changes.Change.has_twins.Goals as goal

pub returns-in-Twin : goal.returns-in-Twin
returns-in-Twin c = λ _ scopes all. twins-stay scopes all c.args.self.now c.in-Twin.is

pub returns-in-Twin-2 : goal.returns-in-Twin-2
returns-in-Twin-2 c = λ _ scopes all. twins-stay scopes all c.args.self.now c.in-Twin.is
