use Rattle.std.proofs.Common.{sym, arith}
use Rattle.lq_prover_simplex.proofs.Tables.{standing_length}
use Rattle.lq_prover_simplex.proofs.tableau.TableauLinearEngine.mark.Goals as goal

pub returns : goal.returns
returns c = rw (sym c.self.view_is) (let e = standing_length c.self.inside.rows.items in let k = c.self.inside.rows.ok.0 in let l = c.len.ensures in omega arith)
