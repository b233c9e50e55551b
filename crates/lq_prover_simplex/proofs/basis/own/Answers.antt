use Rattle.std.proofs.lemmas.Result.{IfOk-weaker}
use Rattle.lq_prover_simplex.proofs.basis.own.Goals as goal

pub returns : goal.returns
returns c = IfOk-weaker c.single.result _ _ (λ line e. record { factor = c.whole.result; is = e; one = c.whole.ensures.value }) c.single.ensures
