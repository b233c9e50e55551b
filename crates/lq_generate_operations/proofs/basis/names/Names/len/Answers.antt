use Rattle.std.proofs.Common.{[], arith}
use Rattle.lq_generate_operations.proofs.BasisLemmas.Binding.{length-bound}
use Rattle.lq_generate_operations.proofs.basis.names.Names.len.Goals as goal

pub returns : goal.returns
returns c =
    let v = c.args.self.now.bindings.ok.0 in let k = length-bound [] c.args.self.now.bindings.items in let n = c.len.ensures in omega arith
