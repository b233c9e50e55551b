use Rattle.std.proofs.Common.{◌≡◌, length, vec_len, [], ◌∷◌, arith}
use Rattle.lq_refined_substitution.proofs.EnvironmentsLemmas.Entries.{length-grown}
use Rattle.lq_refined_substitution.proofs.environments.environments.Environments.len.Goals as goal

pub returns : goal.returns
returns c =
    let v : vec_len c.args.self.now.entries ≡ length c.args.self.now.entries.items = c.args.self.now.entries.ok.0 in
    let k = length-grown ([] ∷ []) c.args.self.now.entries.items in
    let n = c.len.ensures in omega arith
