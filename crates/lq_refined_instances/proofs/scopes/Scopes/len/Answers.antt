use Rattle.std.proofs.Common.{◌≡◌, length, vec_len, map, [], ◌∷◌, arith}
use Rattle.std.proofs.lemmas.List.{length-map}
use Rattle.lq_refined_instances.specs.Seen.{added_view}
use Rattle.lq_refined_instances.proofs.Tables.{length-grown}
use Rattle.lq_refined_instances.proofs.scopes.Scopes.len.Goals as goal

pub returns : goal.returns
returns c =
    let items = c.args.self.now.additions.items in
    let v : vec_len c.args.self.now.additions ≡ length items = c.args.self.now.additions.ok.0 in
    let m = length-map items added_view in
    let k = length-grown ([] ∷ []) (map added_view items) in
    let n = c.len.ensures in omega arith
