use Rattle.std.proofs.Common.{◌∙◌, ◌<◌, [], ◌∷◌, ◌++◌, ◌==◌, cond, length, ap, arith}
use Rattle.lq_generate_datatypes.proofs.Items.{items-set}
use Rattle.lq_generate_datatypes.proofs.building.push_at.Goals as goal

pub returns : goal.returns
returns g c = λ i.
    let w = c.args.name.0 in
    let rows = c.widen.new.rows.items in
    let inside : w < length rows = (let l = c.in_ok-widen.ensures.long in omega arith) in
    items-set rows w c.index_mut.result.now c.push.new.self c.args.item inside c.index_mut.ensures.value c.in_ok-push.ensures.items i
    ∙ ap (λ l. l ++ cond (w == i) (c.args.item ∷ []) []) (c.in_ok-widen.ensures.same i)
