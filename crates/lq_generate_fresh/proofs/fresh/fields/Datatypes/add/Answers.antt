use Rattle.std.proofs.Common.{◌∙◌, ◌<◌, [], ◌∷◌, ◌++◌, length, map, ap, arith}
use Rattle.std.specs.Vec.{with_item}
use Rattle.lq_generate_fresh.specs.Fresh.Views.{field_view}
use Rattle.lq_generate_fresh.specs.declared.fresh.fields.Constructor.{Constructor}
use Rattle.lq_generate_fresh.specs.declared.fresh.fields.Datatypes.{Datatypes}
use Rattle.lq_generate_fresh.proofs.FreshLemmas.Known.{held_more, row_longer, row_other}
use Rattle.lq_generate_fresh.proofs.fresh.fields.Datatypes.add.Goals as goal

pub returns : goal.returns
returns c = λ ks k q a h.
    let w = c.args.datatype.0 in
    let rows = c.widen.new.self.rows.items in
    let wide = c.in_ok-widen.ensures in
    let inside : w < length rows = (let l = wide.long in omega arith) in
    let made : Constructor = record { name = c.args.name; fields = c.args.fields } in
    let later : Datatypes = record { rows = with_item c.widen.new.self.rows w c.push.new.self } in
    held_more c.args.self.now later ks w c.args.name.0 k (map field_view c.args.fields.items) q a
    (λ d n. row_other rows w d c.push.new.self n ∙ wide.same d)
    (row_longer rows w c.index_mut.result.now c.push.new.self made inside c.index_mut.ensures.value c.in_ok-push.ensures.items
    ∙ ap (λ l. l ++ (c.args.name.0, map field_view c.args.fields.items) ∷ []) (wide.same w)) h
