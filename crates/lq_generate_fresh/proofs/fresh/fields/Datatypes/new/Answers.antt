use Rattle.std.proofs.Common.{◌++◌, map, take, sym, ap, subst, ◌∙◌, take_all}
use Rattle.std.proofs.lemmas.List.{append_assoc}
use Rattle.lq_text_tree.specs.Signatures.{predeclared}
use Rattle.lq_text_walk.specs.Scoped.Signature.{constructors_in, signed}
use Rattle.lq_text_walk.specs.Scoped.Views.{data_view}
use Rattle.lq_generate_fresh.specs.Fresh.Defined.{all_constructors, Holds}
use Rattle.lq_generate_fresh.proofs.FreshLemmas.Known.{datatypes_longer, described}
use Rattle.lq_generate_fresh.proofs.fresh.fields.Datatypes.new.Goals as goal

pub loop-datatype-preserved : goal.loop-datatype-preserved
loop-datatype-preserved c =
    let i = c.loop-datatype.datatype-index in
    let xs = c.args.defined.now in
    let x = c.datatype-item.result in
    let front = constructors_in (map data_view (take i xs)) in
    subst (Holds c.add_datatype.new.self)
    (append_assoc predeclared front (map (signed (data_view x)) (data_view x).constructors)
    ∙ ap (λ l. predeclared ++ l) (sym (datatypes_longer xs i x c.datatype-item.is c.loop-datatype-test.true)))
    (c.in_ok-add_datatype.ensures (predeclared ++ front) c.loop-datatype.invariant)

pub returns : goal.returns
returns c = λ differ.
    let xs = c.args.defined.now in
    described c.loop-datatype.datatypes (all_constructors (map data_view xs))
    (subst (λ l. Holds c.loop-datatype.datatypes (all_constructors (map data_view l))) (take_all c.loop-datatype.datatype-index xs c.loop-datatype-test.false)
    c.loop-datatype.invariant)
    differ
