use Rattle.std.proofs.Common.{◌++◌, map, take, sym, ap, subst, ◌∙◌}
use Rattle.std.proofs.lemmas.List.{append_assoc}
use Rattle.lq_text_tree.specs.Signatures.{predeclared}
use Rattle.lq_text_walk.specs.Scoped.Signature.{constructors_in, signed}
use Rattle.lq_text_walk.specs.Scoped.Views.{data_view}
use Rattle.lq_types_rules.specs.Constructors.Holding.{Holds}
use Rattle.lq_types_rules.proofs.ConstructorsLemmas.Filing.{datatypes_longer}
use Rattle.lq_types_rules.proofs.constructors.table.constructors_of.Goals as goal

pub loop-datatype-preserved : goal.loop-datatype-preserved
loop-datatype-preserved c =
    let i = c.loop-datatype.datatype-index in
    let xs = c.args.datatypes.now in
    let x = c.datatype-item.result in
    let front = constructors_in (map data_view (take i xs)) in
    subst (Holds c.add_datatype.new.constructors)
    (append_assoc predeclared front (map (signed (data_view x)) (data_view x).constructors) ∙ ap (λ l. predeclared ++ l) (sym (datatypes_longer xs i x c.datatype-item.is c.loop-datatype-test.true)))
    (c.in_ok-add_datatype.ensures (predeclared ++ front) c.loop-datatype.invariant)
