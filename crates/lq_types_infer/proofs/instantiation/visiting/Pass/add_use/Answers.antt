use Rattle.lq_types_table.specs.Whole as table
use Rattle.lq_types_infer.specs.Annotation.Whole.{program_of, table_of, types_of}
use Rattle.lq_types_infer.proofs.InstantiationLemmas.Going.{becomes_merely}
use Rattle.lq_types_infer.proofs.instantiation.visiting.Pass.add_use.Goals as goal

pub find-requires-clause-becomes : goal.find-requires-clause-becomes
find-requires-clause-becomes c =
    let a = c.args.annotated.now in
    becomes_merely (program_of a) (table_of a) (table.types_of c.types.result.now) (types_of a) c.args.used.node c.args.used.binder
    c.type_of_binder-definition.result c.type_of-node.result c.types.ensures c.type_of-node.ensures.types
    c.type_of_binder-definition.ensures.types
    c.requires.used
