use Rattle.std.proofs.Common.{◌≡◌, None, sym, ap, ◌∙◌}
use Rattle.lq_types_table.specs.Nodes.{at}
use Rattle.lq_types_table.specs.Whole.{types_of}
use Rattle.lq_types_infer.specs.Annotation.Numbering.{variable_in}
use Rattle.lq_types_infer.proofs.InstantiationLemmas.Varying.{open_by_parts}
use Rattle.lq_types_infer.proofs.instantiation.opens.is_open_at.Goals as goal

pub returns-in-None : goal.returns-in-None
returns-in-None c =
    let all = types_of c.args.table.now in
    let none : variable_in (at all c.args.row) ≡ None =
    sym (ap variable_in c.node.ensures.types) ∙ sym (c.variable_in.ensures all) ∙ c.in-None.is in
    c.is_open_over.ensures
    ∙ open_by_parts all c.args.row c.args.with_variables.now c.parts.result.now c.requires.row c.requires.before c.parts.ensures.over
    c.parts.ensures.earlier none
