use Rattle.std.proofs.Common.{◌≡◌, None, sym, ap, ◌∙◌}
use Rattle.std.proofs.lemmas.Result.{on_ok_weaker}
use Rattle.lq_types_table.specs.Nodes.{at}
use Rattle.lq_types_table.specs.Whole.{types_of}
use Rattle.lq_types_infer.specs.Annotation.Numbering.{numbers_of, variable_in}
use Rattle.lq_types_infer.proofs.AnnotationLemmas.Naming.{step_parts, less_parts, inside_parts}
use Rattle.lq_types_infer.proofs.annotation.numbering.Naming.enter.Goals as goal

pub returns-in-None-clause-numbers : goal.returns-in-None-clause-numbers
returns-in-None-clause-numbers c =
    let all = types_of c.args.table.now in
    let none : variable_in (at all c.args.row) ≡ None =
    sym (ap variable_in c.node.ensures.types) ∙ sym (c.variable_in.ensures all) ∙ c.in-None.is in
    on_ok_weaker c.push_parts.result
    (λ e. step_parts all c.args.row c.parts.result.now c.args.pending.now.items c.push_parts.new.pending.items (numbers_of c.args.self.now)
    c.parts.ensures.over none e) c.push_parts.ensures

pub returns-in-None-clause-smaller : goal.returns-in-None-clause-smaller
returns-in-None-clause-smaller c =
    on_ok_weaker c.push_parts.result
    (λ e. less_parts (types_of c.args.table.now) c.args.row c.parts.result.now c.args.pending.now.items c.push_parts.new.pending.items
    c.parts.ensures.over e) c.push_parts.ensures

pub returns-in-None-clause-inside : goal.returns-in-None-clause-inside
returns-in-None-clause-inside c =
    on_ok_weaker c.push_parts.result
    (λ e. inside_parts (types_of c.args.table.now) c.args.row c.parts.result.now c.args.pending.now.items c.push_parts.new.pending.items
    c.requires.row c.parts.ensures.earlier c.requires.inside e) c.push_parts.ensures
