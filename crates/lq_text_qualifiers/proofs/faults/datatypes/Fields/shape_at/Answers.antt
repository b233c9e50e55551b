use Rattle.std.proofs.Common.{sym, ap, ◌∙◌}
use Rattle.lq_text_tree.specs.Types.{type_at}
use Rattle.lq_text_qualifiers.specs.Faults.Shapes.{shape_of}
use Rattle.lq_text_qualifiers.specs.Faults.Views.{fields_view}
use Rattle.lq_text_qualifiers.proofs.FaultsLemmas.Fields.{field_there, field_lacking}
use Rattle.lq_text_qualifiers.proofs.faults.datatypes.Fields.shape_at.Goals as goal

pub returns-in-Some : goal.returns-in-Some
returns-in-Some c =
    c.of.ensures ∙ ap shape_of (field_there c.in-Written.types.now c.args.at c.in-Some.written.now (sym c.in-Some.ensures))
    ∙ ap (λ f. shape_of (type_at (fields_view f) c.args.at)) (sym c.in-Written.is)

pub returns-in-None : goal.returns-in-None
returns-in-None c =
    ap shape_of (field_lacking c.in-Written.types.now c.args.at (sym c.in-None.ensures)) ∙ ap (λ f. shape_of (type_at (fields_view f) c.args.at)) (sym c.in-Written.is)
