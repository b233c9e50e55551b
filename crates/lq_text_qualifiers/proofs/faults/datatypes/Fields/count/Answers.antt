use Rattle.std.proofs.Common.{sym, ap, ◌∙◌}
use Rattle.lq_text_tree.specs.Types.{count_types}
use Rattle.lq_text_qualifiers.specs.Faults.Views.{fields_view}
use Rattle.lq_text_qualifiers.proofs.FaultsLemmas.Fields.{types_count}
use Rattle.lq_text_qualifiers.proofs.faults.datatypes.Fields.count.Goals as goal

pub returns-in-Written : goal.returns-in-Written
returns-in-Written c = c.len.ensures ∙ types_count c.in-Written.types.now ∙ ap (λ f. count_types (fields_view f)) (sym c.in-Written.is)
