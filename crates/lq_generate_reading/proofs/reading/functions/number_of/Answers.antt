use Rattle.std.proofs.Common.{None, sym}
use Rattle.lq_refined_templates.specs.Points.Annotation.{Annotation}
use Rattle.lq_text_tree.specs.MlType.{unit}
use Rattle.lq_generate_reading.proofs.reading.functions.number_of.Goals as goal

nothing : Annotation
nothing = record { types = λ i. unit; names = λ x. unit; arguments = λ i. None; text = λ x. None; value = 0 }

pub returns-in-Some : goal.returns-in-Some
returns-in-Some c = sym (c.in-Some.ensures nothing).number
