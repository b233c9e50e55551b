-- What operations are read as, in a state.
use Rattle.std.specs.Prelude.{ℕ}
use Rattle.lq_refined_rules.specs.Checks.Tree as t
use Rattle.lq_refined_templates.specs.Points.Pure.{Read}
use Rattle.lq_refined_templates.specs.Points.Reading.{operation_form}
use Rattle.lq_text_tree.specs.Tree.{Form}
use Rattle.lq_generate_reading.specs.Visibility.Notes.{annotation_view}
use Rattle.lq_generate_reading.specs.declared.visibility.notes.Notes.{Notes}
use Rattle.lq_generate_reading.specs.Reading.State.{count_of, seen_of}
use Rattle.lq_generate_reading.specs.declared.reading.state.State.{State}

abbrev pub operation_read : Notes → State → ℕ → Form → Read t.Operation
operation_read m s i f = operation_form (annotation_view m) (count_of s) (seen_of s) i f
