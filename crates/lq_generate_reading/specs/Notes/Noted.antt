-- What is known of a typed program, as an annotation.
use Rattle.std.specs.Prelude.{◌+◌, drop, slice_get}
use Rattle.lq_types_infer.specs.Annotation.Whole.{program_of}
use Rattle.lq_refined_templates.specs.Points.Annotation.{Annotation}
use Rattle.lq_types_table.specs.Whole as table
use Rattle.lq_types_rules.specs.Typings.Principal.{node_count}
use Rattle.lq_generate_reading.specs.Visibility.Notes.{between, text_if, type_if, types_if_any}
use Rattle.lq_generate_reading.specs.Notes.Known.{Knows}
use Rattle.lq_generate_reading.specs.declared.notes.noted.Noted.{Noted}

abbrev pub annotation_of : Noted → Annotation
annotation_of m =
    let all = table.types_of m.types in
    record {
      types = λ i. type_if all (slice_get m.slots.items i);
      names = λ x. type_if all (slice_get (drop (node_count (program_of m.program.annotated)) m.slots.items) x);
      arguments = λ i. types_if_any all (between m.program.rows.items (slice_get m.program.starts.items i) (slice_get m.program.starts.items (i + 1)));
      text = λ x. text_if (slice_get m.texts.items x);
      value = m.value.0;
    }

-- it knows of its program
abbrev pub NotedAreKnown : Type 0
NotedAreKnown = (m : Noted) → Knows m.program (annotation_of m)
