-- A typed program is read in one way.
use Rattle.std.specs.Prelude.{◌≡◌, length}
use Rattle.lq_types_infer.specs.Annotation.Whole as annotated
use Rattle.lq_meaning_normal_form.specs.Outcomes.Flattening.{normal_of}
use Rattle.lq_generate_reading.specs.Notes.Noted.{annotation_of}
use Rattle.lq_generate_reading.specs.declared.notes.noted.Noted.{Noted}
use Rattle.lq_refined_templates.specs.Points.Annotation.{Annotation}
use Rattle.lq_refined_templates.specs.Points.Reading.{program_of}
use Rattle.lq_text_walk.specs.Scoped.Scoping.{Scoping, IsScoped}
use Rattle.lq_sound_readiness.specs.Uniqueness.Annotated.{IsAnnotationOf}

-- What is noted of a typed program is an annotation of it.
abbrev pub NotedHaveAnnotations : Type 0
NotedHaveAnnotations = (m : Noted) → IsAnnotationOf (annotated.program_of m.program.annotated) (annotation_of m)

-- Two annotations of a scoped program, with the same name for the value, are the same.
abbrev pub OneAnnotation : Type 0
OneAnnotation = (s : Scoping) (n o : Annotation) → IsScoped s → IsAnnotationOf s n → IsAnnotationOf s o → n.value ≡ o.value → n ≡ o

-- So what is noted of two typed programs that are one, with the same name for the value, is the same.
abbrev pub OneNote : Type 0
OneNote =
    (m o : Noted) → annotated.program_of m.program.annotated ≡ annotated.program_of o.program.annotated → m.value.0 ≡ o.value.0 → annotation_of m ≡ annotation_of o

-- By both annotations the program's normal form is read as one program, with the same points in the same order.
abbrev pub OneReading : Type 0
OneReading =
    (s : Scoping) (n o : Annotation) → IsScoped s → IsAnnotationOf s n → IsAnnotationOf s o → n.value ≡ o.value → let is = normal_of (length s.sources) s.items in
    program_of n is ≡ program_of o is
