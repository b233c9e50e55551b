-- What an annotation knows of a typed program.
use Rattle.std.specs.Prelude.{◌≡◌, ℕ, ◌+◌, ◌<◌, length}
use Rattle.lq_types_infer.specs.Annotation.Whole.{program_of, table_of, types_of}
use Rattle.lq_types_rules.specs.Visits.Laws.{slot_count}
use Rattle.lq_types_infer.specs.Instantiation.Instances.{rows_of}
use Rattle.lq_types_infer.specs.declared.instantiation.instantiated.Instantiated.{Instantiated}
use Rattle.lq_refined_templates.specs.Points.Annotation.{Annotation}
use Rattle.lq_generate_reading.specs.SourceNames.Texts.{text_in}
use Rattle.lq_types_rules.specs.Typings.Principal.{node_count}
use Rattle.lq_generate_reading.specs.Visibility.Notes.{types_if_any}

-- the types of the program's nodes and binders, the types that were found for a node's type variables, and the source names
pub record Knows (i : Instantiated) (n : Annotation) : Type 0 where
  pub slots : (k : ℕ) → k < slot_count (program_of i.annotated) → n.types k ≡ types_of i.annotated k
  pub binders : (x : ℕ) → x < length (program_of i.annotated).sources
      → n.names x ≡ types_of i.annotated (node_count (program_of i.annotated) + x)
  pub arguments : (k : ℕ) → k < node_count (program_of i.annotated)
      → n.arguments k ≡ types_if_any (table_of i.annotated) (rows_of i.rows.items i.starts.items k)
  pub texts : (x : ℕ) → n.text x ≡ text_in (program_of i.annotated).sources x
