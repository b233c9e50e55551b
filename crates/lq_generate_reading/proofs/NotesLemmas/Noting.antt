-- What is known of a typed program is right.
use Rattle.std.proofs.Common.{◌≡◌, ℕ, ◌+◌, ◌<◌, ◌≤◌, List, [], ◌∷◌, ◌++◌, All, length, map, drop, slice_get, slice_index_or, Option, refl, ap, ap₂, subst, ◌∙◌, arith}
use Rattle.std.proofs.Math.Logic.{∥∥₁_elim}
use Rattle.std.proofs.Props.{props}
use Rattle.std.proofs.lemmas.List.{get_or_default, get_or_push, length-append}
use Rattle.std.proofs.lemmas.List.Elements.{All-drop, All-weaker}
use Rattle.lq_types_infer.specs.Annotation.Whole.{program_of, table_of, types_of}
use Rattle.lq_types_rules.specs.Visits.Laws.{slot_count}
use Rattle.lq_types_infer.specs.Instantiation.Instances.{rows_of}
use Rattle.lq_types_infer.specs.declared.instantiation.instantiated.Instantiated.{Instantiated}
use Rattle.lq_base_names.specs.declared.name.Name.{Name}
use Rattle.lq_text_walk.specs.Scoped.Views.{source_view}
use Rattle.lq_text_tree.specs.MlType as ml
use Rattle.lq_text_tree.specs.MlType.{MlType}
use Rattle.lq_types_table.specs.Nodes.{at}
use Rattle.lq_types_table.specs.Whole as table
use Rattle.lq_types_table.specs.declared.type_table.TypeTable.{TypeTable}
use Rattle.lq_types_rules.specs.Typings.Principal.{node_count}
use Rattle.lq_generate_reading.specs.Visibility.Notes.{between, text_if, type_if, types_if_any}
use Rattle.lq_generate_reading.specs.SourceNames.Texts.{text_in}
use Rattle.lq_generate_reading.specs.Notes.Slots.{IsRightOf}
use Rattle.lq_generate_reading.specs.Notes.TypeSet.{coded_type}
use Rattle.lq_generate_reading.proofs.NotesLemmas.Slots.{any_with_unit, at_with_unit, behind, part_there, text_there, type_there}

module _ (i : Instantiated) (types : TypeTable) (u : ℕ) (slots : List ℕ) (texts : List (Option Name)) (right : ∥ IsRightOf i types u slots texts ∥₁) where
  abbrev all : List MlType
  all = table.types_of types

  abbrev before : List MlType
  before = table_of i.annotated

  with_unit : all ≡ before ++ ml.unit ∷ []
  with_unit = ∥∥₁_elim right (Prim.hlevel (props, coded_type)) (λ r. r.with_unit)

  last : u ≡ length before
  last = ∥∥₁_elim right (Prim.hlevel props) (λ r. r.last)

  long : length all ≡ length before + 1
  long = ap length with_unit ∙ length-append before (ml.unit ∷ [])

  slots_long : length slots ≡ slot_count (program_of i.annotated)
  slots_long = ∥∥₁_elim right (Prim.hlevel props) (λ r. r.has_slots.long)

  slots_inside : All (λ r. r < length before) slots
  slots_inside = ∥∥₁_elim right (Prim.hlevel props) (λ r. r.has_slots.inside)

  slot_is : (k : ℕ) → k < slot_count (program_of i.annotated) → at before (slice_index_or slots k 0) ≡ types_of i.annotated k
  slot_is k h = ∥∥₁_elim right (Prim.hlevel (props, coded_type)) (λ r. r.has_slots.types k h)

  sources : map source_view texts ≡ (program_of i.annotated).sources
  sources = ∥∥₁_elim right (Prim.hlevel props) (λ r. r.sources)

  rows_inside : All (λ r. r < length before) i.rows.items
  rows_inside = ∥∥₁_elim i.found (Prim.hlevel props) (λ f. f.inside)

  pub unit_is : at all u ≡ ml.unit
  unit_is = ap₂ at with_unit last ∙ get_or_push before ml.unit ml.unit (length before) refl

  pub unit_low : u < length all
  unit_low = let a = long in let b = last in omega (arith, a, b)

  low : (l : List ℕ) → All (λ r. r < length before) l → All (λ r. r < length all) l
  low l h = All-weaker (λ r. r < length before) (λ r. r < length all) (λ r k. let a = long in omega (arith, a, k)) l h

  pub slots_low : All (λ r. r < length all) slots
  slots_low = low slots slots_inside

  pub binders_low : (n : ℕ) → All (λ r. r < length all) (drop n slots)
  binders_low n = All-drop (λ r. r < length all) n slots slots_low

  pub rows_low : All (λ r. r < length all) i.rows.items
  rows_low = low i.rows.items rows_inside

  pub starts_low : All (λ s. s ≤ length i.rows.items) i.starts.items
  starts_low k d h =
      let n = i.parts.long in
      subst (λ (s : ℕ). s ≤ length i.rows.items) (get_or_default i.starts.items k 0 d h) (i.parts.inside k (omega (arith, h, n)))

  -- ---- what an annotation knows

  slot_type : (k : ℕ) → k < slot_count (program_of i.annotated) → type_if all (slice_get slots k) ≡ types_of i.annotated k
  slot_type k h =
      let n = slots_long in
      type_there all slots k (omega (arith, h, n)) ∙ ap (λ (l : List MlType). at l (slice_index_or slots k 0)) with_unit
      ∙ at_with_unit before (slice_index_or slots k 0) ∙ slot_is k h

  pub node_known : (k : ℕ) → k < slot_count (program_of i.annotated) → type_if all (slice_get slots k) ≡ types_of i.annotated k
  node_known = slot_type

  pub binder_known : (x : ℕ) → x < length (program_of i.annotated).sources
      → type_if all (slice_get (drop (node_count (program_of i.annotated)) slots) x) ≡ types_of i.annotated (node_count (program_of i.annotated) + x)
  binder_known x h =
      let n = node_count (program_of i.annotated) in
      ap (type_if all) (behind slots n x) ∙ slot_type (n + x) (omega (arith, h))

  pub arguments_known : (k : ℕ) → k < node_count (program_of i.annotated)
      → types_if_any all (between i.rows.items (slice_get i.starts.items k) (slice_get i.starts.items (k + 1)))
      ≡ types_if_any before (rows_of i.rows.items i.starts.items k)
  arguments_known k h =
      let n = i.parts.long in
      ap₂ types_if_any with_unit (part_there i.rows.items i.starts.items k (omega (arith, h, n)))
      ∙ any_with_unit before (rows_of i.rows.items i.starts.items k)

  pub text_known : (x : ℕ) → text_if (slice_get texts x) ≡ text_in (program_of i.annotated).sources x
  text_known x = text_there texts x ∙ ap (λ (l : List (Option ℕ)). text_in l x) sources
