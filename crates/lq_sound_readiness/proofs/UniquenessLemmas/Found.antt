-- What is noted of a typed program is an annotation of it.
use Rattle.std.proofs.Common.{◌≡◌, ◌⊎◌, inl, inr, ℕ, zero, suc, ◌+◌, ◌<◌, ◌≤◌, List, [], ◌∷◌, All, length, drop, get_or, slice_get, slice_index_or, Option, Some, None, refl, sym, ap, subst, ◌∙◌, arith}
use Rattle.std.proofs.Math.Logic.{∥∥₁_elim, ∥∥₁_map₂}
use Rattle.std.proofs.Props.{props}
use Rattle.std.proofs.lemmas.Bool.{cases_lt}
use Rattle.std.proofs.lemmas.Option.{slice_get_past}
use Rattle.lq_types_infer.specs.Annotation.Bounds.{bound_of}
use Rattle.lq_types_infer.specs.Annotation.Whole.{program_of, table_of, types_of}
use Rattle.lq_types_rules.specs.Visits.Laws.{slot_count}
use Rattle.lq_generate_reading.specs.GeneralNames.Defined.{IsDefined}
use Rattle.lq_generate_reading.specs.GeneralNames.Laws.{GeneralUsesAreDefined}
use Rattle.lq_types_infer.specs.Instantiation.Instances.{rows_of, AreFound, HasInstance}
use Rattle.lq_types_infer.specs.Instantiation.Uses.{uses_of}
use Rattle.lq_types_infer.specs.declared.instantiation.instantiated.Instantiated.{Instantiated}
use Rattle.lq_generate_reading.specs.Notes.Known.{Knows}
use Rattle.lq_generate_reading.specs.Notes.Noted.{annotation_of, NotedAreKnown}
use Rattle.lq_generate_reading.specs.declared.notes.noted.Noted.{Noted}
use Rattle.lq_refined_templates.specs.Points.Annotation.{Annotation}
use Rattle.lq_text_walk.specs.Scoped.Scoping.{Scoping, IsScoped}
use Rattle.lq_text_tree.specs.MlType as ml
use Rattle.lq_text_tree.specs.MlType.{MlType}
use Rattle.lq_text_tree.specs.Types.{put, type_at}
use Rattle.lq_types_table.specs.Heads.{each}
use Rattle.lq_types_table.specs.Nodes.{at}
use Rattle.lq_types_table.specs.Whole as table
use Rattle.lq_types_rules.specs.Typings.Principal.{node_count}
use Rattle.lq_types_rules.specs.Typings.Uses.{GeneralUse}
use Rattle.lq_generate_reading.specs.Visibility.Notes.{between, type_if, types_if_any}
use Rattle.lq_sound_readiness.specs.Uniqueness.Annotated.{if_any, Annotates, HasArguments, IsAnnotationOf}
use Rattle.lq_sound_readiness.specs.Uniqueness.Laws.{NotedHaveAnnotations, OneAnnotation, OneNote}
use Rattle.lq_sound_readiness.proofs.UniquenessLemmas.Arguments.{at_row, count_each, put_like}
use Rattle.lq_sound_readiness.proofs.UniquenessLemmas.Slots.{name_low}

behind : (xs : List ℕ) (n k : ℕ) → slice_get (drop n xs) k ≡ slice_get xs (n + k)
behind xs zero k = let same : k ≡ 0 + k = omega arith in ap (slice_get xs) same
behind [] (suc n) k = refl
behind (x ∷ xs) (suc n) k = let same : suc (n + k) ≡ suc n + k = omega arith in behind xs n k ∙ ap (slice_get (x ∷ xs)) same

row_if_any : (all : List MlType) (rows : List ℕ) → types_if_any all rows ≡ if_any (each (at all) rows)
row_if_any all [] = refl
row_if_any all (r ∷ rows) = refl

none_between : (all : List MlType) (rows : List ℕ) (start : Option ℕ) → types_if_any all (between rows start None) ≡ None
none_between all rows None = refl
none_between all rows (Some a) = refl

module _ (known : NotedAreKnown) (defined : GeneralUsesAreDefined) (m : Noted) where
  abbrev i : Instantiated
  i = m.program

  abbrev s : Scoping
  s = program_of i.annotated

  abbrev n : Annotation
  n = annotation_of m

  abbrev nodes : ℕ
  nodes = node_count s

  abbrev types : ℕ → MlType
  types = types_of i.annotated

  abbrev all : List MlType
  all = table_of i.annotated

  abbrev row : ℕ → List ℕ
  row k = rows_of i.rows.items i.starts.items k

  scoped : IsScoped s
  scoped = i.annotated.program.scoped

  knows : Knows i n
  knows = known m

  slots_long : length m.slots.items ≡ slot_count s
  slots_long = ∥∥₁_elim m.right (Prim.hlevel props) (λ r. r.has_slots.long)

  type_past : (k : ℕ) → slot_count s ≤ k → n.types k ≡ ml.unit
  type_past k above =
      let long = slots_long in
      ap (type_if (table.types_of m.types)) (slice_get_past m.slots.items k (omega (arith, above, long)))

  binder_type : (x : ℕ) → n.names x ≡ n.types (nodes + x)
  binder_type x = ap (type_if (table.types_of m.types)) (behind m.slots.items nodes x)

  argument_past : (k : ℕ) → nodes ≤ k → n.arguments k ≡ None
  argument_past k above =
      let long = i.parts.long in
      ap (λ (end : Option ℕ). types_if_any (table.types_of m.types) (between i.rows.items (slice_get i.starts.items k) end))
      (slice_get_past i.starts.items (k + 1) (omega (arith, above, long)))
      ∙ none_between (table.types_of m.types) i.rows.items (slice_get i.starts.items k)

  module _ (found : AreFound all nodes types (uses_of s) i.rows.items i.starts.items nodes) where
    use_has : (u : GeneralUse) → HasInstance all nodes types i.rows.items i.starts.items nodes u → IsDefined s.items u.binder → HasArguments n u
    use_has u h d =
        let name = sym (knows.binders u.binder (name_low s scoped u.binder d)) in
        let low = h.low in
        let ts = each (at all) (row u.node) in
        let by : ℕ → MlType = λ v. at all (slice_index_or (row u.node) v 0) in
        let many = h.counted in (
          ts,
          record {
            counted = count_each (at all) (row u.node) ∙ h.counted ∙ ap bound_of name;
            instance = knows.slots u.node (omega (arith, low)) ∙ h.instance
                ∙ put_like by (type_at ts) (types (nodes + u.binder)) (λ v less. sym (at_row (at all) (row u.node) v (omega (arith, less, many))))
                ∙ ap (put (type_at ts)) name;
          },
          knows.arguments u.node h.low ∙ row_if_any all (row u.node),
        )

    unused_by : (k : ℕ) → All (λ u. u.node ≡ k → ⊥) (uses_of s) → (k < nodes) ⊎ (nodes ≤ k) → n.arguments k ≡ None
    unused_by k none (inl low) = knows.arguments k low ∙ ap (types_if_any all) (found.unused k low none)
    unused_by k none (inr above) = argument_past k above

    pub annotates : Annotates s types n
    annotates = record {
      slots = knows.slots;
      past = type_past;
      binders = binder_type;
      used = λ j d h. use_has (get_or (uses_of s) j d) (found.used j d h) (defined s j d h);
      unused = λ k none. unused_by k none (cases_lt k nodes);
      texts = knows.texts;
    }

pub noted_have_annotations : NotedAreKnown → GeneralUsesAreDefined → NotedHaveAnnotations
noted_have_annotations known defined m =
    ∥∥₁_map₂ m.program.annotated.answer m.program.found
    (λ inference found. (types_of m.program.annotated, inference, annotates known defined m found))

-- typed programs that are one have the same notes
pub one_note : OneAnnotation → NotedHaveAnnotations → OneNote
one_note one noted m o same value =
    one (program_of m.program.annotated) (annotation_of m) (annotation_of o) m.program.annotated.program.scoped (noted m)
    (subst (λ (s : Scoping). IsAnnotationOf s (annotation_of o)) (sym same) (noted o)) value
