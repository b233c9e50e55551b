-- The laws on the way to what is ready, put together.
use mathlib.Core.Path.{fun_ext}
use Rattle.std.proofs.Common.{◌≡◌, ℕ, ◌+◌, ◌<◌, ◌≤◌, List, [], ◌∷◌, length, get_or, slice_get, Option, Some, None, refl, sym, ap, subst, ◌∙◌, arith}
use Rattle.std.proofs.Math.Logic.{∥∥₁_elim, ∥∥₁_map}
use Rattle.std.proofs.lemmas.Option.{slice_get_past, slice_get_within}
use Rattle.lq_types_infer.specs.Annotation.Whole.{program_of, table_of, types_of}
use Rattle.lq_types_rules.specs.Visits.Laws.{ScopedItemsOwnSlots}
use Rattle.lq_refined_rules.specs.Checks.Binders.{AllDiffer, binders}
use Rattle.lq_refined_rules.specs.Checks.Ready.{IsReady}
use Rattle.lq_generate_reading.specs.GeneralNames.Laws.{GeneralUsesHaveTexts}
use Rattle.lq_types_infer.specs.Instantiation.Instances.{rows_of, AreFound}
use Rattle.lq_types_infer.specs.Instantiation.Uses.{IsCounted, Instantiates, uses_of}
use Rattle.lq_types_infer.specs.declared.instantiation.instantiated.Instantiated.{Instantiated}
use Rattle.lq_meaning_normal_form.specs.Outcomes.Flattening.{normal_of}
use Rattle.lq_sound_readiness.specs.NormalReading.Laws.{NormalFormsCanBeRead}
use Rattle.lq_sound_readiness.specs.NormalReading.Suits.{ItemsSuit}
use Rattle.lq_sound_readiness.specs.NormalTexts.Laws.{ParsedProgramsAreWritten}
use Rattle.lq_meaning_normal_form.specs.Types.Laws.{MadeNamesRun, ProgramsKeepTypes, ScopedProgramsArePlain}
use Rattle.lq_meaning_normal_form.specs.Types.Made.{Given, with_made}
use Rattle.lq_meaning_normal_form.specs.Types.Plain.{ItemsArePlain}
use Rattle.lq_meaning_normal_form.specs.Types.Programs.{items_made, next_items, normal_items, NormalItemsAre}
use Rattle.lq_meaning_normal_form.specs.Types.Written.{ItemsAreWritten}
use Rattle.lq_sound_readiness.specs.Uses.Fits.{SourceUsesFit}
use Rattle.lq_sound_readiness.specs.Uses.Instances.{types_if, AreInstances, Annotates}
use Rattle.lq_sound_readiness.specs.Uses.Laws.{NormalUsesFit, TypedUsesFit}
use Rattle.lq_meaning_normalize.specs.Normalize.Laws.{ProgramsAreOnePass}
use Rattle.lq_generate_reading.specs.Notes.Known.{Knows}
use Rattle.lq_refined_templates.specs.Points.Annotation.{Annotation}
use Rattle.lq_refined_templates.specs.Points.Reading as reading
use Rattle.lq_refined_templates.specs.Points.Templates.{Datatypes, basis_of}
use Rattle.lq_sound_readiness.specs.Reading.Laws.{types_of as types_in}
use Rattle.lq_sound_readiness.specs.Reading.Normal.{AreNormal}
use Rattle.lq_sound_readiness.specs.Binders.Laws.{BindersOfNormalFormsDiffer}
use Rattle.lq_sound_readiness.specs.Programs.Laws.{IsReadReady, NormalProgramsAreReady}
use Rattle.lq_types_rules.specs.Equations.Rows.{annotation_of}
use Rattle.lq_text_walk.specs.Scoped.Scoping.{Scoping, IsScoped}
use Rattle.lq_text_walk.specs.Scoped.Signature.{DataTree, signature_in}
use Rattle.lq_generate_reading.specs.SourceNames.Laws.{MadeNamesAreNotRead, NormalFormsKeepTexts, ResolvedProgramsDefineTexts, with_names}
use Rattle.lq_generate_reading.specs.SourceNames.Texts.{source_of, text_in, DefinesTexts}
use Rattle.lq_sound_readiness.specs.TypedTexts.Laws.{TypedTextsSuit}
use Rattle.lq_text_tree.specs.MlType.{MlType}
use Rattle.lq_text_tree.specs.Types.{Signature, KnowsLists}
use Rattle.lq_text_tree.specs.TypingRules as rules
use Rattle.lq_types_rules.specs.Typings.Inference.{typed, IsInference}
use Rattle.lq_types_rules.specs.Typings.Principal.{node_count, IsAnnotation}
use Rattle.lq_types_rules.specs.Typings.Renaming.{RenamedArePrincipal}
use Rattle.lq_generate_reading.specs.Visibility.Notes.{types_if_any}
use Rattle.lq_sound_readiness.specs.TextPrograms.Laws.{IsOfText, IsReadTyped, NotedTextsAreReady, NotedTextsAreTyped, ReadyIsOnce}
use Rattle.lq_sound_readiness.proofs.TextProgramsLemmas.Given.{as_before, given}
use Rattle.lq_sound_readiness.proofs.TextProgramsLemmas.Seen.{seen_obeys}

pub record TypedLaws : Type 1 where
  pub renamed : RenamedArePrincipal
  pub owners : ScopedItemsOwnSlots
  pub written : ParsedProgramsAreWritten
  pub plain : ScopedProgramsArePlain
  pub keep : ProgramsKeepTypes
  pub run : MadeNamesRun
  pub suit : TypedTextsSuit
  pub can_be_read : NormalFormsCanBeRead
  pub source_uses : TypedUsesFit
  pub uses : NormalUsesFit
  pub general : GeneralUsesHaveTexts
  pub defined : ResolvedProgramsDefineTexts
  pub kept : NormalFormsKeepTexts
  pub unread : MadeNamesAreNotRead
  pub one_pass : ProgramsAreOnePass

pub record ReadyLaws : Type 1 where
  pub once : ReadyIsOnce
  pub typed : NotedTextsAreTyped
  pub written : ParsedProgramsAreWritten
  pub plain : ScopedProgramsArePlain
  pub differ : BindersOfNormalFormsDiffer
  pub ready : NormalProgramsAreReady
  pub one_pass : ProgramsAreOnePass

-- a program's constructors have those of lists before them
knows_lists : (ds : List DataTree) → KnowsLists (signature_in ds)
knows_lists ds = record { empty = refl; filled = refl }

types_same : (table : List MlType) (rows : List ℕ) → types_if_any table rows ≡ types_if table rows
types_same table [] = refl
types_same table (r ∷ rows) = refl

source_known : (o : Option (Option ℕ)) (s : ℕ) → source_of o ≡ Some s → o ≡ Some (Some s)
source_known None s h = absurd (cc)
source_known (Some t) s h = ap Some h

module _ (written : ParsedProgramsAreWritten) (s : Scoping) (t : IsOfText s) where
  items_written : ItemsAreWritten s.items
  items_written = subst (λ (r : Scoping). ItemsAreWritten r.items) (sym t.bound) (written t.text t.names t.tokens t.trees t.read t.known)

module _ (L : TypedLaws) (i : Instantiated) (n : Annotation) (t : IsOfText (program_of i.annotated)) (knows : Knows i n) where
  abbrev s : Scoping
  s = program_of i.annotated

  abbrev k : ℕ
  k = length s.sources

  abbrev types : ℕ → MlType
  types = types_of i.annotated

  abbrev g : Signature
  g = signature_in s.datatypes

  scoped : IsScoped s
  scoped = i.annotated.program.scoped

  plain : ItemsArePlain k s.items
  plain = L.plain s scoped (items_written L.written s t)

  text_is : n.text ≡ text_in s.sources
  text_is = fun_ext knows.texts

  defines : DefinesTexts n.text s.items
  defines =
      subst (λ text. DefinesTexts text s.items) (sym text_is)
      (subst (λ (r : Scoping). DefinesTexts (text_in r.sources) r.items) (sym t.bound) (L.defined t.known t.trees))

  -- ---- the annotation with types for made names

  abbrev base : rules.Annotation
  base = annotation_of (node_count s) n.types

  abbrev given_types : Given
  given_types = items_made g n.types k s.items

  abbrev with_types : rules.Annotation
  with_types = with_made k given_types base

  abbrev whole : Annotation
  whole = with_names n with_types.binders

  binder_type : (x : ℕ) → x < k → with_types.binders x ≡ types (node_count s + x)
  binder_type x low = as_before base given_types k x low ∙ knows.slots (node_count s + x) (omega (arith, low))

  agrees : (x st : ℕ) → n.text x ≡ Some st → with_types.binders x ≡ n.names x
  agrees x st h =
      let there = slice_get_within s.sources x (Some st) (source_known (slice_get s.sources x) st (sym (knows.texts x) ∙ h)) in
      binder_type x there ∙ sym (knows.binders x there)

  made_no_text : (x : ℕ) → k ≤ x → n.text x ≡ None
  made_no_text x above = knows.texts x ∙ ap source_of (slice_get_past s.sources x above)

  module _ (inference : IsInference s (typed types)) (found : AreFound (table_of i.annotated) (node_count s) types (uses_of s) i.rows.items i.starts.items (node_count s)) where
    obeys : IsAnnotation s n.types
    obeys = seen_obeys L.renamed L.owners s types n.types scoped knows.slots inference

    suits : ItemsSuit s.items
    suits =
        subst (λ (r : Scoping). (m : rules.Annotation) → rules.ItemsAre (signature_in r.datatypes) m [] r.items → ItemsSuit r.items) (sym t.bound)
        (L.suit t.text t.names t.tokens t.trees t.read t.known) base obeys

    normal : AreNormal (normal_items k s.items)
    normal = L.can_be_read k s.items suits

    abbrev numbers : ℕ → List ℕ
    numbers j = rows_of i.rows.items i.starts.items j

    instances : AreInstances s types (table_of i.annotated) numbers
    instances j low = record {
      counted = λ m d h e. subst (λ (o : ℕ). IsCounted (node_count s) types (get_or (uses_of s) m d) (numbers o)) e (found.used m d h).counted;
      instance = λ m d h e. subst (λ (o : ℕ). Instantiates (table_of i.annotated) (node_count s) types (get_or (uses_of s) m d) (numbers o)) e (found.used m d h).instance;
      unused = found.unused j low;
    }

    annotates : Annotates s types (table_of i.annotated) numbers whole
    annotates = record {
      nodes = λ j low. knows.slots j (omega (arith, low));
      binders = binder_type;
      arguments = λ j low. knows.arguments j low ∙ types_same (table_of i.annotated) (numbers j);
      texts = L.general s n.text defines;
    }

    source_fits : SourceUsesFit whole s.items
    source_fits = L.source_uses s types (table_of i.annotated) numbers whole scoped inference.0.obeys instances annotates

    typed_there : IsReadTyped g n (normal_of k s.items)
    typed_there = subst (IsReadTyped g n) (sym (L.one_pass k s.items)) (record {
      by = whole;
      same = L.unread n with_types.binders (normal_items k s.items) agrees (L.kept n.text k s.items defines);
      normal = normal;
      obeys = L.keep g base k s.items (knows_lists s.datatypes) plain obeys;
      uses =
          L.uses g s whole scoped plain source_fits made_no_text
          (given base given_types k (next_items k s.items) (L.run g n.types k s.items));
    })

pub noted_typed : TypedLaws → NotedTextsAreTyped
noted_typed L i n t knows =
    ∥∥₁_elim i.annotated.answer squash₁ (λ inference. ∥∥₁_map i.found (λ found. typed_there L i n t knows inference found))

-- ---- ready

module _ (L : ReadyLaws) (s : Scoping) (n : Annotation) (D : Datatypes) (t : IsOfText s) (scoped : IsScoped s)
    (same : D.constructors ≡ signature_in s.datatypes) (typed : IsReadTyped (signature_in s.datatypes) n (normal_of (length s.sources) s.items)) where
  abbrev first_made : ℕ
  first_made = length s.sources

  one : normal_of first_made s.items ≡ normal_items first_made s.items
  one = L.one_pass first_made s.items

  differ : AllDiffer (binders (reading.program_of typed.by (normal_of first_made s.items)).read)
  differ =
      subst (λ is. AllDiffer (binders (reading.program_of typed.by is).read)) (sym one)
      (L.differ s scoped (L.plain s scoped (items_written L.written s t)) (subst AreNormal one typed.normal) typed.by)

  ready_there : IsReadReady D n (normal_of first_made s.items)
  ready_there =
      subst (λ p. IsReady (basis_of D p.points) [] p.read) typed.same
      (L.ready D typed.by (normal_of first_made s.items) typed.normal
      (subst (λ h. NormalItemsAre h (types_in typed.by) [] (normal_of first_made s.items)) (sym same) typed.obeys) typed.uses differ)

pub noted_ready : ReadyLaws → NotedTextsAreReady
noted_ready L i n D t same knows =
    let s = program_of i.annotated in
    let p = reading.program_of n (normal_of (length s.sources) s.items) in
    ∥∥₁_elim (L.typed i n t knows) (L.once (basis_of D p.points) [] p.read)
    (λ typed. ready_there L s n D t i.annotated.program.scoped same typed)
