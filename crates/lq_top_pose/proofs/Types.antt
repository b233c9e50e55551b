-- Texts whose names are bound, with their types.
use Rattle.std.specs.Prelude.{codes, slice_get}
use Rattle.std.proofs.Common.{◌≡◌, ◌⊎◌, inl, inr, ℕ, List, [], true, length, map, Some, None, Result, Ok, Err, refl, sym, ap, subst, ◌∙◌}
use Rattle.lq_types_infer.specs.Annotation.Errors.{HasTypeError}
use Rattle.lq_types_infer.specs.Annotation.Whole as annotated
use Rattle.lq_types_infer.specs.declared.annotation.annotated.Annotated.{Annotated}
use Rattle.lq_types_infer.specs.declared.annotation.errors.TypeError.{TypeError}
use Rattle.lq_types_infer.specs.declared.annotation.errors.TypeError.TheVariants as typing
use Rattle.lq_text_front.specs.Bytes.Stages.{BindsTo, Bound, Bytes}
use Rattle.lq_text_front.specs.Bytes.Views.{IsBy, IsOf}
use Rattle.lq_text_front.specs.declared.bytes.error.Refusing.{Refusing}
use Rattle.lq_text_front.specs.declared.bytes.error.Refusing.TheVariants as refusing
use Rattle.lq_generate_fresh.specs.Fresh.Defined.{ConstructorsDiffer}
use Rattle.lq_generate_fresh.specs.Fresh.Laws.{NamedConstructorsDiffer}
use Rattle.lq_base_names.specs.NameTable.{HasOneNumberEach}
use Rattle.lq_meaning_normal_form.specs.Outcomes.Flattening.{normal_of}
use Rattle.lq_sound_readiness.specs.NormalTexts.Laws.{TypedTextsHaveRules}
use Rattle.lq_meaning_normalize.specs.Pass.Rules.{items_have_rules}
use Rattle.lq_meaning_normalize.specs.Normalize.Made.{normal_view}
use Rattle.lq_generate_reading.specs.Notes.Noted.{annotation_of, NotedAreKnown}
use Rattle.lq_sound_readiness.specs.Uniqueness.Annotated.{IsAnnotationOf}
use Rattle.lq_sound_readiness.specs.Uniqueness.Laws.{NotedHaveAnnotations}
use Rattle.lq_text_parser.specs.Parse.Trees.{number_in}
use Rattle.lq_generate_problem.specs.Posed.{datatypes_of}
use Rattle.lq_sound_readiness.specs.Programs.Laws.{IsReadReady}
use Rattle.lq_text_resolve.specs.Resolution.Resolution.{scoping_of}
use Rattle.lq_types_rules.specs.Equations.Rows.{annotation_of as annotation_by}
use Rattle.lq_text_walk.specs.Scoped.Scoping.{Scoping, IsScoped}
use Rattle.lq_text_walk.specs.Scoped.Signature.{signature_in}
use Rattle.lq_text_qualifiers.specs.Sorting.Views.{measure_view, qualifier_view}
use Rattle.lq_sound_readiness.specs.TextPrograms.Laws.{IsOfText, NotedTextsAreReady}
use Rattle.lq_text_tree.specs.TypingRules.{ItemsAre}
use Rattle.lq_types_rules.specs.Typings.Inference.{typed, ill_typed, weak, past, IsInference}
use Rattle.lq_types_rules.specs.Typings.Principal.{node_count}
use Rattle.lq_top_pose.specs.Stages.{AreTyped, Typed, error_refusal, names_in, normal_in, program_in, typed_by, value_in}
use Rattle.lq_top_pose.specs.Views.{IsPosable, IsTypedView}
use Rattle.lq_top_pose.specs.declared.typing.TypedTexts.{TypedTexts}
use Rattle.lq_top_pose.proofs.Numbers.{number_is}

-- ---- what is bound is a program of a text, of which no two constructors have one name

pub of_text : (bytes : Bytes) (b : Bound) → BindsTo bytes (Ok b) → IsOfText b.texts.program
of_text bytes b is =
    let read = is.1 in
    let two = read.1 in
    let program = two.1 in
    let items = ap (λ s. s.items) is.2.0 ∙ ap (λ x. x.0.tree) read.2.0 ∙ ap (λ x. x.tree) two.2.0 in
    record {
      text = bytes.program;
      names = two.0.names;
      tokens = program.0;
      trees = two.0.tree;
      read = program.2.1;
      known = b.read.names;
      bound = ap (λ t. t.program) is.2.1.3 ∙ ap (scoping_of b.read.names) items;
    }

pub differ_in : NamedConstructorsDiffer → (bytes : Bytes) (b : Bound) → BindsTo bytes (Ok b) → ConstructorsDiffer b.texts.program.datatypes
differ_in law bytes b is =
    let same : b.texts.program ≡ scoping_of b.read.names b.read.items = ap (λ t. t.program) is.2.1.3 in
    subst (λ (s : Scoping). ConstructorsDiffer s.datatypes) (sym same) (law b.read.names b.read.items is.2.1.0)

-- ---- typed texts

pub record Laws : Type 1 where
  pub rules : TypedTextsHaveRules
  pub known : NotedAreKnown
  pub ready : NotedTextsAreReady
  pub annotations : NotedHaveAnnotations
  pub differ : NamedConstructorsDiffer

-- what is known of texts with types in memory, where these names are bound
pub record IsMadeOf (b : Bound) (m : TypedTexts) : Type 0 where
  pub scoped : IsScoped b.texts.program
  pub answer : Annotated
  pub inferred : IsInference b.texts.program (typed (annotated.types_of answer))
  pub same : annotated.program_of m.noted.program.annotated ≡ b.texts.program
  pub tree : items_have_rules b.texts.program.items ≡ true
      → (normal_view m.normal).items ≡ normal_of (length b.texts.program.sources) b.texts.program.items
  pub names : m.names ≡ names_in b
  pub one : HasOneNumberEach m.names
  pub value : slice_get m.names m.noted.value.0 ≡ Some (codes "v")
  pub measures : map measure_view m.measures.items ≡ b.texts.measures
  pub qualifiers : map qualifier_view m.qualifiers.items ≡ b.texts.qualifiers

module _ (laws : Laws) (bytes : Bytes) (b : Bound) (bound : BindsTo bytes (Ok b)) (m : TypedTexts) (made : IsMadeOf b m) where
  have_rules : items_have_rules b.texts.program.items ≡ true
  have_rules =
      let text = of_text bytes b bound in
      let obeys =
      subst (λ (r : Scoping). ItemsAre (signature_in r.datatypes) (annotation_by (node_count b.texts.program) (annotated.types_of made.answer)) [] r.items)
      text.bound made.inferred.0.obeys in
      let h = laws.rules text.text text.names text.tokens text.trees text.read text.known
      (annotation_by (node_count b.texts.program) (annotated.types_of made.answer)) obeys in
      subst (λ (r : Scoping). items_have_rules r.items ≡ true) (sym text.bound) h.0

  pub typed_there : (t : Typed) × AreTyped b (Ok t) × IsTypedView m t
  typed_there =
      let t = typed_by b (annotation_of m.noted) in
      let annotation = subst (λ (s : Scoping). IsAnnotationOf s (annotation_of m.noted)) made.same (laws.annotations m.noted) in
      let value = number_is m.names (codes "v") m.noted.value.0 made.one made.value ∙ ap (λ ns. number_in ns (codes "v")) made.names in (
        t,
        (refl, made.scoped, annotation, value),
        record {
          names = made.names;
          program = made.same;
          annotation = refl;
          normal = made.tree have_rules;
          measures = made.measures;
          qualifiers = made.qualifiers;
        },
      )

  pub posable : IsPosable m
  posable =
      let there = annotated.program_of m.noted.program.annotated in
      let items = made.tree have_rules ∙ ap (λ (r : Scoping). normal_of (length r.sources) r.items) (sym made.same) in
      record {
        differ = subst (λ (r : Scoping). ConstructorsDiffer r.datatypes) (sym made.same) (differ_in laws.differ bytes b bound);
        ready = λ ms.
            let D = datatypes_of there.datatypes ms in
            subst (IsReadReady D (annotation_of m.noted)) (sym items)
            (laws.ready m.noted.program (annotation_of m.noted) D (subst IsOfText (sym made.same) (of_text bytes b bound)) refl (laws.known m.noted));
      }

-- a program without types that are wanted is refused for it
pub types_due : (b : Bound) (e : TypeError) (n : Refusing) → IsScoped b.texts.program → HasTypeError b.texts.program e → IsOf (error_refusal e) n
    → IsBy (AreTyped b) n
types_due b e refusing.Memory scoped why is = tt
types_due b (typing.IllTyped p) (refusing.Refused r) scoped why is = (scoped, (ill_typed p, why, is))
types_due b (typing.WeakType p) (refusing.Refused r) scoped why is = (scoped, (weak p, why, is))
types_due b (typing.TypePast p n) (refusing.Refused r) scoped why is = (scoped, (past p n, why, is))
types_due b typing.Memory (refusing.Refused r) scoped why is = absurd (let wrong : None ≡ Some r = is in cc)
