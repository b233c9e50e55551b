-- A typed text can be posed.
use Rattle.std.proofs.Common.{◌≡◌, [], true, length, refl, sym, ap, subst, ◌∙◌}
use Rattle.lq_types_infer.specs.Annotation.Whole as annotated
use Rattle.lq_types_infer.specs.declared.annotation.annotated.Annotated.{Annotated}
use Rattle.lq_generate_fresh.specs.Fresh.Defined.{ConstructorsDiffer}
use Rattle.lq_meaning_normal_form.specs.Outcomes.Flattening.{normal_of}
use Rattle.lq_sound_readiness.specs.NormalTexts.Laws.{TypedTextsHaveRules}
use Rattle.lq_meaning_normalize.specs.Pass.Rules.{items_have_rules}
use Rattle.lq_meaning_normalize.specs.Normalize.Made.{normal_view}
use Rattle.lq_generate_reading.specs.Notes.Noted.{annotation_of, NotedAreKnown}
use Rattle.lq_generate_problem.specs.Posed.{datatypes_of}
use Rattle.lq_sound_readiness.specs.Programs.Laws.{IsReadReady}
use Rattle.lq_types_rules.specs.Equations.Rows.{annotation_of as annotation_by}
use Rattle.lq_text_walk.specs.Scoped.Scoping.{Scoping}
use Rattle.lq_text_walk.specs.Scoped.Signature.{signature_in}
use Rattle.lq_sound_readiness.specs.TextPrograms.Laws.{IsOfText, NotedTextsAreReady}
use Rattle.lq_text_tree.specs.TypingRules.{ItemsAre}
use Rattle.lq_types_rules.specs.Typings.Inference.{typed, IsInference}
use Rattle.lq_types_rules.specs.Typings.Principal.{node_count}
use Rattle.lq_cases_rules.specs.Cases.{IsPosable}
use Rattle.lq_cases_rules.specs.declared.posing.Typed.{Typed}

module _ (rules : TypedTextsHaveRules) (known : NotedAreKnown) (ready : NotedTextsAreReady) (t : Typed) (s : Scoping) (a : Annotated)
    (of_text : IsOfText s) (differ : ConstructorsDiffer s.datatypes) (inferred : IsInference s (typed (annotated.types_of a)))
    (same : annotated.program_of t.noted.program.annotated ≡ s)
    (tree : items_have_rules s.items ≡ true → (normal_view t.normal).items ≡ normal_of (length s.sources) s.items) where
  have_rules : items_have_rules s.items ≡ true
  have_rules =
      let obeys =
      subst (λ (r : Scoping). ItemsAre (signature_in r.datatypes) (annotation_by (node_count s) (annotated.types_of a)) [] r.items) of_text.bound inferred.0.obeys in
      let h = rules of_text.text of_text.names of_text.tokens of_text.trees of_text.read of_text.known (annotation_by (node_count s) (annotated.types_of a)) obeys in
      subst (λ (r : Scoping). items_have_rules r.items ≡ true) (sym of_text.bound) h.0

  pub posable : IsPosable t
  posable =
      let there = annotated.program_of t.noted.program.annotated in
      let items = tree have_rules ∙ ap (λ (r : Scoping). normal_of (length r.sources) r.items) (sym same) in
      record {
        differ = subst (λ (r : Scoping). ConstructorsDiffer r.datatypes) (sym same) differ;
        ready = λ ms.
            let D = datatypes_of there.datatypes ms in
            subst (IsReadReady D (annotation_of t.noted)) (sym items)
            (ready t.noted.program (annotation_of t.noted) D (subst IsOfText (sym same) of_text) refl (known t.noted));
      }
