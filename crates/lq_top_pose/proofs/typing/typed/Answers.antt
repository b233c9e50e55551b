use Rattle.std.specs.Prelude.{codes, slice_get}
use Rattle.std.proofs.Common.{◌≡◌, Some, length, true, sym, ap, subst, ◌∙◌}
use Rattle.lq_types_infer.specs.Annotation.Errors.{HasTypeError}
use Rattle.lq_types_infer.specs.Annotation.Whole.{program_of, types_of}
use Rattle.lq_base_names.specs.NameTable.{with_text}
use Rattle.lq_base_names.specs.declared.name.Name.{Name}
use Rattle.lq_meaning_normal_form.specs.Outcomes.Flattening.{normal_of}
use Rattle.lq_meaning_normalize.specs.Pass.Rules.{items_have_rules}
use Rattle.lq_meaning_normalize.specs.Normalize.Made.{normal_view}
use Rattle.lq_text_walk.specs.Scoped.Scoping.{IsScoped, Scoping}
use Rattle.lq_types_rules.specs.Typings.Inference.{typed, IsInference}
use Rattle.lq_top_pose.proofs.Types.{posable, typed_there, types_due}
use Rattle.lq_top_pose.proofs.typing.typed.Goals as goal

pub returns-in-Err-clause-refused : goal.returns-in-Err-clause-refused
returns-in-Err-clause-refused c bytes b is view =
    let same = ap (λ t. t.program) view.1 in
    types_due b c.in-Err.error c.no_types.result (subst IsScoped same c.args.bound.texts.program.scoped)
    (subst (λ (s : Scoping). HasTypeError s c.in-Err.error) same c.in-Err.ensures.refused) c.no_types.ensures

pub returns-clause-typed : goal.returns-clause-typed
returns-clause-typed c bytes b is view =
    let same = ap (λ t. t.program) view.1 in
    let at = c.scoped.ensures.program ∙ c.in-Ok.ensures.program ∙ same in
    typed_there
    record {
      rules = c.typed_texts_have_rules.ensures;
      known = c.noted_are_known.ensures;
      ready = c.noted_texts_are_ready.ensures;
      annotations = c.noted_have_annotations.ensures;
      differ = c.constructors_differ.ensures;
    }
    bytes b is _
    record {
      scoped = subst IsScoped same c.args.bound.texts.program.scoped;
      answer = c.in-Ok.annotated;
      inferred = subst (λ (s : Scoping). IsInference s (typed (types_of c.in-Ok.annotated))) same c.in-Ok.ensures.typed;
      same = ap (λ i. program_of i.annotated) c.in_ok-noted.ensures.program ∙ ap program_of c.in_ok-program.ensures ∙ c.in-Ok.ensures.program ∙ same;
      tree = subst
          (λ (s : Scoping). items_have_rules s.items ≡ true → (normal_view c.in_ok-normal.normal).items ≡ normal_of (length s.sources) s.items) at
          c.in_ok-normal.ensures.tree;
      names = c.in_ok-value.ensures.texts ∙ ap (λ ns. with_text ns (codes "v")) view.0;
      one = c.intern.ensures.table.distinct;
      value = subst (λ (x : Name). slice_get c.intern.new.self x.0 ≡ Some (codes "v")) (sym c.in_ok-noted.ensures.value) c.in_ok-value.ensures.number;
      measures = ap (λ t. t.measures) view.1;
      qualifiers = ap (λ t. t.qualifiers) view.1;
    }

pub returns-clause-posable : goal.returns-clause-posable
returns-clause-posable c bytes b is view =
    let same = ap (λ t. t.program) view.1 in
    let at = c.scoped.ensures.program ∙ c.in-Ok.ensures.program ∙ same in
    posable
    record {
      rules = c.typed_texts_have_rules.ensures;
      known = c.noted_are_known.ensures;
      ready = c.noted_texts_are_ready.ensures;
      annotations = c.noted_have_annotations.ensures;
      differ = c.constructors_differ.ensures;
    }
    bytes b is _
    record {
      scoped = subst IsScoped same c.args.bound.texts.program.scoped;
      answer = c.in-Ok.annotated;
      inferred = subst (λ (s : Scoping). IsInference s (typed (types_of c.in-Ok.annotated))) same c.in-Ok.ensures.typed;
      same = ap (λ i. program_of i.annotated) c.in_ok-noted.ensures.program ∙ ap program_of c.in_ok-program.ensures ∙ c.in-Ok.ensures.program ∙ same;
      tree = subst
          (λ (s : Scoping). items_have_rules s.items ≡ true → (normal_view c.in_ok-normal.normal).items ≡ normal_of (length s.sources) s.items) at
          c.in_ok-normal.ensures.tree;
      names = c.in_ok-value.ensures.texts ∙ ap (λ ns. with_text ns (codes "v")) view.0;
      one = c.intern.ensures.table.distinct;
      value = subst (λ (x : Name). slice_get c.intern.new.self x.0 ≡ Some (codes "v")) (sym c.in_ok-noted.ensures.value) c.in_ok-value.ensures.number;
      measures = ap (λ t. t.measures) view.1;
      qualifiers = ap (λ t. t.qualifiers) view.1;
    }
