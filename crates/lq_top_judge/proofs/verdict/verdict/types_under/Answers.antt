use mathlib.Core.Path.{fun_ext}
use Rattle.std.specs.Prelude.{IfOk}
use Rattle.std.specs.declared.alloc.Global.{Global}
use Rattle.std.specs.declared.vec.Vec.{Vec}
use Rattle.std.proofs.Common.{◌≡◌, ℕ, List, Option, map, ap, subst, ◌∙◌}
use Rattle.lq_types_infer.specs.Annotation.Whole.{program_of}
use Rattle.lq_top_answers.specs.Assignment.Views.{assignment_view}
use Rattle.lq_top_answers.specs.Inferred.Lines.{types_text_of}
use Rattle.lq_top_answers.specs.Inferred.Views.{inferred_in}
use Rattle.lq_refined_types.specs.Parts.Assignment.{Assignment}
use Rattle.lq_refined_templates.specs.Programs.BlockView.{program_view}
use Rattle.lq_refined_templates.specs.declared.programs.block.Item.{Item}
use Rattle.lq_meaning_normalize.specs.MadeNames.Numbers.{made_number}
use Rattle.lq_meaning_normalize.specs.Normalize.Made.{normal_view}
use Rattle.lq_logic_text.specs.Views.{made_view, source_view}
use Rattle.lq_solve_fixpoint.specs.Questions.Assigned.{assignment_of}
use Rattle.lq_text_walk.specs.Scoped.Signature.{DataTree}
use Rattle.lq_text_walk.specs.Scoped.Whole.{scoped_view}
use Rattle.lq_refined_substitution.specs.Substitution.Views.{scopes_view}
use Rattle.lq_top_answers.specs.TypeText.Views.{parameters_view}
use Rattle.lq_top_judge.specs.Verdict.Names.{parameters_in, written_by}
use Rattle.lq_top_judge.proofs.verdict.verdict.types_under.Goals as goal

pub returns : goal.returns
returns c =
    let m = c.args.problem.now in
    let texts = c.args.texts.now in
    let s = program_of texts.noted.program.annotated in
    let text : List Item → List (Vec ℕ Global) → Assignment → List (Option ℕ) → (ℕ → Option ℕ) → (ℕ → List ℕ) → List ℕ =
    λ is rows A ss ns ps. types_text_of (inferred_in (scopes_view m.scopes) m.types rows A (written_by texts.names ss ns ps)) (program_view is) in
    let scoped : scoped_view c.scoped-program.result.now ≡ s =
    c.scoped-program.ensures.program ∙ ap program_of (c.annotated.ensures ∙ ap (λ i. i.annotated) c.program.ensures) in
    let numbers : ℕ → Option ℕ = made_number s.sources (normal_view texts.normal).items in
    let datatypes = c.datatypes.ensures ∙ ap (λ p. p.datatypes) scoped in
    let parameters : parameters_view c.in_ok-parameters.parameters ≡ parameters_in s.datatypes =
    fun_ext (λ d. c.in_ok-parameters.ensures d ∙ ap (λ (ds : List DataTree). parameters_in ds d) datatypes) in
    let ps0 = parameters_view c.in_ok-parameters.parameters in
    let A0 = assignment_view c.in_ok-assignment.assignment in
    let A = assignment_of m.instances c.args.chosen.now in
    let ss0 = map source_view c.deref.result.now in
    let ns0 = made_view c.deref-2.result.now in
    let whole =
    ap (λ (is : List Item). text is c.deref-4.result.now A0 ss0 ns0 ps0) c.deref-3.ensures.value
    ∙ ap (λ (rows : List (Vec ℕ Global)). text m.program.items rows A0 ss0 ns0 ps0) c.deref-4.ensures.value
    ∙ ap (λ (B : Assignment). text m.program.items m.templates.items B ss0 ns0 ps0) c.in_ok-assignment.ensures
    ∙ ap (λ (ss : List (Option ℕ)). text m.program.items m.templates.items A ss ns0 ps0) (ap (map source_view) c.deref.ensures.value ∙ c.in_ok-names.ensures.sources)
    ∙ ap (λ (ns : ℕ → Option ℕ). text m.program.items m.templates.items A s.sources ns ps0) (ap made_view c.deref-2.ensures.value ∙ c.in_ok-names.ensures.made)
    ∙ ap (λ (ps : ℕ → List ℕ). text m.program.items m.templates.items A s.sources numbers ps) parameters in
    subst (λ (w : List ℕ). IfOk c.types_text.result (λ t. t ≡ w)) whole c.types_text.ensures.text
