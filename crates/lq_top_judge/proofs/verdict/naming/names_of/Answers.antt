use mathlib.Core.Path.{fun_ext}
use Rattle.std.proofs.Common.{◌≡◌, ℕ, List, Option, map, ap, ◌∙◌}
use Rattle.lq_types_infer.specs.Annotation.Whole.{program_of}
use Rattle.lq_meaning_normal_tree.specs.BlockView.{definitions_view}
use Rattle.lq_meaning_normalize.specs.MadeNames.Numbers.{made_number}
use Rattle.lq_logic_text.specs.Views.{source_view}
use Rattle.lq_text_walk.specs.Scoped.Whole.{scoped_view}
use Rattle.lq_text_tree.specs.Items.{ItemTree}
use Rattle.lq_top_judge.proofs.verdict.naming.names_of.Goals as goal

pub returns-clause-made : goal.returns-clause-made
returns-clause-made c =
    let s = program_of c.args.texts.now.noted.program.annotated in
    let scoped : scoped_view c.scoped.result.now ≡ s =
    c.scoped.ensures.program ∙ ap program_of (c.annotated.ensures ∙ ap (λ i. i.annotated) c.program.ensures) in
    let sources : map source_view c.deref.result.now ≡ s.sources =
    ap (map source_view) c.deref.ensures.value ∙ (c.in_ok-sources.ensures ∙ ap (λ p. p.sources) scoped) in
    fun_ext (λ x.
    c.in_ok-made.ensures x
    ∙ ap (λ (ss : List (Option ℕ)). made_number ss (definitions_view c.definitions.result.now) x) sources
    ∙ ap (λ (is : List ItemTree). made_number s.sources is x) c.definitions.ensures)
