use Rattle.std.proofs.Common.{◌++◌, length, map, ap, ap₂, ◌∙◌}
use Rattle.lq_types_infer.specs.Annotation.Whole as annotated
use Rattle.lq_meaning_normal_tree.specs.BlockView.{definitions_view}
use Rattle.lq_generate_fresh.specs.Fresh.Views.{scopes_of}
use Rattle.lq_refined_instances.specs.Views.{scopes_view}
use Rattle.lq_meaning_normalize.specs.Normalize.Made.{normal_view}
use Rattle.lq_generate_reading.specs.Notes.Noted.{annotation_of}
use Rattle.lq_refined_templates.specs.Points.Templates.{templates_from, unknowns_from}
use Rattle.lq_text_walk.specs.Scoped.Views.{data_view}
use Rattle.lq_generate_reading.specs.Visibility.Notes.{annotation_view, types_in}
use Rattle.lq_generate_problem.proofs.Making.{described, points_same}
use Rattle.lq_generate_problem.proofs.made.templates_of.Goals as goal

pub returns-clause-templates : goal.returns-clause-templates
returns-clause-templates c D constructors ordered scopes =
    let m = c.args.noted.now in
    let same = c.datatypes.ensures ∙ ap (λ s. s.datatypes) (c.scoped.ensures.program ∙ ap annotated.program_of (c.annotated.ensures ∙ ap (λ i. i.annotated) c.program.ensures)) in
    let ds = map data_view c.datatypes.result.now in
    let describes =
    described c.in_ok-datatypes.datatypes D ds (annotated.program_of m.program.annotated).datatypes same c.requires.differ c.in_ok-datatypes.ensures constructors
    ordered in
    let points =
    points_same (scopes_of c.over-templates.result) (scopes_view c.in_ok-reading.reading.scopes) (types_in c.notes-notes.result) c.deref.result.now
    c.in_ok-reading.reading.points.items (annotation_view c.notes-notes.result) (annotation_of m) (definitions_view c.definitions.result.now)
    (normal_view c.args.normal.now).items c.over-templates.ensures.scopes c.deref.ensures.value c.in_ok-reading.ensures.points c.notes-notes.ensures.view
    c.definitions.ensures in
    c.in_ok-made.ensures.refined D describes scopes ∙ ap₂ (λ us ps. templates_from D (length us) ps) c.over-templates.ensures.unknowns points

pub returns-clause-unknowns : goal.returns-clause-unknowns
returns-clause-unknowns c D constructors ordered =
    let m = c.args.noted.now in
    let same = c.datatypes.ensures ∙ ap (λ s. s.datatypes) (c.scoped.ensures.program ∙ ap annotated.program_of (c.annotated.ensures ∙ ap (λ i. i.annotated) c.program.ensures)) in
    let ds = map data_view c.datatypes.result.now in
    let describes =
    described c.in_ok-datatypes.datatypes D ds (annotated.program_of m.program.annotated).datatypes same c.requires.differ c.in_ok-datatypes.ensures constructors
    ordered in
    let points =
    points_same (scopes_of c.over-templates.result) (scopes_view c.in_ok-reading.reading.scopes) (types_in c.notes-notes.result) c.deref.result.now
    c.in_ok-reading.reading.points.items (annotation_view c.notes-notes.result) (annotation_of m) (definitions_view c.definitions.result.now)
    (normal_view c.args.normal.now).items c.over-templates.ensures.scopes c.deref.ensures.value c.in_ok-reading.ensures.points c.notes-notes.ensures.view
    c.definitions.ensures in
    let made = c.in_ok-made.ensures.made D describes in
    made.unknowns ∙ ap₂ (λ us ps. us ++ unknowns_from D (length us) ps) c.over-templates.ensures.unknowns points
