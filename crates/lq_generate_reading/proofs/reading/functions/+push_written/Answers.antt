use Rattle.std.proofs.Common.{◌∙◌, [], ◌∷◌, ◌++◌, map, sym, ap, ap₂, append_assoc}
use Rattle.std.proofs.lemmas.List.{append-nil, map-append}
use Rattle.lq_meaning_normal_tree.specs.BlockView.{block_view}
use Rattle.lq_refined_templates.specs.Programs.PointView.{name_view}
use Rattle.lq_refined_templates.specs.Points.Annotation.{argument_name}
use Rattle.lq_refined_templates.specs.Points.Reading.{written_names}
use Rattle.lq_generate_reading.specs.Visibility.Notes.{annotation_view}
use Rattle.lq_generate_reading.proofs.ReadingLemmas.BlockForms.{written_fun, written_none}
use Rattle.lq_generate_reading.proofs.reading.functions.+push_written.Goals as goal

pub returns-in-Some : goal.returns-in-Some
returns-in-Some t c =
    let names = map name_view c.args.names.now.items in
    sym (ap (λ l. names ++ l) (c.in-Some.ensures (annotation_view c.args.notes.now)).names ∙ append-nil names)

pub returns-in_default : goal.returns-in_default
returns-in_default t c =
    let names = map name_view c.args.names.now.items in
    sym (ap (λ l. names ++ l) (written_none (annotation_view c.args.notes.now) c.args.block.now c.in-None.ensures c.in_default.not-Fun) ∙ append-nil names)

pub returns-in_ok-push_written-in-Fun : goal.returns-in_ok-push_written-in-Fun
returns-in_ok-push_written-in-Fun t c =
    let n = annotation_view c.args.notes.now in
    let names = map name_view c.args.names.now.items in
    let x = c.in-Fun.local.binder in
    let inner = written_names n (block_view c.in-Fun.body.value) in
    c.in_ok-push_written-in-Fun.ensures
    ∙ (ap₂ (λ l b. l ++ written_names n (block_view b))
    (ap (map name_view) c.in_ok-push-in-Fun.ensures.items
    ∙ (map-append name_view c.args.names.now.items (c.argument_name.result ∷ []) ∙ ap (λ o. names ++ o ∷ []) c.argument_name.ensures))
    c.deref.ensures
    ∙ (append_assoc names (argument_name n x.0 ∷ []) inner
    ∙ ap (λ l. names ++ l) (sym (written_fun n c.args.block.now c.in-Fun.local c.in-Fun.body c.in-None.ensures c.in-Fun.is))))
