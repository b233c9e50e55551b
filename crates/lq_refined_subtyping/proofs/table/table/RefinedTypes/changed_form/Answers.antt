use Rattle.std.proofs.Common.{[], map, sym, ap, ◌∙◌}
use Rattle.lq_refined_types.specs.Parts.Part.{Scopes}
use Rattle.lq_refined_types.specs.Types.Refined.{data_with, type_variable}
use Rattle.lq_refined_subtyping.specs.Table.Changes.{changed, matrix_changed, parts_changed, replaced}
use Rattle.lq_refined_subtyping.specs.Table.Forms.{each, form_type, matrix_view}
use Rattle.lq_refined_subtyping.specs.Table.Whole.{refined_at, types_of}
use Rattle.lq_refined_subtyping.proofs.TableLemmas.Changing.{changed-tuples, changed-datas}
use Rattle.lq_refined_subtyping.proofs.table.table.RefinedTypes.changed_form.Goals as goal

nowhere : Scopes
nowhere u = []

pub changed_variable-requires : goal.changed_variable-requires
changed_variable-requires c =
    ap (λ d. replaced d (type_variable c.in-Variable.variable)) c.as_ref-in-Variable.ensures
    ∙ ap (λ f. replaced c.args.change.now.value (form_type (types_of nowhere c.args.self.now) f [])) (sym c.in-Variable.is) ∙ c.requires.outside nowhere []

pub returns-in_ok-changed_all-in-Tuple-clause-refined : goal.returns-in_ok-changed_all-in-Tuple-clause-refined
returns-in_ok-changed_all-in-Tuple-clause-refined c =
    let old = c.args.self.now in
    let change = c.args.change.now.value in
    λ scopes p.
    changed-tuples scopes (types_of scopes old) change (types_of scopes c.changed_all.new.self) c.in_ok-changed_all-in-Tuple.field-0.items c.in-Tuple.types.items
    (c.in_ok-changed_all-in-Tuple.ensures.refined scopes
    ∙ ap (map (λ i. changed scopes (types_of scopes old) change (refined_at scopes old i))) c.deref.ensures.value)
    ∙ ap (λ f. changed scopes (types_of scopes old) change (form_type (types_of scopes old) f p)) (sym c.in-Tuple.is)

pub returns-in_ok-matrix-in-Data-clause-refined : goal.returns-in_ok-matrix-in-Data-clause-refined
returns-in_ok-matrix-in-Data-clause-refined c =
    let old = c.args.self.now in
    let new = c.changed_all-in-Data.new.self in
    let change = c.args.change.now.value in
    let made = c.in_ok-types-in-Data.types.items in
    let m = matrix_view c.in-Data.matrix in
    λ scopes p.
    ap (λ cs. data_with c.in-Data.name.0 (each (types_of scopes new) made) cs (parts_changed scopes change p))
    (c.in_ok-matrix-in-Data.ensures ∙ ap (λ d. matrix_changed d m) c.deref-in-Data-2.ensures)
    ∙ changed-datas scopes (types_of scopes old) change (types_of scopes new) made c.in-Data.types.items c.in-Data.name.0 m p
    (c.in_ok-types-in-Data.ensures.refined scopes
    ∙ ap (map (λ i. changed scopes (types_of scopes old) change (refined_at scopes old i))) c.deref-in-Data.ensures.value)
    ∙ ap (λ f. changed scopes (types_of scopes old) change (form_type (types_of scopes old) f p)) (sym c.in-Data.is)
