use Rattle.std.proofs.Common.{◌≡◌, ◌<◌, All, slice_get, sym, ap, subst, ◌∙◌, arith}
use Rattle.lq_refined_subtyping.specs.Table.Changes.{variable_of}
use Rattle.lq_refined_subtyping.specs.declared.table.changes.Change.TheVariants.{Instantiated}
use Rattle.lq_refined_subtyping.specs.Table.Rows.{row_rows, row_type}
use Rattle.lq_refined_subtyping.specs.Table.Whole.{count_of, refined_at, types_of}
use Rattle.lq_refined_subtyping.proofs.TableLemmas.Changing.{chosen-earlier, chosen-type, missing-type}
use Rattle.lq_refined_subtyping.proofs.table.table.RefinedTypes.+variable.Goals as goal

pub variable-requires-in-Some-number_at : goal.variable-requires-in-Some-number_at
variable-requires-in-Some-number_at t c =
    let e : c.in-Delayed.change.value ≡ Instantiated c.in-Instantiated.types = sym c.as_ref.ensures ∙ c.in-Instantiated.is in
    let rows = subst (λ r. All (λ p. p < c.args.at) (row_rows r)) c.in-Delayed.is c.row.ensures.earlier in
    let low : c.in-Some-number_at.chosen < c.args.at =
    chosen-earlier c.in-Delayed.change.value c.args.at c.in-Delayed.inner c.in-Some.variable c.in-Some-number_at.chosen
    c.in-Instantiated.types e rows (c.in-Some-number_at.ensures ∙ ap (λ l. slice_get l c.in-Some.variable) c.deref.ensures.value) in
    let m : c.args.at ≡ t = c.decreases in
    let n : c.args.at < count_of c.args.self.now = c.requires in
    (omega arith, omega arith)

pub returns-in-Some-number_at : goal.returns-in-Some-number_at
returns-in-Some-number_at t c =
    let e : c.in-Delayed.change.value ≡ Instantiated c.in-Instantiated.types = sym c.as_ref.ensures ∙ c.in-Instantiated.is in
    let v = c.in-Some.variable in
    let self = c.args.self.now in
    λ scopes. c.variable-in-Some-number_at.ensures scopes
    ∙ ap variable_of (sym (chosen-type scopes (types_of scopes self) (refined_at scopes self c.args.at) c.in-Delayed.change.value
    c.in-Delayed.inner v c.in-Some-number_at.chosen c.in-Instantiated.types
    (c.row.ensures.refined scopes ∙ ap (row_type scopes (types_of scopes self)) c.in-Delayed.is) e (c.in-Some.ensures scopes)
    (c.in-Some-number_at.ensures ∙ ap (λ l. slice_get l v) c.deref.ensures.value)))

pub returns-in-None-number_at : goal.returns-in-None-number_at
returns-in-None-number_at t c =
    let e : c.in-Delayed.change.value ≡ Instantiated c.in-Instantiated.types = sym c.as_ref.ensures ∙ c.in-Instantiated.is in
    let v = c.in-Some.variable in
    let self = c.args.self.now in
    λ scopes. ap variable_of (sym (missing-type scopes (types_of scopes self) (refined_at scopes self c.args.at) c.in-Delayed.change.value
    c.in-Delayed.inner v c.in-Instantiated.types
    (c.row.ensures.refined scopes ∙ ap (row_type scopes (types_of scopes self)) c.in-Delayed.is) e (c.in-Some.ensures scopes)
    (c.in-None-number_at.ensures ∙ ap (λ l. slice_get l v) c.deref.ensures.value)))
