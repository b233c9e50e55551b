use Rattle.std.proofs.Common.{◌≡◌, ◌<◌, [], drop, length, map}
use Rattle.lq_refined_subtyping.specs.Table.Forms.{matrix_view}
use Rattle.lq_generate_fresh.specs.Fresh.Fields.{scope_of_fields}
use Rattle.lq_generate_fresh.specs.Fresh.Views.{field_view, scope_at, scopes_of, shape_if}
use Rattle.lq_generate_fresh.proofs.FreshLemmas.Loops.{FieldsDone}
use Rattle.lq_generate_fresh.proofs.fresh.templates.Templates.add_fields.Given as goal

abbrev pub invariant-loop-at : goal.invariant-loop-at
invariant-loop-at l =
    let ss = map shape_if l.shapes in
    let xs = map field_view l.fields in
    let Γ = scope_of_fields l.fn.datatype.0 ss 0 xs [] in
    record {
      done : FieldsDone l.fn.self l.self (matrix_view l.fn.matrix) (matrix_view l.matrix) Γ l.constructor.name.0 ss xs l.at (drop l.at xs);
      scope : scope_at l.self l.scope ≡ Γ;
      there : l.scope < length (scopes_of l.self);
    }
