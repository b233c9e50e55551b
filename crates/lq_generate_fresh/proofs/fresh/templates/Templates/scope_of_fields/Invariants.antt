use Rattle.std.proofs.Common.{◌<◌, [], drop, length, map}
use Rattle.lq_generate_fresh.specs.Fresh.Views.{field_view, scope_at, scopes_of, shape_if, IsMade}
use Rattle.lq_generate_fresh.proofs.FreshLemmas.Loops.{ScopeDone}
use Rattle.lq_generate_fresh.proofs.fresh.templates.Templates.scope_of_fields.Given as goal

abbrev pub invariant-loop-at : goal.invariant-loop-at
invariant-loop-at l =
    let xs = map field_view l.fields in
    record {
      done : ScopeDone (scope_at l.self l.scope) l.datatype.0 (map shape_if l.shapes) xs l.at (drop l.at xs);
      there : l.scope < length (scopes_of l.self);
      made : IsMade l.initial.self l.self [];
    }
