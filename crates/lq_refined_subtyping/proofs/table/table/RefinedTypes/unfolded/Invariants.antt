use Rattle.std.proofs.Common.{◌≡◌, ◌<◌, ◌++◌, All, drop, length, map}
use Rattle.lq_refined_subtyping.specs.Table.Unfolding.{field_type, numbered_from}
use Rattle.lq_refined_subtyping.specs.Table.Whole.{count_of, refined_at, types_of, Grows}
use Rattle.lq_refined_substitution.specs.Substitution.Views.{scopes_view}
use Rattle.lq_refined_subtyping.proofs.table.table.RefinedTypes.unfolded.Given as goal

abbrev pub invariant-loop-field : goal.invariant-loop-field
invariant-loop-field l =
    let S = scopes_view l.scopes in
    let F = field_type S l.of (types_of S l.initial.self) l.constructor.0 in
    record {
      refined : map (refined_at S l.self) l.made.items ++ numbered_from F l.field-index (drop l.field-index l.fields) ≡ numbered_from F 0 l.fields;
      count : length l.made.items ≡ l.field-index;
      there : All (λ p. p < count_of l.self) l.made.items;
      grows : Grows l.initial.self l.self;
    }
