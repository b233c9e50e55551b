use Rattle.std.proofs.Common.{◌≡◌, ◌<◌, All, map, take}
use Rattle.lq_refined_rules.specs.Checks.Operation.{empty_type}
use Rattle.lq_refined_subtyping.specs.Table.Whole.{count_of, refined_at, Grows}
use Rattle.lq_refined_substitution.specs.Substitution.Views.{scopes_view}
use Rattle.lq_generate_operations.proofs.operations.builds.empty_types.Given as goal

abbrev pub invariant-loop-at : goal.invariant-loop-at
invariant-loop-at l =
    let S = scopes_view l.scopes in
    record {
      refined : map (refined_at S l.types) l.made.items ≡ map (λ p. empty_type (refined_at S l.initial.types p)) (take l.at-index l.row);
      there : All (λ p. p < count_of l.types) l.made.items;
      grows : Grows l.initial.types l.types;
    }
