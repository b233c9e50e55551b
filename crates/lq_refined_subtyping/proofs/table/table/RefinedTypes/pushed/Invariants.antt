use Rattle.std.proofs.Common.{◌≡◌, ◌<◌, ◌++◌, All, drop, length, map}
use Rattle.lq_refined_subtyping.specs.Table.Unfolding.{numbered_from, pushed_type}
use Rattle.lq_refined_subtyping.specs.Table.Whole.{count_of, refined_at, types_of, Grows}
use Rattle.lq_refined_substitution.specs.Substitution.Views.{scopes_view}
use Rattle.lq_refined_subtyping.proofs.table.table.RefinedTypes.pushed.Given as goal

abbrev pub invariant-loop-at : goal.invariant-loop-at
invariant-loop-at l =
    let S = scopes_view l.scopes in
    let F = pushed_type S l.of (types_of S l.initial.self) l.constructor.0 l.field in
    record {
      refined : map (refined_at S l.self) l.made.items ++ numbered_from F l.at-index (drop l.at-index l.of.arguments.now)
          ≡ numbered_from F 0 l.of.arguments.now;
      count : length l.made.items ≡ l.at-index;
      there : All (λ p. p < count_of l.self) l.made.items;
      grows : Grows l.initial.self l.self;
    }
