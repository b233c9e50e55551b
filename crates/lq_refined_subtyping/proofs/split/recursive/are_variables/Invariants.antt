use Rattle.std.proofs.Common.{◌≡◌, drop}
use Rattle.lq_refined_subtyping.specs.Table.Forms.{each}
use Rattle.lq_refined_subtyping.specs.Table.Whole.{types_of, Grows}
use Rattle.lq_refined_substitution.specs.Substitution.Views.{scopes_view}
use Rattle.lq_refined_subtyping.specs.Split.Recursive.{are_variables}
use Rattle.lq_refined_subtyping.proofs.split.recursive.are_variables.Given as goal

abbrev pub invariant-loop-at : goal.invariant-loop-at
invariant-loop-at l =
    let all = types_of (scopes_view l.scopes) l.initial.types in
    record {
      are : are_variables 0 (each all l.row) ≡ are_variables l.at (each all (drop l.at l.row));
      grows : Grows l.initial.types l.types;
    }
