use Rattle.std.proofs.Common.{◌≡◌, ◌-◌, ◌^◌, List, length, map, min, take}
use Rattle.lq_refined_rules.specs.Checks.Basis.{Basis}
use Rattle.lq_refined_rules.specs.Obligations.Obligation.{Obligation as Asking}
use Rattle.lq_refined_rules.specs.Obligations.Obligation.{all_implications}
use Rattle.lq_refined_types.specs.Parts.Part.{Parts as PartList}
use Rattle.lq_refined_subtyping.specs.Table.Whole.{types_of, Grows}
use Rattle.lq_refined_substitution.specs.Substitution.Views.{scopes_view}
use Rattle.lq_generate_implications.specs.Obligations.Views.{all_stated, stated}
use Rattle.lq_generate_implications.proofs.obligations.counting.count_all.Given as goal

abbrev pub invariant-loop-obligation : goal.invariant-loop-obligation
invariant-loop-obligation l = record {
  count : (P : Basis) (xs : List Asking) (es : List PartList)
      → map (stated P) xs ≡ all_stated es (types_of (scopes_view l.scopes) l.initial.types) l.obligations
      → l.total ≡ min (length (all_implications P (take l.obligation-index xs))) (2 ^ 64 - 1);
  grows : Grows l.initial.types l.types;
}
