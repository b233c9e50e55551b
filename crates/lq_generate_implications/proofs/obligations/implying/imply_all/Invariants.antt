use Rattle.std.proofs.Common.{◌≡◌, List, map, take}
use Rattle.lq_refined_rules.specs.Checks.Basis.{Basis}
use Rattle.lq_refined_subtyping.specs.Contexts.Growing.{HasMore}
use Rattle.lq_refined_substitution.specs.Implications.Growing.{Continues}
use Rattle.lq_refined_substitution.specs.Implications.Views.{environment_lists}
use Rattle.lq_refined_rules.specs.Obligations.Obligation.{Obligation as Asking}
use Rattle.lq_refined_rules.specs.Obligations.Obligation.{all_implications}
use Rattle.lq_refined_subtyping.specs.Table.Whole.{types_of, Grows}
use Rattle.lq_refined_subtyping.specs.Split.Appending.{Appends}
use Rattle.lq_generate_implications.specs.Obligations.Views.{all_stated, scopes_of, stated, IsOver}
use Rattle.lq_generate_implications.proofs.obligations.implying.imply_all.Given as goal

abbrev pub invariant-loop-obligation : goal.invariant-loop-obligation
invariant-loop-obligation l = record {
  added : (P : Basis) (xs : List Asking) → IsOver P l.sources (types_of (scopes_of l.sources) l.initial.types)
      → map (stated P) xs ≡ all_stated (environment_lists l.initial.list) (types_of (scopes_of l.sources) l.initial.types) l.obligations
      → Appends l.initial.list l.list (all_implications P (take l.obligation-index xs));
  environments : HasMore (environment_lists l.initial.list) (environment_lists l.list);
  continues : Continues l.initial.list l.list;
  grows : Grows l.initial.types l.types;
}
