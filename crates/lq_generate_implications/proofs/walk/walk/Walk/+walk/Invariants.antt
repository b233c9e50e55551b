use Rattle.std.proofs.Common.{map, take}
use Rattle.lq_refined_rules.specs.Obligations.Obligations.{each, of_constructor}
use Rattle.lq_refined_templates.specs.Programs.BlockView.{arms_view, bindings_view}
use Rattle.lq_refined_templates.specs.Programs.PureView.{use_view}
use Rattle.lq_refined_subtyping.specs.Table.Whole.{refined_at}
use Rattle.lq_generate_operations.specs.Basis.Basis.{scopes_of}
use Rattle.lq_generate_implications.specs.Walk.Asking.{Asks}
use Rattle.lq_generate_implications.specs.Walk.Through.{Passes}
use Rattle.lq_generate_implications.proofs.walk.walk.Walk.+walk.Given as goal

abbrev pub invariant-datatype-loop-constructor : goal.invariant-datatype-loop-constructor
invariant-datatype-loop-constructor l =
    Asks l.basis l.initial.self l.self l.env (λ P Γ.
    each (λ c. of_constructor P Γ l.place (use_view l.used) l.covered c (refined_at (scopes_of l.basis) l.initial.self.types l.expected) (arms_view l.arms))
    (map (λ n. n.0) (take l.constructor-index l.constructor-items)))

abbrev pub invariant-through-loop-binding : goal.invariant-through-loop-binding
invariant-through-loop-binding l = Passes l.basis l.initial.self l.self l.env l.at (bindings_view (take l.binding-index l.bindings))
