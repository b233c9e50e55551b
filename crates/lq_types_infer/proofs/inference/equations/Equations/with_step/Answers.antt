use Rattle.std.proofs.Common.{◌+◌, sym}
use Rattle.lq_base_names.specs.declared.name.Binder.{Binder}
use Rattle.lq_text_walk.specs.Walk.Pending.{visit_view}
use Rattle.lq_text_tree.specs.Types.{Signature}
use Rattle.lq_types_rules.specs.Equations.Adding.{Adds, count_of}
use Rattle.lq_types_rules.specs.Equations.Gathered.{VisitRule}
use Rattle.lq_types_rules.specs.Equations.Templates.{HasSignature}
use Rattle.lq_types_rules.specs.Visits.Owning.{binder_slots}
use Rattle.lq_types_infer.specs.Inference.Adding.{IsStepOf}
use Rattle.lq_types_infer.specs.Inference.Copying.{AddsUse}
use Rattle.lq_types_infer.specs.Inference.Defining.{first_of, use_view}
use Rattle.lq_types_infer.proofs.InferenceLemmas.Visiting.{binder_in, use_node_in, use_fixed_in, use_step, rule_step, if_ok}
use Rattle.lq_types_infer.proofs.inference.equations.Equations.with_step.Goals as goal

pub with_use-requires-clause-before : goal.with_use-requires-clause-before
with_use-requires-clause-before c = let k = c.requires.known in c.in-Some.ensures.low k.0 k.1

pub with_use-requires-clause-fixed : goal.with_use-requires-clause-fixed
with_use-requires-clause-fixed c =
    let k = c.requires.known in
    use_fixed_in c.args.nodes k.0 (visit_view Binder (λ b. b.0) c.args.visit) (use_view c.args.self.definitions.plain.items c.in-Some.found) (sym (c.in-Some.ensures.found k.0 k.1)) (count_of c.args.self.system) k.2

pub with_use-requires-clause-definition : goal.with_use-requires-clause-definition
with_use-requires-clause-definition c =
    let k = c.requires.known in
    binder_in k.0 c.args.nodes (count_of c.args.self.system) (visit_view Binder (λ b. b.0) c.args.visit) (use_view c.args.self.definitions.plain.items c.in-Some.found) c.requires.within (sym (c.in-Some.ensures.found k.0 k.1))

pub with_use-requires-clause-node : goal.with_use-requires-clause-node
with_use-requires-clause-node c =
    let k = c.requires.known in
    use_node_in c.args.nodes k.0 (visit_view Binder (λ b. b.0) c.args.visit) (use_view c.args.self.definitions.plain.items c.in-Some.found) (sym (c.in-Some.ensures.found k.0 k.1)) (count_of c.args.self.system) k.2

pub returns-in-Some-clause-step : goal.returns-in-Some-clause-step
returns-in-Some-clause-step c =
    if_ok (λ s. AddsUse c.args.self.system s.system (binder_slots c.args.nodes (first_of c.args.self.definitions.plain.items c.in-Some.found.before)) (c.args.nodes + c.in-Some.found.binder) c.in-Some.found.node)
    (λ s. IsStepOf c.args.constructors.now c.args.nodes c.args.self (visit_view Binder (λ b. b.0) c.args.visit) s.system) c.with_use.result
    (λ s used g k h known. use_step c.args.nodes k (visit_view Binder (λ b. b.0) c.args.visit) (use_view c.args.self.definitions.plain.items c.in-Some.found) (sym (c.in-Some.ensures.found k known)) g c.args.self.system s.system used)
    c.with_use.ensures.used

pub returns-in-None-clause-step : goal.returns-in-None-clause-step
returns-in-None-clause-step c =
    if_ok (λ s. (g : Signature) → HasSignature c.args.constructors.now g → Adds c.args.self.system s.system (VisitRule g c.args.nodes (visit_view Binder (λ b. b.0) c.args.visit)))
    (λ s. IsStepOf c.args.constructors.now c.args.nodes c.args.self (visit_view Binder (λ b. b.0) c.args.visit) s.system) c.with_rule.result
    (λ s rule g k h known. rule_step g c.args.nodes k (visit_view Binder (λ b. b.0) c.args.visit) c.args.self.system s.system (sym (c.in-None.ensures.found k known)) (rule g h))
    c.with_rule.ensures.rule
