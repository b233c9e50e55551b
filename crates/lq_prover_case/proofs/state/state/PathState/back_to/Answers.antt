use Rattle.std.proofs.Common.{◌≡◌, ◌∙◌, ◌≤◌, List, Some, ap, length, refl, slice_get, subst, take}
use Rattle.lq_prover_case.specs.State.PathState.{PathState, facts_in}
use Rattle.lq_prover_case.specs.declared.state.state.Step.{Step}
use Rattle.lq_prover_case.proofs.StateLemmas.Objects.{objects_first, objects_within}
use Rattle.lq_prover_case.proofs.StateLemmas.Pathing.{all_first, any_name, state_first, step_at, step_within}
use Rattle.lq_prover_case.proofs.state.state.PathState.back_to.Goals as goal

pub back_to-requires : goal.back_to-requires
back_to-requires c =
    let at : slice_get c.self.inside.steps.items c.args.mark.0 ≡ Some c.in-Some.step.now =
    step_at c.deref.result.now c.self.inside.steps.items c.args.mark.0 c.in-Some.step.now c.deref.ensures.value c.in-Some.ensures.lookup.3.0 c.in-Some.ensures.lookup.1 in
    step_within any_name c.self.inside.steps.items c.self.inside.rows.rows c.self.inside.flags.entries c.self.inside.clash c.args.mark.0 c.in-Some.step.now (c.self.invariant.paths any_name) at

pub back_to-requires-in-Some : goal.back_to-requires-in-Some
back_to-requires-in-Some c =
    let at : slice_get c.self.inside.steps.items c.args.mark.0 ≡ Some c.in-Some.step.now =
    step_at c.deref.result.now c.self.inside.steps.items c.args.mark.0 c.in-Some.step.now c.deref.ensures.value c.in-Some.ensures.lookup.3.0 c.in-Some.ensures.lookup.1 in
    objects_within c.self.inside.steps.items c.self.inside.objects.facts c.args.mark.0 c.in-Some.step.now c.self.invariant.objects_are at

pub invariant_of-self : goal.invariant_of-self
invariant_of-self c =
    let at : slice_get c.self.inside.steps.items c.args.mark.0 ≡ Some c.in-Some.step.now =
    step_at c.deref.result.now c.self.inside.steps.items c.args.mark.0 c.in-Some.step.now c.deref.ensures.value c.in-Some.ensures.lookup.3.0 c.in-Some.ensures.lookup.1 in record {
      paths = λ name. (state_first name c.self.inside.steps.items c.truncate-in-Some.new.self.items c.self.inside.rows.rows c.back_to.new.self.rows c.self.inside.flags.entries c.truncate.new.self.entries
          c.self.inside.clash c.in-Some.step.now.clash c.args.mark.0 c.in-Some.step.now (c.self.invariant.paths name) at c.truncate-in-Some.ensures.items c.back_to.ensures.rows c.truncate.ensures.entries refl).0;
      objects_are = objects_first c.self.inside.steps.items c.truncate-in-Some.new.self.items c.self.inside.objects.facts c.back_to-in-Some.new.self.facts c.args.mark.0 c.in-Some.step.now c.self.invariant.objects_are at
          c.truncate-in-Some.ensures.items c.back_to-in-Some.ensures.facts;
    }

pub returns-in-Some-clause-facts : goal.returns-in-Some-clause-facts
returns-in-Some-clause-facts c = λ name.
    let at : slice_get c.self.inside.steps.items c.args.mark.0 ≡ Some c.in-Some.step.now =
    step_at c.deref.result.now c.self.inside.steps.items c.args.mark.0 c.in-Some.step.now c.deref.ensures.value c.in-Some.ensures.lookup.3.0 c.in-Some.ensures.lookup.1 in
    (state_first name c.self.inside.steps.items c.truncate-in-Some.new.self.items c.self.inside.rows.rows c.back_to.new.self.rows c.self.inside.flags.entries c.truncate.new.self.entries c.self.inside.clash
    c.in-Some.step.now.clash c.args.mark.0 c.in-Some.step.now (c.self.invariant.paths name) at c.truncate-in-Some.ensures.items c.back_to.ensures.rows c.truncate.ensures.entries refl).1
    ∙ ap (λ (s : PathState). take c.args.mark.0 (facts_in name s)) c.self.view_is

pub returns-in_default-clause-facts : goal.returns-in_default-clause-facts
returns-in_default-clause-facts c = λ name.
    subst (λ (s : PathState). facts_in name s ≡ take c.args.mark.0 (facts_in name s)) c.self.view_is
    (all_first name c.self.inside.steps.items c.self.inside.rows.rows c.args.mark.0 (subst (λ (x : List Step). length x ≤ c.args.mark.0) c.deref.ensures.value c.in_default.ensures.lookup.3))
