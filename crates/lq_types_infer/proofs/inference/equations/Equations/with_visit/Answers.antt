use Rattle.std.proofs.Common.{sym, subst}
use Rattle.lq_base_names.specs.declared.name.Binder.{Binder}
use Rattle.lq_text_walk.specs.Walk.Pending.{visit_view}
use Rattle.lq_types_unify.specs.Knowing.{Knows}
use Rattle.lq_types_unify.specs.Solution.{HasNoSolution}
use Rattle.lq_types_rules.specs.Equations.Adding.{forms_of}
use Rattle.lq_types_infer.specs.Inference.Defining.{HasKnown}
use Rattle.lq_types_infer.proofs.InferenceLemmas.Opened.{told_grown}
use Rattle.lq_types_infer.proofs.InferenceLemmas.Visiting.{plain_grows}
use Rattle.lq_types_infer.proofs.inference.equations.Equations.with_visit.Goals as goal

pub returns-then-not-branch-clause-clash : goal.returns-then-not-branch-clause-clash
returns-then-not-branch-clause-clash c = record {
  next = c.in_ok-next.next.system;
  system = c.in_ok-next.ensures.added.system;
  step = c.in_ok-next.ensures.step;
  fails = subst (HasNoSolution (forms_of c.in_ok-next.next.system)) c.deref.ensures.value (c.in_ok-merge.ensures.none c.if-not-branch.true);
}

pub returns-clause-kept : goal.returns-clause-kept
returns-clause-kept c =
    let next = c.in_ok-next.next in
    let k = c.requires.known in
    let known = subst (λ d. HasKnown d k.0) (sym c.in_ok-next.ensures.added.same) k.1 in
    let grown = plain_grows k.0 (visit_view Binder (λ b. b.0) c.args.visit) next.definitions c.leave.new.self known (c.in_ok-leave.ensures k.0 known) in
    record {
      system = c.in_ok-next.ensures.added.system;
      knows = subst (λ es. Knows next.system.arena es c.merge.new.self) c.deref.ensures.value (c.in_ok-merge.ensures.knows c.if-not-branch.false);
      clear = c.in_ok-next.ensures.added.clear;
      told = told_grown c.args.nodes next.system next.definitions.plain.items next.opened.told next.opened.places.items c.in_ok-next.ensures.added.told c.leave.new.self.plain.items grown.0 grown.1;
    }
