use Rattle.std.proofs.Common.{arith}
use Rattle.lq_base_names.specs.declared.name.Binder.{Binder}
use Rattle.lq_text_walk.specs.Walk.Pending.{left, visit_view}
use Rattle.lq_types_infer.proofs.InferenceLemmas.Walking.{front_none, front_at, front_in, front_more, front_fails, front_solved, front_unsolved}
use Rattle.lq_types_infer.proofs.inference.program.Program.attempt.Goals as goal

pub loop-taken-init : goal.loop-taken-init
loop-taken-init c =
    front_none c.args.self.now (left Binder (λ b. b.0) c.in_ok-walk.walk) c.in_ok-equations.equations c.in_ok-equations.ensures.fresh (c.in_ok-equations.ensures.kept c.args.self.now.nodes) c.in_ok-equations.ensures.known c.in_ok-walk.ensures

pub with_visit-requires-clause-within : goal.with_visit-requires-clause-within
with_visit-requires-clause-within c =
    front_in c.args.self.now c.loop-taken.taken (left Binder (λ b. b.0) c.loop-taken.walk) c.loop-taken.equations c.requires.ready c.loop-taken.invariant (visit_view Binder (λ b. b.0) c.unwrap-visit.result) (left Binder (λ b. b.0) c.next.new.self)
    (c.next.ensures.next c.unwrap-visit.result (let a = c.in_ok-next.was in let b = c.unwrap-visit.ensures in cc))

pub with_visit-requires-clause-known : goal.with_visit-requires-clause-known
with_visit-requires-clause-known c =
    front_at c.args.self.now c.loop-taken.taken (left Binder (λ b. b.0) c.loop-taken.walk) c.loop-taken.equations c.requires.ready c.loop-taken.invariant (visit_view Binder (λ b. b.0) c.unwrap-visit.result) (left Binder (λ b. b.0) c.next.new.self)
    (c.next.ensures.next c.unwrap-visit.result (let a = c.in_ok-next.was in let b = c.unwrap-visit.ensures in cc))

pub returns-in-None : goal.returns-in-None
returns-in-None c = (
  omega arith,
  front_fails c.args.self.now c.loop-taken.taken (left Binder (λ b. b.0) c.loop-taken.walk) c.loop-taken.equations c.requires.ready c.loop-taken.invariant (visit_view Binder (λ b. b.0) c.unwrap-visit.result) (left Binder (λ b. b.0) c.next.new.self)
      (c.next.ensures.next c.unwrap-visit.result (let a = c.in_ok-next.was in let b = c.unwrap-visit.ensures in cc)) (rw c.in-None.is at c.in_ok-more.ensures.clash),
)

pub loop-taken-preserved : goal.loop-taken-preserved
loop-taken-preserved c =
    front_more c.args.self.now c.loop-taken.taken (left Binder (λ b. b.0) c.loop-taken.walk) c.loop-taken.equations c.requires.ready c.loop-taken.invariant (visit_view Binder (λ b. b.0) c.unwrap-visit.result) (left Binder (λ b. b.0) c.next.new.self)
    (c.next.ensures.next c.unwrap-visit.result (let a = c.in_ok-next.was in let b = c.unwrap-visit.ensures in cc)) c.in-Some.more (rw c.in-Some.is at c.in_ok-more.ensures.kept) (rw c.in-Some.is at c.in_ok-more.ensures.longer)
    (rw c.in-Some.is at c.in_ok-more.ensures.step) (rw c.in-Some.is at c.in_ok-more.ensures.known)

pub returns-in-Some-2 : goal.returns-in-Some-2
returns-in-Some-2 c =
    front_solved c.args.self.now c.loop-taken.taken (left Binder (λ b. b.0) c.loop-taken.walk) c.loop-taken.equations c.requires.ready c.loop-taken.invariant c.args.limit (omega arith) c.in-Some-2.inferred
    (rw c.in-Some-2.is at c.in_ok-inferred.ensures.same) (rw c.in-Some-2.is at c.in_ok-inferred.ensures.principal)
    (rw c.in-Some-2.is at c.in_ok-inferred.ensures.ordered)

pub returns : goal.returns
returns c = (
  omega arith,
  front_unsolved c.args.self.now c.loop-taken.taken (left Binder (λ b. b.0) c.loop-taken.walk) c.loop-taken.equations c.requires.ready c.loop-taken.invariant c.args.limit (omega arith) (rw c.in-None-2.is at c.in_ok-inferred.ensures.none),
)
