use Rattle.std.proofs.Common.{arith}
use Rattle.lq_base_names.specs.declared.name.Binder.{Binder}
use Rattle.lq_text_walk.specs.Walk.Pending.{left, visit_view}
use Rattle.lq_types_infer.specs.Inference.Programs.{visits_in}
use Rattle.lq_types_infer.proofs.InferenceLemmas.Steps.{next_some, next_left}
use Rattle.lq_types_infer.proofs.inference.program.Program.place_of.Goals as goal

pub loop-preserved : goal.loop-preserved
loop-preserved c =
    next_left (visit_view Binder (λ b. b.0)) c.loop.counter (visits_in c.args.self.now) (left Binder (λ b. b.0) c.loop.walk) (left Binder (λ b. b.0) c.next.new.self) c.loop.invariant (omega arith) c.in_ok-next.field-0
    (λ v q. c.next.ensures.next v (let a = c.in_ok-next.was in cc)) (λ q. c.next.ensures.over (let a = c.in_ok-next.was in cc))

pub unwrap-visit-requires : goal.unwrap-visit-requires
unwrap-visit-requires c =
    next_some (visit_view Binder (λ b. b.0)) c.loop.counter (visits_in c.args.self.now) (left Binder (λ b. b.0) c.loop.walk) (left Binder (λ b. b.0) c.next-2.new.self) c.loop.invariant (omega arith) c.in_ok-next-2.field-0
    (λ q. c.next-2.ensures.over (let a = c.in_ok-next-2.was in cc))
