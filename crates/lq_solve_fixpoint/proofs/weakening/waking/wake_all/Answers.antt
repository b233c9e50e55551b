use Rattle.std.proofs.Common.{take, get_or, sym, subst}
use Rattle.lq_solve_fixpoint.specs.Weakening.Index.{IsWithinOne}
use Rattle.lq_solve_fixpoint.specs.Weakening.Waking.{Wakes}
use Rattle.lq_solve_fixpoint.specs.declared.weakening.span.Span.{Span}
use Rattle.lq_solve_fixpoint.proofs.WeakeningLemmas.Members.{next_taken}
use Rattle.lq_solve_fixpoint.proofs.WeakeningLemmas.Inserting.{wakes_span}
use Rattle.lq_solve_fixpoint.proofs.weakening.waking.wake_all.Goals as goal

nothing : Span
nothing = record { start = 0; end = 0 }

pub loop-span-preserved : goal.loop-span-preserved
unfolding nothing
loop-span-preserved c =
    let at = c.loop-span.span-index in
    let spans = c.args.spans.now in
    let e = next_taken spans at nothing c.loop-span-test.true in
    subst (λ l. Wakes c.args.goals.now (IsWithinOne l) c.args.waiting.now.keys c.wake_span.new.waiting.keys) (sym e) (wakes_span c.args.goals.now (take at spans) (get_or spans at nothing) c.args.waiting.now.keys c.loop-span.waiting.keys c.wake_span.new.waiting.keys c.loop-span.invariant c.in_ok-wake_span.ensures)
