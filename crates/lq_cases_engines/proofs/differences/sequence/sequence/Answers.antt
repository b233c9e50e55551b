use Rattle.std.proofs.Common.{◌∙◌, ◌≤◌, length, sym, ap, subst}
use Rattle.std.specs.List.{All}
use Rattle.lq_cases_engines.specs.Differences.Numbered.{IsTaken}
use Rattle.lq_cases_engines.proofs.differences.sequence.sequence.Goals as goal

pub anew-requires-clause-taken : goal.anew-requires-clause-taken
anew-requires-clause-taken c = subst (λ l. All IsTaken l) (sym c.deref.ensures.value) c.in_ok-step.ensures.taken

pub anew-requires-clause-room : goal.anew-requires-clause-room
anew-requires-clause-room c = subst (λ l. length l ≤ 40) (sym c.deref.ensures.value) c.in_ok-step.ensures.room

pub loop-preserved : goal.loop-preserved
loop-preserved c = record {
  kept = c.in_ok-compare.ensures.kept;
  count = ap length c.compare.ensures.rows ∙ c.in_ok-step.ensures.count;
  room = c.in_ok-step.ensures.room;
  taken = c.in_ok-step.ensures.taken;
}
