use Rattle.std.proofs.Common.{◌≡◌, ℕ, ◌+◌, ◌≤◌, None, take}
use Rattle.lq_types_unify.specs.Nodes.{form_at}
use Rattle.lq_types_unify.specs.Classes.{IsSame}
use Rattle.lq_types_unify.specs.Copying.{AreFilled}
use Rattle.lq_types_unify.proofs.copying.fill_all.Given as goal

abbrev pub invariant-loop-at : goal.invariant-loop-at
invariant-loop-at l = record {
  filled : AreFilled l.fn.arena l.arena l.base l.fn.parents l.shapes l.copies (take l.at l.classes);
  rest : (i : ℕ) → l.base + l.at ≤ i → form_at l.arena i ≡ None;
  same : IsSame l.fn.parents l.parents;
}
