use Rattle.std.proofs.Common.{◌≡◌, ◌++◌, ℕ, take}
use Rattle.lq_prover_case.specs.State.PathState.{KeepsHanded, facts_in, objects_in}
use Rattle.lq_prover_case.specs.Equations.Equating.{Grows}
use Rattle.lq_prover_case.specs.Equations.Naming.{AllTold, name_in, objects_of}
use Rattle.lq_prover_search.specs.Path.SearchPath.{SameLimits}
use Rattle.lq_logic_predicates.specs.Sum.{Sum}
use Rattle.lq_prover_search.specs.Search.Parts.{facts_of}
use Rattle.lq_prover_search.specs.Search.Scope.{AllMayHold}
use Rattle.lq_prover_search.proofs.search.taking.take_parts.Given as goal

abbrev pub invariant-loop-part : goal.invariant-loop-part
invariant-loop-part l = record {
  stands : facts_in (name_in (objects_of l.objects)) l.state ≡ facts_in (name_in (objects_of l.objects)) l.fn.state ++ facts_of (take l.part-index l.parts);
  may_hold : AllMayHold (facts_of (take l.part-index l.parts));
  told : AllTold (objects_of l.objects) (objects_in l.fn.state) (facts_in (name_in (objects_of l.objects)) l.fn.state)
      → AllTold (objects_of l.objects) (objects_in l.state) (facts_in (name_in (objects_of l.objects)) l.state);
  grows : (name : ℕ → Sum) → Grows (facts_in name l.fn.state) (facts_in name l.state);
  limits : SameLimits l.state l.fn.state;
  handed : KeepsHanded l.fn.state l.state;
}
