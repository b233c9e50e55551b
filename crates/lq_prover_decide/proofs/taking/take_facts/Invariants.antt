use Rattle.std.proofs.Common.{◌≡◌, map, take}
use Rattle.lq_prover_case.specs.State.PathState.{KeepsHanded, facts_in, objects_in}
use Rattle.lq_prover_case.specs.State.RowState.{terms_of}
use Rattle.lq_prover_decide.specs.Case.{fact_of}
use Rattle.lq_prover_case.specs.Equations.Naming.{AllTold, name_in, objects_of}
use Rattle.lq_prover_decide.proofs.taking.take_facts.Given as goal

abbrev pub invariant-loop-fact : goal.invariant-loop-fact
invariant-loop-fact l = record {
  stands : facts_in (name_in (objects_of l.objects)) l.state ≡ map fact_of (take l.fact-index l.facts);
  told : AllTold (objects_of l.objects) (objects_in l.state) (map fact_of (take l.fact-index l.facts));
  terms : terms_of l.state.rows ≡ terms_of l.fn.state.rows;
  pivots : l.state.rows.pivots ≡ l.fn.state.rows.pivots;
  count : l.state.objects.count ≡ l.fn.state.objects.count;
  handed : KeepsHanded l.fn.state l.state;
}
