use Rattle.std.proofs.Common.{◌∙◌, ap, sym, subst, List, ℕ, length}
use Rattle.lq_logic_rows.specs.declared.engine.Answer.TheVariants.{Solved}
use Rattle.lq_prover_differences.specs.declared.arc.Edge.{Edge}
use Rattle.lq_prover_differences.specs.Edges.{sizes}
use Rattle.lq_prover_differences.specs.Stops.{PastBy}
use Rattle.lq_prover_differences.specs.Table.{Table, IsStanding}
use Rattle.lq_prover_differences.proofs.Rows.{answer_solves, known_contradicts, solved_all, sizes_are}
use Rattle.lq_prover_differences.proofs.table.DistanceTableLinearEngine.check.Goals as goal

pub returns-then-self-clause-contradicts : goal.returns-then-self-clause-contradicts
returns-then-self-clause-contradicts c = λ h.
    known_contradicts c.self.inside.edges.items c.decide.new.graph c.decide.new.conflict c.decide.new.found.items
    (subst (λ (l : List Edge). IsStanding l c.decide.new.graph c.decide.new.conflict c.decide.new.found.items) c.deref.ensures.value c.decide.ensures.standing) c.if-self.true

pub returns-else-self-clause-solves : goal.returns-else-self-clause-solves
returns-else-self-clause-solves c = λ h.
    let t : Table = record { edges = c.self.inside.edges.items; vertices = c.decide.new.graph.vertices.items; conflict = c.decide.new.conflict; found = c.decide.new.found.items; answer = Solved; terms = c.self.inside.terms; rows = c.self.inside.rows } in
    let standing : IsStanding t.edges c.decide.new.graph t.conflict t.found = subst (λ (l : List Edge). IsStanding l c.decide.new.graph c.decide.new.conflict c.decide.new.found.items) c.deref.ensures.value c.decide.ensures.standing in
    answer_solves t standing.in_range (solved_all t.edges c.decide.new.graph t.conflict t.found standing (c.in-Ok.ensures.all c.if-self.false ∙ ap length c.deref.ensures.value))

pub returns-in-Err-clause-stop : goal.returns-in-Err-clause-stop
returns-in-Err-clause-stop c = rw (← c.self.view_is) (λ rows h.
    subst (λ (n : ℕ). PastBy n c.in-Err.stop) (sym (sizes_are c.self.inside.edges.items)) (subst (λ (l : List Edge). PastBy (sizes l) c.in-Err.stop) c.deref.ensures.value c.in-Err.ensures.stop))
