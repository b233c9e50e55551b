-- An edge more.
use Rattle.std.proofs.Common.{List, sym, ◌∙◌, subst}
use Rattle.lq_prover_congruence.specs.Classes.Forest.{edges_of}
use Rattle.lq_prover_congruence.specs.Classes.Ways.{IsClimb}
use Rattle.lq_prover_congruence.specs.declared.classes.tracing.Hop.{Hop}
use Rattle.lq_prover_congruence.proofs.ClassesLemmas.Heights.{lower}
use Rattle.lq_prover_congruence.proofs.ClassesLemmas.Routes.{climb-more}
use Rattle.lq_prover_congruence.proofs.classes.forest.Forest.climb.Goals as goal

pub loop-edge-smaller : goal.loop-edge-smaller
loop-edge-smaller c = lower c.args.self.now.toward.items c.requires c.loop-edge.at c.in-Some.edge (sym c.edge.ensures ∙ c.in-Some.is)

pub loop-edge-preserved : goal.loop-edge-preserved
loop-edge-preserved c =
    let f = edges_of c.args.self.now.toward.items in
    let P : List Hop → Type 0 = λ hs. IsClimb f c.args.term hs c.in-Some.edge.to in
    subst P (sym c.in_ok-push.ensures.items) (climb-more f c.args.term c.loop-edge.hops.items c.loop-edge.at c.in-Some.edge c.loop-edge.invariant (sym c.edge.ensures ∙ c.in-Some.is))
