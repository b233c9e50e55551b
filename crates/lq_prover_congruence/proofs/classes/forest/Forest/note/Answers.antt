-- An edge more, or none where the two are the same.
use Rattle.std.proofs.Common.{arith, eq-eqb, eqb-true}
use Rattle.lq_prover_congruence.specs.Classes.Standing.{core_of, steps_of}
use Rattle.lq_prover_congruence.specs.Classes.Forest.{edges_of}
use Rattle.lq_prover_congruence.proofs.ClassesLemmas.Following.{terms-known}
use Rattle.lq_prover_congruence.proofs.ClassesLemmas.Labels.{labels-decide}
use Rattle.lq_prover_congruence.proofs.ClassesLemmas.Kept.{kept-forest, apart-ends, noted-met, noted-linked, kept-unlinked}
use Rattle.lq_prover_congruence.proofs.classes.forest.Forest.note.Goals as goal

pub returns-then-index-clause-ok : goal.returns-then-index-clause-ok
returns-then-index-clause-ok c =
    let s = c.args.state.now in
    let steps = steps_of s.trail.items in
    let exact = c.requires.whole.standing.exact in
    let n = terms-known steps (core_of s) exact in
    let iff = labels-decide steps (core_of s) exact c.args.a c.args.b c.index.result.now c.index-2.result.now (omega (arith, c.requires.a_in)) (omega (arith, c.requires.b_in)) c.index.ensures c.index-2.ensures in
    noted-met steps c.args.a c.args.b c.args.reason (core_of s) c.args.self.now exact c.requires.whole.kept c.requires.a_in (iff.0 (eq-eqb c.index.result.now c.index-2.result.now c.if-index.true))

pub link-requires-clause-rooted : goal.link-requires-clause-rooted
link-requires-clause-rooted c = (kept-forest (steps_of c.args.state.now.trail.items) c.args.self.now c.requires.whole.kept).rooted

pub link-requires-clause-apart : goal.link-requires-clause-apart
link-requires-clause-apart c =
    let s = c.args.state.now in
    let steps = steps_of s.trail.items in
    let exact = c.requires.whole.standing.exact in
    let n = terms-known steps (core_of s) exact in
    let iff = labels-decide steps (core_of s) exact c.args.a c.args.b c.index.result.now c.index-2.result.now (omega (arith, c.requires.a_in)) (omega (arith, c.requires.b_in)) c.index.ensures c.index-2.ensures in
    apart-ends steps (edges_of c.args.self.now.toward.items) (kept-forest steps c.args.self.now c.requires.whole.kept) c.args.a c.args.b c.by_size-from.result c.by_size-from.ensures (λ same. c.if-index.false (eqb-true c.index.result.now c.index-2.result.now (iff.1 same)))

pub returns-in_err-link-clause-err : goal.returns-in_err-link-clause-err
returns-in_err-link-clause-err c =
    let s = c.args.state.now in
    kept-unlinked (steps_of s.trail.items) s.steps c.args.self.now c.link.new.self c.from_residual.result c.requires.whole.standing.steps c.requires.whole.kept c.link.ensures.past c.in_err-link.ensures.err

pub returns-clause-ok : goal.returns-clause-ok
returns-clause-ok c =
    let s = c.args.state.now in
    noted-linked (steps_of s.trail.items) s.steps c.args.a c.args.b c.args.reason c.by_size-from.result (core_of s) c.args.self.now c.link.new.self c.requires.whole.standing.steps c.requires.whole.standing.exact c.requires.whole.kept c.by_size-from.ensures c.link.ensures.past c.in_ok-link.ensures.ok
