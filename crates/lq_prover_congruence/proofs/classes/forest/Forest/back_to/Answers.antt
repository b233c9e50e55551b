-- One write less.
use Rattle.std.proofs.Common.{ℕ, List, length, sym, ap, subst, arith}
use Rattle.lq_prover_congruence.specs.Classes.Forest.{IsLog}
use Rattle.lq_prover_congruence.specs.declared.classes.forest.Written.{Written}
use Rattle.lq_prover_congruence.proofs.ClassesLemmas.Logs.{last-within, unwritten}
use Rattle.lq_prover_congruence.proofs.classes.forest.Forest.back_to.Goals as goal

pub index_mut-requires : goal.index_mut-requires
index_mut-requires c =
    let t = c.loop-last.self in
    let s = c.in-Some.ensures.some in
    omega (arith, last-within (length t.toward.items) c.loop-last.invariant.log.0 t.log.items c.take_late.new.self.log.items c.in-Some.last c.loop-last.invariant.log.1 s.0, ap (λ v. length v.items) c.in-Some.ensures.toward, c.take_late.new.self.toward.ok)

pub loop-last-preserved : goal.loop-last-preserved
loop-last-preserved c =
    let r = unwritten c.loop-last.self c.take_late.new.self c.in-Some.last c.args.step c.args.self.now c.loop-last.invariant.past c.loop-last.invariant.log.0 c.loop-last.invariant.log.1 c.in-Some.ensures.some.0 c.in-Some.ensures.some.1 (ap (λ v. v.items) c.in-Some.ensures.toward) in
    record { past = r.past; log = r.log }

pub returns-clause-log : goal.returns-clause-log
returns-clause-log c =
    let t = c.loop-last.self in
    let u = c.take_late.new.self in
    let inv = c.loop-last.invariant.log in
    let early = c.in_default.ensures.none.1 inv.0 (length t.toward.items) inv.1 in
    let P : List Written → Type 0 = λ ws. IsLog c.args.step (length t.toward.items) ws in
    let Q : ℕ → Type 0 = λ m. IsLog c.args.step m u.log.items in
    subst Q (ap (λ v. length v.items) (sym c.in_default.ensures.toward)) (subst P (sym c.in_default.ensures.none.0) early)
