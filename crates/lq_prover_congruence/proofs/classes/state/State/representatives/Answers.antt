-- One term more.
use Rattle.std.proofs.Common.{◌≡◌, ◌≢◌, ◌<◌, ℕ, Option, Some, IfSome, length, subst}
use Rattle.lq_prover_congruence.specs.Classes.Terms.{find_in, term_in}
use Rattle.lq_prover_congruence.specs.Classes.Core.{signature}
use Rattle.lq_prover_congruence.specs.Classes.Standing.{core_of}
use Rattle.lq_prover_congruence.proofs.ClassesLemmas.Represented.{represents-more}
use Rattle.lq_prover_congruence.proofs.classes.state.State.representatives.Goals as goal

pub loop-term-preserved : goal.loop-term-preserved
loop-term-preserved c =
    let s = c.args.self.now in
    let term = c.loop-term.term in
    let P : Option ℕ → Type 0 = λ o. IfSome o (λ by. (0 < length (term_in s.known term).1) × (find_in s.filed (signature s.labels.items (term_in s.known term)) ≡ Some by) × (by ≢ term)) in
    let r = subst P c.in-Some.is c.in_ok-by.ensures.some in
    represents-more (core_of s) term c.in-Some.by c.loop-term.pairs c.push.new.self c.loop-term.invariant r.0 r.1 r.2 c.in_ok-push.ensures.ok
