-- A step of the search.
use Rattle.std.proofs.Common.{◌≡◌, List, [], ◌∷◌, IfSome, IfNone, subst}
use Rattle.lq_prover_congruence.specs.Classes.Standing.{core_of}
use Rattle.lq_prover_congruence.specs.Classes.Implied.{left_pairs}
use Rattle.lq_prover_congruence.specs.declared.classes.steps.Pair.{Pair}
use Rattle.lq_prover_congruence.proofs.ClassesLemmas.Partners.{yields}
use Rattle.lq_prover_congruence.proofs.classes.implied.ImpliedIterator.next.Goals as goal

pub returns-clause-steps : goal.returns-clause-steps
returns-clause-steps c =
    let core = core_of c.self.inside.state.now in
    let new = left_pairs core c.next_pair.new.left c.next_pair.new.walk in
    let P : List Pair → Type 0 = λ l. IfSome c.next_pair.result (λ p. l ≡ p ∷ new) in
    let Q : List Pair → Type 0 = λ l. IfNone c.next_pair.result ((l ≡ []) × (new ≡ [])) in
    yields c.args.self.now new c.next_pair.result (subst P c.self.view_is c.next_pair.ensures.some) (subst Q c.self.view_is c.next_pair.ensures.none)
