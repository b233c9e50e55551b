-- A way along edges is a chain of merges.
use Rattle.std.proofs.Common.{List, ℕ, sym, subst}
use Rattle.lq_prover_congruence.specs.Classes.Chains.{IsChain}
use Rattle.lq_prover_congruence.specs.Classes.Forest.{edges_of, IsKept}
use Rattle.lq_prover_congruence.specs.declared.classes.steps.Step.{Step}
use Rattle.lq_prover_congruence.proofs.ClassesLemmas.Kept.{kept-forest, names-joined, way-chain}
use Rattle.lq_prover_congruence.proofs.classes.classes.Classes.why.Goals as goal

pub way-requires-clause-rooted : goal.way-requires-clause-rooted
way-requires-clause-rooted c =
    let f = c.self.inside.forest in
    let P : List Step → Type 0 = λ ss. IsKept ss f in
    (kept-forest c.args.self.now f (subst P c.self.view_is c.self.invariant.kept)).rooted

pub way-requires-clause-joined : goal.way-requires-clause-joined
way-requires-clause-joined c =
    let f = c.self.inside.forest in
    let P : List Step → Type 0 = λ ss. IsKept ss f in
    names-joined c.args.self.now f (subst P c.self.view_is c.self.invariant.kept) c.requires.merges c.args.a c.args.b c.requires.a_name c.requires.same

pub returns-clause-chain : goal.returns-clause-chain
returns-clause-chain c =
    let f = c.self.inside.forest in
    let now = c.args.self.now in
    let P : List Step → Type 0 = λ ss. IsKept ss f in
    let forest = kept-forest now f (subst P c.self.view_is c.self.invariant.kept) in
    let Q : List ℕ → Type 0 = λ rs. IsChain now c.args.a c.args.b rs in
    subst Q (sym c.of.ensures) (way-chain now (edges_of f.toward.items) forest c.args.a c.args.b c.in_ok-reasons.reasons.items c.in_ok-reasons.ensures)
