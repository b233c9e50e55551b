-- The labels of the arguments.
use Rattle.std.proofs.Common.{ℕ, List, length, map, get_or, sym, ap, ap₂, ◌∙◌, subst, arith}
use Rattle.lq_prover_congruence.specs.Classes.Terms.{term_in}
use Rattle.lq_prover_congruence.specs.Classes.Core.{AllBelow}
use Rattle.lq_prover_congruence.proofs.ClassesLemmas.Labels.{below-more}
use Rattle.lq_prover_congruence.proofs.classes.state.State.signature.Goals as goal

pub labels_of-requires : goal.labels_of-requires
labels_of-requires c =
    let e = c.deref-2.ensures.value ∙ ap (λ t. t.1) c.key-key.ensures in
    let P : List ℕ → Type 0 = λ l. AllBelow (length c.deref.result.now) l in
    subst P (sym e) (below-more c.args.term (length c.deref.result.now) (term_in c.args.self.now.known c.args.term).1 (omega (arith, c.requires.term, c.requires.shaped.labelled, ap length c.deref.ensures.value)) (c.requires.shaped.args c.args.term c.requires.term))

pub returns : goal.returns
returns c =
    let e = c.deref-2.ensures.value ∙ ap (λ t. t.1) c.key-key.ensures in
    ap₂ (λ h l. (h, l)) (ap (λ t. t.0) c.key-key.ensures) (c.in_ok-labels_of.ensures ∙ ap₂ (λ ls xs. map (λ a. get_or ls a 0) xs) c.deref.ensures.value e)
