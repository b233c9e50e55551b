-- Heads and labels compared.
use Rattle.std.proofs.Common.{◌≡◌, ◌↔◌, ℕ, ◌<◌, List, true, length, map, get_or, sym, ap, ◌∙◌, subst, arith}
use Rattle.lq_prover_congruence.specs.Classes.Terms.{term_in}
use Rattle.lq_prover_congruence.specs.Classes.Core.{AllBelow}
use Rattle.lq_prover_congruence.specs.Classes.Standing.{core_of}
use Rattle.lq_prover_congruence.proofs.ClassesLemmas.Filing.{head-is}
use Rattle.lq_prover_congruence.proofs.ClassesLemmas.Labels.{below-more}
use Rattle.lq_prover_congruence.proofs.ClassesLemmas.Partners.{partner-iff, some-of}
use Rattle.lq_prover_congruence.proofs.ClassesLemmas.Tables.{head-eq}
use Rattle.lq_prover_congruence.proofs.classes.state.State.is_partner.Goals as goal

pub same_args-requires-clause-left_in : goal.same_args-requires-clause-left_in
same_args-requires-clause-left_in c =
    let e = c.deref-then-eq.ensures.value ∙ ap (λ t. t.1) c.key-one.ensures in
    let P : List ℕ → Type 0 = λ l. AllBelow (length c.deref.result.now) l in
    subst P (sym e) (below-more c.args.left (length c.deref.result.now) (term_in c.args.self.now.known c.args.left).1 (omega (arith, c.requires.left_in, c.requires.shaped.labelled, ap length c.deref.ensures.value)) (c.requires.shaped.args c.args.left c.requires.left_in))

pub same_args-requires-clause-right_in : goal.same_args-requires-clause-right_in
same_args-requires-clause-right_in c =
    let e = c.deref-then-eq-2.ensures.value ∙ ap (λ t. t.1) c.key-other.ensures in
    let P : List ℕ → Type 0 = λ l. AllBelow (length c.deref.result.now) l in
    subst P (sym e) (below-more c.args.right (length c.deref.result.now) (term_in c.args.self.now.known c.args.right).1 (omega (arith, c.requires.right_in, c.requires.shaped.labelled, ap length c.deref.ensures.value)) (c.requires.shaped.args c.args.right c.requires.right_in))

pub returns-then-eq : goal.returns-then-eq
returns-then-eq c =
    let s = c.args.self.now in
    let one = c.key-one.result.now in
    let other = c.key-other.result.now in
    let r = c.same_args.result in
    let L : List ℕ → Type 0 = λ ls. (r ≡ true) ↔ (map (λ a. get_or ls a 0) c.deref-then-eq.result.now ≡ map (λ a. get_or ls a 0) c.deref-then-eq-2.result.now) in
    let X : List ℕ → Type 0 = λ xs. (r ≡ true) ↔ (map (λ a. get_or s.labels.items a 0) xs ≡ map (λ a. get_or s.labels.items a 0) c.deref-then-eq-2.result.now) in
    let Y : List ℕ → Type 0 = λ ys. (r ≡ true) ↔ (map (λ a. get_or s.labels.items a 0) one.args.items ≡ map (λ a. get_or s.labels.items a 0) ys) in
    let iff = subst Y c.deref-then-eq-2.ensures.value (subst X c.deref-then-eq.ensures.value (subst L c.deref.ensures.value c.same_args.ensures)) in
    let some : 0 < length one.args.items = some-of c.is_empty.result one.args.len (length one.args.items) c.is_empty.ensures c.if-is_empty.false (omega (arith, one.args.ok)) in
    partner-iff (core_of s) c.args.left c.args.right r one.head other.head one.args.items other.args.items c.key-one.ensures c.key-other.ensures c.if-right-left.false some
    (head-is one.head other.head (sym (head-eq one.head other.head) ∙ sym c.eq.ensures ∙ c.if-eq.true)) iff
