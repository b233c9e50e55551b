use Rattle.std.proofs.Common.{◌⊎◌, ℕ, ◌+◌, ◌<◌, [], All, take, length, get_or, refl, sym, subst, arith}
use Rattle.lq_types_unify.specs.Opens.{IsIn}
use Rattle.lq_types_rules.specs.Equations.Adding.{count_of}
use Rattle.lq_types_rules.specs.Visits.Owning.{binder_slots}
use Rattle.lq_types_infer.specs.Inference.Copying.{IsDetermined}
use Rattle.lq_types_infer.specs.Inference.Defining.{first_of}
use Rattle.lq_types_infer.specs.Inference.Opening.{IsSifted}
use Rattle.lq_types_infer.proofs.InferenceLemmas.Opened.{told_more, told_sifted, asked_others, asked_among, of_taken}
use Rattle.lq_types_infer.proofs.InferenceLemmas.Visiting.{slots_low, use_added}
use Rattle.lq_types_infer.proofs.inference.equations.Equations.with_copy.Goals as goal

pub sift-requires-clause-within : goal.sift-requires-clause-within
sift-requires-clause-within c =
    let plain = c.args.self.definitions.plain.items in
    let before = c.args.found.before in
    let count = count_of c.args.self.system in
    subst (λ xs. (j : ℕ) → j < before → c.args.nodes + get_or xs j 0 < count) (sym c.deref.ensures.value)
    (λ j l. of_taken (λ p. c.args.nodes + p < count) before plain (slots_low c.args.nodes count (take before plain) c.requires.fixed) j l (let x = c.requires.before in omega arith))

pub add_use-requires-clause-asked : goal.add_use-requires-clause-asked
add_use-requires-clause-asked c =
    let plain = c.args.self.definitions.plain.items in
    let before = c.args.found.before in
    let count = count_of c.args.self.system in
    let asked = c.in_ok-kept.field-0.asked.items in
    let sifted = subst (λ xs. IsSifted c.args.nodes c.args.self.system xs before c.deref-2.result.now c.in_ok-kept.field-0.kept.items asked) c.deref.ensures.value c.in_ok-kept.ensures.sifted in
    subst (All (λ i. i < count)) (sym c.deref-3.ensures.value)
    (λ k d l.
    let q = sifted.among k d l in
    subst (λ (i : ℕ). i < count) q.2
    (of_taken (λ p. c.args.nodes + p < count) before plain (slots_low c.args.nodes count (take before plain) c.requires.fixed) q.0 q.1 (let y = q.1 in let x = c.requires.before in omega arith)))

pub returns-clause-used : goal.returns-clause-used
returns-clause-used c =
    let nodes = c.args.nodes in
    let old = c.args.self.system in
    let plain = c.args.self.definitions.plain.items in
    let before = c.args.found.before in
    let kept = c.in_ok-kept.field-0.kept.items in
    let asked = c.in_ok-kept.field-0.asked.items in
    let fixed = binder_slots nodes (first_of plain before) in
    let places = c.tell.new.self.places.items in
    let n = c.tell.new.self.told in
    let sifted = subst (λ xs. IsSifted nodes old xs before places kept asked) c.deref.ensures.value (subst (λ ps. IsSifted nodes old c.deref.result.now before ps kept asked) c.deref-2.ensures.value c.in_ok-kept.ensures.sifted) in
    let told = told_more nodes old plain c.args.self.opened.told c.args.self.opened.places.items c.requires.kept.told n places
    (c.in_ok-tell.ensures.low (length plain) c.requires.before c.requires.kept.told.low) c.in_ok-tell.ensures.kept c.in_ok-tell.ensures.more in
    c.in_ok-add_use.ensures.added fixed c.requires.fixed
    (subst (All (IsIn fixed)) (sym c.deref-3.ensures.value) (asked_among nodes old plain n places told before kept asked sifted c.in_ok-tell.ensures.told))
    (subst (λ as_. All (λ i. IsIn as_ i ⊎ IsDetermined old [] i) fixed) (sym c.deref-3.ensures.value) (asked_others nodes old plain n places told before kept asked sifted c.in_ok-tell.ensures.told))

pub returns-clause-added : goal.returns-clause-added
returns-clause-added c =
    let nodes = c.args.nodes in
    let old = c.args.self.system in
    let plain = c.args.self.definitions.plain.items in
    let before = c.args.found.before in
    let kept = c.in_ok-kept.field-0.kept.items in
    let asked = c.in_ok-kept.field-0.asked.items in
    let places = c.tell.new.self.places.items in
    let n = c.tell.new.self.told in
    let sifted = subst (λ xs. IsSifted nodes old xs before places kept asked) c.deref.ensures.value (subst (λ ps. IsSifted nodes old c.deref.result.now before ps kept asked) c.deref-2.ensures.value c.in_ok-kept.ensures.sifted) in
    let told = told_more nodes old plain c.args.self.opened.told c.args.self.opened.places.items c.requires.kept.told n places
    (c.in_ok-tell.ensures.low (length plain) c.requires.before c.requires.kept.told.low) c.in_ok-tell.ensures.kept c.in_ok-tell.ensures.more in
    use_added nodes c.args.self _ (binder_slots nodes (first_of plain before)) (nodes + c.args.found.binder) c.args.found.node c.requires.kept.system c.in_ok-add_use.ensures.knows c.in_ok-add_use.ensures.clear refl
    (told_sifted nodes old plain n places told before kept asked sifted) (returns-clause-used c)
