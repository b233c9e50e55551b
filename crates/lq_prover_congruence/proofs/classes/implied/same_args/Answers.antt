-- One argument more.
use Rattle.std.proofs.Common.{rules, ◌≡◌, length, map, get_or, sym, ap, ◌∙◌, arith}
use Rattle.lq_prover_congruence.proofs.ClassesLemmas.Labels.{map-same}
use Rattle.lq_prover_congruence.proofs.ClassesLemmas.Walks.{below-at}
use Rattle.lq_prover_congruence.proofs.ClassesLemmas.Members.{map-at}
use Rattle.lq_prover_congruence.proofs.ClassesLemmas.Partners.{not-iff}
use Rattle.lq_prover_congruence.proofs.classes.implied.same_args.Goals as goal

pub bounds-labels-term : goal.bounds-labels-term
bounds-labels-term c = below-at (length c.args.labels.now) c.args.left.now c.loop-at.at c.requires.left_in c.loop-at-test.true

pub offset_bounds-labels-term : goal.offset_bounds-labels-term
offset_bounds-labels-term c = omega (arith, below-at (length c.args.labels.now) c.args.left.now c.loop-at.at c.requires.left_in c.loop-at-test.true)

pub bounds-labels-right : goal.bounds-labels-right
bounds-labels-right c = below-at (length c.args.labels.now) c.args.right.now c.loop-at.at c.requires.right_in (omega (arith, c.loop-at-test.true, c.if-left-right.false))

pub offset_bounds-labels-right : goal.offset_bounds-labels-right
offset_bounds-labels-right c = omega (arith, below-at (length c.args.labels.now) c.args.right.now c.loop-at.at c.requires.right_in (omega (arith, c.loop-at-test.true, c.if-left-right.false)))

pub returns-then-labels-term : goal.returns-then-labels-term
returns-then-labels-term c =
    let ls = c.args.labels.now in
    let xs = c.args.left.now in
    let ys = c.args.right.now in
    let k = c.loop-at.at in
    not-iff (map (λ a. get_or ls a 0) xs ≡ map (λ a. get_or ls a 0) ys)
    (λ e. c.if-labels-term.true (sym (map-at ls xs k c.loop-at-test.true) ∙ ap (λ m. get_or m k 0) e ∙ map-at ls ys k (omega (arith, c.loop-at-test.true, c.if-left-right.false))))

pub returns : goal.returns
returns c =
    let ls = c.args.labels.now in
    let xs = c.args.left.now in
    let ys = c.args.right.now in
    (λ t. map-same ls xs ys c.if-left-right.false (λ k h. c.loop-at.invariant k (omega (arith, h, c.loop-at-test.false))), λ e. search rules)
