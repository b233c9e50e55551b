use Rattle.std.proofs.Common.{ℕ, ◌≤◌, ◌<◌, length, sym, ap, subst, ◌∙◌, arith}
use Rattle.lq_types_unify.specs.Copying.{seat}
use Rattle.lq_types_unify.proofs.Roots.{root_low, read_up}
use Rattle.lq_types_unify.proofs.Seating.{seat_high}
use Rattle.lq_types_unify.proofs.copying.seat_of.Goals as goal

pub bounds-copies-class : goal.bounds-copies-class
bounds-copies-class c =
    let e = c.find-class.ensures.value in let l = root_low c.args.parents.now c.requires.down c.args.node in let m = c.requires.copies in let h = c.requires.inside in omega arith

pub returns-else-copy-base-clause-value : goal.returns-else-copy-base-clause-value
returns-else-copy-base-clause-value c =
    let e = c.find-class.ensures.value in
    let inside : c.find-class.result < length c.args.copies.now = let l = root_low c.args.parents.now c.requires.down c.args.node in let m = c.requires.copies in let h = c.requires.inside in omega arith in
    let read = read_up c.args.copies.now c.find-class.result inside in
    let f = c.if-copy-base.false in
    read ∙ sym (seat_high c.args.base c.args.copies.now c.find-class.result (subst (λ (j : ℕ). c.args.base ≤ j) read f)) ∙ ap (seat c.args.base c.args.copies.now) e
