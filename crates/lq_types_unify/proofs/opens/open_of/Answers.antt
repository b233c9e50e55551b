use Rattle.std.proofs.Common.{◌≡◌, ◌+◌, ◌<◌, IsSome, length, get_or, take, sym, subst, arith}
use Rattle.lq_types_unify.specs.Nodes.{form_at}
use Rattle.lq_types_unify.specs.Classes.{up}
use Rattle.lq_types_unify.specs.Opens.{AreOpenOf}
use Rattle.lq_types_unify.proofs.Roots.{read_up}
use Rattle.lq_types_unify.proofs.Opening.{open_more, closed_more}
use Rattle.lq_types_unify.proofs.opens.open_of.Goals.{then-not-is_made+in_ok-push, else-not-is_made}
use Rattle.lq_types_unify.proofs.opens.open_of.Goals as goal

pub is_made-requires : goal.is_made-requires
is_made-requires c =
    let class = get_or c.args.classes.now c.loop-class.class-index 0 in
    let inside = c.requires.inside c.loop-class.class-index c.loop-class-test.true in
    let low : up c.args.shapes.now class < length c.args.arena.now.nodes.items = c.requires.shapes class inside in
    let e : get_or c.args.shapes.now class 0 ≡ up c.args.shapes.now class = read_up c.args.shapes.now class inside in
    omega arith

pub loop-class-preserved : goal.loop-class-preserved
loop-class-preserved c =
    let forms = form_at c.args.arena.now in
    let shapes = c.args.shapes.now in
    let classes = c.args.classes.now in
    let class = get_or classes c.loop-class.class-index 0 in
    let inside = c.requires.inside c.loop-class.class-index c.loop-class-test.true in
    let e : get_or shapes class 0 ≡ up shapes class = read_up shapes class inside in
    elim c.if-not-is_made.branch [
      | then-not-is_made+in_ok-push w ↦ subst (λ v. AreOpenOf forms shapes (take (c.loop-class.class-index + 1) classes) v.items) (sym w.all-is)
          (subst (AreOpenOf forms shapes (take (c.loop-class.class-index + 1) classes)) (sym w.in_ok-push.ensures.items)
          (open_more forms shapes classes c.loop-class.all.items c.loop-class.class-index c.loop-class.invariant c.loop-class-test.true
          (λ s. c.is_made.ensures.no w.if-not-is_made.true (subst (λ j. IsSome (forms j)) (sym e) s))))
      | else-not-is_made w ↦ subst (λ v. AreOpenOf forms shapes (take (c.loop-class.class-index + 1) classes) v.items) (sym w.all-is)
          (closed_more forms shapes classes c.loop-class.all.items c.loop-class.class-index c.loop-class.invariant c.loop-class-test.true
          (subst (λ j. IsSome (forms j)) e (c.is_made.ensures.yes w.if-not-is_made.false)))
    ]
