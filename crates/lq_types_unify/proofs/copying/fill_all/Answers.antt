use Rattle.std.proofs.Common.{◌≡◌, ◌<◌, get_or, ◌∙◌, arith}
use Rattle.lq_types_unify.specs.Classes.{up}
use Rattle.lq_types_unify.proofs.Roots.{read_up}
use Rattle.lq_types_unify.proofs.Same.{same_then}
use Rattle.lq_types_unify.proofs.Seating.{placed_by, filled_more}
use Rattle.lq_types_unify.proofs.copying.fill_all.Goals as goal

pub fill_one-requires-clause-shape : goal.fill_one-requires-clause-shape
fill_one-requires-clause-shape c =
    let class = get_or c.args.classes.now c.loop-at.at 0 in
    let low : class < c.args.base = c.requires.inside c.loop-at.at c.loop-at-test.true in
    let e : get_or c.args.shapes.now class 0 ≡ up c.args.shapes.now class = read_up c.args.shapes.now class (let m = c.requires.shapes_length in omega arith) in
    let s : up c.args.shapes.now class < c.args.base = c.requires.shapes_inside class low in
    let l = c.loop-at.invariant.filled.long in let m = c.requires.long in omega arith

pub fill_one-requires-clause-placed : goal.fill_one-requires-clause-placed
fill_one-requires-clause-placed c =
    let class = get_or c.args.classes.now c.loop-at.at 0 in
    let low : class < c.args.base = c.requires.inside c.loop-at.at c.loop-at-test.true in
    let e : get_or c.args.shapes.now class 0 ≡ up c.args.shapes.now class = read_up c.args.shapes.now class (let m = c.requires.shapes_length in omega arith) in
    let f = c.loop-at.invariant.filled in
    placed_by c.args.arena.now c.loop-at.arena c.args.base c.args.parents.now c.loop-at.parents c.args.copies.now (get_or c.args.shapes.now class 0) (up c.args.shapes.now class) e
    (f.kept (up c.args.shapes.now class) (c.requires.shapes_inside class low)) f.long c.loop-at.invariant.same (c.requires.placed c.loop-at.at 0 c.loop-at-test.true)

pub loop-at-preserved : goal.loop-at-preserved
loop-at-preserved c =
    let class = get_or c.args.classes.now c.loop-at.at 0 in
    let low : class < c.args.base = c.requires.inside c.loop-at.at c.loop-at-test.true in
    let e : get_or c.args.shapes.now class 0 ≡ up c.args.shapes.now class = read_up c.args.shapes.now class (let m = c.requires.shapes_length in omega arith) in
    let s : up c.args.shapes.now class < c.args.base = c.requires.shapes_inside class low in
    let i = c.loop-at.invariant in
    let h = c.in_ok-fill_one.ensures.filled in
    record {
      filled = filled_more c.args.arena.now c.loop-at.arena c.fill_one.new.arena c.args.base c.args.parents.now c.loop-at.parents c.args.shapes.now c.args.copies.now c.args.classes.now c.loop-at.at
          (get_or c.args.shapes.now class 0) i.filled i.same c.loop-at-test.true e (omega arith) h;
      rest = λ j l. h.others j (λ x. omega arith) ∙ i.rest j (omega arith);
      same = same_then c.args.parents.now c.loop-at.parents c.fill_one.new.parents i.same c.fill_one.ensures.classes;
    }
