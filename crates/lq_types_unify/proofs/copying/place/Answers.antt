use Rattle.std.proofs.Common.{◌≡◌, length, ap, subst, ◌∙◌, rules}
use Rattle.lq_types_unify.specs.Copying.{seat, AreOpened, AreFilled}
use Rattle.lq_types_unify.specs.Classes.{root}
use Rattle.lq_types_unify.proofs.Same.{same_then}
use Rattle.lq_types_unify.proofs.Seating.{placed, all_placed}
use Rattle.lq_types_unify.proofs.copying.place.Goals as goal

pub fill_all-requires-clause-placed : goal.fill_all-requires-clause-placed
fill_all-requires-clause-placed c =
    let a = c.args.arena.now in
    let n : c.len-base.result ≡ length a.nodes.items = search rules in
    let m : c.len.result ≡ length c.in_ok-classes.classes.items = search rules in
    all_placed a c.open_all.new.arena c.len-base.result c.len.result c.args.parents.now c.reach.new.parents c.args.shapes.now c.args.weak.now c.reach.new.copies c.in_ok-classes.classes.items c.deref.result.now
    n m c.deref.ensures.value c.requires.arena c.requires.parents_length c.requires.down c.requires.shapes_inside c.reach.ensures.classes c.in_ok-classes.ensures.reached.listed c.in_ok-open_all.ensures.opened

pub returns-clause-placed : goal.returns-clause-placed
returns-clause-placed c =
    let a = c.args.arena.now in
    let n : c.len-base.result ≡ length a.nodes.items = search rules in
    let m : c.len.result ≡ length c.in_ok-classes.classes.items = search rules in
    let classes = c.in_ok-classes.classes.items in
    let opened = subst (AreOpened a c.open_all.new.arena) m c.in_ok-open_all.ensures.opened in
    let filled = subst (λ k. AreFilled c.open_all.new.arena c.fill_all.new.arena k c.reach.new.parents c.args.shapes.now c.reach.new.copies classes) n
    (subst (AreFilled c.open_all.new.arena c.fill_all.new.arena c.len-base.result c.reach.new.parents c.args.shapes.now c.reach.new.copies) c.deref.ensures.value c.in_ok-fill_all.ensures.filled) in
    let same = same_then c.args.parents.now c.reach.new.parents c.fill_all.new.parents c.reach.ensures.classes c.fill_all.ensures.classes in
    let used = c.seat_of.ensures.value ∙ ap (λ k. seat k c.reach.new.copies (root c.fill_all.new.parents c.args.node)) n ∙ ap (seat (length a.nodes.items) c.reach.new.copies) (same.roots c.args.node) in
    placed a c.open_all.new.arena c.fill_all.new.arena c.args.parents.now c.reach.new.parents c.args.shapes.now c.args.weak.now c.reach.new.copies classes c.args.node c.seat_of.result
    c.requires.arena c.requires.parents_length c.requires.down c.requires.inside c.requires.shapes_inside c.reach.ensures.classes c.in_ok-classes.ensures.reached opened filled used

pub returns-in_err-fill_all-clause-classes : goal.returns-in_err-fill_all-clause-classes
returns-in_err-fill_all-clause-classes c = same_then c.args.parents.now c.reach.new.parents c.fill_all.new.parents c.reach.ensures.classes c.fill_all.ensures.classes
