use Rattle.std.proofs.Common.{◌≡◌, ◌+◌, ◌<◌, length, slice_index_or, arith, rules}
use Rattle.lq_types_unify.specs.Nodes.{form_at}
use Rattle.lq_types_unify.proofs.Roots.{root_low}
use Rattle.lq_types_unify.proofs.Listing.{one_listed}
use Rattle.lq_types_unify.proofs.reaching.meet.Goals as goal

pub bounds-copies-class : goal.bounds-copies-class
bounds-copies-class c =
    let e = c.find-class.ensures.value in let l = root_low c.args.parents.now c.requires.down c.args.node in let m = c.requires.listed.long in let h = c.requires.inside in omega arith

pub bounds-copies-class-2 : goal.bounds-copies-class-2
bounds-copies-class-2 c =
    let e = c.find-class.ensures.value in let l = root_low c.args.parents.now c.requires.down c.args.node in let m = c.requires.listed.long in let h = c.requires.inside in omega arith

pub is_fixed-requires-clause-inside : goal.is_fixed-requires-clause-inside
is_fixed-requires-clause-inside c =
    let e = c.find-class.ensures.value in let l = root_low c.args.parents.now c.requires.down c.args.node in let m = c.requires.shapes_length in let h = c.requires.inside in omega arith

pub is_fixed-requires-clause-shape : goal.is_fixed-requires-clause-shape
is_fixed-requires-clause-shape c =
    let e = c.find-class.ensures.value in let l = root_low c.args.parents.now c.requires.down c.args.node in let h = c.requires.inside in c.requires.shapes_inside c.find-class.result (omega arith)

pub returns-clause-listed : goal.returns-clause-listed
returns-clause-listed c =
    let n = length c.args.arena.now.nodes.items in
    let count : c.len.result ≡ n = search rules in
    let v : c.len-2.result + c.len-3.result ≡ n + length c.args.classes.now.items = search rules in
    let low : slice_index_or c.args.copies.now c.find-class.result 0 < n = let f = c.if-copies-class.false in omega arith in
    (one_listed (form_at c.args.arena.now) n c.args.parents.now c.find-class.new.parents c.args.shapes.now c.args.weak.now c.args.copies.now c.args.classes.now.items c.push.new.self.items c.args.node
    c.find-class.result (c.len-2.result + c.len-3.result) c.requires.down c.find-class.ensures.classes c.requires.listed c.requires.inside c.find-class.ensures.value v c.in_ok-push.ensures.items
    (c.is_fixed.ensures.no c.if-is_fixed.false) low).listed

pub returns-clause-lists : goal.returns-clause-lists
returns-clause-lists c =
    let n = length c.args.arena.now.nodes.items in
    let count : c.len.result ≡ n = search rules in
    let v : c.len-2.result + c.len-3.result ≡ n + length c.args.classes.now.items = search rules in
    let low : slice_index_or c.args.copies.now c.find-class.result 0 < n = let f = c.if-copies-class.false in omega arith in
    (one_listed (form_at c.args.arena.now) n c.args.parents.now c.find-class.new.parents c.args.shapes.now c.args.weak.now c.args.copies.now c.args.classes.now.items c.push.new.self.items c.args.node
    c.find-class.result (c.len-2.result + c.len-3.result) c.requires.down c.find-class.ensures.classes c.requires.listed c.requires.inside c.find-class.ensures.value v c.in_ok-push.ensures.items
    (c.is_fixed.ensures.no c.if-is_fixed.false) low).lists

pub returns-clause-met : goal.returns-clause-met
returns-clause-met c =
    let n = length c.args.arena.now.nodes.items in
    let count : c.len.result ≡ n = search rules in
    let v : c.len-2.result + c.len-3.result ≡ n + length c.args.classes.now.items = search rules in
    let low : slice_index_or c.args.copies.now c.find-class.result 0 < n = let f = c.if-copies-class.false in omega arith in
    (one_listed (form_at c.args.arena.now) n c.args.parents.now c.find-class.new.parents c.args.shapes.now c.args.weak.now c.args.copies.now c.args.classes.now.items c.push.new.self.items c.args.node
    c.find-class.result (c.len-2.result + c.len-3.result) c.requires.down c.find-class.ensures.classes c.requires.listed c.requires.inside c.find-class.ensures.value v c.in_ok-push.ensures.items
    (c.is_fixed.ensures.no c.if-is_fixed.false) low).met

pub returns-clause-among : goal.returns-clause-among
returns-clause-among c =
    let n = length c.args.arena.now.nodes.items in
    let count : c.len.result ≡ n = search rules in
    let v : c.len-2.result + c.len-3.result ≡ n + length c.args.classes.now.items = search rules in
    let low : slice_index_or c.args.copies.now c.find-class.result 0 < n = let f = c.if-copies-class.false in omega arith in
    (one_listed (form_at c.args.arena.now) n c.args.parents.now c.find-class.new.parents c.args.shapes.now c.args.weak.now c.args.copies.now c.args.classes.now.items c.push.new.self.items c.args.node
    c.find-class.result (c.len-2.result + c.len-3.result) c.requires.down c.find-class.ensures.classes c.requires.listed c.requires.inside c.find-class.ensures.value v c.in_ok-push.ensures.items
    (c.is_fixed.ensures.no c.if-is_fixed.false) low).among
