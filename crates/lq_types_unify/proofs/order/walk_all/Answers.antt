use Rattle.std.proofs.Common.{◌≡◌, ◌≢◌, ◌≤◌, length, arith, rules, below_more}
use Rattle.lq_types_unify.specs.declared.order.Mark.{Mark}
use Rattle.lq_types_unify.specs.declared.order.Mark.TheVariants.{Fresh, Active}
use Rattle.lq_types_unify.specs.Classes.{up}
use Rattle.lq_types_unify.specs.Visits.{mark_at}
use Rattle.lq_types_unify.proofs.Walking.{all_ranked, marked_start}
use Rattle.lq_types_unify.proofs.Scanning.{inner_past}
use Rattle.lq_types_unify.proofs.Ordering.{put_start, all_ordered}
use Rattle.lq_types_unify.proofs.order.walk_all.Goals as goal

fresh_calm : (m : Mark) → m ≡ Fresh → m ≢ Active
fresh_calm m e f = cc

pub loop-class-init : goal.loop-class-init
loop-class-init c = record {
  calm = λ r. fresh_calm _ (c.requires.fresh r);
  marked = marked_start _ _ _ _ c.args.marks.now _ c.requires.marks c.requires.fresh;
  put = put_start _ _ _ _ c.args.marks.now c.args.order.now.items c.requires.none c.requires.fresh;
  empty = c.requires.empty;
  seen = λ r h. absurd (omega arith);
}

pub loop-class-preserved : goal.loop-class-preserved
loop-class-preserved c =
    let e = c.in_ok-start.ensures in
    let yes = c.if-not-branch.false in
    record {
      calm = e.calm yes;
      marked = e.marked yes;
      put = e.put yes;
      empty = e.empty yes;
      seen = below_more (λ r. up c.args.parents.now r ≡ r → mark_at c.start.new.marks r ≢ Fresh) c.loop-class.class (λ r h f. e.seen r (c.loop-class.invariant.seen r h f)) e.here;
    }

pub returns-clause-ranked : goal.returns-clause-ranked
returns-clause-ranked c = λ t.
    let i = c.loop-class.invariant in
    let past : length c.args.arena.now.nodes.items ≤ c.loop-class.class = search rules in
    all_ranked _ (length c.args.arena.now.nodes.items) _ _ c.loop-class.marks _ (λ r h. inner_past c.args.arena.now c.args.shapes.now r (let l = c.requires.table.shapes_length in omega arith) h) i.marked i.calm
    (λ r h f. i.seen r (omega arith) f)

pub returns-clause-ordered : goal.returns-clause-ordered
returns-clause-ordered c = λ t.
    let i = c.loop-class.invariant in
    let past : length c.args.arena.now.nodes.items ≤ c.loop-class.class = search rules in
    all_ordered _ (length c.args.arena.now.nodes.items) _ _ c.loop-class.marks _ c.requires.table i.put i.calm (λ r h f. i.seen r (omega arith) f)
