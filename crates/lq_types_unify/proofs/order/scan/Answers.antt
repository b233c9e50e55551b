use Rattle.std.proofs.Common.{◌≡◌, ℕ, sym, ap, ◌∙◌, arith, subst}
use Rattle.lq_types_unify.specs.declared.order.Mark.TheVariants.{Done}
use Rattle.lq_types_unify.specs.Classes.{up, root}
use Rattle.lq_types_unify.specs.Visits.{mark_at}
use Rattle.lq_types_unify.proofs.Roots.{root_fixed}
use Rattle.lq_types_unify.proofs.Scanning.{part_read, done_more}
use Rattle.lq_types_unify.proofs.order.scan.Goals as goal

pub bounds : goal.bounds
bounds c =
    let p = part_read c.args.arena.now c.args.parents.now c.args.shapes.now c.args.visit.class c.loop-at.at c.index-in-loop-at.result.now c.index.result.now c.in-Made.field-0 c.in-Made.first c.in-Made.count
    c.requires.arena c.requires.table c.requires.inside c.index.ensures c.in-Made.is c.loop-at-test.true c.index-in-loop-at.ensures in
    let i = p.inside in let m = c.requires.marks in omega arith

pub returns-in_default-marks : goal.returns-in_default-marks
returns-in_default-marks c =
    let p = part_read c.args.arena.now c.args.parents.now c.args.shapes.now c.args.visit.class c.loop-at.at c.index-in-loop-at.result.now c.index.result.now c.in-Made.field-0 c.in-Made.first c.in-Made.count
    c.requires.arena c.requires.table c.requires.inside c.index.ensures c.in-Made.is c.loop-at-test.true c.index-in-loop-at.ensures in
    record {
      some = record {
        inside = p.inside;
        is_root = ap (up c.args.parents.now) p.class ∙ root_fixed c.args.parents.now c.requires.table.down c.index-in-loop-at.result.now ∙ sym p.class;
        at = p.at_in;
        part = p.class ∙ ap (root c.args.parents.now) p.is;
        undone = c.in_default-marks.not-Done;
        before = c.loop-at.invariant;
      };
      none = tt;
    }

pub loop-at-preserved : goal.loop-at-preserved
loop-at-preserved c =
    let p = part_read c.args.arena.now c.args.parents.now c.args.shapes.now c.args.visit.class c.loop-at.at c.index-in-loop-at.result.now c.index.result.now c.in-Made.field-0 c.in-Made.first c.in-Made.count
    c.requires.arena c.requires.table c.requires.inside c.index.ensures c.in-Made.is c.loop-at-test.true c.index-in-loop-at.ensures in
    done_more c.args.parents.now c.args.marks.now _ c.loop-at.at c.loop-at.invariant
    (subst (λ (j : ℕ). mark_at c.args.marks.now j ≡ Done) (p.class ∙ ap (root c.args.parents.now) p.is) c.in-Done.is)
