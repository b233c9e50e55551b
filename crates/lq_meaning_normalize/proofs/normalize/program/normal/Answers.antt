use Rattle.std.proofs.Common.{length}
use Rattle.lq_meaning_normal_tree.specs.BlockView.{definitions_view}
use Rattle.lq_text_walk.specs.Scoped.Whole.{scoped_view}
use Rattle.lq_meaning_normalize.specs.Normalize.Program.{formed_program, next_behind_all}
use Rattle.lq_text_walk.specs.Scoped.Views.{scoped_items}
use Rattle.lq_meaning_normalize.proofs.NormalizeLemmas.Programs.{keeps_outcomes}
use Rattle.lq_meaning_normalize.proofs.NormalizeLemmas.Types.{keeps_types}
use Rattle.lq_meaning_normalize.proofs.NormalizeLemmas.Whole.{more_defined, more_named, program_made, all_named}
use Rattle.lq_meaning_normalize.proofs.normalize.program.normal.Goals as goal

pub loop-item-preserved : goal.loop-item-preserved
loop-item-preserved c =
    let xs = c.items-items.result.now in
    let k = c.in_ok-first_made.first_made in (
      more_defined xs c.loop-item.item-index c.item-item.result (definitions_view c.loop-item.definitions.done.items) (definitions_view c.add.new.self.done.items)
          (formed_program k (scoped_items xs)) c.loop-item.definitions.next c.add.new.self.next c.loop-item-test.true c.item-item.is c.in_ok-add.ensures.done c.in_ok-add.ensures.next c.loop-item.invariant.0,
      more_named xs c.loop-item.item-index c.item-item.result (next_behind_all k (scoped_items xs)) c.loop-item.definitions.next c.add.new.self.next c.loop-item-test.true c.item-item.is
          c.in_ok-add.ensures.next c.loop-item.invariant.1,
    )

pub returns-clause-tree : goal.returns-clause-tree
returns-clause-tree c =
    let s = scoped_view c.args.scoped.now in
    program_made c.one_pass.ensures c.pass_agrees.ensures c.items-items.result.now s.items c.loop-item.item-index c.in_ok-first_made.first_made (length s.sources) c.loop-item.definitions.next
    (definitions_view c.loop-item.definitions.done.items) c.loop-item-test.false c.items-items.ensures.items c.in_ok-first_made.ensures c.loop-item.invariant.0

pub returns-clause-made : goal.returns-clause-made
returns-clause-made c =
    let s = scoped_view c.args.scoped.now in
    all_named c.items-items.result.now s.items c.loop-item.item-index c.in_ok-first_made.first_made (length s.sources) c.loop-item.definitions.next c.loop-item-test.false c.items-items.ensures.items
    c.in_ok-first_made.ensures c.loop-item.invariant.1

pub returns-clause-same : goal.returns-clause-same
returns-clause-same c rules types =
    let s = scoped_view c.args.scoped.now in
    let fine = c.scoped_are_apart.ensures s c.items-items.ensures.scoped in
    keeps_outcomes c.normal_form_keeps_outcomes.ensures c.typed_programs.ensures.never_stuck (length s.sources) s.items (definitions_view c.loop-item.definitions.done.items) fine.0 fine.1
    (returns-clause-tree c rules) types

pub returns-clause-types : goal.returns-clause-types
returns-clause-types c rules written =
    let s = scoped_view c.args.scoped.now in
    let plain = c.scoped_programs_are_plain.ensures s c.items-items.ensures.scoped written in
    keeps_types c.one_pass.ensures c.programs_keep_types.ensures (length s.sources) s.items (definitions_view c.loop-item.definitions.done.items) plain (returns-clause-tree c rules)
