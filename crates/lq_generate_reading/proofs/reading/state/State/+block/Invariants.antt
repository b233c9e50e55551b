use Rattle.std.proofs.Common.{◌≡◌, [], drop, map}
use Rattle.lq_meaning_normal_tree.specs.BlockView.{binding_view, branch_view}
use Rattle.lq_refined_templates.specs.Programs.BlockView as made
use Rattle.lq_text_tree.specs.TreeView.{cases_of}
use Rattle.lq_generate_reading.specs.Reading.Blocks.{arms_read, patterns_view, BindsSome}
use Rattle.lq_generate_reading.specs.Reading.State.{seen_of}
use Rattle.lq_generate_reading.specs.Reading.Through.{Through}
use Rattle.lq_generate_reading.proofs.ReadingLemmas.ArmForms.{arms_onto}
use Rattle.lq_generate_reading.proofs.reading.state.State.+block.Given as goal

abbrev pub invariant-bindings-loop-binding : goal.invariant-bindings-loop-binding
invariant-bindings-loop-binding l =
    BindsSome l.notes l.initial.self l.self (made.bindings_view l.made.items) (map binding_view l.bindings) (map binding_view (drop l.binding-index l.bindings))

abbrev pub invariant-arms-loop-branch : goal.invariant-arms-loop-branch
invariant-arms-loop-branch l = record {
  through : Through l.notes l.initial.self l.self (arms_onto l.made.items) (arms_read l.notes l.initial.self [] (cases_of (map branch_view l.branches)))
      (arms_read l.notes l.self (patterns_view l.made.items) (cases_of (map branch_view (drop l.branch-index l.branches))));
  seen : seen_of l.self ≡ seen_of l.initial.self;
}
