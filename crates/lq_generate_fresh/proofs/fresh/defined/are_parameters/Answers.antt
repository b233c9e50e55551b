use Rattle.std.proofs.Common.{◌∙◌, ◌+◌, ◌<◌, ◌≤◌, suc, ◌&&◌, drop, length, map, sym, ap, arith}
use Rattle.lq_text_tree.specs.SimpleTypeView.{simple_type_view, simple_types_items}
use Rattle.lq_generate_fresh.proofs.FreshLemmas.Known.{found_rest, in_order, is_found, parameters_known}
use Rattle.lq_generate_fresh.proofs.FreshLemmas.Loops.{none_left, one_more}
use Rattle.lq_generate_fresh.proofs.fresh.defined.are_parameters.Goals as goal
use Rattle.lq_generate_fresh.proofs.fresh.defined.are_parameters.Goals.{in-Some+else-not-is_variable, in_default}

pub returns-then-not-is_variable : goal.returns-then-not-is_variable
returns-then-not-is_variable c =
    let i = c.loop-at.at in
    let items = simple_types_items c.args.types.now in
    let rest = drop (i + 1) (map simple_type_view items) in
    parameters_known c.args.types.now _
    (c.loop-at.invariant
    ∙ (ap (in_order i) (found_rest simple_type_view items i c.in-Some.written.now (sym c.in-Some.ensures))
    ∙ ap (λ b. b && in_order (suc i) rest) (sym c.is_variable.ensures ∙ c.if-not-is_variable.true)))

pub loop-at-preserved : goal.loop-at-preserved
loop-at-preserved c =
    let i = c.loop-at.at in
    let items = simple_types_items c.args.types.now in
    let rest = drop (i + 1) (map simple_type_view items) in
    elim c.match-get.branch [
      | in-Some+else-not-is_variable w ↦
          c.loop-at.invariant
          ∙ (ap (in_order i) (found_rest simple_type_view items i w.in-Some.written.now (sym w.in-Some.ensures))
          ∙ (ap (λ b. b && in_order (suc i) rest) (sym w.is_variable.ensures ∙ w.if-not-is_variable.false)
          ∙ ap (λ k. in_order k rest) (one_more i)))
      | in_default w ↦
          let inside : i < length items = (let t = c.loop-at-test.true in let l = c.len-at-end.ensures in omega arith) in
          absurd (is_found items i inside w.in_default.ensures)
    ]

pub returns : goal.returns
returns c =
    let i = c.loop-at.at in
    let items = simple_types_items c.args.types.now in
    let past : length items ≤ i = (let t = c.loop-at-test.false in let l = c.len-at-end.ensures in omega arith) in
    parameters_known c.args.types.now _ (c.loop-at.invariant ∙ ap (in_order i) (none_left simple_type_view items i past))
