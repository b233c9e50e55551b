use Rattle.std.proofs.Common.{length, refl, sym, ap, subst, ◌∙◌, arith}
use Rattle.lq_text_tree.specs.MlType as ml
use Rattle.lq_text_tree.specs.SimpleTypeView.{simple_type_view, simple_types_view}
use Rattle.lq_types_unify.specs.declared.arena.Head.TheVariants as head
use Rattle.lq_types_rules.specs.Constructors.Building.{IsMade}
use Rattle.lq_types_rules.specs.Constructors.Tasks.{parts_of}
use Rattle.lq_types_rules.proofs.ConstructorsLemmas.Rows.{row_count}
use Rattle.lq_types_rules.proofs.ConstructorsLemmas.Placing.{made_over, made_variable}
use Rattle.lq_types_rules.proofs.ConstructorsLemmas.Views.{int_seen, bool_seen, unit_seen, var_seen, arrow_seen, tuple_seen, array_seen, named_seen, map_seen}
use Rattle.lq_types_rules.proofs.constructors.building.make.Goals as goal

pub returns-in_ok-over-in-Int : goal.returns-in_ok-over-in-Int
returns-in_ok-over-in-Int c =
    subst (IsMade c.args.types.now c.over.new.types c.args.parameters c.args.stack.now.items c.over.new.stack.items) (sym (ap simple_type_view c.in-Int.is ∙ int_seen))
    (made_over c.args.types.now c.over.new.types c.args.parameters c.args.stack.now.items c.over.new.stack.items head.Whole 0 ml.int c.in_ok-over-in-Int.ensures refl (λ by us. refl))

pub returns-in_ok-over-in-Bool : goal.returns-in_ok-over-in-Bool
returns-in_ok-over-in-Bool c =
    subst (IsMade c.args.types.now c.over-in-Bool.new.types c.args.parameters c.args.stack.now.items c.over-in-Bool.new.stack.items) (sym (ap simple_type_view c.in-Bool.is ∙ bool_seen))
    (made_over c.args.types.now c.over-in-Bool.new.types c.args.parameters c.args.stack.now.items c.over-in-Bool.new.stack.items head.Flag 0 ml.bool c.in_ok-over-in-Bool.ensures refl (λ by us. refl))

pub returns-in_ok-over-in-Unit : goal.returns-in_ok-over-in-Unit
returns-in_ok-over-in-Unit c =
    subst (IsMade c.args.types.now c.over-in-Unit.new.types c.args.parameters c.args.stack.now.items c.over-in-Unit.new.stack.items) (sym (ap simple_type_view c.in-Unit.is ∙ unit_seen))
    (made_over c.args.types.now c.over-in-Unit.new.types c.args.parameters c.args.stack.now.items c.over-in-Unit.new.stack.items head.Unit 0 ml.unit c.in_ok-over-in-Unit.ensures refl (λ by us. refl))

pub returns-in_ok-over-in-Arrow : goal.returns-in_ok-over-in-Arrow
returns-in_ok-over-in-Arrow c =
    subst (IsMade c.args.types.now c.over-in-Arrow.new.types c.args.parameters c.args.stack.now.items c.over-in-Arrow.new.stack.items) (sym (ap simple_type_view c.in-Arrow.is ∙ arrow_seen c.in-Arrow.field-0 c.in-Arrow.field-1))
    (made_over c.args.types.now c.over-in-Arrow.new.types c.args.parameters c.args.stack.now.items c.over-in-Arrow.new.stack.items head.Arrow 2 (ml.arrow (simple_type_view c.in-Arrow.field-0.value) (simple_type_view c.in-Arrow.field-1.value)) c.in_ok-over-in-Arrow.ensures refl (λ by us. refl))

pub returns-in_ok-over-in-Tuple : goal.returns-in_ok-over-in-Tuple
returns-in_ok-over-in-Tuple c =
    subst (IsMade c.args.types.now c.over-in-Tuple.new.types c.args.parameters c.args.stack.now.items c.over-in-Tuple.new.stack.items) (sym (ap simple_type_view c.in-Tuple.is ∙ tuple_seen c.in-Tuple.row))
    (made_over c.args.types.now c.over-in-Tuple.new.types c.args.parameters c.args.stack.now.items c.over-in-Tuple.new.stack.items head.Tuple c.len.result (ml.tuple (simple_types_view c.in-Tuple.row)) c.in_ok-over-in-Tuple.ensures (c.len.ensures ∙ sym (row_count c.in-Tuple.row)) (λ by us. refl))

pub returns-in_ok-over-in-Array : goal.returns-in_ok-over-in-Array
returns-in_ok-over-in-Array c =
    subst (IsMade c.args.types.now c.over-in-Array.new.types c.args.parameters c.args.stack.now.items c.over-in-Array.new.stack.items) (sym (ap simple_type_view c.in-Array.is ∙ array_seen c.in-Array.field-0))
    (made_over c.args.types.now c.over-in-Array.new.types c.args.parameters c.args.stack.now.items c.over-in-Array.new.stack.items head.Array 1 (ml.array (simple_type_view c.in-Array.field-0.value)) c.in_ok-over-in-Array.ensures refl (λ by us. refl))

pub returns-in_ok-over-in-Named : goal.returns-in_ok-over-in-Named
returns-in_ok-over-in-Named c =
    subst (IsMade c.args.types.now c.over-in-Named.new.types c.args.parameters c.args.stack.now.items c.over-in-Named.new.stack.items) (sym (ap simple_type_view c.in-Named.is ∙ named_seen c.in-Named.name c.in-Named.row))
    (made_over c.args.types.now c.over-in-Named.new.types c.args.parameters c.args.stack.now.items c.over-in-Named.new.stack.items (head.Named c.in-Named.name.0) c.len-in-Named.result (ml.named c.in-Named.name.0 (simple_types_view c.in-Named.row)) c.in_ok-over-in-Named.ensures (c.len-in-Named.ensures ∙ sym (row_count c.in-Named.row)) (λ by us. refl))

pub returns-in_ok-over-in-Map : goal.returns-in_ok-over-in-Map
returns-in_ok-over-in-Map c =
    subst (IsMade c.args.types.now c.over-in-Map.new.types c.args.parameters c.args.stack.now.items c.over-in-Map.new.stack.items) (sym (ap simple_type_view c.in-Map.is ∙ map_seen c.in-Map.field-0))
    (made_over c.args.types.now c.over-in-Map.new.types c.args.parameters c.args.stack.now.items c.over-in-Map.new.stack.items head.Map 1 (ml.map_of (simple_type_view c.in-Map.field-0.value)) c.in_ok-over-in-Map.ensures refl (λ by us. refl))

pub returns-in_ok-push-in-Var : goal.returns-in_ok-push-in-Var
returns-in_ok-push-in-Var c =
    let e = c.in_ok-node-in-Var.ensures in
    subst (IsMade c.args.types.now c.variable.new.types c.args.parameters c.args.stack.now.items c.push.new.self.items) (sym (ap simple_type_view c.in-Var.is ∙ var_seen c.in-Var.number))
    (made_variable c.args.types.now c.variable.new.types c.args.parameters c.args.stack.now.items c.push.new.self.items c.in-Var.number c.in_ok-node-in-Var.node e.more c.requires.inside e.inside e.is c.in_ok-push-in-Var.ensures.items)

pub over-requires-in-Tuple-clause-count : goal.over-requires-in-Tuple-clause-count
over-requires-in-Tuple-clause-count c =
    let e = ap (λ t. length (parts_of t)) (ap simple_type_view c.in-Tuple.is ∙ tuple_seen c.in-Tuple.row) in
    let n = row_count c.in-Tuple.row in
    let l = c.len.ensures in
    let h = c.requires.count in
    omega arith

pub over-requires-in-Named-clause-count : goal.over-requires-in-Named-clause-count
over-requires-in-Named-clause-count c =
    let e = ap (λ t. length (parts_of t)) (ap simple_type_view c.in-Named.is ∙ named_seen c.in-Named.name c.in-Named.row) in
    let n = row_count c.in-Named.row in
    let l = c.len-in-Named.ensures in
    let h = c.requires.count in
    omega arith
