use Rattle.std.proofs.Common.{◌+◌, ◌∙◌, [], drop, get_or, length, map, sym, ap}
use Rattle.lq_generate_fresh.specs.Fresh.Fields.{scope_of_fields}
use Rattle.lq_generate_fresh.specs.Fresh.Growing.{made_both, made_nothing}
use Rattle.lq_generate_fresh.specs.Fresh.Views.{field_view, scope_at, shape_if}
use Rattle.lq_generate_fresh.specs.declared.fresh.fields.Field.TheVariants.{Again}
use Rattle.lq_generate_fresh.proofs.FreshLemmas.Loops.{length_map, none_left, rest_of, scope_next}
use Rattle.lq_generate_fresh.proofs.FreshLemmas.Adding.{first_empty, first_there}
use Rattle.lq_generate_fresh.proofs.fresh.templates.Templates.scope_of_fields.Goals as goal

pub loop-at-init : goal.loop-at-init
loop-at-init c =
    let old = c.args.self.now in
    let xs = map field_view c.args.fields.now in
    record {
      done = ap (scope_of_fields c.args.datatype.0 (map shape_if c.args.shapes.now) 0 xs) (sym (first_empty old.unknowns));
      there = first_there old.unknowns;
      made = made_nothing old;
    }

pub with_field-requires : goal.with_field-requires
with_field-requires c = c.loop-at.invariant.there

pub loop-at-preserved : goal.loop-at-preserved
loop-at-preserved c =
    let fields = c.args.fields.now in
    let xs = map field_view fields in
    let ss = map shape_if c.args.shapes.now in
    let i = c.loop-at.at in
    let x = Again 0 in
    record {
      done = scope_next (scope_at c.loop-at.self c.loop-at.scope) (scope_at c.with_field.new.self c.in_ok-scope.scope) c.args.datatype.0 ss xs i
          (length c.args.shapes.now) (drop i xs) (field_view (get_or fields i x)) (drop (i + 1) xs) c.loop-at.invariant.done
          (rest_of field_view fields i x c.loop-at-test.true) (sym (length_map shape_if c.args.shapes.now)) c.in_ok-scope.ensures.scope;
      there = c.in_ok-scope.ensures.there;
      made = made_both c.args.self.now c.loop-at.self c.with_field.new.self [] [] c.loop-at.invariant.made c.in_ok-scope.ensures.made;
    }

pub returns-clause-scope : goal.returns-clause-scope
returns-clause-scope c =
    let xs = map field_view c.args.fields.now in
    let i = c.loop-at.at in
    sym (c.loop-at.invariant.done
    ∙ ap (λ l. scope_of_fields c.args.datatype.0 (map shape_if c.args.shapes.now) i l (scope_at c.loop-at.self c.loop-at.scope))
    (none_left field_view c.args.fields.now i c.loop-at-test.false))
