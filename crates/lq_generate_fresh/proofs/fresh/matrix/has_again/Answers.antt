use Rattle.std.proofs.Common.{◌+◌, ◌∙◌, ◌||◌, drop, map, sym, ap}
use Rattle.lq_generate_fresh.specs.Fresh.Fields.{any_again}
use Rattle.lq_generate_fresh.specs.Fresh.Views.{field_view}
use Rattle.lq_generate_fresh.specs.declared.fresh.fields.Field.TheVariants.{Again}
use Rattle.lq_generate_fresh.proofs.FreshLemmas.Loops.{rest_of}
use Rattle.lq_generate_fresh.proofs.fresh.matrix.has_again.Goals as goal

pub returns-then-is_again : goal.returns-then-is_again
returns-then-is_again c =
    let n = c.args.count in
    let fields = c.args.fields.now in
    let i = c.loop-field.field-index in
    sym (c.loop-field.invariant
    ∙ (ap (any_again n) (rest_of field_view fields i (Again 0) c.loop-field-test.true)
    ∙ ap (λ b. b || any_again n (drop (i + 1) (map field_view fields))) (sym c.is_again.ensures ∙ c.if-is_again.true)))

pub loop-field-preserved : goal.loop-field-preserved
loop-field-preserved c =
    let n = c.args.count in
    let fields = c.args.fields.now in
    let i = c.loop-field.field-index in
    c.loop-field.invariant
    ∙ (ap (any_again n) (rest_of field_view fields i (Again 0) c.loop-field-test.true)
    ∙ ap (λ b. b || any_again n (drop (i + 1) (map field_view fields))) (sym c.is_again.ensures ∙ c.if-is_again.false))
