use Rattle.std.proofs.Common.{◌∙◌, ◌++◌, ◌==◌, [], cond, ap, sym}
use Rattle.std.proofs.lemmas.List.{take_all}
use Rattle.lq_generate_operations.specs.Basis.Basis.{items_at}
use Rattle.lq_generate_datatypes.proofs.Conds.{cond-none, items-more}
use Rattle.lq_generate_datatypes.proofs.building.add_fields.Goals as goal

pub loop-row-init : goal.loop-row-init
loop-row-init c = λ n. sym (cond-none (c.args.name.0 == n) (items_at c.args.fields.now.items n))

pub loop-row-preserved : goal.loop-row-preserved
loop-row-preserved c = λ n.
    items-more (c.args.name.0 == n) (items_at c.args.fields.now.items n) (items_at c.loop-row.fields.items n) (items_at c.push_at.new.rows.items n)
    c.args.rows.now c.loop-row.row-index 0 (c.in_ok-push_at.ensures n) c.loop-row-test.true (c.loop-row.invariant n)

pub returns : goal.returns
returns c = λ n.
    c.loop-row.invariant n
    ∙ ap (λ l. items_at c.args.fields.now.items n ++ cond (c.args.name.0 == n) l []) (take_all c.loop-row.row-index c.args.rows.now c.loop-row-test.false)
