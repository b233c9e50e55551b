use Rattle.lq_generate_fresh.specs.Fresh.Views.{scope_at}
use Rattle.lq_refined_subtyping.specs.Table.Forms.{kind_view}
use Rattle.lq_refined_substitution.specs.Substitution.Views.{parts_view}
use Rattle.lq_types_table.specs.Nodes as types
use Rattle.lq_types_table.specs.Whole.{types_of}
use Rattle.lq_generate_fresh.proofs.FreshLemmas.Alone.{emptied_template}
use Rattle.lq_generate_fresh.proofs.fresh.empty.emptied.Goals as goal

pub returns : goal.returns
returns c =
    emptied_template c.args.given.now.datatypes.now c.args.templates.now c.form.new.self c.push.new.self c.in_ok-form.form c.in_ok-row.row
    (parts_view c.in_ok-top.top) (kind_view c.kind.result) (scope_at c.args.templates.now c.args.scope)
    (types.at (types_of c.args.given.now.types.now) c.args.at) c.in_ok-form.ensures c.in_ok-top.ensures c.kind.ensures c.in_ok-row.ensures.refined
    c.in_ok-row.ensures.there c.in_ok-row.ensures.made
