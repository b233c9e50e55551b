use Rattle.std.proofs.Common.{◌∙◌, length, map, ap}
use Rattle.lq_generate_fresh.specs.Fresh.Views.{constructor_view, scope_at, shape_if, unknowns_of}
use Rattle.lq_generate_fresh.proofs.FreshLemmas.Walked.{data_of, data_wanted}
use Rattle.lq_refined_subtyping.specs.declared.table.forms.Form.TheVariants as form
use Rattle.lq_refined_substitution.specs.Substitution.Views.{parts_view}
use Rattle.lq_types_table.specs.Heads.{each}
use Rattle.lq_types_table.specs.Nodes as types
use Rattle.lq_types_table.specs.Whole.{types_of}
use Rattle.lq_generate_fresh.specs.Fresh.Wanted.{all_emptied_wanted}
use Rattle.lq_generate_fresh.proofs.FreshLemmas.Alone.{bare_template}
use Rattle.lq_generate_fresh.proofs.fresh.empty.built.Goals as goal

pub returns : goal.returns
returns c =
    let D = c.args.given.now.datatypes.now in
    let old = c.args.templates.now in
    let mid = c.matrix_of.new.self in
    let ts = each (types.at (types_of c.args.given.now.types.now)) c.args.parts.now in
    let n = length (unknowns_of old) in
    let w = all_emptied_wanted n (scope_at old c.args.scope) ts in
    let v = c.in_ok-arguments.arguments in
    let m = c.in_ok-matrix.matrix in
    bare_template D old mid c.push.new.self (form.Data c.args.name v m) c.in_ok-row.row (parts_view c.new.result) (data_wanted D n c.args.name.0 ts w)
    (data_of D old c.each_emptied.new.templates mid c.args.name v m w ts (map shape_if c.as_slice.result.now)
    (map constructor_view c.of-constructors.result.now) c.in_ok-arguments.ensures
    (ap (map shape_if) c.as_slice.ensures.value ∙ c.in_ok-shapes.ensures) c.of-constructors.ensures c.in_ok-matrix.ensures.matrix
    c.in_ok-matrix.ensures.made)
    c.in_ok-row.ensures.refined c.new.ensures c.in_ok-row.ensures.there c.in_ok-row.ensures.made
