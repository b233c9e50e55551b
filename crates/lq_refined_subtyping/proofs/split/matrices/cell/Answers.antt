use Rattle.std.proofs.Common.{map, ap, sym, ◌∙◌}
use Rattle.lq_refined_substitution.specs.Implications.Views.{count_of, environment_at, implications_of}
use Rattle.lq_refined_subtyping.specs.Table.Forms.{cell_view, each, matrix_view}
use Rattle.lq_refined_subtyping.specs.Table.Whole.{types_of}
use Rattle.lq_refined_substitution.specs.Substitution.Views.{part_view, parts_view}
use Rattle.lq_refined_subtyping.specs.Split.Given.{origin_of, scopes_of, setting_of}
use Rattle.lq_refined_subtyping.proofs.SplitLemmas.Entries.{cell-more}
use Rattle.lq_refined_subtyping.proofs.split.matrices.cell.Goals as goal

pub returns-in_ok-imply-in-Some-clause-added : goal.returns-in_ok-imply-in-Some-clause-added
returns-in_ok-imply-in-Some-clause-added c =
    let given = c.args.given.now in
    let l0 = c.args.list.now in
    let l1 = c.with_cell.new.list in
    let l2 = c.imply.new.self in
    let ts = each (types_of (scopes_of given) c.args.types.now) c.args.left.now.arguments.now in
    let m = matrix_view c.args.left.now.matrix.now in
    λ g Γ k f.
    cell-more (setting_of given g) (origin_of given) Γ c.args.left.now.name.0 ts m (implications_of l0) (implications_of l1) (implications_of l2)
    (count_of l0) (count_of l1) (count_of l2) (cell_view c.args.cell.now) (environment_at l1 c.in_ok-inner.inner) (parts_view c.in-Some.parts.now)
    (map part_view c.as_slice-right.result.now) c.with_cell.ensures.implications c.with_cell.ensures.count (c.in_ok-inner.ensures.facts g Γ k f)
    c.in-Some.ensures (ap (map part_view) c.as_slice-right.ensures) c.in_ok-imply-in-Some.ensures.added c.in_ok-imply-in-Some.ensures.counted

pub returns-in_ok-imply-in-None-clause-added : goal.returns-in_ok-imply-in-None-clause-added
returns-in_ok-imply-in-None-clause-added c =
    let given = c.args.given.now in
    let l0 = c.args.list.now in
    let l1 = c.with_cell.new.list in
    let l2 = c.imply-in-None.new.self in
    let ts = each (types_of (scopes_of given) c.args.types.now) c.args.left.now.arguments.now in
    let m = matrix_view c.args.left.now.matrix.now in
    λ g Γ k f.
    cell-more (setting_of given g) (origin_of given) Γ c.args.left.now.name.0 ts m (implications_of l0) (implications_of l1) (implications_of l2)
    (count_of l0) (count_of l1) (count_of l2) (cell_view c.args.cell.now) (environment_at l1 c.in_ok-inner.inner) (parts_view c.new.result)
    (map part_view c.as_slice-right.result.now) c.with_cell.ensures.implications c.with_cell.ensures.count (c.in_ok-inner.ensures.facts g Γ k f)
    (c.new.ensures ∙ sym c.in-None.ensures) (ap (map part_view) c.as_slice-right.ensures) c.in_ok-imply-in-None.ensures.added
    c.in_ok-imply-in-None.ensures.counted
