use Rattle.std.proofs.Common.{◌∷◌, [], map, take, ap, refl, sym, ◌∙◌}
use Rattle.std.proofs.lemmas.List.{take_all}
use Rattle.lq_refined_substitution.specs.Implications.Growing.{Continues-refl, Continues-trans}
use Rattle.lq_refined_substitution.specs.Implications.Views.{count_of, environment_lists, implications_of}
use Rattle.lq_refined_subtyping.specs.Table.Forms.{cell_view, each, matrix_view}
use Rattle.lq_refined_subtyping.specs.Table.Growing.{Extends-refl, Extends-trans}
use Rattle.lq_refined_subtyping.specs.Table.Whole.{types_of}
use Rattle.lq_refined_types.specs.Subtyping.Splitting.{cells}
use Rattle.lq_refined_subtyping.specs.Split.Given.{origin_of, scopes_of, setting_of}
use Rattle.lq_refined_subtyping.specs.Split.Growing.{environment-kept, HasMore-refl, HasMore-trans}
use Rattle.lq_refined_subtyping.proofs.SplitLemmas.Appending.{appends-none, more-both, more-same}
use Rattle.lq_refined_subtyping.proofs.SplitLemmas.Entries.{cells-more}
use Rattle.lq_refined_subtyping.proofs.SplitLemmas.Rows.{each-grown, knows-grown}
use Rattle.lq_refined_subtyping.proofs.split.matrices.cells.Goals as goal

pub loop-entry-init : goal.loop-entry-init
loop-entry-init c = record {
  added = λ g Γ k f. appends-none c.args.list.now;
  environments = HasMore-refl (environment_lists c.args.list.now);
  continues = Continues-refl c.args.list.now;
  grows = Extends-refl c.args.types.now.rows.items;
}

pub loop-entry-preserved : goal.loop-entry-preserved
loop-entry-preserved c =
    let t0 = c.args.types.now in
    let t1 = c.loop-entry.types in
    let t2 = c.cell.new.types in
    let l0 = c.args.list.now in
    let l1 = c.loop-entry.list in
    let l2 = c.cell.new.list in
    let given = c.args.given.now in
    let S = scopes_of given in
    let o = origin_of given in
    let d = c.args.left.now.name.0 in
    let m = matrix_view c.args.left.now.matrix.now in
    let args = c.args.left.now.arguments.now in
    let ts = each (types_of S t0) args in
    let us = each (types_of S t1) args in
    let items = c.as_slice-entry-items.result.now in
    let i = c.loop-entry.entry-index in
    let x = c.entry-item.result in
    record {
      added = λ g Γ k f.
          let P = setting_of given g in
          more-same (implications_of l0) (implications_of l2) (count_of l0) (count_of l2) _ _
          (cells-more P o Γ d ts m us items i x (each-grown S t0.rows.items t1.rows.items args c.loop-entry.invariant.grows c.requires.arguments)
          c.loop-entry-test.true c.entry-item.is)
          (more-both (implications_of l0) (implications_of l1) (implications_of l1) (implications_of l2) (count_of l0) (count_of l1) (count_of l1) (count_of l2)
          (cells P o Γ d ts m (map cell_view (take i items))) (cells P o Γ d us m (cell_view x ∷ []))
          (c.loop-entry.invariant.added g Γ k f) refl refl
          (c.in_ok-cell.ensures.added g Γ
          (knows-grown S t0.rows.items t1.rows.items given.fields.now g c.loop-entry.invariant.grows c.requires.fields k)
          (f ∙ sym (environment-kept (environment_lists l0) (environment_lists l1) c.args.env c.loop-entry.invariant.environments c.requires.env))));
      environments = HasMore-trans (environment_lists l0) (environment_lists l1) (environment_lists l2) c.loop-entry.invariant.environments c.cell.ensures.environments;
      continues = Continues-trans l0 l1 l2 c.loop-entry.invariant.continues c.cell.ensures.continues;
      grows = Extends-trans t0.rows.items t1.rows.items t2.rows.items c.loop-entry.invariant.grows c.cell.ensures.grows;
    }

pub returns-clause-added : goal.returns-clause-added
returns-clause-added c =
    let l0 = c.args.list.now in
    let l1 = c.loop-entry.list in
    let given = c.args.given.now in
    let ts = each (types_of (scopes_of given) c.args.types.now) c.args.left.now.arguments.now in
    let items = c.as_slice-entry-items.result.now in
    λ g Γ k f.
    more-same (implications_of l0) (implications_of l1) (count_of l0) (count_of l1) _ _
    (ap (cells (setting_of given g) (origin_of given) Γ c.args.left.now.name.0 ts (matrix_view c.args.left.now.matrix.now))
    (ap (map cell_view) (take_all c.loop-entry.entry-index items c.loop-entry-test.false) ∙ c.as_slice-entry-items.ensures))
    (c.loop-entry.invariant.added g Γ k f)
