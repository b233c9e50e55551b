use Rattle.std.proofs.Common.{List, ℕ, length, ap, sym, subst}
use Rattle.lq_generate_fresh.specs.Fresh.Growing.{scope_kept}
use Rattle.lq_generate_fresh.specs.Fresh.Views.{scope_at, scopes_of, unknowns_of}
use Rattle.lq_generate_fresh.specs.Fresh.Walking.{arguments_wanted}
use Rattle.lq_generate_fresh.proofs.FreshLemmas.Rows.{arguments_next, arguments_rest, parts_end, rows_all, rows_begin, RowsDone}
use Rattle.lq_refined_templates.specs.Templates.Fresh as templates
use Rattle.lq_types_table.specs.Heads.{each}
use Rattle.lq_types_table.specs.Nodes as types
use Rattle.lq_types_table.specs.Whole.{types_of}
use Rattle.lq_generate_fresh.proofs.fresh.patterns.all_shared.Goals as goal

pub loop-at-init : goal.loop-at-init
loop-at-init c =
    let D = c.args.given.now.datatypes.now in
    let old = c.args.templates.now in
    let F = types.at (types_of c.args.given.now.types.now) in
    let ps = c.args.parts.now in
    let Γ = scope_at old c.args.scope in
    record {
      done = subst (λ (rs : List ℕ). RowsDone D old old rs (arguments_wanted (length (unknowns_of old)) Γ (each F ps)) (arguments_rest D F ps Γ 0))
          (sym c.new-made.ensures.items) (rows_begin D old (arguments_rest D F ps Γ 0));
      patterns = c.requires.patterns;
    }

pub loop-at-preserved : goal.loop-at-preserved
loop-at-preserved c =
    let old = c.args.templates.now in
    let mid = c.loop-at.templates in
    let F = types.at (types_of c.args.given.now.types.now) in
    let ps = c.args.parts.now in
    let Γ = scope_at old c.args.scope in
    record {
      done = arguments_next c.args.given.now.datatypes.now F ps Γ old mid c.shared.new.templates c.loop-at.made.items c.push.new.self.items
          c.in_ok-row.row (scope_at mid c.args.scope) (arguments_wanted (length (unknowns_of old)) Γ (each F ps)) c.loop-at.at
          c.loop-at.invariant.done c.loop-at-test.true c.in_ok-row.ensures.template
          (scope_kept (scopes_of old) (scopes_of mid) c.args.scope c.loop-at.invariant.done.grown.scopes c.requires.scope) c.in_ok-push.ensures.items;
      patterns = c.in_ok-row.ensures.patterns;
    }

pub returns-clause-templates : goal.returns-clause-templates
returns-clause-templates c =
    let D = c.args.given.now.datatypes.now in
    let old = c.args.templates.now in
    let mid = c.loop-at.templates in
    let F = types.at (types_of c.args.given.now.types.now) in
    let ps = c.args.parts.now in
    let Γ = scope_at old c.args.scope in
    let i = c.loop-at.at in
    rows_all D old mid c.loop-at.made.items (arguments_wanted (length (unknowns_of old)) Γ (each F ps)) (arguments_rest D F ps Γ i)
    c.loop-at.invariant.done (λ g ordered. ap (templates.arguments g ordered (length (unknowns_of mid)) Γ) (parts_end F ps i c.loop-at-test.false))
