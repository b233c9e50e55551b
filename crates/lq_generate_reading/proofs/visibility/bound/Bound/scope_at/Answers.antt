use Rattle.std.proofs.Common.{◌∙◌, ◌<◌, ◌≤◌, [], length, reverse, take, sym, ap, subst, arith}
use Rattle.std.proofs.lemmas.List.{take_all}
use Rattle.lq_refined_instances.specs.Scopes.{scope_in}
use Rattle.lq_refined_instances.specs.Views.{scopes_view}
use Rattle.lq_refined_templates.specs.Points.Seen.{scope_at}
use Rattle.lq_generate_reading.specs.Visibility.Latest.{latest_in}
use Rattle.lq_generate_reading.specs.Visibility.Levels.{top_of, IsLevel}
use Rattle.lq_generate_reading.specs.Visibility.Notes.{annotation_view}
use Rattle.lq_generate_reading.specs.Visibility.Stack.{stacked}
use Rattle.lq_generate_reading.proofs.VisibilityLemmas.LevelSteps.{level_scope, top_level}
use Rattle.lq_generate_reading.proofs.VisibilityLemmas.Names.{first_empty, first_there}
use Rattle.lq_generate_reading.proofs.visibility.bound.Bound.scope_at.Goals as goal

pub returns-clause-scope : goal.returns-clause-scope
returns-clause-scope c =
    let n = annotation_view c.args.notes.now in
    let all = scopes_view c.loop-alloc.scopes in
    let es = c.loop-alloc.self.entries.items in
    let ls = c.loop-alloc.self.levels.items in
    let f = latest_in c.loop-alloc.self.latest.entries in
    let Γ = stacked [] (take (length ls) es) in
    let a = c.loop-alloc.self.entries.ok in
    let b = c.loop-alloc.self.levels.ok in
    let done : length es ≤ length ls = (let d = c.loop-alloc-test.false in let i = c.len.ensures in let j = c.len-in-loop-alloc.ensures in omega arith) in
    let level : IsLevel n all Γ f (top_of (reverse ls)) =
    top_level n all (first_there c.loop-alloc.scopes) (first_empty c.loop-alloc.scopes) (reverse ls) Γ f c.loop-alloc.invariant.fits.levels in
    ap (λ l. scope_in all l.scope) c.top.ensures
    ∙ (level_scope n all Γ f (top_of (reverse ls)) c.args.node level c.loop-alloc.invariant.holds
    ∙ ap (λ k. scope_at n (stacked [] k) c.args.node)
    (take_all (length ls) es done ∙ ap (λ k. k.items) (c.loop-alloc.invariant.kept ∙ c.forget_others.ensures.kept)))

pub returns-clause-there : goal.returns-clause-there
returns-clause-there c =
    let n = annotation_view c.args.notes.now in
    let all = scopes_view c.loop-alloc.scopes in
    let ls = c.loop-alloc.self.levels.items in
    let f = latest_in c.loop-alloc.self.latest.entries in
    let Γ = stacked [] (take (length ls) c.loop-alloc.self.entries.items) in
    let level : IsLevel n all Γ f (top_of (reverse ls)) =
    top_level n all (first_there c.loop-alloc.scopes) (first_empty c.loop-alloc.scopes) (reverse ls) Γ f c.loop-alloc.invariant.fits.levels in
    subst (λ l. l.scope < length all) (sym c.top.ensures) level.there
