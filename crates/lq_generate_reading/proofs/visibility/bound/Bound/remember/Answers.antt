use Rattle.std.proofs.Common.{◌≡◌, ◌∙◌, [], ◌∷◌, Some, length, reverse, take, get_or, refl, sym, ap, subst, arith}
use Rattle.lq_refined_instances.specs.Scopes.{scope_in}
use Rattle.lq_refined_instances.specs.Views.{scopes_view}
use Rattle.lq_refined_templates.specs.Points.Seen.{scope_at}
use Rattle.lq_generate_reading.specs.Visibility.Latest.{changed, latest_in, text_shown}
use Rattle.lq_generate_reading.specs.Visibility.Levels.{top_of, IsLevel}
use Rattle.lq_generate_reading.specs.Visibility.Notes.{annotation_view}
use Rattle.lq_generate_reading.specs.Visibility.Spans.{IsIn}
use Rattle.lq_generate_reading.specs.Visibility.Stack.{entry_view, stacked}
use Rattle.lq_generate_reading.specs.declared.visibility.level.Level.{Level}
use Rattle.lq_generate_reading.proofs.VisibilityLemmas.FitsSteps.{fits_more, fits_same}
use Rattle.lq_generate_reading.proofs.VisibilityLemmas.LevelSteps.{next_level, top_level}
use Rattle.lq_generate_reading.proofs.VisibilityLemmas.Names.{entry_more, first_empty, first_there}
use Rattle.lq_generate_reading.proofs.visibility.bound.Bound.remember.Goals as goal

pub returns-in_err-scope-clause-fits : goal.returns-in_err-scope-clause-fits
returns-in_err-scope-clause-fits c =
    fits_same c.args.notes.now (scopes_view c.args.scopes.now) (scopes_view c.next_scope.new.scopes) c.next_scope.ensures.grown c.args.self.now c.args.self.now refl
    c.requires.fits refl refl

pub returns-in_err-add-clause-fits : goal.returns-in_err-add-clause-fits
returns-in_err-add-clause-fits c =
    fits_same c.args.notes.now (scopes_view c.args.scopes.now) (scopes_view c.next_scope.new.scopes) c.next_scope.ensures.grown c.args.self.now c.add.new.self
    (ap (λ e. e.items) c.add.ensures.kept) c.requires.fits c.in_err-add.ensures.levels_kept c.in_err-add.ensures.latest_kept

pub returns-clause-fits : goal.returns-clause-fits
returns-clause-fits c =
    let n = annotation_view c.args.notes.now in
    let all = scopes_view c.args.scopes.now in
    let new = scopes_view c.next_scope.new.scopes in
    let es = c.args.self.now.entries.items in
    let ls = c.args.self.now.levels.items in
    let f = latest_in c.args.self.now.latest.entries in
    let e = c.index-entry.result.now in
    let s = entry_view e in
    let ok = c.args.self.now.levels.ok in
    let at : c.len.result ≡ length ls = (let a = c.len.ensures in omega (arith, a, ok.0)) in
    let below : IsLevel n all (stacked [] (take (length ls) es)) f (top_of (reverse ls)) =
    top_level n all (first_there c.args.scopes.now) (first_empty c.args.scopes.now) (reverse ls) (stacked [] (take (length ls) es)) f c.requires.fits.levels in
    let is_entry : e ≡ get_or es (length ls) e = c.index-entry.ensures ∙ ap (λ k. get_or es k e) at in
    let l : Level = record { scope = c.in_ok-scope.scope; span = c.narrowed.result; text = c.text_at-text.result; hides = c.latest_of.result } in
    let is : scope_in new c.in_ok-scope.scope ≡ scope_at n (s ∷ stacked [] (take (length ls) es)) c.args.node =
    c.in_ok-scope.ensures.scope
    ∙ ap (λ Γ. scope_at n Γ c.args.node) (entry_more es (length ls) e c.requires.more ∙ ap (λ x. entry_view x ∷ stacked [] (take (length ls) es)) (sym is_entry)) in
    let level : IsLevel n new (s ∷ stacked [] (take (length ls) es)) (changed (text_shown n c.args.node s) (Some e.name.0) f) l =
    next_level n all new c.args.node s (stacked [] (take (length ls) es)) f c.top.result l (subst (IsLevel n all (stacked [] (take (length ls) es)) f) (sym c.top.ensures) below)
    (subst (λ t. IsIn t.span c.args.node) (sym c.top.ensures) c.requires.holds) c.narrowed.ensures.within
    c.narrowed.ensures.alike c.in_ok-scope.ensures.there is in
    fits_more c.args.notes.now all new c.next_scope.ensures.grown c.args.self.now c.add.new.self (ap (λ e. e.items) c.add.ensures.kept) c.requires.fits l e
    c.requires.more is_entry c.in_ok-add.ensures.levels c.in_ok-add.ensures.latest c.latest_of.ensures
    (subst (λ o. IsLevel n new (s ∷ stacked [] (take (length ls) es)) (changed o (Some e.name.0) f) l) (sym c.text_at-text.ensures) level)
