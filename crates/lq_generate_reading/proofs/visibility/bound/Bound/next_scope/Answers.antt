use Rattle.std.proofs.Common.{◌≡◌, ◌∙◌, ◌+◌, [], ◌∷◌, ◌++◌, Some, length, reverse, take, get_or, ap, arith}
use Rattle.lq_refined_instances.specs.Scopes.{scope_in, without}
use Rattle.lq_refined_instances.specs.Seen.{visible_view}
use Rattle.lq_refined_instances.specs.Views.{scopes_view}
use Rattle.lq_refined_templates.specs.Points.Seen.{scope_at, symbols_of}
use Rattle.lq_generate_reading.specs.Visibility.Latest.{if_any, latest_in, name_shown, of_text, text_shown}
use Rattle.lq_generate_reading.specs.Visibility.Levels.{top_of, IsLevel}
use Rattle.lq_generate_reading.specs.Visibility.Notes.{annotation_view}
use Rattle.lq_generate_reading.specs.Visibility.Scopes.{visible_if}
use Rattle.lq_generate_reading.specs.Visibility.Stack.{entry_view, stacked}
use Rattle.lq_generate_reading.proofs.VisibilityLemmas.FitsSteps.{same_scope}
use Rattle.lq_generate_reading.proofs.VisibilityLemmas.LevelSteps.{top_level}
use Rattle.lq_generate_reading.proofs.VisibilityLemmas.Names.{first_empty, first_there}
use Rattle.lq_generate_reading.proofs.VisibilityLemmas.NextScope.{below_once, below_there, below_with, below_without}
use Rattle.lq_generate_reading.proofs.visibility.bound.Bound.next_scope.Goals as goal

pub with_visible-requires : goal.with_visible-requires
with_visible-requires c =
    let n = annotation_view c.args.notes.now in
    let all = scopes_view c.args.scopes.now in
    let es = c.args.self.now.entries.items in
    let ls = c.args.self.now.levels.items in
    let f = latest_in c.args.self.now.latest.entries in
    let e = c.index-entry.result.now in
    let ok = c.args.self.now.levels.ok in
    let at : c.len-at.result ≡ length ls = (let a = c.len-at.ensures in omega (arith, a, ok.0)) in
    let level : IsLevel n all (stacked [] (take (length ls) es)) f (top_of (reverse ls)) =
    top_level n all (first_there c.args.scopes.now) (first_empty c.args.scopes.now) (reverse ls) (stacked [] (take (length ls) es)) f c.requires.fits.levels in
    let is_entry : e ≡ get_or es (length ls) e = c.index-entry.ensures ∙ ap (λ k. get_or es k e) at in
    below_there n all es ls f c.args.node e c.top-below.result c.top-below.ensures is_entry c.requires.more level c.requires.holds

pub with_hidden-requires-clause-parent : goal.with_hidden-requires-clause-parent
with_hidden-requires-clause-parent c =
    let n = annotation_view c.args.notes.now in
    let all = scopes_view c.args.scopes.now in
    let es = c.args.self.now.entries.items in
    let ls = c.args.self.now.levels.items in
    let f = latest_in c.args.self.now.latest.entries in
    let e = c.index-entry.result.now in
    let ok = c.args.self.now.levels.ok in
    let at : c.len-at.result ≡ length ls = (let a = c.len-at.ensures in omega (arith, a, ok.0)) in
    let level : IsLevel n all (stacked [] (take (length ls) es)) f (top_of (reverse ls)) =
    top_level n all (first_there c.args.scopes.now) (first_empty c.args.scopes.now) (reverse ls) (stacked [] (take (length ls) es)) f c.requires.fits.levels in
    let is_entry : e ≡ get_or es (length ls) e = c.index-entry.ensures ∙ ap (λ k. get_or es k e) at in
    below_there n all es ls f c.args.node e c.top-below.result c.top-below.ensures is_entry c.requires.more level c.requires.holds

pub with_hidden-requires-clause-once : goal.with_hidden-requires-clause-once
with_hidden-requires-clause-once c =
    let n = annotation_view c.args.notes.now in
    let all = scopes_view c.args.scopes.now in
    let es = c.args.self.now.entries.items in
    let ls = c.args.self.now.levels.items in
    let f = latest_in c.args.self.now.latest.entries in
    let e = c.index-entry.result.now in
    let ok = c.args.self.now.levels.ok in
    let at : c.len-at.result ≡ length ls = (let a = c.len-at.ensures in omega (arith, a, ok.0)) in
    let level : IsLevel n all (stacked [] (take (length ls) es)) f (top_of (reverse ls)) =
    top_level n all (first_there c.args.scopes.now) (first_empty c.args.scopes.now) (reverse ls) (stacked [] (take (length ls) es)) f c.requires.fits.levels in
    let is_entry : e ≡ get_or es (length ls) e = c.index-entry.ensures ∙ ap (λ k. get_or es k e) at in
    let is_hidden : visible_if c.visible_of-hidden.result ≡ symbols_of n (if_any (of_text f (text_shown n c.args.node (entry_view e)))) =
    c.visible_of-hidden.ensures ∙ ap (λ o. symbols_of n (if_any o)) (c.latest_of.ensures ∙ ap (of_text f) c.text_at.ensures) in
    let is_visible : visible_if c.visible_of-visible.result ≡ symbols_of n (if_any (name_shown c.args.node (entry_view e))) =
    c.visible_of-visible.ensures ∙ ap (λ o. symbols_of n (if_any o)) c.name_at.ensures in
    below_once n all es ls f c.args.node e c.top-below.result c.top-below.ensures is_entry c.requires.more level c.requires.holds c.visible_of-hidden.result c.visible_of-visible.result is_hidden is_visible c.in-Some.hidden c.in-Some.is

pub returns-in-None-clause-scope : goal.returns-in-None-clause-scope
returns-in-None-clause-scope c =
    let n = annotation_view c.args.notes.now in
    let all = scopes_view c.args.scopes.now in
    let es = c.args.self.now.entries.items in
    let ls = c.args.self.now.levels.items in
    let f = latest_in c.args.self.now.latest.entries in
    let e = c.index-entry.result.now in
    let ok = c.args.self.now.levels.ok in
    let at : c.len-at.result ≡ length ls = (let a = c.len-at.ensures in omega (arith, a, ok.0)) in
    let level : IsLevel n all (stacked [] (take (length ls) es)) f (top_of (reverse ls)) =
    top_level n all (first_there c.args.scopes.now) (first_empty c.args.scopes.now) (reverse ls) (stacked [] (take (length ls) es)) f c.requires.fits.levels in
    let is_entry : e ≡ get_or es (length ls) e = c.index-entry.ensures ∙ ap (λ k. get_or es k e) at in
    let is_hidden : visible_if c.visible_of-hidden.result ≡ symbols_of n (if_any (of_text f (text_shown n c.args.node (entry_view e)))) =
    c.visible_of-hidden.ensures ∙ ap (λ o. symbols_of n (if_any o)) (c.latest_of.ensures ∙ ap (of_text f) c.text_at.ensures) in
    let is_visible : visible_if c.visible_of-visible.result ≡ symbols_of n (if_any (name_shown c.args.node (entry_view e))) =
    c.visible_of-visible.ensures ∙ ap (λ o. symbols_of n (if_any o)) c.name_at.ensures in
    let is : scope_in all c.top-below.result.scope ++ visible_if c.visible_of-visible.result ≡ scope_at n (stacked [] (take (length ls + 1) es)) c.args.node =
    below_with n all es ls f c.args.node e c.top-below.result c.top-below.ensures is_entry c.requires.more level c.requires.holds c.visible_of-hidden.result c.visible_of-visible.result is_hidden is_visible c.in-None.is in
    same_scope c.with_visible.result (scopes_view c.with_visible.new.scopes) _ _ is c.with_visible.ensures.scope

pub returns-in-Some-visible-clause-scope : goal.returns-in-Some-visible-clause-scope
returns-in-Some-visible-clause-scope c =
    let n = annotation_view c.args.notes.now in
    let all = scopes_view c.args.scopes.now in
    let es = c.args.self.now.entries.items in
    let ls = c.args.self.now.levels.items in
    let f = latest_in c.args.self.now.latest.entries in
    let e = c.index-entry.result.now in
    let ok = c.args.self.now.levels.ok in
    let at : c.len-at.result ≡ length ls = (let a = c.len-at.ensures in omega (arith, a, ok.0)) in
    let level : IsLevel n all (stacked [] (take (length ls) es)) f (top_of (reverse ls)) =
    top_level n all (first_there c.args.scopes.now) (first_empty c.args.scopes.now) (reverse ls) (stacked [] (take (length ls) es)) f c.requires.fits.levels in
    let is_entry : e ≡ get_or es (length ls) e = c.index-entry.ensures ∙ ap (λ k. get_or es k e) at in
    let is_hidden : visible_if c.visible_of-hidden.result ≡ symbols_of n (if_any (of_text f (text_shown n c.args.node (entry_view e)))) =
    c.visible_of-hidden.ensures ∙ ap (λ o. symbols_of n (if_any o)) (c.latest_of.ensures ∙ ap (of_text f) c.text_at.ensures) in
    let is_visible : visible_if c.visible_of-visible.result ≡ symbols_of n (if_any (name_shown c.args.node (entry_view e))) =
    c.visible_of-visible.ensures ∙ ap (λ o. symbols_of n (if_any o)) c.name_at.ensures in
    let is : without (Some (visible_view c.in-Some.hidden)) (scope_in all c.top-below.result.scope) ++ visible_view c.in-Some-visible.visible ∷ []
    ≡ scope_at n (stacked [] (take (length ls + 1) es)) c.args.node =
    below_without n all es ls f c.args.node e c.top-below.result c.top-below.ensures is_entry c.requires.more level c.requires.holds c.visible_of-hidden.result c.visible_of-visible.result is_hidden is_visible c.in-Some.hidden c.in-Some.is c.in-Some-visible.visible c.in-Some-visible.is in
    same_scope c.with_hidden.result (scopes_view c.with_hidden.new.scopes) _ _ is c.with_hidden.ensures.scope
