use Rattle.std.proofs.Common.{◌≡◌, ◌∙◌, List, [], ◌∷◌, ◌++◌, get_or, take, refl, sym, ap, ap₂}
use Rattle.std.proofs.lemmas.List.{map-append, take_more}
use Rattle.lq_refined_instances.specs.Views.{scopes_view}
use Rattle.lq_base_names.specs.declared.name.Binder.{Binder}
use Rattle.lq_refined_templates.specs.Points.Seen.{symbols_of}
use Rattle.lq_generate_reading.specs.Visibility.Growing.{Longer-refl, Longer-trans}
use Rattle.lq_generate_reading.specs.Visibility.Notes.{annotation_view}
use Rattle.lq_generate_reading.specs.Visibility.Stack.{names_view}
use Rattle.lq_generate_reading.proofs.VisibilityLemmas.Names.{first_empty, first_there, symbols_of-append}
use Rattle.lq_generate_reading.proofs.visibility.bound.scope_of.Goals as goal

take_none : (xs : List Binder) → take 0 xs ≡ []
take_none [] = refl
take_none (x ∷ xs) = refl

pub loop-at-init : goal.loop-at-init
loop-at-init c = record {
  there = first_there c.args.scopes.now;
  is = first_empty c.args.scopes.now ∙ sym (ap (λ l. symbols_of (annotation_view c.args.notes.now) (names_view l)) (take_none c.args.names.now));
  grown = Longer-refl (scopes_view c.args.scopes.now);
}

pub loop-at-preserved : goal.loop-at-preserved
loop-at-preserved c =
    let n = annotation_view c.args.notes.now in
    let xs = c.args.names.now in
    let i = c.loop-at.at in
    let none : Binder = record { 0 = 0 } in
    let x = get_or xs i none in
    record {
      there = c.in_ok-scope.ensures.there;
      is = c.in_ok-scope.ensures.scope
          ∙ (ap₂ (λ l m. l ++ m) c.loop-at.invariant.is c.visible_of.ensures
          ∙ (sym (symbols_of-append n (names_view (take i xs)) (x.0 ∷ []))
          ∙ ap (symbols_of n) (sym (ap names_view (take_more xs i none c.loop-at-test.true) ∙ map-append (λ y. y.0) (take i xs) (x ∷ [])))));
      grown = Longer-trans (scopes_view c.args.scopes.now) (scopes_view c.loop-at.scopes) (scopes_view c.with_visible.new.scopes) c.loop-at.invariant.grown
          c.with_visible.ensures.grown;
    }
