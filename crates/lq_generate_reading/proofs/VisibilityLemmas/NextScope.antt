-- The scope of one name more.
use Rattle.std.proofs.Common.{◌≡◌, ◌∙◌, ℕ, ◌+◌, ◌<◌, true, List, [], ◌∷◌, ◌++◌, filter, length, reverse, take, get_or, Option, Some, None, sym, ap, ap₂, subst}
use Rattle.lq_refined_instances.specs.Scopes.{Scope, is_once, scope_in, without}
use Rattle.lq_refined_instances.specs.Seen.{visible_view}
use Rattle.lq_refined_instances.specs.declared.scope.Visible.{Visible}
use Rattle.lq_refined_templates.specs.Points.Annotation.{Annotation, is_text}
use Rattle.lq_refined_templates.specs.Points.Seen.{Seen, names_at, scope_at, symbols_of}
use Rattle.lq_generate_reading.specs.Visibility.Latest.{if_any, name_shown, of_text, text_shown}
use Rattle.lq_generate_reading.specs.Visibility.Levels.{top_of, IsLevel}
use Rattle.lq_generate_reading.specs.Visibility.Scopes.{visible_if}
use Rattle.lq_generate_reading.specs.Visibility.Spans.{IsIn}
use Rattle.lq_generate_reading.specs.Visibility.Stack.{entry_view, stacked}
use Rattle.lq_generate_reading.specs.declared.visibility.bound.Entry.{Entry}
use Rattle.lq_generate_reading.specs.declared.visibility.level.Level.{Level}
use Rattle.lq_generate_reading.proofs.VisibilityLemmas.LevelSteps.{level_latest, level_scope}
use Rattle.lq_generate_reading.proofs.VisibilityLemmas.Names.{entry_more}
use Rattle.lq_generate_reading.proofs.VisibilityLemmas.OneHidden.{next_once, next_with_none, next_with_one}

module _ (n : Annotation) (all : List Scope) (es : List Entry) (ls : List Level) (f : ℕ → Option ℕ) (i : ℕ) (e : Entry) (below : Level)
    (is_below : below ≡ top_of (reverse ls)) (is_entry : e ≡ get_or es (length ls) e) (more : length ls < length es)
    (level : IsLevel n all (stacked [] (take (length ls) es)) f (top_of (reverse ls))) (holds : IsIn (top_of (reverse ls)).span i) where
  abbrev Δ : List Seen
  Δ = stacked [] (take (length ls) es)

  abbrev s : Seen
  s = entry_view e

  latest : (t : ℕ) → filter (λ y. is_text t (n.text y)) (names_at n Δ i) ≡ if_any (f t)
  latest = level_latest n all Δ f (top_of (reverse ls)) i level holds

  names : stacked [] (take (length ls + 1) es) ≡ s ∷ Δ
  names = entry_more es (length ls) e more ∙ ap (λ x. entry_view x ∷ Δ) (sym is_entry)

  is : scope_in all below.scope ≡ symbols_of n (names_at n Δ i)
  is = ap (λ l. scope_in all l.scope) is_below ∙ level_scope n all Δ f (top_of (reverse ls)) i level holds

  pub below_there : below.scope < length all
  below_there = subst (λ l. l.scope < length all) (sym is_below) level.there

  module _ (hidden visible : Option Visible) (is_hidden : visible_if hidden ≡ symbols_of n (if_any (of_text f (text_shown n i s))))
      (is_visible : visible_if visible ≡ symbols_of n (if_any (name_shown i s))) where
    pub below_with : hidden ≡ None → scope_in all below.scope ++ visible_if visible ≡ scope_at n (stacked [] (take (length ls + 1) es)) i
    below_with h =
        ap₂ (λ a b. a ++ b) is is_visible
        ∙ (sym (next_with_none n i s Δ f latest (sym is_hidden ∙ ap visible_if h)) ∙ sym (ap (λ Γ. scope_at n Γ i) names))

    module _ (v : Visible) (h : hidden ≡ Some v) where
      pub below_once : is_once (visible_view v) (scope_in all below.scope) ≡ true
      below_once = ap (is_once (visible_view v)) is ∙ next_once n i s Δ f latest (visible_view v) (sym is_hidden ∙ ap visible_if h)

      pub below_without : (w : Visible) → visible ≡ Some w
          → without (Some (visible_view v)) (scope_in all below.scope) ++ visible_view w ∷ [] ≡ scope_at n (stacked [] (take (length ls + 1) es)) i
      below_without w k =
          ap₂ (λ a b. without (Some (visible_view v)) a ++ b) is (ap visible_if (sym k) ∙ is_visible)
          ∙ (sym (next_with_one n i s Δ f latest (visible_view v) (sym is_hidden ∙ ap visible_if h)) ∙ sym (ap (λ Γ. scope_at n Γ i) names))
