-- Numbers of the scopes of a table, one after another.
use Rattle.std.proofs.Common.{◌≡◌, ◌∙◌, ℕ, ◌+◌, ◌-◌, ◌^◌, ◌<◌, ◌≤◌, ◌⊎◌, inl, inr, min, List, [], ◌∷◌, ◌++◌, if◌then◌else◌, Option, None, get_or, length, map, slice_index_or, take, sym, ap, subst, arith}
use Rattle.std.proofs.lemmas.List.{get_or_append_left, get_or_past, get_or_push, length-append, length-map, length-take-le, map_more}
use Rattle.std.specs.declared.alloc.Global.{Global}
use Rattle.std.specs.declared.vec.Vec.{Vec}
use Rattle.lq_refined_instances.specs.Counting.{count_after, symbol_count}
use Rattle.lq_refined_instances.specs.Scopes.{hidden_count, scope_in, symbols_of, without, IsCounted, Scope, Visible}
use Rattle.lq_refined_instances.specs.Seen.{added_view, hidden_view, visible_view}
use Rattle.lq_refined_instances.specs.Views.{scopes_view}
use Rattle.lq_refined_instances.specs.declared.scopes.Addition.{Addition}
use Rattle.lq_refined_instances.specs.declared.scopes.Scopes.{Scopes}
use Rattle.lq_refined_instances.proofs.Counts.{symbol_count-more}
use Rattle.lq_refined_instances.proofs.Hiding.{few-symbols}
use Rattle.lq_refined_instances.proofs.Tables.{in-past}
use Rattle.lq_text_qualifiers.specs.Sorting.Views.{asked_view, shape_view}
use Rattle.lq_text_qualifiers.specs.declared.sorting.shape.Shape as held
use Rattle.lq_text_qualifiers.specs.Faults.Shapes.{int, is_same, Shape}
use Rattle.lq_refined_copies.specs.Counting.{mark_of, AreColumns, AreCounts, AreMarks, HaveMarks, IsColumn, IsStep}

either : (i n : ℕ) → (i < n) ⊎ (n ≤ i)
either i n = grind arith

split : (i n : ℕ) → i < n + 1 → (i < n) ⊎ (i ≡ n)
split i n h = grind arith

-- what holds of each item, where one is added for which it holds
pub each_push : {X : Type 0} (P : ℕ → X → Type 0) (d : X) (xs ys : List X) (x : X) (n : ℕ) → ((i : ℕ) → i < length xs → P i (slice_index_or xs i d)) → length xs ≡ n → P n x
    → ys ≡ xs ++ x ∷ [] → (i : ℕ) → i < length ys → P i (slice_index_or ys i d)
each_push {X} P d xs ys x n h long p e i k = subst (λ (l : List X). P i (slice_index_or l i d)) (sym e) (by (place (subst (λ (l : List X). i < length l) e k)))
  where
    place : i < length (xs ++ x ∷ []) → (i < length xs) ⊎ (i ≡ length xs)
    place k = let l = length-append xs (x ∷ []) in split i (length xs) (omega arith)

    by : (i < length xs) ⊎ (i ≡ length xs) → P i (slice_index_or (xs ++ x ∷ []) i d)
    by (inl l) = subst (P i) (sym (get_or_append_left xs (x ∷ []) d i l)) (h i l)
    by (inr l) = subst (P i) (sym (get_or_push xs x d i (sym l))) (subst (λ j. P j x) (sym (l ∙ long)) p)

pub each_none : {X : Type 0} (P : ℕ → X → Type 0) (d : X) (i : ℕ) → i < length {A = X} [] → P i (slice_index_or [] i d)
each_none P d i h = absurd (omega arith)

pub longer_by : {X : Type 0} (xs ys : List X) (x : X) (n : ℕ) → length xs ≡ n → ys ≡ xs ++ x ∷ [] → length ys ≡ n + 1
longer_by xs ys x n h e = ap length e ∙ length-append xs (x ∷ []) ∙ ap (λ k. k + 1) h

-- past the last scope there is nothing
pub all_counts : (s : Shape) (all : List Scope) (c : List ℕ) → AreCounts s all c → length c ≡ length all → IsColumn s all c
all_counts s all c h long i = by (either i (length c))
  where
    by : (i < length c) ⊎ (length c ≤ i) → slice_index_or c i 0 ≡ symbol_count s (scope_in all i)
    by (inl l) = h i l
    by (inr l) = get_or_past c i 0 l ∙ sym (ap (symbol_count s) (in-past all i (omega arith)))

pub all_marks : (all : List Scope) (ms : List (Option held.Shape)) → HaveMarks all ms → length ms ≡ length all → AreMarks all ms
all_marks all ms h long i = by (either i (length ms))
  where
    by : (i < length ms) ⊎ (length ms ≤ i) → asked_view (slice_index_or ms i None) ≡ mark_of (scope_in all i)
    by (inl l) = h i l
    by (inr l) = ap asked_view (get_or_past ms i None l) ∙ sym (ap mark_of (in-past all i (omega arith)))

-- a scope has fewer symbols of a shape than 64 bits count
pub few : (t : Scopes) (i : ℕ) (s : Shape) → length t.additions.items ≤ 2 ^ 64 - 1 → length (symbols_of (scope_in (scopes_view t) i) s) ≤ 2 ^ 64 - 1
few t i s h =
    let l = length-map t.additions.items added_view in
    let f = few-symbols (map added_view t.additions.items) i s in omega arith

-- the count of a scope after what it hides and what it adds
pub after-is : (Γ : Scope) (h : Option Visible) (v : Visible) (s : Shape) → IsCounted h Γ → length (symbols_of Γ s) ≤ 2 ^ 64 - 1
    → count_after s (symbol_count s Γ) h v ≡ symbol_count s (without h Γ ++ v ∷ [])
after-is Γ h v s counted few =
    let c = counted s in
    let n : symbol_count s Γ ≡ length (symbols_of Γ s) = omega arith in
    let m : symbol_count s Γ - hidden_count s h ≡ symbol_count s (without h Γ) = omega arith in
    ap (λ (k : ℕ). min (k + (if is_same s v.1 then 1 else 0)) (2 ^ 64 - 1)) m ∙ symbol_count-more (without h Γ) v s

pub step_counts : (t : Scopes) (at before r : ℕ) (a : Addition) (s : Shape) (counts : List ℕ) → IsStep (scopes_view t) at a → AreCounts s (scopes_view t) counts → length counts ≡ at
    → length t.additions.items ≤ 2 ^ 64 - 1 → before ≡ slice_index_or counts a.parent 0 → r ≡ count_after s before (hidden_view a.hidden) (visible_view a.visible)
    → r ≡ symbol_count s (scope_in (scopes_view t) at)
step_counts t at before r a s counts step have long small was is =
    let Γ = scope_in (scopes_view t) a.parent in
    let e = step.earlier in
    is ∙ ap (λ (n : ℕ). count_after s n (hidden_view a.hidden) (visible_view a.visible)) (was ∙ have a.parent (omega arith))
    ∙ after-is Γ (hidden_view a.hidden) (visible_view a.visible) s step.counted (few t a.parent s small)
    ∙ sym (ap (symbol_count s) step.shown)
