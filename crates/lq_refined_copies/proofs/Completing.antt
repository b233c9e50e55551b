-- Scopes that are completed, one symbol after another.
use Rattle.std.proofs.Common.{◌≡◌, ◌∙◌, ℕ, suc, ◌+◌, ◌<◌, ◌≤◌, List, [], ◌∷◌, ◌++◌, true, false, ◌&&◌, All, ◌⊎◌, inl, inr, length, map, slice_index_or, refl, sym, ap, ap₂, subst, append_assoc, arith}
use Rattle.std.proofs.lemmas.List.{append-nil, get_or_append_left, get_or_past, get_or_push, length-append, map-append}
use Rattle.std.proofs.lemmas.List.Elements.{All-append, All-cons, All-map, All-nil}
use Rattle.lq_refined_instances.specs.Scopes.{scope_in, without, Scope, Visible}
use Rattle.lq_refined_instances.specs.Seen.{added_view}
use Rattle.lq_refined_instances.specs.Views.{scopes_view, unknown_view}
use Rattle.lq_refined_instances.specs.declared.unknowns.Unknown.{Unknown}
use Rattle.lq_text_qualifiers.specs.Sorting.Views.{shape_view}
use Rattle.lq_text_qualifiers.specs.Faults.Shapes as plain
use Rattle.lq_refined_instances.specs.declared.scopes.Scopes.{Scopes}
use Rattle.lq_refined_instances.proofs.Hiding.{without-none}
use Rattle.lq_refined_instances.proofs.Tables.{grown-keeps, in-past, length-grown}
use Rattle.lq_logic_predicates.specs.declared.symbol.Symbol.TheVariants.{Value, Bound, Position}
use Rattle.std.specs.Prelude.{None}
use Rattle.lq_refined_copies.specs.Completed.{all_completed, completed}
use Rattle.lq_refined_copies.specs.Flattening.{is_nothing, is_value, numbered, AreCompleted}
use Rattle.lq_refined_copies.specs.Longer.{Longer}
use Rattle.lq_refined_copies.proofs.Longer.{longer_there, scope_kept, there_kept, views_kept}

pub completed_more : (Γ Δ : Scope) (v : Visible) → (is_nothing Δ && is_value v.0) ≡ false → completed Γ (Δ ++ v ∷ []) ≡ completed Γ Δ ++ v ∷ []
completed_more Γ [] (Value, s) h = absurd (cc)
completed_more Γ [] (Bound x, s) h = refl
completed_more Γ [] (Position k, s) h = refl
completed_more Γ ((Value, t) ∷ Δ) v h = sym (append_assoc Γ Δ (v ∷ []))
completed_more Γ ((Bound x, t) ∷ Δ) v h = refl
completed_more Γ ((Position k, t) ∷ Δ) v h = refl

pub something : (Γ : Scope) (v : Visible) → is_nothing (Γ ++ v ∷ []) ≡ false
something [] v = refl
something (w ∷ Γ) v = refl

-- the first scope of a table is empty
pub first_empty : (t : Scopes) → scope_in (scopes_view t) 0 ≡ []
first_empty t = grown-keeps ([] ∷ []) (map added_view t.additions.items) 0 (omega arith)

pub first_there : (t : Scopes) → 0 < length (scopes_view t)
first_there t = let k = length-grown ([] ∷ []) (map added_view t.additions.items) in omega arith

pub shown_all : (Γ Δ : Scope) (v : Visible) → Γ ≡ without None Δ ++ v ∷ [] → Γ ≡ Δ ++ v ∷ []
shown_all Γ Δ v h = h ∙ ap (λ (Θ : Scope). Θ ++ v ∷ []) (without-none Δ)

-- ---- all scopes of a table

either : (i n : ℕ) → (i < n) ⊎ (n ≤ i)
either i n = grind arith

split : (i n : ℕ) → i < n + 1 → (i < n) ⊎ (i ≡ n)
split i n h = grind arith

module _ (Γ : Scope) (table : List Scope) where
  pub completed_kept : (a b : List Scope) (ns : List ℕ) → Longer a b → AreCompleted Γ table a ns → AreCompleted Γ table b ns
  completed_kept a b ns l h = record {
    there = λ i k. longer_there a b (suc (slice_index_or ns i 0)) l (h.there i k);
    same = λ i k. scope_kept a b (slice_index_or ns i 0) l (h.there i k) ∙ h.same i k;
  }

  pub completed_push : (all : List Scope) (ns longer : List ℕ) (n : ℕ) → AreCompleted Γ table all ns → n < length all
      → scope_in all n ≡ completed Γ (scope_in table (length ns)) → longer ≡ ns ++ n ∷ [] → AreCompleted Γ table all longer
  completed_push all ns longer n h low is e =
      subst (AreCompleted Γ table all) (sym e) record {
        there = λ i k. elim (place i k) [
          | inl l ↦ subst (λ j. j < length all) (sym (get_or_append_left ns (n ∷ []) 0 i l)) (h.there i l)
          | inr l ↦ subst (λ j. j < length all) (sym (get_or_push ns n 0 i (sym l))) low
        ];
        same = λ i k. elim (place i k) [
          | inl l ↦ ap (scope_in all) (get_or_append_left ns (n ∷ []) 0 i l) ∙ h.same i l
          | inr l ↦ ap (scope_in all) (get_or_push ns n 0 i (sym l)) ∙ (is ∙ ap (λ j. completed Γ (scope_in table j)) (sym l))
        ];
      }
    where
      place : (i : ℕ) → i < length (ns ++ n ∷ []) → (i < length ns) ⊎ (i ≡ length ns)
      place i k = let l = length-append ns (n ∷ []) in split i (length ns) (omega arith)

  -- each scope of the table by its number, those that aren't there too
  made_at : (all : List Scope) (ns : List ℕ) (i : ℕ) → AreCompleted Γ table all ns → length ns ≡ length table → scope_in all 0 ≡ []
      → scope_in all (slice_index_or ns i 0) ≡ completed Γ (scope_in table i)
  made_at all ns i h count empty = elim (either i (length ns)) [
    | inl l ↦ h.same i l
    | inr l ↦ ap (scope_in all) (get_or_past ns i 0 l) ∙ (empty ∙ ap (completed Γ) (sym (in-past table i (omega arith))))
  ]

  there_at : (all : List Scope) (ns : List ℕ) (i : ℕ) → AreCompleted Γ table all ns → 0 < length all → slice_index_or ns i 0 < length all
  there_at all ns i h low = elim (either i (length ns)) [
    | inl l ↦ h.there i l
    | inr l ↦ subst (λ j. j < length all) (sym (get_or_past ns i 0 l)) low
  ]

  module _ (old all : List Scope) (ns : List ℕ) (l : Longer old all) (h : AreCompleted Γ table all ns) where
    copies_there : (us : List Unknown) → 0 < length all → All (λ u. u.scope < length all) (map (numbered ns) us)
    copies_there us low = All-map (λ (u : Unknown). u.scope < length all) (numbered ns) us (each us)
      where
        each : (us : List Unknown) → All (λ u. slice_index_or ns u.scope 0 < length all) us
        each [] = All-nil (λ u. slice_index_or ns u.scope 0 < length all)
        each (u ∷ us) = All-cons (λ u. slice_index_or ns u.scope 0 < length all) u us (there_at all ns u.scope h low) (each us)

    pub all_there : (us ps new : List Unknown) → 0 < length all → All (λ u. u.scope < length old) us → new ≡ us ++ map (numbered ns) ps → All (λ u. u.scope < length all) new
    all_there us ps new low there is =
        subst (All (λ u. u.scope < length all)) (sym is)
        (All-append (λ u. u.scope < length all) us (map (numbered ns) ps) (there_kept old all us l there) (copies_there ps low))

    copies_are : (ps : List Unknown) → length ns ≡ length table → scope_in all 0 ≡ []
        → map (unknown_view all) (map (numbered ns) ps) ≡ all_completed Γ (map (unknown_view table) ps)
    copies_are [] count empty = refl
    copies_are (u ∷ ps) count empty =
        ap₂ (λ (Θ : Scope) (us : List (Scope × plain.Shape)). (Θ, shape_view u.shape) ∷ us) (made_at all ns u.scope h count empty) (copies_are ps count empty)

    pub all_are : (us ps new : List Unknown) → length ns ≡ length table → scope_in all 0 ≡ [] → All (λ u. u.scope < length old) us → new ≡ us ++ map (numbered ns) ps
        → map (unknown_view all) new ≡ map (unknown_view old) us ++ all_completed Γ (map (unknown_view table) ps)
    all_are us ps new count empty there is =
        ap (map (unknown_view all)) is ∙ map-append (unknown_view all) us (map (numbered ns) ps)
        ∙ ap₂ (λ xs ys. xs ++ ys) (views_kept old all us l there) (copies_are ps count empty)
