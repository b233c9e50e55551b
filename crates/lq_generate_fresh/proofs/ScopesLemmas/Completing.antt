-- Scopes of patterns, made as lists of symbols.
use Rattle.std.proofs.Common.{◌≡◌, ◌∙◌, ℕ, zero, suc, ◌+◌, ◌<◌, ◌≤◌, ◌&&◌, inl, inr, List, [], ◌∷◌, ◌++◌, Bool, true, false, if◌then◌else◌, get_or, length, map, slice_index_or, take, refl, sym, ap, ap₂, subst, arith}
use Rattle.std.proofs.lemmas.List.{get_or_append_left, get_or_past, get_or_push, length-append, map-append, map_push}
use Rattle.std.proofs.lemmas.List.Elements.{All-cons, All-nil}
use Rattle.std.proofs.Math.Seq.{take-length, take-suc}
use Rattle.lq_refined_instances.specs.Scopes.{Scope, scope_in, Visible}
use Rattle.lq_refined_instances.specs.Seen.{visible_view}
use Rattle.lq_refined_instances.specs.Views.{unknown_view}
use Rattle.lq_refined_instances.specs.declared.scope.Visible as held
use Rattle.lq_refined_instances.specs.declared.unknowns.Unknown.{Unknown}
use Rattle.lq_refined_templates.specs.Points.Templates.{scopes_of}
use Rattle.lq_logic_predicates.specs.declared.symbol.Symbol.{Symbol}
use Rattle.lq_logic_predicates.specs.declared.symbol.Symbol.TheVariants.{Value, Bound, Position}
use Rattle.lq_refined_copies.specs.Completed.{all_completed, completed}
use Rattle.lq_refined_copies.specs.Runs.{run_view}
use Rattle.lq_refined_copies.specs.declared.unknowns.Run.{Run}
use Rattle.lq_refined_copies.specs.declared.unknowns.Run.TheVariants.{Copies}
use Rattle.lq_text_qualifiers.specs.Faults.Shapes.{Shape}
use Rattle.lq_refined_substitution.specs.Substitution.Places.{AreInner}
use Rattle.lq_refined_substitution.specs.Substitution.Scopes.{inner_list}
use Rattle.lq_refined_substitution.specs.Substitution.Views.{inner_view}
use Rattle.lq_refined_substitution.specs.declared.substitution.places.Inner.{Inner}
use Rattle.lq_generate_fresh.specs.Scopes.Inside.{inner_of, inner_unknown, is_marked, is_nothing, is_value, nothing, symbols_of_unknown, unmarked, AreInside, IsInner}
use Rattle.lq_generate_fresh.specs.Scopes.Numbered.{list_at, symbols_at, symbols_of, Begins, Extends}
use Rattle.lq_generate_fresh.proofs.ScopesLemmas.Numbering.{behind, either, extends_kept, extends_there, split, symbols_push}

abbrev Lists : Type 0
Lists = List (List Symbol)

-- ---- one scope more

pub inner_kept : (Δ : Scope) (a b : Lists) (i : Inner) → Extends a b → IsInner Δ a i → IsInner Δ b i
inner_kept Δ a b i e h = record {
  there = extends_there a b i.scope e h.there;
  marked = h.marked;
  same = extends_kept a b i.scope e h.there ∙ h.same;
}

pub inner_nothing : (lists : Lists) → Begins lists → IsInner [] lists nothing
inner_nothing lists b = record { there = b.there; marked = refl; same = b.empty }

-- ---- all scopes of a table

module _ (all : List Scope) where
  pub inside_kept : (a b : Lists) (is : List Inner) → Extends a b → AreInside all a is → AreInside all b is
  inside_kept a b is e h i l = inner_kept (scope_in all i) a b (slice_index_or is i nothing) e (h i l)

  pub inside_push : (lists : Lists) (is longer : List Inner) (j : Inner) → AreInside all lists is → IsInner (scope_in all (length is)) lists j
      → longer ≡ is ++ j ∷ [] → AreInside all lists longer
  inside_push lists is longer j h k e = subst (AreInside all lists) (sym e) wide
    where
      wide : AreInside all lists (is ++ j ∷ [])
      wide i l = elim (split all i (length is) (let n = length-append is (j ∷ []) in omega (arith, n, l))) [
        | inl low ↦ subst (λ (x : Inner). IsInner (scope_in all i) lists x) (sym (get_or_append_left is (j ∷ []) nothing i low)) (h i low)
        | inr same ↦ subst (λ (x : Inner). IsInner (scope_in all i) lists x) (sym (get_or_push is j nothing i (sym same)))
            (subst (λ n. IsInner (scope_in all n) lists j) (sym same) k)
      ]

  pub inside_at : (lists : Lists) (is : List Inner) (i : ℕ) → AreInside all lists is → length is ≡ length all → Begins lists
      → IsInner (scope_in all i) lists (slice_index_or is i nothing)
  inside_at lists is i h count b = elim (either all i (length is)) [
    | inl l ↦ h i l
    | inr l ↦ subst (λ (j : Inner). IsInner (scope_in all i) lists j) (sym (get_or_past is i nothing l))
        (subst (λ (Δ : Scope). IsInner Δ lists nothing) (sym (behind all all i (omega arith))) (inner_nothing lists b))
  ]

-- ---- copies

-- the symbols of a completed scope
pub completed_symbols : (Γ Δ : Scope) → symbols_of (completed Γ Δ) ≡ inner_list (symbols_of Γ) (inner_of Δ)
completed_symbols Γ [] = refl
completed_symbols Γ ((Value, s) ∷ Δ) = map-append (λ (e : Visible). e.0) Γ Δ
completed_symbols Γ ((Bound x, s) ∷ Δ) = refl
completed_symbols Γ ((Position k, s) ∷ Δ) = refl

pub copies_symbols : (Γ : Scope) (us : List (Scope × Shape))
    → map symbols_of_unknown (all_completed Γ us) ≡ map (inner_list (symbols_of Γ)) (map inner_unknown us)
copies_symbols Γ [] = refl
copies_symbols Γ (u ∷ us) = ap₂ (λ (a : List Symbol) (b : Lists). a ∷ b) (completed_symbols Γ u.0) (copies_symbols Γ us)

pattern_at : (ps : List (List (Scope × Shape))) (p : ℕ) → slice_index_or (map (map inner_unknown) ps) p [] ≡ map inner_unknown (slice_index_or ps p [])
pattern_at [] p = refl
pattern_at (us ∷ ps) zero = refl
pattern_at (us ∷ ps) (suc p) = pattern_at ps p

-- a run of copies
pub copies_run : (all : List Scope) (ps : List (List (Scope × Shape))) (Γ : List Symbol) (made : List (List (Bool × List Symbol))) (p s : ℕ) (r : Run)
    → made ≡ map (map inner_unknown) ps → Γ ≡ symbols_at all s → r ≡ Copies p s
    → map (inner_list Γ) (slice_index_or made p []) ≡ map symbols_of_unknown (run_view all ps r)
copies_run all ps Γ made p s r m g e =
    ap₂ (λ (l : List Symbol) (us : List (Bool × List Symbol)). map (inner_list l) us) g
    (ap (λ (l : List (List (Bool × List Symbol))). slice_index_or l p []) m ∙ pattern_at ps p)
    ∙ (sym (copies_symbols (scope_in all s) (slice_index_or ps p []))
    ∙ ap (λ (r : Run). map symbols_of_unknown (run_view all ps r)) (sym e))

-- ---- unknowns

pub same_default : {X : Type 0} (xs : List X) (i : ℕ) (d e : X) → i < length xs → get_or xs i d ≡ get_or xs i e
same_default [] i d e h = absurd (omega arith)
same_default (x ∷ xs) zero d e h = refl
same_default (x ∷ xs) (suc i) d e h = same_default xs i d e (omega arith)

module _ (all : List Scope) (lists : Lists) (is : List Inner) (at : (i : ℕ) → IsInner (scope_in all i) lists (slice_index_or is i nothing)) where
  abbrev place : Unknown → Inner
  place u = slice_index_or is u.scope nothing

  pub places_there : (us : List Unknown) → AreInner (length lists) (map place us)
  places_there [] = All-nil (λ (i : Inner). i.scope < length lists)
  places_there (u ∷ us) = All-cons (λ (i : Inner). i.scope < length lists) (place u) (map place us) (at u.scope).there (places_there us)

  pub places_inner : (us : List Unknown) → map (inner_view lists) (map place us) ≡ map inner_unknown (map (unknown_view all) us)
  places_inner [] = refl
  places_inner (u ∷ us) =
      ap₂ (λ (a : Bool × List Symbol) (b : List (Bool × List Symbol)). a ∷ b)
      (ap₂ (λ (a : Bool) (b : List Symbol). (a, b)) (at u.scope).marked (at u.scope).same) (places_inner us)

pub unknown_at : (us : List (Scope × Shape)) (u : ℕ) → list_at (map symbols_of_unknown us) u ≡ symbols_of (scope_in (scopes_of us) u)
unknown_at [] u = refl
unknown_at (x ∷ us) zero = refl
unknown_at (x ∷ us) (suc u) = unknown_at us u

-- ---- the symbols of a scope one by one

pub one_more : (xs : List held.Visible) (i n : ℕ) (d : held.Visible) → i < length xs → n ≡ i + 1
    → map visible_view (take n xs) ≡ map visible_view (take i xs) ++ visible_view (get_or xs i d) ∷ []
one_more xs i n d l e =
    let s : n ≡ suc i = omega (arith, e) in
    ap (λ k. map visible_view (take k xs)) s
    ∙ (ap (map visible_view) (take-suc xs i d l) ∙ map_push visible_view (take i xs) (get_or xs i d))

pub is_more : (Δ Θ : Scope) (v : Visible) → Δ ≡ Θ ++ v ∷ [] → false ≡ is_nothing Δ
is_more Δ [] v e = ap is_nothing (sym e)
is_more Δ (w ∷ Θ) v e = ap is_nothing (sym e)

-- one symbol more of those that are listed
pub listed_next : (xs : List held.Visible) (i : ℕ) (d : held.Visible) (a b : Lists) (before new : Inner) (first : Bool)
    → ((Δ : Scope) (v : Visible) → IsInner Δ a before → first ≡ is_nothing Δ → v.0 ≡ (get_or xs i d).symbol → IsInner (Δ ++ v ∷ []) b new)
    → IsInner (map visible_view (take i xs)) a before → first ≡ is_nothing (map visible_view (take i xs)) → i < length xs
    → IsInner (map visible_view (take (i + 1) xs)) b new × (false ≡ is_nothing (map visible_view (take (i + 1) xs)))
listed_next xs i d a b before new first same h f l =
    let Δ = map visible_view (take i xs) in
    let v = visible_view (get_or xs i d) in
    let more = one_more xs i (i + 1) d l refl in
    (subst (λ (Θ : Scope). IsInner Θ b new) (sym more) (same Δ v h f refl), is_more (map visible_view (take (i + 1) xs)) Δ v more)

pub listed_all : (xs ys : List held.Visible) (i : ℕ) (Δ : Scope) (lists : Lists) (j : Inner) → xs ≡ ys → length xs ≤ i → i ≤ length xs → map visible_view ys ≡ Δ
    → IsInner (map visible_view (take i xs)) lists j → IsInner Δ lists j
listed_all xs ys i Δ lists j same low high e h =
    let n : i ≡ length xs = omega (arith, low, high) in
    subst (λ (Θ : Scope). IsInner Θ lists j)
    (ap (λ k. map visible_view (take k xs)) n ∙ (ap (map visible_view) (take-length xs) ∙ (ap (map visible_view) same ∙ e))) h
