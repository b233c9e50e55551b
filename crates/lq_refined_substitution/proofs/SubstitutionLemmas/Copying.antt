-- The symbols of unknowns where scopes, patterns and copies are added.
use Rattle.std.proofs.Common.{◌≡◌, ℕ, zero, suc, ◌+◌, ◌<◌, ◌≤◌, List, [], ◌∷◌, ◌++◌, All, Bool, true, false, if◌then◌else◌, length, map, slice_index_or, Result, Ok, Err, OnOk, OnErr, refl, sym, ap, ap₂, subst, ◌∙◌, arith}
use Rattle.std.proofs.lemmas.List.{get_or_append_left, length-append, map-append}
use Rattle.std.proofs.lemmas.List.Elements.{All-append, All-cons, All-head, All-nil, All-push, All-tail, All-weaker}
use Rattle.std.specs.declared.alloc.AllocError.{AllocError}
use Rattle.lq_logic_predicates.specs.declared.symbol.Symbol.{Symbol}
use Rattle.lq_refined_substitution.specs.Substitution.Placed.{inner_view, place_list}
use Rattle.lq_refined_substitution.specs.Substitution.Places.{inner_place, scopes_of, AreInner, IsThere}
use Rattle.lq_refined_substitution.specs.Substitution.Scopes.{inner_list, list_at}
use Rattle.lq_refined_substitution.specs.declared.substitution.places.Inner.{Inner}
use Rattle.lq_refined_substitution.specs.declared.substitution.places.Place.{Place}
use Rattle.lq_refined_substitution.specs.declared.substitution.places.Place.TheVariants.{Alone, Behind}

abbrev Lists : Type 0
Lists = List (List Symbol)

-- ---- a further scope

module _ (lists : Lists) (x : List Symbol) where
  abbrev more : Lists
  more = lists ++ x ∷ []

  longer : length more ≡ length lists + 1
  longer = length-append lists (x ∷ [])

  kept : (s : ℕ) → s < length lists → list_at more s ≡ list_at lists s
  kept s h = get_or_append_left lists (x ∷ []) [] s h

  place-kept : (p : Place) → IsThere (length lists) p → place_list more p ≡ place_list lists p
  place-kept (Alone s) h = kept s (All-head (λ s. s < length lists) s [] h)
  place-kept (Behind s t) h =
      ap₂ (λ (a b : List Symbol). a ++ b) (kept s (All-head (λ s. s < length lists) s (t ∷ []) h))
      (kept t (All-head (λ s. s < length lists) t [] (All-tail (λ s. s < length lists) s (t ∷ []) h)))

  places-kept : (ps : List Place) → All (IsThere (length lists)) ps → map (place_list more) ps ≡ map (place_list lists) ps
  places-kept [] h = refl
  places-kept (p ∷ ps) h =
      ap₂ (λ (a : List Symbol) (b : Lists). a ∷ b) (place-kept p (All-head (IsThere (length lists)) p ps h))
      (places-kept ps (All-tail (IsThere (length lists)) p ps h))

  inner-kept : (is : List Inner) → AreInner (length lists) is → map (inner_view more) is ≡ map (inner_view lists) is
  inner-kept [] h = refl
  inner-kept (i ∷ is) h =
      ap₂ (λ (a : Bool × List Symbol) (b : List (Bool × List Symbol)). a ∷ b)
      (ap (λ (l : List Symbol). (i.is_behind, l)) (kept i.scope (All-head (λ (i : Inner). i.scope < length lists) i is h)))
      (inner-kept is (All-tail (λ (i : Inner). i.scope < length lists) i is h))

  patterns-kept : (ps : List (List Inner)) → All (AreInner (length lists)) ps → map (map (inner_view more)) ps ≡ map (map (inner_view lists)) ps
  patterns-kept [] h = refl
  patterns-kept (p ∷ ps) h =
      ap₂ (λ (a : List (Bool × List Symbol)) (b : List (List (Bool × List Symbol))). a ∷ b) (inner-kept p (All-head (AreInner (length lists)) p ps h))
      (patterns-kept ps (All-tail (AreInner (length lists)) p ps h))

module _ (lists : Lists) (x : List Symbol) (new : Lists) (r : Result ℕ AllocError) (added : OnOk r (new ≡ lists ++ x ∷ [])) (same : OnErr r (new ≡ lists)) where
  abbrev IsKept : Lists → Type 0
  IsKept l = (length lists ≤ length l)
      × ((ps : List Place) → All (IsThere (length lists)) ps → map (place_list l) ps ≡ map (place_list lists) ps)
      × ((ps : List (List Inner)) → All (AreInner (length lists)) ps → map (map (inner_view l)) ps ≡ map (map (inner_view lists)) ps)

  all-kept : IsKept new
  all-kept = by r added same
    where
      by : (r : Result ℕ AllocError) → OnOk r (new ≡ lists ++ x ∷ []) → OnErr r (new ≡ lists) → IsKept new
      by (Ok n) a e =
          let l = longer lists x in
          subst IsKept (sym a) (omega (arith, l), places-kept lists x, patterns-kept lists x)
      by (Err n) a e = subst IsKept (sym e) (omega arith, λ ps h. refl, λ ps h. refl)

  pub table-places : (ps : List Place) → All (IsThere (length lists)) ps → map (place_list new) ps ≡ map (place_list lists) ps
  table-places ps h = all-kept.1 ps h

  pub table-patterns : (ps : List (List Inner)) → All (AreInner (length lists)) ps → map (map (inner_view new)) ps ≡ map (map (inner_view lists)) ps
  table-patterns ps h = all-kept.2 ps h

  pub table-there : (ps : List Place) → All (IsThere (length lists)) ps → All (IsThere (length new)) ps
  table-there ps h =
      let l = all-kept.0 in
      All-weaker (IsThere (length lists)) (IsThere (length new))
      (λ p. All-weaker (λ s. s < length lists) (λ s. s < length new) (λ s k. omega (arith, k, l)) (scopes_of p)) ps h

  pub table-inner : (ps : List (List Inner)) → All (AreInner (length lists)) ps → All (AreInner (length new)) ps
  table-inner ps h =
      let l = all-kept.0 in
      All-weaker (AreInner (length lists)) (AreInner (length new))
      (λ is. All-weaker (λ (i : Inner). i.scope < length lists) (λ (i : Inner). i.scope < length new) (λ i k. omega (arith, k, l)) is) ps h

-- ---- copies of a pattern

module _ (lists : Lists) (s : ℕ) where
  copy-list : (i : Inner) → place_list lists (inner_place s i) ≡ inner_list (list_at lists s) (inner_view lists i)
  copy-list i = by i.is_behind
    where
      by : (b : Bool) → place_list lists (if b then Behind s i.scope else Alone i.scope) ≡ inner_list (list_at lists s) (b, list_at lists i.scope)
      by true = refl
      by false = refl

  copies-lists : (is : List Inner)
      → map (place_list lists) (map (inner_place s) is) ≡ map (inner_list (list_at lists s)) (map (inner_view lists) is)
  copies-lists [] = refl
  copies-lists (i ∷ is) = ap₂ (λ (a : List Symbol) (b : Lists). a ∷ b) (copy-list i) (copies-lists is)

  pub copies-there : (n : ℕ) (is : List Inner) → s < n → AreInner n is → All (IsThere n) (map (inner_place s) is)
  copies-there n [] low h = All-nil (IsThere n)
  copies-there n (i ∷ is) low h =
      All-cons (IsThere n) (inner_place s i) (map (inner_place s) is) (one i.is_behind (All-head (λ (i : Inner). i.scope < n) i is h))
      (copies-there n is low (All-tail (λ (i : Inner). i.scope < n) i is h))
    where
      alone : (t : ℕ) → t < n → IsThere n (Alone t)
      alone t k = All-cons (λ s. s < n) t [] k (All-nil (λ s. s < n))

      one : (b : Bool) → i.scope < n → IsThere n (if b then Behind s i.scope else Alone i.scope)
      one true k = All-cons (λ s. s < n) s (i.scope ∷ []) low (alone i.scope k)
      one false k = alone i.scope k

pub pattern-list : (lists : Lists) (ps : List (List Inner)) (p : ℕ)
    → slice_index_or (map (map (inner_view lists)) ps) p [] ≡ map (inner_view lists) (slice_index_or ps p [])
pattern-list lists [] p = refl
pattern-list lists (is ∷ ps) zero = refl
pattern-list lists (is ∷ ps) (suc p) = pattern-list lists ps p

-- the symbols of the unknowns with the copies behind them
lists-added : (lists : Lists) (s : ℕ) (ps : List (List Inner)) (p : ℕ) (old new : List Place) → new ≡ old ++ map (inner_place s) (slice_index_or ps p [])
    → map (place_list lists) new
    ≡ map (place_list lists) old ++ map (inner_list (list_at lists s)) (slice_index_or (map (map (inner_view lists)) ps) p [])
lists-added lists s ps p old new e =
    ap (map (place_list lists)) e
    ∙ map-append (place_list lists) old (map (inner_place s) (slice_index_or ps p []))
    ∙ ap (λ (l : Lists). map (place_list lists) old ++ l)
    (copies-lists lists s (slice_index_or ps p []) ∙ ap (map (inner_list (list_at lists s))) (sym (pattern-list lists ps p)))

-- ---- all scopes stay there

module _ {A E : Type 0} {X : Type 0} (P : X → Type 0) where
  pub all-pushed : (r : Result A E) (old new : List X) (x : X) → OnOk r (new ≡ old ++ x ∷ []) → OnErr r (new ≡ old) → All P old → P x → All P new
  all-pushed (Ok a) old new x added kept h k = subst (All P) (sym added) (All-push P old x h k)
  all-pushed (Err e) old new x added kept h k = subst (All P) (sym kept) h

  pub all-appended : (r : Result A E) (old new xs : List X) → OnOk r (new ≡ old ++ xs) → OnErr r (new ≡ old) → All P old → All P xs → All P new
  all-appended (Ok a) old new xs added kept h k = subst (All P) (sym added) (All-append P old xs h k)
  all-appended (Err e) old new xs added kept h k = subst (All P) (sym kept) h

pub alone-there : (n t : ℕ) → t < n → IsThere n (Alone t)
alone-there n t k = All-cons (λ s. s < n) t [] k (All-nil (λ s. s < n))

pub pattern-there : (n : ℕ) (ps : List (List Inner)) (p : ℕ) → All (AreInner n) ps → AreInner n (slice_index_or ps p [])
pattern-there n [] p h = All-nil (λ (i : Inner). i.scope < n)
pattern-there n (is ∷ ps) zero h = All-head (AreInner n) is ps h
pattern-there n (is ∷ ps) (suc p) h = pattern-there n ps p (All-tail (AreInner n) is ps h)

pub lists-added-ok : {A E : Type 0} (lists : Lists) (s : ℕ) (ps : List (List Inner)) (p : ℕ) (old new : List Place) (r : Result A E)
    → OnOk r (new ≡ old ++ map (inner_place s) (slice_index_or ps p []))
    → OnOk r (map (place_list lists) new
    ≡ map (place_list lists) old ++ map (inner_list (list_at lists s)) (slice_index_or (map (map (inner_view lists)) ps) p []))
lists-added-ok lists s ps p old new (Ok a) e = lists-added lists s ps p old new e
lists-added-ok lists s ps p old new (Err x) e = tt
