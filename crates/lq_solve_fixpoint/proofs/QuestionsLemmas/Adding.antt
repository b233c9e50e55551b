-- What is added to the runs of unknowns, one after another.
use Rattle.std.proofs.Common.{◌≡◌, ◌⊎◌, inl, inr, ◌∙◌, ℕ, zero, suc, ◌+◌, ◌<◌, length, slice_get, slice_set, get_or, take, map, arith, List, [], ◌∷◌, ◌++◌, Some, refl, sym, ap, subst}
use Rattle.std.proofs.lemmas.Bool.{cases_eq}
use Rattle.std.proofs.lemmas.List.{map_more}
use Rattle.std.proofs.lemmas.Option.{slice_get-get_or}
use Rattle.std.proofs.Math.ListN.{length-set}
use Rattle.std.specs.Global.{Vec}
use Rattle.lq_refined_types.specs.Parts.Part.{Part, Parts}
use Rattle.lq_refined_types.specs.Parts.Refuting.{IsUnknown, Speak}
use Rattle.lq_solve_fixpoint.specs.Weakening.Among.{IsAmong}
use Rattle.lq_solve_fixpoint.specs.Weakening.Index.{IsWithinOne, row_spans, spans_at}
use Rattle.lq_solve_fixpoint.specs.declared.weakening.span.Span.{Span}
use Rattle.lq_solve_fixpoint.specs.Questions.Covering.{Adds, Holds}

pub adds_then : (P Q R : ℕ → ℕ → Type 0) (a b c : List (Vec Span)) → Adds P a b → Adds Q b c → ((u k : ℕ) → R u k → P u k ⊎ Q u k) → Adds R a c
adds_then P Q R a b c p q split = record { len = q.len ∙ p.len; kept = λ u k h. q.kept u k (p.kept u k h); added = λ u k h r. by u k h (split u k r) }
  where
    by : (u k : ℕ) → u < length a → P u k ⊎ Q u k → IsWithinOne (spans_at c u) k
    by u k h (inl x) = q.kept u k (p.added u k h x)
    by u k h (inr y) = q.added u k (subst (λ n. u < n) (sym p.len) h) y

-- ---- one run

among_before : (xs : List Span) (y x : Span) → IsAmong xs x → IsAmong (xs ++ y ∷ []) x
among_before [] y x h = absurd h
among_before (z ∷ xs) y x (inl e) = inl e
among_before (z ∷ xs) y x (inr h) = inr (among_before xs y x h)

among_last : (xs : List Span) (x : Span) → IsAmong (xs ++ x ∷ []) x
among_last [] x = inl refl
among_last (y ∷ xs) x = inr (among_last xs x)

get_other : (xs : List (Vec Span)) (w u : ℕ) (y : Vec Span) → (u ≡ w → ⊥) → slice_get (slice_set xs w y) u ≡ slice_get xs u
get_other [] w u y n = refl
get_other (x ∷ xs) zero zero y n = absurd (n refl)
get_other (x ∷ xs) zero (suc u) y n = refl
get_other (x ∷ xs) (suc w) zero y n = refl
get_other (x ∷ xs) (suc w) (suc u) y n = get_other xs w u y (λ e. n (ap suc e))

get_same : (xs : List (Vec Span)) (w : ℕ) (y : Vec Span) → w < length xs → slice_get (slice_set xs w y) w ≡ Some y
get_same [] w y h = absurd (omega arith)
get_same (x ∷ xs) zero y h = refl
get_same (x ∷ xs) (suc w) y h = get_same xs w y (omega (arith, h))

pub span_added : (before : List (Vec Span)) (w : ℕ) (d after : Vec Span) (s : Span) → w < length before → after.items ≡ (get_or before w d).items ++ s ∷ []
    → Adds (λ u k. (u ≡ w) × Holds s k) before (slice_set before w after)
span_added before w d after s h a = record { len = length-set before w after; kept = λ u k m. keep u k m (cases_eq u w); added = λ u k b p. add u k p.0 p.1 }
  where
    new : spans_at (slice_set before w after) w ≡ (get_or before w d).items ++ s ∷ []
    new = ap row_spans (get_same before w after h) ∙ a

    old : spans_at before w ≡ (get_or before w d).items
    old = ap row_spans (slice_get-get_or before w d h)

    keep : (u k : ℕ) → IsWithinOne (spans_at before u) k → (u ≡ w) ⊎ (u ≡ w → ⊥) → IsWithinOne (spans_at (slice_set before w after) u) k
    keep u k m (inl i) =
        let there : IsAmong (get_or before w d).items m.span = subst (λ l. IsAmong l m.span) (ap (spans_at before) i ∙ old) m.among in
        subst (λ l. IsWithinOne l k) (sym (ap (spans_at (slice_set before w after)) i ∙ new)) (record { span = m.span; among = among_before (get_or before w d).items s m.span there; from = m.from; before = m.before })
    keep u k m (inr n) = subst (λ o. IsWithinOne (row_spans o) k) (sym (get_other before w u after n)) m

    add : (u k : ℕ) → u ≡ w → Holds s k → IsWithinOne (spans_at (slice_set before w after) u) k
    add u k i p = subst (λ l. IsWithinOne l k) (sym (ap (spans_at (slice_set before w after)) i ∙ new)) (record { span = s; among = among_last (get_or before w d).items s; from = p.0; before = p.1 })

-- ---- parts

pub speak_split : (qs rs : Parts) (u : ℕ) → Speak u (qs ++ rs) → Speak u qs ⊎ Speak u rs
speak_split [] rs u h = inr h
speak_split (q ∷ qs) rs u (inl h) = inl (inl h)
speak_split (q ∷ qs) rs u (inr h) = by (speak_split qs rs u h)
  where
    by : Speak u qs ⊎ Speak u rs → (IsUnknown u q ⊎ Speak u qs) ⊎ Speak u rs
    by (inl m) = inl (inr m)
    by (inr m) = inr m

pub speak_last : (qs : Parts) (q : Part) (u : ℕ) → Speak u (qs ++ q ∷ []) → Speak u qs ⊎ IsUnknown u q
speak_last qs q u h = by (speak_split qs (q ∷ []) u h)
  where
    by : Speak u qs ⊎ (IsUnknown u q ⊎ ⊥) → Speak u qs ⊎ IsUnknown u q
    by (inl m) = inl m
    by (inr (inl m)) = inr m
    by (inr (inr m)) = absurd m

-- one part more
pub part_added : {X : Type 0} (f : X → Part) (xs : List X) (at : ℕ) (x : X) (s : Span) (a b c : List (Vec Span)) → at < length xs → x ≡ get_or xs at x
    → Adds (λ u k. Speak u (map f (take at xs)) × Holds s k) a b → Adds (λ u k. IsUnknown u (f x) × Holds s k) b c
    → Adds (λ u k. Speak u (map f (take (at + 1) xs)) × Holds s k) a c
part_added f xs at x s a b c h e p q =
    adds_then (λ u k. Speak u (map f (take at xs)) × Holds s k) (λ u k. IsUnknown u (f x) × Holds s k) (λ u k. Speak u (map f (take (at + 1) xs)) × Holds s k) a b c p q split
  where
    next : map f (take (at + 1) xs) ≡ map f (take at xs) ++ f x ∷ []
    next = map_more f xs at x h ∙ ap (λ y. map f (take at xs) ++ f y ∷ []) (sym e)

    by : (u k : ℕ) → Holds s k → Speak u (map f (take at xs)) ⊎ IsUnknown u (f x) → (Speak u (map f (take at xs)) × Holds s k) ⊎ (IsUnknown u (f x) × Holds s k)
    by u k t (inl m) = inl (m, t)
    by u k t (inr m) = inr (m, t)

    split : (u k : ℕ) → Speak u (map f (take (at + 1) xs)) × Holds s k → (Speak u (map f (take at xs)) × Holds s k) ⊎ (IsUnknown u (f x) × Holds s k)
    split u k m = by u k m.1 (speak_last (map f (take at xs)) (f x) u (subst (Speak u) next m.0))
