-- The runs of environments and of implications cover what implications speak of.
use Rattle.std.proofs.Common.{◌≡◌, ◌⊎◌, inl, inr, ◌∙◌, ℕ, zero, suc, ◌+◌, ◌<◌, ◌≤◌, length, slice_get, take, map, arith, List, [], ◌∷◌, ◌++◌, Some, refl, sym, ap, subst}
use Rattle.std.proofs.lemmas.Bool.{cases_eq}
use Rattle.std.proofs.lemmas.List.{take-append-le, take_all}
use Rattle.std.proofs.lemmas.Option.{same_Some}
use Rattle.std.specs.Global.{Vec}
use Rattle.lq_refined_substitution.specs.Implications.Views.{environment_in, implication_view}
use Rattle.lq_refined_substitution.specs.declared.implications.implication.Implication.{Implication}
use Rattle.lq_refined_types.specs.Parts.Constraint.{Constraint}
use Rattle.lq_refined_types.specs.Parts.Part.{Parts}
use Rattle.lq_refined_types.specs.Parts.Refuting.{Speak, SpeaksOf}
use Rattle.lq_refined_types.specs.Subtyping.Implication.{constraint_of}
use Rattle.lq_refined_substitution.specs.Substitution.Views.{parts_view}
use Rattle.lq_solve_fixpoint.specs.Weakening.Index.{AreCovered}
use Rattle.lq_solve_fixpoint.specs.declared.weakening.span.Span.{Span}
use Rattle.lq_solve_fixpoint.specs.Questions.Covering.{Adds, AreBelow, AreRanges, Holds, IsInherited, SpeaksItself, range_at}
use Rattle.lq_solve_fixpoint.proofs.QuestionsLemmas.Adding.{adds_then, speak_split}
use Rattle.lq_solve_fixpoint.proofs.QuestionsLemmas.Unknowns.{constraint_in, map_map}

-- ---- ranges

-- each of the first so many implications is within the run of its environment
abbrev pub AreRangesBelow : ℕ → List Implication → List Span → Type 0
AreRangesBelow n is ranges = (k : ℕ) (i : Implication) → k < n → slice_get is k ≡ Some i → i.env < length ranges → Holds (range_at ranges i.env) k

pub ranges_next : (is : List Implication) (at : ℕ) (i : Implication) (before after : List Span) → slice_get is at ≡ Some i → length after ≡ length before → AreRangesBelow at is before
    → ((e k : ℕ) → Holds (range_at before e) k → Holds (range_at after e) k)
    → ((k : ℕ) → i.env < length before → Holds (record { start = at; end = at + 1 }) k → Holds (range_at after i.env) k) → AreRangesBelow (at + 1) is after
ranges_next is at i before after e len h keeps widens k j b f l = by (cases_eq k at)
  where
    m : j.env < length before
    m = subst (λ n. j.env < n) len l

    by : (k ≡ at) ⊎ (k ≡ at → ⊥) → Holds (range_at after j.env) k
    by (inl s) =
        let same : i ≡ j = same_Some i j (sym e ∙ ap (slice_get is) (sym s) ∙ f) in
        let from : at ≤ k = omega arith in
        subst (λ x. Holds (range_at after x.env) k) same (widens k (subst (λ x. x.env < length before) (sym same) m) (from, b))
    by (inr n) = let low : k < at = omega arith in keeps j.env k (h k j low f m)

-- ---- all

record Found (X Y : Type 0) (f : X → Y) (xs : List X) (at : ℕ) (y : Y) : Type 0 where
  item : X
  here : slice_get xs at ≡ Some item
  is : f item ≡ y

found : {X Y : Type 0} (f : X → Y) (xs : List X) (at : ℕ) (y : Y) → slice_get (map f xs) at ≡ Some y → Found X Y f xs at y
found f [] at y e = absurd (cc)
found f (x ∷ xs) zero y e = record { item = x; here = refl; is = same_Some (f x) y e }
found f (x ∷ xs) (suc at) y e = let r = found f xs at y e in record { item = r.item; here = r.here; is = r.is }

speaks_within : (es : List Parts) (e u : ℕ) → Speak u (environment_in es e) → e < length es
speaks_within [] e u h = absurd h
speaks_within (x ∷ es) zero u h = omega arith
speaks_within (x ∷ es) (suc e) u h = let l : e < length es = speaks_within es e u h in omega (arith, l)

pub covered : (es : List Parts) (is : List Implication) (ranges : List Span) (a b c : List (Vec Span)) (n : ℕ) → length a ≡ n → length ranges ≡ length es → AreRanges is ranges
    → AreBelow n (map constraint_of (map (implication_view es) is)) → Adds (IsInherited es (length es) ranges) a b → Adds (SpeaksItself is) b c
    → AreCovered (map constraint_of (map (implication_view es) is)) c
covered es is ranges a b c n la lr within below p q u at k here speaks = all.added u at (subst (λ m. u < m) (sym la) (below u at k here speaks)) (source (subst (SpeaksOf u) (sym it.is) speaks))
  where
    all : Adds (λ v j. IsInherited es (length es) ranges v j ⊎ SpeaksItself is v j) a c
    all = adds_then (IsInherited es (length es) ranges) (SpeaksItself is) (λ v j. IsInherited es (length es) ranges v j ⊎ SpeaksItself is v j) a b c p q (λ v j h. h)

    it : Found Implication Constraint (constraint_in es) is at k
    it = found (constraint_in es) is at k (subst (λ l. slice_get l at ≡ Some k) (map_map es is) here)

    among : Speak u (environment_in es it.item.env) ⊎ Speak u (parts_view it.item.left) → IsInherited es (length es) ranges u at ⊎ SpeaksItself is u at
    among (inl h) =
        let l : it.item.env < length es = speaks_within es it.item.env u h in
        inl (record { env = it.item.env; below = l; speaks = h; holds = within at it.item it.here (subst (λ m. it.item.env < m) (sym lr) l) })
    among (inr h) = inr (record { implication = it.item; here = it.here; speaks = inl h })

    source : SpeaksOf u (constraint_in es it.item) → IsInherited es (length es) ranges u at ⊎ SpeaksItself is u at
    source (inl h) = among (speak_split (environment_in es it.item.env) (parts_view it.item.left) u h)
    source (inr h) = inr (record { implication = it.item; here = it.here; speaks = inr h })

-- ---- what a list is after it was written as a whole

pub written : {X : Type 0} (xs ys : List X) (n : ℕ) → length xs ≡ n → take n (xs ++ ys) ≡ xs
written xs ys n e = let l : n ≤ length xs = omega arith in let m : length xs ≤ n = omega arith in take-append-le n xs ys l ∙ take_all n xs m
