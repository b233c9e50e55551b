-- Environments that are left, from the last to the first.
use Rattle.std.proofs.Common.{◌≡◌, ◌⊎◌, inl, inr, ◌∙◌, ℕ, ◌+◌, ◌<◌, ◌≤◌, length, arith, List, [], ◌∷◌, ◌++◌, Result, Ok, Err, sym, subst}
use Rattle.std.proofs.lemmas.Bool.{cases_eq}
use Rattle.std.specs.Global.{Vec}
use Rattle.std.specs.Result.{OnOk}
use Rattle.lq_refined_substitution.specs.Implications.Views.{environment_in}
use Rattle.lq_refined_types.specs.Parts.Part.{Part, Parts}
use Rattle.lq_refined_types.specs.Parts.Refuting.{IsUnknown, Speak}
use Rattle.lq_solve_fixpoint.specs.Weakening.Index.{IsWithinOne, spans_at}
use Rattle.lq_solve_fixpoint.specs.declared.weakening.span.Span.{Span}
use Rattle.lq_solve_fixpoint.specs.Questions.Covering.{Adds, Holds, IsInherited, IsLeft, range_at}
use Rattle.lq_solve_fixpoint.proofs.QuestionsLemmas.Adding.{speak_last}

-- what follows where a call went well
pub on_ok : {X E : Type 0} (r : Result X E) (P Q : Type 0) → (P → Q) → OnOk r P → OnOk r Q
on_ok (Ok x) P Q f h = f h
on_ok (Err e) P Q f h = h

-- an environment with the hypotheses of an earlier one and one more
pub left_one : (es : List Parts) (e p : ℕ) (q : Part) (before after : List Span) (s t : List (Vec Span)) → p < e → e < length before → environment_in es e ≡ environment_in es p ++ q ∷ []
    → ((i k : ℕ) → Holds (range_at before i) k → Holds (range_at after i) k) → ((k : ℕ) → p < length before → Holds (range_at before e) k → Holds (range_at after p) k)
    → Adds (λ u k. IsUnknown u q × Holds (range_at before e) k) s t → IsLeft es e before after s t
left_one es e p q before after s t earlier there is keeps widens adds = record { len = adds.len; kept = adds.kept; widened = keeps; left = left }
  where
    by : (u k : ℕ) → u < length s → Holds (range_at before e) k → Speak u (environment_in es p) ⊎ IsUnknown u q → IsWithinOne (spans_at t u) k ⊎ IsInherited es e after u k
    by u k b h (inl m) = let l : p < length before = omega arith in inr (record { env = p; below = earlier; speaks = m; holds = widens k l h })
    by u k b h (inr m) = inl (adds.added u k b (m, h))

    left : (u k : ℕ) → u < length s → Speak u (environment_in es e) → Holds (range_at before e) k → IsWithinOne (spans_at t u) k ⊎ IsInherited es e after u k
    left u k b m h = by u k b h (speak_last (environment_in es p) q u (subst (Speak u) is m))

-- all environments from the number on are left
pub record AreLeft (es : List Parts) (n : ℕ) (first : List Span) (a : List (Vec Span)) (e : ℕ) (ranges : List Span) (s : List (Vec Span)) : Type 0 where
  pub len : length s ≡ length a
  pub kept : (u k : ℕ) → IsWithinOne (spans_at a u) k → IsWithinOne (spans_at s u) k
  pub left : (u k : ℕ) → u < length a → IsInherited es n first u k → IsWithinOne (spans_at s u) k ⊎ IsInherited es e ranges u k

pub left_next : (es : List Parts) (n : ℕ) (first : List Span) (a : List (Vec Span)) (e d : ℕ) (ranges after : List Span) (s t : List (Vec Span)) → e ≤ d + 1
    → AreLeft es n first a e ranges s → IsLeft es d ranges after s t → AreLeft es n first a d after t
left_next es n first a e d ranges after s t h p q = record { len = q.len ∙ p.len; kept = λ u k m. q.kept u k (p.kept u k m); left = λ u k b m. by u k b (p.left u k b m) }
  where
    inherited : (u k : ℕ) → u < length s → (m : IsInherited es e ranges u k) → (m.env ≡ d) ⊎ (m.env ≡ d → ⊥) → IsWithinOne (spans_at t u) k ⊎ IsInherited es d after u k
    inherited u k b m (inl j) = q.left u k b (subst (λ i. Speak u (environment_in es i)) j m.speaks) (subst (λ i. Holds (range_at ranges i) k) j m.holds)
    inherited u k b m (inr n) = let l : m.env < d = omega arith in inr (record { env = m.env; below = l; speaks = m.speaks; holds = q.widened m.env k m.holds })

    by : (u k : ℕ) → u < length a → IsWithinOne (spans_at s u) k ⊎ IsInherited es e ranges u k → IsWithinOne (spans_at t u) k ⊎ IsInherited es d after u k
    by u k b (inl m) = inl (q.kept u k m)
    by u k b (inr m) = inherited u k (subst (λ i. u < i) (sym p.len) b) m (cases_eq m.env d)
