-- Numbers are put into a set, in order.
use Rattle.std.proofs.Common.{◌≡◌, ◌⊎◌, inl, inr, ℕ, ◌+◌, ◌<◌, ◌≤◌, length, arith, List, [], ◌∷◌, ◌++◌, All, min, Option, Some, refl, sym, subst}
use Rattle.std.proofs.lemmas.Option.{slice_get_within}
use Rattle.std.proofs.lemmas.Map.Lookups.{exact_unsigned}
use Rattle.std.proofs.lemmas.Map.Views.{All-insert_key}
use Rattle.std.specs.BTreeSet.{insert_key}
use Rattle.std.specs.List.Sorted.{IsStrictlySortedBy}
use Rattle.std.specs.Ordering.{nat_cmp, match_ordering}
use Rattle.std.specs.declared.cmp.Ordering.{Ordering}
use Rattle.std.specs.declared.cmp.Ordering.TheVariants.{Less, Equal, Greater}
use Rattle.lq_solve_fixpoint.specs.Weakening.Among.{IsAmong}
use Rattle.lq_solve_fixpoint.specs.Weakening.Index.{IsWithinOne}
use Rattle.lq_solve_fixpoint.specs.Weakening.Waking.{IsFlowAt, IsIn, Wakes}
use Rattle.lq_solve_fixpoint.specs.declared.weakening.span.Span.{Span}
use Rattle.lq_solve_fixpoint.proofs.WeakeningLemmas.Members.{among_split, same_or_not}

kept_in : (ks : List ℕ) (x k : ℕ) → IsAmong ks k → IsAmong (insert_key nat_cmp ks x) k
kept_in [] x k h = absurd h
kept_in (y ∷ ys) x k h = by (nat_cmp x y) h (kept_in ys x k)
  where
    by : (r : Ordering) → IsAmong (y ∷ ys) k → (IsAmong ys k → IsAmong (insert_key nat_cmp ys x) k) → IsAmong (match_ordering r (x ∷ (y ∷ ys)) (y ∷ ys) (y ∷ insert_key nat_cmp ys x)) k
    by Less m go = inr m
    by Equal m go = m
    by Greater (inl e) go = inl e
    by Greater (inr m) go = inr (go m)

new_in : (ks : List ℕ) (x : ℕ) → IsAmong (insert_key nat_cmp ks x) x
new_in [] x = inl refl
new_in (y ∷ ys) x = by (nat_cmp x y) refl (new_in ys x)
  where
    by : (r : Ordering) → nat_cmp x y ≡ r → IsAmong (insert_key nat_cmp ys x) x → IsAmong (match_ordering r (x ∷ (y ∷ ys)) (y ∷ ys) (y ∷ insert_key nat_cmp ys x)) x
    by Less e m = inl refl
    by Equal e m = inl (sym (exact_unsigned x y e))
    by Greater e m = inr m

pub wakes_one : (goals : List (Option ℕ)) (at : ℕ) (ks after : List ℕ) → IsFlowAt goals at → after ≡ insert_key nat_cmp ks at
    → IsStrictlySortedBy nat_cmp after → Wakes goals (λ k. k ≡ at) ks after
wakes_one goals at ks after f e s =
    record {
      kept = λ k h. subst (λ l. IsAmong l k) (sym e) (kept_in ks at k h);
      woken = λ k i g. subst (λ j. IsAmong after j) (sym i) (subst (λ l. IsAmong l at) (sym e) (new_in ks at));
      flows = λ h. subst (All (IsFlowAt goals)) (sym e) (All-insert_key nat_cmp at (IsFlowAt goals) ks h f);
      sorted = λ _. s;
    }

pub wakes_none : (goals : List (Option ℕ)) (P : ℕ → Type 0) (ks : List ℕ) → ((k : ℕ) → P k → IsFlowAt goals k → ⊥) → Wakes goals P ks ks
wakes_none goals P ks n = record { kept = λ k h. h; woken = λ k p f. absurd (n k p f); flows = λ h. h; sorted = λ h. h }

-- first some, then others
pub wakes_then : (goals : List (Option ℕ)) (P Q R : ℕ → Type 0) (ks ls ms : List ℕ) → Wakes goals P ks ls → Wakes goals Q ls ms
    → ((k : ℕ) → R k → P k ⊎ Q k) → Wakes goals R ks ms
wakes_then goals P Q R ks ls ms a b split =
    record { kept = λ k h. b.kept k (a.kept k h); woken = λ k r f. by k f (split k r); flows = λ h. b.flows (a.flows h); sorted = λ h. b.sorted (a.sorted h) }
  where
    by : (k : ℕ) → IsFlowAt goals k → P k ⊎ Q k → IsAmong ms k
    by k f (inl p) = b.kept k (a.woken k p f)
    by k f (inr q) = b.woken k q f

-- for fewer, of which each flow is one
pub wakes_for : (goals : List (Option ℕ)) (P R : ℕ → Type 0) (ks ls : List ℕ) → Wakes goals P ks ls → ((k : ℕ) → R k → IsFlowAt goals k → P k) → Wakes goals R ks ls
wakes_for goals P R ks ls a f = record { kept = a.kept; woken = λ k r g. a.woken k (f k r g) g; flows = a.flows; sorted = a.sorted }

pub flow_in_range : (goals : List (Option ℕ)) (k : ℕ) → IsFlowAt goals k → k < length goals
flow_in_range goals k f = slice_get_within goals k (Some f.goal) f.here

pub wakes_empty : (goals : List (Option ℕ)) (at : ℕ) (ks : List ℕ) → Wakes goals (IsIn at at) ks ks
wakes_empty goals at ks = wakes_none goals (IsIn at at) ks (λ k p f. omega (arith, p.0, p.1))

pub wakes_next : (goals : List (Option ℕ)) (start at : ℕ) (ks ls ms : List ℕ) → Wakes goals (IsIn start at) ks ls → Wakes goals (λ k. k ≡ at) ls ms
    → Wakes goals (IsIn start (at + 1)) ks ms
wakes_next goals start at ks ls ms a b = wakes_then goals (IsIn start at) (λ k. k ≡ at) (IsIn start (at + 1)) ks ls ms a b split
  where
    split : (k : ℕ) → IsIn start (at + 1) k → IsIn start at k ⊎ (k ≡ at)
    split k p = by (same_or_not k at)
      where
        by : (k ≡ at) ⊎ (k ≡ at → ⊥) → IsIn start at k ⊎ (k ≡ at)
        by (inl e) = inr e
        by (inr n) = inl (p.0, below)
          where
            below : k < at
            below = omega (arith, p.1, n)

pub wakes_run : (goals : List (Option ℕ)) (start end at last : ℕ) (ks ls : List ℕ) → Wakes goals (IsIn start at) ks ls → last ≡ min end (length goals) → last ≤ at
    → Wakes goals (IsIn start end) ks ls
wakes_run goals start end at last ks ls a e h = wakes_for goals (IsIn start at) (IsIn start end) ks ls a fit
  where
    fit : (k : ℕ) → IsIn start end k → IsFlowAt goals k → IsIn start at k
    fit k p f = (p.0, below)
      where
        range : k < length goals
        range = flow_in_range goals k f

        below : k < at
        below = omega (arith, p.1, range, e, h)

-- one run more
pub wakes_span : (goals : List (Option ℕ)) (spans : List Span) (span : Span) (ks ls ms : List ℕ) → Wakes goals (IsWithinOne spans) ks ls
    → Wakes goals (IsIn span.start span.end) ls ms → Wakes goals (IsWithinOne (spans ++ span ∷ [])) ks ms
wakes_span goals spans span ks ls ms a b = wakes_then goals (IsWithinOne spans) (IsIn span.start span.end) (IsWithinOne (spans ++ span ∷ [])) ks ls ms a b split
  where
    split : (k : ℕ) → IsWithinOne (spans ++ span ∷ []) k → IsWithinOne spans k ⊎ IsIn span.start span.end k
    split k w = by (among_split spans span w.span w.among)
      where
        by : IsAmong spans w.span ⊎ (span ≡ w.span) → IsWithinOne spans k ⊎ IsIn span.start span.end k
        by (inl m) = inl record { span = w.span; among = m; from = w.from; before = w.before }
        by (inr e) = inr (subst (λ s. IsIn s.start s.end k) (sym e) (w.from, w.before))
