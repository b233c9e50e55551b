-- The keys of a table, seen as sums.
use Rattle.std.proofs.Common.{◌≡◌, ℕ, suc, ◌+◌, length, map, List, [], ◌∷◌, ◌++◌, Bool, true, false, not, ◌||◌, Some, None, cond, refl, ap, ◌∙◌, arith, nat_lt, if◌then◌else◌, Result, Ok, Err, IfOk, OnErr}
use Rattle.std.specs.List.{list_any, position, position_or_len}
use Rattle.std.proofs.lemmas.List.{map_push}
use Rattle.lq_logic_predicates.specs.Sum.{Sum, same}
use Rattle.lq_logic_predicates.specs.TermView.{sum_of}
use Rattle.lq_logic_predicates.specs.Table.{has_term, index_of, with_term, all_differ}
use Rattle.lq_logic_predicates.specs.Numbering.{all_differ-with_term}
use Rattle.lq_logic_predicates.specs.declared.term.Term.{Term}

pub list_any-keys : (s : Sum) (keys : List Term) → list_any (λ k. same s (sum_of k)) keys ≡ has_term (map sum_of keys) s
list_any-keys s [] = refl
list_any-keys s (k ∷ keys) = ap (λ b. same s (sum_of k) || b) (list_any-keys s keys)

pub position_or_len-keys : (s : Sum) (keys : List Term) → position_or_len (λ k. same s (sum_of k)) keys ≡ index_of (map sum_of keys) s
position_or_len-keys s [] = refl
position_or_len-keys s (k ∷ keys) = by (same s (sum_of k)) (position_or_len-keys s keys)
  where
    by : (b : Bool) → position_or_len (λ k. same s (sum_of k)) keys ≡ index_of (map sum_of keys) s
        → cond (not b) (1 + position_or_len (λ k. same s (sum_of k)) keys) 0 ≡ (if b then 0 else suc (index_of (map sum_of keys) s))
    by true e = refl
    by false e = omega (arith, e)

pub position-is : (p : Term → Bool) (keys : List Term) (at : ℕ) → Some at ≡ position p keys → at ≡ position_or_len p keys
position-is p keys at h = by (nat_lt (position_or_len p keys) (length keys)) h
  where
    by : (b : Bool) → Some at ≡ cond b (Some (position_or_len p keys)) None → at ≡ position_or_len p keys
    by true h = cc
    by false h = cc

-- the keys after one more was put in, as sums
pub keys_with : (keys : List Term) (k : Term) (s : Sum) (new : List Term) → sum_of k ≡ s
    → new ≡ (if list_any (λ u. same (sum_of k) (sum_of u)) keys then keys else keys ++ k ∷ []) → map sum_of new ≡ with_term (map sum_of keys) s
keys_with keys k s new e h =
    ap (map sum_of) h ∙ by (list_any (λ u. same (sum_of k) (sum_of u)) keys) ∙ ap (λ b. if b then map sum_of keys else map sum_of keys ++ s ∷ []) (list_any-keys (sum_of k) keys)
    ∙ ap (λ u. if has_term (map sum_of keys) u then map sum_of keys else map sum_of keys ++ s ∷ []) e
  where
    by : (b : Bool) → map sum_of (if b then keys else keys ++ k ∷ []) ≡ (if b then map sum_of keys else map sum_of keys ++ s ∷ [])
    by true = refl
    by false = map_push sum_of keys k ∙ ap (λ u. map sum_of keys ++ u ∷ []) e

pub distinct_with : {E : Type 0} (keys : List Term) (k : Term) (new : List Term) (r : Result (ℕ × Bool) E)
    → IfOk r (λ _. new ≡ (if list_any (λ u. same (sum_of k) (sum_of u)) keys then keys else keys ++ k ∷ [])) → OnErr r (new ≡ keys)
    → all_differ (map sum_of keys) ≡ true → all_differ (map sum_of new) ≡ true
distinct_with keys k new (Ok x) h e d = ap all_differ (keys_with keys k (sum_of k) new refl h) ∙ all_differ-with_term (map sum_of keys) (sum_of k) d
distinct_with keys k new (Err x) h e d = ap (λ l. all_differ (map sum_of l)) e ∙ d
