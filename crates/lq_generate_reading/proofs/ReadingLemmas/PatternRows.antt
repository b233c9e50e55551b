-- The names that a row of patterns binds.
use Rattle.std.proofs.Common.{◌≡◌, ℕ, ◌+◌, ◌<◌, List, [], ◌∷◌, ◌++◌, ◌≤◌, take, length, map, slice_get, get_or, Some, None, ◌⊎◌, inl, inr, sym, ap, ◌∙◌, arith, append_assoc}
use Rattle.std.proofs.lemmas.List.{map-append, append-nil, take_more, take_all}
use Rattle.std.proofs.lemmas.Option.{slice_get_within, slice_get_cases, get_or_from_slice_get}
use Rattle.lq_base_names.specs.declared.name.Binder.{Binder}
use Rattle.lq_text_tree.specs.Pattern.{Pattern, PatternForm, Patterns, bound_in, bound_in_all}
use Rattle.lq_text_tree.specs.PatternView.{pat_view, pats_view, pats_items, patterns_of, pat_node_step, pat_step, pats_step}
use Rattle.lq_text_tree.specs.declared.pattern.Pat.{Pat}
use Rattle.lq_text_tree.specs.declared.pattern.Pats.{Pats, fold_out-Pats}

abbrev pub seen : Pat Binder → Pattern
seen = pat_view Binder (λ b. b.0)

abbrev pub row_of : Pats Binder → List (Pat Binder)
row_of = pats_items Binder

listed : (ps : Pats Binder) → pats_view Binder (λ b. b.0) ps ≡ patterns_of (map seen (row_of ps))
listed ps =
    fold_out-Pats Binder PatternForm Pattern Patterns (pat_node_step Binder (λ b. b.0)) (pat_step Binder (λ b. b.0)) (pats_step Binder (λ b. b.0)) ps

bound_more : (ps : List Pattern) (p : Pattern) → bound_in_all (patterns_of (ps ++ p ∷ [])) ≡ bound_in_all (patterns_of ps) ++ bound_in p
bound_more [] p = append-nil (bound_in p)
bound_more (q ∷ ps) p =
    ap (λ (xs : List ℕ). bound_in q ++ xs) (bound_more ps p) ∙ sym (append_assoc (bound_in q) (bound_in_all (patterns_of ps)) (bound_in p))

-- the names that these patterns bind
abbrev pub names_of : List (Pat Binder) → List ℕ
names_of xs = bound_in_all (patterns_of (map seen xs))

bound_join : (xs : List (Pat Binder)) (x : Pat Binder) → names_of (xs ++ x ∷ []) ≡ names_of xs ++ bound_in (seen x)
bound_join xs x = ap (λ (l : List Pattern). bound_in_all (patterns_of l)) (map-append seen xs (x ∷ [])) ∙ bound_more (map seen xs) (seen x)

longer_at : (xs : List (Pat Binder)) (i : ℕ) (x : Pat Binder) → slice_get xs i ≡ Some x → take (i + 1) xs ≡ take i xs ++ x ∷ []
longer_at xs i x is =
    take_more xs i x (slice_get_within xs i x is) ∙ ap (λ (y : Pat Binder). take i xs ++ y ∷ []) (get_or_from_slice_get xs i x x is)

past : (xs : List (Pat Binder)) (i : ℕ) → slice_get xs i ≡ None → length xs ≤ i
past xs i is = by_cases (slice_get_cases xs i).1
  where
    by_cases : ((x : Pat Binder) × (i < length xs) × (slice_get xs i ≡ Some x) × (get_or xs i x ≡ x)) ⊎ ((length xs ≤ i) × (slice_get xs i ≡ None))
        → length xs ≤ i
    by_cases (inl some) = absurd (let e = some.2 in cc)
    by_cases (inr none) = none.0

pub no_more : (xs : List (Pat Binder)) (i : ℕ) (base old : List ℕ) → slice_get xs i ≡ None → old ≡ base ++ names_of (take i xs)
    → old ≡ base ++ names_of (take (i + 1) xs)
no_more xs i base old none before =
    let far = past xs i none in
    before ∙ ap (λ (l : List (Pat Binder)). base ++ names_of l) (take_all i xs far ∙ sym (take_all (i + 1) xs (omega (arith, far))))

pub all_taken : (ps : Pats Binder) (i : ℕ) (base old : List ℕ) → length (row_of ps) ≤ i → old ≡ base ++ names_of (take i (row_of ps))
    → old ≡ base ++ bound_in_all (pats_view Binder (λ b. b.0) ps)
all_taken ps i base old far before =
    before ∙ ap (λ (l : List (Pat Binder)). base ++ names_of l) (take_all i (row_of ps) far)
    ∙ ap (λ (l : Patterns). base ++ bound_in_all l) (sym (listed ps))

-- one more pattern of a row
pub bound_next : (xs : List (Pat Binder)) (i : ℕ) (x : Pat Binder) (base old new : List ℕ) → slice_get xs i ≡ Some x
    → old ≡ base ++ names_of (take i xs) → new ≡ old ++ bound_in (seen x) → new ≡ base ++ names_of (take (i + 1) xs)
bound_next xs i x base old new h before is =
    is ∙ (ap (λ (l : List ℕ). l ++ bound_in (seen x)) before ∙ (append_assoc base (names_of (take i xs)) (bound_in (seen x))
    ∙ ap (λ (l : List ℕ). base ++ l) (sym (ap names_of (longer_at xs i x h) ∙ bound_join (take i xs) x))))
