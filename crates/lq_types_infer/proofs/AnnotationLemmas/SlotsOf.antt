-- The slots of the binders of a row of patterns.
use Rattle.std.proofs.Common.{◌≡◌, ℕ, ◌+◌, ◌<◌, List, [], ◌∷◌, ◌++◌, ◌≤◌, take, length, map, slice_get, get_or, Some, None, ◌⊎◌, inl, inr, sym, ap, ◌∙◌, arith, append_assoc}
use Rattle.std.proofs.lemmas.List.{map-append, append-nil, take_more, take_all}
use Rattle.std.proofs.lemmas.Option.{slice_get_within, slice_get_cases, get_or_from_slice_get}
use Rattle.lq_base_names.specs.declared.name.Binder.{Binder}
use Rattle.lq_text_tree.specs.Pattern.{Pattern, PatternForm, Patterns, bound_in, bound_in_all}
use Rattle.lq_text_tree.specs.PatternView.{pat_view, pats_view, pats_items, patterns_of, pat_node_step, pat_step, pats_step}
use Rattle.lq_text_tree.specs.declared.pattern.Pat.{Pat}
use Rattle.lq_text_tree.specs.declared.pattern.Pats.{Pats, fold_out-Pats}

abbrev pub seen : Pat Binder → Pattern
seen = pat_view Binder (λ b. b.0)

abbrev pub row_of : Pats Binder → List (Pat Binder)
row_of = pats_items Binder

pub listed : (ps : Pats Binder) → pats_view Binder (λ b. b.0) ps ≡ patterns_of (map seen (row_of ps))
listed ps =
    fold_out-Pats Binder PatternForm Pattern Patterns (pat_node_step Binder (λ b. b.0)) (pat_step Binder (λ b. b.0)) (pats_step Binder (λ b. b.0)) ps

bound_more : (ps : List Pattern) (p : Pattern) → bound_in_all (patterns_of (ps ++ p ∷ [])) ≡ bound_in_all (patterns_of ps) ++ bound_in p
bound_more [] p = append-nil (bound_in p)
bound_more (q ∷ ps) p =
    ap (λ (xs : List ℕ). bound_in q ++ xs) (bound_more ps p) ∙ sym (append_assoc (bound_in q) (bound_in_all (patterns_of ps)) (bound_in p))

bound_join : (xs : List (Pat Binder)) (x : Pat Binder)
    → bound_in_all (patterns_of (map seen (xs ++ x ∷ []))) ≡ bound_in_all (patterns_of (map seen xs)) ++ bound_in (seen x)
bound_join xs x = ap (λ (l : List Pattern). bound_in_all (patterns_of l)) (map-append seen xs (x ∷ [])) ∙ bound_more (map seen xs) (seen x)

pub longer_at : (xs : List (Pat Binder)) (i : ℕ) (x : Pat Binder) → slice_get xs i ≡ Some x → take (i + 1) xs ≡ take i xs ++ x ∷ []
longer_at xs i x is =
    take_more xs i x (slice_get_within xs i x is) ∙ ap (λ (y : Pat Binder). take i xs ++ y ∷ []) (get_or_from_slice_get xs i x x is)

past : (xs : List (Pat Binder)) (i : ℕ) → slice_get xs i ≡ None → length xs ≤ i
past xs i is = by_cases (slice_get_cases xs i).1
  where
    by_cases : ((x : Pat Binder) × (i < length xs) × (slice_get xs i ≡ Some x) × (get_or xs i x ≡ x)) ⊎ ((length xs ≤ i) × (slice_get xs i ≡ None))
        → length xs ≤ i
    by_cases (inl some) = absurd (let e = some.2 in cc)
    by_cases (inr none) = none.0

-- the numbers of the slots of the binders that these patterns bind
abbrev pub slots_in : ℕ → List (Pat Binder) → List ℕ
slots_in nodes xs = map (λ z. nodes + z) (bound_in_all (patterns_of (map seen xs)))

pub no_more : (nodes : ℕ) (xs : List (Pat Binder)) (i : ℕ) (base old : List ℕ) → slice_get xs i ≡ None → old ≡ base ++ slots_in nodes (take i xs)
    → old ≡ base ++ slots_in nodes (take (i + 1) xs)
no_more nodes xs i base old none before =
    let far = past xs i none in
    before ∙ ap (λ (l : List (Pat Binder)). base ++ slots_in nodes l) (take_all i xs far ∙ sym (take_all (i + 1) xs (omega (arith, far))))

pub all_taken : (nodes : ℕ) (ps : Pats Binder) (i : ℕ) (base old : List ℕ) → length (row_of ps) ≤ i
    → old ≡ base ++ slots_in nodes (take i (row_of ps)) → old ≡ base ++ map (λ z. nodes + z) (bound_in_all (pats_view Binder (λ b. b.0) ps))
all_taken nodes ps i base old far before =
    before ∙ ap (λ (l : List (Pat Binder)). base ++ slots_in nodes l) (take_all i (row_of ps) far)
    ∙ ap (λ (l : Patterns). base ++ map (λ z. nodes + z) (bound_in_all l)) (sym (listed ps))

-- one more pattern of a row
pub bound_next : (nodes : ℕ) (xs ys : List (Pat Binder)) (x : Pat Binder) (base old new : List ℕ) → ys ≡ xs ++ x ∷ []
    → old ≡ base ++ map (λ z. nodes + z) (bound_in_all (patterns_of (map seen xs)))
    → new ≡ old ++ map (λ z. nodes + z) (bound_in (seen x))
    → new ≡ base ++ map (λ z. nodes + z) (bound_in_all (patterns_of (map seen ys)))
bound_next nodes xs ys x base old new longer before is =
    let up : ℕ → ℕ = λ z. nodes + z in
    let here = bound_in (seen x) in
    let first = bound_in_all (patterns_of (map seen xs)) in
    is ∙ ap (λ (l : List ℕ). l ++ map up here) before ∙ append_assoc base (map up first) (map up here)
    ∙ ap (λ (l : List ℕ). base ++ l) (sym (map-append up first here)) ∙ ap (λ (l : List ℕ). base ++ map up l) (sym (bound_join xs x))
    ∙ ap (λ (l : List (Pat Binder)). base ++ map up (bound_in_all (patterns_of (map seen l)))) (sym longer)
