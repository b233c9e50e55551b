-- The patterns of a row in memory, and the names of a pattern.
use Rattle.std.proofs.Common.{◌≡◌, ◌⊎◌, ℕ, zero, suc, ◌+◌, ◌<◌, ◌≤◌, List, [], ◌∷◌, ◌++◌, map, drop, take, length, get_or, slice_get, Some, None, refl, sym, ap, ◌∙◌, arith, inl, inr}
use Rattle.std.proofs.lemmas.List.{map-append, length-append, take_more, take_all}
use Rattle.std.proofs.lemmas.Option.{slice_get_within, slice_get_cases, get_or_from_slice_get}
use Rattle.lq_base_names.specs.declared.name.Name.{Name}
use Rattle.lq_base_names.specs.declared.name.Binder.{Binder}
use Rattle.lq_base_names.specs.declared.place.Place.{Place}
use Rattle.lq_text_tree.specs.Pattern.{Pattern, PatternForm, Patterns, bound_in, bound_in_form, bound_in_all, pattern, any, bind, nothing, tuple_of, build_of, no_patterns, more_patterns}
use Rattle.lq_text_tree.specs.PatternView.{pat_view, pats_view, pats_items, patterns_of, pat_node_step, pat_step, pats_step}
use Rattle.lq_text_tree.specs.declared.pattern.Pat.{Pat}
use Rattle.lq_text_tree.specs.declared.pattern.Pats.{Pats, fold_out-Pats}
use Rattle.lq_text_scope.specs.Datatypes.{parameter_name}
use Rattle.lq_text_scope.specs.Patterns.{binders_in, binders_in_form, binders_in_all}
use Rattle.lq_text_scope.specs.Views.{binding_view}
use Rattle.lq_text_scope.specs.declared.binders.Binding.{Binding}
use Rattle.lq_text_resolve.specs.Binding.Binding.{numbered, numbered_all}
use Rattle.lq_text_resolve.specs.Binding.States.{binding_name}

abbrev pub seen : Pat Name → Pattern
seen = pat_view Name (λ n. n.0)

abbrev pub row_of : Pats Name → List (Pat Name)
row_of = pats_items Name

abbrev pub seen_binders : Pat Binder → Pattern
seen_binders = pat_view Binder (λ b. b.0)

pub listed : (ps : Pats Name) → pats_view Name (λ n. n.0) ps ≡ patterns_of (map seen (row_of ps))
listed ps = fold_out-Pats Name PatternForm Pattern Patterns (pat_node_step Name (λ n. n.0)) (pat_step Name (λ n. n.0)) (pats_step Name (λ n. n.0)) ps

pub listed_binders : (ps : Pats Binder) → pats_view Binder (λ b. b.0) ps ≡ patterns_of (map seen_binders (pats_items Binder ps))
listed_binders ps = fold_out-Pats Binder PatternForm Pattern Patterns (pat_node_step Binder (λ b. b.0)) (pat_step Binder (λ b. b.0)) (pats_step Binder (λ b. b.0)) ps

-- ---- numbers for the names of a row

abbrev behind : List Pattern → Pattern → Patterns
behind ps p = patterns_of (ps ++ p ∷ [])

bound_behind : (ps : List Pattern) (p : Pattern) → bound_in_all (behind ps p) ≡ bound_in_all (patterns_of ps) ++ bound_in p
bound_behind [] p = nothing_behind (bound_in p)
  where
    nothing_behind : (xs : List ℕ) → xs ++ [] ≡ [] ++ xs
    nothing_behind [] = refl
    nothing_behind (x ∷ xs) = ap (λ (l : List ℕ). x ∷ l) (nothing_behind xs)
bound_behind (q ∷ ps) p = ap (λ (l : List ℕ). bound_in q ++ l) (bound_behind ps p) ∙ sym (joined (bound_in q) (bound_in_all (patterns_of ps)) (bound_in p))
  where
    joined : (xs ys zs : List ℕ) → (xs ++ ys) ++ zs ≡ xs ++ (ys ++ zs)
    joined [] ys zs = refl
    joined (x ∷ xs) ys zs = ap (λ (l : List ℕ). x ∷ l) (joined xs ys zs)

numbered_behind : (n : ℕ) (ps qs : List Pattern) (p : Pattern) → patterns_of qs ≡ numbered_all n (patterns_of ps)
    → patterns_of (qs ++ numbered (n + length (bound_in_all (patterns_of ps))) p ∷ []) ≡ numbered_all n (behind ps p)
numbered_behind n [] [] p are = let same : n + 0 ≡ n = omega arith in ap (λ (m : ℕ). more_patterns (numbered m p) no_patterns) same
numbered_behind n [] (r ∷ qs) p are = absurd (let e = are in cc)
numbered_behind n (q ∷ ps) [] p are = absurd (let e = are in cc)
numbered_behind n (q ∷ ps) (r ∷ qs) p are =
    let first : r ≡ numbered n q = ap first_of are in
    let others : patterns_of qs ≡ numbered_all (n + length (bound_in q)) (patterns_of ps) = ap rest_of are in
    let count = length-append (bound_in q) (bound_in_all (patterns_of ps)) in
    let same : n + length (bound_in q ++ bound_in_all (patterns_of ps)) ≡ (n + length (bound_in q)) + length (bound_in_all (patterns_of ps)) = omega (arith, count) in
    ap (λ (m : ℕ). more_patterns r (patterns_of (qs ++ numbered m p ∷ []))) same
    ∙ ap (λ (t : Pattern). more_patterns t (patterns_of (qs ++ numbered ((n + length (bound_in q)) + length (bound_in_all (patterns_of ps))) p ∷ []))) first
    ∙ ap (more_patterns (numbered n q)) (numbered_behind (n + length (bound_in q)) ps qs p others)
  where
    first_of : Patterns → Pattern
    first_of no_patterns = q
    first_of (more_patterns p ps) = p

    rest_of : Patterns → Patterns
    rest_of no_patterns = no_patterns
    rest_of (more_patterns p ps) = ps

-- one pattern more of a row has its numbers
pub one_more : (n next : ℕ) (front : List (Pat Name)) (x : Pat Name) (made : List (Pat Binder)) (y : Pat Binder)
    → patterns_of (map seen_binders made) ≡ numbered_all n (patterns_of (map seen front)) → next ≡ n + length (bound_in_all (patterns_of (map seen front)))
    → seen_binders y ≡ numbered next (seen x) → patterns_of (map seen_binders (made ++ y ∷ [])) ≡ numbered_all n (patterns_of (map seen (front ++ x ∷ [])))
one_more n next front x made y are at is =
    ap patterns_of (map-append seen_binders made (y ∷ []))
    ∙ ap (λ (p : Pattern). patterns_of (map seen_binders made ++ p ∷ [])) (is ∙ ap (λ (m : ℕ). numbered m (seen x)) at)
    ∙ numbered_behind n (map seen front) (map seen_binders made) (seen x) are
    ∙ ap (λ (l : List Pattern). numbered_all n (patterns_of l)) (sym (map-append seen front (x ∷ [])))

pub next_more : (n next behind : ℕ) (front : List (Pat Name)) (x : Pat Name) → next ≡ n + length (bound_in_all (patterns_of (map seen front)))
    → behind ≡ next + length (bound_in (seen x)) → behind ≡ n + length (bound_in_all (patterns_of (map seen (front ++ x ∷ []))))
next_more n next behind front x at is =
    let joins : bound_in_all (patterns_of (map seen (front ++ x ∷ []))) ≡ bound_in_all (patterns_of (map seen front)) ++ bound_in (seen x) =
    ap (λ (l : List Pattern). bound_in_all (patterns_of l)) (map-append seen front (x ∷ [])) ∙ bound_behind (map seen front) (seen x) in
    let count = ap length joins ∙ length-append (bound_in_all (patterns_of (map seen front))) (bound_in (seen x)) in
    omega (arith, at, is, count)

-- ---- names

mutual
  names_bound : (p : Pattern) → map parameter_name (binders_in p) ≡ bound_in p
  names_bound (pattern p f) = names_bound_form p f

  names_bound_form : (p : Place) (f : PatternForm) → map parameter_name (binders_in_form p f) ≡ bound_in_form f
  names_bound_form p any = refl
  names_bound_form p (bind x) = refl
  names_bound_form p nothing = refl
  names_bound_form p (tuple_of ps) = names_bound_all ps
  names_bound_form p (build_of c q ps) = names_bound_all ps

  names_bound_all : (ps : Patterns) → map parameter_name (binders_in_all ps) ≡ bound_in_all ps
  names_bound_all no_patterns = refl
  names_bound_all (more_patterns p ps) =
      map-append parameter_name (binders_in p) (binders_in_all ps) ∙ ap (λ (l : List ℕ). l ++ map parameter_name (binders_in_all ps)) (names_bound p)
      ∙ ap (λ (l : List ℕ). bound_in p ++ l) (names_bound_all ps)

names_in : (bs : List Binding) → map binding_name bs ≡ map parameter_name (map binding_view bs)
names_in [] = refl
names_in (b ∷ bs) = ap (λ (l : List ℕ). b.name.0 ∷ l) (names_in bs)

pub names_are : (p : Pattern) (bs : List Binding) → map binding_view bs ≡ binders_in p → map binding_name bs ≡ bound_in p
names_are p bs are = names_in bs ∙ ap (map parameter_name) are ∙ names_bound p

pub drop_by : {X : Type 0} (xs : List X) (at : ℕ) (x : X) → at < length xs → x ≡ get_or xs at x → drop at xs ≡ x ∷ drop (at + 1) xs
drop_by {X} xs at x less is = let next : at + 1 ≡ suc at = omega arith in from_here xs at less is ∙ ap (λ (n : ℕ). x ∷ drop n xs) (sym next)
  where
    from_here : (ys : List X) (at : ℕ) → at < length ys → x ≡ get_or ys at x → drop at ys ≡ x ∷ drop (suc at) ys
    from_here [] at less is = absurd (omega (arith, less))
    from_here (y ∷ ys) zero less is = ap (λ (z : X). z ∷ ys) (sym is)
    from_here (y ∷ ys) (suc at) less is = from_here ys at (omega (arith, less)) is

pub past : {X : Type 0} (xs : List X) (at : ℕ) → slice_get xs at ≡ None → length xs ≤ at
past {X = X} xs at is = by_cases (slice_get_cases xs at).1
  where
    by_cases : ((x : X) × (at < length xs) × (slice_get xs at ≡ Some x) × (get_or xs at x ≡ x)) ⊎ ((length xs ≤ at) × (slice_get xs at ≡ None)) → length xs ≤ at
    by_cases (inl some) = absurd (let e = some.2 in cc)
    by_cases (inr none) = none.0

pub all_taken : {X : Type 0} (at : ℕ) (xs : List X) → length xs ≤ at → take at xs ≡ xs
all_taken {X} at xs far = take_all at xs far

pub longer_at : {X : Type 0} (xs : List X) (at : ℕ) (x : X) → slice_get xs at ≡ Some x → take (at + 1) xs ≡ take at xs ++ x ∷ []
longer_at {X} xs at x is = take_more xs at x (slice_get_within xs at x is) ∙ ap (λ (y : X). take at xs ++ y ∷ []) (get_or_from_slice_get xs at x x is)

pub none_longer : {X : Type 0} (xs : List X) (at : ℕ) → slice_get xs at ≡ None → take at xs ≡ take (at + 1) xs
none_longer {X} xs at is = let far = past xs at is in take_all at xs far ∙ sym (take_all (at + 1) xs (omega (arith, far)))
