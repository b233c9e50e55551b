-- The forms of rows by their first appearance, row by row.
use Rattle.std.proofs.Common.{◌≡◌, ◌≢◌, ℕ, pos, ◌+◌, ◌<◌, ◌≤◌, ◌⊎◌, inl, inr, arith, refl, sym, subst, ◌∙◌, List, [], ◌∷◌, ◌++◌, Option, Some, None, length, slice_get}
use Rattle.std.proofs.lemmas.Bool.{cases_lt}
use Rattle.std.proofs.lemmas.List.{get_or_push, get_or_append_left, length_push}
use Rattle.std.proofs.lemmas.Option.{slice_get_within}
use Rattle.lq_logic_rows.specs.Row.{Row}
use Rattle.lq_logic_rows.specs.Forms.{Parts, IsNormal, AreMultiples, Scales}
use Rattle.lq_prover_simplex.specs.declared.row.Bound.{Bound}
use Rattle.lq_prover_simplex.specs.Appearing.{IsFirst, AreFormsOf, HasGrown}
use Rattle.lq_prover_simplex.specs.Systems.{form_at}
use Rattle.lq_prover_simplex.specs.Standing.{ReadsBy}
use Rattle.lq_prover_simplex.proofs.Multiples.{multiples_once}
use Rattle.lq_prover_simplex.proofs.Values.{get_push_old, get_push_here, last_or_before}

-- ---- multiples
same_scales : (p : Parts) → Scales (pos 1) (pos 1) p p
same_scales [] = tt
same_scales (q ∷ qs) = (refl, refl, same_scales qs)

one_some : pos 1 ≢ pos 0
one_some e = absurd (let k : ⊥ = cc in k)

pub own_multiple : (p : Parts) → AreMultiples p p
own_multiple p = record { left = pos 1; right = pos 1; left_apart = one_some; right_apart = one_some; same = same_scales p }

none_multiple : (parts form : Parts) → parts ≡ [] → IsNormal form → ¬ (AreMultiples parts form)
none_multiple parts [] e n m = n.above
none_multiple parts (q ∷ qs) e n m = let k = subst (λ p. Scales m.left m.right p (q ∷ qs)) e m.same in k

-- ---- first places
same_row : (rows : List Row) (i : ℕ) (row other : Row) → slice_get rows i ≡ Some row → slice_get rows i ≡ Some other → row ≡ other
same_row rows i row other p q = let e : Some row ≡ Some other = sym p ∙ q in cc

first_once : (rows : List Row) (form : Parts) (p q : ℕ) → IsFirst rows form p → IsFirst rows form q → p ≡ q
first_once rows form p q f g =
    elim (cases_lt p q) [
      | inl less ↦ absurd (g.before p f.row less f.there f.multiple)
      | inr most ↦ elim (cases_lt q p) [ inl less ↦ absurd (f.before q g.row less g.there g.multiple) | inr least ↦ omega arith ]
    ]

first_within : (rows : List Row) (form : Parts) (p : ℕ) → IsFirst rows form p → p < length rows
first_within rows form p f = slice_get_within rows p f.row f.there

first_on : (rows : List Row) (more : Row) (form : Parts) (p : ℕ) → IsFirst rows form p → IsFirst (rows ++ more ∷ []) form p
first_on rows more form p f = record {
  row = f.row;
  there = get_push_old rows more p (first_within rows form p f) ∙ f.there;
  multiple = f.multiple;
  before = λ i earlier l h. let w = first_within rows form p f in f.before i earlier l (sym (get_push_old rows more i (omega arith)) ∙ h);
}

-- ---- the row that comes
covered : (rows : List Row) (more : Row) (forms : List Parts) (i : ℕ) (row : Row)
    → ((row : Row) → slice_get rows i ≡ Some row → (row.parts ≡ []) ⊎ ((k : ℕ) × (k < length forms) × AreMultiples row.parts (form_at forms k)))
    → ((more.parts ≡ []) ⊎ ((k : ℕ) × (k < length forms) × AreMultiples more.parts (form_at forms k)))
    → slice_get (rows ++ more ∷ []) i ≡ Some row → i < length rows + 1 → (row.parts ≡ []) ⊎ ((k : ℕ) × (k < length forms) × AreMultiples row.parts (form_at forms k))
covered rows more forms i row before here h within =
    elim (last_or_before i (length rows) within) [
      | inl l ↦ before row (sym (get_push_old rows more i l) ∙ h)
      | inr e ↦ let q : slice_get (rows ++ more ∷ []) (length rows) ≡ Some row = subst (λ j. slice_get (rows ++ more ∷ []) j ≡ Some row) e h in
          subst (λ (r : Row). (r.parts ≡ []) ⊎ ((k : ℕ) × (k < length forms) × AreMultiples r.parts (form_at forms k)))
          (same_row (rows ++ more ∷ []) (length rows) more row (get_push_here rows more) q) here
    ]

read_covers : (forms : List Parts) (row : Row) (b : Option Bound) → ReadsBy forms row b → (row.parts ≡ []) ⊎ ((k : ℕ) × (k < length forms) × AreMultiples row.parts (form_at forms k))
read_covers forms row None r = inl r
read_covers forms row (Some b) r = inr (b.variable, r.inside, r.form)

pub within_push : (rows : List Row) (more row : Row) (i : ℕ) → slice_get (rows ++ more ∷ []) i ≡ Some row → i < length rows + 1
within_push rows more row i h = let l = slice_get_within (rows ++ more ∷ []) i row h in let e = length_push rows more in omega arith

-- a row of a form that was there before, or of none
appear_same : (rows : List Row) (terms : ℕ) (forms : List Parts) (more : Row) (b : Option Bound) → ReadsBy forms more b → AreFormsOf rows terms forms → AreFormsOf (rows ++ more ∷ []) terms forms
appear_same rows terms forms more b reads a = record {
  first = λ k l h. let f = a.first k l h in (f.0, first_on rows more (form_at forms k) f.0 f.1);
  ascend = λ j k p q l less h f g.
      let f0 = a.first j l (omega arith) in let g0 = a.first k (omega arith) h in
      let e = first_once (rows ++ more ∷ []) (form_at forms j) p f0.0 f (first_on rows more (form_at forms j) f0.0 f0.1) in
      let d = first_once (rows ++ more ∷ []) (form_at forms k) q g0.0 g (first_on rows more (form_at forms k) g0.0 g0.1) in
      let s = a.ascend j k f0.0 g0.0 l less h f0.1 g0.1 in omega arith;
  covers = λ i row h. covered rows more forms i row (a.covers i) (read_covers forms more b reads) h (within_push rows more row i h);
}

-- a row of a further form
old_form : (forms : List Parts) (form : Parts) (k : ℕ) → k < length forms → form_at (forms ++ form ∷ []) k ≡ form_at forms k
old_form forms form k h = get_or_append_left forms (form ∷ []) [] k h

new_form : (forms : List Parts) (form : Parts) → form_at (forms ++ form ∷ []) (length forms) ≡ form
new_form forms form = get_or_push forms form [] (length forms) refl

pub appear_new : (rows : List Row) (terms : ℕ) (forms : List Parts) (form : Parts) (more : Row) → ((k : ℕ) → k < length forms → IsNormal (form_at forms k)) → IsNormal form
    → AreMultiples more.parts form → ((k : ℕ) → k < length forms → form_at forms k ≢ form)
    → ((more.parts ≡ []) ⊎ ((k : ℕ) × (k < length (forms ++ form ∷ [])) × AreMultiples more.parts (form_at (forms ++ form ∷ []) k)))
    → AreFormsOf rows terms forms → AreFormsOf (rows ++ more ∷ []) terms (forms ++ form ∷ [])
appear_new rows terms forms form more normal fresh multiple absent has a = record {
  first = λ k l h. elim (last_or_before k (length forms) (below k h)) [
    | inl less ↦ let f = old k l less in (f.0, first_on_more k less f.0 f.1)
    | inr e ↦ (length rows, subst (λ m. IsFirst (rows ++ more ∷ []) (form_at (forms ++ form ∷ []) m) (length rows)) (sym e) last)
  ];
  ascend = λ j k p q l less h f g.
      let f0 = old j l (let t = below k h in omega arith) in
      let e = first_once (rows ++ more ∷ []) (form_at (forms ++ form ∷ []) j) p f0.0 f (first_on_more j (let t = below k h in omega arith) f0.0 f0.1) in
      elim (last_or_before k (length forms) (below k h)) [
        | inl before ↦
            let g0 = old k (omega arith) before in
            let d = first_once (rows ++ more ∷ []) (form_at (forms ++ form ∷ []) k) q g0.0 g (first_on_more k before g0.0 g0.1) in
            let s = a.ascend j k f0.0 g0.0 l less before f0.1 g0.1 in omega arith
        | inr here ↦
            let d = first_once (rows ++ more ∷ []) (form_at (forms ++ form ∷ []) k) q (length rows) g
            (subst (λ m. IsFirst (rows ++ more ∷ []) (form_at (forms ++ form ∷ []) m) (length rows)) (sym here) last) in
            let w = first_within rows (form_at forms j) f0.0 f0.1 in omega arith
      ];
  covers = λ i row h. covered rows more (forms ++ form ∷ []) i row (λ r g. grown r (a.covers i r g)) has h (within_push rows more row i h);
}
  where
    below : (k : ℕ) → k < length (forms ++ form ∷ []) → k < length forms + 1
    below k h = let e = length_push forms form in omega arith

    old : (k : ℕ) → terms ≤ k → k < length forms → (p : ℕ) × IsFirst rows (form_at forms k) p
    old k l h = a.first k l h

    first_on_more : (k : ℕ) → k < length forms → (p : ℕ) → IsFirst rows (form_at forms k) p → IsFirst (rows ++ more ∷ []) (form_at (forms ++ form ∷ []) k) p
    first_on_more k h p f = subst (λ g. IsFirst (rows ++ more ∷ []) g p) (sym (old_form forms form k h)) (first_on rows more (form_at forms k) p f)

    not_before : (i : ℕ) (earlier : Row) → slice_get rows i ≡ Some earlier → ¬ (AreMultiples earlier.parts form)
    not_before i earlier h m =
        elim (a.covers i earlier h) [
          | inl none ↦ none_multiple earlier.parts form none fresh m
          | inr k ↦ absent k.0 k.1 (multiples_once earlier.parts earlier.parts (form_at forms k.0) form (normal k.0 k.1) fresh k.2 m (own_multiple earlier.parts))
        ]

    last : IsFirst (rows ++ more ∷ []) (form_at (forms ++ form ∷ []) (length forms)) (length rows)
    last = subst (λ g. IsFirst (rows ++ more ∷ []) g (length rows)) (sym (new_form forms form)) (record {
      row = more;
      there = get_push_here rows more;
      multiple = multiple;
      before = λ i earlier l h. not_before i earlier (sym (get_push_old rows more i l) ∙ h);
    })

    grown : (r : Row) → ((r.parts ≡ []) ⊎ ((k : ℕ) × (k < length forms) × AreMultiples r.parts (form_at forms k)))
        → (r.parts ≡ []) ⊎ ((k : ℕ) × (k < length (forms ++ form ∷ [])) × AreMultiples r.parts (form_at (forms ++ form ∷ []) k))
    grown r (inl e) = inl e
    grown r (inr k) = inr (k.0, (let e = length_push forms form in let h = k.1 in omega arith), subst (AreMultiples r.parts) (sym (old_form forms form k.0 k.1)) k.2)

pub appear_row : (rows : List Row) (terms : ℕ) (old new : List Parts) (more : Row) (b : Option Bound) → HasGrown old new more.parts
    → ReadsBy new more b → AreFormsOf rows terms old → AreFormsOf (rows ++ more ∷ []) terms new
appear_row rows terms old new more b (inl same) reads a = appear_same rows terms new more b reads (subst (AreFormsOf rows terms) (sym same) a)
appear_row rows terms old new more b (inr g) reads a =
    subst (AreFormsOf (rows ++ more ∷ []) terms) (sym g.1)
    (appear_new rows terms old g.0 more (λ k h. (g.4 k h).0) g.2 g.3 (λ k h. (g.4 k h).1) (read_covers (old ++ g.0 ∷ []) more b (subst (λ f. ReadsBy f more b) g.1 reads)) a)
