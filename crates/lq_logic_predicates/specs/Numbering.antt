-- Numbered terms: what stays when more are added.
use Rattle.std.proofs.Common.{◌≡◌, ℕ, zero, suc, ◌<◌, ◌≤◌, length, List, [], ◌∷◌, ◌++◌, Bool, true, false, not, Some, slice_get, refl, sym, ap, subst, ◌∙◌, arith, if◌then◌else◌, ◌||◌}
use Rattle.std.proofs.lemmas.Bool.{or_left, or_right, and_parts, and_from, or_parts, or_from, not-true, not_from_false}
use Rattle.lq_logic_predicates.specs.Sum.{Sum, same}
use Rattle.lq_logic_predicates.specs.SameLaws.{same-is, same-refl, same-from, same-symm}
use Rattle.lq_logic_predicates.specs.Table.{has_term, index_of, all_differ, with_term}

pub has_term-here : (t : Sum) (terms : List Sum) → has_term (t ∷ terms) t ≡ true
has_term-here t terms = or_left (same t t) (has_term terms t) (same-refl t)

pub index_of-present : (terms : List Sum) (t : Sum) → has_term terms t ≡ true → index_of terms t < length terms
index_of-present [] t h = cc
index_of-present (u ∷ terms) t h = by (index_of-present terms t) (same t u) refl h
  where
    by : (has_term terms t ≡ true → index_of terms t < length terms) → (b : Bool) → same t u ≡ b → (b || has_term terms t) ≡ true → (if b then 0 else suc (index_of terms t)) < suc (length terms)
    by rest true e h = omega arith
    by rest false e h = let k = rest h in omega arith

pub index_of-absent : (terms : List Sum) (t : Sum) → has_term terms t ≡ false → index_of terms t ≡ length terms
index_of-absent [] t h = refl
index_of-absent (u ∷ terms) t h = by (index_of-absent terms t) (same t u) refl h
  where
    by : (has_term terms t ≡ false → index_of terms t ≡ length terms) → (b : Bool) → same t u ≡ b → (b || has_term terms t) ≡ false → (if b then 0 else suc (index_of terms t)) ≡ suc (length terms)
    by rest true e h = cc
    by rest false e h = ap suc (rest h)

pub has_term-append : (terms more : List Sum) (t : Sum) → has_term terms t ≡ true → has_term (terms ++ more) t ≡ true
has_term-append [] more t h = cc
has_term-append (u ∷ terms) more t h = by (has_term-append terms more t) (same t u) h
  where
    by : (has_term terms t ≡ true → has_term (terms ++ more) t ≡ true) → (b : Bool) → (b || has_term terms t) ≡ true → (b || has_term (terms ++ more) t) ≡ true
    by rest true h = refl
    by rest false h = rest h

pub index_of-append_present : (terms more : List Sum) (t : Sum) → has_term terms t ≡ true → index_of (terms ++ more) t ≡ index_of terms t
index_of-append_present [] more t h = cc
index_of-append_present (u ∷ terms) more t h = by (index_of-append_present terms more t) (same t u) h
  where
    by : (has_term terms t ≡ true → index_of (terms ++ more) t ≡ index_of terms t) → (b : Bool) → (b || has_term terms t) ≡ true → (if b then 0 else suc (index_of (terms ++ more) t)) ≡ (if b then 0 else suc (index_of terms t))
    by rest true h = refl
    by rest false h = ap suc (rest h)

pub index_of-append_absent : (terms more : List Sum) (t : Sum) → has_term terms t ≡ false → length terms ≤ index_of (terms ++ more) t
index_of-append_absent [] more t h = omega arith
index_of-append_absent (u ∷ terms) more t h = by (index_of-append_absent terms more t) (same t u) h
  where
    by : (has_term terms t ≡ false → length terms ≤ index_of (terms ++ more) t) → (b : Bool) → (b || has_term terms t) ≡ false → suc (length terms) ≤ (if b then 0 else suc (index_of (terms ++ more) t))
    by rest true h = cc
    by rest false h = let k = rest h in omega arith

pub slice_get-index_of : (terms : List Sum) (t : Sum) → has_term terms t ≡ true → slice_get terms (index_of terms t) ≡ Some t
slice_get-index_of [] t h = cc
slice_get-index_of (u ∷ terms) t h = by (slice_get-index_of terms t) (same t u) refl h
  where
    by : (has_term terms t ≡ true → slice_get terms (index_of terms t) ≡ Some t) → (b : Bool) → same t u ≡ b → (b || has_term terms t) ≡ true → slice_get (u ∷ terms) (if b then 0 else suc (index_of terms t)) ≡ Some t
    by rest true e h = ap Some (sym (same-is t u e))
    by rest false e h = rest h

pub slice_get-has_term : (terms : List Sum) (q : ℕ) (t : Sum) → slice_get terms q ≡ Some t → has_term terms t ≡ true
slice_get-has_term [] q t h = cc
slice_get-has_term (u ∷ terms) zero t h = let e : u ≡ t = cc in subst (λ w. has_term (w ∷ terms) t ≡ true) (sym e) (has_term-here t terms)
slice_get-has_term (u ∷ terms) (suc q) t h = or_right (same t u) (has_term terms t) (slice_get-has_term terms q t h)

pub index_of-slice_get : (terms : List Sum) (q : ℕ) (t : Sum) → all_differ terms ≡ true → slice_get terms q ≡ Some t → index_of terms t ≡ q
index_of-slice_get [] q t d h = cc
index_of-slice_get (u ∷ terms) zero t d h = let e : u ≡ t = cc in ap (λ b. if b then 0 else suc (index_of terms t)) (same-from t u (sym e))
index_of-slice_get (u ∷ terms) (suc q) t d h = by (λ d'. index_of-slice_get terms q t d' h) (same t u) refl
  where
    parts : (not (has_term terms u) ≡ true) × (all_differ terms ≡ true)
    parts = and_parts (not (has_term terms u)) (all_differ terms) d

    by : (all_differ terms ≡ true → index_of terms t ≡ q) → (b : Bool) → same t u ≡ b → (if b then 0 else suc (index_of terms t)) ≡ suc q
    by rest true e =
        let k = slice_get-has_term terms q t h in
        let n = not-true (has_term terms u) parts.0 in
        let same_one : t ≡ u = same-is t u e in cc (k, n, same_one, ap (has_term terms) same_one)
    by rest false e = ap suc (rest parts.1)

has_term-push : (terms : List Sum) (t u : Sum) → has_term terms u ≡ false → same u t ≡ false → has_term (terms ++ t ∷ []) u ≡ false
has_term-push [] t u h k = or_from (same u t) false k refl
has_term-push (w ∷ terms) t u h k =
    let p = or_parts (same u w) (has_term terms u) h in or_from (same u w) (has_term (terms ++ t ∷ []) u) p.0 (has_term-push terms t u p.1 k)

all_differ-push : (terms : List Sum) (t : Sum) → all_differ terms ≡ true → has_term terms t ≡ false → all_differ (terms ++ t ∷ []) ≡ true
all_differ-push [] t d h = refl
all_differ-push (u ∷ terms) t d h =
    let p = and_parts (not (has_term terms u)) (all_differ terms) d in
    let q = or_parts (same t u) (has_term terms t) h in
    and_from (not (has_term (terms ++ t ∷ []) u)) (all_differ (terms ++ t ∷ []))
    (not_from_false (has_term (terms ++ t ∷ []) u) (has_term-push terms t u (not-true (has_term terms u) p.0) (same-symm u t ∙ q.0)))
    (all_differ-push terms t p.1 q.1)

pub all_differ-with_term : (terms : List Sum) (t : Sum) → all_differ terms ≡ true → all_differ (with_term terms t) ≡ true
all_differ-with_term terms t d = by (has_term terms t) refl
  where
    by : (b : Bool) → has_term terms t ≡ b → all_differ (if b then terms else terms ++ t ∷ []) ≡ true
    by true h = d
    by false h = all_differ-push terms t d h

pub with_term-present : (terms : List Sum) (t : Sum) → has_term terms t ≡ true → with_term terms t ≡ terms
with_term-present terms t h = ap (λ b. if b then terms else terms ++ t ∷ []) h

index_of-push : (terms : List Sum) (t : Sum) → has_term terms t ≡ false → index_of (terms ++ t ∷ []) t ≡ length terms
index_of-push [] t h = ap (λ b. if b then 0 else suc 0) (same-refl t)
index_of-push (u ∷ terms) t h =
    let p = or_parts (same t u) (has_term terms t) h in
    ap (λ b. if b then 0 else suc (index_of (terms ++ t ∷ []) t)) p.0 ∙ ap suc (index_of-push terms t p.1)

pub index_of-with_term : (terms : List Sum) (t : Sum) → index_of (with_term terms t) t ≡ index_of terms t
index_of-with_term terms t = by (has_term terms t) refl
  where
    by : (b : Bool) → has_term terms t ≡ b → index_of (if b then terms else terms ++ t ∷ []) t ≡ index_of terms t
    by true h = refl
    by false h = index_of-push terms t h ∙ sym (index_of-absent terms t h)

pub has_term-with_term : (terms : List Sum) (t : Sum) → has_term (with_term terms t) t ≡ true
has_term-with_term terms t = by (has_term terms t) refl
  where
    by : (b : Bool) → has_term terms t ≡ b → has_term (if b then terms else terms ++ t ∷ []) t ≡ true
    by true e = e
    by false e = has_last terms
      where
        has_last : (l : List Sum) → has_term (l ++ t ∷ []) t ≡ true
        has_last [] = has_term-here t []
        has_last (u ∷ l) = or_right (same t u) (has_term (l ++ t ∷ []) t) (has_last l)
