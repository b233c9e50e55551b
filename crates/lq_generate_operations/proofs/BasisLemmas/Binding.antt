-- Names that are bound one more, and one less.
use Rattle.std.proofs.Common.{◌≡◌, ℕ, zero, suc, ◌+◌, ◌-◌, ◌<◌, ◌≤◌, ◌==◌, Bool, true, false, cond, if◌then◌else◌, List, [], ◌∷◌, ◌++◌, length, take, drop, replicate, map, slice_set, Option, Some, None, ◌⊎◌, inl, inr, refl, sym, ap, ap₂, ◌∙◌, arith}
use Rattle.std.proofs.lemmas.Bool.{cases_eq, eq-eqb, ne_eqb}
use Rattle.std.proofs.lemmas.List.{drop-drop, length-drop, map-append, get_or-set_same, get_or-set_other, get_or_past, same_from_push, take_all}
use Rattle.lq_generate_operations.specs.declared.basis.names.Bound.{Bound}
use Rattle.lq_generate_operations.specs.Basis.Undoing.{befores_on, bound_on, row_at, row_in, AreUndone, IsRight}

-- ---- the rows by the numbers of binders

padded : (rows : List (Option ℕ)) (k x : ℕ) → row_at (rows ++ replicate k None) x ≡ row_at rows x
padded [] zero x = refl
padded [] (suc k) zero = refl
padded [] (suc k) (suc x) = padded [] k x
padded (r ∷ rows) k zero = refl
padded (r ∷ rows) k (suc x) = padded rows k x

pub longer : (b : Bool) (rows new : List (Option ℕ)) (n k x : ℕ) → new ≡ (if b then take n rows ++ replicate k None else rows) → length rows ≤ n
    → row_at new x ≡ row_at rows x
longer true rows new n k x e h =
    ap (λ l. row_at l x) e ∙ ap (λ l. row_at (l ++ replicate k None) x) (take_all n rows h) ∙ padded rows k x
longer false rows new n k x e h = ap (λ l. row_at l x) e

row_at-set : (rows : List (Option ℕ)) (x : ℕ) (v : Option ℕ) (y : ℕ) → x < length rows → row_at (slice_set rows x v) y ≡ cond (x == y) v (row_at rows y)
row_at-set rows x v y h = by (cases_eq x y)
  where
    by : (x ≡ y) ⊎ ¬ (x ≡ y) → row_at (slice_set rows x v) y ≡ cond (x == y) v (row_at rows y)
    by (inl e) = ap (row_at (slice_set rows x v)) (sym e) ∙ get_or-set_same rows x v None h ∙ sym (ap (λ b. cond b v (row_at rows y)) (eq-eqb x y e))
    by (inr n) = get_or-set_other rows x y v None (λ e. n (sym e)) ∙ sym (ap (λ b. cond b v (row_at rows y)) (ne_eqb x y n))

-- ---- one more

pub bound_on-push : (ps : List (ℕ × ℕ)) (bs : List Bound) (b : Bound) → bound_on ps (bs ++ b ∷ []) ≡ (b.name.0, b.row) ∷ bound_on ps bs
bound_on-push ps [] b = refl
bound_on-push ps (a ∷ bs) b = bound_on-push ((a.name.0, a.row) ∷ ps) bs b

befores_on-push : (ps : List (ℕ × ℕ)) (bs : List Bound) (b : Bound) → befores_on ps (bs ++ b ∷ []) ≡ befores_on ps bs ++ row_in (bound_on ps bs) b.name.0 ∷ []
befores_on-push ps [] b = refl
befores_on-push ps (a ∷ bs) b = ap (λ l. row_in ps a.name.0 ∷ l) (befores_on-push ((a.name.0, a.row) ∷ ps) bs b)

pub length-bound : (ps : List (ℕ × ℕ)) (bs : List Bound) → length (bound_on ps bs) ≡ length ps + length bs
length-bound ps [] = omega arith
length-bound ps (b ∷ bs) = let h = length-bound ((b.name.0, b.row) ∷ ps) bs in omega arith

pub undone-push : (bs : List Bound) (b : Bound) → AreUndone bs → b.before ≡ row_in (bound_on [] bs) b.name.0 → AreUndone (bs ++ b ∷ [])
undone-push bs b h e =
    map-append (λ a. a.before) bs (b ∷ []) ∙ ap₂ (λ l o. l ++ o ∷ []) h e ∙ sym (befores_on-push [] bs b)

row_in-push : (bs : List Bound) (b : Bound) (y : ℕ) → row_in (bound_on [] (bs ++ b ∷ [])) y ≡ cond (b.name.0 == y) (Some b.row) (row_in (bound_on [] bs) y)
row_in-push bs b y = ap (λ ps. row_in ps y) (bound_on-push [] bs b)

pub right-push : (rows : List (Option ℕ)) (bs : List Bound) (b : Bound) → IsRight rows bs → b.name.0 < length rows
    → IsRight (slice_set rows b.name.0 (Some b.row)) (bs ++ b ∷ [])
right-push rows bs b h l y =
    row_at-set rows b.name.0 (Some b.row) y l ∙ ap (cond (b.name.0 == y) (Some b.row)) (h y) ∙ sym (row_in-push bs b y)

-- ---- one less

pub undone-pop : (bs : List Bound) (b : Bound) → AreUndone (bs ++ b ∷ []) → AreUndone bs × (b.before ≡ row_in (bound_on [] bs) b.name.0)
undone-pop bs b h =
    same_from_push (map (λ a. a.before) bs) (befores_on [] bs) b.before (row_in (bound_on [] bs) b.name.0)
    (sym (map-append (λ a. a.before) bs (b ∷ [])) ∙ h ∙ befores_on-push [] bs b)

-- a name that is bound last has a place
pub placed : (rows : List (Option ℕ)) (bs : List Bound) (b : Bound) → IsRight rows (bs ++ b ∷ []) → b.name.0 < length rows
placed rows bs b h = by (cases_lt (length rows) b.name.0)
  where
    is : row_at rows b.name.0 ≡ Some b.row
    is = h b.name.0 ∙ row_in-push bs b b.name.0 ∙ ap (λ c. cond c (Some b.row) (row_in (bound_on [] bs) b.name.0)) (eq-eqb b.name.0 b.name.0 refl)

    cases_lt : (m n : ℕ) → (m ≤ n) ⊎ (n < m)
    cases_lt m n = grind arith

    by : (length rows ≤ b.name.0) ⊎ (b.name.0 < length rows) → b.name.0 < length rows
    by (inl l) = let none : row_at rows b.name.0 ≡ None = get_or_past rows b.name.0 None l in absurd (cc is)
    by (inr l) = l

pub right-pop : (rows : List (Option ℕ)) (bs : List Bound) (b : Bound) → IsRight rows (bs ++ b ∷ []) → b.before ≡ row_in (bound_on [] bs) b.name.0
    → IsRight (slice_set rows b.name.0 b.before) bs
right-pop rows bs b h e y = row_at-set rows b.name.0 b.before y (placed rows bs b h) ∙ by (cases_eq b.name.0 y)
  where
    by : (b.name.0 ≡ y) ⊎ ¬ (b.name.0 ≡ y) → cond (b.name.0 == y) b.before (row_at rows y) ≡ row_in (bound_on [] bs) y
    by (inl s) = ap (λ c. cond c b.before (row_at rows y)) (eq-eqb b.name.0 y s) ∙ e ∙ ap (row_in (bound_on [] bs)) s
    by (inr n) =
        let f = ne_eqb b.name.0 y n in
        ap (λ c. cond c b.before (row_at rows y)) f ∙ h y ∙ row_in-push bs b y ∙ ap (λ c. cond c (Some b.row) (row_in (bound_on [] bs) y)) f

-- ---- back

pub still-back : {X : Type 0} (xs ys zs : List X) → ys ≡ drop (length xs - length ys) xs → length ys ≤ length xs → 0 < length ys → zs ≡ drop 1 ys
    → zs ≡ drop (length xs - length zs) xs
still-back xs ys zs e h l f =
    let n : length zs ≡ length ys - 1 = ap length f ∙ length-drop 1 ys in
    let k : (length xs - length ys) + 1 ≡ length xs - length zs = omega arith in
    f ∙ ap (drop 1) e ∙ drop-drop 1 (length xs - length ys) xs ∙ ap (λ i. drop i xs) k

pub one-shorter : {X : Type 0} (ys zs : List X) → 0 < length ys → zs ≡ drop 1 ys → length zs + 1 ≡ length ys
one-shorter ys zs l f = let n : length zs ≡ length ys - 1 = ap length f ∙ length-drop 1 ys in omega arith

pub all-back : {X : Type 0} (xs ys : List X) (len : ℕ) → ys ≡ drop (length xs - length ys) xs → length ys ≤ len → len - length xs ≡ len - length ys
    → length ys ≤ length xs → ys ≡ drop (length xs - len) xs
all-back xs ys len e h k l = let n : length xs - length ys ≡ length xs - len = omega arith in e ∙ ap (λ i. drop i xs) n
