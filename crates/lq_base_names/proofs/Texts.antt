-- The texts of a table and their numbers in its map.
use Rattle.std.proofs.Common.{◌≡◌, ℕ, ◌+◌, ◌<◌, ◌≤◌, ◌^◌, Bool, true, false, List, [], ◌∷◌, ◌++◌, ◌||◌, ◌⊎◌, inl, inr, length, slice_get, take, get_or, Some, None, cond, if◌then◌else◌, ◌-◌, refl, sym, ap, ◌∙◌, true≢false, arith, length-append, String}
use Rattle.std.specs.BTreeMap.{BTreeMap, get_by_text}
use Rattle.std.specs.List.{list_any}
use Rattle.std.specs.Map.{update}
use Rattle.std.specs.Str.{bytes_eq}
use Rattle.std.specs.declared.alloc.Global.{Global}
use Rattle.std.proofs.Math.Seq.{get_or-append_seam}
use Rattle.std.proofs.lemmas.Bool.{cases_order}
use Rattle.std.proofs.lemmas.List.{length-take, take-append-le, get_or_append_left}
use Rattle.std.proofs.lemmas.List.Folds.{list_any-append, list_any_at}
use Rattle.std.proofs.lemmas.Option.{slice_get-get_or, slice_get_within, slice_get_read, get_or_from_slice_get}
use Rattle.std.proofs.lemmas.Slice.Eq.{bytes_eq-Decides}
use Rattle.lq_base_names.specs.NameTable.{predeclared, with_text, AreNumbers, HasOneNumberEach, IsNameTable}

-- the texts before the last one
pub before-last : (ts : List (List ℕ)) (t : List ℕ) (i : ℕ) → i < length ts → slice_get (ts ++ t ∷ []) i ≡ slice_get ts i
before-last ts t i within =
    slice_get-get_or (ts ++ t ∷ []) i t (omega (arith, within, length-append ts (t ∷ [])))
    ∙ ap Some (get_or_append_left ts (t ∷ []) t i within)
    ∙ sym (slice_get-get_or ts i t within)

pub at-last : (ts : List (List ℕ)) (t : List ℕ) → slice_get (ts ++ t ∷ []) (length ts) ≡ Some t
at-last ts t =
    slice_get-get_or (ts ++ t ∷ []) (length ts) t (omega (arith, length-append ts (t ∷ [])))
    ∙ ap Some (get_or-append_seam ts t [] t)

-- a text that has a number is there
pub there : (ts : List (List ℕ)) (q : List ℕ) (i : ℕ) → slice_get ts i ≡ Some q → list_any (bytes_eq q) ts ≡ true
there ts q i at =
    list_any_at (bytes_eq q) ts i q (slice_get_within ts i q at) ((bytes_eq-Decides q (get_or ts i q)).1 (sym (get_or_from_slice_get ts i q q at)))

-- a text that is there adds none, and another one goes last
pub with_text-there : (ts : List (List ℕ)) (t : List ℕ) → list_any (bytes_eq t) ts ≡ true → with_text ts t ≡ ts
with_text-there ts t is = ap (λ c. if c then ts else ts ++ t ∷ []) is

pub with_text-new : (ts : List (List ℕ)) (t : List ℕ) → list_any (bytes_eq t) ts ≡ false → with_text ts t ≡ ts ++ t ∷ []
with_text-new ts t is = ap (λ c. if c then ts else ts ++ t ∷ []) is

-- the last text differs from those before it
apart : (ts : List (List ℕ)) (t : List ℕ) (j : ℕ) → list_any (bytes_eq t) ts ≡ false → j < length ts → slice_get (ts ++ t ∷ []) j ≡ Some t → ⊥
apart ts t j new within same = true≢false (sym (there ts t j (sym (before-last ts t j within) ∙ same)) ∙ new)

pub one_number_each : (ts : List (List ℕ)) (t : List ℕ) → list_any (bytes_eq t) ts ≡ false → HasOneNumberEach ts → HasOneNumberEach (ts ++ t ∷ [])
one_number_each ts t new distinct i j within_i within_j same = by (cases_order i (length ts)) (cases_order j (length ts))
  where
    by : (i ≡ length ts) ⊎ ((i < length ts) ⊎ (length ts < i)) → (j ≡ length ts) ⊎ ((j < length ts) ⊎ (length ts < j)) → i ≡ j
    by (inl a) (inl b) = a ∙ sym b
    by (inl a) (inr (inl b)) = absurd (apart ts t j new b (sym same ∙ ap (slice_get (ts ++ t ∷ [])) a ∙ at-last ts t))
    by (inr (inl a)) (inl b) = absurd (apart ts t i new a (same ∙ ap (slice_get (ts ++ t ∷ [])) b ∙ at-last ts t))
    by (inr (inl a)) (inr (inl b)) = distinct i j a b (sym (before-last ts t i a) ∙ same ∙ before-last ts t j b)
    by (inr (inr a)) _ = absurd (omega (arith, a, within_i, length-append ts (t ∷ [])))
    by _ (inr (inr b)) = absurd (omega (arith, b, within_j, length-append ts (t ∷ [])))

-- the map with one more number
pub more_numbers : (ts : List (List ℕ)) (t : List ℕ) (m n : BTreeMap (String Global) ℕ) → AreNumbers ts m → ((q : List ℕ) → get_by_text n q ≡ update bytes_eq (get_by_text m) t (Some (length ts)) q) → AreNumbers (ts ++ t ∷ []) n
more_numbers ts t m n table one = record { known = known; others = others }
  where
    known-by : (q : List ℕ) (k : ℕ) (b : Bool) → bytes_eq t q ≡ b → cond b (Some (length ts)) (get_by_text m q) ≡ Some k → slice_get (ts ++ t ∷ []) k ≡ Some q
    known-by q k true is at =
        let number : length ts ≡ k = cc in
        ap (slice_get (ts ++ t ∷ [])) (sym number) ∙ at-last ts t ∙ ap Some ((bytes_eq-Decides t q).0 is)
    known-by q k false is at =
        let old = table.known q k at in
        before-last ts t k (slice_get_within ts k q old) ∙ old

    known : (q : List ℕ) (k : ℕ) → get_by_text n q ≡ Some k → slice_get (ts ++ t ∷ []) k ≡ Some q
    known q k at = known-by q k (bytes_eq t q) refl (sym (one q) ∙ at)

    last-by : (q : List ℕ) (b : Bool) → bytes_eq q t ≡ b → bytes_eq t q ≡ false → b ≡ false
    last-by q false _ _ = refl
    last-by q true is other = absurd (true≢false (sym ((bytes_eq-Decides t q).1 (sym ((bytes_eq-Decides q t).0 is))) ∙ other))

    others-by : (q : List ℕ) (b : Bool) → bytes_eq t q ≡ b → cond b (Some (length ts)) (get_by_text m q) ≡ None → list_any (bytes_eq q) (ts ++ t ∷ []) ≡ false
    others-by q true is at = cc
    others-by q false is at =
        list_any-append (bytes_eq q) ts (t ∷ [])
        ∙ ap (λ b. b || (bytes_eq q t || false)) (table.others q at)
        ∙ ap (λ b. b || false) (last-by q (bytes_eq q t) refl is)

    others : (q : List ℕ) → get_by_text n q ≡ None → list_any (bytes_eq q) (ts ++ t ∷ []) ≡ false
    others q at = others-by q (bytes_eq t q) refl (sym (one q) ∙ at)

-- one more text keeps a table a table
pub IsNameTable-with_text : (ts new : List (List ℕ)) (t : List ℕ) → IsNameTable ts → new ≡ with_text ts t → HasOneNumberEach new → length ts < 2 ^ 32 - 1 → IsNameTable new
IsNameTable-with_text ts new t table is distinct room = record {
  begins = ap (take (length predeclared)) is ∙ by_begins (list_any (bytes_eq t) ts);
  distinct = distinct;
  small = rw is (by_small (list_any (bytes_eq t) ts));
}
  where
    long : 12 ≤ length ts
    long = omega (arith, ap length table.begins, length-take {A = List ℕ})

    by_begins : (b : Bool) → take 12 (if b then ts else ts ++ t ∷ []) ≡ predeclared
    by_begins true = table.begins
    by_begins false = take-append-le 12 ts (t ∷ []) long ∙ table.begins

    by_small : (b : Bool) → length (if b then ts else ts ++ t ∷ []) < 2 ^ 32
    by_small true = omega (arith, room)
    by_small false = omega (arith, room, length-append ts (t ∷ []))
