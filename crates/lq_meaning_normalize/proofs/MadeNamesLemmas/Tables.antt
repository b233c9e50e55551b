-- A table of the made names among some names.
use Rattle.std.proofs.Common.{◌≡◌, ◌∙◌, ℕ, suc, ◌+◌, ◌<◌, ◌≤◌, ◌==◌, Bool, true, false, cond, if◌then◌else◌, List, [], ◌∷◌, ◌++◌, length, take, get_or, Option, Some, None, refl, sym, ap, arith}
use Rattle.std.specs.Prelude.{slice_index_or}
use Rattle.std.specs.List.{filter}
use Rattle.std.specs.Option.{option_or}
use Rattle.std.proofs.lemmas.List.{append-nil, length_push, take_all}
use Rattle.std.proofs.lemmas.List.Elements.{filter_more}
use Rattle.lq_meaning_normalize.specs.MadeNames.Numbers.{number_from}
use Rattle.lq_meaning_normalize.specs.MadeNames.Table.{IsCounted}

-- one name more: it has the next number, unless it had one
number_pushed : (k : ℕ) (xs : List ℕ) (y x : ℕ)
    → number_from k (xs ++ y ∷ []) x ≡ (if y == x then option_or (number_from k xs x) (Some (k + length xs)) else number_from k xs x)
number_pushed k [] y x = by (y == x)
  where
    by : (b : Bool) → (if b then Some k else None) ≡ (if b then Some (k + 0) else None)
    by true = ap (λ n. Some n) (omega arith)
    by false = refl
number_pushed k (z ∷ xs) y x =
    by (z == x)
    (number_pushed (k + 1) xs y x
    ∙ ap (λ n. if y == x then option_or (number_from (k + 1) xs x) (Some n) else number_from (k + 1) xs x) (omega arith))
  where
    found : (c : Bool) → Some k ≡ (if c then option_or (Some k) (Some (k + suc (length xs))) else Some k)
    found true = refl
    found false = refl

    by : (b : Bool)
        → number_from (k + 1) (xs ++ y ∷ []) x ≡ (if y == x then option_or (number_from (k + 1) xs x) (Some (k + suc (length xs))) else number_from (k + 1) xs x)
        → (if b then Some k else number_from (k + 1) (xs ++ y ∷ []) x)
        ≡ (if y == x then option_or (if b then Some k else number_from (k + 1) xs x) (Some (k + suc (length xs))) else (if b then Some k else number_from (k + 1) xs x))
    by true rest = found (y == x)
    by false rest = rest

module _ (p : ℕ → Bool) (xs : List ℕ) where
  -- the table has the numbers of the made names among the first ones
  pub record Counts (i made : ℕ) (numbers : List (Option ℕ)) : Type 0 where
    pub count : made ≡ length (filter p (take i xs))
    pub few : made ≤ i
    pub each : (x : ℕ) → slice_index_or numbers x None ≡ number_from 1 (filter p (take i xs)) x

  more : (i d : ℕ) (b : Bool) → i < length xs → d ≡ get_or xs i d → p d ≡ b → filter p (take (i + 1) xs) ≡ filter p (take i xs) ++ cond b (d ∷ []) []
  more i d b within is e =
      filter_more p xs i d within
      ∙ ap (λ x. filter p (take i xs) ++ cond (p x) (x ∷ []) []) (sym is) ∙ ap (λ c. filter p (take i xs) ++ cond c (d ∷ []) []) e

  counted_by : (i d before made : ℕ) (old new : List (Option ℕ)) (b : Bool) → p d ≡ b → i < length xs → d ≡ get_or xs i d → IsCounted b old new d before made
      → Counts i before old → Counts (i + 1) made new
  counted_by i d before made old new true e within is h c =
      let ys = filter p (take i xs) in
      let longer : filter p (take (i + 1) xs) ≡ ys ++ d ∷ [] = more i d true within is e in
      let number : made ≡ 1 + length ys = let one = h.0 in let same = c.count in omega (arith, one, same) in
      record {
        count = let up = length_push ys d in let one = h.0 in let same = c.count in omega (arith, one, same, up) ∙ ap length (sym longer);
        few = let one = h.0 in let low = c.few in omega (arith, one, low);
        each = λ x.
            h.1 x
            ∙ ap (λ o. if d == x then option_or o (Some made) else o) (c.each x)
            ∙ ap (λ n. if d == x then option_or (number_from 1 ys x) (Some n) else number_from 1 ys x) number
            ∙ sym (ap (λ zs. number_from 1 zs x) longer ∙ number_pushed 1 ys d x);
      }
  counted_by i d before made old new false e within is h c =
      let ys = filter p (take i xs) in
      let same : ys ≡ filter p (take (i + 1) xs) = sym (more i d false within is e ∙ append-nil ys) in
      record {
        count = h.0 ∙ c.count ∙ ap length same;
        few = let one = h.0 in let low = c.few in omega (arith, one, low);
        each = λ x. ap (λ ns. slice_index_or ns x None) h.1 ∙ c.each x ∙ ap (λ zs. number_from 1 zs x) same;
      }

  pub counted_next : (i d before made : ℕ) (old new : List (Option ℕ)) → i < length xs → d ≡ get_or xs i d → IsCounted (p d) old new d before made
      → Counts i before old → Counts (i + 1) made new
  counted_next i d before made old new within is h c = counted_by i d before made old new (p d) refl within is h c

  pub all_counted : (i made : ℕ) (numbers : List (Option ℕ)) → length xs ≤ i → Counts i made numbers → (x : ℕ)
      → slice_index_or numbers x None ≡ number_from 1 (filter p xs) x
  all_counted i made numbers far c x = c.each x ∙ ap (λ ys. number_from 1 (filter p ys) x) (take_all i xs far)
