-- The places of the applications among the terms.
use Rattle.std.proofs.Common.{◌≡◌, ℕ, zero, suc, ◌+◌, ◌<◌, List, [], ◌∷◌, Bool, true, false, Some, cond, refl, arith, if◌then◌else◌, slice_get}
use Rattle.std.specs.List.{filter}
use Rattle.lq_prover_proof_tree.specs.Literals.Parts.{is_application, places_from}
use Rattle.lq_logic_predicates.specs.Sum.{Sum}

-- the place of an application, where the first term has the number n
pub record IsPlace (n : ℕ) (terms applications : List Sum) (k p : ℕ) : Type 0 where
  pub at : ℕ
  pub term : Sum
  pub place : p ≡ n + at
  pub here : slice_get terms at ≡ Some term
  pub among : slice_get applications k ≡ Some term

pub place_at : (n : ℕ) (ts : List Sum) (k p : ℕ) → slice_get (places_from n ts) k ≡ Some p → IsPlace n ts (filter is_application ts) k p
place_at n [] k p h = cc
place_at n (t ∷ ts) k p h = by (place_at (suc n) ts) (is_application t) k h
  where
    by : ((k p : ℕ) → slice_get (places_from (suc n) ts) k ≡ Some p → IsPlace (suc n) ts (filter is_application ts) k p) → (b : Bool) (k : ℕ)
        → slice_get (if b then n ∷ places_from (suc n) ts else places_from (suc n) ts) k ≡ Some p → IsPlace n (t ∷ ts) (cond b (t ∷ filter is_application ts) (filter is_application ts)) k p
    by rest true zero h = let e : n ≡ p = cc in record { at = 0; term = t; place = (omega arith); here = refl; among = refl }
    by rest true (suc k) h = let r = rest k p h in record { at = suc r.at; term = r.term; place = (let q = r.place in omega arith); here = r.here; among = r.among }
    by rest false k h = let r = rest k p h in record { at = suc r.at; term = r.term; place = (let q = r.place in omega arith); here = r.here; among = r.among }

-- a later application has a later place
pub place_rises : (n : ℕ) (ts : List Sum) (j k p q : ℕ) → j < k → slice_get (places_from n ts) j ≡ Some p → slice_get (places_from n ts) k ≡ Some q → p < q
place_rises n [] j k p q l g h = cc
place_rises n (t ∷ ts) j k p q l g h = by (place_rises (suc n) ts) (is_application t) j k l g h
  where
    by : ((j k p q : ℕ) → j < k → slice_get (places_from (suc n) ts) j ≡ Some p → slice_get (places_from (suc n) ts) k ≡ Some q → p < q) → (b : Bool) (j k : ℕ) → j < k
        → slice_get (if b then n ∷ places_from (suc n) ts else places_from (suc n) ts) j ≡ Some p
        → slice_get (if b then n ∷ places_from (suc n) ts else places_from (suc n) ts) k ≡ Some q → p < q
    by rest true zero zero l g h = absurd (omega arith)
    by rest true zero (suc k) l g h = let e : n ≡ p = cc in let r = place_at (suc n) ts k q h in let u = r.place in omega arith
    by rest true (suc j) zero l g h = absurd (omega arith)
    by rest true (suc j) (suc k) l g h = let m : j < k = omega arith in rest j k p q m g h
    by rest false j k l g h = rest j k p q l g h
