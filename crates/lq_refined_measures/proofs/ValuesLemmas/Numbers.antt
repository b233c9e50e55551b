-- A value's number is its length and all its measures.
use Rattle.std.proofs.Common.{◌≡◌, ◌∙◌, ℕ, zero, suc, ℤ, pos, Bool, true, false, cond, ◌==◌, List, [], ◌∷◌, Some, None, slice_get, refl, ap}
use Rattle.std.proofs.lemmas.Bool.{eqb-true, eq-eqb}
use Rattle.lq_meaning_steps.specs.Model.Core.{Value, v_whole, v_flag, v_unit, v_fun, v_rec, v_tuple, v_build, v_array}
use Rattle.lq_base_names.specs.declared.name.Name.{Name}
use Rattle.lq_text_qualifiers.specs.Sorting.Sorted.{Measure}
use Rattle.lq_refined_measures.specs.Values.Values.{measure_of, seen}
use Rattle.lq_refined_measures.specs.Values.Reading.{NamesDiffer, object_by}
use Rattle.lq_refined_measures.specs.Values.Laws.{ValuesHaveNumbers}
use Rattle.lq_refined_measures.proofs.ValuesLemmas.Pairing.{number_for, pair_at, pair_there, place_of, whole_at, whole_there}

-- so many whole numbers as one
abbrev all_as_one : List Measure → (ℕ → ℤ) → ℕ
all_as_one [] g = 0
all_as_one (m ∷ ms) g = place_of (number_for (g 0)) (all_as_one ms (λ i. g (suc i)))

-- that of the first measure with this name
abbrev read_by : List Measure → ℕ → ℕ → ℤ
read_by [] f n = pos 0
read_by (m ∷ ms) f n = cond (m.name == f) (whole_at (pair_at n).0) (read_by ms f (pair_at n).1)

later_differ : (m : Measure) (ms : List Measure) → NamesDiffer (m ∷ ms) → NamesDiffer ms
later_differ m ms d i j k l h g e = let s : suc i ≡ suc j = d (suc i) (suc j) k l h g e in cc

read_there : (ms : List Measure) (g : ℕ → ℤ) → NamesDiffer ms → (i : ℕ) (m : Measure) → slice_get ms i ≡ Some m → read_by ms m.name (all_as_one ms g) ≡ g i
read_there [] g d i m h = absurd (none h)
  where
    none : None ≡ Some m → ⊥
    none e = cc
read_there (k ∷ ms) g d zero m h =
    let e : k ≡ m = cc in
    let here : (k.name == m.name) ≡ true = eq-eqb k.name m.name (ap (λ (x : Measure). x.name) e) in
    ap (λ (b : Bool). cond b (whole_at (pair_at (all_as_one (k ∷ ms) g)).0) (read_by ms m.name (pair_at (all_as_one (k ∷ ms) g)).1)) here
    ∙ ap (λ (p : ℕ × ℕ). whole_at p.0) (pair_there (number_for (g 0)) (all_as_one ms (λ i. g (suc i)))) ∙ whole_there (g 0)
read_there (k ∷ ms) g d (suc i) m h =
    ap (λ (b : Bool). cond b (whole_at (pair_at (all_as_one (k ∷ ms) g)).0) (read_by ms m.name (pair_at (all_as_one (k ∷ ms) g)).1)) (other (k.name == m.name) refl)
    ∙ ap (λ (p : ℕ × ℕ). read_by ms m.name p.1) (pair_there (number_for (g 0)) (all_as_one ms (λ i. g (suc i))))
    ∙ read_there ms (λ j. g (suc j)) (later_differ k ms d) i m h
  where
    none : zero ≡ suc i → ⊥
    none e = cc

    other : (b : Bool) → (k.name == m.name) ≡ b → (k.name == m.name) ≡ false
    other true e = absurd (none (d zero (suc i) k m refl h (eqb-true k.name m.name e)))
    other false e = e

-- a value's number is behind 0, which is that of none
abbrev number_by : (ms : List Measure) → (ℕ → ℕ) → Value → ℕ
number_by ms place v = suc (place_of (number_for (seen ms place v).length) (all_as_one ms (λ i. measure_of ms place i v)))

abbrev length_by : ℕ → ℤ
length_by zero = pos 0
length_by (suc n) = whole_at (pair_at n).0

abbrev measure_by : List Measure → Name → ℕ → ℤ
measure_by ms f zero = pos 0
measure_by ms f (suc n) = read_by ms f.0 (pair_at n).1

module _ (ms : List Measure) (place : ℕ → ℕ) (d : NamesDiffer ms) where
  length_there : (v : Value) → length_by (number_by ms place v) ≡ (seen ms place v).length
  length_there v =
      ap (λ (p : ℕ × ℕ). whole_at p.0) (pair_there (number_for (seen ms place v).length) (all_as_one ms (λ i. measure_of ms place i v)))
      ∙ whole_there (seen ms place v).length

  measure_there : (i : ℕ) (m : Measure) (v : Value) → slice_get ms i ≡ Some m → measure_by ms (record { 0 = m.name }) (number_by ms place v) ≡ measure_of ms place i v
  measure_there i m v h =
      ap (λ (p : ℕ × ℕ). read_by ms m.name p.1) (pair_there (number_for (seen ms place v).length) (all_as_one ms (λ j. measure_of ms place j v)))
      ∙ read_there ms (λ j. measure_of ms place j v) d i m h

  lengths : (v : Value) → length_by (object_by (number_by ms place) (Some v)) ≡ (seen ms place v).length
  lengths (v_whole n) = refl
  lengths (v_flag b) = refl
  lengths v_unit = refl
  lengths (v_fun q b) = refl
  lengths (v_rec g q b) = refl
  lengths (v_tuple vs) = refl
  lengths (v_build c vs) = length_there (v_build c vs)
  lengths (v_array r n) = length_there (v_array r n)

  measures : (i : ℕ) (m : Measure) (v : Value) → slice_get ms i ≡ Some m
      → measure_by ms (record { 0 = m.name }) (object_by (number_by ms place) (Some v)) ≡ measure_of ms place i v
  measures i m (v_whole n) h = refl
  measures i m (v_flag b) h = refl
  measures i m v_unit h = refl
  measures i m (v_fun q b) h = refl
  measures i m (v_rec g q b) h = refl
  measures i m (v_tuple vs) h = refl
  measures i m (v_build c vs) h = measure_there i m (v_build c vs) h
  measures i m (v_array r n) h = measure_there i m (v_array r n) h

pub values_have_numbers : ValuesHaveNumbers
values_have_numbers ms place d =
    record {
      number_of = number_by ms place;
      lengths_by = length_by;
      measured_by = measure_by ms;
      are_read = record { lengths = lengths ms place d; measures = measures ms place d };
    }
