-- A term over the fields has, where predicates read measures as they are, the number that it is of the values of the fields.
use Rattle.std.proofs.Common.{◌≡◌, ◌∙◌, ℕ, zero, suc, ℤ, pos, List, [], ◌∷◌, length, map, Option, Some, None, slice_get, refl, sym, ap}
use Rattle.lq_refined_measures.specs.Equations.Facts.{field_by, measure_name, measured_by, operated, with_fields}
use Rattle.lq_meaning_steps.specs.Model.Core.{Value, v_whole, v_flag, v_unit, v_fun, v_rec, v_tuple, v_build, v_array, Values, no_values, more_values}
use Rattle.lq_base_names.specs.declared.operation.ArithOp.{ArithOp}
use Rattle.lq_base_names.specs.declared.operation.ArithOp.TheVariants as op
use Rattle.lq_logic_predicates.specs.Sum.{Sum}
use Rattle.lq_logic_predicates.specs.Truth.{Meaning, object_of, term_value}
use Rattle.lq_text_qualifiers.specs.Sorting.Sorted.{Variable, value, field_at, placeholder_at, Term, literal, variable, length_of, measured, operation, negative, Measure}
use Rattle.lq_refined_measures.specs.Values.Values.{Seen, all_seen, made_by, nothing_seen, number_of_term, result_of, seen, seen_by, seen_or_nothing}
use Rattle.lq_refined_measures.specs.Values.Reading.{AsksBelow, FieldsStand, IsBelow, number_in, object_by, ReadsMeasures, value_at}

-- the name of a measure by its number
name_at : (ms : List Measure) (n : ℕ) (m : Measure) → slice_get ms n ≡ Some m → slice_get (map measure_name ms) n ≡ Some m.name
name_at [] n m h = absurd (none h)
  where
    none : None ≡ Some m → ⊥
    none e = cc
name_at (k ∷ ms) zero m h = let e : k ≡ m = cc in cc
name_at (k ∷ ms) (suc n) m h = name_at ms n m h

no_name_at : (ms : List Measure) (n : ℕ) → slice_get ms n ≡ None → slice_get (map measure_name ms) n ≡ None
no_name_at [] n h = refl
no_name_at (k ∷ ms) zero h = absurd (none h)
  where
    none : Some k ≡ None → ⊥
    none e = cc
no_name_at (k ∷ ms) (suc n) h = no_name_at ms n h

-- the results of operations on equal numbers
operated_value : (M : Meaning) (o : ArithOp) (a b : Sum) (x y : ℤ) → term_value M a ≡ x → term_value M b ≡ y → term_value M (operated o a b) ≡ result_of o x y
operated_value M op.Add a b x y e f = cc
operated_value M op.Sub a b x y e f = cc
operated_value M op.Mul a b x y e f = cc
operated_value M op.Div a b x y e f = cc
operated_value M op.Mod a b x y e f = cc

module _ (ms : List Measure) (place : ℕ → ℕ) (number_of : Value → ℕ) (M : Meaning) (reads : ReadsMeasures ms place number_of M) where
  -- what is seen of a value, or of none
  abbrev seen_of : Option Value → Seen
  seen_of None = nothing_seen
  seen_of (Some v) = seen ms place v

  seen_at : (vs : Values) (n : ℕ) → seen_or_nothing (slice_get (all_seen ms place vs) n) ≡ seen_of (value_at vs n)
  seen_at no_values n = refl
  seen_at (more_values v vs) zero = refl
  seen_at (more_values v vs) (suc n) = seen_at vs n

  number_seen : (o : Option Value) → number_in o ≡ (seen_of o).number
  number_seen None = refl
  number_seen (Some (v_whole n)) = refl
  number_seen (Some (v_flag b)) = refl
  number_seen (Some v_unit) = refl
  number_seen (Some (v_fun q b)) = refl
  number_seen (Some (v_rec g q b)) = refl
  number_seen (Some (v_tuple vs)) = refl
  number_seen (Some (v_build c vs)) = refl
  number_seen (Some (v_array r n)) = refl

  length_seen : (o : Option Value) → M.length (object_by number_of o) ≡ (seen_of o).length
  length_seen None = reads.lengths v_unit
  length_seen (Some v) = reads.lengths v

  measure_seen : (i : ℕ) (m : Measure) → slice_get ms i ≡ Some m → (o : Option Value) → M.measured (record { 0 = m.name }) (object_by number_of o) ≡ (seen_of o).measures i
  measure_seen i m h None = reads.measures i m v_unit h
  measure_seen i m h (Some v) = reads.measures i m v h

  -- a measure that there isn't is 0
  no_measure_seen : (i : ℕ) → slice_get ms i ≡ None → (o : Option Value) → pos 0 ≡ (seen_of o).measures i
  no_measure_seen i h None = refl
  no_measure_seen i h (Some (v_whole n)) = refl
  no_measure_seen i h (Some (v_flag b)) = refl
  no_measure_seen i h (Some v_unit) = refl
  no_measure_seen i h (Some (v_fun q b)) = refl
  no_measure_seen i h (Some (v_rec g q b)) = refl
  no_measure_seen i h (Some (v_tuple vs)) = refl
  no_measure_seen i h (Some (v_build c vs)) = sym (ap (made_by ms place c (all_seen ms place vs)) h)
  no_measure_seen i h (Some (v_array r n)) = refl

  module _ (vs : Values) (xs : List Sum) (all : FieldsStand number_of M xs vs) where
    -- what a variable stands for
    abbrev value_by : Variable → Option Value
    value_by (field_at n) = value_at vs n
    value_by value = None
    value_by (placeholder_at n) = None

    seen_there : (x : Variable) → seen_by (all_seen ms place vs) x ≡ seen_of (value_by x)
    seen_there (field_at n) = seen_at vs n
    seen_there value = refl
    seen_there (placeholder_at n) = refl

    number_there : (x : Variable) → IsBelow (length xs) x → term_value M (field_by xs x) ≡ number_in (value_by x)
    number_there (field_at n) h = (all n h).number
    number_there value h = refl
    number_there (placeholder_at n) h = refl

    object_there : (x : Variable) → IsBelow (length xs) x → object_of M (field_by xs x) ≡ object_by number_of (value_by x)
    object_there (field_at n) h = (all n h).object
    object_there value h = refl
    object_there (placeholder_at n) h = refl

    measure_read : (i : ℕ) (x : Variable) → IsBelow (length xs) x → (o : Option Measure) → slice_get ms i ≡ o
        → term_value M (measured_by (slice_get (map measure_name ms) i) (field_by xs x)) ≡ (seen_of (value_by x)).measures i
    measure_read i x b None h = ap (λ (f : Option ℕ). term_value M (measured_by f (field_by xs x))) (no_name_at ms i h) ∙ no_measure_seen i h (value_by x)
    measure_read i x b (Some m) h =
        ap (λ (f : Option ℕ). term_value M (measured_by f (field_by xs x))) (name_at ms i m h) ∙ ap (M.measured (record { 0 = m.name })) (object_there x b)
        ∙ measure_seen i m h (value_by x)

    pub term_is : (t : Term) → AsksBelow (length xs) t → term_value M (with_fields (map measure_name ms) xs t) ≡ number_of_term (all_seen ms place vs) t
    term_is (literal n) h = refl
    term_is (variable x) h = number_there x h ∙ number_seen (value_by x) ∙ sym (ap (λ (s : Seen). s.number) (seen_there x))
    term_is (length_of x) h = ap M.length (object_there x h) ∙ length_seen (value_by x) ∙ sym (ap (λ (s : Seen). s.length) (seen_there x))
    term_is (measured i x) h = measure_read i x h (slice_get ms i) refl ∙ sym (ap (λ (s : Seen). s.measures i) (seen_there x))
    term_is (operation o a b) h =
        operated_value M o (with_fields (map measure_name ms) xs a) (with_fields (map measure_name ms) xs b) (number_of_term (all_seen ms place vs) a)
        (number_of_term (all_seen ms place vs) b) (term_is a h.0) (term_is b h.1)
    term_is (negative a) h = let e : term_value M (with_fields (map measure_name ms) xs a) ≡ number_of_term (all_seen ms place vs) a = term_is a h in cc
