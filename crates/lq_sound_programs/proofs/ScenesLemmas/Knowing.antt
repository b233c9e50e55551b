-- Where the equations are those of measures, they are true of values with their fields for `#1`, `#2`, ..
use Rattle.std.proofs.Common.{◌≡◌, ◌∙◌, ◌<◌, ◌+◌, ℕ, zero, suc, Bool, true, false, cond, ◌==◌, List, ◌∷◌, length, Option, Some, None, slice_get, refl, sym, ap, subst, arith}
use Rattle.std.proofs.lemmas.Bool.{eqb-true, eq-eqb}
use Rattle.lq_refined_measures.specs.Equations.Facts.{or_zero}
use Rattle.lq_meaning_steps.specs.Model.Core.{Value, v_whole, v_flag, v_unit, v_fun, v_rec, v_tuple, v_build, v_array, Values, no_values, more_values}
use Rattle.lq_logic_predicates.specs.ClosedImplication.{EachTrueIn}
use Rattle.lq_logic_predicates.specs.Sum.{var}
use Rattle.lq_logic_predicates.specs.Truth.{Meaning, object_of, term_value}
use Rattle.lq_logic_predicates.specs.declared.symbol.Symbol.TheVariants as symbol
use Rattle.lq_text_qualifiers.specs.Sorting.Sorted.{Measure}
use Rattle.lq_text_tree.specs.Types.{Constructor, count_types}
use Rattle.lq_refined_rules.specs.Checks.Basis.{Basis}
use Rattle.lq_sound_values.specs.Inhabitants.Truth.{Givens, given, meaning_of, Objects, as_number, as_object}
use Rattle.lq_sound_values.specs.Inhabitants.Truth as givens
use Rattle.lq_sound_values.specs.Inhabitants.Shut.{field_values}
use Rattle.lq_refined_measures.specs.Values.Laws.{EquationsHold, ValuesHaveNumbers}
use Rattle.lq_refined_measures.specs.Values.Reading.{AskBelow, FieldsStand, HasNumbers, number_in, object_by, value_at}
use Rattle.lq_sound_programs.specs.Scenes.Scenes.{equations_at, HasMeasures, KnowsObjects, objects_of, positions_from}

-- ---- what the relation reads of a value is what measures read of it

number_read : (o : Option Value) → as_number o ≡ number_in o
number_read None = refl
number_read (Some (v_whole n)) = refl
number_read (Some (v_flag b)) = refl
number_read (Some v_unit) = refl
number_read (Some (v_fun q b)) = refl
number_read (Some (v_rec g q b)) = refl
number_read (Some (v_tuple vs)) = refl
number_read (Some (v_build c vs)) = refl
number_read (Some (v_array r n)) = refl

object_read : (O : Objects) (o : Option Value) → as_object O o ≡ object_by O.number_of o
object_read O None = refl
object_read O (Some (v_whole n)) = refl
object_read O (Some (v_flag b)) = refl
object_read O (Some v_unit) = refl
object_read O (Some (v_fun q b)) = refl
object_read O (Some (v_rec g q b)) = refl
object_read O (Some (v_tuple vs)) = refl
object_read O (Some (v_build c vs)) = refl
object_read O (Some (v_array r n)) = refl

-- ---- fields

field_given : (vs : Values) (j n : ℕ) → givens.value_at (field_values j vs) (symbol.Position (suc (j + n))) ≡ value_at vs n
field_given no_values j n = refl
field_given (more_values v vs) j zero =
    let e : suc j ≡ suc (j + 0) = omega arith in
    ap (λ (b : Bool). cond b (Some v) (givens.value_at (field_values (suc j) vs) (symbol.Position (suc (j + 0))))) (eq-eqb (suc j) (suc (j + 0)) e)
field_given (more_values v vs) j (suc n) =
    let e : suc (j + suc n) ≡ suc (suc j + n) = omega arith in
    ap (λ (b : Bool). cond b (Some v) (givens.value_at (field_values (suc j) vs) (symbol.Position (suc (j + suc n))))) (other (suc j == suc (j + suc n)) refl)
    ∙ ap (λ (k : ℕ). givens.value_at (field_values (suc j) vs) (symbol.Position k)) e ∙ field_given vs (suc j) n
  where
    other : (b : Bool) → (suc j == suc (j + suc n)) ≡ b → (suc j == suc (j + suc n)) ≡ false
    other true h = let e : suc j ≡ suc (j + suc n) = eqb-true (suc j) (suc (j + suc n)) h in absurd (omega (arith, e))
    other false h = h

position_there : (j k n : ℕ) → n < length (positions_from j k) → or_zero (slice_get (positions_from j k) n) ≡ var (symbol.Position (suc (j + n)))
position_there j zero n l = absurd (omega (arith, l))
position_there j (suc k) zero l = let e : suc j ≡ suc (j + 0) = omega arith in ap (λ (i : ℕ). var (symbol.Position i)) e
position_there j (suc k) (suc n) l =
    let e : suc (suc j + n) ≡ suc (j + suc n) = omega arith in
    let m : n < length (positions_from (suc j) k) = omega (arith, l) in
    position_there (suc j) k n m ∙ ap (λ (i : ℕ). var (symbol.Position i)) e

positions_many : (j k : ℕ) → length (positions_from j k) ≡ k
positions_many j zero = refl
positions_many j (suc k) = ap suc (positions_many (suc j) k)

fields_stand : (O : Objects) (c : ℕ) (vs : Values) (k : ℕ) → FieldsStand O.number_of (meaning_of O (given symbol.Value (v_build c vs) ∷ field_values 0 vs)) (positions_from 0 k) vs
fields_stand O c vs k n l =
    let M : Meaning = meaning_of O (given symbol.Value (v_build c vs) ∷ field_values 0 vs) in
    let e : or_zero (slice_get (positions_from 0 k) n) ≡ var (symbol.Position (suc (0 + n))) = position_there 0 k n l in
    let f : givens.value_at (field_values 0 vs) (symbol.Position (suc (0 + n))) ≡ value_at vs n = field_given vs 0 n in
    record {
      number = ap (term_value M) e ∙ ap as_number f ∙ number_read (value_at vs n);
      object = ap (object_of M) e ∙ ap (as_object O) f ∙ object_read O (value_at vs n);
    }

module _ (hold : EquationsHold) (numbers : ValuesHaveNumbers) (P : Basis) (ms : List Measure) (place : ℕ → ℕ) (h : HasMeasures P ms place) where
  abbrev own : HasNumbers ms place
  own = numbers ms place h.names

  each_holds : (c : ℕ) (vs : Values) (o : Option Constructor) → P.setting.constructors c ≡ o
      → EachTrueIn (meaning_of (objects_of own) (given symbol.Value (v_build c vs) ∷ field_values 0 vs)) (equations_at ms place c o)
  each_holds c vs None e = tt
  each_holds c vs (Some k) e =
      hold ms place own.number_of (meaning_of (objects_of own) (given symbol.Value (v_build c vs) ∷ field_values 0 vs)) own.are_read k.datatype c vs
      (positions_from 0 (count_types k.fields)) (var symbol.Value)
      (subst (AskBelow ms k.datatype (place c)) (sym (positions_many 0 (count_types k.fields))) (h.below c k e))
      (fields_stand (objects_of own) c vs (count_types k.fields)) refl

  pub known : KnowsObjects P
  known =
      record {
        objects = objects_of own;
        lengths = λ r n. own.are_read.lengths (v_array r n);
        measures =
            λ c vs.
            subst (EachTrueIn (meaning_of (objects_of own) (given symbol.Value (v_build c vs) ∷ field_values 0 vs))) (sym (h.equations_are c))
            (each_holds c vs (P.setting.constructors c) refl);
      }
