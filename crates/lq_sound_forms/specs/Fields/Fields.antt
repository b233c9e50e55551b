-- The fields of a constructor's value: what they inhabit by the relation, and by the typing rules.
use Rattle.std.specs.Prelude.{◌≡◌, ◌↔◌, ℕ, suc, false, [], ◌∷◌}
use Rattle.lq_logic_predicates.specs.ClosedImplication.{EachTrueIn}
use Rattle.lq_logic_predicates.specs.declared.symbol.Symbol.{Symbol}
use Rattle.lq_logic_predicates.specs.declared.symbol.Symbol.TheVariants as symbol
use Rattle.lq_meaning_steps.specs.Model.Core.{Value, v_build, Values}
use Rattle.lq_refined_types.specs.Parts.Assignment.{parts_under}
use Rattle.lq_refined_types.specs.Parts.Substitution.{Subst}
use Rattle.lq_text_tree.specs.MlType.{MlTypes}
use Rattle.lq_text_tree.specs.Types.{Constructor}
use Rattle.lq_refined_types.specs.Types.Refined.{Matrix, Refined, int_with, bool_with, unit_type, function, tuple_of, array_with, data_with, map_with, type_variable, Refineds, none, more, Kind, number, truth_value, object, other, kind, top, type_at, arguments_of, matrix_of}
use Rattle.lq_refined_types.specs.Types.Unfolding.{cell}
use Rattle.lq_refined_types.specs.Types.Unfolding as open_types
use Rattle.lq_refined_rules.specs.Checks.Basis.{Basis}
use Rattle.lq_refined_rules.specs.Checks.Operation.{datatype_of, equations_by}
use Rattle.lq_sound_values.specs.Inhabitants.Truth.{Givens, given, Objects, meaning_of, Scene, AreTrue}
use Rattle.lq_sound_values.specs.Inhabitants.Shut.{Shuts, shut_all, field_values, unfolded}
use Rattle.lq_sound_values.specs.Inhabitants.Inhabits.{Table, AllFitBy, CallsBelow, SameBelow, Makes}
use Rattle.lq_sound_values.specs.Inclusion.Laws.{IsScene}
use Rattle.lq_sound_values.specs.Inclusion.Symbols.{Symbols, with_symbol, Lacks}
use Rattle.lq_sound_values.specs.Runs.Closed.{with_value, EachSorted}
use Rattle.lq_sound_forms.specs.Fields.Standing.{StandsOn}

-- values inhabit types one by one
abbrev pub AllInhabit : Scene → ℕ → Table → Shuts → Values → Type 0
AllInhabit S n = AllFitBy S (CallsBelow S n) (SameBelow S n)

-- ---- symbols of fields

-- these and one more, where a value of the kind is no truth value, and where it is one
abbrev pub with_term : Kind → Symbols → Symbol → Symbols
with_term number P x = with_symbol P x
with_term truth_value P x = P
with_term object P x = with_symbol P x
with_term other P x = with_symbol P x

abbrev pub with_flag : Kind → Symbols → Symbol → Symbols
with_flag number P x = P
with_flag truth_value P x = with_symbol P x
with_flag object P x = P
with_flag other P x = P

-- `#k` for each of the fields from the one behind the first j on that is no truth value, and for each that is one
abbrev pub terms_from : ℕ → Refineds → Symbols
terms_from j none = λ y. false
terms_from j (more t ts) = with_term (kind t) (terms_from (suc j) ts) (symbol.Position (suc j))

abbrev pub flags_from : ℕ → Refineds → Symbols
flags_from j none = λ y. false
flags_from j (more t ts) = with_flag (kind t) (flags_from (suc j) ts) (symbol.Position (suc j))

-- ---- datatypes

module _ (S : Scene) (d : ℕ) (Ts : Refineds) (M : Matrix) where
  -- the types of a constructor's fields, with something put for `#1`, `#2`, ..
  abbrev pub field_types : Subst → ℕ → MlTypes → Refineds
  field_types θ c fs = open_types.unfolded S.setting.scopes θ d Ts M c fs

  -- terms of entries speak of v and of fields that are no truth values, and flags of v and of those that are
  abbrev pub AreEntriesSorted : ℕ → MlTypes → Type 0
  AreEntriesSorted c fs =
      (j i : ℕ)
      → EachSorted (with_value (terms_from 0 (field_types [] c fs))) (with_value (flags_from 0 (field_types [] c fs))) (parts_under S.assignment (cell M c j i))

  -- an argument that is a type variable has no top, so no entry
  abbrev pub HasNoEntry : ℕ → ℕ → ℕ → Refined → Type 0
  HasNoEntry c j i (type_variable a) = cell M c j i ≡ []
  HasNoEntry c j i (int_with p) = Unit {0}
  HasNoEntry c j i (bool_with p) = Unit {0}
  HasNoEntry c j i unit_type = Unit {0}
  HasNoEntry c j i (function x t u) = Unit {0}
  HasNoEntry c j i (tuple_of us) = Unit {0}
  HasNoEntry c j i (array_with e p) = Unit {0}
  HasNoEntry c j i (data_with b us m p) = Unit {0}
  HasNoEntry c j i (map_with e p) = Unit {0}

  abbrev pub HaveNoEntries : ℕ → ℕ → ℕ → Refineds → Type 0
  HaveNoEntries c j i none = Unit {0}
  HaveNoEntries c j i (more t ts) = HasNoEntry c j i t × HaveNoEntries c j (suc i) ts

  -- what is put for `#1`, `#2`, .. stands for the values of the fields, at each value for v
  abbrev pub PutsFields : Subst → ℕ → MlTypes → Givens → Values → Type 0
  PutsFields θ c fs σ vs =
      (u : Value)
      → StandsOn S.objects θ (with_value (terms_from 0 (field_types [] c fs))) (with_value (flags_from 0 (field_types [] c fs))) (given symbol.Value u ∷ σ) (given symbol.Value u ∷ field_values 0 vs)

-- The matrix is one for the fields of the constructor, and the tops of the arguments don't speak of fields.
pub record IsMatrixFor (S : Scene) (d : ℕ) (Ts : Refineds) (M : Matrix) (c : ℕ) (fs : MlTypes) : Type 0 where
  pub entries : AreEntriesSorted S d Ts M c fs
  pub variables : (j : ℕ) → HaveNoEntries S d Ts M c j 0 Ts
  pub tops : (i j : ℕ) → Lacks S.assignment (symbol.Position (suc j)) (top (type_at Ts i))

-- The fields of a constructor's value inhabit what the datatype unfolds to exactly where they inhabit the types that the typing rules give
-- them.
abbrev pub FieldsFit : Type 0
FieldsFit =
    (S : Scene) → IsScene S → (d : ℕ) (Ts : Refineds) (M : Matrix) (c : ℕ) (k : Constructor) → Makes S.setting.constructors d c k
    → IsMatrixFor S d Ts M c k.fields → (θ : Subst) (σ : Givens) (by : Shuts) (vs : Values) → PutsFields S d Ts M θ c k.fields σ vs
    → (n : ℕ) (W : Table)
    → AllInhabit S n W (unfolded (field_values 0 vs) d (shut_all σ by Ts) M c 0 k.fields) vs ↔ AllInhabit S n W (shut_all σ by (field_types S d Ts M θ c k.fields)) vs

-- ---- measures

-- each equation of a constructor is true of its values, with the fields' values for `#1`, `#2`, ..
abbrev pub KnowsMeasures : Basis → Objects → Type 0
KnowsMeasures P O =
    (c : ℕ) (vs : Values) → EachTrueIn (meaning_of O (given symbol.Value (v_build c vs) ∷ field_values 0 vs)) (P.equations c)

-- so it is true with what stands for the value and for its fields
abbrev pub EquationsAreTrue : Type 0
EquationsAreTrue =
    (S : Scene) (P : Basis) → KnowsMeasures P S.objects → (θ : Subst) (p q : Symbols) (σ : Givens) (c : ℕ) (vs : Values)
    → StandsOn S.objects θ p q σ (given symbol.Value (v_build c vs) ∷ field_values 0 vs) → EachSorted p q (P.equations c)
    → AreTrue S σ (equations_by P c θ)

-- A datatype as the type of a constructor's values: its matrix is one for the fields, and the constructor's equations speak in terms of v and of
-- fields that are no truth values, and in flags of those that are.
pub record IsDatatypeFor (S : Scene) (P : Basis) (c : ℕ) (k : Constructor) (t : Refined) : Type 0 where
  pub matrix : IsMatrixFor S (datatype_of t) (arguments_of t) (matrix_of t) c k.fields
  pub equations : EachSorted (with_value (terms_from 0 (field_types S (datatype_of t) (arguments_of t) (matrix_of t) [] c k.fields))) (flags_from 0 (field_types S (datatype_of t) (arguments_of t) (matrix_of t) [] c k.fields)) (P.equations c)
