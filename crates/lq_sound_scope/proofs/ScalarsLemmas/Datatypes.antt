-- Scalar datatypes: they are datatypes for their constructors, and equations of measures with something put for v and for the fields.
use Rattle.std.proofs.Common.{◌≡◌, ℕ, suc, ◌+◌, ◌<◌, ◌≤◌, Bool, true, false, cond, List, [], ◌∷◌, map, Some, refl, ap, subst, arith}
use Rattle.std.proofs.lemmas.Bool.{lt-ltb}
use Rattle.lq_refined_rules.specs.Checks.Basis.{Basis}
use Rattle.lq_sound_forms.specs.Fields.Fields.{AreEntriesSorted, HaveNoEntries, IsDatatypeFor, flags_from, terms_from, with_flag, with_term}
use Rattle.lq_sound_values.specs.Inclusion.Apart.{CellsOn, of_fields}
use Rattle.lq_sound_values.specs.Inclusion.Symbols.{Symbols, with_symbol, SumOn}
use Rattle.lq_sound_scope.specs.Scopes.Over.{AreSorted, AreWithin, CellsOver, IsWithin, Names, PartsOver, SymbolOver, TypesOver, of_any_sort}
use Rattle.lq_sound_scope.proofs.ScopesLemmas.Assigned.{each_on, each_within, formula_put, or_cases, sorted_within, sum_within, wider}
use Rattle.lq_sound_scope.proofs.ScopesLemmas.Symbols.{same_is, within_one}
use Rattle.lq_sound_values.specs.Inhabitants.Truth.{Objects, Scene}
use Rattle.lq_sound_values.specs.NewNames.NewNames.{HasNoPositions}
use Rattle.lq_refined_types.specs.Parts.Assignment.{Assignment, parts_under}
use Rattle.lq_refined_types.specs.Parts.Part.{Scopes, known}
use Rattle.lq_refined_types.specs.Parts.Substitution.{Atom, Subst, flag_at, formula_by, sum_at, swap}
use Rattle.lq_logic_predicates.specs.Formula.{Formula}
use Rattle.lq_logic_predicates.specs.Sum.{same_symbol}
use Rattle.lq_logic_predicates.specs.declared.symbol.Symbol.{Symbol}
use Rattle.lq_logic_predicates.specs.declared.symbol.Symbol.TheVariants.{Position, Value}
use Rattle.lq_sound_forms.specs.Pures.Pures.{scene_of}
use Rattle.lq_refined_types.specs.Types.Refined.{Matrix, Refined, Refineds, none, more, int_with, bool_with, unit_type, function, tuple_of, array_with, data_with, map_with, type_variable, Kind, number, truth_value, object, other, kind, count, all_erased}
use Rattle.lq_refined_types.specs.Types.Unfolding.{all_bare, bare, cell, is_again, pushed, unfolded_from}
use Rattle.lq_sound_values.specs.Runs.Closed.{EachSorted, with_value}
use Rattle.lq_sound_scope.specs.Matrices.Laws.{ArgumentsLackFields, MatricesAreSorted}
use Rattle.lq_text_qualifiers.specs.Faults.Shapes.{Shape, int, bool, array, data_of, shape_of}
use Rattle.lq_text_qualifiers.specs.Faults.Shapes as shape
use Rattle.lq_refined_types.specs.Subtyping.Subtype.{fields_of}
use Rattle.lq_refined_templates.specs.Templates.Scopes.{Unknown}
use Rattle.lq_text_tree.specs.MlType as ml
use Rattle.lq_text_tree.specs.MlType.{MlType, MlTypes}
use Rattle.lq_text_tree.specs.Types.{Constructor, count_types, put, type_at}
use Rattle.lq_sound_scope.specs.Scalars.Data.{AreEquationsSorted, measured_from, with_measured}
use Rattle.lq_sound_scope.specs.Scalars.Written.{LackEntries}
use Rattle.lq_sound_scope.proofs.ScalarsLemmas.Standing.{FieldsOver, symbol_later, where_map}

-- ---- symbols of fields

within_term : (k : Kind) (N : Symbols) (x : Symbol) → IsWithin N (with_term k N x)
within_term number N x = within_one N x
within_term truth_value N x = λ y h. h
within_term object N x = within_one N x
within_term other N x = within_one N x

through : (N M L : Symbols) → IsWithin N M → IsWithin M L → IsWithin N L
through N M L w v y h = v y (w y h)

-- the fields of which equations may speak are terms, whatever the datatype's arguments
measured_terms : (scopes : Scopes) (θ : Subst) (d : ℕ) (ts : Refineds) (m : Matrix) (c j : ℕ) (fs : MlTypes)
    → IsWithin (measured_from j fs) (terms_from j (unfolded_from scopes θ d ts m c j fs))
measured_terms scopes θ d ts m c j ml.no_types = λ y h. h
measured_terms scopes θ d ts m c j (ml.more_types f fs) = one f (measured_terms scopes θ d ts m c (suc j) fs)
  where
    x : Symbol
    x = Position (suc j)

    N : Symbols
    N = measured_from (suc j) fs

    M : Symbols
    M = terms_from (suc j) (unfolded_from scopes θ d ts m c (suc j) fs)

    again : Refined
    again = data_with d (pushed scopes θ m c j 0 ts) m []

    skipped : IsWithin N M → (k : Kind) → IsWithin N (with_term k M x)
    skipped w k = through N M (with_term k M x) w (within_term k M x)

    at_data : IsWithin N M → (b : Bool) (e : ℕ) (us : Refineds) → IsWithin (with_symbol N x) (with_term (kind (cond b again (data_with e us [] []))) M x)
    at_data w true e us = wider N M x w
    at_data w false e us = wider N M x w

    one : (f : MlType) → IsWithin N M → IsWithin (with_measured (shape_of f) N x) (with_term (kind (cond (is_again d (count ts) f) again (bare ts f))) M x)
    one ml.int w = wider N M x w
    one ml.bool w = w
    one ml.unit w = skipped w other
    one (ml.var i) w = skipped w (kind (bare ts (ml.var i)))
    one (ml.arrow a b) w = skipped w other
    one (ml.tuple us) w = skipped w other
    one (ml.array a) w = wider N M x w
    one (ml.named e us) w = at_data w (is_again d (count ts) (ml.named e us)) e (all_bare ts us)
    one (ml.map_of a) w = skipped w other

-- symbols of so many fields
of_more : (n j : ℕ) (N : Symbols) → IsWithin N (of_fields n) → j < n → IsWithin (with_symbol N (Position (suc j))) (of_fields n)
of_more n j N w l y h =
    or_cases (N y) (same_symbol (Position (suc j)) y) (of_fields n y ≡ true) h (w y)
    (λ k. subst (λ (z : Symbol). of_fields n z ≡ true) (same_is (Position (suc j)) y k) (lt-ltb j n l))

nothing_within : (N : Symbols) → IsWithin (λ y. false) N
nothing_within N y h = cc

terms_of : (n j : ℕ) (ts : Refineds) → j + count ts ≤ n → IsWithin (terms_from j ts) (of_fields n)
terms_of n j none l = nothing_within (of_fields n)
terms_of n j (more t ts) l = by (kind t) (terms_of n (suc j) ts (omega (arith, l))) (omega (arith, l))
  where
    N : Symbols
    N = terms_from (suc j) ts

    by : (k : Kind) → IsWithin N (of_fields n) → j < n → IsWithin (with_term k N (Position (suc j))) (of_fields n)
    by number w q = of_more n j N w q
    by truth_value w q = w
    by object w q = of_more n j N w q
    by other w q = of_more n j N w q

flags_of : (n j : ℕ) (ts : Refineds) → j + count ts ≤ n → IsWithin (flags_from j ts) (of_fields n)
flags_of n j none l = nothing_within (of_fields n)
flags_of n j (more t ts) l = by (kind t) (flags_of n (suc j) ts (omega (arith, l))) (omega (arith, l))
  where
    N : Symbols
    N = flags_from (suc j) ts

    by : (k : Kind) → IsWithin N (of_fields n) → j < n → IsWithin (with_flag k N (Position (suc j))) (of_fields n)
    by number w q = w
    by truth_value w q = of_more n j N w q
    by object w q = w
    by other w q = w

with_v : (n : ℕ) (N : Symbols) → IsWithin N (of_fields n) → IsWithin (with_value N) (of_fields n)
with_v n N w y h =
    or_cases (N y) (same_symbol Value y) (of_fields n y ≡ true) h (w y)
    (λ k. subst (λ (z : Symbol). of_fields n z ≡ true) (same_is Value y k) refl)

count_unfolded : (scopes : Scopes) (θ : Subst) (d : ℕ) (ts : Refineds) (m : Matrix) (c j : ℕ) (fs : MlTypes)
    → count (unfolded_from scopes θ d ts m c j fs) ≡ count_types fs
count_unfolded scopes θ d ts m c j ml.no_types = refl
count_unfolded scopes θ d ts m c j (ml.more_types f fs) = ap suc (count_unfolded scopes θ d ts m c (suc j) fs)

-- ---- datatypes

lacking_entries : (S : Scene) (d : ℕ) (ts : Refineds) (m : Matrix) (c j i : ℕ) (us : Refineds) → LackEntries m i (all_erased us)
    → HaveNoEntries S d ts m c j i us
lacking_entries S d ts m c j i none h = tt
lacking_entries S d ts m c j i (more (int_with p) us) h = (tt, lacking_entries S d ts m c j (suc i) us h.1)
lacking_entries S d ts m c j i (more (bool_with p) us) h = (tt, lacking_entries S d ts m c j (suc i) us h.1)
lacking_entries S d ts m c j i (more unit_type us) h = (tt, lacking_entries S d ts m c j (suc i) us h.1)
lacking_entries S d ts m c j i (more (function x a b) us) h = (tt, lacking_entries S d ts m c j (suc i) us h.1)
lacking_entries S d ts m c j i (more (tuple_of vs) us) h = (tt, lacking_entries S d ts m c j (suc i) us h.1)
lacking_entries S d ts m c j i (more (array_with e p) us) h = (tt, lacking_entries S d ts m c j (suc i) us h.1)
lacking_entries S d ts m c j i (more (data_with e vs n p) us) h = (tt, lacking_entries S d ts m c j (suc i) us h.1)
lacking_entries S d ts m c j i (more (map_with e p) us) h = (tt, lacking_entries S d ts m c j (suc i) us h.1)
lacking_entries S d ts m c j i (more (type_variable a) us) h = (h.0 c j, lacking_entries S d ts m c j (suc i) us h.1)

module _ (matrices : MatricesAreSorted) (P : Basis) (unknowns : ℕ → Unknown) (A : Assignment) (O : Objects) (sorted : AreSorted unknowns A) where
  abbrev S : Scene
  S = scene_of P A O

  -- the entries of a matrix speak of v and of fields
  pub cells_on : (d : ℕ) (ts : Refineds) (m : Matrix) → CellsOver P.setting.constructors unknowns d ts m → CellsOn S m
  cells_on d ts m h c j i =
      let fs = fields_of (P.setting.constructors c) in
      let us = unfolded_from P.setting.scopes [] d ts m c 0 fs in
      let n = count_types fs in
      let l : 0 + count us ≤ n = let e = count_unfolded P.setting.scopes [] d ts m c 0 fs in omega (arith, e) in
      each_on (with_value (terms_from 0 us)) (with_value (flags_from 0 us)) (of_fields n) (with_v n (terms_from 0 us) (terms_of n 0 us l))
      (with_v n (flags_from 0 us) (flags_of n 0 us l)) (parts_under A (cell m c j i)) (matrices unknowns S sorted d ts m h c j i)

  -- a scalar datatype is one for its constructors
  pub datatype_for : ArgumentsLackFields → AreEquationsSorted P → (N : Symbols) → HasNoPositions N → (d : ℕ)
      (ts : Refineds) (m : Matrix) (p : _) → LackEntries m 0 (all_erased ts) → TypesOver P.setting.constructors unknowns (of_any_sort N) ts
      → CellsOver P.setting.constructors unknowns d ts m → (c : ℕ) (k : Constructor) → P.setting.constructors c ≡ Some k → k.datatype ≡ d
      → IsDatatypeFor S P c k (data_with d ts m p)
  datatype_for lack equations N clean d ts m p s types cells c k e same =
      let us = unfolded_from P.setting.scopes [] d ts m c 0 k.fields in
      let w = measured_terms P.setting.scopes [] d ts m c 0 k.fields in
      record {
        matrix = record {
          entries = subst (λ (fs : MlTypes). AreEntriesSorted S d ts m c fs) (ap fields_of e) (matrices unknowns S sorted d ts m cells c);
          variables = λ j. lacking_entries S d ts m c j 0 ts s;
          tops = lack P.setting.constructors unknowns S sorted N (λ j. clean (suc j)) ts types;
        };
        equations = each_within (with_value (measured_from 0 k.fields)) (λ y. false) (with_value (terms_from 0 us)) (flags_from 0 us)
            (wider (measured_from 0 k.fields) (terms_from 0 us) Value w) (nothing_within (flags_from 0 us)) (P.equations c) (equations c k e);
      }

-- ---- equations

-- more names
symbol_more : (N M : Names) → AreWithin N M → (θ : Subst) (s : Shape) (x : Symbol) → SymbolOver N θ s x → SymbolOver M θ s x
symbol_more N M w θ int x h = sum_within N.terms M.terms w.terms (sum_at θ x) h
symbol_more N M w θ bool x h = sorted_within N.terms N.flags M.terms M.flags w.terms w.flags (flag_at θ x) h
symbol_more N M w θ array x h = sum_within N.terms M.terms w.terms (sum_at θ x) h
symbol_more N M w θ (data_of d) x h = sum_within N.terms M.terms w.terms (sum_at θ x) h
symbol_more N M w θ shape.other x h = tt

pub fields_more : (skip : MlType → Bool) (N M : Names) → AreWithin N M → (us : MlTypes) (θ : Subst) (j : ℕ) (fs : MlTypes) → FieldsOver skip N us θ j fs
    → FieldsOver skip M us θ j fs
fields_more skip N M w us θ j ml.no_types h = tt
fields_more skip N M w us θ j (ml.more_types f fs) h =
    let s = shape_of (put (type_at us) f) in
    let x = Position (suc j) in
    (where_map (skip f) (SymbolOver N θ s x) (SymbolOver M θ s x) (symbol_more N M w θ s x) h.0, fields_more skip N M w us θ (suc j) fs h.1)

-- with something for v
pub fields_value : (skip : MlType → Bool) (N : Names) (us : MlTypes) (a : Atom) (θ : Subst) (j : ℕ) (fs : MlTypes) → FieldsOver skip N us θ j fs
    → FieldsOver skip N us (swap Value a ∷ θ) j fs
fields_value skip N us a θ j ml.no_types h = tt
fields_value skip N us a θ j (ml.more_types f fs) h =
    let s = shape_of (put (type_at us) f) in
    let x = Position (suc j) in (
      where_map (skip f) (SymbolOver N θ s x) (SymbolOver N (swap Value a ∷ θ) s x) (symbol_later N a θ s Value x refl) h.0,
      fields_value skip N us a θ (suc j) fs h.1,
    )

abbrev pub no_field : MlType → Bool
no_field f = false

-- what stands for the fields of which equations may speak
measured_over : (N : Names) (us : MlTypes) (θ : Subst) (j : ℕ) (fs : MlTypes) → FieldsOver no_field N us θ j fs → (y : Symbol)
    → measured_from j fs y ≡ true → SumOn N.terms (sum_at θ y)
measured_over N us θ j ml.no_types h y e = cc
measured_over N us θ j (ml.more_types f fs) h y e = one f (measured_over N us θ (suc j) fs h.1 y) h.0 e
  where
    x : Symbol
    x = Position (suc j)

    There : Type 0
    There = SumOn N.terms (sum_at θ y)

    Rest : Type 0
    Rest = measured_from (suc j) fs y ≡ true → There

    here : Rest → SumOn N.terms (sum_at θ x) → with_symbol (measured_from (suc j) fs) x y ≡ true → There
    here r k q =
        or_cases (measured_from (suc j) fs y) (same_symbol x y) There q r
        (λ z. subst (λ (s : Symbol). SumOn N.terms (sum_at θ s)) (same_is x y z) k)

    one : (f : MlType) → Rest → SymbolOver N θ (shape_of (put (type_at us) f)) x → with_measured (shape_of f) (measured_from (suc j) fs) x y ≡ true → There
    one ml.int r k q = here r k q
    one ml.bool r k q = r q
    one ml.unit r k q = r q
    one (ml.var i) r k q = r q
    one (ml.arrow a b) r k q = r q
    one (ml.tuple ts) r k q = r q
    one (ml.array a) r k q = here r k q
    one (ml.named e ts) r k q = here r k q
    one (ml.map_of a) r k q = r q

-- equations with terms for v and for the fields
pub equations_over : (unknowns : ℕ → Unknown) (N : Names) (us : MlTypes) (θ : Subst) (fs : MlTypes) → SumOn N.terms (sum_at θ Value)
    → FieldsOver no_field N us θ 0 fs → (ps : List Formula) → EachSorted (with_value (measured_from 0 fs)) (λ y. false) ps
    → PartsOver unknowns N (map (λ q. known (formula_by θ q)) ps)
equations_over unknowns N us θ fs v h [] e = tt
equations_over unknowns N us θ fs v h (p ∷ ps) e = (
  formula_put (record { terms = with_value (measured_from 0 fs); flags = λ y. false }) N θ
      (λ y k.
      or_cases (measured_from 0 fs y) (same_symbol Value y) (SumOn N.terms (sum_at θ y)) k (measured_over N us θ 0 fs h y)
      (λ z. subst (λ (s : Symbol). SumOn N.terms (sum_at θ s)) (same_is Value y z) v))
      (λ y k. absurd (no k)) p e.0,
  equations_over unknowns N us θ fs v h ps e.1,
)
  where
    no : false ≡ true → ⊥
    no z = cc
