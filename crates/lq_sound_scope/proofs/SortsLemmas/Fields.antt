-- The types of a constructor's fields, and its equations, with something put for the fields.
use Rattle.std.proofs.Common.{◌≡◌, ℕ, suc, Bool, true, false, ◌&&◌, ◌==◌, cond, List, [], ◌∷◌, ◌++◌, map, refl, sym, ap₂, subst}
use Rattle.std.proofs.lemmas.Bool.{eqb-true}
use Rattle.lq_sound_scope.specs.Scopes.Over.{kind_of}
use Rattle.lq_sound_scope.proofs.ScopesLemmas.Made.{own_kind}
use Rattle.lq_refined_instances.specs.Scopes.{Scope}
use Rattle.lq_refined_types.specs.Parts.Part.{Parts, Scopes, known, parts_by}
use Rattle.lq_refined_types.specs.Parts.Substitution.{Subst, formula_by}
use Rattle.lq_logic_predicates.specs.Formula.{Formula}
use Rattle.lq_logic_predicates.specs.declared.symbol.Symbol.TheVariants.{Position, Value}
use Rattle.lq_refined_types.specs.Types.Refined.{Matrix, Refined, int_with, bool_with, unit_type, function, tuple_of, array_with, data_with, map_with, type_variable, Refineds, none, more, Kind, number, object, kind, top, strengthened, all_erased, count}
use Rattle.lq_refined_types.specs.Types.Unfolding.{all_bare, bare, cell, is_again, pushed, unfolded_from}
use Rattle.lq_refined_types.proofs.TypesLemmas.Erasing.{with_top-erased}
use Rattle.lq_text_qualifiers.specs.Faults.Shapes.{shape_of}
use Rattle.lq_refined_types.specs.Subtyping.Subtype.{fields_of}
use Rattle.lq_refined_templates.specs.Templates.Cells.{field_scope}
use Rattle.lq_refined_templates.specs.Templates.Scopes.{Unknown, symbols_in, with_position}
use Rattle.lq_text_tree.specs.MlType as ml
use Rattle.lq_text_tree.specs.MlType.{MlType, MlTypes}
use Rattle.lq_text_tree.specs.Types as types
use Rattle.lq_text_tree.specs.Types.{Signature, count_types, put}
use Rattle.lq_sound_scope.specs.Sorts.Equations.{with_fields}
use Rattle.lq_sound_scope.specs.Sorts.Sorts.{AreWellSorted, IsWithin, ScopeStands, Sorts, StandsAt, no_sorts, scope_sorts, with_kind}
use Rattle.lq_sound_scope.specs.Sorts.Types.{CellsSorted, ComponentsSorted, PartsSorted, TypeSorted, TypesSorted, cell_sorts}
use Rattle.lq_sound_scope.proofs.SortsLemmas.Basics.{Stands, both_within, formula_put, stands_more, stands_scope, stands_within, within_kind}
use Rattle.lq_sound_scope.proofs.SortsLemmas.Instances.{type_there}
use Rattle.lq_sound_scope.proofs.SortsLemmas.Parts.{parts_joined, parts_put}
use Rattle.lq_sound_scope.proofs.SortsLemmas.Scopes.{scope_with}
use Rattle.lq_sound_scope.proofs.SortsLemmas.Types.{Leaves, cells_same, stands_left, top_within}

-- ---- what is put for fields

-- what stands for the fields behind the first j is of these sorts, at their kinds
abbrev pub FieldsStand : Sorts → MlTypes → Subst → ℕ → MlTypes → Type 0
FieldsStand N us θ j ml.no_types = Unit {0}
FieldsStand N us θ j (ml.more_types f fs) = StandsAt N θ (kind_of (shape_of (put (types.type_at us) f))) (Position (suc j)) × FieldsStand N us θ (suc j) fs

-- among more sorts
pub fields_within : (N M : Sorts) → IsWithin N M → (us : MlTypes) (θ : Subst) (j : ℕ) (fs : MlTypes) → FieldsStand N us θ j fs → FieldsStand M us θ j fs
fields_within N M w us θ j ml.no_types h = tt
fields_within N M w us θ j (ml.more_types f fs) h =
    (stands_within N M w θ (kind_of (shape_of (put (types.type_at us) f))) (Position (suc j)) h.0, fields_within N M w us θ (suc j) fs h.1)

-- so for the scope of an entry
pub fields_scope : (N : Sorts) (d : ℕ) (us : MlTypes) (θ : Subst) (j : ℕ) (fs : MlTypes) (Γ : Scope) → FieldsStand N us θ j fs → ScopeStands N θ Γ
    → ScopeStands N θ (field_scope d us j fs Γ)
fields_scope N d us θ j ml.no_types Γ h w = w
fields_scope N d us θ j (ml.more_types f fs) Γ h w =
    let s = shape_of (put (types.type_at us) f) in
    fields_scope N d us θ (suc j) fs (cond (is_again d (count_types us) f) Γ (with_position j s Γ)) h.1 (by (is_again d (count_types us) f)) where
      by : (b : Bool) → ScopeStands N θ (cond b Γ (with_position j (shape_of (put (types.type_at us) f)) Γ))
      by true = w
      by false = scope_with N θ (Position (suc j)) (shape_of (put (types.type_at us) f)) Γ w h.0

-- ---- the parts of a matrix

and_first : (a b : Bool) → (a && b) ≡ true → a ≡ true
and_first true b h = refl
and_first false b h = h

and_second : (a b : Bool) → (a && b) ≡ true → b ≡ true
and_second true b h = h
and_second false b h = cc

-- the kinds of types from the i-th on
abbrev KindsAt : (ℕ → Kind) → ℕ → Refineds → Type 0
KindsAt K i none = Unit {0}
KindsAt K i (more t ts) = (K i ≡ kind t) × KindsAt K (suc i) ts

kinds_later : (K : ℕ → Kind) (i : ℕ) (ts : Refineds) → KindsAt (λ n. K (suc n)) i ts → KindsAt K (suc i) ts
kinds_later K i none h = tt
kinds_later K i (more t ts) h = (h.0, kinds_later K (suc i) ts h.1)

own_kinds : (ts : Refineds) → KindsAt (λ i. kind_of (shape_of (types.type_at (all_erased ts) i))) 0 ts
own_kinds none = tt
own_kinds (more t ts) =
    (sym (own_kind t), kinds_later (λ i. kind_of (shape_of (types.type_at (all_erased (more t ts)) i))) 0 ts (own_kinds ts))

module _ (g : Signature) (unknowns : ℕ → Unknown) where
  pub cell_sorted : (d : ℕ) (us : MlTypes) (m : Matrix) → CellsSorted g unknowns d us m → (c j i : ℕ)
      → PartsSorted unknowns (cell_sorts g unknowns d us c i) (cell m c j i)
  cell_sorted d us [] h c j i = tt
  cell_sorted d us (e ∷ m) h c j i =
      by (e.constructor == c && (e.field == j && e.parameter == i)) refl (cell_sorted d us m h.1 c j i)
    where
      by : (b : Bool) → (e.constructor == c && (e.field == j && e.parameter == i)) ≡ b → PartsSorted unknowns (cell_sorts g unknowns d us c i) (cell m c j i)
          → PartsSorted unknowns (cell_sorts g unknowns d us c i) (cond b e.parts (cell m c j i))
      by false f k = k
      by true f k =
          let same_c = eqb-true e.constructor c (and_first (e.constructor == c) (e.field == j && e.parameter == i) f) in
          let both = and_second (e.constructor == c) (e.field == j && e.parameter == i) f in
          let same_i = eqb-true e.parameter i (and_second (e.field == j) (e.parameter == i) both) in
          subst (λ (y : ℕ). PartsSorted unknowns (cell_sorts g unknowns d us c y) e.parts) same_i
          (subst (λ (z : ℕ). PartsSorted unknowns (cell_sorts g unknowns d us z e.parameter) e.parts) same_c h.0)

  -- ---- types without refinements

  mutual
    bare_sorted : (N : Sorts) (by : Refineds) → TypesSorted g unknowns N by → (f : MlType) → TypeSorted g unknowns N (bare by f)
    bare_sorted N by a ml.int = (tt, tt)
    bare_sorted N by a ml.bool = (tt, tt)
    bare_sorted N by a ml.unit = (tt, tt)
    bare_sorted N by a (ml.var i) = type_there g unknowns N by a i
    bare_sorted N by a (ml.arrow b c) =
        let x = bare_sorted N by a b in
        let y = bare_sorted N by a c in
        ((x.0, x.1, y.0, y.1), tt)
    bare_sorted N by a (ml.tuple ts) = (components_sorted N N (λ k x e. e) by a 0 ts, tt)
    bare_sorted N by a (ml.array b) = (bare_sorted N by a b, tt)
    bare_sorted N by a (ml.named d ts) = ((all_bare_sorted N by a ts, tt), tt)
    bare_sorted N by a (ml.map_of b) =
        let x = bare_sorted N by a b in
        ((x.0, top_within unknowns N (with_kind N number (Position 0)) (within_kind N number (Position 0)) (bare by b) x.1), tt)

    all_bare_sorted : (N : Sorts) (by : Refineds) → TypesSorted g unknowns N by → (fs : MlTypes) → TypesSorted g unknowns N (all_bare by fs)
    all_bare_sorted N by a ml.no_types = tt
    all_bare_sorted N by a (ml.more_types f fs) = let x = bare_sorted N by a f in (x.0, x.1, all_bare_sorted N by a fs)

    components_sorted : (N M : Sorts) → IsWithin N M → (by : Refineds) → TypesSorted g unknowns N by → (k : ℕ) (fs : MlTypes)
        → ComponentsSorted g unknowns N M k (all_bare by fs)
    components_sorted N M w by a k ml.no_types = tt
    components_sorted N M w by a k (ml.more_types f fs) =
        let t = bare by f in
        let x = bare_sorted N by a f in
        let V = with_kind M (kind t) (Position (suc k)) in
        (x.0, top_within unknowns N M w t x.1, components_sorted N V (both_within N M V w (within_kind M (kind t) (Position (suc k)))) by a (suc k) fs)

  strengthened_sorted : (N : Sorts) (q : Parts) (t : Refined) → PartsSorted unknowns (with_kind N (kind t) Value) q → TypeSorted g unknowns N t
      → TypeSorted g unknowns N (strengthened q t)
  strengthened_sorted N q (int_with p) w h = (tt, parts_joined unknowns (with_kind N (kind (int_with p)) Value) p q h.1 w)
  strengthened_sorted N q (bool_with p) w h = (tt, parts_joined unknowns (with_kind N (kind (bool_with p)) Value) p q h.1 w)
  strengthened_sorted N q unit_type w h = h
  strengthened_sorted N q (function x a b) w h = h
  strengthened_sorted N q (tuple_of ts) w h = h
  strengthened_sorted N q (array_with e p) w h = (h.0, parts_joined unknowns (with_kind N (kind (array_with e p)) Value) p q h.1 w)
  strengthened_sorted N q (data_with d ts m p) w h = (h.0, parts_joined unknowns (with_kind N (kind (data_with d ts m p)) Value) p q h.1 w)
  strengthened_sorted N q (map_with e p) w h = (h.0, parts_joined unknowns (with_kind N (kind (map_with e p)) Value) p q h.1 w)
  strengthened_sorted N q (type_variable i) w h = h

  -- ---- fields

  module _ (scopes : Scopes) (agree : (u : ℕ) → scopes u ≡ symbols_in (unknowns u).0) (N : Sorts) (θ : Subst) (left : Leaves θ Value)
      (d : ℕ) (ts : Refineds) (m : Matrix) (c : ℕ) (stand : FieldsStand N (all_erased ts) θ 0 (fields_of (g c)))
      (types_sorted : TypesSorted g unknowns N ts) (cells : CellsSorted g unknowns d (all_erased ts) m) where
    put_cell : (j i : ℕ) → PartsSorted unknowns (with_kind N (kind_of (shape_of (types.type_at (all_erased ts) i))) Value) (parts_by scopes θ (cell m c j i))
    put_cell j i =
        let Γ = field_scope d (all_erased ts) 0 (fields_of (g c)) [] in
        let k = kind_of (shape_of (types.type_at (all_erased ts) i)) in
        parts_put unknowns scopes agree (with_kind N k Value) (cell_sorts g unknowns d (all_erased ts) c i) θ
        (stands_left N (scope_sorts Γ) θ (stands_scope N θ Γ (fields_scope N d (all_erased ts) θ 0 (fields_of (g c)) [] stand tt)) k Value left) (cell m c j i)
        (cell_sorted d (all_erased ts) m cells c j i)

    pushed_sorted : (j i : ℕ) (us : Refineds) → KindsAt (λ i. kind_of (shape_of (types.type_at (all_erased ts) i))) i us → TypesSorted g unknowns N us
        → TypesSorted g unknowns N (pushed scopes θ m c j i us)
    pushed_sorted j i none e h = tt
    pushed_sorted j i (more t us) e h =
        let q = parts_by scopes θ (cell m c j i) in
        let x = strengthened_sorted N q t (subst (λ (k : Kind). PartsSorted unknowns (with_kind N k Value) q) e.0 (put_cell j i)) (h.0, h.1) in
        (x.0, x.1, pushed_sorted j (suc i) us e.1 h.2)

    pushed_same : (j i : ℕ) (us : Refineds) → all_erased us ≡ all_erased (pushed scopes θ m c j i us)
    pushed_same j i none = refl
    pushed_same j i (more t us) =
        ap₂ ml.more_types (sym (with_top-erased (top t ++ parts_by scopes θ (cell m c j i)) t)) (pushed_same j (suc i) us)

    -- one field: the datatype again, or else without what the entries say
    field_sorted : (j : ℕ) (f : MlType) (b : Bool) → TypeSorted g unknowns N (cond b (data_with d (pushed scopes θ m c j 0 ts) m []) (bare ts f))
    field_sorted j f true = (
      (
        pushed_sorted j 0 ts (own_kinds ts) types_sorted,
        cells_same g unknowns d (all_erased ts) (all_erased (pushed scopes θ m c j 0 ts)) m (pushed_same j 0 ts) cells,
      ),
      tt,
    )
    field_sorted j f false = bare_sorted N ts types_sorted f

    pub fields_sorted : (j : ℕ) (fs : MlTypes) → TypesSorted g unknowns N (unfolded_from scopes θ d ts m c j fs)
    fields_sorted j ml.no_types = tt
    fields_sorted j (ml.more_types f fs) =
        let x = field_sorted j f (is_again d (count ts) f) in (x.0, x.1, fields_sorted (suc j) fs)

-- ---- equations of measures

-- a field's kind whatever the parameters is its kind, or one of which predicates don't speak
raw_stands : (N : Sorts) (us : MlTypes) (θ : Subst) (j : ℕ) (f : MlType) → StandsAt N θ (kind_of (shape_of (put (types.type_at us) f))) (Position j)
    → StandsAt N θ (kind_of (shape_of f)) (Position j)
raw_stands N us θ j ml.int h = h
raw_stands N us θ j ml.bool h = h
raw_stands N us θ j ml.unit h = tt
raw_stands N us θ j (ml.var i) h = tt
raw_stands N us θ j (ml.arrow a b) h = tt
raw_stands N us θ j (ml.tuple ts) h = tt
raw_stands N us θ j (ml.array a) h = h
raw_stands N us θ j (ml.named d ts) h = h
raw_stands N us θ j (ml.map_of a) h = tt

fields_raw : (N : Sorts) (us : MlTypes) (θ : Subst) (j : ℕ) (fs : MlTypes) → FieldsStand N us θ j fs → Stands N θ (with_fields no_sorts j fs)
fields_raw N us θ j ml.no_types h = λ k x e. cc
fields_raw N us θ j (ml.more_types f fs) h =
    stands_more N (with_fields no_sorts (suc j) fs) θ (fields_raw N us θ (suc j) fs h.1) (kind_of (shape_of f)) (Position (suc j))
    (raw_stands N us θ (suc j) f h.0)

pub equations_put : (unknowns : ℕ → Unknown) (N M : Sorts) (θ : Subst) → Stands N θ M → (ps : List Formula) → AreWellSorted M ps
    → PartsSorted unknowns N (map (λ q. known (formula_by θ q)) ps)
equations_put unknowns N M θ h [] w = tt
equations_put unknowns N M θ h (p ∷ ps) w = (formula_put N M θ h p w.0, equations_put unknowns N M θ h ps w.1)

-- equations with an object for v and something for the fields
pub equations_sorted : (unknowns : ℕ → Unknown) (N : Sorts) (us : MlTypes) (θ : Subst) (fs : MlTypes) → StandsAt N θ object Value
    → FieldsStand N us θ 0 fs → (ps : List Formula) → AreWellSorted (with_kind (with_fields no_sorts 0 fs) object Value) ps
    → PartsSorted unknowns N (map (λ q. known (formula_by θ q)) ps)
equations_sorted unknowns N us θ fs v h ps w =
    let M = with_fields no_sorts 0 fs in
    equations_put unknowns N (with_kind M object Value) θ (stands_more N M θ (fields_raw N us θ 0 fs h) object Value v) ps w
