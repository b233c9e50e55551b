-- The types of a constructor's fields: no function in them names its argument, and they are over names.
use Rattle.std.proofs.Common.{◌≡◌, ◌∙◌, ℕ, zero, suc, Bool, true, false, cond, [], ◌∷◌, ◌++◌, refl, sym, ap, ap₂, subst}
use Rattle.lq_sound_scope.specs.Scopes.Over.{AreWithin, CellsOver, ComponentsOver, Names, PartsOver, ScopeOver, TopOver, TypeOver, TypesOver, kind_of, scope_names, with_sort}
use Rattle.lq_sound_scope.proofs.ScopesLemmas.Made.{own_kind}
use Rattle.lq_sound_scope.proofs.ScopesLemmas.Symbols.{within_sort}
use Rattle.lq_sound_scope.specs.Operations.Laws.{KeepNames}
use Rattle.lq_sound_values.specs.NewNames.NewNames.{HaveNoNames}
use Rattle.lq_refined_types.specs.Parts.Part.{Parts, Scopes, parts_by}
use Rattle.lq_refined_types.specs.Parts.Substitution.{Subst}
use Rattle.lq_logic_predicates.specs.declared.symbol.Symbol.TheVariants.{Position, Value}
use Rattle.lq_refined_types.specs.Types.Refined.{Matrix, Refined, Refineds, none, more, int_with, bool_with, unit_type, function, tuple_of, array_with, data_with, map_with, type_variable, Kind, number, kind, top, type_at, count, strengthened, all_erased}
use Rattle.lq_refined_types.specs.Types.Unfolding.{bare, all_bare, cell, pushed}
use Rattle.lq_refined_types.proofs.TypesLemmas.Erasing.{with_top-erased}
use Rattle.lq_text_qualifiers.specs.Faults.Shapes.{shape_of}
use Rattle.lq_refined_types.specs.Subtyping.Subtype.{fields_of}
use Rattle.lq_refined_templates.specs.Templates.Cells.{field_scope}
use Rattle.lq_refined_templates.specs.Templates.Scopes.{Unknown, symbols_in}
use Rattle.lq_text_tree.specs.MlType as ml
use Rattle.lq_text_tree.specs.MlType.{MlType, MlTypes}
use Rattle.lq_text_tree.specs.Types as types
use Rattle.lq_text_tree.specs.Types.{Signature, count_types}
use Rattle.lq_sound_scope.specs.Scalars.Written.{AreScalar, IsNameless, LackEntries}
use Rattle.lq_sound_scope.proofs.ScalarsLemmas.Standing.{ValueOver, cell_over}

-- ---- without names of arguments

-- nothing is said of any argument where there are no entries
pub no_entries : (i : ℕ) (us : MlTypes) → LackEntries [] i us
no_entries i ml.no_types = tt
no_entries i (ml.more_types ml.int us) = (tt, no_entries (suc i) us)
no_entries i (ml.more_types ml.bool us) = (tt, no_entries (suc i) us)
no_entries i (ml.more_types ml.unit us) = (tt, no_entries (suc i) us)
no_entries i (ml.more_types (ml.var a) us) = ((λ c j. refl), no_entries (suc i) us)
no_entries i (ml.more_types (ml.arrow a b) us) = (tt, no_entries (suc i) us)
no_entries i (ml.more_types (ml.tuple ts) us) = (tt, no_entries (suc i) us)
no_entries i (ml.more_types (ml.array a) us) = (tt, no_entries (suc i) us)
no_entries i (ml.more_types (ml.named d ts) us) = (tt, no_entries (suc i) us)
no_entries i (ml.more_types (ml.map_of a) us) = (tt, no_entries (suc i) us)

-- no function in these names its argument
abbrev pub AreNameless : Refineds → Type 0
AreNameless ts = AreScalar ts × HaveNoNames ts

at_nameless : (ts : Refineds) → AreNameless ts → (i : ℕ) → IsNameless (type_at ts i)
at_nameless none h i = (tt, tt)
at_nameless (more t ts) h zero = (h.0.0, h.1.0)
at_nameless (more t ts) h (suc i) = at_nameless ts (h.0.1, h.1.1) i

mutual
  bare_nameless : (by : Refineds) → AreNameless by → (f : MlType) → IsNameless (bare by f)
  bare_nameless by a ml.int = (tt, tt)
  bare_nameless by a ml.bool = (tt, tt)
  bare_nameless by a ml.unit = (tt, tt)
  bare_nameless by a (ml.var i) = at_nameless by a i
  bare_nameless by a (ml.arrow b c) =
      let x = bare_nameless by a b in
      let y = bare_nameless by a c in
      ((x.0, x.1, y.0), (x.1, y.1))
  bare_nameless by a (ml.tuple ts) = all_bare_nameless by a ts
  bare_nameless by a (ml.array b) = let x = bare_nameless by a b in ((x.0, x.1), x.1)
  bare_nameless by a (ml.named d ts) =
      let x = all_bare_nameless by a ts in ((x.0, x.1, no_entries 0 (all_erased (all_bare by ts))), x.1)
  bare_nameless by a (ml.map_of b) = let x = bare_nameless by a b in ((x.0, x.1), tt)

  all_bare_nameless : (by : Refineds) → AreNameless by → (fs : MlTypes) → AreNameless (all_bare by fs)
  all_bare_nameless by a ml.no_types = (tt, tt)
  all_bare_nameless by a (ml.more_types f fs) =
      let x = bare_nameless by a f in
      let y = all_bare_nameless by a fs in
      ((x.0, y.0), (x.1, y.1))

strengthened_nameless : (q : Parts) (t : Refined) → IsNameless t → IsNameless (strengthened q t)
strengthened_nameless q (int_with p) h = h
strengthened_nameless q (bool_with p) h = h
strengthened_nameless q unit_type h = h
strengthened_nameless q (function x a b) h = h
strengthened_nameless q (tuple_of ts) h = h
strengthened_nameless q (array_with e p) h = h
strengthened_nameless q (data_with d ts m p) h = h
strengthened_nameless q (map_with e p) h = h
strengthened_nameless q (type_variable i) h = h

module _ (scopes : Scopes) (θ : Subst) (m : Matrix) (c j : ℕ) where
  count_pushed : (i : ℕ) (ts : Refineds) → count (pushed scopes θ m c j i ts) ≡ count ts
  count_pushed i none = refl
  count_pushed i (more t ts) = ap suc (count_pushed (suc i) ts)

  pushed_erased : (i : ℕ) (ts : Refineds) → all_erased ts ≡ all_erased (pushed scopes θ m c j i ts)
  pushed_erased i none = refl
  pushed_erased i (more t ts) =
      ap₂ ml.more_types (sym (with_top-erased (top t ++ parts_by scopes θ (cell m c j i)) t)) (pushed_erased (suc i) ts)

  pushed_nameless : (i : ℕ) (ts : Refineds) → AreNameless ts → AreNameless (pushed scopes θ m c j i ts)
  pushed_nameless i none h = (tt, tt)
  pushed_nameless i (more t ts) h =
      let x = strengthened_nameless (parts_by scopes θ (cell m c j i)) t (h.0.0, h.1.0) in
      let y = pushed_nameless (suc i) ts (h.0.1, h.1.1) in
      ((x.0, y.0), (x.1, y.1))

  -- one field, which may be the datatype again
  pub field_nameless : (d : ℕ) (ts : Refineds) → AreNameless ts → LackEntries m 0 (all_erased ts) → (f : MlType) → (b : Bool)
      → IsNameless (cond b (data_with d (pushed scopes θ m c j 0 ts) m []) (bare ts f))
  field_nameless d ts a l f true =
      let x = pushed_nameless 0 ts a in ((x.0, x.1, subst (λ (us : MlTypes). LackEntries m 0 us) (pushed_erased 0 ts) l), x.1)
  field_nameless d ts a l f false = bare_nameless ts a f

-- ---- over names

both_within : (N M V : Names) → AreWithin N M → AreWithin M V → AreWithin N V
both_within N M V w v = record { terms = λ x e. v.terms x (w.terms x e); flags = λ x e. v.flags x (w.flags x e) }

parts_joined : (unknowns : ℕ → Unknown) (N : Names) (p q : Parts) → PartsOver unknowns N p → PartsOver unknowns N q → PartsOver unknowns N (p ++ q)
parts_joined unknowns N [] q h w = w
parts_joined unknowns N (x ∷ p) q h w = (h.0, parts_joined unknowns N p q h.1 w)

-- ---- arguments of one simple type

kind_there : (ts : Refineds) (i : ℕ) → kind (type_at ts i) ≡ kind_of (shape_of (types.type_at (all_erased ts) i))
kind_there none i = refl
kind_there (more t ts) zero = own_kind t
kind_there (more t ts) (suc i) = kind_there ts i

pub cells_same : (g : Signature) (unknowns : ℕ → Unknown) (d : ℕ) (ts us : Refineds) (m : Matrix) → all_erased ts ≡ all_erased us
    → CellsOver g unknowns d ts m → CellsOver g unknowns d us m
cells_same g unknowns d ts us [] e h = tt
cells_same g unknowns d ts us (c ∷ m) e h = (
  subst (λ (N : Names). PartsOver unknowns N c.parts)
      (ap (λ (vs : MlTypes). with_sort (scope_names (field_scope d vs 0 (fields_of (g c.constructor)) [])) (kind (type_at ts c.parameter)) Value) e
      ∙ ap (λ (k : Kind). with_sort (scope_names (field_scope d (all_erased us) 0 (fields_of (g c.constructor)) [])) k Value)
      (kind_there ts c.parameter ∙ ap (λ (vs : MlTypes). kind_of (shape_of (types.type_at vs c.parameter))) e ∙ sym (kind_there us c.parameter))) h.0,
  cells_same g unknowns d ts us m e h.1,
)

-- the kinds of types from the i-th on
abbrev KindsAt : (ℕ → Kind) → ℕ → Refineds → Type 0
KindsAt K i none = Unit {0}
KindsAt K i (more t ts) = (K i ≡ kind t) × KindsAt K (suc i) ts

kinds_later : (K : ℕ → Kind) (i : ℕ) (ts : Refineds) → KindsAt (λ n. K (suc n)) i ts → KindsAt K (suc i) ts
kinds_later K i none h = tt
kinds_later K i (more t ts) h = (h.0, kinds_later K (suc i) ts h.1)

own_kinds : (ts : Refineds) → KindsAt (λ i. kind (type_at ts i)) 0 ts
own_kinds none = tt
own_kinds (more t ts) = (refl, kinds_later (λ i. kind (type_at (more t ts) i)) 0 ts (own_kinds ts))

module _ (g : Signature) (unknowns : ℕ → Unknown) (scopes : Scopes) (agree : (u : ℕ) → scopes u ≡ symbols_in (unknowns u).0)
    (keep : KeepNames g unknowns scopes) where
  abbrev Over : Names → Refined → Type 0
  Over N t = TypeOver g unknowns N t

  at_over : (N : Names) (ts : Refineds) → TypesOver g unknowns N ts → (i : ℕ) → Over N (type_at ts i)
  at_over N none h i = (tt, tt)
  at_over N (more t ts) h zero = (h.0, h.1)
  at_over N (more t ts) h (suc i) = at_over N ts h.2 i

  mutual
    bare_over : (N : Names) (by : Refineds) → TypesOver g unknowns N by → (f : MlType) → Over N (bare by f)
    bare_over N by a ml.int = (tt, tt)
    bare_over N by a ml.bool = (tt, tt)
    bare_over N by a ml.unit = (tt, tt)
    bare_over N by a (ml.var i) = at_over N by a i
    bare_over N by a (ml.arrow b c) =
        let x = bare_over N by a b in
        let y = bare_over N by a c in
        ((x.0, x.1, y.0, y.1), tt)
    bare_over N by a (ml.tuple ts) = (components_over N N (record { terms = λ x e. e; flags = λ x e. e }) by a 0 ts, tt)
    bare_over N by a (ml.array b) = (bare_over N by a b, tt)
    bare_over N by a (ml.named d ts) = ((all_bare_over N by a ts, tt), tt)
    bare_over N by a (ml.map_of b) =
        let x = bare_over N by a b in
        ((x.0, (keep.widening N (with_sort N number (Position 0)) (within_sort N number (Position 0)) (bare by b) x).1), tt)

    all_bare_over : (N : Names) (by : Refineds) → TypesOver g unknowns N by → (fs : MlTypes) → TypesOver g unknowns N (all_bare by fs)
    all_bare_over N by a ml.no_types = tt
    all_bare_over N by a (ml.more_types f fs) = let x = bare_over N by a f in (x.0, x.1, all_bare_over N by a fs)

    components_over : (N M : Names) → AreWithin N M → (by : Refineds) → TypesOver g unknowns N by → (k : ℕ) (fs : MlTypes)
        → ComponentsOver g unknowns N M k (all_bare by fs)
    components_over N M w by a k ml.no_types = tt
    components_over N M w by a k (ml.more_types f fs) =
        let t = bare by f in
        let x = bare_over N by a f in
        let V = with_sort M (kind t) (Position (suc k)) in
        (x.0, (keep.widening N M w t x).1, components_over N V (both_within N M V w (within_sort M (kind t) (Position (suc k)))) by a (suc k) fs)

  strengthened_over : (N : Names) (q : Parts) (t : Refined) → PartsOver unknowns (with_sort N (kind t) Value) q → Over N t → Over N (strengthened q t)
  strengthened_over N q (int_with p) w h = (tt, parts_joined unknowns (with_sort N (kind (int_with p)) Value) p q h.1 w)
  strengthened_over N q (bool_with p) w h = (tt, parts_joined unknowns (with_sort N (kind (bool_with p)) Value) p q h.1 w)
  strengthened_over N q unit_type w h = h
  strengthened_over N q (function x a b) w h = h
  strengthened_over N q (tuple_of ts) w h = h
  strengthened_over N q (array_with e p) w h = (h.0, parts_joined unknowns (with_sort N (kind (array_with e p)) Value) p q h.1 w)
  strengthened_over N q (data_with d ts m p) w h = (h.0, parts_joined unknowns (with_sort N (kind (data_with d ts m p)) Value) p q h.1 w)
  strengthened_over N q (map_with e p) w h = (h.0, parts_joined unknowns (with_sort N (kind (map_with e p)) Value) p q h.1 w)
  strengthened_over N q (type_variable i) w h = h

  module _ (N : Names) (θ : Subst) (m : Matrix) (c j : ℕ) where
    -- the arguments of the datatype in a field that is the datatype again, by what its entries are over
    pushed_over : (K : ℕ → Kind) → ((i : ℕ) → PartsOver unknowns (with_sort N (K i) Value) (parts_by scopes θ (cell m c j i))) → (i : ℕ) (ts : Refineds)
        → KindsAt K i ts → TypesOver g unknowns N ts → TypesOver g unknowns N (pushed scopes θ m c j i ts)
    pushed_over K w i none e h = tt
    pushed_over K w i (more t ts) e h =
        let q = parts_by scopes θ (cell m c j i) in
        let x = strengthened_over N q t (subst (λ (k : Kind). PartsOver unknowns (with_sort N k Value) q) e.0 (w i)) (h.0, h.1) in
        (x.0, x.1, pushed_over K w (suc i) ts e.1 h.2)

    pushed_same : (i : ℕ) (ts : Refineds) → all_erased ts ≡ all_erased (pushed scopes θ m c j i ts)
    pushed_same i none = refl
    pushed_same i (more t ts) =
        ap₂ ml.more_types (sym (with_top-erased (top t ++ parts_by scopes θ (cell m c j i)) t)) (pushed_same (suc i) ts)

    pub again_over : ValueOver N θ → (d : ℕ) (ts : Refineds) → ScopeOver N θ (field_scope d (all_erased ts) 0 (fields_of (g c)) [])
        → CellsOver g unknowns d ts m → TypesOver g unknowns N ts → Over N (data_with d (pushed scopes θ m c j 0 ts) m [])
    again_over v d ts w cells h = (
      (
        pushed_over (λ i. kind (type_at ts i)) (λ i. cell_over g unknowns scopes agree N θ v d ts c w m cells j i) 0 ts (own_kinds ts) h,
        cells_same g unknowns d ts (pushed scopes θ m c j 0 ts) m (pushed_same 0 ts) cells,
      ),
      tt,
    )

    -- one field: the datatype again, or else without what the entries say
    pub field_over : ValueOver N θ → (d : ℕ) (ts : Refineds) → CellsOver g unknowns d ts m → TypesOver g unknowns N ts → (f : MlType) → (b : Bool)
        → (b ≡ true → ScopeOver N θ (field_scope d (all_erased ts) 0 (fields_of (g c)) []))
        → Over N (cond b (data_with d (pushed scopes θ m c j 0 ts) m []) (bare ts f))
    field_over v d ts cells h f true w = again_over v d ts (w refl) cells h
    field_over v d ts cells h f false w = bare_over N ts h f

  pub field_over_by : (N : Names) (ts : Refineds) → TypesOver g unknowns N ts → (f : MlType) (b : Bool) (t : Refined) → (b ≡ true → Over N t)
      → Over N (cond b t (bare ts f))
  field_over_by N ts h f true t w = w refl
  field_over_by N ts h f false t w = bare_over N ts h f

  -- its top is over fewer names
  pub field_top_by : (N : Names) (ts : Refineds) → TypesOver g unknowns N ts → (f : MlType) (b : Bool) (t : Refined) → TopOver unknowns N t
      → TopOver unknowns N (cond b t (bare ts f))
  field_top_by N ts h f true t w = w
  field_top_by N ts h f false t w = (bare_over N ts h f).1
