-- Instances of scalar types at scalar types without names for their variables.
use Rattle.std.proofs.Common.{◌≡◌, ◌∙◌, ◌⊎◌, inl, inr, ℕ, zero, suc, Bool, true, false, cond, [], ◌∷◌, ◌++◌, ◌==◌, Option, Some, None, refl, sym, ap, ap₂, subst}
use Rattle.lq_sound_values.specs.Inclusion.Symbols.{Symbols, with_symbol}
use Rattle.lq_sound_scope.specs.Scopes.Over.{AreWithin, CellsOver, ComponentsOver, InsideOver, Names, PartsOver, TopOver, TypeOver, TypesOver, cell_names, kind_of, scope_names, with_argument, with_sort}
use Rattle.lq_sound_scope.proofs.ScopesLemmas.Assigned.{wider}
use Rattle.lq_sound_scope.proofs.ScopesLemmas.Symbols.{IsIn, ScopeIn, or_left, or_right, own_names, same_is, scope_with, within_sort}
use Rattle.lq_sound_values.specs.Instantiation.Instances.{AllNamesOutside, NamesOutside}
use Rattle.lq_refined_instances.specs.Scopes.{Scope}
use Rattle.lq_sound_scope.specs.Operations.Laws.{KeepNames}
use Rattle.lq_sound_scope.specs.Operations.Puts.{AllNamesAway, NamesAway}
use Rattle.lq_sound_values.specs.NewNames.NewNames.{HasNoNames, HaveNoNames}
use Rattle.lq_refined_types.specs.Parts.Part.{Parts, Scopes}
use Rattle.lq_logic_predicates.specs.Sum.{same_symbol}
use Rattle.lq_logic_predicates.specs.declared.symbol.Symbol.{Symbol}
use Rattle.lq_logic_predicates.specs.declared.symbol.Symbol.TheVariants.{Position, Value}
use Rattle.lq_refined_types.specs.Types.Operations.{all_instantiated, instantiated, symbol_of, twin_of}
use Rattle.lq_refined_types.specs.Types.Refined.{Matrix, Refined, Refineds, none, more, int_with, bool_with, unit_type, function, tuple_of, array_with, data_with, map_with, type_variable, Kind, number, truth_value, object, other, kind, erased, all_erased, type_at}
use Rattle.lq_refined_types.specs.Types.Unfolding.{cell, is_again}
use Rattle.lq_refined_types.proofs.TypesLemmas.Erasing.{instantiated-erased}
use Rattle.lq_sound_values.specs.Twins.Names.{with_twins}
use Rattle.lq_sound_values.proofs.RunsLemmas.Closing.{or_parts}
use Rattle.lq_text_qualifiers.specs.Faults.Shapes.{Shape, int, bool, array, data_of, shape_of}
use Rattle.lq_text_qualifiers.specs.Faults.Shapes as shape
use Rattle.lq_refined_types.specs.Subtyping.Subtype.{fields_of}
use Rattle.lq_refined_templates.specs.Templates.Cells.{field_scope}
use Rattle.lq_refined_templates.specs.Templates.Scopes.{Unknown, with_position}
use Rattle.lq_text_tree.specs.MlType as ml
use Rattle.lq_text_tree.specs.MlType.{MlType, MlTypes}
use Rattle.lq_text_tree.specs.Types as types
use Rattle.lq_text_tree.specs.Types.{Signature, count_types, put, put_all}
use Rattle.lq_sound_scope.specs.Scalars.Written.{AreScalar, IsNameless, IsScalar, LackEntries, LacksEntry}
use Rattle.lq_sound_scope.proofs.ScalarsLemmas.NameKinds.{Naming}
use Rattle.lq_sound_scope.proofs.ScalarsLemmas.Twins.{AreSmall, clash, false_unless, twin_outside}
use Rattle.lq_sound_scope.proofs.ScalarsLemmas.Types.{AreNamed, IsNamed, apart_nameless}

-- ---- scalar types

module _ (Ts : Refineds) (s : AreScalar Ts) (n : HaveNoNames Ts) where
  at_nameless : (us : Refineds) → AreScalar us → HaveNoNames us → (i : ℕ) → IsNameless (type_at us i)
  at_nameless none s n i = (tt, tt)
  at_nameless (more t us) s n zero = (s.0, n.0)
  at_nameless (more t us) s n (suc i) = at_nameless us s.1 n.1 i

  mutual
    no_names_instance : (t : Refined) → HasNoNames t → HasNoNames (instantiated Ts t)
    no_names_instance (int_with p) h = tt
    no_names_instance (bool_with p) h = tt
    no_names_instance unit_type h = tt
    no_names_instance (function None a b) h = (no_names_instance a h.0, no_names_instance b h.1)
    no_names_instance (function (Some x) a b) h = absurd h
    no_names_instance (tuple_of ts) h = all_no_names_instance ts h
    no_names_instance (array_with e p) h = no_names_instance e h
    no_names_instance (data_with d ts m p) h = all_no_names_instance ts h
    no_names_instance (map_with e p) h = tt
    no_names_instance (type_variable i) h = (at_nameless Ts s n i).1

    all_no_names_instance : (ts : Refineds) → HaveNoNames ts → HaveNoNames (all_instantiated Ts ts)
    all_no_names_instance none h = tt
    all_no_names_instance (more t ts) h = (no_names_instance t h.0, all_no_names_instance ts h.1)

  -- where an argument has no entry, any type for it has none
  lacks_any : (m : Matrix) (i : ℕ) (a : MlType) → ((c j : ℕ) → cell m c j i ≡ []) → LacksEntry m i a
  lacks_any m i ml.int h = tt
  lacks_any m i ml.bool h = tt
  lacks_any m i ml.unit h = tt
  lacks_any m i (ml.var k) h = h
  lacks_any m i (ml.arrow a b) h = tt
  lacks_any m i (ml.tuple ts) h = tt
  lacks_any m i (ml.array a) h = tt
  lacks_any m i (ml.named d ts) h = tt
  lacks_any m i (ml.map_of a) h = tt

  lacks_instance : (m : Matrix) (i : ℕ) (t : Refined) → LacksEntry m i (erased t) → LacksEntry m i (erased (instantiated Ts t))
  lacks_instance m i (int_with p) h = tt
  lacks_instance m i (bool_with p) h = tt
  lacks_instance m i unit_type h = tt
  lacks_instance m i (function x a b) h = tt
  lacks_instance m i (tuple_of ts) h = tt
  lacks_instance m i (array_with e p) h = tt
  lacks_instance m i (data_with d ts k p) h = tt
  lacks_instance m i (map_with e p) h = tt
  lacks_instance m i (type_variable k) h = lacks_any m i (erased (type_at Ts k)) h

  lack_instances : (m : Matrix) (i : ℕ) (ts : Refineds) → LackEntries m i (all_erased ts) → LackEntries m i (all_erased (all_instantiated Ts ts))
  lack_instances m i none h = tt
  lack_instances m i (more t ts) h = (lacks_instance m i t h.0, lack_instances m (suc i) ts h.1)

  mutual
    pub scalar_instance : (t : Refined) → IsScalar t → IsScalar (instantiated Ts t)
    scalar_instance (int_with p) h = tt
    scalar_instance (bool_with p) h = tt
    scalar_instance unit_type h = tt
    scalar_instance (function x a b) h = (scalar_instance a h.0, no_names_instance a h.1, scalar_instance b h.2)
    scalar_instance (tuple_of ts) h = all_scalar_instance ts h
    scalar_instance (array_with e p) h = (scalar_instance e h.0, no_names_instance e h.1)
    scalar_instance (data_with d ts m p) h =
        (all_scalar_instance ts h.0, all_no_names_instance ts h.1, lack_instances m 0 ts h.2)
    scalar_instance (map_with e p) h = (scalar_instance e h.0, no_names_instance e h.1)
    scalar_instance (type_variable i) h = (at_nameless Ts s n i).0

    all_scalar_instance : (ts : Refineds) → AreScalar ts → AreScalar (all_instantiated Ts ts)
    all_scalar_instance none h = tt
    all_scalar_instance (more t ts) h = (scalar_instance t h.0, all_scalar_instance ts h.1)

  -- ---- names of arguments

  mutual
    pub away_instance : (Q : Symbols) (t : Refined) → NamesAway Q t → NamesAway Q (instantiated Ts t)
    away_instance Q (int_with p) h = tt
    away_instance Q (bool_with p) h = tt
    away_instance Q unit_type h = tt
    away_instance Q (function None a b) h = (away_instance Q a h.0, away_instance Q b h.1)
    away_instance Q (function (Some x) a b) h = (h.0, h.1, away_instance Q a h.2, away_instance (with_twins Q x) b h.3)
    away_instance Q (tuple_of ts) h = all_away_instance Q ts h
    away_instance Q (array_with e p) h = away_instance Q e h
    away_instance Q (data_with d ts m p) h = all_away_instance Q ts h
    away_instance Q (map_with e p) h = away_instance Q e h
    away_instance Q (type_variable i) h = let k = at_nameless Ts s n i in apart_nameless Q (type_at Ts i) k.0 k.1

    all_away_instance : (Q : Symbols) (ts : Refineds) → AllNamesAway Q ts → AllNamesAway Q (all_instantiated Ts ts)
    all_away_instance Q none h = tt
    all_away_instance Q (more t ts) h = (away_instance Q t h.0, all_away_instance Q ts h.1)

-- none of these is named where nothing is
mutual
  pub nameless_outside : (M : Symbols) (t : Refined) → IsScalar t → HasNoNames t → NamesOutside M t
  nameless_outside M (int_with p) s h = tt
  nameless_outside M (bool_with p) s h = tt
  nameless_outside M unit_type s h = tt
  nameless_outside M (function None a b) s h = (nameless_outside M a s.0 h.0, nameless_outside M b s.2 h.1)
  nameless_outside M (function (Some x) a b) s h = absurd h
  nameless_outside M (tuple_of ts) s h = all_nameless_outside M ts s h
  nameless_outside M (array_with e p) s h = nameless_outside M e s.0 h
  nameless_outside M (data_with d ts m p) s h = all_nameless_outside M ts s.0 h
  nameless_outside M (map_with e p) s h = tt
  nameless_outside M (type_variable i) s h = tt

  pub all_nameless_outside : (M : Symbols) (ts : Refineds) → AreScalar ts → HaveNoNames ts → AllNamesOutside M ts
  all_nameless_outside M none s h = tt
  all_nameless_outside M (more t ts) s h = (nameless_outside M t s.0 h.0, all_nameless_outside M ts s.1 h.1)

-- it names none of fewer names either
mutual
  pub outside_less : (N M : Symbols) → ((z : ℕ) → N (symbol_of z) ≡ true → M (symbol_of z) ≡ true) → (t : Refined) → NamesOutside M t
      → NamesOutside N t
  outside_less N M w (int_with p) h = tt
  outside_less N M w (bool_with p) h = tt
  outside_less N M w unit_type h = tt
  outside_less N M w (function None a b) h = (outside_less N M w a h.0, outside_less N M w b h.1)
  outside_less N M w (function (Some x) a b) h = (
    false_unless (N (symbol_of x)) (λ e. clash (M (symbol_of x)) (w x e) h.0),
    outside_less N M w a h.1,
    outside_less N M w b h.2,
  )
  outside_less N M w (tuple_of ts) h = all_outside_less N M w ts h
  outside_less N M w (array_with e p) h = outside_less N M w e h
  outside_less N M w (data_with d ts k p) h = all_outside_less N M w ts h
  outside_less N M w (map_with e p) h = tt
  outside_less N M w (type_variable i) h = tt

  all_outside_less : (N M : Symbols) → ((z : ℕ) → N (symbol_of z) ≡ true → M (symbol_of z) ≡ true) → (ts : Refineds) → AllNamesOutside M ts
      → AllNamesOutside N ts
  all_outside_less N M w none h = tt
  all_outside_less N M w (more t ts) h = (outside_less N M w t h.0, all_outside_less N M w ts h.1)

module _ (Ts : Refineds) (s : AreScalar Ts) (n : HaveNoNames Ts) (M : Symbols) where
  mutual
    pub outside_instance : (t : Refined) → NamesOutside M t → NamesOutside M (instantiated Ts t)
    outside_instance (int_with p) h = tt
    outside_instance (bool_with p) h = tt
    outside_instance unit_type h = tt
    outside_instance (function None a b) h = (outside_instance a h.0, outside_instance b h.1)
    outside_instance (function (Some x) a b) h = (h.0, outside_instance a h.1, outside_instance b h.2)
    outside_instance (tuple_of ts) h = all_outside_instance ts h
    outside_instance (array_with e p) h = outside_instance e h
    outside_instance (data_with d ts m p) h = all_outside_instance ts h
    outside_instance (map_with e p) h = tt
    outside_instance (type_variable i) h = let k = at_nameless Ts s n Ts s n i in nameless_outside M (type_at Ts i) k.0 k.1

    all_outside_instance : (ts : Refineds) → AllNamesOutside M ts → AllNamesOutside M (all_instantiated Ts ts)
    all_outside_instance none h = tt
    all_outside_instance (more t ts) h = (outside_instance t h.0, all_outside_instance ts h.1)

-- names that are away from some and outside of others are away from any among these
module _ (M : Symbols) (small : AreSmall M) where
  abbrev IsOfEither : Symbols → Symbols → Type 0
  IsOfEither Q R = (z : ℕ) → R (symbol_of z) ≡ true → (Q (symbol_of z) ≡ true) ⊎ (M (symbol_of z) ≡ true)

  either_with : (Q R : Symbols) (x : ℕ) → IsOfEither Q R → IsOfEither (with_symbol Q (symbol_of x)) (with_symbol R (symbol_of x))
  either_with Q R x e z h =
      or_parts ((with_symbol Q (symbol_of x) (symbol_of z) ≡ true) ⊎ (M (symbol_of z) ≡ true)) (R (symbol_of z)) (x == z) h
      (λ k. left (e z k)) (λ k. inl (or_right (Q (symbol_of z)) (x == z) k))
    where
      left : (Q (symbol_of z) ≡ true) ⊎ (M (symbol_of z) ≡ true) → (with_symbol Q (symbol_of x) (symbol_of z) ≡ true) ⊎ (M (symbol_of z) ≡ true)
      left (inl k) = inl (or_left (Q (symbol_of z)) (x == z) k)
      left (inr k) = inr k

  not_either : (Q R : Symbols) (z : ℕ) → IsOfEither Q R → Q (symbol_of z) ≡ false → M (symbol_of z) ≡ false → R (symbol_of z) ≡ false
  not_either Q R z e q k = false_unless (R (symbol_of z)) (λ h. by (e z h))
    where
      by : (Q (symbol_of z) ≡ true) ⊎ (M (symbol_of z) ≡ true) → ⊥
      by (inl h) = clash (Q (symbol_of z)) h q
      by (inr h) = clash (M (symbol_of z)) h k

  mutual
    pub away_other : (Q R : Symbols) → IsOfEither Q R → (t : Refined) → IsScalar t → NamesOutside M t → NamesAway Q t → NamesAway R t
    away_other Q R e (int_with p) s o h = tt
    away_other Q R e (bool_with p) s o h = tt
    away_other Q R e unit_type s o h = tt
    away_other Q R e (function None a b) s o h = (away_other Q R e a s.0 o.0 h.0, away_other Q R e b s.2 o.1 h.1)
    away_other Q R e (function (Some x) a b) s o h = (
      not_either Q R x e h.0 o.0,
      not_either Q R (twin_of x) e h.1 (twin_outside M small x),
      away_other Q R e a s.0 o.1 h.2,
      away_other (with_twins Q x) (with_twins R x)
          (either_with (with_symbol Q (symbol_of x)) (with_symbol R (symbol_of x)) (twin_of x) (either_with Q R x e)) b s.2 o.2 h.3,
    )
    away_other Q R e (tuple_of ts) s o h = all_away_other Q R e ts s o h
    away_other Q R e (array_with i p) s o h = away_other Q R e i s.0 o h
    away_other Q R e (data_with d ts m p) s o h = all_away_other Q R e ts s.0 o h
    away_other Q R e (map_with i p) s o h = apart_nameless R i s.0 s.1
    away_other Q R e (type_variable i) s o h = tt

    all_away_other : (Q R : Symbols) → IsOfEither Q R → (ts : Refineds) → AreScalar ts → AllNamesOutside M ts → AllNamesAway Q ts → AllNamesAway R ts
    all_away_other Q R e none s o h = tt
    all_away_other Q R e (more t ts) s o h = (away_other Q R e t s.0 o.0 h.0, all_away_other Q R e ts s.1 o.1 h.1)

-- a type that names no argument by any name there is says nothing of kinds
module _ (m : Naming) where
  mutual
    pub named_outside : (t : Refined) → NamesOutside m.all t → IsNamed m t
    named_outside (int_with p) h = tt
    named_outside (bool_with p) h = tt
    named_outside unit_type h = tt
    named_outside (function None a b) h = named_outside b h.1
    named_outside (function (Some x) a b) h = ((λ e. absurd (clash (m.all (symbol_of x)) e h.0)), named_outside b h.2)
    named_outside (tuple_of ts) h = all_named_outside ts h
    named_outside (array_with e p) h = tt
    named_outside (data_with d ts n p) h = tt
    named_outside (map_with e p) h = tt
    named_outside (type_variable i) h = tt

    all_named_outside : (ts : Refineds) → AllNamesOutside m.all ts → AreNamed m ts
    all_named_outside none h = tt
    all_named_outside (more t ts) h = (named_outside t h.0, all_named_outside ts h.1)

-- ---- names of which types speak

-- a shape of which predicates don't speak, or it stays
shape_grows : (by : ℕ → MlType) (a : MlType) → (shape_of a ≡ shape.other) ⊎ (shape_of (put by a) ≡ shape_of a)
shape_grows by ml.int = inr refl
shape_grows by ml.bool = inr refl
shape_grows by ml.unit = inl refl
shape_grows by (ml.var i) = inl refl
shape_grows by (ml.arrow a b) = inl refl
shape_grows by (ml.tuple ts) = inl refl
shape_grows by (ml.array a) = inr refl
shape_grows by (ml.named d ts) = inr refl
shape_grows by (ml.map_of a) = inl refl

module _ (by : ℕ → MlType) where
  at_put : (us : MlTypes) (i : ℕ) → types.type_at (put_all by us) i ≡ put by (types.type_at us i)
  at_put ml.no_types i = refl
  at_put (ml.more_types t us) zero = refl
  at_put (ml.more_types t us) (suc i) = at_put us i

  put_count : (us : MlTypes) → count_types (put_all by us) ≡ count_types us
  put_count ml.no_types = refl
  put_count (ml.more_types t us) = ap suc (put_count us)

  -- of a field, where the datatype's arguments are an instance
  field_grows : (us : MlTypes) (f : MlType)
      → let s = shape_of (put (types.type_at us) f) in
      (s ≡ shape.other) ⊎ (shape_of (put (types.type_at (put_all by us)) f) ≡ s)
  field_grows us ml.int = inr refl
  field_grows us ml.bool = inr refl
  field_grows us ml.unit = inl refl
  field_grows us (ml.var i) = one (shape_grows by (types.type_at us i))
    where
      one : (shape_of (types.type_at us i) ≡ shape.other) ⊎ (shape_of (put by (types.type_at us i)) ≡ shape_of (types.type_at us i))
          → (shape_of (types.type_at us i) ≡ shape.other) ⊎ (shape_of (types.type_at (put_all by us) i) ≡ shape_of (types.type_at us i))
      one (inl e) = inl e
      one (inr e) = inr (ap shape_of (at_put us i) ∙ e)
  field_grows us (ml.arrow a b) = inl refl
  field_grows us (ml.tuple ts) = inl refl
  field_grows us (ml.array a) = inr refl
  field_grows us (ml.named d ts) = inr refl
  field_grows us (ml.map_of a) = inl refl

  in_first : (N : Names) (Γ Δ : Scope) → ScopeIn N (Γ ++ Δ) → ScopeIn N Γ × ScopeIn N Δ
  in_first N [] Δ h = (tt, h)
  in_first N (e ∷ Γ) Δ h = let r = in_first N Γ Δ h.1 in ((h.0, r.0), r.1)

  in_with : (N : Names) (k : ℕ) (s : Shape) (Γ : Scope) → ScopeIn N (with_position k s Γ) → ScopeIn N Γ × IsIn N s (Position (suc k))
  in_with N k int Γ h = let r = in_first N Γ ((Position (suc k), int) ∷ []) h in (r.0, r.1.0)
  in_with N k bool Γ h = let r = in_first N Γ ((Position (suc k), bool) ∷ []) h in (r.0, r.1.0)
  in_with N k array Γ h = let r = in_first N Γ ((Position (suc k), array) ∷ []) h in (r.0, r.1.0)
  in_with N k (data_of d) Γ h = let r = in_first N Γ ((Position (suc k), data_of d) ∷ []) h in (r.0, r.1.0)
  in_with N k shape.other Γ h = (h, tt)

  shape_in : (N : Names) (s z : Shape) (x : Symbol) → (s ≡ shape.other) ⊎ (z ≡ s) → IsIn N z x → IsIn N s x
  shape_in N s z x (inl e) h = subst (λ r. IsIn N r x) (sym e) tt
  shape_in N s z x (inr e) h = subst (λ r. IsIn N r x) e h

  -- the scope of fields has more symbols
  fields_in : (N : Names) (d : ℕ) (us : MlTypes) (j : ℕ) (fs : MlTypes) (Γ Δ : Scope) → (ScopeIn N Δ → ScopeIn N Γ)
      → ScopeIn N (field_scope d (put_all by us) j fs Δ) → ScopeIn N (field_scope d us j fs Γ)
  fields_in N d us j ml.no_types Γ Δ f h = f h
  fields_in N d us j (ml.more_types g fs) Γ Δ f h =
      let S = shape_of (put (types.type_at us) g) in
      let Z = shape_of (put (types.type_at (put_all by us)) g) in
      let n = is_again d (count_types us) g in
      let same : is_again d (count_types (put_all by us)) g ≡ n = ap (λ (k : ℕ). is_again d k g) (put_count us) in
      fields_in N d us (suc j) fs (cond n Γ (with_position j S Γ)) (cond n Δ (with_position j Z Δ)) (one n S Z (field_grows us g))
      (subst (λ (b : Bool). ScopeIn N (field_scope d (put_all by us) (suc j) fs (cond b Δ (with_position j Z Δ)))) same h)
    where
      one : (b : Bool) (S Z : Shape) → (S ≡ shape.other) ⊎ (Z ≡ S)
          → ScopeIn N (cond b Δ (with_position j Z Δ)) → ScopeIn N (cond b Γ (with_position j S Γ))
      one true S Z g k = f k
      one false S Z g k =
          let r = in_with N j Z Δ k in scope_with N (Position (suc j)) S Γ (f r.0) (shape_in N S Z (Position (suc j)) g r.1)

-- ---- more names

sort_more : (N M : Names) → AreWithin N M → (k : Kind) (x : Symbol) → AreWithin (with_sort N k x) (with_sort M k x)
sort_more N M w number x = record { terms = wider N.terms M.terms x w.terms; flags = w.flags }
sort_more N M w truth_value x = record { terms = w.terms; flags = wider N.flags M.flags x w.flags }
sort_more N M w object x = record { terms = wider N.terms M.terms x w.terms; flags = w.flags }
sort_more N M w other x = w

same_within : (N : Names) → AreWithin N N
same_within N = record { terms = λ y e. e; flags = λ y e. e }

within_more : (N M L : Names) → AreWithin N M → AreWithin M L → AreWithin N L
within_more N M L w v = record { terms = λ y h. v.terms y (w.terms y h); flags = λ y h. v.flags y (w.flags y h) }

or_same : (T : Symbols) (x : Symbol) → T x ≡ true → (y : Symbol) → with_symbol T x y ≡ true → T y ≡ true
or_same T x h y e = or_parts (T y ≡ true) (T y) (same_symbol x y) e (λ k. k) (λ k. subst (λ z. T z ≡ true) (same_is x y k) h)

-- a symbol of a scope that is of these names adds none
shape_sort : (N : Names) (s : Shape) (x : Symbol) → IsIn N s x → AreWithin (with_sort N (kind_of s) x) N
shape_sort N int x h = record { terms = λ y e. or_same N.terms x h y e; flags = λ y e. e }
shape_sort N bool x h = record { terms = λ y e. e; flags = λ y e. or_same N.flags x h y e }
shape_sort N array x h = record { terms = λ y e. or_same N.terms x h y e; flags = λ y e. e }
shape_sort N (data_of d) x h = record { terms = λ y e. or_same N.terms x h y e; flags = λ y e. e }
shape_sort N shape.other x h = record { terms = λ y e. e; flags = λ y e. e }

scope_names_in : (N : Names) (Γ : Scope) → ScopeIn N Γ → AreWithin (scope_names Γ) N
scope_names_in N [] h = record { terms = λ y e. absurd (no e); flags = λ y e. absurd (no e) }
  where
    no : false ≡ true → ⊥
    no e = cc
scope_names_in N (e ∷ Γ) h =
    within_more (with_sort (scope_names Γ) (kind_of e.1) e.0) (with_sort N (kind_of e.1) e.0) N
    (sort_more (scope_names Γ) N (scope_names_in N Γ h.1) (kind_of e.1) e.0) (shape_sort N e.1 e.0 h.0)

-- ---- types

module _ (constructors : Signature) (unknowns : ℕ → Unknown) (scopes : Scopes) (keep : KeepNames constructors unknowns scopes) (Ts : Refineds) where
  abbrev Inside : Names → Refined → Type 0
  Inside N t = InsideOver constructors unknowns N t

  abbrev AllOver : Names → Refineds → Type 0
  AllOver N ts = TypesOver constructors unknowns N ts

  parts_more : (N M : Names) → AreWithin N M → (ps : Parts) → PartsOver unknowns N ps → PartsOver unknowns M ps
  parts_more N M w ps h = (keep.widening N M w (map_with unit_type ps) ((tt, tt), h)).1

  all_more : (N M : Names) → AreWithin N M → (ts : Refineds) → AllOver N ts → AllOver M ts
  all_more N M w ts h = (keep.widening N M w (data_with 0 ts [] []) ((h, tt), tt)).0.0

  at_over : (N : Names) (us : Refineds) → AllOver N us → (i : ℕ) → Inside N (type_at us i) × TopOver unknowns N (type_at us i)
  at_over N none h i = (tt, tt)
  at_over N (more t us) h zero = (h.0, h.1)
  at_over N (more t us) h (suc i) = at_over N us h.2 i

  -- a variable's kind is that of no predicate
  kind_more : (N M : Names) → AreWithin N M → (t : Refined) (x : Symbol)
      → AreWithin (with_sort N (kind t) x) (with_sort M (kind (instantiated Ts t)) x)
  kind_more N M w (int_with p) x = sort_more N M w number x
  kind_more N M w (bool_with p) x = sort_more N M w truth_value x
  kind_more N M w unit_type x = w
  kind_more N M w (function y a b) x = w
  kind_more N M w (tuple_of ts) x = w
  kind_more N M w (array_with e p) x = sort_more N M w object x
  kind_more N M w (data_with d ts m p) x = sort_more N M w object x
  kind_more N M w (map_with e p) x = w
  kind_more N M w (type_variable i) x = within_more N M (with_sort M (kind (type_at Ts i)) x) w (within_sort M (kind (type_at Ts i)) x)

  argument_more : (N M : Names) → AreWithin N M → (x : Option ℕ) (t : Refined)
      → AreWithin (with_argument N x (kind t)) (with_argument M x (kind (instantiated Ts t)))
  argument_more N M w None t = w
  argument_more N M w (Some x) t = kind_more N M w t (symbol_of x)

  argument_within : (N : Names) (x : Option ℕ) (k : Kind) → AreWithin N (with_argument N x k)
  argument_within N None k = record { terms = λ y e. e; flags = λ y e. e }
  argument_within N (Some x) k = within_sort N k (symbol_of x)

  top_instance : (N M : Names) → AreWithin N M → (L : Names) → AreWithin L M → AllOver L Ts → (t : Refined) → TopOver unknowns N t
      → TopOver unknowns M (instantiated Ts t)
  top_instance N M w L v a (int_with p) h = parts_more (with_sort N number Value) (with_sort M number Value) (sort_more N M w number Value) p h
  top_instance N M w L v a (bool_with p) h =
      parts_more (with_sort N truth_value Value) (with_sort M truth_value Value) (sort_more N M w truth_value Value) p h
  top_instance N M w L v a unit_type h = tt
  top_instance N M w L v a (function x b c) h = tt
  top_instance N M w L v a (tuple_of ts) h = tt
  top_instance N M w L v a (array_with e p) h = parts_more (with_sort N object Value) (with_sort M object Value) (sort_more N M w object Value) p h
  top_instance N M w L v a (data_with d ts m p) h =
      parts_more (with_sort N object Value) (with_sort M object Value) (sort_more N M w object Value) p h
  top_instance N M w L v a (map_with e p) h = parts_more N M w p h
  top_instance N M w L v a (type_variable i) h = (at_over M Ts (all_more L M v Ts a) i).1

  all_erased_instance : (ts : Refineds) → all_erased (all_instantiated Ts ts) ≡ put_all (types.type_at (all_erased Ts)) (all_erased ts)
  all_erased_instance none = refl
  all_erased_instance (more t ts) = ap₂ ml.more_types (instantiated-erased Ts t) (all_erased_instance ts)

  at_instance : (ts : Refineds) (i : ℕ) → type_at (all_instantiated Ts ts) i ≡ instantiated Ts (type_at ts i)
  at_instance none i = refl
  at_instance (more t ts) zero = refl
  at_instance (more t ts) (suc i) = at_instance ts i

  cells_instance : (d : ℕ) (ts : Refineds) (m : Matrix) → CellsOver constructors unknowns d ts m
      → CellsOver constructors unknowns d (all_instantiated Ts ts) m
  cells_instance d ts [] h = tt
  cells_instance d ts (e ∷ m) h =
      let us = all_instantiated Ts ts in
      let fs = fields_of (constructors e.constructor) in
      let by = types.type_at (all_erased Ts) in
      let F = field_scope d (all_erased ts) 0 fs [] in
      let H = field_scope d (all_erased us) 0 fs [] in
      let own = subst (λ (vs : MlTypes). ScopeIn (scope_names H) (field_scope d vs 0 fs [])) (all_erased_instance ts) (own_names H) in
      let w = scope_names_in (scope_names H) F (fields_in by (scope_names H) d (all_erased ts) 0 fs [] [] (λ k. k) own) in
      let v = subst (λ (t : Refined). AreWithin (with_sort (scope_names F) (kind (type_at ts e.parameter)) Value) (with_sort (scope_names H) (kind t) Value))
      (sym (at_instance ts e.parameter)) (kind_more (scope_names F) (scope_names H) w (type_at ts e.parameter) Value) in
      (parts_more (cell_names constructors unknowns d ts e) (cell_names constructors unknowns d us e) v e.parts h.0, cells_instance d ts m h.1)

  mutual
    inside_instance : (N M : Names) → AreWithin N M → AllOver M Ts → (t : Refined) → Inside N t → Inside M (instantiated Ts t)
    inside_instance N M w a (int_with p) h = tt
    inside_instance N M w a (bool_with p) h = tt
    inside_instance N M w a unit_type h = tt
    inside_instance N M w a (function x b c) h =
        let P = with_argument N x (kind b) in
        let Q = with_argument M x (kind (instantiated Ts b)) in
        let v = argument_more N M w x b in
        let i = argument_within M x (kind (instantiated Ts b)) in
        let r = same_within M in (
          inside_instance N M w a b h.0,
          top_instance N M w M r a b h.1,
          inside_instance P Q v (all_more M Q i Ts a) c h.2,
          top_instance P Q v M i a c h.3,
        )
    inside_instance N M w a (tuple_of ts) h = components_instance N M w a N M w (same_within M) 0 ts h
    inside_instance N M w a (array_with e p) h =
        (inside_instance N M w a e h.0, top_instance N M w M (same_within M) a e h.1)
    inside_instance N M w a (data_with d ts m p) h = (types_instance N M w a ts h.0, cells_instance d ts m h.1)
    inside_instance N M w a (map_with e p) h =
        let x = Position 0 in (
          inside_instance N M w a e h.0,
          top_instance (with_sort N number x) (with_sort M number x) (sort_more N M w number x) M (within_sort M number x) a e h.1,
        )
    inside_instance N M w a (type_variable i) h = (at_over M Ts a i).0

    types_instance : (N M : Names) → AreWithin N M → AllOver M Ts → (ts : Refineds) → AllOver N ts → AllOver M (all_instantiated Ts ts)
    types_instance N M w a none h = tt
    types_instance N M w a (more t ts) h =
        (inside_instance N M w a t h.0, top_instance N M w M (same_within M) a t h.1, types_instance N M w a ts h.2)

    components_instance : (N M : Names) → AreWithin N M → AllOver M Ts → (K L : Names) → AreWithin K L → AreWithin M L → (j : ℕ) (ts : Refineds)
        → ComponentsOver constructors unknowns N K j ts → ComponentsOver constructors unknowns M L j (all_instantiated Ts ts)
    components_instance N M w a K L v i j none h = tt
    components_instance N M w a K L v i j (more t ts) h =
        let x = Position (suc j) in
        let k = kind (instantiated Ts t) in (
          inside_instance N M w a t h.0,
          top_instance K L v M i a t h.1,
          components_instance N M w a (with_sort K (kind t) x) (with_sort L k x) (kind_more K L v t x)
              (within_more M L (with_sort L k x) i (within_sort L k x)) (suc j) ts h.2,
        )

  pub over_instance : (N : Names) → AllOver N Ts → (t : Refined) → TypeOver constructors unknowns N t
      → TypeOver constructors unknowns N (instantiated Ts t)
  over_instance N a t h =
      let r = same_within N in
      (inside_instance N N r a t h.0, top_instance N N r N r a t h.1)
