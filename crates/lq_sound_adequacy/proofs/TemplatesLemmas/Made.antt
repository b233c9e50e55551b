-- Fresh templates are well sorted over names among which their scopes have their sorts.
use Rattle.std.proofs.Common.{◌≡◌, inl, ℕ, suc, ◌+◌, Bool, true, false, cond, List, [], ◌∷◌, ◌++◌, length, Option, Some, None, refl, sym, ap₂, subst}
use Rattle.lq_sound_scope.specs.Scopes.Over.{kind_of}
use Rattle.lq_sound_scope.proofs.ScopesLemmas.Made.{HasScopes, has_first, has_second}
use Rattle.lq_refined_instances.specs.Scopes.{Scope}
use Rattle.lq_refined_types.specs.Parts.Part.{Parts}
use Rattle.lq_logic_predicates.specs.declared.symbol.Symbol.TheVariants.{Value, Position}
use Rattle.lq_refined_types.specs.Types.Operations.{symbol_of}
use Rattle.lq_refined_types.specs.Types.Refined.{Matrix, Refined, int_with, bool_with, unit_type, function, tuple_of, array_with, data_with, map_with, type_variable, Refineds, more, Kind, number, kind, top, with_top, all_erased}
use Rattle.lq_refined_types.specs.Types.Unfolding.{is_again}
use Rattle.lq_text_qualifiers.specs.Faults.Shapes.{Shape, int, bool, array, data_of, other, shape_of}
use Rattle.lq_refined_types.specs.Subtyping.Subtype.{fields_of}
use Rattle.lq_refined_templates.specs.Templates.Cells.{Cells, one_unknown, cell_of_shape, constructor_cells, field_cells, field_scope, no_cells, parameter_cells}
use Rattle.lq_refined_templates.specs.Templates.Fresh.{Made, AllMade, arguments, components, fresh, inside, topped}
use Rattle.lq_refined_templates.specs.Templates.Laws.{TemplatesErase}
use Rattle.lq_refined_templates.specs.Templates.Scopes as scopes
use Rattle.lq_refined_templates.specs.Templates.Scopes.{Unknown, with_position}
use Rattle.lq_text_tree.specs.MlType as ml
use Rattle.lq_text_tree.specs.MlType.{MlType, MlTypes}
use Rattle.lq_text_tree.specs.Types.{Signature, count_types, type_at}
use Rattle.lq_sound_scope.specs.Sorts.Sorts.{ScopeStands, Sorts, StandsAt, scope_sorts, with_kind}
use Rattle.lq_sound_scope.specs.Sorts.Types.{CellsSorted, ComponentsSorted, InsideSorted, PartsSorted, TopSorted, TypeSorted, TypesSorted}
use Rattle.lq_sound_scope.proofs.SortsLemmas.Basics.{own_stands, scope_within, self_stands, within_kind}
use Rattle.lq_sound_scope.proofs.SortsLemmas.Scopes.{own_scope, scope_with, scope_with_one}
use Rattle.lq_sound_adequacy.specs.Templates.Points.{NamesFit}

module _ (all : ℕ → Unknown) where
  -- ---- tops

  one_over : (N : Sorts) (n : ℕ) (Γ : Scope) (s : Shape) → StandsAt N [] (kind_of s) Value → ScopeStands N [] Γ → all n ≡ (Γ, s) → PartsSorted all N (one_unknown n)
  one_over N n Γ s v h e = (subst (λ (u : Unknown). StandsAt N [] (kind_of u.1) Value × ScopeStands N [] u.0) (sym e) (v, h), tt)

  pub top_with : (N : Sorts) (k : Kind) (q : Parts) (t : Refined) → PartsSorted all (with_kind N k Value) q → kind (with_top q t) ≡ k → TopSorted all N (with_top q t)
  top_with N k q t h e = at t (subst (λ (z : Kind). PartsSorted all (with_kind N z Value) q) (sym e) h)
    where
      at : (t : Refined) → PartsSorted all (with_kind N (kind (with_top q t)) Value) q → TopSorted all N (with_top q t)
      at (int_with p) h = h
      at (bool_with p) h = h
      at unit_type h = tt
      at (function x a b) h = tt
      at (tuple_of ts) h = tt
      at (array_with e p) h = h
      at (data_with d ts m p) h = h
      at (map_with e p) h = h
      at (type_variable i) h = tt

  unknown_top : (N : Sorts) (n : ℕ) (Γ : Scope) (s : Shape) (t : Refined) → ScopeStands N [] Γ → all n ≡ (Γ, s) → kind (with_top (one_unknown n) t) ≡ kind_of s
      → TopSorted all N (with_top (one_unknown n) t)
  unknown_top N n Γ s t h e k =
      let M : Sorts = with_kind N (kind_of s) Value in
      top_with N (kind_of s) (one_unknown n) t (one_over M n Γ s (own_stands N (kind_of s) Value) (scope_within N M (within_kind N (kind_of s) Value) [] Γ h) e) k

  pub topped_top : (N : Sorts) (n : ℕ) (Γ : Scope) (s : Shape) (m : Made) → ScopeStands N [] Γ → top m.type ≡ [] → kind (topped n Γ s m).type ≡ kind_of s
      → HasScopes all n (topped n Γ s m).unknowns → TopSorted all N (topped n Γ s m).type
  topped_top N n Γ int m h e k w = unknown_top N (n + length m.unknowns) Γ int m.type h (has_second all n m.unknowns _ w).0 k
  topped_top N n Γ bool m h e k w = unknown_top N (n + length m.unknowns) Γ bool m.type h (has_second all n m.unknowns _ w).0 k
  topped_top N n Γ array m h e k w = unknown_top N (n + length m.unknowns) Γ array m.type h (has_second all n m.unknowns _ w).0 k
  topped_top N n Γ (data_of d) m h e k w = unknown_top N (n + length m.unknowns) Γ (data_of d) m.type h (has_second all n m.unknowns _ w).0 k
  topped_top N n Γ other m h e k w = subst (λ ps. PartsSorted all (with_kind N (kind m.type) Value) ps) (sym e) tt

  pub topped_scopes : (n : ℕ) (Γ : Scope) (s : Shape) (m : Made) → HasScopes all n (topped n Γ s m).unknowns → HasScopes all n m.unknowns
  topped_scopes n Γ int m h = has_first all n m.unknowns _ h
  topped_scopes n Γ bool m h = has_first all n m.unknowns _ h
  topped_scopes n Γ array m h = has_first all n m.unknowns _ h
  topped_scopes n Γ (data_of d) m h = has_first all n m.unknowns _ h
  topped_scopes n Γ other m h = h

  -- ---- matrices

  -- of a constructor's names and of the kinds of parameters
  module _ (Own : ℕ → Sorts) (K : ℕ → Kind) where
    abbrev pub CellsBy : Matrix → Type 0
    CellsBy [] = Unit {0}
    CellsBy (e ∷ m) = PartsSorted all (with_kind (Own e.constructor) (K e.parameter) Value) e.parts × CellsBy m

    -- the parameters from the i-th on have these kinds
    abbrev pub KindsAre : ℕ → MlTypes → Type 0
    KindsAre i ml.no_types = Unit {0}
    KindsAre i (ml.more_types u us) = (K i ≡ kind_of (shape_of u)) × KindsAre (suc i) us

    joined_over : (a b : Matrix) → CellsBy a → CellsBy b → CellsBy (a ++ b)
    joined_over [] b h w = w
    joined_over (e ∷ a) b h w = (h.0, joined_over a b h.1 w)

    module _ (Γ : Scope) (c : ℕ) (own : ScopeStands (Own c) [] Γ) where
      cell_over : (n i : ℕ) (s : Shape) → K i ≡ kind_of s → all n ≡ (Γ, s) → PartsSorted all (with_kind (Own c) (K i) Value) (one_unknown n)
      cell_over n i s k e =
          let M : Sorts = with_kind (Own c) (kind_of s) Value in
          subst (λ (z : Kind). PartsSorted all (with_kind (Own c) z Value) (one_unknown n)) (sym k)
          (one_over M n Γ s (own_stands (Own c) (kind_of s) Value) (scope_within (Own c) M (within_kind (Own c) (kind_of s) Value) [] Γ own) e)

      one_cell : (n j i : ℕ) (s : Shape) → K i ≡ kind_of s → HasScopes all n (cell_of_shape n Γ c j i s).unknowns → CellsBy (cell_of_shape n Γ c j i s).matrix
      one_cell n j i int k h = (cell_over n i int k h.0, tt)
      one_cell n j i bool k h = (cell_over n i bool k h.0, tt)
      one_cell n j i array k h = (cell_over n i array k h.0, tt)
      one_cell n j i (data_of d) k h = (cell_over n i (data_of d) k h.0, tt)
      one_cell n j i other k h = tt

      parameters_over : (n j i : ℕ) (us : MlTypes) → KindsAre i us → HasScopes all n (parameter_cells n Γ c j i us).unknowns → CellsBy (parameter_cells n Γ c j i us).matrix
      parameters_over n j i ml.no_types k h = tt
      parameters_over n j i (ml.more_types u us) k h =
          let a : Cells = cell_of_shape n Γ c j i (shape_of u) in
          joined_over a.matrix (parameter_cells (n + length a.unknowns) Γ c j (suc i) us).matrix (one_cell n j i (shape_of u) k.0 (has_first all n a.unknowns _ h))
          (parameters_over (n + length a.unknowns) j (suc i) us k.1 (has_second all n a.unknowns _ h))

      fields_over : (n d : ℕ) (us : MlTypes) (j : ℕ) (fs : MlTypes) → KindsAre 0 us → HasScopes all n (field_cells n Γ d c us j fs).unknowns
          → CellsBy (field_cells n Γ d c us j fs).matrix
      fields_over n d us j ml.no_types k h = tt
      fields_over n d us j (ml.more_types f fs) k h =
          let a : Cells = cond (is_again d (count_types us) f) (parameter_cells n Γ c j 0 us) no_cells in
          joined_over a.matrix (field_cells (n + length a.unknowns) Γ d c us (suc j) fs).matrix (by (is_again d (count_types us) f) (has_first all n a.unknowns _ h))
          (fields_over (n + length a.unknowns) d us (suc j) fs k (has_second all n a.unknowns _ h))
        where
          by : (b : Bool) → HasScopes all n (cond b (parameter_cells n Γ c j 0 us) no_cells).unknowns
              → CellsBy (cond b (parameter_cells n Γ c j 0 us) no_cells).matrix
          by true h = parameters_over n j 0 us k h
          by false h = tt

    pub constructors_by : (g : Signature) (n d : ℕ) (us : MlTypes) (cs : List ℕ) → KindsAre 0 us
        → ((c : ℕ) → ScopeStands (Own c) [] (field_scope d us 0 (fields_of (g c)) []))
        → HasScopes all n (constructor_cells g n d us cs).unknowns → CellsBy (constructor_cells g n d us cs).matrix
    constructors_by g n d us [] k own h = tt
    constructors_by g n d us (c ∷ cs) k own h =
        let fs : MlTypes = fields_of (g c) in
        let Γ : Scope = field_scope d us 0 fs [] in
        let a : Cells = field_cells n Γ d c us 0 fs in
        joined_over a.matrix (constructor_cells g (n + length a.unknowns) d us cs).matrix (fields_over Γ c (own c) n d us 0 fs k (has_first all n a.unknowns _ h))
        (constructors_by g (n + length a.unknowns) d us cs k own (has_second all n a.unknowns _ h))

kinds_later : (all : ℕ → Unknown) (Own : ℕ → Sorts) (K : ℕ → Kind) (i : ℕ) (us : MlTypes) → KindsAre all Own (λ i. K (suc i)) i us → KindsAre all Own K (suc i) us
kinds_later all Own K i ml.no_types h = tt
kinds_later all Own K i (ml.more_types u us) h = (h.0, kinds_later all Own K (suc i) us h.1)

kinds_are : (all : ℕ → Unknown) (Own : ℕ → Sorts) (us : MlTypes) → KindsAre all Own (λ i. kind_of (shape_of (type_at us i))) 0 us
kinds_are all Own ml.no_types = tt
kinds_are all Own (ml.more_types u us) =
    (refl, kinds_later all Own (λ i. kind_of (shape_of (type_at (ml.more_types u us) i))) 0 us (kinds_are all Own us))

module _ (g : Signature) (all : ℕ → Unknown) where
  cells_are : (d : ℕ) (us : MlTypes) (m : Matrix)
      → CellsBy all (λ c. scope_sorts (field_scope d us 0 (fields_of (g c)) [])) (λ i. kind_of (shape_of (type_at us i))) m → CellsSorted g all d us m
  cells_are d us [] h = tt
  cells_are d us (e ∷ m) h = (h.0, cells_are d us m h.1)

  -- the matrix of a datatype whose arguments have these types
  pub constructors_over : (n d : ℕ) (us : MlTypes) (ts : Refineds) (cs : List ℕ) → all_erased ts ≡ us → HasScopes all n (constructor_cells g n d us cs).unknowns
      → CellsSorted g all d (all_erased ts) (constructor_cells g n d us cs).matrix
  constructors_over n d us ts cs e h =
      subst (λ (vs : MlTypes). CellsSorted g all d vs (constructor_cells g n d us cs).matrix) (sym e)
      (cells_are d us (constructor_cells g n d us cs).matrix
      (constructors_by all (λ c. scope_sorts (field_scope d us 0 (fields_of (g c)) [])) (λ i. kind_of (shape_of (type_at us i))) g n d us cs
      (kinds_are all (λ c. scope_sorts (field_scope d us 0 (fields_of (g c)) [])) us) (λ c. own_scope (field_scope d us 0 (fields_of (g c)) [])) h))

  pub inside_with : (N : Sorts) (q : Parts) (t : Refined) → InsideSorted g all N t → InsideSorted g all N (with_top q t)
  inside_with N q (int_with p) h = tt
  inside_with N q (bool_with p) h = tt
  inside_with N q unit_type h = tt
  inside_with N q (function x a b) h = h
  inside_with N q (tuple_of ts) h = h
  inside_with N q (array_with e p) h = h
  inside_with N q (data_with d ts m p) h = h
  inside_with N q (map_with e p) h = h
  inside_with N q (type_variable i) h = tt

  pub topped_inside : (N : Sorts) (n : ℕ) (Γ : Scope) (s : Shape) (m : Made) → InsideSorted g all N m.type → InsideSorted g all N (topped n Γ s m).type
  topped_inside N n Γ int m h = inside_with N (one_unknown (n + length m.unknowns)) m.type h
  topped_inside N n Γ bool m h = inside_with N (one_unknown (n + length m.unknowns)) m.type h
  topped_inside N n Γ array m h = inside_with N (one_unknown (n + length m.unknowns)) m.type h
  topped_inside N n Γ (data_of d) m h = inside_with N (one_unknown (n + length m.unknowns)) m.type h
  topped_inside N n Γ other m h = h

  -- ---- types by their parts, at a kind that is theirs

  next_over : (N M : Sorts) (z : Kind) (k : ℕ) (t : Refined) (ts : Refineds) → kind t ≡ z → InsideSorted g all N t × TopSorted all M t
      → ComponentsSorted g all N (with_kind M z (Position (suc k))) (suc k) ts → ComponentsSorted g all N M k (more t ts)
  next_over N M z k t ts e h w =
      (h.0, h.1, subst (λ (y : Kind). ComponentsSorted g all N (with_kind M y (Position (suc k))) (suc k) ts) (sym e) w)

  -- ---- templates

  module _ (erases : TemplatesErase) (constructors : ℕ → List ℕ) where
    pub no_top : (n : ℕ) (Γ : Scope) (xs : List (Option ℕ)) (t : MlType) → top (inside g constructors n Γ xs t).type ≡ []
    no_top n Γ xs ml.int = refl
    no_top n Γ xs ml.bool = refl
    no_top n Γ xs ml.unit = refl
    no_top n Γ xs (ml.var i) = refl
    no_top n Γ xs (ml.arrow a b) = refl
    no_top n Γ xs (ml.tuple ts) = refl
    no_top n Γ xs (ml.array a) = refl
    no_top n Γ xs (ml.named d ts) = refl
    no_top n Γ xs (ml.map_of a) = refl

    -- with an unknown at its top, that may speak of another scope
    abbrev Topped : ℕ → Scope → Scope → List (Option ℕ) → MlType → Made
    Topped n Δ Γ xs t = topped n Δ (shape_of t) (inside g constructors n Γ xs t)

    -- a template has the kind of its type's shape
    made_kind : (n : ℕ) (Δ Γ : Scope) (xs : List (Option ℕ)) (t : MlType) → kind (Topped n Δ Γ xs t).type ≡ kind_of (shape_of t)
    made_kind n Δ Γ xs ml.int = refl
    made_kind n Δ Γ xs ml.bool = refl
    made_kind n Δ Γ xs ml.unit = refl
    made_kind n Δ Γ xs (ml.var i) = refl
    made_kind n Δ Γ xs (ml.arrow a b) = refl
    made_kind n Δ Γ xs (ml.tuple ts) = refl
    made_kind n Δ Γ xs (ml.array a) = refl
    made_kind n Δ Γ xs (ml.named d ts) = refl
    made_kind n Δ Γ xs (ml.map_of a) = refl

    topped_over : (N M : Sorts) (n : ℕ) (Δ Γ : Scope) (xs : List (Option ℕ)) (t : MlType) → ScopeStands M [] Δ
        → HasScopes all n (Topped n Δ Γ xs t).unknowns
        → (HasScopes all n (inside g constructors n Γ xs t).unknowns → InsideSorted g all N (inside g constructors n Γ xs t).type)
        → InsideSorted g all N (Topped n Δ Γ xs t).type × TopSorted all M (Topped n Δ Γ xs t).type
    topped_over N M n Δ Γ xs t v w r =
        let m : Made = inside g constructors n Γ xs t in
        (topped_inside N n Δ (shape_of t) m (r (topped_scopes all n Δ (shape_of t) m w)), topped_top all M n Δ (shape_of t) m v (no_top n Γ xs t) (made_kind n Δ Γ xs t) w)

    pub arguments_erased : (n : ℕ) (Γ : Scope) (ts : MlTypes) → all_erased (arguments g constructors n Γ ts).types ≡ ts
    arguments_erased n Γ ml.no_types = refl
    arguments_erased n Γ (ml.more_types t ts) =
        ap₂ ml.more_types (erases g constructors n Γ [] t) (arguments_erased (n + length (Topped n Γ Γ [] t).unknowns) Γ ts)

    mutual
      pub inside_over : (N : Sorts) (n : ℕ) (Γ : Scope) (xs : List (Option ℕ)) (t : MlType) → ScopeStands N [] Γ → NamesFit N xs t
          → HasScopes all n (inside g constructors n Γ xs t).unknowns → InsideSorted g all N (inside g constructors n Γ xs t).type
      inside_over N n Γ xs ml.int h f w = tt
      inside_over N n Γ xs ml.bool h f w = tt
      inside_over N n Γ xs ml.unit h f w = tt
      inside_over N n Γ xs (ml.var i) h f w = tt
      inside_over N n Γ [] (ml.arrow a b) h f w =
          let s : Made = Topped n Γ Γ [] a in
          let k : ℕ = n + length s.unknowns in
          let x = topped_over N N n Γ Γ [] a h (has_first all n s.unknowns _ w) (λ u. inside_over N n Γ [] a h tt u) in
          let y = topped_over N N k Γ Γ [] b h (has_second all n s.unknowns _ w) (λ u. inside_over N k Γ [] b h tt u) in
          (x.0, x.1, y.0, y.1)
      inside_over N n Γ (None ∷ xs) (ml.arrow a b) h f w =
          let s : Made = Topped n Γ Γ [] a in
          let k : ℕ = n + length s.unknowns in
          let x = topped_over N N n Γ Γ [] a h (has_first all n s.unknowns _ w) (λ u. inside_over N n Γ [] a h tt u) in
          let y = topped_over N N k Γ Γ xs b h (has_second all n s.unknowns _ w) (λ u. inside_over N k Γ xs b h f u) in
          (x.0, x.1, y.0, y.1)
      inside_over N n Γ (Some z ∷ xs) (ml.arrow a b) h f w =
          let s : Made = Topped n Γ Γ [] a in
          let Δ : Scope = scopes.with_symbol (symbol_of z) (shape_of a) Γ in
          let k : ℕ = n + length s.unknowns in
          let own : ScopeStands N [] Δ = scope_with N [] (symbol_of z) (shape_of a) Γ h (self_stands N (kind_of (shape_of a)) (symbol_of z) f.0) in
          let x = topped_over N N n Γ Γ [] a h (has_first all n s.unknowns _ w) (λ u. inside_over N n Γ [] a h tt u) in
          let y = topped_over N N k Δ Δ xs b own (has_second all n s.unknowns _ w) (λ u. inside_over N k Δ xs b own f.1 u) in
          (inl (subst (λ (i : Kind). N i (symbol_of z) ≡ true) (sym (made_kind n Γ Γ [] a)) f.0), x.0, x.1, y.0, y.1)
      inside_over N n Γ xs (ml.tuple ts) h f w = components_over N N n Γ Γ 0 ts h h w
      inside_over N n Γ xs (ml.array a) h f w = topped_over N N n Γ Γ [] a h w (λ u. inside_over N n Γ [] a h tt u)
      inside_over N n Γ xs (ml.named d ts) h f w =
          let m : AllMade = arguments g constructors n Γ ts in (
            arguments_over N n Γ ts h (has_first all n m.unknowns _ w),
            constructors_over (n + length m.unknowns) d ts m.types (constructors d) (arguments_erased n Γ ts) (has_second all n m.unknowns _ w),
          )
      inside_over N n Γ xs (ml.map_of a) h f w =
          topped_over N (with_kind N number (Position 0)) n (scopes.with_symbol (Position 0) int Γ) Γ [] a (scope_with_one N (Position 0) int Γ h) w (λ u. inside_over N n Γ [] a h tt u)

      components_over : (N M : Sorts) (n : ℕ) (Γ Δ : Scope) (k : ℕ) (ts : MlTypes) → ScopeStands N [] Γ → ScopeStands M [] Δ
          → HasScopes all n (components g constructors n Γ Δ k ts).unknowns → ComponentsSorted g all N M k (components g constructors n Γ Δ k ts).types
      components_over N M n Γ Δ k ml.no_types h v w = tt
      components_over N M n Γ Δ k (ml.more_types t ts) h v w =
          let m : Made = Topped n Δ Γ [] t in
          let x : InsideSorted g all N m.type × TopSorted all M m.type = topped_over N M n Δ Γ [] t v (has_first all n m.unknowns _ w) (λ u. inside_over N n Γ [] t h tt u) in
          next_over N M (kind_of (shape_of t)) k m.type (components g constructors (n + length m.unknowns) Γ (with_position k (shape_of t) Δ) (suc k) ts).types
          (made_kind n Δ Γ [] t) x
          (components_over N (with_kind M (kind_of (shape_of t)) (Position (suc k))) (n + length m.unknowns) Γ (with_position k (shape_of t) Δ) (suc k) ts h
          (scope_with_one M (Position (suc k)) (shape_of t) Δ v) (has_second all n m.unknowns _ w))

      pub arguments_over : (N : Sorts) (n : ℕ) (Γ : Scope) (ts : MlTypes) → ScopeStands N [] Γ
          → HasScopes all n (arguments g constructors n Γ ts).unknowns → TypesSorted g all N (arguments g constructors n Γ ts).types
      arguments_over N n Γ ml.no_types h w = tt
      arguments_over N n Γ (ml.more_types t ts) h w =
          let m : Made = Topped n Γ Γ [] t in
          let x : InsideSorted g all N m.type × TopSorted all N m.type = topped_over N N n Γ Γ [] t h (has_first all n m.unknowns _ w) (λ u. inside_over N n Γ [] t h tt u) in
          (x.0, x.1, arguments_over N (n + length m.unknowns) Γ ts h (has_second all n m.unknowns _ w))

    pub fresh_over : (N : Sorts) (n : ℕ) (Γ : Scope) (xs : List (Option ℕ)) (t : MlType) → ScopeStands N [] Γ → NamesFit N xs t
        → HasScopes all n (fresh g constructors n Γ xs t).unknowns → TypeSorted g all N (fresh g constructors n Γ xs t).type
    fresh_over N n Γ xs t h f w = topped_over N N n Γ Γ xs t h w (λ u. inside_over N n Γ xs t h f u)
