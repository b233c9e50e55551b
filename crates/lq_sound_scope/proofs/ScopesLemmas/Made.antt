-- Fresh templates speak of the symbols of their scopes.
use Rattle.std.proofs.Common.{◌≡◌, ℕ, suc, ◌+◌, arith, Bool, true, false, cond, List, [], ◌∷◌, ◌++◌, length, Option, refl, sym, ap₂, subst}
use Rattle.lq_refined_instances.specs.Scopes.{Scope}
use Rattle.lq_refined_types.specs.Parts.Part.{Parts}
use Rattle.lq_logic_predicates.specs.declared.symbol.Symbol.TheVariants.{Value, Position}
use Rattle.lq_refined_types.specs.Types.Refined.{Matrix, Refined, int_with, bool_with, unit_type, function, tuple_of, array_with, data_with, map_with, type_variable, Refineds, none, more, Kind, number, kind, top, with_top, type_at, erased, all_erased}
use Rattle.lq_refined_types.specs.Types.Unfolding.{is_again}
use Rattle.lq_text_qualifiers.specs.Faults.Shapes.{Shape, int, bool, array, data_of, other, shape_of}
use Rattle.lq_refined_types.specs.Subtyping.Subtype.{fields_of}
use Rattle.lq_refined_templates.specs.Templates.Cells.{Cells, one_unknown, cell_of_shape, constructor_cells, field_cells, field_scope, no_cells, parameter_cells}
use Rattle.lq_refined_templates.specs.Templates.Fresh.{Made, AllMade, arguments, components, first_name, fresh, inside, later_names, topped}
use Rattle.lq_refined_templates.specs.Templates.Laws.{TemplatesErase}
use Rattle.lq_refined_templates.specs.Templates.Scopes as scopes
use Rattle.lq_refined_templates.specs.Templates.Scopes.{Unknown, with_position}
use Rattle.lq_text_tree.specs.MlType as ml
use Rattle.lq_text_tree.specs.MlType.{MlType, MlTypes}
use Rattle.lq_text_tree.specs.Types.{Signature, count_types}
use Rattle.lq_sound_scope.specs.Scopes.Over.{Names, kind_of, with_argument, with_sort, scope_names, SymbolOver, PartsOver, TopOver, CellsOver, InsideOver, TypesOver, ComponentsOver, TypeOver}
use Rattle.lq_sound_scope.proofs.ScopesLemmas.Symbols.{ScopeIn, in_sort, own_names, scope_with_argument, scope_with_one, scope_within, within_sort}

module _ (all : ℕ → Unknown) where
  -- the unknowns from the number n on have their own scopes
  abbrev pub HasScopes : ℕ → List Unknown → Type 0
  HasScopes n [] = Unit {0}
  HasScopes n (u ∷ us) = (all n ≡ u) × HasScopes (suc n) us

  pub has_first : (n : ℕ) (us vs : List Unknown) → HasScopes n (us ++ vs) → HasScopes n us
  has_first n [] vs h = tt
  has_first n (u ∷ us) vs h = (h.0, has_first (suc n) us vs h.1)

  pub has_second : (n : ℕ) (us vs : List Unknown) → HasScopes n (us ++ vs) → HasScopes (n + length us) vs
  has_second n [] vs h = let e : n ≡ n + 0 = omega arith in subst (λ (m : ℕ). HasScopes m vs) e h
  has_second n (u ∷ us) vs h =
      let e : suc n + length us ≡ n + suc (length us) = omega arith in subst (λ (m : ℕ). HasScopes m vs) e (has_second (suc n) us vs h.1)

  -- ---- tops

  one_over : (N : Names) (n : ℕ) (Γ : Scope) (s : Shape) → SymbolOver N [] s Value → ScopeIn N Γ → all n ≡ (Γ, s) → PartsOver all N (one_unknown n)
  one_over N n Γ s v h e = (subst (λ (u : Unknown). SymbolOver N [] u.1 Value × ScopeIn N u.0) (sym e) (v, h), tt)

  pub top_with : (N : Names) (k : Kind) (q : Parts) (t : Refined) → PartsOver all (with_sort N k Value) q → kind (with_top q t) ≡ k → TopOver all N (with_top q t)
  top_with N k q t h e = at t (subst (λ (z : Kind). PartsOver all (with_sort N z Value) q) (sym e) h)
    where
      at : (t : Refined) → PartsOver all (with_sort N (kind (with_top q t)) Value) q → TopOver all N (with_top q t)
      at (int_with p) h = h
      at (bool_with p) h = h
      at unit_type h = tt
      at (function x a b) h = tt
      at (tuple_of ts) h = tt
      at (array_with e p) h = h
      at (data_with d ts m p) h = h
      at (map_with e p) h = h
      at (type_variable i) h = tt

  unknown_top : (N : Names) (n : ℕ) (Γ : Scope) (s : Shape) (t : Refined) → ScopeIn N Γ → all n ≡ (Γ, s) → kind (with_top (one_unknown n) t) ≡ kind_of s
      → TopOver all N (with_top (one_unknown n) t)
  unknown_top N n Γ s t h e k =
      let M : Names = with_sort N (kind_of s) Value in
      top_with N (kind_of s) (one_unknown n) t (one_over M n Γ s (in_sort N s Value) (scope_within N M (within_sort N (kind_of s) Value) Γ h) e) k

  pub topped_top : (N : Names) (n : ℕ) (Γ : Scope) (s : Shape) (m : Made) → ScopeIn N Γ → top m.type ≡ [] → kind (topped n Γ s m).type ≡ kind_of s
      → HasScopes n (topped n Γ s m).unknowns → TopOver all N (topped n Γ s m).type
  topped_top N n Γ int m h e k w = unknown_top N (n + length m.unknowns) Γ int m.type h (has_second n m.unknowns _ w).0 k
  topped_top N n Γ bool m h e k w = unknown_top N (n + length m.unknowns) Γ bool m.type h (has_second n m.unknowns _ w).0 k
  topped_top N n Γ array m h e k w = unknown_top N (n + length m.unknowns) Γ array m.type h (has_second n m.unknowns _ w).0 k
  topped_top N n Γ (data_of d) m h e k w = unknown_top N (n + length m.unknowns) Γ (data_of d) m.type h (has_second n m.unknowns _ w).0 k
  topped_top N n Γ other m h e k w = subst (λ ps. PartsOver all (with_sort N (kind m.type) Value) ps) (sym e) tt

  pub topped_scopes : (n : ℕ) (Γ : Scope) (s : Shape) (m : Made) → HasScopes n (topped n Γ s m).unknowns → HasScopes n m.unknowns
  topped_scopes n Γ int m h = has_first n m.unknowns _ h
  topped_scopes n Γ bool m h = has_first n m.unknowns _ h
  topped_scopes n Γ array m h = has_first n m.unknowns _ h
  topped_scopes n Γ (data_of d) m h = has_first n m.unknowns _ h
  topped_scopes n Γ other m h = h

  -- ---- matrices

  -- of a constructor's names and of the kinds of parameters
  module _ (Own : ℕ → Names) (K : ℕ → Kind) where
    abbrev pub CellsBy : Matrix → Type 0
    CellsBy [] = Unit {0}
    CellsBy (e ∷ m) = PartsOver all (with_sort (Own e.constructor) (K e.parameter) Value) e.parts × CellsBy m

    -- the parameters from the i-th on have these kinds
    abbrev pub KindsAre : ℕ → MlTypes → Type 0
    KindsAre i ml.no_types = Unit {0}
    KindsAre i (ml.more_types u us) = (K i ≡ kind_of (shape_of u)) × KindsAre (suc i) us

    joined_over : (a b : Matrix) → CellsBy a → CellsBy b → CellsBy (a ++ b)
    joined_over [] b h w = w
    joined_over (e ∷ a) b h w = (h.0, joined_over a b h.1 w)

    module _ (Γ : Scope) (c : ℕ) (own : ScopeIn (Own c) Γ) where
      cell_over : (n i : ℕ) (s : Shape) → K i ≡ kind_of s → all n ≡ (Γ, s) → PartsOver all (with_sort (Own c) (K i) Value) (one_unknown n)
      cell_over n i s k e =
          let M : Names = with_sort (Own c) (kind_of s) Value in
          subst (λ (z : Kind). PartsOver all (with_sort (Own c) z Value) (one_unknown n)) (sym k)
          (one_over M n Γ s (in_sort (Own c) s Value) (scope_within (Own c) M (within_sort (Own c) (kind_of s) Value) Γ own) e)

      one_cell : (n j i : ℕ) (s : Shape) → K i ≡ kind_of s → HasScopes n (cell_of_shape n Γ c j i s).unknowns → CellsBy (cell_of_shape n Γ c j i s).matrix
      one_cell n j i int k h = (cell_over n i int k h.0, tt)
      one_cell n j i bool k h = (cell_over n i bool k h.0, tt)
      one_cell n j i array k h = (cell_over n i array k h.0, tt)
      one_cell n j i (data_of d) k h = (cell_over n i (data_of d) k h.0, tt)
      one_cell n j i other k h = tt

      parameters_over : (n j i : ℕ) (us : MlTypes) → KindsAre i us → HasScopes n (parameter_cells n Γ c j i us).unknowns → CellsBy (parameter_cells n Γ c j i us).matrix
      parameters_over n j i ml.no_types k h = tt
      parameters_over n j i (ml.more_types u us) k h =
          let a : Cells = cell_of_shape n Γ c j i (shape_of u) in
          joined_over a.matrix (parameter_cells (n + length a.unknowns) Γ c j (suc i) us).matrix (one_cell n j i (shape_of u) k.0 (has_first n a.unknowns _ h))
          (parameters_over (n + length a.unknowns) j (suc i) us k.1 (has_second n a.unknowns _ h))

      fields_over : (n d : ℕ) (us : MlTypes) (j : ℕ) (fs : MlTypes) → KindsAre 0 us → HasScopes n (field_cells n Γ d c us j fs).unknowns
          → CellsBy (field_cells n Γ d c us j fs).matrix
      fields_over n d us j ml.no_types k h = tt
      fields_over n d us j (ml.more_types f fs) k h =
          let a : Cells = cond (is_again d (count_types us) f) (parameter_cells n Γ c j 0 us) no_cells in
          joined_over a.matrix (field_cells (n + length a.unknowns) Γ d c us (suc j) fs).matrix (by (is_again d (count_types us) f) (has_first n a.unknowns _ h))
          (fields_over (n + length a.unknowns) d us (suc j) fs k (has_second n a.unknowns _ h))
        where
          by : (b : Bool) → HasScopes n (cond b (parameter_cells n Γ c j 0 us) no_cells).unknowns
              → CellsBy (cond b (parameter_cells n Γ c j 0 us) no_cells).matrix
          by true h = parameters_over n j 0 us k h
          by false h = tt

    pub constructors_by : (g : Signature) (n d : ℕ) (us : MlTypes) (cs : List ℕ) → KindsAre 0 us
        → ((c : ℕ) → ScopeIn (Own c) (field_scope d us 0 (fields_of (g c)) []))
        → HasScopes n (constructor_cells g n d us cs).unknowns → CellsBy (constructor_cells g n d us cs).matrix
    constructors_by g n d us [] k own h = tt
    constructors_by g n d us (c ∷ cs) k own h =
        let fs : MlTypes = fields_of (g c) in
        let Γ : Scope = field_scope d us 0 fs [] in
        let a : Cells = field_cells n Γ d c us 0 fs in
        joined_over a.matrix (constructor_cells g (n + length a.unknowns) d us cs).matrix (fields_over Γ c (own c) n d us 0 fs k (has_first n a.unknowns _ h))
        (constructors_by g (n + length a.unknowns) d us cs k own (has_second n a.unknowns _ h))

pub own_kind : (t : Refined) → kind t ≡ kind_of (shape_of (erased t))
own_kind (int_with p) = refl
own_kind (bool_with p) = refl
own_kind unit_type = refl
own_kind (function x a b) = refl
own_kind (tuple_of ts) = refl
own_kind (array_with e p) = refl
own_kind (data_with d ts m p) = refl
own_kind (map_with e p) = refl
own_kind (type_variable i) = refl

module _ (all : ℕ → Unknown) where
  kinds_later : (Own : ℕ → Names) (K : ℕ → Kind) (i : ℕ) (us : MlTypes) → KindsAre all Own (λ i. K (suc i)) i us → KindsAre all Own K (suc i) us
  kinds_later Own K i ml.no_types h = tt
  kinds_later Own K i (ml.more_types u us) h = (h.0, kinds_later Own K (suc i) us h.1)

  kinds_are : (Own : ℕ → Names) (ts : Refineds) → KindsAre all Own (λ i. kind (type_at ts i)) 0 (all_erased ts)
  kinds_are Own none = tt
  kinds_are Own (more t ts) = (own_kind t, kinds_later Own (λ i. kind (type_at (more t ts) i)) 0 (all_erased ts) (kinds_are Own ts))

module _ (g : Signature) (all : ℕ → Unknown) where
  cells_are : (d : ℕ) (ts : Refineds) (m : Matrix)
      → CellsBy all (λ c. scope_names (field_scope d (all_erased ts) 0 (fields_of (g c)) [])) (λ i. kind (type_at ts i)) m → CellsOver g all d ts m
  cells_are d ts [] h = tt
  cells_are d ts (e ∷ m) h = (h.0, cells_are d ts m h.1)

  -- the matrix of a datatype whose arguments have these types
  pub constructors_over : (n d : ℕ) (us : MlTypes) (ts : Refineds) (cs : List ℕ) → all_erased ts ≡ us → HasScopes all n (constructor_cells g n d us cs).unknowns
      → CellsOver g all d ts (constructor_cells g n d us cs).matrix
  constructors_over n d us ts cs e h =
      subst (λ (vs : MlTypes). HasScopes all n (constructor_cells g n d vs cs).unknowns → CellsOver g all d ts (constructor_cells g n d vs cs).matrix) e own h
    where
      own : HasScopes all n (constructor_cells g n d (all_erased ts) cs).unknowns → CellsOver g all d ts (constructor_cells g n d (all_erased ts) cs).matrix
      own w =
          cells_are d ts (constructor_cells g n d (all_erased ts) cs).matrix
          (constructors_by all (λ c. scope_names (field_scope d (all_erased ts) 0 (fields_of (g c)) [])) (λ i. kind (type_at ts i)) g n d (all_erased ts) cs
          (kinds_are all (λ c. scope_names (field_scope d (all_erased ts) 0 (fields_of (g c)) [])) ts)
          (λ c. own_names (field_scope d (all_erased ts) 0 (fields_of (g c)) [])) w)

  pub inside_with : (N : Names) (q : Parts) (t : Refined) → InsideOver g all N t → InsideOver g all N (with_top q t)
  inside_with N q (int_with p) h = tt
  inside_with N q (bool_with p) h = tt
  inside_with N q unit_type h = tt
  inside_with N q (function x a b) h = h
  inside_with N q (tuple_of ts) h = h
  inside_with N q (array_with e p) h = h
  inside_with N q (data_with d ts m p) h = h
  inside_with N q (map_with e p) h = h
  inside_with N q (type_variable i) h = tt

  pub topped_inside : (N : Names) (n : ℕ) (Γ : Scope) (s : Shape) (m : Made) → InsideOver g all N m.type → InsideOver g all N (topped n Γ s m).type
  topped_inside N n Γ int m h = inside_with N (one_unknown (n + length m.unknowns)) m.type h
  topped_inside N n Γ bool m h = inside_with N (one_unknown (n + length m.unknowns)) m.type h
  topped_inside N n Γ array m h = inside_with N (one_unknown (n + length m.unknowns)) m.type h
  topped_inside N n Γ (data_of d) m h = inside_with N (one_unknown (n + length m.unknowns)) m.type h
  topped_inside N n Γ other m h = h

  -- ---- types by their parts, at a kind that is theirs

  function_over : (N : Names) (x : Option ℕ) (k : Kind) (a b : Refined) → kind a ≡ k → InsideOver g all N a × TopOver all N a
      → InsideOver g all (with_argument N x k) b × TopOver all (with_argument N x k) b → InsideOver g all N (function x a b)
  function_over N x k a b e h w =
      let y : InsideOver g all (with_argument N x (kind a)) b × TopOver all (with_argument N x (kind a)) b =
      subst (λ (z : Kind). InsideOver g all (with_argument N x z) b × TopOver all (with_argument N x z) b) (sym e) w in
      (h.0, h.1, y.0, y.1)

  next_over : (N M : Names) (z : Kind) (k : ℕ) (t : Refined) (ts : Refineds) → kind t ≡ z → InsideOver g all N t × TopOver all M t
      → ComponentsOver g all N (with_sort M z (Position (suc k))) (suc k) ts → ComponentsOver g all N M k (more t ts)
  next_over N M z k t ts e h w =
      (h.0, h.1, subst (λ (y : Kind). ComponentsOver g all N (with_sort M y (Position (suc k))) (suc k) ts) (sym e) w)

  -- ---- templates

  module _ (erases : TemplatesErase) (constructors : ℕ → List ℕ) where
    pub no_top : (n : ℕ) (Γ : Scope) (xs : List (Option ℕ)) (t : MlType) → top (inside g constructors n Γ xs t).type ≡ []
    no_top n Γ xs ml.int = refl
    no_top n Γ xs ml.bool = refl
    no_top n Γ xs ml.unit = refl
    no_top n Γ xs (ml.var i) = refl
    no_top n Γ xs (ml.arrow a b) = refl
    no_top n Γ xs (ml.tuple ts) = refl
    no_top n Γ xs (ml.array a) = refl
    no_top n Γ xs (ml.named d ts) = refl
    no_top n Γ xs (ml.map_of a) = refl

    -- with an unknown at its top, that may speak of another scope
    abbrev Topped : ℕ → Scope → Scope → List (Option ℕ) → MlType → Made
    Topped n Δ Γ xs t = topped n Δ (shape_of t) (inside g constructors n Γ xs t)

    -- a template has the kind of its type's shape
    made_kind : (n : ℕ) (Δ Γ : Scope) (xs : List (Option ℕ)) (t : MlType) → kind (Topped n Δ Γ xs t).type ≡ kind_of (shape_of t)
    made_kind n Δ Γ xs ml.int = refl
    made_kind n Δ Γ xs ml.bool = refl
    made_kind n Δ Γ xs ml.unit = refl
    made_kind n Δ Γ xs (ml.var i) = refl
    made_kind n Δ Γ xs (ml.arrow a b) = refl
    made_kind n Δ Γ xs (ml.tuple ts) = refl
    made_kind n Δ Γ xs (ml.array a) = refl
    made_kind n Δ Γ xs (ml.named d ts) = refl
    made_kind n Δ Γ xs (ml.map_of a) = refl

    topped_over : (N M : Names) (n : ℕ) (Δ Γ : Scope) (xs : List (Option ℕ)) (t : MlType) → ScopeIn M Δ
        → HasScopes all n (Topped n Δ Γ xs t).unknowns
        → (HasScopes all n (inside g constructors n Γ xs t).unknowns → InsideOver g all N (inside g constructors n Γ xs t).type)
        → InsideOver g all N (Topped n Δ Γ xs t).type × TopOver all M (Topped n Δ Γ xs t).type
    topped_over N M n Δ Γ xs t v w r =
        let m : Made = inside g constructors n Γ xs t in
        (topped_inside N n Δ (shape_of t) m (r (topped_scopes all n Δ (shape_of t) m w)), topped_top all M n Δ (shape_of t) m v (no_top n Γ xs t) (made_kind n Δ Γ xs t) w)

    pub arguments_erased : (n : ℕ) (Γ : Scope) (ts : MlTypes) → all_erased (arguments g constructors n Γ ts).types ≡ ts
    arguments_erased n Γ ml.no_types = refl
    arguments_erased n Γ (ml.more_types t ts) =
        ap₂ ml.more_types (erases g constructors n Γ [] t) (arguments_erased (n + length (Topped n Γ Γ [] t).unknowns) Γ ts)

    mutual
      pub inside_over : (N : Names) (n : ℕ) (Γ : Scope) (xs : List (Option ℕ)) (t : MlType) → ScopeIn N Γ
          → HasScopes all n (inside g constructors n Γ xs t).unknowns → InsideOver g all N (inside g constructors n Γ xs t).type
      inside_over N n Γ xs ml.int h w = tt
      inside_over N n Γ xs ml.bool h w = tt
      inside_over N n Γ xs ml.unit h w = tt
      inside_over N n Γ xs (ml.var i) h w = tt
      inside_over N n Γ xs (ml.arrow a b) h w =
          let s : Made = Topped n Γ Γ [] a in
          let Δ : Scope = scopes.with_argument (first_name xs) (shape_of a) Γ in
          let k : ℕ = n + length s.unknowns in
          let M : Names = with_argument N (first_name xs) (kind_of (shape_of a)) in
          let own : ScopeIn M Δ = scope_with_argument N (first_name xs) (shape_of a) Γ h in
          let x : InsideOver g all N s.type × TopOver all N s.type = topped_over N N n Γ Γ [] a h (has_first all n s.unknowns _ w) (λ u. inside_over N n Γ [] a h u) in
          let y : InsideOver g all M (Topped k Δ Δ (later_names xs) b).type × TopOver all M (Topped k Δ Δ (later_names xs) b).type =
          topped_over M M k Δ Δ (later_names xs) b own (has_second all n s.unknowns _ w) (λ u. inside_over M k Δ (later_names xs) b own u) in
          function_over N (first_name xs) (kind_of (shape_of a)) s.type (Topped k Δ Δ (later_names xs) b).type (made_kind n Γ Γ [] a) x y
      inside_over N n Γ xs (ml.tuple ts) h w = components_over N N n Γ Γ 0 ts h h w
      inside_over N n Γ xs (ml.array a) h w = topped_over N N n Γ Γ [] a h w (λ u. inside_over N n Γ [] a h u)
      inside_over N n Γ xs (ml.named d ts) h w =
          let m : AllMade = arguments g constructors n Γ ts in (
            arguments_over N n Γ ts h (has_first all n m.unknowns _ w),
            constructors_over (n + length m.unknowns) d ts m.types (constructors d) (arguments_erased n Γ ts) (has_second all n m.unknowns _ w),
          )
      inside_over N n Γ xs (ml.map_of a) h w =
          topped_over N (with_sort N number (Position 0)) n (scopes.with_symbol (Position 0) int Γ) Γ [] a (scope_with_one N (Position 0) int Γ h) w (λ u. inside_over N n Γ [] a h u)

      components_over : (N M : Names) (n : ℕ) (Γ Δ : Scope) (k : ℕ) (ts : MlTypes) → ScopeIn N Γ → ScopeIn M Δ
          → HasScopes all n (components g constructors n Γ Δ k ts).unknowns → ComponentsOver g all N M k (components g constructors n Γ Δ k ts).types
      components_over N M n Γ Δ k ml.no_types h v w = tt
      components_over N M n Γ Δ k (ml.more_types t ts) h v w =
          let m : Made = Topped n Δ Γ [] t in
          let x : InsideOver g all N m.type × TopOver all M m.type = topped_over N M n Δ Γ [] t v (has_first all n m.unknowns _ w) (λ u. inside_over N n Γ [] t h u) in
          next_over N M (kind_of (shape_of t)) k m.type (components g constructors (n + length m.unknowns) Γ (with_position k (shape_of t) Δ) (suc k) ts).types
          (made_kind n Δ Γ [] t) x
          (components_over N (with_sort M (kind_of (shape_of t)) (Position (suc k))) (n + length m.unknowns) Γ (with_position k (shape_of t) Δ) (suc k) ts h
          (scope_with_one M (Position (suc k)) (shape_of t) Δ v) (has_second all n m.unknowns _ w))

      pub arguments_over : (N : Names) (n : ℕ) (Γ : Scope) (ts : MlTypes) → ScopeIn N Γ
          → HasScopes all n (arguments g constructors n Γ ts).unknowns → TypesOver g all N (arguments g constructors n Γ ts).types
      arguments_over N n Γ ml.no_types h w = tt
      arguments_over N n Γ (ml.more_types t ts) h w =
          let m : Made = Topped n Γ Γ [] t in
          let x : InsideOver g all N m.type × TopOver all N m.type = topped_over N N n Γ Γ [] t h (has_first all n m.unknowns _ w) (λ u. inside_over N n Γ [] t h u) in
          (x.0, x.1, arguments_over N (n + length m.unknowns) Γ ts h (has_second all n m.unknowns _ w))

    pub fresh_over : (N : Names) (n : ℕ) (Γ : Scope) (xs : List (Option ℕ)) (t : MlType) → ScopeIn N Γ
        → HasScopes all n (fresh g constructors n Γ xs t).unknowns → TypeOver g all N (fresh g constructors n Γ xs t).type
    fresh_over N n Γ xs t h w = topped_over N N n Γ Γ xs t h w (λ u. inside_over N n Γ xs t h u)
