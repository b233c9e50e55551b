-- Parts and types with something put for names, and over more names.
use Rattle.std.proofs.Common.{◌≡◌, ◌∙◌, ℕ, zero, suc, pos, true, List, [], ◌∷◌, map, Option, Some, None, refl, sym, ap, ap₂, subst}
use Rattle.lq_base_names.specs.declared.operation.CompareOp.TheVariants.{Eq}
use Rattle.lq_logic_predicates.specs.declared.symbol.Symbol.{Symbol}
use Rattle.lq_logic_predicates.specs.declared.symbol.Symbol.TheVariants.{Value, Position}
use Rattle.lq_logic_predicates.specs.Sum.{Sum, whole, var, same_symbol}
use Rattle.lq_logic_predicates.specs.Formula.{Formula, flag, compare}
use Rattle.lq_refined_instances.specs.Scopes.{Scope}
use Rattle.lq_refined_types.specs.Parts.Part.{Part, known, unknown, Parts, Scopes, part_by, parts_by}
use Rattle.lq_refined_types.specs.Parts.Substitution.{Subst, after, sum_at, flag_at, sum_by, formula_by, is_in, restricted}
use Rattle.lq_refined_types.proofs.PartsLemmas.Replacing.{sum-after, formula-after}
use Rattle.lq_refined_types.proofs.PartsLemmas.Restricting.{formula-restricted}
use Rattle.lq_refined_types.specs.Types.Operations.{symbol_of, type_by, types_by}
use Rattle.lq_refined_types.specs.Types.Refined.{Matrix, Refined, int_with, bool_with, unit_type, function, tuple_of, array_with, data_with, map_with, type_variable, Refineds, none, more, Kind, number, truth_value, object, other, kind, top, type_at, erased, all_erased}
use Rattle.lq_refined_types.proofs.TypesLemmas.Erasing.{type_by-erased}
use Rattle.lq_text_qualifiers.specs.Faults.Shapes.{Shape, int, bool, array, data_of, shape_of}
use Rattle.lq_text_qualifiers.specs.Faults.Shapes as shape
use Rattle.lq_text_tree.specs.MlType as ml
use Rattle.lq_text_tree.specs.MlType.{MlType, MlTypes}
use Rattle.lq_text_tree.specs.Types as types
use Rattle.lq_text_tree.specs.Types.{Signature}
use Rattle.lq_refined_types.specs.Subtyping.Subtype.{fields_of}
use Rattle.lq_sound_values.specs.Inclusion.Symbols.{with_symbol, SumOn}
use Rattle.lq_sound_values.specs.Runs.Closed.{SortedOn}
use Rattle.lq_refined_templates.specs.Templates.Cells.{field_scope}
use Rattle.lq_refined_templates.specs.Templates.Scopes.{Unknown, symbols_in}
use Rattle.lq_sound_scope.specs.Scopes.Over.{AreWithin, Names, SymbolOver, ScopeOver, scope_names, kind_of, with_sort, with_argument, PartOver, PartsOver, TopOver, CellsOver, InsideOver, TypesOver, ComponentsOver, TypeOver}
use Rattle.lq_sound_scope.proofs.ScopesLemmas.Assigned.{formula_put, or_cases, sorted_within, sum_put, sum_within, wider}
use Rattle.lq_sound_scope.proofs.ScopesLemmas.Made.{own_kind}
use Rattle.lq_sound_scope.proofs.ScopesLemmas.Symbols.{or_left, or_right, same_is, same_refl, within_one}
use Rattle.lq_sound_scope.specs.Operations.Puts.{Puts}

-- ---- names

pub within_both : (N M : Names) → AreWithin N M → (k : Kind) (x : Symbol) → AreWithin (with_sort N k x) (with_sort M k x)
within_both N M w number x = record { terms = wider N.terms M.terms x w.terms; flags = w.flags }
within_both N M w truth_value x = record { terms = w.terms; flags = wider N.flags M.flags x w.flags }
within_both N M w object x = record { terms = wider N.terms M.terms x w.terms; flags = w.flags }
within_both N M w other x = w

pub within_argument : (N M : Names) → AreWithin N M → (x : Option ℕ) (k : Kind) → AreWithin (with_argument N x k) (with_argument M x k)
within_argument N M w None k = w
within_argument N M w (Some x) k = within_both N M w k (symbol_of x)

-- ---- what is put for names, with one more name

module _ (N M : Names) (θ : Subst) (p : Puts N θ M) where
  term_wider : (x y : Symbol) → SumOn (with_symbol N.terms y) (sum_at θ y) → SumOn (with_symbol (with_symbol N.terms x) y) (sum_at θ y)
  term_wider x y h = sum_within (with_symbol N.terms y) (with_symbol (with_symbol N.terms x) y) (wider N.terms (with_symbol N.terms x) y (within_one N.terms x)) (sum_at θ y) h

  term_more : (x y : Symbol) → with_symbol M.terms x y ≡ true → SumOn (with_symbol N.terms x) (sum_at θ y)
  term_more x y h =
      or_cases (M.terms y) (same_symbol x y) (SumOn (with_symbol N.terms x) (sum_at θ y)) h
      (λ k. sum_within N.terms (with_symbol N.terms x) (within_one N.terms x) (sum_at θ y) (p.terms y k))
      (λ k. subst (λ (z : Symbol). SumOn (with_symbol N.terms x) (sum_at θ z)) (same_is x y k) (p.any_term x))

  flag_more : (x y : Symbol) → with_symbol M.flags x y ≡ true → SortedOn N.terms (with_symbol N.flags x) (flag_at θ y)
  flag_more x y h =
      or_cases (M.flags y) (same_symbol x y) (SortedOn N.terms (with_symbol N.flags x) (flag_at θ y)) h
      (λ k. sorted_within N.terms N.flags N.terms (with_symbol N.flags x) (λ z e. e) (within_one N.flags x) (flag_at θ y) (p.flags y k))
      (λ k. subst (λ (z : Symbol). SortedOn N.terms (with_symbol N.flags x) (flag_at θ z)) (same_is x y k) (p.any_flag x))

  with_term : (x : Symbol) → Puts (record { terms = with_symbol N.terms x; flags = N.flags }) θ (record { terms = with_symbol M.terms x; flags = M.flags })
  with_term x =
      record {
        terms = λ y h. term_more x y h;
        flags = λ y h. sorted_within N.terms N.flags (with_symbol N.terms x) N.flags (within_one N.terms x) (λ z e. e) (flag_at θ y) (p.flags y h);
        any_term = λ y. term_wider x y (p.any_term y);
        any_flag = λ y. sorted_within N.terms (with_symbol N.flags y) (with_symbol N.terms x) (with_symbol N.flags y) (within_one N.terms x) (λ z e. e) (flag_at θ y) (p.any_flag y);
      }

  with_flag : (x : Symbol) → Puts (record { terms = N.terms; flags = with_symbol N.flags x }) θ (record { terms = M.terms; flags = with_symbol M.flags x })
  with_flag x =
      record {
        terms = λ y h. p.terms y h;
        flags = λ y h. flag_more x y h;
        any_term = λ y. p.any_term y;
        any_flag = λ y. sorted_within N.terms (with_symbol N.flags y) N.terms (with_symbol (with_symbol N.flags x) y) (λ z e. e)
            (wider N.flags (with_symbol N.flags x) y (within_one N.flags x)) (flag_at θ y) (p.any_flag y);
      }

  pub puts_sort : (k : Kind) (x : Symbol) → Puts (with_sort N k x) θ (with_sort M k x)
  puts_sort number x = with_term x
  puts_sort truth_value x = with_flag x
  puts_sort object x = with_term x
  puts_sort other x = p

  pub puts_argument : (x : Option ℕ) (k : Kind) → Puts (with_argument N x k) θ (with_argument M x k)
  puts_argument None k = p
  puts_argument (Some x) k = puts_sort k (symbol_of x)

-- ---- parts

-- what stands for the symbols of names
pub record Stands (N : Names) (θ : Subst) (M : Names) : Type 0 where
  pub terms : (x : Symbol) → M.terms x ≡ true → SumOn N.terms (sum_at θ x)
  pub flags : (x : Symbol) → M.flags x ≡ true → SortedOn N.terms N.flags (flag_at θ x)

pub stands_of : (N M : Names) (θ : Subst) → Puts N θ M → Stands N θ M
stands_of N M θ p = record { terms = p.terms; flags = p.flags }

-- what stands for a symbol of a scope, where one substitution is behind another
abbrev left_of : Formula → Sum
left_of (compare o a b) = a
left_of _ = whole (pos 0)

sum_there : (xs : List Symbol) (θ σ : Subst) (x : Symbol) → is_in xs x ≡ true → sum_at (restricted xs (after θ σ)) x ≡ sum_by θ (sum_at σ x)
sum_there xs θ σ x h =
    ap left_of (formula-restricted xs (after θ σ) (compare Eq (var x) (var x)) (h, h)) ∙ sum-after θ σ (var x)

flag_there : (xs : List Symbol) (θ σ : Subst) (x : Symbol) → is_in xs x ≡ true → flag_at (restricted xs (after θ σ)) x ≡ formula_by θ (flag_at σ x)
flag_there xs θ σ x h = formula-restricted xs (after θ σ) (flag x) h ∙ formula-after θ σ (flag x)

module _ (N M : Names) (θ : Subst) (p : Stands N θ M) (xs : List Symbol) (σ : Subst) where
  term_put : (x : Symbol) → is_in xs x ≡ true → SumOn M.terms (sum_at σ x) → SumOn N.terms (sum_at (restricted xs (after θ σ)) x)
  term_put x h w = subst (λ (t : Sum). SumOn N.terms t) (sym (sum_there xs θ σ x h)) (sum_put M N θ p.terms p.flags (sum_at σ x) w)

  symbol_put : (s : Shape) (x : Symbol) → is_in xs x ≡ true → SymbolOver M σ s x → SymbolOver N (restricted xs (after θ σ)) s x
  symbol_put int x h w = term_put x h w
  symbol_put bool x h w =
      subst (λ (q : Formula). SortedOn N.terms N.flags q) (sym (flag_there xs θ σ x h)) (formula_put M N θ p.terms p.flags (flag_at σ x) w)
  symbol_put array x h w = term_put x h w
  symbol_put (data_of d) x h w = term_put x h w
  symbol_put shape.other x h w = tt

  scope_put : (Γ : Scope) → ((x : Symbol) → is_in (map (λ e. e.0) Γ) x ≡ true → is_in xs x ≡ true) → ScopeOver M σ Γ
      → ScopeOver N (restricted xs (after θ σ)) Γ
  scope_put [] i h = tt
  scope_put (e ∷ Γ) i h = (
    symbol_put e.1 e.0 (i e.0 (or_left (same_symbol e.0 e.0) (is_in (map (λ e. e.0) Γ) e.0) (same_refl e.0))) h.0,
    scope_put Γ (λ x k. i x (or_right (same_symbol e.0 x) (is_in (map (λ e. e.0) Γ) x) k)) h.1,
  )

module _ (unknowns : ℕ → Unknown) (scopes : Scopes) (agree : (u : ℕ) → scopes u ≡ symbols_in (unknowns u).0) where
  part_put : (N M : Names) (θ : Subst) → Stands N θ M → (q : Part) → PartOver unknowns M q → PartOver unknowns N (part_by scopes θ q)
  part_put N M θ p (known f) h = formula_put M N θ p.terms p.flags f h
  part_put N M θ p (unknown u σ) h =
      let s : Shape = (unknowns u).1 in
      let Γ : Scope = (unknowns u).0 in
      subst (λ (xs : List Symbol). SymbolOver N (restricted xs (after θ σ)) s Value × ScopeOver N (restricted xs (after θ σ)) Γ) (sym (agree u)) (
        symbol_put N M θ p (symbols_in Γ) σ s Value (or_left (same_symbol Value Value) (is_in (map (λ e. e.0) Γ) Value) refl) h.0,
        scope_put N M θ p (symbols_in Γ) σ Γ (λ x k. or_right (same_symbol Value x) (is_in (map (λ e. e.0) Γ) x) k) h.1,
      )

  pub parts_put : (N M : Names) (θ : Subst) → Stands N θ M → (qs : Parts) → PartsOver unknowns M qs → PartsOver unknowns N (parts_by scopes θ qs)
  parts_put N M θ p [] h = tt
  parts_put N M θ p (q ∷ qs) h = (part_put N M θ p q h.0, parts_put N M θ p qs h.1)

-- over more names
module _ (unknowns : ℕ → Unknown) (N M : Names) (w : AreWithin N M) where
  symbol_more : (θ : Subst) (s : Shape) (x : Symbol) → SymbolOver N θ s x → SymbolOver M θ s x
  symbol_more θ int x h = sum_within N.terms M.terms w.terms (sum_at θ x) h
  symbol_more θ bool x h = sorted_within N.terms N.flags M.terms M.flags w.terms w.flags (flag_at θ x) h
  symbol_more θ array x h = sum_within N.terms M.terms w.terms (sum_at θ x) h
  symbol_more θ (data_of d) x h = sum_within N.terms M.terms w.terms (sum_at θ x) h
  symbol_more θ shape.other x h = tt

  scope_more : (θ : Subst) (Γ : Scope) → ScopeOver N θ Γ → ScopeOver M θ Γ
  scope_more θ [] h = tt
  scope_more θ (e ∷ Γ) h = (symbol_more θ e.1 e.0 h.0, scope_more θ Γ h.1)

  part_more : (q : Part) → PartOver unknowns N q → PartOver unknowns M q
  part_more (known p) h = sorted_within N.terms N.flags M.terms M.flags w.terms w.flags p h
  part_more (unknown u θ) h = (symbol_more θ (unknowns u).1 Value h.0, scope_more θ (unknowns u).0 h.1)

  pub parts_more : (qs : Parts) → PartsOver unknowns N qs → PartsOver unknowns M qs
  parts_more [] h = tt
  parts_more (q ∷ qs) h = (part_more q h.0, parts_more qs h.1)

-- ---- types over more names

module _ (g : Signature) (unknowns : ℕ → Unknown) where
  pub top_more : (N M : Names) → AreWithin N M → (t : Refined) → TopOver unknowns N t → TopOver unknowns M t
  top_more N M w t h = parts_more unknowns (with_sort N (kind t) Value) (with_sort M (kind t) Value) (within_both N M w (kind t) Value) (top t) h

  mutual
    pub inside_more : (N M : Names) → AreWithin N M → (t : Refined) → InsideOver g unknowns N t → InsideOver g unknowns M t
    inside_more N M w (int_with p) h = tt
    inside_more N M w (bool_with p) h = tt
    inside_more N M w unit_type h = tt
    inside_more N M w (function x a b) h =
        let V : Names = with_argument N x (kind a) in
        let W : Names = with_argument M x (kind a) in
        let v : AreWithin V W = within_argument N M w x (kind a) in
        (inside_more N M w a h.0, top_more N M w a h.1, inside_more V W v b h.2, top_more V W v b h.3)
    inside_more N M w (tuple_of ts) h = components_more N M N M w w 0 ts h
    inside_more N M w (array_with e p) h = (inside_more N M w e h.0, top_more N M w e h.1)
    inside_more N M w (data_with d ts m p) h = (types_more N M w ts h.0, h.1)
    inside_more N M w (map_with e p) h =
        (inside_more N M w e h.0, top_more (with_sort N number (Position 0)) (with_sort M number (Position 0)) (within_both N M w number (Position 0)) e h.1)
    inside_more N M w (type_variable i) h = tt

    pub types_more : (N M : Names) → AreWithin N M → (ts : Refineds) → TypesOver g unknowns N ts → TypesOver g unknowns M ts
    types_more N M w none h = tt
    types_more N M w (more t ts) h = (inside_more N M w t h.0, top_more N M w t h.1, types_more N M w ts h.2)

    components_more : (N M U V : Names) → AreWithin N M → AreWithin U V → (k : ℕ) (ts : Refineds) → ComponentsOver g unknowns N U k ts
        → ComponentsOver g unknowns M V k ts
    components_more N M U V w v k none h = tt
    components_more N M U V w v k (more t ts) h = (
      inside_more N M w t h.0,
      top_more U V v t h.1,
      components_more N M (with_sort U (kind t) (Position (suc k))) (with_sort V (kind t) (Position (suc k))) w (within_both U V v (kind t) (Position (suc k))) (suc k) ts h.2,
    )

  pub type_more : (N M : Names) → AreWithin N M → (t : Refined) → TypeOver g unknowns N t → TypeOver g unknowns M t
  type_more N M w t h = (inside_more N M w t h.0, top_more N M w t h.1)

-- ---- types of one simple type

-- the kinds of a type's arguments come of their simple types
kind_there : (ts : Refineds) (i : ℕ) → kind (type_at ts i) ≡ kind_of (shape_of (types.type_at (all_erased ts) i))
kind_there none i = refl
kind_there (more t ts) zero = own_kind t
kind_there (more t ts) (suc i) = kind_there ts i

pub same_kind : (s t : Refined) → erased s ≡ erased t → kind s ≡ kind t
same_kind s t e = own_kind s ∙ ap (λ (a : MlType). kind_of (shape_of a)) e ∙ sym (own_kind t)

pub cells_same : (g : Signature) (unknowns : ℕ → Unknown) (d : ℕ) (ts us : Refineds) (m : Matrix) → all_erased ts ≡ all_erased us
    → CellsOver g unknowns d ts m → CellsOver g unknowns d us m
cells_same g unknowns d ts us [] e h = tt
cells_same g unknowns d ts us (c ∷ m) e h = (
  subst (λ (N : Names). PartsOver unknowns N c.parts)
      (ap (λ (vs : MlTypes). with_sort (scope_names (field_scope d vs 0 (fields_of (g c.constructor)) [])) (kind (type_at ts c.parameter)) Value) e
      ∙ ap (λ (k : Kind). with_sort (scope_names (field_scope d (all_erased us) 0 (fields_of (g c.constructor)) [])) k Value)
      (kind_there ts c.parameter ∙ ap (λ (vs : MlTypes). kind_of (shape_of (types.type_at vs c.parameter))) e ∙ sym (kind_there us c.parameter))) h.0,
  cells_same g unknowns d ts us m e h.1,
)

-- ---- types with something put for names

module _ (g : Signature) (unknowns : ℕ → Unknown) (scopes : Scopes) (agree : (u : ℕ) → scopes u ≡ symbols_in (unknowns u).0) where
  pub types_by_erased : (θ : Subst) (ts : Refineds) → all_erased ts ≡ all_erased (types_by scopes θ ts)
  types_by_erased θ none = refl
  types_by_erased θ (more t ts) = ap₂ ml.more_types (sym (type_by-erased scopes θ t)) (types_by_erased θ ts)

  pub kind_by : (θ : Subst) (t : Refined) → kind (type_by scopes θ t) ≡ kind t
  kind_by θ t = same_kind (type_by scopes θ t) t (type_by-erased scopes θ t)

  pub top_by : (θ : Subst) (t : Refined) → top (type_by scopes θ t) ≡ parts_by scopes θ (top t)
  top_by θ (int_with p) = refl
  top_by θ (bool_with p) = refl
  top_by θ unit_type = refl
  top_by θ (function x a b) = refl
  top_by θ (tuple_of ts) = refl
  top_by θ (array_with e p) = refl
  top_by θ (data_with d ts m p) = refl
  top_by θ (map_with e p) = refl
  top_by θ (type_variable i) = refl

  pub top_put : (N M : Names) (θ : Subst) → Puts N θ M → (t : Refined) → TopOver unknowns M t → TopOver unknowns N (type_by scopes θ t)
  top_put N M θ p t h =
      let V = with_sort N (kind t) Value in
      let W = with_sort M (kind t) Value in
      subst (λ (k : Kind). PartsOver unknowns (with_sort N k Value) (top (type_by scopes θ t))) (sym (kind_by θ t))
      (subst (λ (qs : Parts). PartsOver unknowns (with_sort N (kind t) Value) qs) (sym (top_by θ t))
      (parts_put unknowns scopes agree V W θ (stands_of V W θ (puts_sort N M θ p (kind t) Value)) (top t) h))

  mutual
    pub inside_put : (N M : Names) (θ : Subst) → Puts N θ M → (t : Refined) → InsideOver g unknowns M t → InsideOver g unknowns N (type_by scopes θ t)
    inside_put N M θ p (int_with q) h = tt
    inside_put N M θ p (bool_with q) h = tt
    inside_put N M θ p unit_type h = tt
    inside_put N M θ p (function x a b) h =
        let V : Names = with_argument N x (kind a) in
        let W : Names = with_argument M x (kind a) in
        let v : Puts V θ W = puts_argument N M θ p x (kind a) in
        let r : InsideOver g unknowns V (type_by scopes θ b) × TopOver unknowns V (type_by scopes θ b) = (inside_put V W θ v b h.2, top_put V W θ v b h.3) in
        let z : InsideOver g unknowns (with_argument N x (kind (type_by scopes θ a))) (type_by scopes θ b) × TopOver unknowns (with_argument N x (kind (type_by scopes θ a))) (type_by scopes θ b) =
        subst (λ (k : Kind). InsideOver g unknowns (with_argument N x k) (type_by scopes θ b) × TopOver unknowns (with_argument N x k) (type_by scopes θ b)) (sym (kind_by θ a)) r in
        (inside_put N M θ p a h.0, top_put N M θ p a h.1, z.0, z.1)
    inside_put N M θ p (tuple_of ts) h = components_put N M N M θ p p 0 ts h
    inside_put N M θ p (array_with e q) h = (inside_put N M θ p e h.0, top_put N M θ p e h.1)
    inside_put N M θ p (data_with d ts m q) h = (types_put N M θ p ts h.0, cells_same g unknowns d ts (types_by scopes θ ts) m (types_by_erased θ ts) h.1)
    inside_put N M θ p (map_with e q) h =
        (inside_put N M θ p e h.0, top_put (with_sort N number (Position 0)) (with_sort M number (Position 0)) θ (puts_sort N M θ p number (Position 0)) e h.1)
    inside_put N M θ p (type_variable i) h = tt

    pub types_put : (N M : Names) (θ : Subst) → Puts N θ M → (ts : Refineds) → TypesOver g unknowns M ts → TypesOver g unknowns N (types_by scopes θ ts)
    types_put N M θ p none h = tt
    types_put N M θ p (more t ts) h = (inside_put N M θ p t h.0, top_put N M θ p t h.1, types_put N M θ p ts h.2)

    components_put : (N M U V : Names) (θ : Subst) → Puts N θ M → Puts U θ V → (k : ℕ) (ts : Refineds) → ComponentsOver g unknowns M V k ts
        → ComponentsOver g unknowns N U k (types_by scopes θ ts)
    components_put N M U V θ p q k none h = tt
    components_put N M U V θ p q k (more t ts) h = (
      inside_put N M θ p t h.0,
      top_put U V θ q t h.1,
      subst (λ (z : Kind). ComponentsOver g unknowns N (with_sort U z (Position (suc k))) (suc k) (types_by scopes θ ts)) (sym (kind_by θ t))
          (components_put N M (with_sort U (kind t) (Position (suc k))) (with_sort V (kind t) (Position (suc k))) θ p (puts_sort U V θ q (kind t) (Position (suc k))) (suc k) ts h.2),
    )

  pub type_put : (N M : Names) (θ : Subst) → Puts N θ M → (t : Refined) → TypeOver g unknowns M t → TypeOver g unknowns N (type_by scopes θ t)
  type_put N M θ p t h = (inside_put N M θ p t h.0, top_put N M θ p t h.1)
