-- Parts of an entry with something put for the fields of which it speaks.
use Rattle.std.proofs.Common.{◌≡◌, ◌∙◌, ℕ, suc, pos, ◌<◌, Bool, true, false, ◌&&◌, ◌==◌, cond, List, [], ◌∷◌, ◌++◌, map, refl, sym, ap, subst, arith}
use Rattle.std.proofs.lemmas.Bool.{eqb-true}
use Rattle.lq_refined_rules.specs.Checks.Ready.{Where}
use Rattle.lq_sound_values.specs.Inclusion.Symbols.{Symbols, with_symbol, SumOn}
use Rattle.lq_sound_scope.specs.Scopes.Over.{CellsOver, Names, PartOver, PartsOver, ScopeOver, SymbolOver, kind_of, scope_names, with_sort}
use Rattle.lq_sound_scope.proofs.ScopesLemmas.Assigned.{formula_put, or_cases, sorted_within, sum_put, sum_within}
use Rattle.lq_sound_scope.proofs.ScopesLemmas.Symbols.{or_left, or_right, same_is, same_refl, within_one}
use Rattle.lq_refined_instances.specs.Scopes.{Scope}
use Rattle.lq_base_names.specs.declared.operation.CompareOp.TheVariants.{Eq}
use Rattle.lq_sound_scope.specs.Operations.Puts.{AtomOver, HasKind}
use Rattle.lq_sound_values.proofs.NewNamesLemmas.Fields.{less_apart}
use Rattle.lq_refined_types.specs.Parts.Part.{Part, known, unknown, Parts, Scopes, part_by, parts_by}
use Rattle.lq_refined_types.specs.Parts.Substitution.{Atom, of_sum, of_formula, swap, Subst, after, flag_at, formula_by, is_in, restricted, sum_at, sum_by}
use Rattle.lq_refined_types.proofs.PartsLemmas.Replacing.{sum-after, formula-after}
use Rattle.lq_refined_types.proofs.PartsLemmas.Restricting.{formula-restricted}
use Rattle.lq_logic_predicates.specs.Formula.{Formula, flag, compare}
use Rattle.lq_logic_predicates.specs.Sum.{Sum, whole, var, same_symbol}
use Rattle.lq_logic_predicates.specs.declared.symbol.Symbol.{Symbol}
use Rattle.lq_logic_predicates.specs.declared.symbol.Symbol.TheVariants.{Position, Value}
use Rattle.lq_refined_types.specs.Types.Refined.{Matrix, Refineds, Kind, number, truth_value, object, other, kind, type_at, all_erased}
use Rattle.lq_refined_types.specs.Types.Unfolding.{cell, is_again}
use Rattle.lq_sound_values.specs.Runs.Closed.{SortedOn}
use Rattle.lq_text_qualifiers.specs.Faults.Shapes.{Shape, int, bool, array, data_of, shape_of}
use Rattle.lq_text_qualifiers.specs.Faults.Shapes as shape
use Rattle.lq_refined_types.specs.Subtyping.Subtype.{fields_of}
use Rattle.lq_refined_templates.specs.Templates.Cells.{field_scope}
use Rattle.lq_refined_templates.specs.Templates.Scopes as scopes_of
use Rattle.lq_refined_templates.specs.Templates.Scopes.{Unknown, symbols_in}
use Rattle.lq_text_tree.specs.MlType.{MlType, MlTypes, no_types, more_types}
use Rattle.lq_text_tree.specs.Types as types
use Rattle.lq_text_tree.specs.Types.{Signature, count_types, put}

-- ---- one symbol

pub symbol_first : (N : Names) (a : Atom) (θ : Subst) (s : Shape) (x : Symbol) → AtomOver N a → HasKind (kind_of s) a → SymbolOver N (swap x a ∷ θ) s x
symbol_first N (of_sum t) θ int x o k = subst (λ b. SumOn N.terms (cond b t (sum_at θ x))) (sym (same_refl x)) o
symbol_first N (of_sum t) θ bool x o k = absurd k
symbol_first N (of_sum t) θ array x o k = subst (λ b. SumOn N.terms (cond b t (sum_at θ x))) (sym (same_refl x)) o
symbol_first N (of_sum t) θ (data_of d) x o k = subst (λ b. SumOn N.terms (cond b t (sum_at θ x))) (sym (same_refl x)) o
symbol_first N (of_sum t) θ shape.other x o k = tt
symbol_first N (of_formula p) θ int x o k = absurd k
symbol_first N (of_formula p) θ bool x o k = subst (λ b. SortedOn N.terms N.flags (cond b p (flag_at θ x))) (sym (same_refl x)) o
symbol_first N (of_formula p) θ array x o k = absurd k
symbol_first N (of_formula p) θ (data_of d) x o k = absurd k
symbol_first N (of_formula p) θ shape.other x o k = absurd k

sum_later : (N : Symbols) (a : Atom) (θ : Subst) (y x : Symbol) → same_symbol y x ≡ false → SumOn N (sum_at θ x) → SumOn N (sum_at (swap y a ∷ θ) x)
sum_later N (of_sum t) θ y x e h = subst (λ b. SumOn N (cond b t (sum_at θ x))) (sym e) h
sum_later N (of_formula p) θ y x e h = h

flag_later : (N M : Symbols) (a : Atom) (θ : Subst) (y x : Symbol) → same_symbol y x ≡ false → SortedOn N M (flag_at θ x)
    → SortedOn N M (flag_at (swap y a ∷ θ) x)
flag_later N M (of_sum t) θ y x e h = h
flag_later N M (of_formula p) θ y x e h = subst (λ b. SortedOn N M (cond b p (flag_at θ x))) (sym e) h

pub symbol_later : (N : Names) (a : Atom) (θ : Subst) (s : Shape) (y x : Symbol) → same_symbol y x ≡ false → SymbolOver N θ s x
    → SymbolOver N (swap y a ∷ θ) s x
symbol_later N a θ int y x e h = sum_later N.terms a θ y x e h
symbol_later N a θ bool y x e h = flag_later N.terms N.flags a θ y x e h
symbol_later N a θ array y x e h = sum_later N.terms a θ y x e h
symbol_later N a θ (data_of d) y x e h = sum_later N.terms a θ y x e h
symbol_later N a θ shape.other y x e h = tt

-- v is left, or becomes something of these names
abbrev pub ValueOver : Names → Subst → Type 0
ValueOver N θ = SumOn (with_symbol N.terms Value) (sum_at θ Value) × SortedOn N.terms (with_symbol N.flags Value) (flag_at θ Value)

pub value_later : (N : Names) (a : Atom) (θ : Subst) (i : ℕ) → ValueOver N θ → ValueOver N (swap (Position i) a ∷ θ)
value_later N (of_sum t) θ i h = h
value_later N (of_formula p) θ i h = h

-- ---- fields

pub where_map : (b : Bool) (X Y : Type 0) → (X → Y) → Where b (Unit {0}) X → Where b (Unit {0}) Y
where_map true X Y f h = tt
where_map false X Y f h = f h

pub where_of : {X : Type 0} (b : Bool) → X → Where b (Unit {0}) X
where_of true h = tt
where_of false h = h

module _ (skip : MlType → Bool) (N : Names) (us : MlTypes) where
  -- what stands for the fields from the j-th on, but for those that are skipped, is of these names, at their shapes
  abbrev pub FieldsOver : Subst → ℕ → MlTypes → Type 0
  FieldsOver θ j no_types = Unit {0}
  FieldsOver θ j (more_types f fs) =
      Where (skip f) (Unit {0}) (SymbolOver N θ (shape_of (put (types.type_at us) f)) (Position (suc j))) × FieldsOver θ (suc j) fs

  -- with something for an earlier position
  pub fields_later : (i : ℕ) (a : Atom) (θ : Subst) (j : ℕ) (fs : MlTypes) → i < j → FieldsOver θ j fs → FieldsOver (swap (Position (suc i)) a ∷ θ) j fs
  fields_later i a θ j no_types l h = tt
  fields_later i a θ j (more_types f fs) l h =
      let s = shape_of (put (types.type_at us) f) in
      let x = Position (suc j) in (
        where_map (skip f) (SymbolOver N θ s x) (SymbolOver N (swap (Position (suc i)) a ∷ θ) s x)
            (λ k. symbol_later N a θ s (Position (suc i)) x (less_apart (suc i) (suc j) (omega (arith, l))) k) h.0,
        fields_later i a θ (suc j) fs (omega (arith, l)) h.1,
      )

scopes_joined : (N : Names) (θ : Subst) (Γ Δ : Scope) → ScopeOver N θ Γ → ScopeOver N θ Δ → ScopeOver N θ (Γ ++ Δ)
scopes_joined N θ [] Δ h w = w
scopes_joined N θ (e ∷ Γ) Δ h w = (h.0, scopes_joined N θ Γ Δ h.1 w)

scope_more : (N : Names) (θ : Subst) (x : Symbol) (s : Shape) (Γ : Scope) → ScopeOver N θ Γ → SymbolOver N θ s x
    → ScopeOver N θ (scopes_of.with_symbol x s Γ)
scope_more N θ x int Γ h e = scopes_joined N θ Γ _ h (e, tt)
scope_more N θ x bool Γ h e = scopes_joined N θ Γ _ h (e, tt)
scope_more N θ x array Γ h e = scopes_joined N θ Γ _ h (e, tt)
scope_more N θ x (data_of d) Γ h e = scopes_joined N θ Γ _ h (e, tt)
scope_more N θ x shape.other Γ h e = h

-- then so is what stands for an entry's scope
pub fields_scope : (N : Names) (d : ℕ) (us : MlTypes) (θ : Subst) (j : ℕ) (fs : MlTypes) (Γ : Scope)
    → FieldsOver (is_again d (count_types us)) N us θ j fs → ScopeOver N θ Γ → ScopeOver N θ (field_scope d us j fs Γ)
fields_scope N d us θ j no_types Γ h w = w
fields_scope N d us θ j (more_types f fs) Γ h w =
    fields_scope N d us θ (suc j) fs (cond (is_again d (count_types us) f) Γ (scopes_of.with_position j (shape_of (put (types.type_at us) f)) Γ)) h.1
    (by (is_again d (count_types us) f) h.0) where
      by : (b : Bool) → Where b (Unit {0}) (SymbolOver N θ (shape_of (put (types.type_at us) f)) (Position (suc j)))
          → ScopeOver N θ (cond b Γ (scopes_of.with_position j (shape_of (put (types.type_at us) f)) Γ))
      by true k = w
      by false k = scope_more N θ (Position (suc j)) (shape_of (put (types.type_at us) f)) Γ w k

-- ---- parts

-- what stands for the symbols of names
pub record Stands (N : Names) (θ : Subst) (M : Names) : Type 0 where
  pub terms : (x : Symbol) → M.terms x ≡ true → SumOn N.terms (sum_at θ x)
  pub flags : (x : Symbol) → M.flags x ≡ true → SortedOn N.terms N.flags (flag_at θ x)

module _ (N : Names) (θ : Subst) where
  term_more : (M : Symbols) (x : Symbol) → ((y : Symbol) → M y ≡ true → SumOn N.terms (sum_at θ y)) → SumOn N.terms (sum_at θ x)
      → (y : Symbol) → with_symbol M x y ≡ true → SumOn N.terms (sum_at θ y)
  term_more M x h w y e =
      or_cases (M y) (same_symbol x y) (SumOn N.terms (sum_at θ y)) e (h y) (λ k. subst (λ (z : Symbol). SumOn N.terms (sum_at θ z)) (same_is x y k) w)

  flag_more : (M : Symbols) (x : Symbol) → ((y : Symbol) → M y ≡ true → SortedOn N.terms N.flags (flag_at θ y)) → SortedOn N.terms N.flags (flag_at θ x)
      → (y : Symbol) → with_symbol M x y ≡ true → SortedOn N.terms N.flags (flag_at θ y)
  flag_more M x h w y e =
      or_cases (M y) (same_symbol x y) (SortedOn N.terms N.flags (flag_at θ y)) e (h y)
      (λ k. subst (λ (z : Symbol). SortedOn N.terms N.flags (flag_at θ z)) (same_is x y k) w)

  stands_more : (M : Names) (s : Shape) (x : Symbol) → Stands N θ M → SymbolOver N θ s x → Stands N θ (with_sort M (kind_of s) x)
  stands_more M int x h w = record { terms = term_more M.terms x h.terms w; flags = h.flags }
  stands_more M bool x h w = record { terms = h.terms; flags = flag_more M.flags x h.flags w }
  stands_more M array x h w = record { terms = term_more M.terms x h.terms w; flags = h.flags }
  stands_more M (data_of d) x h w = record { terms = term_more M.terms x h.terms w; flags = h.flags }
  stands_more M shape.other x h w = h

  pub stands_scope : (Γ : Scope) → ScopeOver N θ Γ → Stands N θ (scope_names Γ)
  stands_scope [] h = record { terms = λ x e. absurd (no e); flags = λ x e. absurd (no e) }
    where
      no : false ≡ true → ⊥
      no z = cc
  stands_scope (e ∷ Γ) h = stands_more (scope_names Γ) e.1 e.0 (stands_scope Γ h.1) h.0

-- with v at the sort of a kind
module _ (N M : Names) (θ : Subst) (p : Stands N θ M) (v : ValueOver N θ) where
  value_term : Stands (record { terms = with_symbol N.terms Value; flags = N.flags }) θ (record { terms = with_symbol M.terms Value; flags = M.flags })
  value_term =
      let T = with_symbol N.terms Value in
      record {
        terms = λ y h.
            or_cases (M.terms y) (same_symbol Value y) (SumOn T (sum_at θ y)) h
            (λ k. sum_within N.terms T (within_one N.terms Value) (sum_at θ y) (p.terms y k))
            (λ k. subst (λ (z : Symbol). SumOn T (sum_at θ z)) (same_is Value y k) v.0);
        flags = λ y h. sorted_within N.terms N.flags T N.flags (within_one N.terms Value) (λ z e. e) (flag_at θ y) (p.flags y h);
      }

  value_flag : Stands (record { terms = N.terms; flags = with_symbol N.flags Value }) θ (record { terms = M.terms; flags = with_symbol M.flags Value })
  value_flag =
      let F = with_symbol N.flags Value in
      record {
        terms = λ y h. p.terms y h;
        flags = λ y h.
            or_cases (M.flags y) (same_symbol Value y) (SortedOn N.terms F (flag_at θ y)) h
            (λ k. sorted_within N.terms N.flags N.terms F (λ z e. e) (within_one N.flags Value) (flag_at θ y) (p.flags y k))
            (λ k. subst (λ (z : Symbol). SortedOn N.terms F (flag_at θ z)) (same_is Value y k) v.1);
      }

  stands_value : (k : Kind) → Stands (with_sort N k Value) θ (with_sort M k Value)
  stands_value number = value_term
  stands_value truth_value = value_flag
  stands_value object = value_term
  stands_value other = p

-- what stands for a symbol of a scope, where one substitution is behind another
abbrev left_of : Formula → Sum
left_of (compare o a b) = a
left_of _ = whole (pos 0)

sum_there : (xs : List Symbol) (θ σ : Subst) (x : Symbol) → is_in xs x ≡ true → sum_at (restricted xs (after θ σ)) x ≡ sum_by θ (sum_at σ x)
sum_there xs θ σ x h =
    ap left_of (formula-restricted xs (after θ σ) (compare Eq (var x) (var x)) (h, h)) ∙ sum-after θ σ (var x)

flag_there : (xs : List Symbol) (θ σ : Subst) (x : Symbol) → is_in xs x ≡ true → flag_at (restricted xs (after θ σ)) x ≡ formula_by θ (flag_at σ x)
flag_there xs θ σ x h = formula-restricted xs (after θ σ) (flag x) h ∙ formula-after θ σ (flag x)

module _ (N M : Names) (θ : Subst) (p : Stands N θ M) (xs : List Symbol) (σ : Subst) where
  term_put : (x : Symbol) → is_in xs x ≡ true → SumOn M.terms (sum_at σ x) → SumOn N.terms (sum_at (restricted xs (after θ σ)) x)
  term_put x h w = subst (λ (t : Sum). SumOn N.terms t) (sym (sum_there xs θ σ x h)) (sum_put M N θ p.terms p.flags (sum_at σ x) w)

  symbol_put : (s : Shape) (x : Symbol) → is_in xs x ≡ true → SymbolOver M σ s x → SymbolOver N (restricted xs (after θ σ)) s x
  symbol_put int x h w = term_put x h w
  symbol_put bool x h w =
      subst (λ (q : Formula). SortedOn N.terms N.flags q) (sym (flag_there xs θ σ x h)) (formula_put M N θ p.terms p.flags (flag_at σ x) w)
  symbol_put array x h w = term_put x h w
  symbol_put (data_of d) x h w = term_put x h w
  symbol_put shape.other x h w = tt

  scope_put : (Γ : Scope) → ((x : Symbol) → is_in (map (λ e. e.0) Γ) x ≡ true → is_in xs x ≡ true) → ScopeOver M σ Γ
      → ScopeOver N (restricted xs (after θ σ)) Γ
  scope_put [] i h = tt
  scope_put (e ∷ Γ) i h = (
    symbol_put e.1 e.0 (i e.0 (or_left (same_symbol e.0 e.0) (is_in (map (λ e. e.0) Γ) e.0) (same_refl e.0))) h.0,
    scope_put Γ (λ x k. i x (or_right (same_symbol e.0 x) (is_in (map (λ e. e.0) Γ) x) k)) h.1,
  )

and_first : (a b : Bool) → (a && b) ≡ true → a ≡ true
and_first true b h = refl
and_first false b h = h

and_second : (a b : Bool) → (a && b) ≡ true → b ≡ true
and_second true b h = h
and_second false b h = cc

module _ (g : Signature) (unknowns : ℕ → Unknown) (scopes : Scopes) (agree : (u : ℕ) → scopes u ≡ symbols_in (unknowns u).0) where
  part_put : (N M : Names) (θ : Subst) → Stands N θ M → (q : Part) → PartOver unknowns M q → PartOver unknowns N (part_by scopes θ q)
  part_put N M θ p (known f) h = formula_put M N θ p.terms p.flags f h
  part_put N M θ p (unknown u σ) h =
      let s : Shape = (unknowns u).1 in
      let Γ : Scope = (unknowns u).0 in
      subst (λ (xs : List Symbol). SymbolOver N (restricted xs (after θ σ)) s Value × ScopeOver N (restricted xs (after θ σ)) Γ) (sym (agree u)) (
        symbol_put N M θ p (symbols_in Γ) σ s Value (or_left (same_symbol Value Value) (is_in (map (λ e. e.0) Γ) Value) refl) h.0,
        scope_put N M θ p (symbols_in Γ) σ Γ (λ x k. or_right (same_symbol Value x) (is_in (map (λ e. e.0) Γ) x) k) h.1,
      )

  parts_put : (N M : Names) (θ : Subst) → Stands N θ M → (qs : Parts) → PartsOver unknowns M qs → PartsOver unknowns N (parts_by scopes θ qs)
  parts_put N M θ p [] h = tt
  parts_put N M θ p (q ∷ qs) h = (part_put N M θ p q h.0, parts_put N M θ p qs h.1)

  -- an entry at a constructor, a field and a parameter, where what stands for the entry's scope is of these names
  pub cell_over : (N : Names) (θ : Subst) → ValueOver N θ → (d : ℕ) (ts : Refineds) (c : ℕ)
      → ScopeOver N θ (field_scope d (all_erased ts) 0 (fields_of (g c)) []) → (m : Matrix) → CellsOver g unknowns d ts m → (j i : ℕ)
      → PartsOver unknowns (with_sort N (kind (type_at ts i)) Value) (parts_by scopes θ (cell m c j i))
  cell_over N θ v d ts c w [] h j i = tt
  cell_over N θ v d ts c w (e ∷ m) h j i =
      by (e.constructor == c && (e.field == j && e.parameter == i)) refl (cell_over N θ v d ts c w m h.1 j i)
    where
      Own : ℕ → ℕ → Names
      Own z y = with_sort (scope_names (field_scope d (all_erased ts) 0 (fields_of (g z)) [])) (kind (type_at ts y)) Value

      by : (b : Bool) → (e.constructor == c && (e.field == j && e.parameter == i)) ≡ b
          → PartsOver unknowns (with_sort N (kind (type_at ts i)) Value) (parts_by scopes θ (cell m c j i))
          → PartsOver unknowns (with_sort N (kind (type_at ts i)) Value) (parts_by scopes θ (cond b e.parts (cell m c j i)))
      by false f k = k
      by true f k =
          let same_c = eqb-true e.constructor c (and_first (e.constructor == c) (e.field == j && e.parameter == i) f) in
          let both = and_second (e.constructor == c) (e.field == j && e.parameter == i) f in
          let same_i = eqb-true e.parameter i (and_second (e.field == j) (e.parameter == i) both) in
          let here : PartsOver unknowns (Own c i) e.parts =
          subst (λ (y : ℕ). PartsOver unknowns (Own c y) e.parts) same_i (subst (λ (z : ℕ). PartsOver unknowns (Own z e.parameter) e.parts) same_c h.0) in
          let Γ = field_scope d (all_erased ts) 0 (fields_of (g c)) [] in
          parts_put (with_sort N (kind (type_at ts i)) Value) (Own c i) θ
          (stands_value N (scope_names Γ) θ (stands_scope N θ Γ w) v (kind (type_at ts i))) e.parts here
