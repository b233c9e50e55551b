-- Parts over more sorts, with something put for symbols, and under an assignment.
use Rattle.std.proofs.Common.{◌≡◌, ◌∙◌, ℕ, pos, true, List, [], ◌∷◌, ◌++◌, map, refl, sym, ap, subst}
use Rattle.lq_sound_scope.specs.Scopes.Over.{kind_of}
use Rattle.lq_sound_scope.proofs.ScopesLemmas.Symbols.{or_left, or_right, same_refl}
use Rattle.lq_refined_instances.specs.Scopes.{Scope}
use Rattle.lq_base_names.specs.declared.operation.CompareOp.TheVariants.{Eq}
use Rattle.lq_refined_types.specs.Parts.Assignment.{Assignment, part_under, parts_under}
use Rattle.lq_refined_types.specs.Parts.Part.{Part, known, unknown, Parts, Scopes, part_by, parts_by}
use Rattle.lq_refined_types.specs.Parts.Substitution.{Subst, after, flag_at, formula_by, is_in, restricted, sum_at, sum_by}
use Rattle.lq_refined_types.proofs.PartsLemmas.Replacing.{sum-after, formula-after}
use Rattle.lq_refined_types.proofs.PartsLemmas.Restricting.{formula-restricted}
use Rattle.lq_logic_predicates.specs.Formula.{Formula, flag, compare}
use Rattle.lq_logic_predicates.specs.Sum.{Sum, whole, var, same_symbol}
use Rattle.lq_logic_predicates.specs.declared.symbol.Symbol.{Symbol}
use Rattle.lq_logic_predicates.specs.declared.symbol.Symbol.TheVariants.{Value}
use Rattle.lq_refined_types.specs.Types.Refined.{Kind, number, truth_value, object, other}
use Rattle.lq_refined_templates.specs.Templates.Scopes.{Unknown, symbols_in}
use Rattle.lq_sound_scope.specs.Sorts.Sorts.{AreInstancesSorted, AreWellSorted, IsNumber, IsObject, IsWellSorted, IsWithin, ScopeStands, Sorts, StandsAt, scope_sorts, unknown_sorts}
use Rattle.lq_sound_scope.specs.Sorts.Types.{PartSorted, PartsSorted}
use Rattle.lq_sound_scope.proofs.SortsLemmas.Basics.{Stands, each_put, formula_put, formula_within, number_put, object_put, scope_within, stands_more, stands_scope, stands_within}

-- ---- where one substitution is behind another

abbrev left_of : Formula → Sum
left_of (compare o a b) = a
left_of _ = whole (pos 0)

sum_there : (xs : List Symbol) (θ σ : Subst) (x : Symbol) → is_in xs x ≡ true → sum_at (restricted xs (after θ σ)) x ≡ sum_by θ (sum_at σ x)
sum_there xs θ σ x h =
    ap left_of (formula-restricted xs (after θ σ) (compare Eq (var x) (var x)) (h, h)) ∙ sum-after θ σ (var x)

flag_there : (xs : List Symbol) (θ σ : Subst) (x : Symbol) → is_in xs x ≡ true → flag_at (restricted xs (after θ σ)) x ≡ formula_by θ (flag_at σ x)
flag_there xs θ σ x h = formula-restricted xs (after θ σ) (flag x) h ∙ formula-after θ σ (flag x)

module _ (N M : Sorts) (θ : Subst) (p : Stands N θ M) (xs : List Symbol) (σ : Subst) where
  symbol_put : (k : Kind) (x : Symbol) → is_in xs x ≡ true → StandsAt M σ k x → StandsAt N (restricted xs (after θ σ)) k x
  symbol_put number x h w = subst (λ (t : Sum). IsNumber N t) (sym (sum_there xs θ σ x h)) (number_put N M θ p (sum_at σ x) w)
  symbol_put truth_value x h w = subst (λ (q : Formula). IsWellSorted N q) (sym (flag_there xs θ σ x h)) (formula_put N M θ p (flag_at σ x) w)
  symbol_put object x h w = subst (λ (t : Sum). IsObject N t) (sym (sum_there xs θ σ x h)) (object_put N M θ p (sum_at σ x) w)
  symbol_put other x h w = tt

  scope_put : (Γ : Scope) → ((x : Symbol) → is_in (map (λ e. e.0) Γ) x ≡ true → is_in xs x ≡ true) → ScopeStands M σ Γ
      → ScopeStands N (restricted xs (after θ σ)) Γ
  scope_put [] i h = tt
  scope_put (e ∷ Γ) i h = (
    symbol_put (kind_of e.1) e.0 (i e.0 (or_left (same_symbol e.0 e.0) (is_in (map (λ e. e.0) Γ) e.0) (same_refl e.0))) h.0,
    scope_put Γ (λ x k. i x (or_right (same_symbol e.0 x) (is_in (map (λ e. e.0) Γ) x) k)) h.1,
  )

module _ (unknowns : ℕ → Unknown) where
  -- ---- over more sorts

  part_within : (N M : Sorts) → IsWithin N M → (q : Part) → PartSorted unknowns N q → PartSorted unknowns M q
  part_within N M w (known p) h = formula_within N M w p h
  part_within N M w (unknown u θ) h =
      (stands_within N M w θ (kind_of (unknowns u).1) Value h.0, scope_within N M w θ (unknowns u).0 h.1)

  pub parts_within : (N M : Sorts) → IsWithin N M → (qs : Parts) → PartsSorted unknowns N qs → PartsSorted unknowns M qs
  parts_within N M w [] h = tt
  parts_within N M w (q ∷ qs) h = (part_within N M w q h.0, parts_within N M w qs h.1)

  pub parts_joined : (N : Sorts) (ps qs : Parts) → PartsSorted unknowns N ps → PartsSorted unknowns N qs → PartsSorted unknowns N (ps ++ qs)
  parts_joined N [] qs h w = w
  parts_joined N (p ∷ ps) qs h w = (h.0, parts_joined N ps qs h.1 w)

  -- ---- with something put for symbols

  module _ (scopes : Scopes) (agree : (u : ℕ) → scopes u ≡ symbols_in (unknowns u).0) where
    part_put : (N M : Sorts) (θ : Subst) → Stands N θ M → (q : Part) → PartSorted unknowns M q → PartSorted unknowns N (part_by scopes θ q)
    part_put N M θ p (known f) h = formula_put N M θ p f h
    part_put N M θ p (unknown u σ) h =
        let k : Kind = kind_of (unknowns u).1 in
        let Γ : Scope = (unknowns u).0 in
        subst (λ (xs : List Symbol). StandsAt N (restricted xs (after θ σ)) k Value × ScopeStands N (restricted xs (after θ σ)) Γ) (sym (agree u)) (
          symbol_put N M θ p (symbols_in Γ) σ k Value (or_left (same_symbol Value Value) (is_in (map (λ e. e.0) Γ) Value) refl) h.0,
          scope_put N M θ p (symbols_in Γ) σ Γ (λ x k. or_right (same_symbol Value x) (is_in (map (λ e. e.0) Γ) x) k) h.1,
        )

    pub parts_put : (N M : Sorts) (θ : Subst) → Stands N θ M → (qs : Parts) → PartsSorted unknowns M qs → PartsSorted unknowns N (parts_by scopes θ qs)
    parts_put N M θ p [] h = tt
    parts_put N M θ p (q ∷ qs) h = (part_put N M θ p q h.0, parts_put N M θ p qs h.1)

  -- ---- under an assignment

  module _ (A : Assignment) (sorted : AreInstancesSorted unknowns A) where
    each_joined : (N : Sorts) (ps qs : List Formula) → AreWellSorted N ps → AreWellSorted N qs → AreWellSorted N (ps ++ qs)
    each_joined N [] qs h w = w
    each_joined N (p ∷ ps) qs h w = (h.0, each_joined N ps qs h.1 w)

    pub part_sorted : (N : Sorts) (q : Part) → PartSorted unknowns N q → AreWellSorted N (part_under A q)
    part_sorted N (known p) h = (h, tt)
    part_sorted N (unknown u θ) h =
        each_put N (unknown_sorts (unknowns u)) θ
        (stands_more N (scope_sorts (unknowns u).0) θ (stands_scope N θ (unknowns u).0 h.1) (kind_of (unknowns u).1) Value h.0) (A u) (sorted u)

    pub parts_sorted : (N : Sorts) (qs : Parts) → PartsSorted unknowns N qs → AreWellSorted N (parts_under A qs)
    parts_sorted N [] h = tt
    parts_sorted N (q ∷ qs) h = each_joined N (part_under A q) (parts_under A qs) (part_sorted N q h.0) (parts_sorted N qs h.1)
