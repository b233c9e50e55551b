-- Pure expressions that are read are in scope.
use Rattle.std.proofs.Common.{◌≡◌, ℕ, ◌+◌, true, List, ◌++◌, length, Option, Some, None}
use Rattle.lq_sound_values.specs.Inclusion.Symbols.{Symbols}
use Rattle.lq_base_names.specs.declared.operation.ArithOp.{ArithOp}
use Rattle.lq_refined_types.specs.Types.Operations.{symbol_of}
use Rattle.lq_refined_rules.specs.Checks.Basis.{Basis}
use Rattle.lq_refined_rules.specs.Checks.Tree as t
use Rattle.lq_text_tree.specs.MlType.{MlTypes}
use Rattle.lq_text_tree.specs.Tree.{Tree, Trees}
use Rattle.lq_refined_templates.specs.Points.Annotation.{Annotation, arguments_at}
use Rattle.lq_refined_templates.specs.Points.Point.{Point}
use Rattle.lq_refined_templates.specs.Points.Pure.{after, arithmetic_of, pure_of, pures_of, use_with, variable_of}
use Rattle.lq_refined_templates.specs.Points.Seen.{Seen}
use Rattle.lq_sound_readiness.specs.Reading.Normal.{IsRing, ring_add, ring_subtract, ring_multiply, IsPure, pure_whole, pure_flag, pure_unit, pure_use, pure_arithmetic, pure_negated, pure_compare, pure_not, pure_and, pure_or, pure_length, ArePure, no_pure, more_pure, IsUse, is_use}
use Rattle.lq_sound_readiness.specs.Reading.Uses.{AllUsesFit, UsesFit}
use Rattle.lq_sound_scope.specs.Scopes.InScope.{PureInScope, PuresInScope, UseInScope}
use Rattle.lq_sound_scope.specs.Scopes.Over.{of_any_sort}
use Rattle.lq_refined_templates.specs.Templates.Scopes.{Unknown}
use Rattle.lq_sound_scope.proofs.ScopesLemmas.Names.{Holds, SeenIn, scope_in}
use Rattle.lq_sound_scope.proofs.ScopesLemmas.Points.{AreOver, over_first, over_second}

-- over any basis
module _ (P : Basis) (unknowns : ℕ → Unknown) (n : Annotation) where
  -- the templates from the number k on are those of the points
  abbrev pub Over : ℕ → List Point → Type 0
  Over = AreOver P.setting.constructors unknowns P.type_arguments

  pub first : (k : ℕ) (ps qs : List Point) → Over k (ps ++ qs) → Over k ps
  first k ps qs h = over_first P.setting.constructors unknowns P.type_arguments k ps qs h

  pub second : (k : ℕ) (ps qs : List Point) → Over k (ps ++ qs) → Over (k + length ps) qs
  second k ps qs h = over_second P.setting.constructors unknowns P.type_arguments k ps qs h

  module _ (S : List Seen) (xs : List ℕ) (N : Symbols) (d : SeenIn n N S) (w : Holds xs N) where
    used : (k i x : ℕ) (ts : Option MlTypes) → N (symbol_of x) ≡ true → Over k (use_with n S k i x ts).points
        → UseInScope P unknowns N (use_with n S k i x ts).read
    used k i x None e h = (e, tt)
    used k i x (Some ts) e h = (e, h.0.0 (of_any_sort N) (scope_in n N S i d))

    pub use_read : (k : ℕ) {e : Tree} → IsUse e → UsesFit n xs e → Over k (variable_of n S k e).points → UseInScope P unknowns N (variable_of n S k e).read
    use_read k (is_use {i = i} {x = x}) u h = used k i x (arguments_at n i x) (w x u.0) h

    ring : {o : ArithOp} (a b : t.Pure) → IsRing o → PureInScope P unknowns N a → PureInScope P unknowns N b → PureInScope P unknowns N (arithmetic_of o a b)
    ring a b ring_add f g = (f, g)
    ring a b ring_subtract f g = (f, g)
    ring a b ring_multiply f g = (f, g)

    pub pure_read : (k : ℕ) {e : Tree} → IsPure e → UsesFit n xs e → Over k (pure_of n S k e).points → PureInScope P unknowns N (pure_of n S k e).read
    pure_read k pure_whole u h = tt
    pure_read k pure_flag u h = tt
    pure_read k pure_unit u h = tt
    pure_read k (pure_use {i = i} {l = l} {x = x}) u h = use_read k (is_use {i = i} {l = l} {x = x}) u h
    pure_read k (pure_arithmetic {a = a} {b = b} r p q) u h =
        let A = pure_of n S k a in
        ring A.read _ r (pure_read k p u.0 (first k A.points _ h)) (pure_read (after k A) q u.1 (second k A.points _ h))
    pure_read k (pure_negated p) u h = pure_read k p u h
    pure_read k (pure_compare {a = a} p q) u h =
        let A = pure_of n S k a in (pure_read k p u.0 (first k A.points _ h), pure_read (after k A) q u.1 (second k A.points _ h))
    pure_read k (pure_not p) u h = pure_read k p u h
    pure_read k (pure_and {a = a} p q) u h =
        let A = pure_of n S k a in (pure_read k p u.0 (first k A.points _ h), pure_read (after k A) q u.1 (second k A.points _ h))
    pure_read k (pure_or {a = a} p q) u h =
        let A = pure_of n S k a in (pure_read k p u.0 (first k A.points _ h), pure_read (after k A) q u.1 (second k A.points _ h))
    pure_read k (pure_length p) u h = pure_read k p u h

    pub pures_read : (k : ℕ) {es : Trees} → ArePure es → AllUsesFit n xs es → Over k (pures_of n S k es).points → PuresInScope P unknowns N (pures_of n S k es).read
    pures_read k no_pure u h = tt
    pures_read k (more_pure {e = e} p ps) u h =
        let A = pure_of n S k e in (pure_read k p u.0 (first k A.points _ h), pures_read (after k A) ps u.1 (second k A.points _ h))
