-- That there is no value of a constructor: its equations speak of the variable that is matched on, and of `#1`, `#2`, ..
use Rattle.std.proofs.Common.{◌≡◌, ℕ, suc, true, List, [], ◌∷◌, map, Option, Some, None, refl, sym, subst}
use Rattle.lq_refined_rules.specs.Checks.Basis.{Basis}
use Rattle.lq_refined_rules.specs.Checks.Match.{value_as}
use Rattle.lq_refined_rules.specs.Checks.Operation.{equations_by}
use Rattle.lq_sound_values.specs.Inclusion.Symbols.{Symbols}
use Rattle.lq_sound_scope.specs.Scopes.Over.{IsWithin, Names, PartsOver, SymbolOver, of_any_sort}
use Rattle.lq_sound_scope.proofs.ScopesLemmas.Symbols.{or_left, or_right}
use Rattle.lq_refined_types.specs.Parts.Part.{known}
use Rattle.lq_refined_types.specs.Parts.Substitution.{formula_by}
use Rattle.lq_logic_predicates.specs.Formula.{Formula}
use Rattle.lq_logic_predicates.specs.declared.symbol.Symbol.TheVariants.{Position}
use Rattle.lq_refined_types.specs.Types.Operations.{symbol_of}
use Rattle.lq_text_qualifiers.specs.Faults.Shapes.{Shape, int, bool, array, data_of, shape_of}
use Rattle.lq_text_qualifiers.specs.Faults.Shapes as shape
use Rattle.lq_refined_templates.specs.Templates.Scopes.{Unknown}
use Rattle.lq_text_tree.specs.MlType.{MlTypes, no_types, more_types}
use Rattle.lq_text_tree.specs.Types as types
use Rattle.lq_text_tree.specs.Types.{Constructor, put}
use Rattle.lq_sound_scope.specs.Splits.Bound.{with_positions}
use Rattle.lq_sound_scope.specs.Scalars.Data.{AreEquationsSorted}
use Rattle.lq_sound_scope.proofs.ScalarsLemmas.Datatypes.{equations_over, no_field}
use Rattle.lq_sound_scope.proofs.ScalarsLemmas.Standing.{FieldsOver}

positions_within : (N : Symbols) → IsWithin N (with_positions N)
positions_within N y h = or_left (N y) _ h

-- positions stand for themselves
position_over : (N : Symbols) (x i : ℕ) (s : Shape) → SymbolOver (of_any_sort (with_positions N)) (value_as x ∷ []) s (Position i)
position_over N x i int = or_right (N (Position i)) true refl
position_over N x i bool = or_right (N (Position i)) true refl
position_over N x i array = or_right (N (Position i)) true refl
position_over N x i (data_of d) = or_right (N (Position i)) true refl
position_over N x i shape.other = tt

fields_over : (N : Symbols) (x : ℕ) (j : ℕ) (fs : MlTypes) → FieldsOver no_field (of_any_sort (with_positions N)) no_types (value_as x ∷ []) j fs
fields_over N x j no_types = tt
fields_over N x j (more_types f fs) = (position_over N x (suc j) (shape_of (put (types.type_at no_types) f)), fields_over N x (suc j) fs)

module _ (P : Basis) (unknowns : ℕ → Unknown) where
  -- a constructor's equations
  pub missing_over : AreEquationsSorted P → ((c : ℕ) → P.setting.constructors c ≡ None → P.equations c ≡ []) → (N : Symbols) (x : ℕ)
      → N (symbol_of x) ≡ true → (c : ℕ) → PartsOver unknowns (of_any_sort (with_positions N)) (equations_by P c (value_as x ∷ []))
  missing_over equations others N x there c = by (P.setting.constructors c) refl
    where
      M : Names
      M = of_any_sort (with_positions N)

      by : (k : Option Constructor) → P.setting.constructors c ≡ k → PartsOver unknowns M (equations_by P c (value_as x ∷ []))
      by None e =
          subst (λ (ps : List Formula). PartsOver unknowns M (map (λ q. known (formula_by (value_as x ∷ []) q)) ps)) (sym (others c e)) tt
      by (Some k) e =
          equations_over unknowns M no_types (value_as x ∷ []) k.fields (positions_within N (symbol_of x) there) (fields_over N x 0 k.fields)
          (P.equations c) (equations c k e)
