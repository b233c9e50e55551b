-- That there is no value of a constructor: its equations speak of the variable that is matched on, and of `#1`, `#2`, ..
use Rattle.std.proofs.Common.{◌≡◌, ℕ, suc, List, [], ◌∷◌, map, Option, Some, None, refl, sym, subst}
use Rattle.lq_refined_rules.specs.Checks.Basis.{Basis}
use Rattle.lq_refined_rules.specs.Checks.Match.{value_as}
use Rattle.lq_refined_rules.specs.Checks.Operation.{equations_by}
use Rattle.lq_sound_scope.specs.Scopes.Over.{kind_of}
use Rattle.lq_refined_types.specs.Parts.Part.{known}
use Rattle.lq_refined_types.specs.Parts.Substitution.{formula_by, of_sum}
use Rattle.lq_logic_predicates.specs.Formula.{Formula}
use Rattle.lq_logic_predicates.specs.Sum.{var}
use Rattle.lq_logic_predicates.specs.declared.symbol.Symbol.TheVariants.{Position, Value}
use Rattle.lq_refined_types.specs.Types.Operations.{symbol_of}
use Rattle.lq_refined_types.specs.Types.Refined.{Kind, object}
use Rattle.lq_text_qualifiers.specs.Faults.Shapes.{shape_of}
use Rattle.lq_refined_types.specs.Subtyping.Subtype.{fields_of}
use Rattle.lq_refined_templates.specs.Templates.Scopes.{Unknown}
use Rattle.lq_text_tree.specs.MlType.{MlTypes, no_types, more_types}
use Rattle.lq_text_tree.specs.Types.{Constructor}
use Rattle.lq_sound_scope.specs.Sorts.Equations.{AreEquationsWellSorted, with_fields}
use Rattle.lq_sound_scope.specs.Sorts.Sorts.{IsAtomOf, IsWithin, Sorts, no_sorts, with_kind}
use Rattle.lq_sound_scope.specs.Sorts.Types.{PartsSorted}
use Rattle.lq_sound_scope.proofs.SortsLemmas.Basics.{Stands, atom_within, both_within, first_stands, later_stands, own_stands, stands_more, stands_within, within_kind}
use Rattle.lq_sound_scope.proofs.SortsLemmas.Fields.{equations_put}

fields_there : (N : Sorts) (j : ℕ) (fs : MlTypes) → IsWithin N (with_fields N j fs)
fields_there N j no_types = λ k x e. e
fields_there N j (more_types f fs) =
    let M = with_fields N (suc j) fs in
    both_within N M (with_kind M (kind_of (shape_of f)) (Position (suc j))) (fields_there N (suc j) fs) (within_kind M (kind_of (shape_of f)) (Position (suc j)))

-- positions stand for themselves
positions_stand : (N L : Sorts) (x : ℕ) (j : ℕ) (fs : MlTypes) → IsWithin (with_fields N j fs) L → Stands L (value_as x ∷ []) (with_fields no_sorts j fs)
positions_stand N L x j no_types w = λ k y e. cc
positions_stand N L x j (more_types f fs) w =
    let M = with_fields N (suc j) fs in
    let k : Kind = kind_of (shape_of f) in
    let V = with_kind M k (Position (suc j)) in
    stands_more L (with_fields no_sorts (suc j) fs) (value_as x ∷ []) (positions_stand N L x (suc j) fs (both_within M V L (within_kind M k (Position (suc j))) w)) k
    (Position (suc j)) (later_stands L k Value (of_sum (var (symbol_of x))) [] (Position (suc j)) refl
    (stands_within V L w [] k (Position (suc j)) (own_stands M k (Position (suc j)))))

module _ (P : Basis) (unknowns : ℕ → Unknown) where
  -- a constructor's equations
  pub missing_sorted : AreEquationsWellSorted P → ((c : ℕ) → P.setting.constructors c ≡ None → P.equations c ≡ []) → (N : Sorts) (x : ℕ)
      → IsAtomOf N object (of_sum (var (symbol_of x))) → (c : ℕ)
      → PartsSorted unknowns (with_fields N 0 (fields_of (P.setting.constructors c))) (equations_by P c (value_as x ∷ []))
  missing_sorted equations others N x there c = by (P.setting.constructors c) refl
    where
      by : (k : Option Constructor) → P.setting.constructors c ≡ k → PartsSorted unknowns (with_fields N 0 (fields_of k)) (equations_by P c (value_as x ∷ []))
      by None e =
          subst (λ (ps : List Formula). PartsSorted unknowns (with_fields N 0 (fields_of None)) (map (λ q. known (formula_by (value_as x ∷ []) q)) ps))
          (sym (others c e)) tt
      by (Some k) e =
          let L = with_fields N 0 k.fields in
          let M = with_fields no_sorts 0 k.fields in
          let a = of_sum (var (symbol_of x)) in
          equations_put unknowns L (with_kind M object Value) (value_as x ∷ [])
          (stands_more L M (value_as x ∷ []) (positions_stand N L x 0 k.fields (λ i y h. h)) object Value
          (first_stands L object Value a [] (atom_within N L (fields_there N 0 k.fields) object a there))) (P.equations c) (equations c k e)
