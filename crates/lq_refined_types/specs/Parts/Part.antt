-- Parts of refinements: predicates and unknowns.
use Rattle.std.specs.Prelude.{ℕ, Bool, true, false, List, [], ◌∷◌}
use Rattle.lq_logic_predicates.specs.declared.symbol.Symbol.{Symbol}
use Rattle.lq_logic_predicates.specs.Formula.{Formula, truth}
use Rattle.lq_refined_types.specs.Parts.Substitution.{Subst, after, formula_by, restricted}

-- a predicate, or an unknown with what is put for the names of its scope
pub data Part : Type 0 where
  known : Formula → Part
  unknown : ℕ → Subst → Part

abbrev pub Parts : Type 0
Parts = List Part

-- the names of which the instances of each unknown may speak, `v` among them
abbrev pub Scopes : Type 0
Scopes = ℕ → List Symbol

abbrev pub part_by : Scopes → Subst → Part → Part
part_by scopes θ (known p) = known (formula_by θ p)
part_by scopes θ (unknown u σ) = unknown u (restricted (scopes u) (after θ σ))

abbrev pub parts_by : Scopes → Subst → Parts → Parts
parts_by scopes θ [] = []
parts_by scopes θ (q ∷ qs) = part_by scopes θ q ∷ parts_by scopes θ qs

-- a part that is written `true`
abbrev pub is_truth : Part → Bool
is_truth (known truth) = true
is_truth _ = false
