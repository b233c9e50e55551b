-- Types in rows.
use Rattle.std.proofs.Common.{◌≡◌, ℕ, List, [], ◌∷◌, map, refl, ap}
use Rattle.lq_refined_rules.specs.Checks.Operation.{all_keyed, empty_type, empty_types, keyed}
use Rattle.lq_refined_types.specs.Parts.Part.{Scopes}
use Rattle.lq_refined_types.specs.Parts.Substitution.{Subst}
use Rattle.lq_refined_types.specs.Types.Refined.{Refined, more}
use Rattle.lq_refined_subtyping.specs.Table.Forms.{at, each, row_of}

-- what is made of each type of a row

pub empty-each : (all : List Refined) (is : List ℕ) → empty_types (each all is) ≡ row_of (map (λ p. empty_type (at all p)) is)
empty-each all [] = refl
empty-each all (i ∷ is) = ap (more (empty_type (at all i))) (empty-each all is)

pub keyed-each : (S : Scopes) (θ : Subst) (all : List Refined) (is : List ℕ)
    → all_keyed S θ (each all is) ≡ row_of (map (λ p. keyed S θ (at all p)) is)
keyed-each S θ all [] = refl
keyed-each S θ all (i ∷ is) = ap (more (keyed S θ (at all i))) (keyed-each S θ all is)
