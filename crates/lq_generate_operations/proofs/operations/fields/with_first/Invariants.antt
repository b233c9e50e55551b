use Rattle.std.proofs.Common.{◌≡◌, ◌∷◌, take}
use Rattle.lq_refined_types.specs.Parts.Substitution.{swap}
use Rattle.lq_refined_substitution.specs.Substitution.Views.{atom_view, subst_view}
use Rattle.lq_generate_operations.proofs.operations.fields.with_first.Given as goal

abbrev pub invariant-loop-at : goal.invariant-loop-at
invariant-loop-at l = subst_view l.made ≡ swap l.fn.symbol (atom_view l.fn.atom) ∷ take l.at (subst_view l.by)
