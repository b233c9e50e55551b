-- What a table of environments says.
use Rattle.std.specs.Prelude.{ℕ, List, [], ◌∷◌}
use Rattle.lq_refined_substitution.specs.declared.environments.environments.Environments.{Environments}
use Rattle.lq_refined_substitution.specs.Environments.Entries.{at, grown}

abbrev pub environments_of : Environments → List (List ℕ)
environments_of es = grown ([] ∷ []) es.entries.items

abbrev pub hypotheses_at : Environments → ℕ → List ℕ
hypotheses_at es i = at (environments_of es) i
