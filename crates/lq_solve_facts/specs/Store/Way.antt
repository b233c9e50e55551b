-- The way from an environment up to one that stands.
use Rattle.std.specs.Prelude.{◌≡◌, ℕ, List, [], ◌∷◌, ◌++◌}
use Rattle.lq_refined_substitution.specs.Implications.Views.{environment_in}
use Rattle.lq_refined_types.specs.Parts.Assignment.{Assignment}
use Rattle.lq_refined_types.specs.Parts.Part.{Parts}
use Rattle.lq_refined_substitution.specs.Substitution.Views.{part_view}
use Rattle.lq_solve_facts.specs.Store.Kept.{IsKeptFor, Stands}
use Rattle.lq_solve_facts.specs.declared.store.kept.Kept.{Kept}
use Rattle.lq_solve_facts.specs.declared.store.way.Step.{Step}

-- the step's environment has the hypotheses of its parent and one more, and a way leads from the parent
pub record IsStep (es : List Parts) (way : ℕ → Type 0) (s : Step) (env : ℕ) : Type 0 where
  pub parent : ℕ
  pub is : s.env ≡ env
  pub hypotheses : environment_in es s.env ≡ environment_in es parent ++ part_view s.part.now ∷ []
  pub rest : way parent

-- the steps lead from the environment to another, the innermost first
abbrev pub LeadsTo : List Parts → ℕ → List Step → ℕ → Type 0
LeadsTo es to [] = λ env. env ≡ to
LeadsTo es to (s ∷ steps) = λ env. IsStep es (LeadsTo es to steps) s env

-- the steps lead from the environment to one that stands
pub record IsUnderWay (A : Assignment) (es : List Parts) (k : Kept) (steps : List Step) (env : ℕ) : Type 0 where
  pub at : ℕ
  pub kept : IsKeptFor A es k
  pub stands : Stands A es k at
  pub way : LeadsTo es at steps env
