use Rattle.lq_refined_rules.proofs.ChecksLemmas.Environments.{use_shape, pattern_fits, operation_shape}
use Rattle.lq_refined_rules.proofs.ChecksLemmas.Shaping.{erased_is}
use Rattle.lq_refined_rules.proofs.checks.laws.simple_types_are_given.Goals as goal

pub returns : goal.returns
returns c = λ P Q are. let keeps = c.simple_types_are_kept.ensures in
    record {
      operations = λ Δ Γ o a f h i. erased_is (operation_shape keeps P Q are f h i);
      arms = λ Δ Θ Γ u q f h. pattern_fits keeps P Q are u.name f (use_shape keeps P Q are f u) h;
    }
