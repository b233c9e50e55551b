use Rattle.lq_refined_types.proofs.SubtypingLemmas.Splitting.{split_met, split_hold}
use Rattle.lq_refined_types.proofs.subtyping.laws.split_is_subtype.Goals as goal

pub returns : goal.returns
returns c = λ P A o Γ l r same. (λ m. split_hold P A o Γ l r same m, λ h. split_met P A o Γ l r same h)
