use Rattle.lq_top_pose.proofs.Staged.{one_problem}
use Rattle.lq_top_pose.proofs.laws.one_posing.Goals as goal

pub returns : goal.returns
returns c = one_problem record { binding = c.one_binding.ensures; types = c.one_inference.ensures; annotation = c.one_annotation.ensures }
