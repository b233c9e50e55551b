use Rattle.std.proofs.Common.{◌∙◌}
use Rattle.lq_top_answers.proofs.failure.failures.explain_text.Goals as goal

pub returns : goal.returns
returns c = record { failure = c.in_ok-text.text.items; fails = c.in_ok-text.ensures; written = c.from_bytes.ensures ∙ c.in_ok-push_sides.ensures }
