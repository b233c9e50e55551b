use Rattle.std.proofs.Common.{ℕ, List, sym, subst}
use Rattle.lq_logic_predicates.specs.PredView.{implication_of}
use Rattle.lq_logic_text.specs.Views.{calling_view}
use Rattle.lq_logic_points.specs.Values.{as_point}
use Rattle.lq_refined_substitution.specs.Implications.Views.{implications_of}
use Rattle.lq_top_answers.specs.Failure.Failures.{IsFailure}
use Rattle.lq_top_answers.proofs.failure.failures.failure_text.Goals as goal

pub returns : goal.returns
returns c =
    subst (λ (l : List ℕ). IsFailure (calling_view c.args.calling.now) (implications_of c.args.implications.now) c.args.at (implication_of c.args.closed.now) (as_point c.args.point.now) l)
    (sym c.from_bytes.ensures) c.in_ok-text.ensures
