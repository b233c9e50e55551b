use Rattle.std.proofs.Common.{ℕ, List, ◌++◌, ap, ◌∙◌}
use Rattle.lq_refined_substitution.specs.Implications.Views.{implications_of}
use Rattle.lq_top_answers.specs.Failure.Heads.{line_at}
use Rattle.lq_top_answers.proofs.failure.failures.failure.Goals as goal

pub returns : goal.returns
returns c =
    let shows = c.in_ok-push_point.ensures in
    record {
      lines = shows.0;
      shows = shows.2;
      written = shows.1
          ∙ ap (λ (l : List ℕ). l ++ shows.0) (c.in_ok-push_head.ensures ∙ ap (λ (l : List ℕ). l ++ line_at (implications_of c.args.implications.now) c.args.at) c.in_ok-text.ensures.items);
    }
