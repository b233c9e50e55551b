use Rattle.std.proofs.Common.{◌∙◌, ◌≤◌, All, Some, length, sym, ap, subst, arith}
use Rattle.std.proofs.lemmas.List.{take_all}
use Rattle.std.proofs.lemmas.Option.{slice_get-get_or}
use Rattle.lq_prover_case.specs.State.RowState.{row_point}
use Rattle.lq_prover_search.specs.Search.Splits.{IsDoneOrMet}
use Rattle.lq_prover_search.proofs.search.opening.first_open.Goals as goal

pub returns-then-not-is_settled-clause-some : goal.returns-then-not-is_settled-clause-some
returns-then-not-is_settled-clause-some c =
    let choice = c.index-choices-at.result in record {
      choice = choice;
      here = slice_get-get_or c.args.choices.now c.loop-at.at choice c.loop-at-test.true ∙ ap Some (sym c.index-choices-at.is);
      open_still = c.is_settled.ensures.open c.if-not-is_settled.true;
    }

pub returns-then-not-is_settled-clause-unmet : goal.returns-then-not-is_settled-clause-unmet
returns-then-not-is_settled-clause-unmet c = λ p at.
    let choice = c.index-choices-at.result in record {
      choice = choice;
      here = slice_get-get_or c.args.choices.now c.loop-at.at choice c.loop-at-test.true ∙ ap Some (sym c.index-choices-at.is);
      unmet = c.is_settled.ensures.unknown p at c.if-not-is_settled.true;
    }

pub returns-then-not-is_settled-clause-first : goal.returns-then-not-is_settled-clause-first
returns-then-not-is_settled-clause-first c = λ p at. c.loop-at.invariant p at

pub returns-clause-none : goal.returns-clause-none
returns-clause-none c = λ p at.
    let choices = c.args.choices.now in
    let past_end : length choices ≤ c.loop-at.at = omega arith in
    subst (All (IsDoneOrMet (row_point c.args.state.now.rows) p)) (take_all c.loop-at.at choices past_end) (c.loop-at.invariant p at)
