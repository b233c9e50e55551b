use Rattle.lq_logic_text.specs.Views.{calling_view}
use Rattle.lq_top_answers.specs.Failure.Collected.{valued_view, value_view}
use Rattle.lq_top_answers.proofs.FailureLemmas.Lines.{line_written}
use Rattle.lq_top_answers.proofs.failure.point_lines.push_value_line.Goals as goal

pub returns : goal.returns
returns c = record {
  value = value_view c.in_ok-value.value;
  is = c.in_ok-value.ensures.is;
  written = line_written (calling_view c.args.calling.now) (valued_view c.args.valued.now) (value_view c.in_ok-value.value) c.args.line.now.items _ _ _ _
      c.in_ok-push_label.ensures c.in_ok-extend_from_slice.ensures.items c.in_ok-push_value.ensures c.in_ok-extend_from_slice-2.ensures.items;
  numbered = c.in_ok-value.ensures.numbered;
}
