-- The pieces make the function.
use Rattle.std.proofs.Common.{codes}
use Rattle.lq_top_words.specs.Sample.Sample.{function_text, numbered}
use Rattle.lq_top_words.proofs.SampleLemmas.Joins.{four_written}
use Rattle.lq_top_words.proofs.sample.text.push_function.Goals as goal

pub returns : goal.returns
unfolding function_text
returns c =
    four_written c.extend_from_slice.result c.args.text.now.items (numbered (codes "let rec f") c.args.number)
    (numbered (codes " n = if n <= 0 then 0 else ") c.args.number) (numbered (codes " + f") c.args.number) (codes " (n - 1)\n")
    _ _ _ _ c.in_ok-push_numbered.ensures.written c.in_ok-push_numbered-2.ensures.written c.in_ok-push_numbered-3.ensures.written c.extend_from_slice.ensures.items
