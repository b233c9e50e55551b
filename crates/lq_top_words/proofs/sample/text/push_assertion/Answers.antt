-- The pieces make the assertion.
use Rattle.std.proofs.Common.{codes}
use Rattle.lq_top_words.specs.Sample.Sample.{assertion_text, numbered}
use Rattle.lq_top_words.proofs.SampleLemmas.Joins.{three_written}
use Rattle.lq_top_words.proofs.sample.text.push_assertion.Goals as goal

pub returns : goal.returns
unfolding assertion_text
returns c =
    three_written c.extend_from_slice.result c.args.text.now.items (numbered (codes "let () = assert (0 <= f") c.args.number) (numbered (codes " ") c.args.number) (codes ")\n")
    _ _ _ c.in_ok-push_numbered.ensures.written c.in_ok-push_numbered-2.ensures.written c.extend_from_slice.ensures.items
