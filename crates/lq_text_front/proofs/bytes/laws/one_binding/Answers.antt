use Rattle.lq_text_front.proofs.BytesLemmas.Staged.{one_bound}
use Rattle.lq_text_front.proofs.bytes.laws.one_binding.Goals as goal

pub returns : goal.returns
returns c =
    one_bound
    record {
      lexing = c.one_reading.ensures;
      tree = c.one_tree.ensures;
      stop = c.one_answer.ensures.stop;
      deep = c.one_answer.ensures.deep;
      one = c.one_answer.ensures.either;
      stops = c.one_answer.ensures.stops;
      depths = c.one_answer.ensures.depths;
      names = c.one_resolution.ensures;
    }
