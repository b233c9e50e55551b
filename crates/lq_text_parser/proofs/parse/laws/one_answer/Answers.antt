use Rattle.lq_text_parser.proofs.ParseLemmas.Answered.{no_stop, none_deep, either_way, one_stop, one_depth}
use Rattle.lq_text_parser.proofs.parse.laws.one_answer.Goals as goal

pub returns-clause-stop : goal.returns-clause-stop
returns-clause-stop c = λ start limit ks es at d s. no_stop start limit ks es at d s

pub returns-clause-deep : goal.returns-clause-deep
returns-clause-deep c = λ start limit ks at s t. none_deep start limit ks at s t

pub returns-clause-either : goal.returns-clause-either
returns-clause-either c = λ start limit ks at to s t. either_way start limit ks at to s t

pub returns-clause-stops : goal.returns-clause-stops
returns-clause-stops c = λ start limit ks at to s t. one_stop start limit ks at to s t

pub returns-clause-depths : goal.returns-clause-depths
returns-clause-depths c = λ start limit ks at to s t. one_depth start limit ks at to s t
