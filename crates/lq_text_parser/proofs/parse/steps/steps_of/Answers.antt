use Rattle.std.proofs.Common.{◌≡◌, ◌∙◌}
use Rattle.lq_text_lexer.specs.Reading.{tokens_of}
use Rattle.lq_text_parser.specs.Parse.Terminals.{kinds_of}
use Rattle.lq_text_parser.proofs.parse.steps.steps_of.Goals as goal

pub returns-in-Ok-clause-ok : goal.returns-in-Ok-clause-ok
returns-in-Ok-clause-ok c =
    let same : c.deref.result.now ≡ kinds_of c.args.text.now (tokens_of c.args.tokens.now) = c.deref.ensures.value ∙ c.in_ok-kinds.ensures in
    (rw same at c.in-Ok.ensures.ok, rw same at c.in-Ok.ensures.shallow)

pub returns-in-Err-Syntax-clause-syntax : goal.returns-in-Err-Syntax-clause-syntax
returns-in-Err-Syntax-clause-syntax c =
    let same : c.deref.result.now ≡ kinds_of c.args.text.now (tokens_of c.args.tokens.now) = c.deref.ensures.value ∙ c.in_ok-kinds.ensures in
    λ place e. (c.in-Err-Syntax.at, rw same at (c.read.ensures.syntax c.in-Err-Syntax.at cc), cc)

pub returns-in-Err-TooDeep-clause-too_deep : goal.returns-in-Err-TooDeep-clause-too_deep
returns-in-Err-TooDeep-clause-too_deep c =
    let same : c.deref.result.now ≡ kinds_of c.args.text.now (tokens_of c.args.tokens.now) = c.deref.ensures.value ∙ c.in_ok-kinds.ensures in
    λ place e. (c.in-Err-TooDeep.at, rw same at (c.read.ensures.too_deep c.in-Err-TooDeep.at cc), cc)
