-- What the words' parse gives.
use Rattle.std.proofs.Common.{◌∙◌, map, string_bytes}
use Rattle.clap.specs.Words.{found_of}
use Rattle.lq_top_words.proofs.CommandLemmas.Parsing.{are_texts, failed_line, parsed_line}
use Rattle.lq_top_words.proofs.command.line.line_in.Goals as goal

pub returns-in-Ok : goal.returns-in-Ok
returns-in-Ok c =
    c.texts.ensures ∙ parsed_line (found_of c.in-Ok.matches) (map string_bytes c.args.words.now) (are_texts c.args.words.now) c.in-Ok.ensures.rows c.in-Ok.ensures.fails

pub returns : goal.returns
returns c =
    failed_line c.in-Err.error (map string_bytes c.args.words.now) (are_texts c.args.words.now) c.in-Err.ensures.fails
    (λ e. c.in_default.not-OutOfMemory (c.kind.ensures ∙ e))
