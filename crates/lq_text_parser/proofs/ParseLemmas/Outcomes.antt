-- Outcomes where tokens are read.
use Rattle.std.specs.Prelude.{Ok}
use Rattle.std.proofs.Common.{ℕ, List}
use Rattle.lq_text_lexer.specs.declared.token.Tokens.{Tokens}
use Rattle.lq_base_names.specs.declared.place.TextKind.{TextKind}
use Rattle.lq_text_parser.specs.Parse.Outcome.{IsParseOutcome}

-- another thing is read of the same tokens
pub still_read : {A B : Type 0} (kind : TextKind) (text : List ℕ) (tokens : Tokens) (before after : List (List ℕ)) (Is : A → Type 0) (Also : B → Type 0) (a : A) (b : B)
    → IsParseOutcome kind text tokens before after Is (Ok a) → Also b → IsParseOutcome kind text tokens before after Also (Ok b)
still_read kind text tokens before after Is Also a b o also = record {
  ok = also;
  names = o.names;
  kept = o.kept;
  added = o.added;
  table = o.table;
  syntax = λ place e. absurd cc;
  too_deep = λ place e. absurd cc;
  unchanged_by_syntax = λ place e. absurd cc;
  unchanged_by_depth = λ place e. absurd cc;
}
