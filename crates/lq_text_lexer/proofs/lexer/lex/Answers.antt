use Rattle.std.proofs.Common.{sym, ap, ◌∙◌, subst, inr, List, drop}
use Rattle.lq_text_lexer.specs.declared.token.Token.{Token}
use Rattle.lq_text_lexer.specs.Places.{place_at}
use Rattle.lq_text_lexer.specs.Reading.{Reads}
use Rattle.lq_text_lexer.proofs.Lexing.{begins, bad_byte, past_blank, past_comment, past_token, open_comment, ends, ends_at}
use Rattle.lq_text_lexer.proofs.lexer.lex.Goals as goal

pub turns-init : goal.turns-init
turns-init c = record { stands = c.start-cursor.ensures.stands; reads = begins _ _ _ _ c.start-cursor.ensures.at c.new-items.ensures.items }

pub returns-in-End-clause-found : goal.returns-in-End-clause-found
returns-in-End-clause-found c = ends _ _ _ _ c.in-End.ensures.front c.turns.invariant.reads

pub returns-in-End-clause-end : goal.returns-in-End-clause-end
returns-in-End-clause-end c = c.place.ensures ∙ ap (place_at c.args.kind c.args.text.now) (ends_at _ _ _ c.in-End.ensures.front c.turns.invariant.stands.within)

pub turns-preserved-in-Blank : goal.turns-preserved-in-Blank
turns-preserved-in-Blank c = record {
  stands = c.next-cursor.ensures.stands;
  reads = past_blank _ _ _ _ _ c.in-Blank.ensures.front c.next-cursor.ensures.at c.turns.invariant.reads;
}

pub turns-preserved-in-Some : goal.turns-preserved-in-Some
turns-preserved-in-Some c = record {
  stands = c.in-Some.ensures.stands;
  reads = past_comment _ _ _ _ _ _ c.in-Comment.ensures.front c.behind-inside.ensures.at c.in-Some.ensures.ends c.turns.invariant.reads;
}

pub returns-in-None-clause-refused : goal.returns-in-None-clause-refused
returns-in-None-clause-refused c = inr (open_comment _ _ _ _ _ _ c.in-Comment.ensures.front c.behind-inside.ensures.at c.in-None.ensures.«open» c.turns.invariant.stands.within c.place-in-None.ensures c.turns.invariant.reads)

pub turns-preserved : goal.turns-preserved
turns-preserved c = record {
  stands = c.behind-behind.ensures.stands;
  reads = subst (λ (l : List Token). Reads c.args.kind c.args.text.now c.args.text.now l (drop c.behind-behind.result.at c.args.text.now)) (sym c.in_ok-push-in-Token.ensures.items) (past_token _ _ _ _ _ _ _ _ c.in-Token.ensures.front c.behind-behind.ensures.at c.turns.invariant.stands.within c.place-in-Token.ensures c.turns.invariant.reads);
}

pub returns-in-BadByte-clause-refused : goal.returns-in-BadByte-clause-refused
returns-in-BadByte-clause-refused c = inr (bad_byte _ _ _ _ _ _ _ c.in-BadByte.ensures.front c.behind-bad.ensures.at c.turns.invariant.stands.within c.place-in-BadByte.ensures c.turns.invariant.reads)
