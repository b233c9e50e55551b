-- What an action makes of the token read last and of the values, where these are what it needs.
use Rattle.std.specs.Prelude.{◌∷◌, Option, Some}
use Rattle.lq_text_grammar.specs.declared.symbol.Action.{Action}
use Rattle.lq_text_grammar.specs.declared.symbol.Action.TheVariants.{Mark, Named, Item, Typing, Pattern, Block, Operand, Pred, Entry}
use Rattle.lq_text_actions.specs.Value.{Lexeme, by_name, mark, named, Making, with_values}
use Rattle.lq_text_actions.specs.Types.{typing_made}
use Rattle.lq_text_actions.specs.Patterns.{pattern_made}
use Rattle.lq_text_actions.specs.Expressions.{operand_made, block_made}
use Rattle.lq_text_actions.specs.Items.{item_made, entry_made}
use Rattle.lq_text_actions.specs.Predicates.{pred_made}

abbrev pub made : Action → Lexeme → Making → Option Making
made Mark l m = with_values m.made (Some (mark l.place ∷ m.values))
made Named l m = with_values m.made (by_name l.content (λ x. Some (named x l.place ∷ m.values)))
made (Item a) l m = with_values m.made (item_made a l m.values)
made (Typing a) l m = with_values m.made (typing_made a l m.values)
made (Pattern a) l m = with_values m.made (pattern_made a l m.values)
made (Block a) l m = block_made a l m.made m.values
made (Operand a) l m = operand_made a l m.made m.values
made (Pred a) l m = with_values m.made (pred_made a l m.values)
made (Entry a) l m = with_values m.made (entry_made a l m.values)
