use Rattle.std.proofs.Common.{◌≡◌, ◌≤◌, drop}
use Rattle.lq_base_names.specs.declared.limits.TheConstants.{LITERAL_LIMIT}
use Rattle.lq_text_lexer.specs.Front.{number_from}
use Rattle.lq_text_lexer.proofs.front.value_of.Given as goal

abbrev pub invariant-loop-b : goal.invariant-loop-b
invariant-loop-b l = (l.value ≤ LITERAL_LIMIT) × (number_from l.value (drop l.b-index l.digits) ≡ number_from 0 l.digits)
