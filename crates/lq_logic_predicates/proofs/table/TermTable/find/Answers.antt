use Rattle.std.proofs.Common.{◌≡◌, ◌∙◌, is_some, false, rules}
use Rattle.lq_logic_predicates.specs.Sum.{same}
use Rattle.lq_logic_predicates.specs.TermView.{sum_of}
use Rattle.lq_logic_predicates.proofs.Keys.{list_any-keys, position_or_len-keys, position-is}
use Rattle.lq_logic_predicates.proofs.table.TermTable.find.Goals as goal

pub returns-in_err-at-clause-whether : goal.returns-in_err-at-clause-whether
returns-in_err-at-clause-whether c =
    let none : is_some c.from_residual.result ≡ false = search rules in
    none ∙ c.in_err-at.ensures.found ∙ list_any-keys (sum_of c.args.term.now) c.args.self.now.terms.keys

pub returns-clause-number : goal.returns-clause-number
returns-clause-number c =
    let keys = c.args.self.now.terms.keys in
    position-is (λ k. same (sum_of c.args.term.now) (sum_of k)) keys c.in_ok-at.at c.in_ok-at.ensures.index ∙ position_or_len-keys (sum_of c.args.term.now) keys

pub returns-clause-whether : goal.returns-clause-whether
returns-clause-whether c = c.in_ok-at.ensures.found ∙ list_any-keys (sum_of c.args.term.now) c.args.self.now.terms.keys
