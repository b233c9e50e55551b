use Rattle.std.proofs.Common.{◌∙◌, ap, sym, map}
use Rattle.lq_logic_predicates.specs.Sum.{same}
use Rattle.lq_logic_predicates.specs.Table.{index_of}
use Rattle.lq_logic_predicates.specs.TermView.{sum_of}
use Rattle.lq_logic_predicates.proofs.Keys.{list_any-keys, position_or_len-keys, position-is, keys_with, distinct_with}
use Rattle.lq_logic_predicates.specs.Numbering.{with_term-present, index_of-with_term}
use Rattle.lq_logic_predicates.proofs.table.TermTable.number.Goals as goal

pub returns-in-Some-clause-added : goal.returns-in-Some-clause-added
returns-in-Some-clause-added c =
    let keys = c.args.self.now.terms.keys in
    sym (with_term-present (map sum_of keys) (sum_of c.args.term.now) (sym (list_any-keys (sum_of c.args.term.now) keys) ∙ sym c.in-Some.ensures.found))

pub returns-in-Some-clause-number : goal.returns-in-Some-clause-number
returns-in-Some-clause-number c =
    let keys = c.args.self.now.terms.keys in
    position-is (λ k. same (sum_of c.args.term.now) (sum_of k)) keys c.in-Some.at c.in-Some.ensures.index ∙ position_or_len-keys (sum_of c.args.term.now) keys

pub invariant_of-self : goal.invariant_of-self
invariant_of-self c =
    record { distinct = distinct_with c.args.self.now.terms.keys c.in_ok-copied.copied c.insert_full.new.self.keys c.insert_full.result c.insert_full.ensures.keys c.insert_full.ensures.err c.args.self.now.distinct }

pub returns-clause-added : goal.returns-clause-added
returns-clause-added c =
    let keys = c.args.self.now.terms.keys in
    keys_with keys c.in_ok-copied.copied (sum_of c.args.term.now) _ c.in_ok-copied.ensures c.in_ok-at.ensures.keys

pub returns-clause-number : goal.returns-clause-number
returns-clause-number c =
    let keys = c.args.self.now.terms.keys in
    c.in_ok-at.ensures.index
    ∙ position_or_len-keys (sum_of c.in_ok-copied.copied) keys
    ∙ ap (index_of (map sum_of keys)) c.in_ok-copied.ensures
    ∙ sym (index_of-with_term (map sum_of keys) (sum_of c.args.term.now))
    ∙ ap (λ l. index_of l (sum_of c.args.term.now)) (sym (keys_with keys c.in_ok-copied.copied (sum_of c.args.term.now) _ c.in_ok-copied.ensures c.in_ok-at.ensures.keys))
