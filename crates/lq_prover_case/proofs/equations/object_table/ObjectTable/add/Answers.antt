use Rattle.std.proofs.Common.{◌∙◌, sym, map}
use Rattle.lq_logic_predicates.proofs.Keys.{distinct_with, keys_with, list_any-keys}
use Rattle.lq_logic_predicates.specs.Numbering.{with_term-present}
use Rattle.lq_logic_predicates.specs.TermView.{sum_of}
use Rattle.lq_prover_case.proofs.equations.object_table.ObjectTable.add.Goals as goal

pub invariant_of-self : goal.invariant_of-self
invariant_of-self c =
    record { distinct = distinct_with c.args.self.now.terms.keys c.in_ok-copied.copied c.insert_full.new.self.keys c.insert_full.result c.insert_full.ensures.keys c.insert_full.ensures.err c.args.self.now.distinct }

pub returns-in_ok-insert_full-clause-added : goal.returns-in_ok-insert_full-clause-added
returns-in_ok-insert_full-clause-added c =
    keys_with c.args.self.now.terms.keys c.in_ok-copied.copied (sum_of c.args.object.now) _ c.in_ok-copied.ensures c.in_ok-insert_full.ensures.keys

pub returns-else-is_none-clause-added : goal.returns-else-is_none-clause-added
returns-else-is_none-clause-added c =
    let keys = c.args.self.now.terms.keys in
    sym (with_term-present (map sum_of keys) (sum_of c.args.object.now) (sym (list_any-keys (sum_of c.args.object.now) keys) ∙ (sym c.get_index_of.ensures.found ∙ c.if-is_none.ensures)))
