use Rattle.std.proofs.Common.{◌∙◌, sym, map}
use Rattle.lq_logic_predicates.specs.Numbering.{with_term-present}
use Rattle.lq_logic_predicates.specs.TermView.{sum_of}
use Rattle.lq_prover_proof_tree.proofs.LiteralsLemmas.Adding.{has_key, keys_with}
use Rattle.lq_prover_proof_tree.proofs.literals.parts.add_object.Goals as goal

pub returns-in_ok-insert : goal.returns-in_ok-insert
returns-in_ok-insert c =
    keys_with c.args.objects.now.keys c.in_ok-copy.field-0 (sum_of c.args.object.now) _ c.in_ok-copy.ensures c.in_ok-insert.ensures.keys

pub returns-else-is_none : goal.returns-else-is_none
returns-else-is_none c =
    let keys = c.args.objects.now.keys in
    sym (with_term-present (map sum_of keys) (sum_of c.args.object.now) (has_key keys (sum_of c.args.object.now) ∙ (sym c.get_index_of.ensures.found ∙ c.if-is_none.ensures)))
