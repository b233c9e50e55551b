use Rattle.std.proofs.Common.{◌∙◌, sym, ap}
use Rattle.lq_prover_proof_tree.specs.Literals.Parts.{flags_with}
use Rattle.lq_prover_proof_tree.proofs.LiteralsLemmas.Adding.{flag_put}
use Rattle.lq_logic_predicates.specs.PredView.{formula_of}
use Rattle.lq_prover_proof_tree.proofs.literals.parts.add_flag.Goals as goal

pub returns-in_ok-insert : goal.returns-in_ok-insert
returns-in_ok-insert c = flag_put c.in-Flag.symbol c.args.flags.now.keys c.insert.new.self.keys c.in_ok-insert.ensures.keys ∙ sym (ap (λ p. flags_with c.args.flags.now.keys (formula_of p)) c.in-Flag.is)
