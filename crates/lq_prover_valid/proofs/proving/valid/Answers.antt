use Rattle.std.proofs.Common.{IfOk, OnOk, Result, Ok, Err}
use Rattle.lq_prover_proof_tree.specs.Trees.TreeView.{tree_view}
use Rattle.lq_prover_proof_tree.specs.declared.trees.tree.ProofTree.{ProofTree}
use Rattle.lq_logic_predicates.specs.ClosedImplication.{terms_in}
use Rattle.lq_logic_predicates.specs.PredView.{implication_of}
use Rattle.lq_prover_valid.specs.Answers.{IfValid, ProvesImplication}
use Rattle.lq_prover_valid.specs.declared.answer.Answer.{Answer}
use Rattle.lq_prover_valid.specs.declared.answer.Answer.TheVariants.{Valid, Fails}
use Rattle.lq_prover_valid.proofs.Stopped.{reading_small, reading_stops}
use Rattle.lq_prover_valid.proofs.proving.valid.Goals as goal

map_valid : {E D Q : Type 0} (P : ProofTree → Type 0) (r : Result Answer E) → (D → (t : ProofTree) → P t → Q) → OnOk r D → IfOk r (λ answer. IfValid answer P)
    → IfOk r (λ answer. IfValid answer (λ t. Q))
map_valid {E} {D} {Q} P (Ok (Valid t)) f d h = f d t h
map_valid {E} {D} {Q} P (Ok (Fails p)) f d h = tt
map_valid {E} {D} {Q} P (Err e) f d h = tt

ok_given : {X E D : Type 0} (r : Result X E) → D → OnOk r D
ok_given {X} {E} {D} (Ok x) d = d
ok_given {X} {E} {D} (Err e) d = tt

pub returns-in-Ok-clause-valid : goal.returns-in-Ok-clause-valid
returns-in-Ok-clause-valid c =
    let i = implication_of c.args.implication.now in
    map_valid (λ t. ProvesImplication i (tree_view t)) c.prove.result
    (λ d t p. c.proved_implications_are_valid.ensures.valid (terms_in i) i p.path (tree_view t) d p.opening p.proves) (ok_given c.prove.result c.in-Ok.ensures.distinct)
    c.prove.ensures.tree

pub returns-in-Err-clause-stop : goal.returns-in-Err-clause-stop
returns-in-Err-clause-stop c = reading_stops c.args.limit (implication_of c.args.implication.now) c.in-Err.stop c.in-Err.ensures.stop

pub returns-in-Err-clause-small : goal.returns-in-Err-clause-small
returns-in-Err-clause-small c = λ small. (reading_small (implication_of c.args.implication.now) c.in-Err.stop c.in-Err.ensures.stop).0

pub returns-in-Err-clause-fits : goal.returns-in-Err-clause-fits
returns-in-Err-clause-fits c = λ small. (reading_small (implication_of c.args.implication.now) c.in-Err.stop c.in-Err.ensures.stop).1
