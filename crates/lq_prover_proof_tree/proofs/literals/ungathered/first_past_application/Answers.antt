use Rattle.std.proofs.Common.{All, Result, Ok, Err, Option, Some, None, IfOk, IfSome, IfNone, map, subst}
use Rattle.std.proofs.lemmas.List.Elements.{All-append}
use Rattle.lq_prover_proof_tree.specs.Literals.Gathered.{AllGathered, IsFirstPast}
use Rattle.lq_prover_proof_tree.specs.Literals.Leaves.{leaves_in}
use Rattle.lq_prover_proof_tree.specs.Literals.Sources.{Source, leaf_source, row_source}
use Rattle.lq_prover_proof_tree.proofs.LiteralsLemmas.Fits.{predicates_gathered, sources_gathered}
use Rattle.lq_prover_proof_tree.proofs.LiteralsLemmas.Leading.{first_right}
use Rattle.lq_logic_predicates.specs.ClosedImplication.{terms_in}
use Rattle.lq_logic_predicates.specs.Comparison.{CanGather}
use Rattle.lq_logic_predicates.specs.Literals.{all_pairs}
use Rattle.lq_logic_predicates.specs.PredView.{formula_of}
use Rattle.lq_prover_proof_tree.proofs.literals.ungathered.first_past_application.Goals as goal

on_some : {X E : Type 0} {P Q : X → Type 0} (r : Result (Option X) E) → ((x : X) → P x → Q x) → IfOk r (λ o. IfSome o P) → IfOk r (λ o. IfSome o Q)
on_some {X} {E} {P} {Q} (Ok (Some x)) f h = f x h
on_some {X} {E} {P} {Q} (Ok None) f h = tt
on_some {X} {E} {P} {Q} (Err e) f h = tt

on_none : {X E : Type 0} {P Q : Type 0} (r : Result (Option X) E) → (P → Q) → IfOk r (λ o. IfNone o P) → IfOk r (λ o. IfNone o Q)
on_none {X} {E} {P} {Q} (Ok (Some x)) f h = tt
on_none {X} {E} {P} {Q} (Ok None) f h = f h
on_none {X} {E} {P} {Q} (Err e) f h = tt

pub returns-clause-some : goal.returns-clause-some
returns-clause-some c =
    on_some c.first_past_pair.result
    (λ p f i e g. first_right (map leaf_source (leaves_in i)) (map row_source (all_pairs (terms_in i))) (formula_of p) (predicates_gathered i g)
    (subst (λ ts. IsFirstPast (map row_source (all_pairs ts)) (formula_of p)) e f)) c.first_past_pair.ensures.some

pub returns-clause-none : goal.returns-clause-none
returns-clause-none c =
    on_none c.first_past_pair.result
    (λ h i e g. (sources_gathered i).0 (All-append (λ (s : Source). All CanGather s.literals) (map leaf_source (leaves_in i)) (map row_source (all_pairs (terms_in i)))
    (predicates_gathered i g) (subst (λ ts. AllGathered (map row_source (all_pairs ts))) e h))) c.first_past_pair.ensures.none
