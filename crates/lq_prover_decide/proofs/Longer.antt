-- A clash of the first facts is one of all.
use Rattle.std.proofs.Common.{◌≡◌, ℕ, suc, List, [], ◌∷◌, ◌++◌, Bool, true, false, Some, ◌==◌, if◌then◌else◌, ◌+◌, map, take, sym, ap, subst, ◌∙◌}
use Rattle.std.proofs.lemmas.List.{map-append}
use Rattle.lq_prover_case.proofs.StateLemmas.Evidence.{contradiction_more}
use Rattle.lq_prover_case.proofs.StateLemmas.Giving.{numbered_more}
use Rattle.lq_prover_proof_tree.specs.Trees.Path.{Fact, row_fact, flag_fact, objects_fact, never}
use Rattle.lq_prover_proof_tree.specs.Trees.Proves.{AreJoined, itself, onward, backward, Clashes, rows_clash, flags_clash, merges_clash, rows_from, rows_among}
use Rattle.lq_prover_proof_tree.specs.Trees.Tree.{Clash}
use Rattle.lq_prover_differences.specs.Stops.{StopsBy}
use Rattle.lq_prover_differences.specs.Table.{constants}
use Rattle.lq_logic_rows.specs.Contradiction.{tagged}
use Rattle.lq_logic_rows.specs.Row.{Row}
use Rattle.lq_logic_rows.specs.declared.engine.LinearStop.{LinearStop}
use Rattle.lq_logic_predicates.specs.Sum.{Sum}
use Rattle.lq_prover_decide.specs.Case.{fact_of}
use Rattle.lq_prover_decide.specs.declared.fact.Fact.{Fact as CodeFact}
use Rattle.lq_prover_case.proofs.EquationsLemmas.Equations.{fewer_constants, stops_at_more}
use Rattle.lq_prover_case.proofs.EquationsLemmas.Sides.{parted}

found_more : (n : ℕ) (fs more : List Fact) (t : ℕ) (r : Row) → tagged (rows_from n fs) t ≡ Some r → tagged (rows_from n (fs ++ more)) t ≡ Some r
found_more n [] more t r h = cc
found_more n (row_fact x ∷ fs) more t r h = by (n == t) (found_more (suc n) fs more t r) h
  where
    by : (b : Bool) → (tagged (rows_from (suc n) fs) t ≡ Some r → tagged (rows_from (suc n) (fs ++ more)) t ≡ Some r)
        → (if b then Some x else tagged (rows_from (suc n) fs) t) ≡ Some r → (if b then Some x else tagged (rows_from (suc n) (fs ++ more)) t) ≡ Some r
    by true rest h = h
    by false rest h = rest h
found_more n (flag_fact x sign ∷ fs) more t r h = found_more (suc n) fs more t r h
found_more n (objects_fact a b sign ∷ fs) more t r h = found_more (suc n) fs more t r h
found_more n (never ∷ fs) more t r h = found_more (suc n) fs more t r h

joined_more : (fs more : List Fact) (ts : List ℕ) (a b : Sum) → AreJoined fs ts a b → AreJoined (fs ++ more) ts a b
joined_more fs more ts a c (itself _) = itself a
joined_more fs more ts a c (onward t us _ b _ h j) = onward t us a b c (numbered_more fs more (objects_fact a b true) t h) (joined_more fs more us b c j)
joined_more fs more ts a c (backward t us _ b _ h j) = backward t us a b c (numbered_more fs more (objects_fact b a true) t h) (joined_more fs more us b c j)

pub clash_more : (fs more : List Fact) (c : Clash) → Clashes fs c → Clashes (fs ++ more) c
clash_more fs more _ (rows_clash ms h) = rows_clash ms (contradiction_more (rows_among fs) (rows_among (fs ++ more)) ms (record { each = found_more 1 fs more }) h)
clash_more fs more _ (flags_clash t u x sign g h) = flags_clash t u x sign (numbered_more fs more _ t g) (numbered_more fs more _ u h)
clash_more fs more _ (merges_clash t ts a b g j) = merges_clash t ts a b (numbered_more fs more _ t g) (joined_more fs more ts a b j)

-- a clash of the literals up to one of them
pub clash_of_first : (facts : List CodeFact) (i : ℕ) (front : List Fact) (c : Clash) → front ≡ map fact_of (take (i + 1) facts) → Clashes front c → Clashes (map fact_of facts) c
clash_of_first facts i front c e h =
    let p = parted (i + 1) facts in
    subst (λ l. Clashes l c) (sym (ap (map fact_of) p.1 ∙ map-append fact_of (take (i + 1) facts) p.0))
    (clash_more (map fact_of (take (i + 1) facts)) (map fact_of p.0) c (subst (λ l. Clashes l c) e h))

-- a stop at the first facts is one at all
pub stop_of_first : (facts : List CodeFact) (i : ℕ) (front : List Fact) (stop : LinearStop) → front ≡ map fact_of (take (i + 1) facts) → StopsBy (constants (rows_among front)) stop
    → StopsBy (constants (rows_among (map fact_of facts))) stop
stop_of_first facts i front stop e h =
    let p = parted (i + 1) facts in
    let whole : map fact_of facts ≡ map fact_of (take (i + 1) facts) ++ map fact_of p.0 = ap (map fact_of) p.1 ∙ map-append fact_of (take (i + 1) facts) p.0 in
    subst (λ l. StopsBy (constants (rows_among l)) stop) (sym whole)
    (stops_at_more (constants (rows_among (map fact_of (take (i + 1) facts)))) (constants (rows_among (map fact_of (take (i + 1) facts) ++ map fact_of p.0))) stop
    (fewer_constants 1 (map fact_of (take (i + 1) facts)) (map fact_of p.0)) (subst (λ l. StopsBy (constants (rows_among l)) stop) e h))
