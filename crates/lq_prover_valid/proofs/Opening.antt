-- The opening path of an implication is that of all of its readings.
use Rattle.std.proofs.Common.{◌≡◌, List, [], ◌∷◌, ◌++◌, All, true, false, refl, sym, ap, subst, ◌∙◌}
use Rattle.std.proofs.lemmas.List.Elements.{All-append}
use Rattle.lq_prover_proof_tree.specs.Trees.Path.{AreReadings, IsOpening, Path, each_taken, list_taken, nothing, taken}
use Rattle.lq_logic_rows.specs.Row.{Row}
use Rattle.lq_prover_proof_tree.specs.Literals.Gathered.{PredicatesGather}
use Rattle.lq_prover_proof_tree.proofs.LiteralsLemmas.Fits.{all_left, all_right, fit}
use Rattle.lq_logic_predicates.specs.ClosedImplication.{ClosedImplication}
use Rattle.lq_logic_predicates.specs.Comparison.{CanGather}
use Rattle.lq_logic_predicates.specs.Formula.{Formula}
use Rattle.lq_logic_predicates.specs.Literals.{each_literals, literals_of, negative, positive}
use Rattle.lq_logic_predicates.specs.NnfView.{readings_of}
use Rattle.lq_logic_predicates.specs.Reading.{AllFitIn, Gathers, Reading, reading_of}
use Rattle.lq_logic_predicates.specs.Sum.{Sum}
use Rattle.lq_prover_search.specs.Search.Scope.{AreWithin, IsWithin, Scope}
use Rattle.lq_prover_valid.specs.Openings.{IsOpeningReading}
use Rattle.lq_prover_valid.proofs.Naming.{EachHasNames, ImplicationHasNames, RowsAreWithin, reading_within}

each_list : (p : Path) (rs : List (Reading Row)) → each_taken p (readings_of rs) ≡ list_taken p rs
each_list p [] = refl
each_list p (r ∷ rs) = each_list (taken p r) rs

pub is_opening : (terms : List Sum) (i : ClosedImplication) (reading : Reading Row) → IsOpeningReading terms i reading → IsOpening terms i (taken nothing reading)
is_opening terms i reading o = record {
  hypotheses = o.hypotheses;
  goal = o.goal;
  are_hypotheses = o.are_hypotheses;
  is_goal = o.is_goal;
  is = ap (taken nothing) o.is ∙ ap (λ p. taken p o.goal) (each_list nothing o.hypotheses);
}

pub readings_push : (terms : List Sum) (ps : List Formula) (rs : List (Reading Row)) (p : Formula) (r : Reading Row) → AreReadings terms ps rs → Gathers terms (reading_of true p) r
    → AreReadings terms (ps ++ p ∷ []) (rs ++ r ∷ [])
readings_push terms [] [] p r a g = (g, tt)
readings_push terms (q ∷ ps) (x ∷ rs) p r a g = (a.0, readings_push terms ps rs p r a.1 g)
readings_push terms [] (x ∷ rs) p r a g = absurd a
readings_push terms (q ∷ ps) [] p r a g = absurd a

-- the literals of one predicate more
pub literals_push : (ps : List Formula) (p : Formula) → All CanGather (each_literals ps) → AllFitIn (reading_of true p) → All CanGather (each_literals (ps ++ p ∷ []))
literals_push [] p h f = All-append CanGather (literals_of positive p) [] ((fit p).as_true.1 f) h
literals_push (q ∷ ps) p h f =
    All-append CanGather (literals_of positive q) (each_literals (ps ++ p ∷ [])) (all_left CanGather (literals_of positive q) (each_literals ps) h)
    (literals_push ps p (all_right CanGather (literals_of positive q) (each_literals ps) h) f)

-- and those of the negated goal
pub predicates_gather : (i : ClosedImplication) → All CanGather (each_literals i.hypotheses) → AllFitIn (reading_of false i.goal) → PredicatesGather i
predicates_gather i h f = All-append CanGather (each_literals i.hypotheses) (literals_of negative i.goal) h ((fit i.goal).as_false.1 f)

each_within : RowsAreWithin → (s : Scope) (ps : List Formula) (rs : List (Reading Row)) → EachHasNames s ps → AreReadings s.terms ps rs → AreWithin s (readings_of rs)
each_within w s [] [] h a = tt
each_within w s (p ∷ ps) (r ∷ rs) h a = (reading_within w s true p r h.0 a.0, each_within w s ps rs h.1 a.1)
each_within w s [] (r ∷ rs) h a = absurd a
each_within w s (p ∷ ps) [] h a = absurd a

pub opening_within : RowsAreWithin → (s : Scope) (i : ClosedImplication) (reading : Reading Row) → ImplicationHasNames s i → IsOpeningReading s.terms i reading → IsWithin s reading
opening_within w s i reading h o =
    subst (IsWithin s) (sym o.is) (each_within w s i.hypotheses o.hypotheses h.hypotheses o.are_hypotheses, (reading_within w s false i.goal o.goal h.goal o.is_goal, tt))
