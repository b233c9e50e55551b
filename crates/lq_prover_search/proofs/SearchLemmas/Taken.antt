-- Literals that are taken as facts, one after the other.
use Rattle.std.proofs.Common.{◌≡◌, ◌∙◌, ℕ, ◌+◌, List, [], ◌∷◌, ◌++◌, All, false, take, refl, sym, ap, subst, append_assoc, append-nil}
use Rattle.std.proofs.lemmas.List.{map-append}
use Rattle.std.proofs.lemmas.List.Elements.{All-append, All-map, All-nil}
use Rattle.lq_prover_proof_tree.specs.Trees.Path.{Fact}
use Rattle.lq_prover_proof_tree.specs.Trees.Tree.{Tree}
use Rattle.lq_prover_case.specs.Equations.Equating.{Grows}
use Rattle.lq_prover_case.specs.Equations.Naming.{AllTold, IsTold, SaysMore}
use Rattle.lq_prover_case.proofs.EquationsLemmas.Sides.{parted}
use Rattle.lq_prover_case.proofs.EquationsLemmas.Told.{all_told_push}
use Rattle.lq_logic_rows.specs.Row.{Row}
use Rattle.lq_prover_case.specs.declared.objects.fact.ObjectFact.{ObjectFact}
use Rattle.lq_prover_search.specs.Path.SearchPath.{IsLeafOf, choices_of}
use Rattle.lq_prover_search.specs.declared.path.choice.Choice.{Choice}
use Rattle.lq_prover_search.proofs.PathLemmas.Leaves.{ClashesStay, leaf_stays}
use Rattle.lq_logic_predicates.specs.NnfView.{nnfs_view}
use Rattle.lq_logic_predicates.specs.Reading.{Readings}
use Rattle.lq_logic_predicates.specs.Sum.{Sum}
use Rattle.lq_prover_search.specs.Search.Parts.{AddsOpen, facts_of, part_fact, path_with}
use Rattle.lq_prover_search.specs.Search.Scope.{AllMayHold, AreWithin, MayHold, Scope}
use Rattle.lq_prover_search.specs.Search.SearchPath.{ways_of}
use Rattle.lq_prover_search.specs.declared.search.pair.Pair.{Pair}
use Rattle.lq_prover_search.specs.declared.search.parts.Part.{Part}
use Rattle.lq_prover_search.proofs.SearchLemmas.Within.{All-unmap}

pub grows_itself : (fs : List Fact) → Grows fs fs
grows_itself fs = record { more = []; is = sym (append-nil fs) }

pub grows_then : (a b c : List Fact) → Grows a b → Grows b c → Grows a c
grows_then a b c g h = record { more = g.more ++ h.more; is = h.is ∙ ap (λ l. l ++ h.more) g.is ∙ append_assoc a g.more h.more }

pub may_hold_push : (fs : List Fact) (f : Fact) → AllMayHold fs → MayHold f → AllMayHold (fs ++ f ∷ [])
may_hold_push [] f h m = (m, tt)
may_hold_push (x ∷ fs) f h m = (h.0, may_hold_push fs f h.1 m)

-- what is told stays, and of one fact more
pub told_next : (objects : List Sum) (old new : List ObjectFact) (fs gs : List Fact) (f : Fact) → SaysMore old new → IsTold objects new f → gs ≡ fs ++ f ∷ [] → AllTold objects old fs
    → AllTold objects new gs
told_next objects old new fs gs f m n e h = subst (AllTold objects new) (sym e) (all_told_push objects old new fs f m h n)

leaf_more : ClashesStay → (front rest : List Fact) (choices : List (Readings Row)) (t : Tree) → IsLeafOf (path_with front choices) t → IsLeafOf (path_with (front ++ rest) choices) t
leaf_more stay front rest choices t l =
    leaf_stays stay (path_with front choices) (path_with (front ++ rest) choices) t l (record { facts = rest; choices = []; are_facts = refl; are_choices = sym (append-nil choices) })

-- a leaf of the path with the first literals is one with all
pub leaf_of_first : ClashesStay → (base : List Fact) (parts : List Part) (i : ℕ) (front : List Fact) (choices : List (Readings Row)) (t : Tree)
    → front ≡ base ++ facts_of (take (i + 1) parts) → IsLeafOf (path_with front choices) t → IsLeafOf (path_with (base ++ facts_of parts) choices) t
leaf_of_first stay base parts i front choices t e l =
    let p = parted (i + 1) parts in
    let whole : base ++ facts_of parts ≡ (base ++ facts_of (take (i + 1) parts)) ++ facts_of p.0 =
    ap (λ x. base ++ facts_of x) p.1 ∙ ap (λ x. base ++ x) (map-append part_fact (take (i + 1) parts) p.0)
    ∙ sym (append_assoc base (facts_of (take (i + 1) parts)) (facts_of p.0)) in
    subst (λ fs. IsLeafOf (path_with fs choices) t) (sym whole)
    (leaf_more stay (base ++ facts_of (take (i + 1) parts)) (facts_of p.0) choices t (subst (λ fs. IsLeafOf (path_with fs choices) t) e l))

-- ---- choices

pub adds_none : (cs : List Choice) → AddsOpen cs cs
adds_none cs = record { more = []; is = sym (append-nil cs); open_still = All-nil (λ (c : Choice). c.is_done ≡ false) }

pub adds_then : (a b c : List Choice) → AddsOpen a b → AddsOpen b c → AddsOpen a c
adds_then a b c p q = record {
  more = p.more ++ q.more;
  is = q.is ∙ ap (λ l. l ++ q.more) p.is ∙ append_assoc a p.more q.more;
  open_still = All-append (λ (c : Choice). c.is_done ≡ false) p.more q.more p.open_still q.open_still;
}

-- the members of the pairs' choices
pub pairs_within : (s : Scope) (pairs : List Pair) (cs : List Choice) → choices_of cs ≡ ways_of pairs → All (λ (pair : Pair). AreWithin s (nnfs_view pair.ways)) pairs
    → All (λ (c : Choice). AreWithin s (nnfs_view c.members.now)) cs
pairs_within s pairs cs e h =
    All-unmap (AreWithin s) (λ (c : Choice). nnfs_view c.members.now) cs
    (subst (All (AreWithin s)) (sym e) (All-map (AreWithin s) (λ (pair : Pair). nnfs_view pair.ways) pairs h))
