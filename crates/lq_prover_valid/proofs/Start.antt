-- A path without facts and choices, on which no way of a pair was taken.
use Rattle.std.proofs.Common.{◌≡◌, ℕ, List, [], All, false, length, sym, ap, ap₂, subst, ◌∙◌, arith}
use Rattle.std.proofs.lemmas.List.Elements.{All-nil, All-same}
use Rattle.lq_prover_case.specs.State.PathState.{PathState, facts_in, objects_in}
use Rattle.lq_prover_case.specs.State.RowState.{terms_of as row_terms}
use Rattle.lq_prover_proof_tree.specs.Trees.Path.{nothing}
use Rattle.lq_prover_proof_tree.specs.Trees.Proves.{rows_among}
use Rattle.lq_prover_differences.specs.Table.{constants}
use Rattle.lq_prover_case.specs.Equations.Naming.{AllTold, name_in}
use Rattle.lq_prover_case.proofs.EquationsLemmas.Told.{all_told_none}
use Rattle.lq_prover_search.specs.Path.SearchPath.{choices_of}
use Rattle.lq_prover_search.specs.declared.path.choice.Choice.{Choice}
use Rattle.lq_logic_predicates.specs.NnfView.{nnfs_view}
use Rattle.lq_logic_predicates.specs.Sum.{Sum}
use Rattle.lq_prover_search.specs.Search.Scope.{AllMayHold, AreWithin, Scope}
use Rattle.lq_prover_search.specs.Search.SearchPath.{IsMet, IsReady, path_of, ways_of}
use Rattle.lq_prover_search.specs.Search.Sizes.{most_of_each}
use Rattle.lq_prover_search.specs.Search.Stopping.{most_on, most_open}
use Rattle.lq_prover_search.specs.declared.search.pair.Pair.{Pair}
use Rattle.lq_prover_search.specs.declared.search.search_path.SearchPath.{SearchPath}
use Rattle.lq_prover_search.proofs.SearchLemmas.Ready.{open_met}
use Rattle.lq_prover_search.proofs.SearchLemmas.Sizes.{most_open-open}

pub record IsStart (s : Scope) (pairs : List Pair) (p : SearchPath) : Type 0 where
  pub facts : (name : ℕ → Sum) → facts_in name p.state ≡ []
  pub terms_are : row_terms p.state.rows ≡ length s.terms
  pub count : p.state.objects.count ≡ length s.objects
  pub choices_are : p.choices.items ≡ []
  pub pairs_are : choices_of p.pairs.items ≡ ways_of pairs
  pub open_still : All (λ (c : Choice). c.is_done ≡ false) p.pairs.items

pub start_by : (s : Scope) (pairs : List Pair) (state : PathState) (p : SearchPath) → p.state ≡ state → ((name : ℕ → Sum) → facts_in name state ≡ []) → row_terms state.rows ≡ length s.terms
    → state.objects.count ≡ length s.objects → p.choices.items ≡ [] → choices_of p.pairs.items ≡ ways_of pairs → All (λ (c : Choice). c.is_done ≡ false) p.pairs.items → IsStart s pairs p
start_by s pairs state p e facts terms count choices ways still = record {
  facts = λ name. ap (λ (x : PathState). facts_in name x) e ∙ facts name;
  terms_are = ap (λ (x : PathState). row_terms x.rows) e ∙ terms;
  count = ap (λ (x : PathState). x.objects.count) e ∙ count;
  choices_are = choices;
  pairs_are = ways;
  open_still = still;
}

pub start_path : (s : Scope) (pairs : List Pair) (p : SearchPath) → IsStart s pairs p → path_of s p ≡ nothing
start_path s pairs p h = ap₂ (λ f c. record { facts = f; choices = c }) (h.facts (name_in s.objects)) (ap choices_of h.choices_are)

pub start_ready : (s : Scope) (pairs : List Pair) (p : SearchPath) → IsStart s pairs p → IsReady s pairs p
start_ready s pairs p h = record {
  terms_are = h.terms_are;
  count = h.count;
  may_hold = subst AllMayHold (sym (h.facts (name_in s.objects))) tt;
  choices_in = All-same (λ (c : Choice). AreWithin s (nnfs_view c.members.now)) p.choices.items [] h.choices_are (All-nil (λ (c : Choice). AreWithin s (nnfs_view c.members.now)));
  pairs_are = h.pairs_are;
  told = subst (AllTold s.objects (objects_in p.state)) (sym (h.facts (name_in s.objects))) (all_told_none s.objects (objects_in p.state));
  covered = λ v q given hold choices pairs_met. record {
    choices_are = All-same (IsMet v q) p.choices.items [] h.choices_are (All-nil (IsMet v q));
    pairs_are = open_met v q p.pairs.items h.open_still pairs_met;
  };
}

-- only the ways of pairs are still to be taken
pub start_most : (s : Scope) (pairs : List Pair) (p : SearchPath) → IsStart s pairs p → most_on s p ≡ most_of_each (ways_of pairs)
start_most s pairs p h =
    let a = ap (λ l. constants (rows_among l)) (h.facts (name_in s.objects)) in
    let b = ap most_open h.choices_are in
    let c = most_open-open p.pairs.items h.open_still in
    let d = ap most_of_each h.pairs_are in omega (arith, a, b, c, d)
