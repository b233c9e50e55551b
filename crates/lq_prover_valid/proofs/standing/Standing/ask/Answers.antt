use Rattle.std.proofs.Common.{refl, ap}
use Rattle.lq_prover_proof_tree.specs.Trees.Path.{taken}
use Rattle.lq_prover_search.specs.Path.SearchPath.{choices_of}
use Rattle.lq_prover_search.proofs.PathLemmas.Leaves.{begins_then, taken_begins}
use Rattle.lq_logic_predicates.specs.NnfView.{nnf_view}
use Rattle.lq_prover_search.specs.Search.SearchPath.{Always, path_of, scope_of}
use Rattle.lq_prover_search.proofs.SearchLemmas.Ready.{ready_back}
use Rattle.lq_prover_search.proofs.SearchLemmas.Reaching.{hands_more}
use Rattle.lq_prover_valid.proofs.Assumed.{IsCut, cut_back, kept_facts, longer_facts, open_back, ready_for}
use Rattle.lq_prover_valid.proofs.standing.Standing.ask.Goals as goal

pub search_reading-requires-clause-ready : goal.search_reading-requires-clause-ready
search_reading-requires-clause-ready c =
    ready_for (nnf_view c.args.goal.now) (scope_of c.args.self.givens) c.args.self.givens.pairs.now c.args.self.path c.requires.standing.ready

pub back_to-requires : goal.back_to-requires
back_to-requires c =
    longer_facts c.args.self.path c.in_ok-searched.searched.path c.counts-before.result.facts (rw c.in-Some.is at c.in_ok-searched.ensures.longer) c.counts-before.ensures.facts

pub returns-in-Some-clause-back : goal.returns-in-Some-clause-back
returns-in-Some-clause-back c =
    let p = c.args.self.path in
    let q = c.in_ok-searched.searched.path in
    let r = c.back_to.new.self in
    let cut : IsCut p q r = record {
      facts = c.counts-before.result.facts;
      choices = c.counts-before.result.choices;
      facts_are = c.counts-before.ensures.facts;
      choices_are = c.counts-before.ensures.choices;
      kept_facts = c.back_to.ensures.facts;
      kept_choices = c.back_to.ensures.choices;
      pairs = c.back_to.ensures.pairs;
      limits = c.back_to.ensures.limits;
    } in
    cut_back p q r (rw c.in-Some.is at c.in_ok-searched.ensures.longer) cut

pub returns-in-Some-clause-again : goal.returns-in-Some-clause-again
returns-in-Some-clause-again c =
    let s = scope_of c.args.self.givens in
    let pairs = c.args.self.givens.pairs.now in
    let p = c.args.self.path in
    let q = c.in_ok-searched.searched.path in
    let r = c.back_to.new.self in
    let back = returns-in-Some-clause-back c in
    record {
      standing = record {
        given = c.requires.standing.given;
        ready = ready_back Always s pairs p r c.requires.standing.ready back;
        open_still = open_back p r back c.requires.standing.open_still;
      };
      givens = refl;
      facts = back.facts;
      choices = ap choices_of back.choices_are;
      limits = back.limits;
      handed = hands_more (nnf_view c.args.goal.now) s pairs p q r (rw c.in-Some.is at c.in_ok-searched.ensures.handed) c.back_to.ensures.handed;
    }

pub returns-in-None-clause-begins : goal.returns-in-None-clause-begins
returns-in-None-clause-begins c =
    let s = scope_of c.args.self.givens in
    let p = path_of s c.args.self.path in
    let g = nnf_view c.args.goal.now in
    let q = c.in_ok-searched.searched.path in
    let met = rw c.in-None.is at c.in_ok-searched.ensures.met in
    let reached = rw c.in-None.is at c.in_ok-searched.ensures.reached in
    record {
      givens = refl;
      facts = c.counts-before.ensures.facts;
      choices = c.counts-before.ensures.choices;
      begins = begins_then p (taken p g) (path_of s q) (taken_begins p g) met.begins;
      pairs = met.settled.ready.pairs_are;
      kept = reached.kept;
      handed = reached.handed;
    }

pub returns-in-None-clause-can_go_back : goal.returns-in-None-clause-can_go_back
returns-in-None-clause-can_go_back c =
    let reached = rw c.in-None.is at c.in_ok-searched.ensures.reached in
    kept_facts c.args.self.path c.in_ok-searched.searched.path c.counts-before.result.facts reached.kept c.counts-before.ensures.facts
