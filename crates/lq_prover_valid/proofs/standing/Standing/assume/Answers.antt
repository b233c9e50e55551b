use Rattle.lq_logic_predicates.specs.NnfView.{nnf_view}
use Rattle.lq_prover_search.specs.Search.SearchPath.{Always, scope_of}
use Rattle.lq_prover_search.proofs.SearchLemmas.Ready.{ready_back}
use Rattle.lq_prover_valid.proofs.Assumed.{IsCut, cut_back, open_back, open_taken}
use Rattle.lq_prover_valid.proofs.standing.Standing.assume.Goals as goal

pub returns-in-Some-clause-standing : goal.returns-in-Some-clause-standing
returns-in-Some-clause-standing c =
    let s = scope_of c.args.self.now.givens in
    let p = c.args.self.now.path in
    let q = c.take_reading.new.path in
    let r = c.back_to.new.self in
    let cut : IsCut p q r = record {
      facts = c.counts-before.result.facts;
      choices = c.counts-before.result.choices;
      facts_are = c.counts-before.ensures.facts;
      choices_are = c.counts-before.ensures.choices;
      kept_facts = c.back_to.ensures.facts;
      kept_choices = c.back_to.ensures.choices;
      pairs = c.back_to.ensures.pairs;
      limits = c.back_to.ensures.limits;
    } in
    let back = cut_back p q r c.in_ok-leaf.ensures.longer cut in
    record {
      given = c.requires.standing.given;
      ready = ready_back Always s c.args.self.now.givens.pairs.now p r c.requires.standing.ready back;
      open_still = open_back p r back c.requires.standing.open_still;
    }

pub returns-in-None-clause-standing : goal.returns-in-None-clause-standing
returns-in-None-clause-standing c =
    let s = scope_of c.args.self.now.givens in
    let e = c.in_ok-leaf.ensures in
    record {
      given = c.requires.standing.given;
      ready = rw c.in-None.is at e.ready;
      open_still = open_taken s (nnf_view c.args.reading.now) c.args.self.now.path c.take_reading.new.path (rw c.in-None.is at e.taken) c.requires.standing.open_still;
    }
