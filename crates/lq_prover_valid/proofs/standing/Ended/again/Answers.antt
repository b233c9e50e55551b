use Rattle.std.proofs.Common.{◌∙◌, sym, subst}
use Rattle.lq_prover_search.specs.Search.SearchPath.{AreGiven, IsReady, scope_of}
use Rattle.lq_prover_search.proofs.SearchLemmas.Ready.{IsReopened, ready_reopened}
use Rattle.lq_prover_search.proofs.SearchLemmas.Reaching.{hands_more}
use Rattle.lq_prover_valid.proofs.Assumed.{goes_back}
use Rattle.lq_prover_valid.proofs.standing.Ended.again.Goals as goal

pub returns : goal.returns
returns c asked old standing b =
    let s = scope_of old.givens in
    let pairs = old.givens.pairs.now in
    let p = old.path in
    let q = c.args.self.path in
    let r = c.reopen.new.self in
    let e = c.reopen.ensures in
    let is : IsReopened p r = goes_back p q r c.args.self.before.facts c.args.self.before.choices b.facts b.choices b.kept b.begins.choices b.begins.are_choices
    (b.pairs ∙ sym standing.ready.pairs_are) e.facts e.choices e.pairs e.open_still e.limits in
    record {
      standing = record {
        given = subst (λ g. AreGiven (scope_of g) g.pairs.now) (sym b.givens) standing.given;
        ready = subst (λ g. IsReady (scope_of g) g.pairs.now r) (sym b.givens) (ready_reopened s pairs p r standing.ready is);
        open_still = e.open_still;
      };
      givens = b.givens;
      facts = is.facts;
      choices = is.choices_are;
      limits = is.limits;
      handed = hands_more asked s pairs p q r b.handed e.handed;
    }
