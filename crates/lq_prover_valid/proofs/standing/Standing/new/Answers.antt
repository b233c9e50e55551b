use Rattle.std.proofs.Common.{◌≡◌, ◌∙◌, [], false, ap, subst, sym}
use Rattle.std.proofs.lemmas.List.Elements.{All-nil, All-same}
use Rattle.lq_prover_case.specs.State.PathState.{HasHanded, PathState}
use Rattle.lq_prover_search.specs.declared.path.choice.Choice.{Choice}
use Rattle.lq_prover_search.specs.Search.SearchPath.{scope_of}
use Rattle.lq_prover_valid.proofs.Start.{start_by, start_most, start_path, start_ready}
use Rattle.lq_prover_valid.proofs.standing.Standing.new.Goals as goal

pub returns-clause-standing : goal.returns-clause-standing
returns-clause-standing c =
    let s = scope_of c.args.givens in
    let pairs = c.args.givens.pairs.now in
    let a = c.in_ok-state.ensures in
    let e = c.in_ok-path.ensures in
    let is = start_by s pairs c.in_ok-state.state c.in_ok-path.path e.state a.facts a.terms a.count e.choices e.pairs e.open_still in
    record {
      given = c.requires.given;
      ready = start_ready s pairs c.in_ok-path.path is;
      open_still = record { choices_are = All-same (λ (x : Choice). x.is_done ≡ false) c.in_ok-path.path.choices.items [] e.choices (All-nil (λ (x : Choice). x.is_done ≡ false)); pairs_are = e.open_still };
    }

pub returns-clause-nothing : goal.returns-clause-nothing
returns-clause-nothing c =
    let s = scope_of c.args.givens in
    let pairs = c.args.givens.pairs.now in
    let a = c.in_ok-state.ensures in
    let e = c.in_ok-path.ensures in
    let is = start_by s pairs c.in_ok-state.state c.in_ok-path.path e.state a.facts a.terms a.count e.choices e.pairs e.open_still in
    start_path s pairs c.in_ok-path.path is

pub returns-clause-sizes : goal.returns-clause-sizes
returns-clause-sizes c =
    let s = scope_of c.args.givens in
    let pairs = c.args.givens.pairs.now in
    let a = c.in_ok-state.ensures in
    let e = c.in_ok-path.ensures in
    let is = start_by s pairs c.in_ok-state.state c.in_ok-path.path e.state a.facts a.terms a.count e.choices e.pairs e.open_still in
    start_most s pairs c.in_ok-path.path is

pub returns-clause-limit : goal.returns-clause-limit
returns-clause-limit c = ap (λ (x : PathState). x.rows.pivots) c.in_ok-path.ensures.state ∙ c.in_ok-state.ensures.limit

pub returns-clause-handed : goal.returns-clause-handed
returns-clause-handed c = subst (λ (x : PathState). HasHanded x []) (sym c.in_ok-path.ensures.state) c.in_ok-state.ensures.handed
