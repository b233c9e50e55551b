use Rattle.std.specs.Prelude.{All}
use Rattle.std.proofs.Common.{ℕ, List, ◌≤◌, sym, ap, subst}
use Rattle.lq_types_table.specs.Whole.{types_of}
use Rattle.lq_types_infer.specs.Instantiation.Matching.{AreMet}
use Rattle.lq_types_infer.proofs.InstantiationLemmas.Walking.{none_met, found_is}
use Rattle.lq_types_infer.proofs.instantiation.matching.Matching.find.Goals as goal

pub returns-clause-found : goal.returns-clause-found
returns-clause-found c = λ by b.
    let all = types_of c.args.table.now in
    let m = c.begin.new.self in
    let old = c.args.self.now.turn in
    let past =
    subst (λ (ss : List ℕ). All (λ s. s ≤ old) ss) (sym (ap (λ v. v.items) c.in_ok-begin.ensures.stamps)) c.requires.matching.past in
    let met : AreMet all by m = none_met all by m.stamps.items m.found.items old m.turn past c.in_ok-begin.ensures.turn in
    found_is all by c.walk.new.self.found.items c.args.definition c.args.used b (c.walk.ensures.walked by b met).1
