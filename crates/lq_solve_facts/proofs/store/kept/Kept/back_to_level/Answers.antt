use Rattle.std.proofs.Common.{◌≡◌, Some, length, refl, slice_get, sym, subst}
use Rattle.std.proofs.lemmas.Option.{slice_get_read}
use Rattle.lq_solve_facts.specs.Store.Kept.{AreRight, AreThere}
use Rattle.lq_solve_facts.specs.Store.Places.{formula_at}
use Rattle.lq_solve_facts.proofs.StoreLemmas.Readings.{stored_same}
use Rattle.lq_solve_facts.proofs.StoreLemmas.Levels.{IsBackTo, back_here, right_back, there_back}
use Rattle.lq_solve_facts.proofs.store.kept.Kept.back_to_level.Goals as goal

pub returns-clause-kept : goal.returns-clause-kept
returns-clause-kept c = λ A es k.
    let levels = c.args.self.now.levels.items in
    let level = c.index-level.result.now in
    let here : slice_get levels c.args.at ≡ Some level = slice_get_read levels (length levels) c.args.at level refl c.requires c.index-level.ensures in
    let back : IsBackTo level c.args.self.now.known c.back_to.new.self = record {
      count = c.back_to.ensures.count;
      hold = c.back_to.ensures.hold;
      first = c.back_to.ensures.first;
      readings = c.back_to.ensures.readings;
      terms = c.back_to.ensures.terms;
    } in
    subst (AreRight A es c.back_to.new.self) (sym c.truncate.ensures.items) (right_back A es c.args.self.now.known c.back_to.new.self levels c.args.at level here back k)

pub returns-clause-stands : goal.returns-clause-stands
returns-clause-stands c = λ l e A es k.
    let levels = c.args.self.now.levels.items in
    let level = c.index-level.result.now in
    let here : slice_get levels c.args.at ≡ Some level = slice_get_read levels (length levels) c.args.at level refl c.requires c.index-level.ensures in
    let back : IsBackTo level c.args.self.now.known c.back_to.new.self = record {
      count = c.back_to.ensures.count;
      hold = c.back_to.ensures.hold;
      first = c.back_to.ensures.first;
      readings = c.back_to.ensures.readings;
      terms = c.back_to.ensures.terms;
    } in
    subst (λ ls. AreThere A es c.back_to.new.self ls l.env) (sym c.truncate.ensures.items)
    (there_back A es c.args.self.now.known c.back_to.new.self levels c.args.at l e (back_here c.args.self.now.known c.back_to.new.self levels c.args.at level l here e back) k)

pub returns-clause-stored : goal.returns-clause-stored
returns-clause-stored c = λ I es cs h. stored_same (formula_at I es cs) c.args.self.now.known c.back_to.new.self c.args.self.now.store c.back_to.ensures.terms h
