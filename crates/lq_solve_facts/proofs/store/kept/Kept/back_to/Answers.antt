use Rattle.std.proofs.Common.{◌≡◌, Some, length, refl, slice_get, subst}
use Rattle.std.proofs.lemmas.Option.{slice_get_read}
use Rattle.lq_solve_facts.specs.Store.Kept.{Stands}
use Rattle.lq_solve_facts.proofs.store.kept.Kept.back_to.Goals as goal

pub returns-clause-stands : goal.returns-clause-stands
returns-clause-stands c = λ _ A es k.
    let levels = c.args.self.now.levels.items in
    let at = c.in-Some.place.now in
    let level = c.in-Some-get.level.now in
    let seen = c.deref-2.result.now in
    let here : slice_get levels at ≡ Some level =
    subst (λ l. slice_get l at ≡ Some level) c.deref-2.ensures.value
    (slice_get_read seen (length seen) at level refl c.in-Some-get.ensures.lookup.3.0 c.in-Some-get.ensures.lookup.1) in
    subst (Stands A es c.back_to_level.new.self) c.if-level-env.false (c.back_to_level.ensures.stands level here A es k)
