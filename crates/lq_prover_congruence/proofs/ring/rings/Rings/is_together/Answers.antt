-- The walk meets the other index exactly where both are in one ring.
use Rattle.std.proofs.Common.{eqb, refl, sym, ◌∙◌, rules, tests}
use Rattle.std.proofs.lemmas.Iterator.Consumers.{YieldsList-from_first}
use Rattle.std.proofs.lemmas.Iterator.Search.{any_from_yields_List}
use Rattle.lq_prover_congruence.proofs.RingLemmas.Walking.{any-times-of}
use Rattle.lq_prover_congruence.proofs.ring.rings.Rings.is_together.Goals as goal

pub returns : goal.returns
returns c =
    let e = any_from_yields_List (λ x. eqb x c.args.b) _ _ c.any.result c.any.ensures.ran (YieldsList-from_first (λ x. x) (λ w. w) c.walk.result refl) (λ x r q k. search (rules, tests)) in
    let a = any-times-of c.args.b c.walk.result in
    let m = c.walk.ensures.members c.args.b in
    (λ h. m.0 (a.0 (sym e ∙ h)), λ h. e ∙ a.1 (m.1 h))
