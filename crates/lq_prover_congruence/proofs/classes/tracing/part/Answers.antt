-- A hop less on both sides.
use Rattle.std.proofs.Common.{◌≡◌, ◌-◌, List, [], ◌∷◌, ◌++◌, length, Some, sym, ◌∙◌, subst}
use Rattle.std.specs.List.{slice_get}
use Rattle.lq_prover_congruence.specs.Classes.Ways.{Meets}
use Rattle.lq_prover_congruence.specs.declared.classes.tracing.Hop.{Hop}
use Rattle.lq_prover_congruence.proofs.ClassesLemmas.Lasts.{taken-off}
use Rattle.lq_prover_congruence.proofs.ClassesLemmas.Routes.{meets-front}
use Rattle.lq_prover_congruence.proofs.classes.tracing.part.Goals as goal

pub loop-hop-preserved : goal.loop-hop-preserved
loop-hop-preserved c = λ f a b m.
    let left = c.loop-hop.left in
    let hop = c.in-Some.hop in
    let P : List Hop → Type 0 = λ hs. slice_get hs (length hs - 1) ≡ Some hop in
    let last = subst P c.deref.ensures.value (sym c.last.ensures.value ∙ sym c.copied.ensures ∙ c.in-Some.is) in
    let off = taken-off left.items c.pop.new.self.items hop left.len last left.ok.0 c.pop.ensures.rest in
    let Q : List Hop → Type 0 = λ hs. Meets f a hs b c.loop-hop.right.items in
    let R : List Hop → Type 0 = λ hs. Meets f a (c.pop.new.self.items ++ hop ∷ []) b hs in
    meets-front f a b c.pop.new.self.items c.take_hop.new.hops.items hop (subst R (c.take_hop.ensures.taken c.if-not-take_hop.false) (subst Q off (c.loop-hop.invariant f a b m)))

pub returns-then-not-take_hop : goal.returns-then-not-take_hop
returns-then-not-take_hop c = λ f a b m.
    let P : List Hop → Type 0 = λ hs. Meets f a c.loop-hop.left.items b hs in
    subst P (sym (c.take_hop.ensures.stays c.if-not-take_hop.true)) (c.loop-hop.invariant f a b m)
