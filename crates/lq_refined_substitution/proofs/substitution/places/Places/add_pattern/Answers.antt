use Rattle.std.proofs.Common.{List, ◌∙◌, ap, is_ok, map}
use Rattle.std.proofs.lemmas.List.{map_push}
use Rattle.std.specs.declared.alloc.Global.{Global}
use Rattle.std.specs.declared.vec.Vec.{Vec}
use Rattle.lq_refined_substitution.specs.Substitution.Placed.{patterns_of}
use Rattle.lq_refined_substitution.specs.Substitution.Places.{mixed}
use Rattle.lq_refined_substitution.specs.declared.substitution.places.Inner.{Inner}
use Rattle.lq_refined_substitution.proofs.SubstitutionLemmas.Placing.{mixed-pattern, pattern-pushed}
use Rattle.lq_refined_substitution.proofs.substitution.places.Places.add_pattern.Goals as goal

pub invariant_of-self : goal.invariant_of-self
invariant_of-self c =
    let self = c.args.self.now in
    let h = pattern-pushed self.alone.items self.copies.items self.count (is_ok c.push.result) self.patterns.items c.push.new.self.items c.args.inner
    c.push.ensures.items (self.placed, self.counted) in
    record { placed = h.0; counted = h.1 }

pub returns-clause-places : goal.returns-clause-places
returns-clause-places c =
    let self = c.args.self.now in
    ap (λ (ps : List (List Inner)). mixed ps self.alone.items 0 self.copies.items)
    (ap (map (λ (v : Vec Inner Global). v.items)) c.in_ok-push.ensures.items ∙ map_push (λ (v : Vec Inner Global). v.items) self.patterns.items c.args.inner)
    ∙ mixed-pattern (patterns_of self) self.alone.items c.args.inner.items 0 0 self.copies.items self.placed
