use Rattle.std.proofs.Common.{◌^◌, ◌∙◌, sym}
use Rattle.lq_refined_substitution.specs.Substitution.Placed.{patterns_of}
use Rattle.lq_refined_substitution.proofs.SubstitutionLemmas.Placing.{get-first, get-last, last-fits}
use Rattle.lq_refined_substitution.proofs.substitution.places.Places.get.Goals as goal

pub place_from-requires : goal.place_from-requires
place_from-requires c =
    let self = c.args.self.now in
    last-fits (patterns_of self) self.alone.items self.copies.items c.args.unknown self.placed c.in-Some.copies (2 ^ 64) c.in-Some.ensures c.ranges.unknown.fits

pub returns-in-Some : goal.returns-in-Some
returns-in-Some c =
    let self = c.args.self.now in
    c.place_from.ensures
    ∙ sym (get-last (patterns_of self) self.alone.items self.copies.items c.args.unknown self.placed c.in-Some.copies c.in-Some.ensures)

pub returns-in-None : goal.returns-in-None
returns-in-None c =
    let self = c.args.self.now in
    c.alone_at.ensures ∙ sym (get-first (patterns_of self) self.alone.items self.copies.items c.args.unknown self.placed c.in-None.ensures)
