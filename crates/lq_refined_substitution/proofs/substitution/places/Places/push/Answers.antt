use Rattle.std.proofs.Common.{List, ℕ, [], ◌∷◌, length, ap, sym, subst, ◌∙◌, arith}
use Rattle.std.proofs.lemmas.List.{length-append}
use Rattle.lq_refined_substitution.specs.Substitution.Placed.{patterns_of}
use Rattle.lq_refined_substitution.specs.Substitution.Places.{mixed, ArePlaced}
use Rattle.lq_refined_substitution.specs.declared.substitution.places.Place.TheVariants.{Alone}
use Rattle.lq_refined_substitution.proofs.SubstitutionLemmas.Placing.{mixed-alone, placed-alone}
use Rattle.lq_refined_substitution.proofs.substitution.places.Places.push.Goals as goal

pub invariant_of-self-2 : goal.invariant_of-self-2
invariant_of-self-2 c =
    let self = c.args.self.now in
    let ps = patterns_of self in
    let cs = self.copies.items in
    let s = c.args.scope in
    let items = c.in_ok-push.ensures.items in
    let one = length-append (mixed ps self.alone.items 0 cs) (Alone s ∷ []) in
    let count = c.in-Some.ensures in
    let counted = self.counted in
    record {
      placed = subst (λ (l : List ℕ). ArePlaced ps (length l) 0 0 cs) (sym items) (placed-alone ps self.alone.items s 0 0 cs self.placed);
      counted = omega (arith, count.1, counted, one, ap length (ap (λ (l : List ℕ). mixed ps l 0 cs) items ∙ mixed-alone ps self.alone.items s 0 0 cs self.placed));
    }

pub returns-clause-added : goal.returns-clause-added
returns-clause-added c =
    let self = c.args.self.now in
    let ps = patterns_of self in
    ap (λ (l : List ℕ). mixed ps l 0 self.copies.items) c.in_ok-push.ensures.items
    ∙ mixed-alone ps self.alone.items c.args.scope 0 0 self.copies.items self.placed
