use Rattle.std.proofs.Common.{length, subst, sym, All, List}
use Rattle.lq_refined_substitution.specs.Substitution.Placed.{places_of}
use Rattle.lq_refined_substitution.specs.Substitution.Places.{AreInner, IsThere}
use Rattle.lq_refined_substitution.specs.Substitution.Views.{scope_lists}
use Rattle.lq_refined_substitution.specs.declared.substitution.places.Inner.{Inner}
use Rattle.lq_refined_substitution.specs.declared.substitution.places.Place.TheVariants.{Alone}
use Rattle.lq_refined_substitution.proofs.SubstitutionLemmas.Copying.{all-pushed, alone-there}
use Rattle.lq_refined_substitution.proofs.substitution.scopes.Scopes.add_unknown.Goals as goal

pub invariant_of-self : goal.invariant_of-self
invariant_of-self c =
    let self = c.args.self.now in
    let n = length (scope_lists self) in
    let e = c.push.ensures in
    record {
      there = all-pushed (IsThere n) c.push.result (places_of self.places) (places_of c.push.new.self) (Alone c.args.scope) e.added e.kept self.there
          (alone-there n c.args.scope c.requires);
      inner = subst (λ (l : List (List Inner)). All (AreInner n) l) (sym e.patterns) self.inner;
    }
