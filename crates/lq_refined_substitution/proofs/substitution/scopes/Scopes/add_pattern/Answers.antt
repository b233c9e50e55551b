use Rattle.std.proofs.Common.{length, subst, sym, All, List}
use Rattle.lq_refined_substitution.specs.Substitution.Placed.{patterns_of}
use Rattle.lq_refined_substitution.specs.Substitution.Places.{AreInner, IsThere}
use Rattle.lq_refined_substitution.specs.Substitution.Views.{scope_lists}
use Rattle.lq_refined_substitution.specs.declared.substitution.places.Place.{Place}
use Rattle.lq_refined_substitution.proofs.SubstitutionLemmas.Copying.{all-pushed}
use Rattle.lq_refined_substitution.proofs.substitution.scopes.Scopes.add_pattern.Goals as goal

pub invariant_of-self : goal.invariant_of-self
invariant_of-self c =
    let self = c.args.self.now in
    let n = length (scope_lists self) in
    let e = c.add_pattern.ensures in
    record {
      there = subst (λ (l : List Place). All (IsThere n) l) (sym e.places) self.there;
      inner = all-pushed (AreInner n) c.add_pattern.result (patterns_of self.places) (patterns_of c.add_pattern.new.self) c.args.inner.items e.added e.kept
          self.inner c.requires;
    }
