use Rattle.std.proofs.Common.{length, map, slice_index_or, subst, sym, All, [], List}
use Rattle.lq_refined_substitution.specs.Substitution.Placed.{patterns_of, places_of}
use Rattle.lq_refined_substitution.specs.Substitution.Places.{inner_place, AreInner, IsThere}
use Rattle.lq_refined_substitution.specs.Substitution.Views.{scope_lists}
use Rattle.lq_refined_substitution.specs.declared.substitution.places.Inner.{Inner}
use Rattle.lq_refined_substitution.proofs.SubstitutionLemmas.Copying.{all-appended, copies-there, lists-added-ok, pattern-there}
use Rattle.lq_refined_substitution.proofs.substitution.scopes.Scopes.add_copies.Goals as goal

pub invariant_of-self : goal.invariant_of-self
invariant_of-self c =
    let self = c.args.self.now in
    let n = length (scope_lists self) in
    let ps = patterns_of self.places in
    let is = slice_index_or ps c.args.pattern [] in
    let e = c.add_copies.ensures in
    record {
      there = all-appended (IsThere n) c.add_copies.result (places_of self.places) (places_of c.add_copies.new.self) (map (inner_place c.args.scope) is)
          e.added e.kept self.there
          (copies-there (scope_lists self) c.args.scope n is c.requires.scope (pattern-there n ps c.args.pattern self.inner));
      inner = subst (λ (l : List (List Inner)). All (AreInner n) l) (sym e.patterns) self.inner;
    }

pub returns-clause-added : goal.returns-clause-added
returns-clause-added c =
    let self = c.args.self.now in
    lists-added-ok (scope_lists self) c.args.scope (patterns_of self.places) c.args.pattern (places_of self.places) (places_of c.add_copies.new.self)
    c.add_copies.result c.add_copies.ensures.added
