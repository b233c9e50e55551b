use Rattle.std.proofs.Common.{[], ◌∷◌, ◌++◌}
use Rattle.lq_refined_substitution.specs.Substitution.Placed.{patterns_of, places_of}
use Rattle.lq_refined_substitution.specs.Substitution.Scopes.{left}
use Rattle.lq_refined_substitution.specs.Substitution.Tables.{table_lists}
use Rattle.lq_refined_substitution.specs.Substitution.Views.{scope_at}
use Rattle.lq_refined_substitution.proofs.SubstitutionLemmas.Copying.{table-inner, table-patterns, table-places, table-there}
use Rattle.lq_refined_substitution.proofs.substitution.scopes.Scopes.extend.Goals as goal

pub invariant_of-self : goal.invariant_of-self
invariant_of-self c =
    let self = c.args.self.now in
    let x = left c.args.hidden (scope_at self c.args.parent) ++ c.args.symbol ∷ [] in
    let e = c.extend.ensures in
    record {
      there = table-there (table_lists self.table) x (table_lists c.extend.new.self) c.extend.result e.added e.kept (places_of self.places) self.there;
      inner = table-inner (table_lists self.table) x (table_lists c.extend.new.self) c.extend.result e.added e.kept (patterns_of self.places) self.inner;
    }

pub returns-clause-unknowns : goal.returns-clause-unknowns
returns-clause-unknowns c =
    let self = c.args.self.now in
    let x = left c.args.hidden (scope_at self c.args.parent) ++ c.args.symbol ∷ [] in
    let e = c.extend.ensures in
    table-places (table_lists self.table) x (table_lists c.extend.new.self) c.extend.result e.added e.kept (places_of self.places) self.there

pub returns-clause-patterns : goal.returns-clause-patterns
returns-clause-patterns c =
    let self = c.args.self.now in
    let x = left c.args.hidden (scope_at self c.args.parent) ++ c.args.symbol ∷ [] in
    let e = c.extend.ensures in
    table-patterns (table_lists self.table) x (table_lists c.extend.new.self) c.extend.result e.added e.kept (patterns_of self.places) self.inner
