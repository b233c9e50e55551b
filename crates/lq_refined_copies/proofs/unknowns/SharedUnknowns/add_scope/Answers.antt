use Rattle.std.proofs.Common.{◌∙◌, length, [], ◌∷◌, ◌++◌, sym, ap}
use Rattle.lq_refined_instances.specs.Scopes.{scope_in}
use Rattle.lq_refined_instances.specs.Seen.{visible_view}
use Rattle.lq_refined_instances.specs.Views.{scopes_view}
use Rattle.lq_refined_copies.specs.Longer.{Longer}
use Rattle.lq_refined_copies.specs.Views.{patterns_of, table_of}
use Rattle.lq_refined_copies.proofs.Longer.{inside_kept, longer_either, longer_same, runs_kept}
use Rattle.lq_refined_copies.proofs.unknowns.SharedUnknowns.add_scope.Goals as goal

pub invariant_of-self : goal.invariant_of-self
invariant_of-self c =
    let self = c.args.self.now in
    let old = table_of self in
    let new = scopes_view c.add.new.self in
    let ps = patterns_of self in
    let l : Longer old new = longer_either old new (scope_in old c.args.parent ++ visible_view c.args.visible ∷ []) c.add.result c.add.ensures.added c.add.ensures.kept in
    record {
      inside = inside_kept old new ps ps l (longer_same ps) self.runs.items self.inside;
      counted = self.counted ∙ ap length (sym (runs_kept old new ps ps l (longer_same ps) self.runs.items self.inside));
    }

pub returns-clause-unknowns : goal.returns-clause-unknowns
returns-clause-unknowns c =
    let self = c.args.self.now in
    let old = table_of self in
    let new = scopes_view c.add.new.self in
    let ps = patterns_of self in
    let l : Longer old new = longer_either old new (scope_in old c.args.parent ++ visible_view c.args.visible ∷ []) c.add.result c.add.ensures.added c.add.ensures.kept in
    runs_kept old new ps ps l (longer_same ps) self.runs.items self.inside
