use Rattle.lq_refined_instances.specs.Scopes.{scope_in}
use Rattle.lq_refined_instances.specs.Seen.{visible_view}
use Rattle.lq_refined_instances.specs.Views.{scopes_view}
use Rattle.lq_refined_instances.proofs.Hiding.{once-counted}
use Rattle.lq_refined_instances.proofs.scopes.Scopes.add_hiding.Goals as goal

pub extend-requires-clause-counted : goal.extend-requires-clause-counted
extend-requires-clause-counted c = once-counted (visible_view c.args.hidden) (scope_in (scopes_view c.args.self.now) c.args.parent) c.requires.once
