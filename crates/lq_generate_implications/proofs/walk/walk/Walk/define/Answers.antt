use Rattle.std.proofs.Common.{[], subst}
use Rattle.lq_refined_rules.specs.Checks.Operation.{bind}
use Rattle.lq_refined_templates.specs.Programs.BlockView.{block_view}
use Rattle.lq_generate_implications.specs.Walk.Through.{Enters}
use Rattle.lq_generate_implications.proofs.WalkLemmas.Stepping.{steps-define}
use Rattle.lq_generate_implications.proofs.WalkLemmas.Walks.{row-kept}
use Rattle.lq_generate_implications.proofs.walk.walk.Walk.define.Goals as goal

pub returns : goal.returns
returns c =
    steps-define c.args.basis.now c.args.self.now c.args.env c.requires c.to_last.new.self c.own.new.self c.enter_name.new.self c.in_ok-last.last.env
    c.in_ok-inner.inner c.in_ok-last.last.row c.args.name.0 c.args.place c.args.point (block_view c.args.block.now) c.in_ok-last.ensures c.in_ok-own.ensures
    (subst (λ t. Enters c.args.basis.now c.own.new.self c.enter_name.new.self c.in_ok-last.last.env c.in_ok-inner.inner
    (λ P Γ. bind c.args.name.0 t Γ) (λ P Γ. []))
    (row-kept c.args.basis.now c.to_last.new.self.types c.own.new.self.types c.in_ok-last.last.row c.in_ok-own.ensures.moves.types c.in_ok-last.ensures.there)
    c.in_ok-inner.ensures)
