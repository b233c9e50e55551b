use Rattle.std.proofs.Common.{refl}
use Rattle.lq_refined_rules.specs.Checks.Tree.{run_unit}
use Rattle.lq_refined_rules.specs.Obligations.Obligations.{of_block}
use Rattle.lq_refined_templates.specs.Programs.BlockView.{block_view}
use Rattle.lq_refined_types.specs.Types.Refined.{unit_type}
use Rattle.lq_generate_implications.proofs.WalkLemmas.Stepping.{steps-asks}
use Rattle.lq_generate_implications.proofs.WalkLemmas.Walks.{finds-asks}
use Rattle.lq_generate_implications.proofs.walk.walk.Walk.run_unit.Goals as goal

pub returns : goal.returns
returns c =
    let b = c.args.basis.now in
    let w = c.args.self.now in
    let k = block_view c.args.block.now in
    steps-asks b w c.args.env c.requires c.block.new.self (λ P Γ. of_block P Γ k unit_type) (λ rest. run_unit k rest) (λ P Γ rest. refl)
    (finds-asks b w c.args.env c.requires c.unit.new.self c.block.new.self c.in_ok-expected.expected (λ P Γ. unit_type) (λ P Γ t. of_block P Γ k t)
    c.in_ok-expected.ensures c.in_ok-block.ensures)
