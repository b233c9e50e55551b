use Rattle.lq_refined_rules.specs.Checks.Listing.{from}
use Rattle.lq_refined_rules.specs.Checks.Pure.{pure_type}
use Rattle.lq_refined_rules.specs.Obligations.Obligations.{subtyping}
use Rattle.lq_refined_templates.specs.Programs.PureView.{pure_view}
use Rattle.lq_refined_types.specs.Types.Refined.{type_at}
use Rattle.lq_refined_subtyping.specs.Table.Forms.{each}
use Rattle.lq_refined_types.specs.Subtyping.Implication.{of_argument}
use Rattle.lq_generate_operations.specs.Basis.Basis.{types_in}
use Rattle.lq_generate_implications.proofs.ObligationsLemmas.Stating.{on-ok}
use Rattle.lq_generate_implications.proofs.WalkLemmas.Walks.{finds-both}
use Rattle.lq_generate_implications.proofs.walk.walk.Walk.operand_fits.Goals as goal

pub returns : goal.returns
returns c =
    let b = c.args.basis.now in
    on-ok c.fits.result c.fits.ensures (λ a.
    finds-both b c.args.self.now c.args.env c.requires.sound c.row_at.new.self c.operand.new.self c.fits.new.self c.in_ok-right.right c.in_ok-left.left
    (λ P Γ. type_at (each (types_in b c.args.self.now.types) c.args.rows.now) c.args.at)
    (λ P Γ. pure_type P Γ (pure_view c.args.operand.now))
    (λ P Γ r l. subtyping P Γ l r (from c.args.place of_argument)) c.in_ok-right.ensures c.in_ok-left.ensures a)
