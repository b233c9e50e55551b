use Rattle.std.proofs.Common.{sym}
use Rattle.lq_refined_rules.specs.Checks.Listing.{from}
use Rattle.lq_refined_rules.specs.Checks.Operation.{not_zero}
use Rattle.lq_refined_templates.specs.Programs.PureView.{pure_view}
use Rattle.lq_refined_types.specs.Subtyping.Implication.{of_divisor}
use Rattle.lq_generate_implications.proofs.ObligationsLemmas.Stating.{on-ok}
use Rattle.lq_generate_implications.proofs.WalkLemmas.Walks.{asks-as, demands}
use Rattle.lq_generate_implications.proofs.WalkLemmas.Operands.{of_quotient}
use Rattle.lq_generate_implications.proofs.walk.walk.Walk.divide.Goals as goal

pub returns : goal.returns
returns c =
    on-ok c.demand.result c.demand.ensures (λ a t.
    asks-as c.args.basis.now c.args.self.now c.args.env c.requires c.demand.new.self _ _
    (λ P Γ h. sym (of_quotient P Γ c.args.place c.args.quotient (pure_view c.args.dividend.now) (pure_view c.args.divisor.now) t))
    (demands c.args.basis.now c.args.self.now c.demand.new.self c.args.env _ (not_zero (pure_view c.args.divisor.now))
    (from c.args.place of_divisor) c.in_ok-not_zero.ensures a))
