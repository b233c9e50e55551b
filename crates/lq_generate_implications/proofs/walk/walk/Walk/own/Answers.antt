use Rattle.std.proofs.Common.{[], cond, sym, ap, ◌∙◌}
use Rattle.lq_refined_rules.specs.Checks.Listing.{from}
use Rattle.lq_refined_rules.specs.Obligations.Obligations.{subtyping}
use Rattle.lq_refined_subtyping.specs.Table.Whole.{refined_at}
use Rattle.lq_refined_types.specs.Subtyping.Implication.{of_flow}
use Rattle.lq_generate_operations.specs.Basis.Basis.{scopes_of}
use Rattle.lq_generate_implications.proofs.ObligationsLemmas.Stating.{on-ok}
use Rattle.lq_generate_implications.proofs.WalkLemmas.Walks.{asks-as, asks-kept, asks-nothing, finds-asks}
use Rattle.lq_generate_implications.proofs.walk.walk.Walk.own.Goals as goal

pub returns-then-has_template : goal.returns-then-has_template
returns-then-has_template c =
    let b = c.args.basis.now in
    let w = c.args.self.now in
    let v = c.template.new.self in
    let u = c.fits.new.self in
    let r = refined_at (scopes_of b) w.types c.args.row in
    let q = from c.args.place of_flow in
    let f = c.in_ok-right.ensures in
    on-ok c.fits.result c.fits.ensures (λ a.
    asks-as b w c.args.env c.requires.sound u (λ P Γ. subtyping P Γ r (P.template c.args.point) q) _
    (λ P Γ h. ap (λ d. cond d (subtyping P Γ r (P.template c.args.point) q) []) (sym c.if-has_template.true ∙ c.has_template.ensures))
    (finds-asks b w c.args.env c.requires.sound v u c.in_ok-right.right (λ P Γ. P.template c.args.point) (λ P Γ t. subtyping P Γ r t q) f
    (asks-kept b w v u c.args.env c.args.row (λ P Γ t. subtyping P Γ t (refined_at (scopes_of b) v.types c.in_ok-right.right) q) f.moves.types
    c.requires.row a)))

pub returns : goal.returns
returns c =
    let b = c.args.basis.now in
    let w = c.args.self.now in
    let r = refined_at (scopes_of b) w.types c.args.row in
    let q = from c.args.place of_flow in
    asks-as b w c.args.env c.requires.sound w (λ P Γ. []) _
    (λ P Γ h. ap (λ d. cond d (subtyping P Γ r (P.template c.args.point) q) []) (sym c.if-has_template.false ∙ c.has_template.ensures))
    (asks-nothing b w c.args.env c.requires.sound)
