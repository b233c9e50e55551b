use Rattle.std.proofs.Common.{[], cond, sym, ap, ◌∙◌}
use Rattle.lq_refined_rules.specs.Checks.Listing.{from}
use Rattle.lq_refined_rules.specs.Checks.Operation.{type_of}
use Rattle.lq_refined_rules.specs.Obligations.Obligations.{subtyping}
use Rattle.lq_refined_templates.specs.Programs.BlockView.{operation_view}
use Rattle.lq_refined_subtyping.specs.Table.Whole.{refined_at}
use Rattle.lq_refined_types.specs.Subtyping.Implication.{of_flow}
use Rattle.lq_generate_operations.specs.Basis.Basis.{scopes_of}
use Rattle.lq_generate_implications.proofs.ObligationsLemmas.Stating.{on-ok}
use Rattle.lq_generate_implications.proofs.WalkLemmas.Walks.{asks-as, asks-kept, asks-nothing, finds-asks}
use Rattle.lq_generate_implications.proofs.walk.walk.Walk.flows.Goals as goal

pub returns-then-passes_on : goal.returns-then-passes_on
returns-then-passes_on c =
    let w = c.args.self.now in
    let o = operation_view c.args.operation.now in
    asks-as c.args.basis.now w c.args.env c.requires.sound w (λ P Γ. []) _
    (λ P Γ h. ap (λ d. cond d [] (subtyping P Γ (type_of P Γ o) (refined_at (scopes_of c.args.basis.now) w.types c.args.expected) (from c.args.place of_flow)))
    (sym c.if-passes_on.true ∙ c.passes_on.ensures))
    (asks-nothing c.args.basis.now w c.args.env c.requires.sound)

pub returns : goal.returns
returns c =
    let b = c.args.basis.now in
    let w = c.args.self.now in
    let v = c.given.new.self in
    let u = c.fits.new.self in
    let o = operation_view c.args.operation.now in
    let r = refined_at (scopes_of b) w.types c.args.expected in
    let q = from c.args.place of_flow in
    let f = c.in_ok-row.ensures in
    on-ok c.fits.result c.fits.ensures (λ a.
    asks-as b w c.args.env c.requires.sound u (λ P Γ. subtyping P Γ (type_of P Γ o) r q) _
    (λ P Γ h. ap (λ d. cond d [] (subtyping P Γ (type_of P Γ o) r q)) (sym c.if-passes_on.false ∙ c.passes_on.ensures))
    (finds-asks b w c.args.env c.requires.sound v u c.in_ok-row.row (λ P Γ. type_of P Γ o) (λ P Γ t. subtyping P Γ t r q) f
    (asks-kept b w v u c.args.env c.args.expected (λ P Γ t. subtyping P Γ (refined_at (scopes_of b) v.types c.in_ok-row.row) t q) f.moves.types
    c.requires.expected a)))
