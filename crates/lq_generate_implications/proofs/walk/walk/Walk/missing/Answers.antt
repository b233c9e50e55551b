use Rattle.std.proofs.Common.{[], refl, sym, ap}
use Rattle.lq_refined_rules.specs.Checks.Basis.{Basis}
use Rattle.lq_refined_rules.specs.Checks.Listing.{from}
use Rattle.lq_refined_rules.specs.Checks.Match.{missing_context}
use Rattle.lq_refined_rules.specs.Obligations.Obligations.{demand}
use Rattle.lq_refined_templates.specs.Programs.PureView.{use_view}
use Rattle.lq_logic_predicates.specs.Formula.{falsity}
use Rattle.lq_refined_types.specs.Types.Context.{Context}
use Rattle.lq_refined_subtyping.specs.Table.Growing.{Extends-refl}
use Rattle.lq_refined_types.specs.Subtyping.Implication.{of_case}
use Rattle.lq_generate_operations.specs.Basis.Growing.{longer-same}
use Rattle.lq_generate_implications.proofs.ObligationsLemmas.Stating.{on-ok}
use Rattle.lq_generate_implications.specs.Walk.Choosing.{of_missing}
use Rattle.lq_generate_implications.specs.declared.walk.walk.Walk.{Walk}
use Rattle.lq_generate_implications.proofs.WalkLemmas.Walks.{asks-as, asks-nothing}
use Rattle.lq_generate_implications.proofs.WalkLemmas.Opening.{asks-entered, enters-with}
use Rattle.lq_generate_implications.proofs.walk.walk.Walk.missing.Goals as goal

pub returns-then-covered : goal.returns-then-covered
returns-then-covered c =
    let b = c.args.basis.now in
    let w = c.args.self.now in
    asks-as b w c.args.env c.requires w (λ P Γ. []) _
    (λ P Γ h. ap (λ d. of_missing P Γ c.args.place (use_view c.args.used) d c.args.constructor.0) (sym c.if-covered.true))
    (asks-nothing b w c.args.env c.requires)

pub returns : goal.returns
returns c =
    let b = c.args.basis.now in
    let w = c.args.self.now in
    let u = c.demand.new.self in
    let n = c.in_ok-inner.inner in
    let s = c.requires in
    let v : Walk = record { types = w.types; list = c.missing_context.new.list; names = w.names; asked = w.asked } in
    let within = λ (P : Basis) (Γ : Context). missing_context P Γ (use_view c.args.used) c.args.constructor.0 in
    let e = enters-with b w v c.args.env n within s
    (record {
      types = Extends-refl w.types.rows.items;
      environments = c.missing_context.ensures.environments;
      implications = c.missing_context.ensures.implications;
      count = c.missing_context.ensures.count;
    })
    (longer-same w.names w.names refl) s.names refl c.in_ok-inner.ensures.there
    (λ P Γ h. c.in_ok-inner.ensures.context P w.names w.types Γ h.0 h.1) in
    on-ok c.demand.result c.demand.ensures (λ a.
    asks-as b w c.args.env s u (λ P Γ. demand P (within P Γ) falsity (from c.args.place of_case)) _
    (λ P Γ h. ap (λ d. of_missing P Γ c.args.place (use_view c.args.used) d c.args.constructor.0) (sym c.if-covered.false))
    (asks-entered b w c.args.env s v u u.names n within (λ P Γ. []) (λ P Γ. demand P Γ falsity (from c.args.place of_case)) e a a.moves.names))
