use Rattle.std.proofs.Common.{◌++◌, ◌<◌, take, ap, ap₂, ◌∙◌}
use Rattle.std.proofs.lemmas.List.{take_all}
use Rattle.std.proofs.lemmas.List.Elements.{All-same}
use Rattle.lq_refined_rules.specs.Checks.Listing.{from}
use Rattle.lq_refined_rules.specs.Checks.Pure.{pure_type}
use Rattle.lq_refined_rules.specs.Obligations.Obligations.{operands, subtyping}
use Rattle.lq_refined_templates.specs.Programs.PureView.{pure_view, pures_view}
use Rattle.lq_refined_types.specs.Types.Refined.{type_at}
use Rattle.lq_refined_subtyping.specs.Table.Forms.{each}
use Rattle.lq_refined_subtyping.specs.Table.Whole.{count_of}
use Rattle.lq_refined_subtyping.specs.Split.Growing.{all-grown}
use Rattle.lq_refined_types.specs.Subtyping.Implication.{of_argument}
use Rattle.lq_generate_operations.specs.Basis.Basis.{scopes_of, types_in}
use Rattle.lq_generate_operations.specs.Basis.Growing.{each-grown}
use Rattle.lq_generate_implications.specs.declared.walk.walk.Walk.{Walk}
use Rattle.lq_generate_implications.proofs.WalkLemmas.Operands.{operands-more}
use Rattle.lq_generate_implications.proofs.WalkLemmas.Walks.{asks-as, asks-nothing, asks-trans, types-alone, types-asks}
use Rattle.lq_generate_implications.proofs.walk.walk.Walk.build.Goals as goal

pub loop-at-init : goal.loop-at-init
loop-at-init c =
    let b = c.args.basis.now in
    let w = c.args.self.now in
    let a = types-alone b w c.args.env c.requires c.field_types.new.types c.field_types.ensures.grows in
    asks-nothing b (record { types = c.field_types.new.types; list = w.list; names = w.names; asked = w.asked }) c.args.env a.moves.sound

pub operand_fits-requires-clause-rows : goal.operand_fits-requires-clause-rows
operand_fits-requires-clause-rows c =
    let t1 = c.field_types.new.types in
    let t2 = c.loop-at.self.types in
    All-same (λ r. r < count_of t2) c.deref.result.now c.in_ok-rows.rows.items c.deref.ensures.value
    (all-grown t1.rows.items t2.rows.items c.in_ok-rows.rows.items c.loop-at.invariant.moves.types c.in_ok-rows.ensures.there)

pub loop-at-preserved : goal.loop-at-preserved
loop-at-preserved c =
    let b = c.args.basis.now in
    let w = c.args.self.now in
    let t1 = c.field_types.new.types in
    let v : Walk = record { types = t1; list = w.list; names = w.names; asked = w.asked } in
    let x = c.loop-at.self in
    let u = c.operand_fits.new.self in
    let k = c.loop-at.invariant in
    let i = c.loop-at.at in
    let es = c.args.operands.now in
    let e = c.index-operands-at.result in
    let rows = c.in_ok-rows.rows.items in
    let ts = each (types_in b t1) rows in
    let o = from c.args.place of_argument in
    let s = (types-alone b w c.args.env c.requires t1 c.field_types.ensures.grows).moves.sound in
    asks-as b v c.args.env s u
    (λ P Γ. operands P Γ (pures_view (take i es)) ts o
    ++ subtyping P Γ (pure_type P Γ (pure_view e)) (type_at (each (types_in b x.types) c.deref.result.now) i) o) _
    (λ P Γ h.
    ap₂ (λ y zs. operands P Γ (pures_view (take i es)) ts o ++ subtyping P Γ (pure_type P Γ (pure_view y)) (type_at zs i) o) c.index-operands-at.is
    (ap (each (types_in b x.types)) c.deref.ensures.value
    ∙ each-grown (scopes_of b) t1.rows.items x.types.rows.items rows k.moves.types c.in_ok-rows.ensures.there)
    ∙ operands-more P Γ es i e ts o c.loop-at-test.true)
    (asks-trans b v c.args.env s x u (λ P Γ. operands P Γ (pures_view (take i es)) ts o)
    (λ P Γ. subtyping P Γ (pure_type P Γ (pure_view e)) (type_at (each (types_in b x.types) c.deref.result.now) i) o) k c.in_ok-operand_fits.ensures)

pub returns : goal.returns
returns c = λ r.
    let b = c.args.basis.now in
    let w = c.args.self.now in
    let es = c.args.operands.now in
    let i = c.loop-at.at in
    let o = from c.args.place of_argument in
    let ts = each (types_in b c.field_types.new.types) c.in_ok-rows.rows.items in
    types-asks b w c.args.env c.requires c.field_types.new.types c.loop-at.self (λ P Γ. operands P Γ (pures_view (take i es)) ts o) _
    c.field_types.ensures.grows
    (λ P Γ h.
    ap (λ l. operands P Γ (pures_view l) ts o) (take_all i es c.loop-at-test.false)
    ∙ ap (λ us. operands P Γ (pures_view es) us o) (c.in_ok-rows.ensures.refined P Γ h.0 h.1.knows))
    c.loop-at.invariant
