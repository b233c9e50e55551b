use Rattle.std.proofs.Common.{[], length, subst, sym}
use Rattle.lq_generate_fresh.specs.Fresh.Views.{scope_at, unknowns_of}
use Rattle.lq_generate_fresh.specs.Fresh.Walking.{form_wanted, IsTemplate, Wanted}
use Rattle.lq_text_tree.specs.MlType.{MlType}
use Rattle.lq_types_table.specs.Whole.{types_of}
use Rattle.lq_generate_fresh.specs.Fresh.Wanted.{constant_wanted}
use Rattle.lq_generate_fresh.proofs.FreshLemmas.Alone.{constant_other}
use Rattle.lq_generate_fresh.proofs.fresh.empty.constant.Goals as goal

pub returns-in_ok-row-in-Int : goal.returns-in_ok-row-in-Int
returns-in_ok-row-in-Int c =
    let D = c.args.given.now.datatypes.now in
    let old = c.args.templates.now in
    let all = types_of c.args.given.now.types.now in
    let n = length (unknowns_of old) in
    let Γ = scope_at old c.args.scope in
    let r = c.in_ok-row-in-Int.row in
    let is = c.node.ensures.types in
    subst (λ (t : MlType). IsTemplate D old c.inside.new.templates r (constant_wanted n Γ t)) is
    (subst (λ (w : Wanted). IsTemplate D old c.inside.new.templates r w) (constant_other n Γ all c.node.result c.in-Int.is)
    (subst (λ (t : MlType). IsTemplate D old c.inside.new.templates r (form_wanted n Γ [] t)) (sym is) c.in_ok-row-in-Int.ensures))
