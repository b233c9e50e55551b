use Rattle.std.proofs.Common.{◌∷◌, refl}
use Rattle.lq_refined_rules.specs.Checks.Pure.{formula_of}
use Rattle.lq_refined_types.specs.Parts.Part.{known}
use Rattle.lq_refined_templates.specs.Programs.PureView.{pure_view}
use Rattle.lq_logic_predicates.specs.Formula.{negation}
use Rattle.lq_refined_types.specs.Types.Context.{guard}
use Rattle.lq_refined_subtyping.specs.Table.Growing.{Extends-refl}
use Rattle.lq_generate_operations.specs.Basis.Growing.{longer-same}
use Rattle.lq_generate_implications.specs.declared.walk.walk.Walk.{Walk}
use Rattle.lq_generate_implications.proofs.WalkLemmas.Opening.{enters-with}
use Rattle.lq_generate_implications.proofs.walk.walk.Walk.enter_unless.Goals as goal

pub returns-clause-enters : goal.returns-clause-enters
returns-clause-enters c =
    let b = c.args.basis.now in
    let w = c.args.self.now in
    let v : Walk = record { types = w.types; list = c.unless.new.list; names = w.names; asked = w.asked } in
    enters-with b w v c.args.env c.in_ok-inner.inner (λ P Γ. guard (known (negation (formula_of (pure_view c.args.condition.now)))) ∷ Γ) c.requires
    (record {
      types = Extends-refl w.types.rows.items;
      environments = c.unless.ensures.environments;
      implications = c.unless.ensures.implications;
      count = c.unless.ensures.count;
    })
    (longer-same w.names w.names refl) c.requires.names refl c.in_ok-inner.ensures.there (λ P Γ h. c.in_ok-inner.ensures.context b w.names w.types Γ h.1)
