use Rattle.std.proofs.Common.{◌≡◌, ◌∙◌, false, All, sym, subst}
use Rattle.std.proofs.lemmas.List.{take_all}
use Rattle.std.proofs.lemmas.List.Elements.{All-more}
use Rattle.lq_refined_instances.specs.declared.unknowns.Unknown.{Unknown}
use Rattle.lq_text_qualifiers.specs.Sorting.Views.{shape_view}
use Rattle.lq_text_qualifiers.specs.declared.sorting.shape.Shape.TheVariants.{Int}
use Rattle.lq_text_qualifiers.specs.Faults.Shapes.{is_same}
use Rattle.lq_refined_copies.proofs.patterns.has_shape.Goals as goal

pub loop-unknown-preserved : goal.loop-unknown-preserved
loop-unknown-preserved c =
    let none : Unknown = record { scope = 0; shape = Int } in
    All-more (λ (u : Unknown). is_same (shape_view u.shape) (shape_view c.args.shape) ≡ false) c.args.unknowns.now c.loop-unknown.unknown-index none c.loop-unknown-test.true
    c.loop-unknown.invariant (sym c.is_same.ensures ∙ c.if-is_same.false)

pub returns : goal.returns
returns c = λ _.
    subst (All (λ (u : Unknown). is_same (shape_view u.shape) (shape_view c.args.shape) ≡ false))
    (take_all c.loop-unknown.unknown-index c.args.unknowns.now c.loop-unknown-test.false) c.loop-unknown.invariant
