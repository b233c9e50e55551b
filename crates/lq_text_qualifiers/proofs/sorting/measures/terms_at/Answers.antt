use Rattle.std.proofs.Common.{map, get_or, refl, ap, ◌∙◌}
use Rattle.lq_base_names.specs.declared.name.Name.{Name}
use Rattle.lq_text_walk.specs.Scoped.Views.{name_number}
use Rattle.lq_text_qualifiers.specs.Sorting.Filing.{filed_view}
use Rattle.lq_text_qualifiers.specs.Sorting.Making.{term_at}
use Rattle.lq_text_qualifiers.specs.Sorting.Views.{measured_view, seen, term_view}
use Rattle.lq_text_qualifiers.proofs.SortingLemmas.Rows.{two_more}
use Rattle.lq_text_qualifiers.proofs.sorting.measures.terms_at.Goals as goal

pub loop-constructor-preserved : goal.loop-constructor-preserved
loop-constructor-preserved c =
    let none : Name = record { 0 = 0 } in
    ap (map term_view) c.in_ok-push.ensures.items
    ∙ two_more term_view (term_at (seen measured_view c.args.measures.now) (seen filed_view c.args.equations.now)) name_number c.loop-constructor.terms.items _ c.args.constructors.now
    c.loop-constructor.constructor-index (get_or c.args.constructors.now c.loop-constructor.constructor-index none) none c.loop-constructor-test.true refl c.loop-constructor.invariant c.in_ok-term_at.ensures
