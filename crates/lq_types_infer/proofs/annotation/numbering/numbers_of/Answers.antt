use Rattle.std.specs.Prelude.{All}
use Rattle.std.proofs.Common.{◌≡◌, ℕ, List, map, sym, ap, subst, ◌∙◌}
use Rattle.std.proofs.lemmas.Result.{IfOk-weaker}
use Rattle.lq_text_walk.specs.Scoped.Whole.{scoped_view}
use Rattle.lq_types_table.specs.Whole.{types_of}
use Rattle.lq_types_rules.specs.Typings.Principal.{node_count}
use Rattle.lq_types_infer.specs.Annotation.Naming.{names_in, NumbersItem}
use Rattle.lq_types_infer.specs.Annotation.Numbering.{value_or_zero}
use Rattle.lq_types_infer.specs.Annotation.Slots.{slot_types}
use Rattle.lq_types_infer.proofs.AnnotationLemmas.Owners.{numbers_are}
use Rattle.lq_types_infer.proofs.annotation.numbering.numbers_of.Goals as goal

pub returns : goal.returns
returns c =
    let s = scoped_view c.args.program.now in
    let all = types_of c.args.table.now in
    let rows = c.args.rows.now in
    let own = c.scoped_items_own_slots.ensures s c.args.program.now.scoped in
    let names = c.in_ok-names.ensures in
    let are = numbers_are s all rows own.0 own.1 (c.requires.apart own.0 own.1) c.requires.rows names.0 names.1 in
    IfOk-weaker c.values_of.result (λ ns. ns.items ≡ map value_or_zero c.deref.result.now)
    (λ ns. All (NumbersItem (node_count s) (slot_types all rows) (names_in ns.items)) s.items)
    (λ ns e. subst (λ (l : List ℕ). All (NumbersItem (node_count s) (slot_types all rows) (names_in l)) s.items)
    (sym (e ∙ ap (map value_or_zero) (c.deref.ensures.value ∙ names.2))) are) c.values_of.ensures
