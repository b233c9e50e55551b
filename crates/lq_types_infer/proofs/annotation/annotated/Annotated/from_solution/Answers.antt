use Rattle.std.proofs.Common.{subst, sym}
use Rattle.lq_types_rules.specs.Visits.Laws.{slot_count}
use Rattle.lq_text_walk.specs.Scoped.Whole.{scoped_view}
use Rattle.lq_types_table.specs.Whole as table_whole
use Rattle.lq_types_infer.specs.Annotation.Laws.{AreVariablesApart}
use Rattle.lq_types_infer.specs.Annotation.Slots.{slot_types}
use Rattle.lq_types_infer.proofs.AnnotationLemmas.Answered.{weak_answer, past_answer, apart_here, typed_answer, renamed_rows}
use Rattle.lq_types_infer.proofs.annotation.annotated.Annotated.from_solution.Goals as goal

pub returns-in-Some-clause-refused : goal.returns-in-Some-clause-refused
returns-in-Some-clause-refused c =
    weak_answer (scoped_view c.args.program) (table_whole.types_of c.args.table) c.args.rows.items c.args.program.scoped c.requires.seen
    c.seen_are_weak.ensures c.deref.result.now c.in_ok-place.field-0 c.in-Some.place c.deref.ensures.value c.in-Some.is c.in_ok-place.ensures

pub returns-in-Some-2-clause-refused : goal.returns-in-Some-2-clause-refused
returns-in-Some-2-clause-refused c =
    past_answer (scoped_view c.args.program) (table_whole.types_of c.args.table) c.args.rows.items c.args.program.scoped c.requires.seen
    c.deref.result.now c.in_ok-place.field-0 c.deref.ensures.value c.in_default.is c.in_ok-place.ensures c.seen_are_principal.ensures
    c.deref-2.result.now c.in_ok-large.field-0 c.deref-2.ensures.value c.in_ok-large.ensures c.in-Some-2.large c.in-Some-2.is

pub numbers_of-requires-clause-apart : goal.numbers_of-requires-clause-apart
numbers_of-requires-clause-apart c = λ owner own.
    let s = scoped_view c.args.program in
    let all = table_whole.types_of c.args.table in
    subst (λ rs. AreVariablesApart s (slot_types all rs) owner) (sym c.deref-4.ensures.value)
    (apart_here s all c.args.rows.items c.args.program.scoped c.requires.seen c.deref.result.now c.in_ok-place.field-0 c.deref.ensures.value
    c.in_default.is c.in_ok-place.ensures c.seen_variables_are_apart.ensures owner own)

pub invariant_of-result : goal.invariant_of-result
invariant_of-result c =
    let s = scoped_view c.args.program in
    let all = table_whole.types_of c.args.table in
    let renamed = table_whole.types_of c.rename.new.self in
    record {
      inside = renamed_rows all renamed c.args.rows.items c.deref-5.result.now (slot_count s) c.rename.ensures c.requires.rows;
      answer = ∣ typed_answer s all c.args.rows.items c.args.program.scoped c.requires.seen c.deref.result.now c.in_ok-place.field-0
          c.deref.ensures.value c.in_default.is c.in_ok-place.ensures c.seen_are_principal.ensures c.deref-2.result.now c.in_ok-large.field-0
          c.deref-2.ensures.value c.in_ok-large.ensures c.named_is_inference.ensures renamed c.deref-4.result.now c.in_ok-names.names.items
          c.deref-5.result.now c.in_default-2.is c.deref-4.ensures.value c.deref-5.ensures.value c.in_ok-names.ensures c.rename.ensures ∣₁;
      bounded = c.in_ok-bounds.ensures;
    }

pub returns-clause-typed : goal.returns-clause-typed
returns-clause-typed c =
    typed_answer (scoped_view c.args.program) (table_whole.types_of c.args.table) c.args.rows.items c.args.program.scoped c.requires.seen
    c.deref.result.now c.in_ok-place.field-0 c.deref.ensures.value c.in_default.is c.in_ok-place.ensures c.seen_are_principal.ensures
    c.deref-2.result.now c.in_ok-large.field-0 c.deref-2.ensures.value c.in_ok-large.ensures c.named_is_inference.ensures
    (table_whole.types_of c.rename.new.self) c.deref-4.result.now c.in_ok-names.names.items c.deref-5.result.now c.in_default-2.is
    c.deref-4.ensures.value c.deref-5.ensures.value c.in_ok-names.ensures c.rename.ensures
