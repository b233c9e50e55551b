use Rattle.std.proofs.Common.{◌≡◌, suc, length, sym, ap, subst, ◌∙◌, arith}
use Rattle.std.proofs.Math.Logic.{∥∥₁_map}
use Rattle.lq_base_names.specs.declared.name.Binder.{Binder}
use Rattle.lq_types_infer.specs.Annotation.Whole.{program_of}
use Rattle.lq_types_rules.specs.Typings.Uses.{none_known, behind}
use Rattle.lq_text_walk.specs.Walk.Pending.{left, visit_view}
use Rattle.lq_text_walk.specs.Walk.Visits.{visits_of_items}
use Rattle.lq_types_infer.specs.Instantiation.Visiting.{IsAt}
use Rattle.lq_types_infer.proofs.InstantiationLemmas.Going.{at_end}
use Rattle.lq_types_infer.proofs.instantiation.visiting.Pass.over.Goals as goal

pub loop-walk-init : goal.loop-walk-init
loop-walk-init c = λ ahead.
    let a = c.args.annotated.now in
    let is : left Binder (λ b. b.0) c.in_ok-walk.walk ≡ visits_of_items (program_of a).items =
    c.in_ok-walk.ensures ∙ ap visits_of_items c.items.ensures.items ∙ ap (λ s. visits_of_items s.items) c.scoped.ensures.program in
    (none_known, subst (λ l. IsAt a none_known l c.in_ok-pass.pass) (sym is) (c.in_ok-pass.ensures ahead))

pub go-requires : goal.go-requires
go-requires c =
    let a = c.args.annotated.now in
    let v = visit_view Binder (λ b. b.0) c.in-Some.visit in
    let rest = left Binder (λ b. b.0) c.next.new.self in
    let e = c.next.ensures.next c.in-Some.visit (let b = c.in_ok-visit.was in let d = c.in-Some.is in cc) in
    record {
      there = ∥∥₁_map c.requires
          (λ ahead. let h = c.loop-walk.invariant ahead in (h.0, rest, subst (λ l. IsAt a h.0 l c.loop-walk.pass) e h.1));
    }

pub loop-walk-preserved : goal.loop-walk-preserved
loop-walk-preserved c = λ ahead.
    let a = c.args.annotated.now in
    let v = visit_view Binder (λ b. b.0) c.in-Some.visit in
    let rest = left Binder (λ b. b.0) c.next.new.self in
    let e = c.next.ensures.next c.in-Some.visit (let b = c.in_ok-visit.was in let d = c.in-Some.is in cc) in
    let h = c.loop-walk.invariant ahead in
    (behind h.0 v, c.in_ok-go.ensures.gone h.0 rest (subst (λ l. IsAt a h.0 l c.loop-walk.pass) e h.1))

pub returns : goal.returns
returns c =
    let a = c.args.annotated.now in
    let none = c.next.ensures.over (let b = c.in_ok-visit.was in let d = c.in_default.is in cc) in
    ∥∥₁_map c.requires
    (λ ahead. let h = c.loop-walk.invariant ahead in at_end a h.0 (left Binder (λ b. b.0) c.loop-walk.walk) c.loop-walk.pass none h.1)

pub loop-walk-smaller : goal.loop-walk-smaller
loop-walk-smaller c =
    let e = c.next.ensures.next c.in-Some.visit (let b = c.in_ok-visit.was in let d = c.in-Some.is in cc) in
    let n : length (left Binder (λ b. b.0) c.loop-walk.walk) ≡ suc (length (left Binder (λ b. b.0) c.next.new.self)) = ap length e in
    omega (arith, n)
