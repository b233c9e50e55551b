use Rattle.std.proofs.Common.{◌≡◌, ◌<◌, ◌^◌, [], length, Ok, sym, ap, subst, ◌∙◌, arith}
use Rattle.std.proofs.lemmas.List.{length-map}
use Rattle.lq_base_names.specs.declared.name.Name.{Name}
use Rattle.lq_text_walk.specs.Walk.Pending.{left}
use Rattle.lq_text_walk.specs.Walk.Visits.{visits_of_items}
use Rattle.lq_text_resolve.specs.Binding.Machine.{first_machine, run}
use Rattle.lq_text_resolve.specs.Binding.Making.{Bound_tree, program_made}
use Rattle.lq_text_resolve.specs.Binding.States.{machine_of}
use Rattle.lq_text_walk.specs.Scoped.Views.{source_view}
use Rattle.lq_text_tree.specs.Texts.{program_view}
use Rattle.lq_text_resolve.proofs.BindingLemmas.Items.{bound_tree, program_next, program_runs}
use Rattle.lq_text_resolve.proofs.binding.program.bind_program.Goals as goal

pub loop-walk-init : goal.loop-walk-init
loop-walk-init c =
    let names = c.args.names.now in (
      ap (λ m. run names m (left Name (λ n. n.0) c.in_ok-walk.walk)) c.in_ok-resolver.ensures.machine
          ∙ ap (run names first_machine) (c.in_ok-walk.ensures ∙ ap visits_of_items c.items.ensures.items),
      c.in_ok-resolver.ensures.names,
    )

pub returns-clause-bound : goal.returns-clause-bound
returns-clause-bound c =
    let names = c.args.names.now in
    let before = c.loop-walk.invariant.0 in
    let m = machine_of c.loop-walk.resolver in
    let none = c.in_default.is in
    let over : left Name (λ n. n.0) c.loop-walk.walk ≡ [] = c.next.ensures.over (c.in_ok-visit.was ∙ ap Ok none) in
    let is : m ≡ run names first_machine (visits_of_items (program_view c.args.program.now)) = sym (ap (run names m) over) ∙ before in
    ap (λ k. bound_tree k.items k.sources) is ∙ program_runs names (program_view c.args.program.now)

pub returns-clause-few_nodes : goal.returns-clause-few_nodes
returns-clause-few_nodes c =
    let names = c.args.names.now in
    let before = c.loop-walk.invariant.0 in
    let m = machine_of c.loop-walk.resolver in
    let none = c.in_default.is in
    let over : left Name (λ n. n.0) c.loop-walk.walk ≡ [] = c.next.ensures.over (c.in_ok-visit.was ∙ ap Ok none) in
    let is : m ≡ run names first_machine (visits_of_items (program_view c.args.program.now)) = sym (ap (run names m) over) ∙ before in
    let same = ap (λ k. k.next) is ∙ program_next names (program_view c.args.program.now) in
    subst (λ n. n < 2 ^ 32) same c.fits.ensures

pub returns-clause-few_binders : goal.returns-clause-few_binders
returns-clause-few_binders c =
    let names = c.args.names.now in
    let m = machine_of c.loop-walk.resolver in
    let is : bound_tree m.items m.sources ≡ program_made names (program_view c.args.program.now) = returns-clause-bound c in
    let same = ap (λ (b : Bound_tree). length b.sources) is in
    let long = length-map c.loop-walk.resolver.sources.items source_view in
    let few = c.if-len-gt-BINDER_LIMIT.false in
    let count = c.len.ensures in
    omega (arith, same, long, few, count)
