use Rattle.std.proofs.Common.{◌≡◌, ℕ, ◌+◌, ◌-◌, ◌<◌, List, map, take, drop, Option, Some, length, All, sym, ap, subst, ◌∙◌, arith}
use Rattle.lq_types_unify.specs.declared.arena.Node.TheVariants.{Made}
use Rattle.lq_types_unify.specs.Nodes.{Form, form_at, HasAdded}
use Rattle.lq_types_rules.specs.Equations.Templates.{shifted}
use Rattle.lq_types_rules.proofs.EquationsLemmas.Copying.{form_here, slice_parts, raised_inside}
use Rattle.lq_types_rules.proofs.equations.system.System.copy_node.Goals as goal

pub raised-requires : goal.raised-requires
raised-requires c =
    let types = c.args.types.now in
    let first = c.in-Made.first in
    let count = c.in-Made.count in
    let form = form_here types c.args.at c.index.result.now (Made c.in-Made.head first count) c.requires.inside c.index.ensures c.in-Made.is in
    let low = c.requires.store.lower c.args.at (record { head = c.in-Made.head; parts = take count (drop first types.parts.items) }) form in
    λ k h. let x = subst (All (λ p. p < c.args.at)) (sym (slice_parts types.parts.items c.deref.result.now first count c.deref.ensures.value)) low k 0 h in
    let y = c.requires.base in let z = c.requires.arena.small in omega arith

pub made-requires-clause-parts : goal.made-requires-clause-parts
made-requires-clause-parts c =
    let types = c.args.types.now in
    let first = c.in-Made.first in
    let count = c.in-Made.count in
    let form = form_here types c.args.at c.index.result.now (Made c.in-Made.head first count) c.requires.inside c.index.ensures c.in-Made.is in
    let low = c.requires.store.lower c.args.at (record { head = c.in-Made.head; parts = take count (drop first types.parts.items) }) form in
    let same = slice_parts types.parts.items c.deref.result.now first count c.deref.ensures.value in
    let now = c.deref-in-Made.ensures.value ∙ c.in_ok-parts-in-Made.ensures in
    subst (All (λ p. p < length c.args.self.now.arena.nodes.items)) (sym now)
    (raised_inside c.args.at (length c.args.self.now.arena.nodes.items) c.args.base (take (first + count - first) (drop first c.deref.result.now)) (let y = c.requires.base in omega arith) (subst (All (λ p. p < c.args.at)) (sym same) low))

pub returns-in_ok-made-in-Made-clause-added : goal.returns-in_ok-made-in-Made-clause-added
returns-in_ok-made-in-Made-clause-added c =
    let types = c.args.types.now in
    let first = c.in-Made.first in
    let count = c.in-Made.count in
    let a = c.in_ok-made-in-Made.ensures.added in
    let form = form_here types c.args.at c.index.result.now (Made c.in-Made.head first count) c.requires.inside c.index.ensures c.in-Made.is in
    let same = slice_parts types.parts.items c.deref.result.now first count c.deref.ensures.value in
    let now = c.deref-in-Made.ensures.value ∙ c.in_ok-parts-in-Made.ensures ∙ ap (map (λ p. c.args.base + p)) same in
    let node : c.in_ok-made-in-Made.field-0 ≡ c.args.base + c.args.at = a.next ∙ c.requires.base in
    subst (λ (n : ℕ). HasAdded c.args.self.now.arena c.made.new.self n (shifted c.args.base (form_at types c.args.at))) node
    (subst (λ (o : Option Form). HasAdded c.args.self.now.arena c.made.new.self c.in_ok-made-in-Made.field-0 o) (ap (λ (l : List ℕ). Some (record { head = c.in-Made.head; parts = l })) now ∙ sym (ap (shifted c.args.base) form)) a)
