use Rattle.std.proofs.Common.{◌≡◌, ◌++◌, [], ◌∷◌, length, OnOk, sym, ap, subst, ◌∙◌}
use Rattle.lq_types_table.specs.Heads.{made, each, IsRight}
use Rattle.lq_types_table.specs.Nodes.{at}
use Rattle.lq_types_table.specs.Whole.{types_of}
use Rattle.lq_types_infer.proofs.SolutionLemmas.Making.{right_as}
use Rattle.lq_types_infer.proofs.SolutionLemmas.Placing.{made_read, numbers_read}
use Rattle.lq_types_infer.proofs.solution.classes.push_class.Goals as goal

pub push-requires-clause-parts : goal.push-requires-clause-parts
push-requires-clause-parts c =
    let m = made_read c.args.system.now c.args.solution.now c.args.class c.index.result.now c.index-2.result.now c.in-Made.head c.in-Made.first
    c.in-Made.count c.deref.result.now
    c.requires.settled c.requires.inside c.requires.is_root c.index.ensures c.index-2.ensures c.in-Made.is c.deref.ensures.value in
    let n = numbers_read c.args.system.now c.args.solution.now c.args.class c.in-Made.head c.in-Made.first c.in-Made.count _
    (types_of c.args.types.now) c.args.rows.now c.deref-in-Made.result.now
    c.requires.settled m (c.deref-in-Made.ensures.value ∙ c.in_ok-numbers-in-Made.ensures) c.requires.placed in
    n.inside

pub push-requires-clause-right : goal.push-requires-clause-right
push-requires-clause-right c =
    let m = made_read c.args.system.now c.args.solution.now c.args.class c.index.result.now c.index-2.result.now c.in-Made.head c.in-Made.first
    c.in-Made.count c.deref.result.now
    c.requires.settled c.requires.inside c.requires.is_root c.index.ensures c.index-2.ensures c.in-Made.is c.deref.ensures.value in
    let n = numbers_read c.args.system.now c.args.solution.now c.args.class c.in-Made.head c.in-Made.first c.in-Made.count _
    (types_of c.args.types.now) c.args.rows.now c.deref-in-Made.result.now
    c.requires.settled m (c.deref-in-Made.ensures.value ∙ c.in_ok-numbers-in-Made.ensures) c.requires.placed in
    subst (λ g. IsRight g (length c.deref-in-Made.result.now)) (sym c.head_of.ensures)
    (right_as c.in-Made.head (length c.deref-in-Made.result.now) n.right)

pub returns-in_ok-numbers-in-Made-clause-added : goal.returns-in_ok-numbers-in-Made-clause-added
returns-in_ok-numbers-in-Made-clause-added c =
    let m = made_read c.args.system.now c.args.solution.now c.args.class c.index.result.now c.index-2.result.now c.in-Made.head c.in-Made.first
    c.in-Made.count c.deref.result.now
    c.requires.settled c.requires.inside c.requires.is_root c.index.ensures c.index-2.ensures c.in-Made.is c.deref.ensures.value in
    let n = numbers_read c.args.system.now c.args.solution.now c.args.class c.in-Made.head c.in-Made.first c.in-Made.count _
    (types_of c.args.types.now) c.args.rows.now c.deref-in-Made.result.now
    c.requires.settled m (c.deref-in-Made.ensures.value ∙ c.in_ok-numbers-in-Made.ensures) c.requires.placed in
    subst (λ t. OnOk c.push.result (types_of c.push.new.self ≡ types_of c.args.types.now ++ t ∷ []))
    (ap (λ g. made g (each (at (types_of c.args.types.now)) c.deref-in-Made.result.now)) c.head_of.ensures ∙ n.type) c.push.ensures.added
