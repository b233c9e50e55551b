use Rattle.std.proofs.Common.{◌≡◌, ◌-◌, ℕ, ◌∷◌, [], ◌++◌, length, ap, ◌∙◌, arith, rules, length-drop}
use Rattle.lq_types_rules.proofs.ConstructorsLemmas.Placing.{rest_read, is_over}
use Rattle.lq_types_rules.proofs.constructors.building.over.Goals as goal

pub returns : goal.returns
returns c =
    let stack = c.args.stack.now.items in
    let from : ℕ = c.len.result - c.args.count in
    let n : c.len.result ≡ length stack = search rules in
    let read = rest_read c.deref.result.now stack from c.deref.ensures.value in
    let e : from ≡ length stack - c.args.count = ap (λ (k : ℕ). k - c.args.count) n in
    let l = c.requires.count in
    is_over c.args.types.now c.made.new.self c.args.parameters stack c.push.new.self.items _ c.args.head c.args.count from c.in_ok-node.node c.requires.base c.requires.inside e l c.requires.right
    read (ap length read ∙ (let d = length-drop from stack in omega arith)) c.in_ok-node.ensures.added (c.in_ok-push.ensures.items ∙ ap (λ xs. xs ++ c.in_ok-node.node ∷ []) c.truncate.ensures.items)
