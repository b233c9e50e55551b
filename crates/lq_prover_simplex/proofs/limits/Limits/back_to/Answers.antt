use Rattle.std.proofs.Common.{◌∙◌, ◌<◌, ◌++◌, ◌∷◌, [], ap, arith, append_assoc, length, List}
use Rattle.std.proofs.lemmas.List.{length-set}
use Rattle.lq_prover_simplex.specs.declared.limits.Change.{Change}
use Rattle.lq_prover_simplex.proofs.Histories.{history_back, taken_inside, undone}
use Rattle.lq_prover_simplex.proofs.limits.Limits.back_to.Goals as goal

pub loop-change-preserved : goal.loop-change-preserved
loop-change-preserved c =
    let before = c.loop-change.invariant in
    let changes = c.loop-change.self.changes.items in let first = c.pop_after.new.self.changes.items in let intervals = c.loop-change.self.intervals.items in
    let change = c.in-Some.change in
    let some = c.in-Some.ensures.some in
    let inside : change.variable < length intervals =
    (let l = taken_inside c.args.self.now.changes.items changes first before.front.0 change (length c.args.self.now.intervals.items) before.front.1 some.1 c.requires.1.variables_in in let m = before.size in omega arith) in
    rw c.pop_after.ensures.intervals (record {
      front = (change ∷ before.front.0, before.front.1 ∙ ap (λ (l : List Change). l ++ before.front.0) some.1 ∙ append_assoc first (change ∷ []) before.front.0);
      size = length-set intervals change.variable change.old ∙ before.size;
      back = λ n k h. undone changes first intervals change n k some.1 (let l = some.0 in omega arith) inside ∙ before.back n k h;
    })

pub returns-clause-history : goal.returns-clause-history
returns-clause-history c = λ rows h.
    let before = c.loop-change.invariant in
    let none = c.in_default.ensures.none in
    rw (none.0, c.pop_after.ensures.intervals)
    (history_back rows c.args.self.now.intervals.items c.loop-change.self.intervals.items c.args.self.now.changes.items c.loop-change.self.changes.items before.front.0 c.args.count h before.front.1
    before.size before.back none.1)
