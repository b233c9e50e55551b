use Rattle.std.proofs.Common.{◌≡◌, ◌∙◌, ◌<◌, ◌+◌, ◌++◌, ◌∷◌, [], sym, ap, subst, take, length, rules}
use Rattle.std.proofs.lemmas.List.{take_more}
use Rattle.lq_logic_rows.specs.Steps.{valuation_of}
use Rattle.lq_prover_simplex.specs.declared.line.Entry.{Entry}
use Rattle.lq_logic_rows.specs.declared.bound.Side.{Side}
use Rattle.lq_prover_simplex.specs.Bounds.{limit_at, AllBlocked}
use Rattle.lq_prover_simplex.proofs.Limiting.{variables_below, blocked_push}
use Rattle.std.proofs.lemmas.Option.{slice_get_within, get_or_from_slice_get}
use Rattle.lq_prover_simplex.proofs.Values.{value_there}
use Rattle.lq_prover_simplex.proofs.limits.Limits.entering.Goals as goal

pub offset_bounds-values-entry : goal.offset_bounds-values-entry
offset_bounds-values-entry c =
    let b : c.entry-entry.result.variable < length c.args.values.now =
    variables_below (length c.args.values.now) c.args.line.now c.loop-at.at c.entry-entry.result c.requires (c.entry-entry.ensures) in
    search rules

pub bounds-values-entry : goal.bounds-values-entry
bounds-values-entry c =
    variables_below (length c.args.values.now) c.args.line.now c.loop-at.at c.entry-entry.result c.requires (c.entry-entry.ensures)

pub returns-then-not-is_stuck-clause-some : goal.returns-then-not-is_stuck-clause-some
returns-then-not-is_stuck-clause-some c = (c.loop-at.at, c.entry-entry.ensures, c.loop-at.invariant)

pub returns-then-not-is_stuck-clause-moves : goal.returns-then-not-is_stuck-clause-moves
returns-then-not-is_stuck-clause-moves c = λ blocked.
    let line = c.args.line.now in let i = c.loop-at.at in let e = c.entry-entry.result in let values = c.args.values.now in
    let within : e.variable < length values = variables_below (length values) line i e c.requires c.entry-entry.ensures in
    c.is_stuck.ensures.no c.if-not-is_stuck.true blocked.limit
    (ap (λ (s : Side). limit_at c.args.self.now s e.variable) c.blocking-toward.ensures ∙ blocked.is)
    (rw (c.blocking-toward.ensures, sym (value_there values e.variable c.index-values-entry.result within c.index-values-entry.is)) blocked.past)

pub loop-at-preserved : goal.loop-at-preserved
loop-at-preserved c =
    let line = c.args.line.now in let i = c.loop-at.at in let e = c.entry-entry.result in let values = c.args.values.now in
    let within : e.variable < length values = variables_below (length values) line i e c.requires c.entry-entry.ensures in
    let stuck = c.is_stuck.ensures.yes c.if-not-is_stuck.false in
    let more : take (i + 1) line ≡ take i line ++ e ∷ [] = take_more line i e (slice_get_within line i e c.entry-entry.ensures) ∙ ap (λ (f : Entry). take i line ++ f ∷ []) (get_or_from_slice_get line i e e c.entry-entry.ensures) in
    subst (AllBlocked c.args.self.now c.args.side (valuation_of values)) (sym more)
    (blocked_push c.args.self.now c.args.side (valuation_of values) (take i line) e c.loop-at.invariant
    (record {
      limit = stuck.0;
      is = ap (λ (s : Side). limit_at c.args.self.now s e.variable) (sym c.blocking-toward.ensures) ∙ stuck.1;
      past = rw (sym c.blocking-toward.ensures, value_there values e.variable c.index-values-entry.result within c.index-values-entry.is) stuck.2;
    }))
