use Rattle.std.proofs.Common.{◌≡◌, ℕ, ◌<◌, ◌-◌, ◌∙◌, length, inr, arith, rules, refl, sym, subst, slice_get, List, Some, Err, IfErr}
use Rattle.lq_logic_rows.specs.Forms.{Parts}
use Rattle.lq_logic_rows.specs.Steps.{valuation_of}
use Rattle.lq_prover_simplex.specs.Standing.{AllRead}
use Rattle.lq_prover_simplex.specs.Bounds.{bound_value}
use Rattle.lq_prover_simplex.specs.Configurations.{FreeKeep, Settles}
use Rattle.lq_prover_simplex.proofs.Tables.{line_variables, kept}
use Rattle.lq_prover_simplex.proofs.Resting.{settle_step, exchange_brings}
use Rattle.lq_prover_simplex.proofs.Keeping.{keep_step, broken_apart}
use Rattle.lq_prover_simplex.proofs.Turning.{IsTurn}
use Rattle.lq_prover_simplex.proofs.Chaining.{no_turns, one_turn, turns_cause, work_cause, explained_cause}
use Rattle.lq_base_numbers.specs.Fractions.Value.{value_of}
use Rattle.lq_prover_pivots.specs.Work.Work.{IsOneOrEntry}
use Rattle.lq_prover_simplex.specs.declared.line.Entry.{Entry}
use Rattle.lq_prover_simplex.specs.Bounds.{limit_at}
use Rattle.lq_prover_simplex.specs.Table.{HasCause}
use Rattle.lq_prover_simplex.proofs.Bounding.{variables_of}
use Rattle.lq_prover_simplex.proofs.Configuring.{configuration_of}
use Rattle.lq_prover_simplex.proofs.Limiting.{beyond_not_within}
use Rattle.lq_prover_simplex.proofs.Keeping.{keeps_limit}
use Rattle.lq_prover_simplex.proofs.Working.{Leaves, line_entry, exchange_work, settled_work}
use Rattle.lq_prover_simplex.proofs.tableau.pivots.Goals as goal

pub entering-requires : goal.entering-requires
entering-requires c =
    rw (c.values-in-loop-broken.ensures.values, c.line-line.ensures.line) (line_variables c.loop-broken.basis c.in-Some.broken.variable c.line-line.ensures.system)

pub explain-requires : goal.explain-requires
explain-requires c =
    let some = rw c.values.ensures.values at c.in-Some.ensures.some in
    let blocked = rw (c.values-in-loop-broken.ensures.values, c.line-line.ensures.line) at c.in_default-entering.ensures.none in
    rw c.line-line.ensures.line
    (kept c.loop-broken.basis c.args.rows.now c.args.limits.now c.in-Some.broken c.line-line.ensures.system
    (subst (λ (forms : List Parts). AllRead forms c.args.rows.now) (sym c.loop-broken.invariant.forms) c.requires.read) c.requires.apart c.requires.tightest.given some.0 some.1 blocked)

pub pivot-requires-clause-entry : goal.pivot-requires-clause-entry
pivot-requires-clause-entry c =
    let e = rw c.line-line.ensures.line at c.in-Some-entering.ensures.some in (e.0, e.1)

pub loop-broken-preserved : goal.loop-broken-preserved
loop-broken-preserved c =
    let s = c.loop-broken.basis in let d = c.pivot.new.self in let limits = c.args.limits.now in
    let before = c.loop-broken.invariant in
    let broken = c.in-Some.broken in let e = c.in-Some-entering.entry in
    let some = rw c.values.ensures.values at c.in-Some.ensures.some in
    let least = rw c.values.ensures.values at c.in-Some.ensures.least in
    let there = rw (c.values-in-loop-broken.ensures.values, c.line-line.ensures.line) at c.in-Some-entering.ensures.some in
    let moves = rw c.values-in-loop-broken.ensures.values at c.in-Some-entering.ensures.moves in
    let inside : broken.variable < length s.forms = (let v = c.line-line.ensures.system.valued in let h = some.0 in omega arith) in
    let exchanges = c.in_ok-pivot.ensures.exchanged in
    let brings = exchange_brings s d broken.variable e.variable (bound_value broken.limit) exchanges in
    let forms : d.forms ≡ s.forms = c.in_ok-pivot.ensures.forms in
    let keeps : FreeKeep limits d = keep_step limits s d broken.variable broken (valuation_of s.values broken.variable)
    (c.requires.uncrossed broken.variable (rw (sym before.forms) inside)) refl some.1 brings forms before.keeps in
    let settles : Settles limits c.args.basis.now d =
    settle_step limits c.args.basis.now s d broken.variable (valuation_of s.values broken.variable) broken before.settles refl some.1 brings in
    let turn : IsTurn s d c.args.rows.now limits broken there.0 e = record {
      system = c.line-line.ensures.system;
      next = c.in_ok-pivot.ensures.system;
      read = subst (λ (fs : List Parts). AllRead fs c.args.rows.now) (sym before.forms) c.requires.read;
      tightest = c.requires.tightest;
      inside = inside;
      breaks = some.1;
      least = least;
      there = there.1;
      blocked = there.2;
      moves = moves;
      exchanges = exchanges;
      keep = before.keeps;
      keep_next = keeps;
      forms = forms;
    } in
    record {
      system = c.in_ok-pivot.ensures.system;
      within = let l = before.within in omega arith;
      turns = one_turn c.args.basis.now s d c.args.rows.now limits broken there.0 e (c.args.limit - c.loop-broken.left) _ (let l = before.within in omega arith)
          before.terms before.forms c.in_ok-pivot.ensures.terms settles turn before.turns;
      terms = c.in_ok-pivot.ensures.terms ∙ before.terms;
      forms = forms ∙ before.forms;
      keeps = keeps;
      settles = settles;
    }

pub loop-broken-init : goal.loop-broken-init
loop-broken-init c = record {
  system = c.requires.system;
  within = omega arith;
  turns = no_turns c.args.basis.now c.args.rows.now (c.args.limit - c.args.limit) (omega arith) c.requires.system;
  terms = refl;
  forms = refl;
  settles = λ j f. inr (f, refl);
  keeps = c.requires.keeps;
}

pub returns-then-left-eq0-clause-stop : goal.returns-then-left-eq0-clause-stop
returns-then-left-eq0-clause-stop c =
    turns_cause c.args.basis.now c.loop-broken.basis c.args.rows.now c.args.limit (c.args.limit - c.loop-broken.left) c.requires.system
    (let t = c.if-left-eq0.true in omega arith) c.loop-broken.invariant.turns

pub pivot-requires-clause-apart : goal.pivot-requires-clause-apart
pivot-requires-clause-apart c =
    let some = rw c.values.ensures.values at c.in-Some.ensures.some in
    let e = rw c.line-line.ensures.line at c.in-Some-entering.ensures.some in
    broken_apart c.args.limits.now c.loop-broken.basis c.in-Some.broken e.0 c.in-Some-entering.entry c.line-line.ensures.system.are_lines (let v = c.line-line.ensures.system.valued in let h = some.0 in omega arith) c.loop-broken.invariant.keeps some.1 e.1

pub returns-in_err-explain-clause-stop : goal.returns-in_err-explain-clause-stop
returns-in_err-explain-clause-stop c =
    let old = c.args.basis.now in let s = c.loop-broken.basis in let rows = c.args.rows.now in let limits = c.args.limits.now in
    let before = c.loop-broken.invariant in let b = c.in-Some.broken.variable in
    let some = rw c.values.ensures.values at c.in-Some.ensures.some in
    let inside : b < length s.forms = (let v = c.line-line.ensures.system.valued in let h = some.0 in omega arith) in
    let line : List Entry = c.line-line.result.now in
    let e = c.in_err-explain.field-0.0 in
    let was : c.from_residual.result ≡ Err e = search rules in
    let entries : (k : ℕ) (f : Entry) → slice_get line k ≡ Some f → IsOneOrEntry (variables_of s) (configuration_of s) (value_of f.factor) =
    (λ k f there. inr (line_entry s b k f c.line-line.ensures.system inside (subst (λ (es : List Entry). slice_get es k ≡ Some f) c.line-line.ensures.line there))) in
    subst (λ r. IfErr r (HasCause old rows c.args.limit)) (sym was)
    (explained_cause old s rows limits c.args.limit line e c.requires.read c.requires.tightest before.terms before.forms before.settles c.line-line.ensures.system entries
    c.in_err-explain.ensures.stop)

pub returns-in_err-pivot-clause-stop : goal.returns-in_err-pivot-clause-stop
returns-in_err-pivot-clause-stop c =
    let old = c.args.basis.now in let s = c.loop-broken.basis in let rows = c.args.rows.now in let limits = c.args.limits.now in
    let before = c.loop-broken.invariant in let broken = c.in-Some.broken in let b = broken.variable in let entry = c.in-Some-entering.entry in
    let some = rw c.values.ensures.values at c.in-Some.ensures.some in
    let there = rw (c.values-in-loop-broken.ensures.values, c.line-line.ensures.line) at c.in-Some-entering.ensures.some in
    let inside : b < length s.forms = (let v = c.line-line.ensures.system.valued in let h = some.0 in omega arith) in
    let e = c.in_err-pivot.field-0.0 in
    let was : c.from_residual-in_err-pivot.result ≡ Err e = search rules in
    let leaves : Leaves s b there.0 entry = record {
      system = c.line-line.ensures.system;
      inside = inside;
      there = there.1;
      basic = λ free.
          beyond_not_within broken.side (valuation_of s.values b) (bound_value broken.limit) some.1.beyond
          (keeps_limit broken.side (valuation_of s.values b) (limit_at limits broken.side b) broken.limit (before.keeps b inside free broken.side) some.1.limit);
    } in
    subst (λ r. IfErr r (HasCause old rows c.args.limit)) (sym was)
    (work_cause old rows limits c.args.limit e c.requires.read c.requires.tightest
    (settled_work old s limits e before.terms before.forms before.settles
    (exchange_work s limits b there.0 entry broken.side broken.limit e leaves some.1.limit c.in_err-pivot.ensures.stop)))
