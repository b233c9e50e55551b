use Rattle.std.proofs.Common.{rules, ◌≡◌, ◌∙◌, Bool, true, false, not, refl, sym}
use Rattle.lq_prover_case.specs.State.Flags.{first, again, other}
use Rattle.lq_prover_case.proofs.state.flags.give.Goals as goal

pub returns-in_ok-note-in-None-clause-ok : goal.returns-in_ok-note-in-None-clause-ok
returns-in_ok-note-in-None-clause-ok c = first (sym c.giver_of.ensures ∙ c.in-None.is) c.in_ok-note-in-None.ensures.ok

pub returns-then-first-value-clause-ok : goal.returns-then-first-value-clause-ok
returns-then-first-value-clause-ok c = again c.in-Some.first (sym c.giver_of.ensures ∙ c.in-Some.is) (search rules) refl

apart : (a b : Bool) → (a ≡ b → ⊥) → a ≡ not b
apart true true h = absurd (h refl)
apart false false h = absurd (h refl)
apart true false h = refl
apart false true h = refl

pub returns-else-first-value-clause-ok : goal.returns-else-first-value-clause-ok
returns-else-first-value-clause-ok c = other c.in-Some.first (sym c.giver_of.ensures ∙ c.in-Some.is) (apart c.in-Some.first.value c.args.value (search rules)) refl
