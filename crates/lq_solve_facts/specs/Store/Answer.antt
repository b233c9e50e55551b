-- What an answer says.
use Rattle.std.specs.Prelude.{ℕ, List}
use Rattle.lq_solve_facts.specs.declared.store.answer.Answer.{Answer}
use Rattle.lq_solve_facts.specs.declared.store.answer.Answer.TheVariants.{Holds, Open, Refuted}

abbrev pub IfHolds : Answer → Type 0 → Type 0
IfHolds Holds X = X
IfHolds (Refuted numbers) X = Unit {0}
IfHolds Open X = Unit {0}

abbrev pub IfRefuted : Answer → (List ℕ → Type 0) → Type 0
IfRefuted Holds P = Unit {0}
IfRefuted (Refuted numbers) P = P numbers.items
IfRefuted Open P = Unit {0}
