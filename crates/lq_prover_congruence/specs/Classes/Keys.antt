-- The terms of a table, without the memory that holds them.
use Rattle.std.specs.Prelude.{ℕ, List, [], ◌∷◌}
use Rattle.lq_prover_congruence.specs.Classes.Terms.{Term}
use Rattle.lq_prover_congruence.specs.declared.classes.table.Key.{Key}

abbrev pub term_of : Key → Term
term_of k = (k.head, k.args.items)

abbrev pub entries_of : List (Key × ℕ) → List (Term × ℕ)
entries_of [] = []
entries_of (e ∷ es) = (term_of e.0, e.1) ∷ entries_of es
