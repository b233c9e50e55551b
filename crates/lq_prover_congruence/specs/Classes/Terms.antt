-- Terms, and lists of terms with a number each.
use Rattle.std.specs.Prelude.{◌==◌, ℕ, zero, suc, Bool, true, false, cond, ◌&&◌, List, [], ◌∷◌, Option, Some, None}
use Rattle.std.specs.Str.{bytes_eq}
use Rattle.lq_logic_predicates.specs.Sum.{same_symbol}
use Rattle.lq_prover_congruence.specs.declared.classes.head.Head.{Head}
use Rattle.lq_prover_congruence.specs.declared.classes.head.Head.TheVariants.{Symbol, Length, Measure}

-- a head and the numbers of the arguments
abbrev pub Term : Type 0
Term = Head × List ℕ

-- whether two heads are one
abbrev pub same_head : Head → Head → Bool
same_head (Symbol x) (Symbol y) = same_symbol x y
same_head Length Length = true
same_head (Measure f) (Measure g) = f.0 == g.0
same_head (Symbol x) Length = false
same_head (Symbol x) (Measure g) = false
same_head Length (Symbol y) = false
same_head Length (Measure g) = false
same_head (Measure f) (Symbol y) = false
same_head (Measure f) Length = false

-- whether two terms are one
abbrev pub same_term : Term → Term → Bool
same_term s t = same_head s.0 t.0 && bytes_eq s.1 t.1

-- the number of a term in a list
abbrev pub find_in : List (Term × ℕ) → Term → Option ℕ
find_in [] t = None
find_in (e ∷ es) t = cond (same_term t e.0) (Some e.1) (find_in es t)

-- the term at a place, and a length of nothing past the end
abbrev pub term_in : List (Term × ℕ) → ℕ → Term
term_in [] i = (Length, [])
term_in (e ∷ es) zero = e.0
term_in (e ∷ es) (suc i) = term_in es i
