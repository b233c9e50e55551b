-- The sum that a term of the code stands for.
use Rattle.std.specs.Prelude.{List}
use Rattle.lq_logic_predicates.specs.Sum.{Sum, whole, var, neg, add, sub, mul, div, rem, len, measure}
use Rattle.lq_logic_predicates.specs.declared.term.Terms.{Terms}
use Rattle.lq_logic_predicates.specs.declared.term.Term.{Term, Whole, Var, Neg', Add', Sub', Mul', Div', Mod', Length', Measure'}

abbrev pub sum_of : Term → Sum
sum_of (Whole n) = whole n
sum_of (Var x) = var x
sum_of (Neg' p a) = neg (sum_of a)
sum_of (Add' p a q b) = add (sum_of a) (sum_of b)
sum_of (Sub' p a q b) = sub (sum_of a) (sum_of b)
sum_of (Mul' p a q b) = mul (sum_of a) (sum_of b)
sum_of (Div' p a q b) = div (sum_of a) (sum_of b)
sum_of (Mod' p a q b) = rem (sum_of a) (sum_of b)
sum_of (Length' p a) = len (sum_of a)
sum_of (Measure' f p a) = measure f (sum_of a)

-- the terms of a row
abbrev pub term_items : Terms → List Term
term_items terms = terms.items.items
