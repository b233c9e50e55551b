-- How terms are written: one blank on each side of an operator, and parentheses where an operator binds less tightly than its place asks for.
use Rattle.std.specs.Prelude.{ℕ, nat_lt, Bool, true, false, List, ◌++◌, codes, if◌then◌else◌}
use Rattle.std.specs.Fmt.{signed_decimal}
use Rattle.lq_logic_predicates.specs.Sum.{Sum, whole, var, neg, add, sub, mul, div, rem, len, measure}
use Rattle.lq_logic_text.specs.Calling.{Calling, name_text, symbol_text}

-- How tightly a form binds: `<=>` 0, `||` 1, `&&` 2, `not` 3, comparisons 4, `+` and `-` 5, `*`, `/` and `mod` 6, a unary minus 7, and what has no
-- operator 8.
abbrev pub term_level : Sum → ℕ
term_level (whole n) = 8
term_level (var x) = 8
term_level (neg a) = 7
term_level (add a b) = 5
term_level (sub a b) = 5
term_level (mul a b) = 6
term_level (div a b) = 6
term_level (rem a b) = 6
term_level (len a) = 8
term_level (measure f a) = 8

abbrev pub in_parentheses : List ℕ → List ℕ
in_parentheses text = codes "(" ++ text ++ codes ")"

-- a form of a level at a place that asks for one
abbrev pub placed : ℕ → ℕ → List ℕ → List ℕ
placed asked level text = if nat_lt level asked then in_parentheses text else text

-- behind `*` a quotient and a remainder stand in parentheses, since without them the product would be divided
abbrev pub factor_level : Sum → ℕ
factor_level (div a b) = 5
factor_level (rem a b) = 5
factor_level a = term_level a

abbrev pub term_text : Calling → Sum → List ℕ
term_text c (whole n) = signed_decimal n
term_text c (var x) = symbol_text c x
term_text c (neg a) = codes "-" ++ placed 7 (term_level a) (term_text c a)
term_text c (add a b) = placed 5 (term_level a) (term_text c a) ++ codes " + " ++ placed 5 (term_level b) (term_text c b)
term_text c (sub a b) = placed 5 (term_level a) (term_text c a) ++ codes " - " ++ placed 6 (term_level b) (term_text c b)
term_text c (mul a b) = placed 6 (term_level a) (term_text c a) ++ codes " * " ++ placed 6 (factor_level b) (term_text c b)
term_text c (div a b) = placed 6 (term_level a) (term_text c a) ++ codes " / " ++ placed 7 (term_level b) (term_text c b)
term_text c (rem a b) = placed 6 (term_level a) (term_text c a) ++ codes " mod " ++ placed 7 (term_level b) (term_text c b)
term_text c (len a) = codes "Array.length " ++ placed 8 (term_level a) (term_text c a)
term_text c (measure f a) = name_text c.names f.0 ++ codes " " ++ placed 8 (term_level a) (term_text c a)
