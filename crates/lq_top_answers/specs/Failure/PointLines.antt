-- The lines on a point: what an implication speaks of, with its values there.
use Rattle.std.specs.Prelude.{◌≡◌, ℕ, ℤ, ◌+◌, nat_eq, Bool, true, false, List, [], ◌∷◌, ◌++◌, map, All, codes, decimal}
use Rattle.std.specs.List.{position_or_len}
use Rattle.lq_base_numbers.specs.Rationals.LowestTerms.{IsLowest}
use Rattle.lq_logic_predicates.specs.ClosedImplication.{ClosedImplication}
use Rattle.lq_logic_predicates.specs.Points.{Point}
use Rattle.lq_logic_predicates.specs.Sum.{var}
use Rattle.lq_logic_text.specs.Calling.{Calling, symbol_text}
use Rattle.lq_logic_text.specs.Terms.{term_text}
use Rattle.lq_top_answers.specs.Failure.Numbers.{fraction_text}
use Rattle.lq_top_answers.specs.Failure.Occurrences.{Valued, number, truth_value, object, firsts, shown}

-- a number by its lowest terms, a truth value, or a class of objects by its number
pub data PointValue : Type 0 where
  at_number : ℤ → ℕ → PointValue
  at_truth : Bool → PointValue
  at_class : ℕ → PointValue

abbrev pub value_text : PointValue → List ℕ
value_text (at_number n d) = fraction_text n d
value_text (at_truth true) = codes "true"
value_text (at_truth false) = codes "false"
value_text (at_class n) = codes "object " ++ decimal n

-- a line for each of these texts, with its value
abbrev pub point_lines : List (List ℕ × PointValue) → List ℕ
point_lines [] = []
point_lines (l ∷ ls) = l.0 ++ codes " = " ++ value_text l.1 ++ codes "\n" ++ point_lines ls

-- what it is called
abbrev pub label : Calling → Valued → List ℕ
label c (number t) = term_text c t
label c (truth_value x) = symbol_text c x
label c (object x) = symbol_text c x

-- the lines on these, each with its value
abbrev pub valued_lines : Calling → List (Valued × PointValue) → List ℕ
valued_lines c ls = point_lines (map (λ l. (label c l.0, l.1)) ls)

-- the classes of the objects among these
abbrev pub classes_of : Point → List Valued → List ℕ
classes_of p [] = []
classes_of p (number t ∷ xs) = classes_of p xs
classes_of p (truth_value x ∷ xs) = classes_of p xs
classes_of p (object x ∷ xs) = p.class_of (var x) ∷ classes_of p xs

-- each once
abbrev pub classes_among : Point → List Valued → List ℕ
classes_among p xs = firsts nat_eq (classes_of p xs)

-- which of these classes one is, counted from 1
abbrev pub class_number : List ℕ → ℕ → ℕ
class_number ks k = position_or_len (nat_eq k) ks + 1

-- its value at the point, where the objects have these classes
abbrev pub IsValue : Point → List ℕ → Valued → PointValue → Type 0
IsValue p ks (number t) (at_number n d) = IsLowest (p.number t) n d
IsValue p ks (truth_value x) (at_truth b) = b ≡ p.holds x
IsValue p ks (object x) (at_class n) = n ≡ class_number ks (p.class_of (var x))
IsValue p ks (number t) (at_truth b) = ⊥
IsValue p ks (number t) (at_class n) = ⊥
IsValue p ks (truth_value x) (at_number n d) = ⊥
IsValue p ks (truth_value x) (at_class n) = ⊥
IsValue p ks (object x) (at_number n d) = ⊥
IsValue p ks (object x) (at_truth b) = ⊥

-- each of these with its value, the classes of its objects numbered by their first appearance
pub record AreValued (p : Point) (xs : List Valued) (lines : List (Valued × PointValue)) : Type 0 where
  pub of : map (λ l. l.0) lines ≡ xs
  pub values : All (λ l. IsValue p (classes_among p xs) l.0 l.1) lines

-- the text is the lines on a point of the implication
pub record ShowsPoint (c : Calling) (i : ClosedImplication) (p : Point) (text : List ℕ) : Type 0 where
  pub lines : List (Valued × PointValue)
  pub valued : AreValued p (shown i) lines
  pub written : text ≡ valued_lines c lines
