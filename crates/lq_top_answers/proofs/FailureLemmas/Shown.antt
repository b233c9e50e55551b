-- The lines on a point, read one after the other.
use Rattle.std.specs.Prelude.{nat_eq}
use Rattle.std.specs.List.{position_or_len}
use Rattle.std.proofs.Common.{◌≡◌, ℕ, ◌+◌, ℤ, List, [], ◌∷◌, map, All, Bool, not, cond, refl, ap, ap₂, subst, ◌∙◌}
use Rattle.std.proofs.lemmas.Bool.{eq-eqb}
use Rattle.std.proofs.lemmas.List.Elements.{All-head, All-tail}
use Rattle.lq_base_numbers.specs.Rationals.LowestTerms.{IsLowest, lowest_terms_once}
use Rattle.lq_logic_predicates.specs.Points.{Point}
use Rattle.lq_logic_predicates.specs.Sum.{Sum, var}
use Rattle.lq_logic_predicates.specs.declared.symbol.Symbol.{Symbol}
use Rattle.lq_top_answers.specs.Failure.Occurrences.{Valued, number, object}
use Rattle.lq_top_answers.specs.Failure.PointLines.{PointValue, at_number, at_truth, at_class, IsValue}

-- the first line, and the ones behind it
pub record Read (p : Point) (ks : List ℕ) (x : Valued) (xs : List Valued) (lines : List (Valued × PointValue)) : Type 0 where
  pub value : PointValue
  pub rest : List (Valued × PointValue)
  pub is : lines ≡ (x, value) ∷ rest
  pub holds : IsValue p ks x value
  pub of : map (λ (l : Valued × PointValue). l.0) rest ≡ xs
  pub values : All (λ (l : Valued × PointValue). IsValue p ks l.0 l.1) rest

pub read : (p : Point) (ks : List ℕ) (x : Valued) (xs : List Valued) (lines : List (Valued × PointValue)) → map (λ (l : Valued × PointValue). l.0) lines ≡ x ∷ xs
    → All (λ (l : Valued × PointValue). IsValue p ks l.0 l.1) lines → Read p ks x xs lines
read p ks x xs [] e all = absurd cc
read p ks x xs (l ∷ lines) e all =
    let same : l.0 ≡ x = cc in
    let behind : map (λ (m : Valued × PointValue). m.0) lines ≡ xs = cc in
    record {
      value = l.1;
      rest = lines;
      is = ap (λ (y : Valued). (y, l.1) ∷ lines) same;
      holds = subst (λ (y : Valued). IsValue p ks y l.1) same (All-head (λ (m : Valued × PointValue). IsValue p ks m.0 m.1) l lines all);
      of = behind;
      values = All-tail (λ (m : Valued × PointValue). IsValue p ks m.0 m.1) l lines all;
    }

pub read_none : (lines : List (Valued × PointValue)) → map (λ (l : Valued × PointValue). l.0) lines ≡ [] → lines ≡ []
read_none [] e = refl
read_none (l ∷ lines) e = absurd cc

pub number_is : (p : Point) (ks : List ℕ) (t : Sum) (v : PointValue) (n : ℤ) (d : ℕ) → IsLowest (p.number t) n d → IsValue p ks (number t) v → v ≡ at_number n d
number_is p ks t (at_number m e) n d low is = let once = lowest_terms_once (p.number t) m n e d is low in ap₂ at_number once.0 once.1
number_is p ks t (at_truth b) n d low is = absurd is
number_is p ks t (at_class k) n d low is = absurd is

-- the first class is object 1
pub first_class : (p : Point) (x : Symbol) (ks : List ℕ) (v : PointValue) → IsValue p (p.class_of (var x) ∷ ks) (object x) v → v ≡ at_class 1
first_class p x ks (at_number m e) is = absurd is
first_class p x ks (at_truth b) is = absurd is
first_class p x ks (at_class k) is =
    let c = p.class_of (var x) in
    ap at_class (is ∙ ap (λ (b : Bool). cond (not b) (1 + position_or_len (nat_eq c) ks) 0 + 1) (eq-eqb c c refl))
