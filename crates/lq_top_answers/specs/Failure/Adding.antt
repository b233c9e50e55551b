-- Lines on a point that are added one after the other.
use Rattle.std.specs.Prelude.{◌≡◌, ℕ, nat_eq, List, [], ◌∷◌, ◌++◌, map, take, All}
use Rattle.lq_logic_predicates.specs.Points.{Point}
use Rattle.lq_logic_text.specs.Calling.{Calling}
use Rattle.lq_top_answers.specs.Failure.Collected.{with_each}
use Rattle.lq_top_answers.specs.Failure.Occurrences.{Valued}
use Rattle.lq_top_answers.specs.Failure.PointLines.{AreValued, PointValue, IsValue, valued_lines, classes_of, classes_among}

-- the bytes have one line more, and the classes are those with that of an object
pub record AddsLine (c : Calling) (p : Point) (x : Valued) (old new classes classes_after : List ℕ) : Type 0 where
  pub value : PointValue
  pub is : IsValue p classes_after x value
  pub written : new ≡ old ++ valued_lines c ((x, value) ∷ [])
  pub numbered : classes_after ≡ with_each nat_eq classes (classes_of p (x ∷ []))

-- the bytes have a line more for each of the first so many
pub record ShowsFirst (c : Calling) (p : Point) (xs : List Valued) (n : ℕ) (old new classes : List ℕ) : Type 0 where
  pub lines : List (Valued × PointValue)
  pub of : map (λ l. l.0) lines ≡ take n xs
  pub values : All (λ l. IsValue p (classes_among p xs) l.0 l.1) lines
  pub written : new ≡ old ++ valued_lines c lines
  pub numbered : classes ≡ classes_among p (take n xs)

-- the bytes have a line more for each of these
pub record AddsLines (c : Calling) (p : Point) (xs : List Valued) (old new : List ℕ) : Type 0 where
  pub lines : List (Valued × PointValue)
  pub valued : AreValued p xs lines
  pub written : new ≡ old ++ valued_lines c lines
