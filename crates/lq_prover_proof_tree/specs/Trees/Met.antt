-- When a point meets a path.
use Rattle.std.specs.Prelude.{◌≡◌, true, ◌==◌, List, [], ◌∷◌}
use Rattle.lq_logic_rows.specs.Row.{Valuation, RowHolds, Row}
use Rattle.lq_logic_predicates.specs.ClosedImplication.{Agree}
use Rattle.lq_logic_predicates.specs.Points.{Point}
use Rattle.lq_logic_predicates.specs.Reading.{Readings}
use Rattle.lq_logic_predicates.specs.RowMeaning.{MeetsAnyRow}
use Rattle.lq_logic_predicates.specs.Sum.{Sum}
use Rattle.lq_logic_predicates.specs.Table.{has_term}
use Rattle.lq_prover_proof_tree.specs.Trees.Path.{Fact, row_fact, flag_fact, objects_fact, never, Path}

-- a fact holds: a row by the valuation, flags and objects at the point
abbrev pub FactHolds : Valuation → Point → Fact → Type 0
FactHolds v p (row_fact r) = RowHolds v r
FactHolds v p (flag_fact x sign) = p.holds x ≡ sign
FactHolds v p (objects_fact a b sign) = (p.class_of a == p.class_of b) ≡ sign
FactHolds v p never = ⊥

abbrev pub AllHold : Valuation → Point → List Fact → Type 0
AllHold v p [] = Unit {0}
AllHold v p (f ∷ fs) = FactHolds v p f × AllHold v p fs

abbrev pub AllChosen : Valuation → Point → List (Readings Row) → Type 0
AllChosen v p [] = Unit {0}
AllChosen v p (rs ∷ rss) = MeetsAnyRow v p rs × AllChosen v p rss

-- each fact of the path holds, and a member of each choice
pub record MeetsPath (v : Valuation) (p : Point) (path : Path) : Type 0 where
  pub facts : AllHold v p path.facts
  pub choices : AllChosen v p path.choices

-- each two of the applications agree at the point
abbrev pub EachAgree : Point → List Sum → Type 0
EachAgree p applications = (s t : Sum) → has_term applications s ≡ true → has_term applications t ≡ true → Agree p s t
