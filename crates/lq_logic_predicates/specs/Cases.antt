-- The cases of a reading: the choices of literals that make it true.
use Rattle.std.specs.Prelude.{◌≡◌, Bool, List, [], ◌∷◌, ◌++◌, All, ◌==◌}
use Rattle.lq_logic_rows.specs.Row.{Row, Valuation, RowHolds}
use Rattle.lq_logic_predicates.specs.declared.symbol.Symbol.{Symbol}
use Rattle.lq_logic_predicates.specs.Sum.{Sum}
use Rattle.lq_logic_predicates.specs.Comparison.{Comparison}
use Rattle.lq_logic_predicates.specs.Points.{Point, ComparisonHolds}
use Rattle.lq_logic_predicates.specs.Reading.{Reading, yes, row, flag_is, objects_are, all_of, any_of, Readings, none, more}

-- a literal of a reading: a row or a comparison, or a flag or an equality of objects with its sign
pub data Literal (L : Type 0) : Type 0 where
  row_literal : L → Literal L
  flag_literal : Symbol → Bool → Literal L
  objects_literal : Sum → Sum → Bool → Literal L

mutual
  -- The literals are a case of the reading: that of `yes` has none, `no` has no case, a literal is its own case, all
  -- of some readings take a case of each in turn, and any of some readings takes a case of one of them.
  pub data IsCase (L : Type 0) : Reading L → List (Literal L) → Type 0 where
    case_yes : IsCase L yes []
    case_row : (l : L) → IsCase L (row l) (row_literal l ∷ [])
    case_flag : (x : Symbol) (sign : Bool) → IsCase L (flag_is x sign) (flag_literal x sign ∷ [])
    case_objects : (a b : Sum) (sign : Bool) → IsCase L (objects_are a b sign) (objects_literal a b sign ∷ [])
    case_all : (rs : Readings L) (ls : List (Literal L)) → IsCaseOfEach L rs ls → IsCase L (all_of rs) ls
    case_any : (rs : Readings L) (ls : List (Literal L)) → IsCaseOfOne L rs ls → IsCase L (any_of rs) ls

  pub data IsCaseOfEach (L : Type 0) : Readings L → List (Literal L) → Type 0 where
    each_none : IsCaseOfEach L none []
    each_more : (r : Reading L) (rs : Readings L) (ls ms : List (Literal L)) → IsCase L r ls → IsCaseOfEach L rs ms → IsCaseOfEach L (more r rs) (ls ++ ms)

  pub data IsCaseOfOne (L : Type 0) : Readings L → List (Literal L) → Type 0 where
    one_first : (r : Reading L) (rs : Readings L) (ls : List (Literal L)) → IsCase L r ls → IsCaseOfOne L (more r rs) ls
    one_later : (r : Reading L) (rs : Readings L) (ls : List (Literal L)) → IsCaseOfOne L rs ls → IsCaseOfOne L (more r rs) ls

-- a literal holds: its row or its comparison as given, its flag and its objects at the point
abbrev pub LiteralHolds : {L : Type 0} → (L → Type 0) → Point → Literal L → Type 0
LiteralHolds holds p (row_literal l) = holds l
LiteralHolds holds p (flag_literal x sign) = p.holds x ≡ sign
LiteralHolds holds p (objects_literal a b sign) = (p.class_of a == p.class_of b) ≡ sign

-- all literals of one of its cases hold
pub record MeetsCase (L : Type 0) (holds : L → Type 0) (p : Point) (reading : Reading L) : Type 0 where
  pub literals : List (Literal L)
  pub is_case : IsCase L reading literals
  pub hold : All (LiteralHolds holds p) literals

-- a reading of comparisons, at a point
abbrev pub MeetsCaseAt : Point → Reading Comparison → Type 0
MeetsCaseAt p reading = MeetsCase Comparison (ComparisonHolds p) p reading

-- a reading of rows, its rows by a valuation
abbrev pub MeetsCaseOfRows : Valuation → Point → Reading Row → Type 0
MeetsCaseOfRows v p reading = MeetsCase Row (RowHolds v) p reading
