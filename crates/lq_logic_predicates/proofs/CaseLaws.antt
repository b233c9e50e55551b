-- A reading is met exactly where all literals of one of its cases hold.
use Rattle.std.proofs.Common.{◌≡◌, ◌⊎◌, inl, inr, List, [], ◌∷◌, ◌++◌, All}
use Rattle.std.specs.List.{AllByRecursion}
use Rattle.std.proofs.lemmas.List.Elements.{All-from_recursion, recursion_from_All}
use Rattle.lq_logic_rows.specs.Row.{Row, Valuation, RowHolds}
use Rattle.lq_logic_predicates.specs.Comparison.{Comparison}
use Rattle.lq_logic_predicates.specs.Points.{Point, ComparisonHolds, Meets, MeetsAll, MeetsAny}
use Rattle.lq_logic_predicates.specs.Reading.{Reading, yes, no, row, flag_is, objects_are, all_of, any_of, Readings, none, more}
use Rattle.lq_logic_predicates.specs.RowMeaning.{MeetsRows, MeetsAllRows, MeetsAnyRow}
use Rattle.lq_logic_predicates.specs.Cases.{Literal, row_literal, flag_literal, objects_literal, IsCase, case_yes, case_row, case_flag, case_objects, case_all, case_any, IsCaseOfEach, each_none, each_more, IsCaseOfOne, one_first, one_later, LiteralHolds, MeetsCase}

-- what holds of two lists of literals holds of both together
both_hold : {X : Type 0} (P : X → Type 0) (xs ys : List X) → AllByRecursion P xs → AllByRecursion P ys → AllByRecursion P (xs ++ ys)
both_hold P [] ys h k = k
both_hold P (x ∷ xs) ys h k = (h.0, both_hold P xs ys h.1 k)

first_holds : {X : Type 0} (P : X → Type 0) (xs ys : List X) → AllByRecursion P (xs ++ ys) → AllByRecursion P xs
first_holds P [] ys h = tt
first_holds P (x ∷ xs) ys h = (h.0, first_holds P xs ys h.1)

second_holds : {X : Type 0} (P : X → Type 0) (xs ys : List X) → AllByRecursion P (xs ++ ys) → AllByRecursion P ys
second_holds P [] ys h = h
second_holds P (x ∷ xs) ys h = second_holds P xs ys h.1

-- a reading is met, its rows or its comparisons as given
abbrev mutual
  MeetsBy : {L : Type 0} → (L → Type 0) → Point → Reading L → Type 0
  MeetsBy holds p yes = Unit {0}
  MeetsBy holds p no = ⊥
  MeetsBy holds p (row l) = LiteralHolds holds p (row_literal l)
  MeetsBy holds p (flag_is x sign) = LiteralHolds holds p (flag_literal x sign)
  MeetsBy holds p (objects_are a b sign) = LiteralHolds holds p (objects_literal a b sign)
  MeetsBy holds p (all_of rs) = MeetsEachBy holds p rs
  MeetsBy holds p (any_of rs) = MeetsOneBy holds p rs

  MeetsEachBy : {L : Type 0} → (L → Type 0) → Point → Readings L → Type 0
  MeetsEachBy holds p none = Unit {0}
  MeetsEachBy holds p (more r rs) = MeetsBy holds p r × MeetsEachBy holds p rs

  MeetsOneBy : {L : Type 0} → (L → Type 0) → Point → Readings L → Type 0
  MeetsOneBy holds p none = ⊥
  MeetsOneBy holds p (more r rs) = MeetsBy holds p r ⊎ MeetsOneBy holds p rs

-- literals that hold, of which a relation speaks
record Chosen (L : Type 0) (holds : L → Type 0) (p : Point) (Is : List (Literal L) → Type 0) : Type 0 where
  literals : List (Literal L)
  is : Is literals
  hold : AllByRecursion (LiteralHolds holds p) literals

mutual
  chosen : (L : Type 0) (holds : L → Type 0) (p : Point) (r : Reading L) → MeetsBy holds p r → Chosen L holds p (IsCase L r)
  chosen L holds p yes h = record { literals = []; is = case_yes; hold = tt }
  chosen L holds p no h = absurd h
  chosen L holds p (row l) h = record { literals = row_literal l ∷ []; is = case_row l; hold = (h, tt) }
  chosen L holds p (flag_is x sign) h = record { literals = flag_literal x sign ∷ []; is = case_flag x sign; hold = (h, tt) }
  chosen L holds p (objects_are a b sign) h = record { literals = objects_literal a b sign ∷ []; is = case_objects a b sign; hold = (h, tt) }
  chosen L holds p (all_of rs) h = let k = each_chosen L holds p rs h in record { literals = k.literals; is = case_all rs k.literals k.is; hold = k.hold }
  chosen L holds p (any_of rs) h = let k = one_chosen L holds p rs h in record { literals = k.literals; is = case_any rs k.literals k.is; hold = k.hold }

  each_chosen : (L : Type 0) (holds : L → Type 0) (p : Point) (rs : Readings L) → MeetsEachBy holds p rs → Chosen L holds p (IsCaseOfEach L rs)
  each_chosen L holds p none h = record { literals = []; is = each_none; hold = tt }
  each_chosen L holds p (more r rs) h =
      let k = chosen L holds p r h.0 in
      let m = each_chosen L holds p rs h.1 in
      record { literals = k.literals ++ m.literals; is = each_more r rs k.literals m.literals k.is m.is; hold = both_hold (LiteralHolds holds p) k.literals m.literals k.hold m.hold }

  one_chosen : (L : Type 0) (holds : L → Type 0) (p : Point) (rs : Readings L) → MeetsOneBy holds p rs → Chosen L holds p (IsCaseOfOne L rs)
  one_chosen L holds p none h = absurd h
  one_chosen L holds p (more r rs) (inl h) = let k = chosen L holds p r h in record { literals = k.literals; is = one_first r rs k.literals k.is; hold = k.hold }
  one_chosen L holds p (more r rs) (inr h) = let k = one_chosen L holds p rs h in record { literals = k.literals; is = one_later r rs k.literals k.is; hold = k.hold }

mutual
  met : (L : Type 0) (holds : L → Type 0) (p : Point) (r : Reading L) (ls : List (Literal L)) → IsCase L r ls → AllByRecursion (LiteralHolds holds p) ls → MeetsBy holds p r
  met L holds p _ _ case_yes h = tt
  met L holds p _ _ (case_row l) h = h.0
  met L holds p _ _ (case_flag x sign) h = h.0
  met L holds p _ _ (case_objects a b sign) h = h.0
  met L holds p _ _ (case_all rs ls c) h = each_met L holds p rs ls c h
  met L holds p _ _ (case_any rs ls c) h = one_met L holds p rs ls c h

  each_met : (L : Type 0) (holds : L → Type 0) (p : Point) (rs : Readings L) (ls : List (Literal L)) → IsCaseOfEach L rs ls → AllByRecursion (LiteralHolds holds p) ls → MeetsEachBy holds p rs
  each_met L holds p _ _ each_none h = tt
  each_met L holds p _ _ (each_more r rs ls ms c d) h =
      (met L holds p r ls c (first_holds (LiteralHolds holds p) ls ms h), each_met L holds p rs ms d (second_holds (LiteralHolds holds p) ls ms h))

  one_met : (L : Type 0) (holds : L → Type 0) (p : Point) (rs : Readings L) (ls : List (Literal L)) → IsCaseOfOne L rs ls → AllByRecursion (LiteralHolds holds p) ls → MeetsOneBy holds p rs
  one_met L holds p _ _ (one_first r rs ls c) h = inl (met L holds p r ls c h)
  one_met L holds p _ _ (one_later r rs ls c) h = inr (one_met L holds p rs ls c h)

by_case : (L : Type 0) (holds : L → Type 0) (p : Point) (r : Reading L) → (MeetsBy holds p r → MeetsCase L holds p r) × (MeetsCase L holds p r → MeetsBy holds p r)
by_case L holds p r = (
  λ h. let k = chosen L holds p r h in record { literals = k.literals; is_case = k.is; hold = All-from_recursion (LiteralHolds holds p) k.literals k.hold },
  λ m. met L holds p r m.literals m.is_case (recursion_from_All (LiteralHolds holds p) m.literals m.hold),
)

-- the two meanings of readings are of this form
mutual
  meets_by : (p : Point) (r : Reading Comparison) → (Meets p r → MeetsBy (ComparisonHolds p) p r) × (MeetsBy (ComparisonHolds p) p r → Meets p r)
  meets_by p yes = (λ h. h, λ h. h)
  meets_by p no = (λ h. h, λ h. h)
  meets_by p (row c) = (λ h. h, λ h. h)
  meets_by p (flag_is x sign) = (λ h. h, λ h. h)
  meets_by p (objects_are a b sign) = (λ h. h, λ h. h)
  meets_by p (all_of rs) = all_by p rs
  meets_by p (any_of rs) = any_by p rs

  all_by : (p : Point) (rs : Readings Comparison) → (MeetsAll p rs → MeetsEachBy (ComparisonHolds p) p rs) × (MeetsEachBy (ComparisonHolds p) p rs → MeetsAll p rs)
  all_by p none = (λ h. h, λ h. h)
  all_by p (more r rs) = let one = meets_by p r in let rest = all_by p rs in (λ h. (one.0 h.0, rest.0 h.1), λ h. (one.1 h.0, rest.1 h.1))

  any_by : (p : Point) (rs : Readings Comparison) → (MeetsAny p rs → MeetsOneBy (ComparisonHolds p) p rs) × (MeetsOneBy (ComparisonHolds p) p rs → MeetsAny p rs)
  any_by p none = (λ h. h, λ h. h)
  any_by p (more r rs) =
      let one = meets_by p r in let rest = any_by p rs in
      (λ h. elim h [ inl a ↦ inl (one.0 a) | inr b ↦ inr (rest.0 b) ], λ h. elim h [ inl a ↦ inl (one.1 a) | inr b ↦ inr (rest.1 b) ])

mutual
  rows_by : (v : Valuation) (p : Point) (r : Reading Row) → (MeetsRows v p r → MeetsBy (RowHolds v) p r) × (MeetsBy (RowHolds v) p r → MeetsRows v p r)
  rows_by v p yes = (λ h. h, λ h. h)
  rows_by v p no = (λ h. h, λ h. h)
  rows_by v p (row c) = (λ h. h, λ h. h)
  rows_by v p (flag_is x sign) = (λ h. h, λ h. h)
  rows_by v p (objects_are a b sign) = (λ h. h, λ h. h)
  rows_by v p (all_of rs) = all_rows_by v p rs
  rows_by v p (any_of rs) = any_row_by v p rs

  all_rows_by : (v : Valuation) (p : Point) (rs : Readings Row) → (MeetsAllRows v p rs → MeetsEachBy (RowHolds v) p rs) × (MeetsEachBy (RowHolds v) p rs → MeetsAllRows v p rs)
  all_rows_by v p none = (λ h. h, λ h. h)
  all_rows_by v p (more r rs) = let one = rows_by v p r in let rest = all_rows_by v p rs in (λ h. (one.0 h.0, rest.0 h.1), λ h. (one.1 h.0, rest.1 h.1))

  any_row_by : (v : Valuation) (p : Point) (rs : Readings Row) → (MeetsAnyRow v p rs → MeetsOneBy (RowHolds v) p rs) × (MeetsOneBy (RowHolds v) p rs → MeetsAnyRow v p rs)
  any_row_by v p none = (λ h. h, λ h. h)
  any_row_by v p (more r rs) =
      let one = rows_by v p r in let rest = any_row_by v p rs in
      (λ h. elim h [ inl a ↦ inl (one.0 a) | inr b ↦ inr (rest.0 b) ], λ h. elim h [ inl a ↦ inl (one.1 a) | inr b ↦ inr (rest.1 b) ])

pub meets_case : (p : Point) (r : Reading Comparison) → (Meets p r → MeetsCase Comparison (ComparisonHolds p) p r) × (MeetsCase Comparison (ComparisonHolds p) p r → Meets p r)
meets_case p r =
    let a = meets_by p r in let b = by_case Comparison (ComparisonHolds p) p r in (λ h. b.0 (a.0 h), λ h. a.1 (b.1 h))

pub meets_case_of_rows : (v : Valuation) (p : Point) (r : Reading Row) → (MeetsRows v p r → MeetsCase Row (RowHolds v) p r) × (MeetsCase Row (RowHolds v) p r → MeetsRows v p r)
meets_case_of_rows v p r =
    let a = rows_by v p r in let b = by_case Row (RowHolds v) p r in (λ h. b.0 (a.0 h), λ h. a.1 (b.1 h))
