-- Types with types in place of their variables, schemes, and what a constructor's fields are.
use Rattle.std.specs.Prelude.{◌≡◌, ℕ, zero, suc, true, ◌==◌, if◌then◌else◌, List, [], ◌∷◌, Option, Some, None}
use Rattle.std.specs.List.{list_any}
use Rattle.lq_text_tree.specs.MlType as ml
use Rattle.lq_text_tree.specs.MlType.{MlType, MlTypes}

-- types in place of the variables
abbrev mutual
  pub put : (ℕ → MlType) → MlType → MlType
  put by ml.int = ml.int
  put by ml.bool = ml.bool
  put by ml.unit = ml.unit
  put by (ml.var i) = by i
  put by (ml.arrow a b) = ml.arrow (put by a) (put by b)
  put by (ml.tuple ts) = ml.tuple (put_all by ts)
  put by (ml.array a) = ml.array (put by a)
  put by (ml.named d ts) = ml.named d (put_all by ts)
  put by (ml.map_of a) = ml.map_of (put by a)

  pub put_all : (ℕ → MlType) → MlTypes → MlTypes
  put_all by ml.no_types = ml.no_types
  put_all by (ml.more_types t ts) = ml.more_types (put by t) (put_all by ts)

-- the type at a place of a row; unit behind its end
abbrev pub type_at : MlTypes → ℕ → MlType
type_at ml.no_types i = ml.unit
type_at (ml.more_types t ts) zero = t
type_at (ml.more_types t ts) (suc i) = type_at ts i

-- the one row and then the other
abbrev pub both_types : MlTypes → MlTypes → MlTypes
both_types ml.no_types us = us
both_types (ml.more_types t ts) us = ml.more_types t (both_types ts us)

abbrev pub count_types : MlTypes → ℕ
count_types ml.no_types = 0
count_types (ml.more_types t ts) = suc (count_types ts)

-- A constructor: the datatype that it makes and the number of its parameters, and its fields' types, in which the parameters are the
-- variables 0, 1, ..
pub record Constructor : Type 0 where
  pub datatype : ℕ
  pub parameters : ℕ
  pub fields : MlTypes

-- what a name of a constructor stands for
abbrev pub Signature : Type 0
Signature = ℕ → Option Constructor

-- the number of `list`, and a list of these
abbrev pub list_type : MlType → MlType
list_type a = ml.named 4 (ml.more_types a ml.no_types)

-- `[]` has no field, `::` an element and a list
pub record KnowsLists (g : Signature) : Type 0 where
  pub empty : g 7 ≡ Some (record { datatype = 4; parameters = 1; fields = ml.no_types })
  pub filled : g 8 ≡ Some (record { datatype = 4; parameters = 1; fields = ml.more_types (ml.var 0) (ml.more_types (list_type (ml.var 0)) ml.no_types) })

-- The types at which a name may be used: one alone, or all that come of a type where types are put for variables other than the fixed ones.
pub data Scheme : Type 0 where
  plain : MlType → Scheme
  general : List ℕ → MlType → Scheme

-- what stands for each of these variables is the variable
abbrev pub Fixes : List ℕ → (ℕ → MlType) → Type 0
Fixes fixed by = (i : ℕ) → list_any (λ x. x == i) fixed ≡ true → by i ≡ ml.var i

abbrev pub IsInstance : Scheme → MlType → Type 0
IsInstance (plain a) t = t ≡ a
IsInstance (general fixed a) t = (by : ℕ → MlType) × Fixes fixed by × (t ≡ put by a)

-- schemes for names; the first one for a name counts
abbrev pub Names : Type 0
Names = List (ℕ × Scheme)

abbrev pub scheme_in : Names → ℕ → Option Scheme
scheme_in [] x = None
scheme_in (n ∷ ns) x = if n.0 == x then Some n.1 else scheme_in ns x

abbrev pub IsUsedAt : Option Scheme → MlType → Type 0
IsUsedAt None t = ⊥
IsUsedAt (Some s) t = IsInstance s t

-- ---- rows of types

-- each of the types is this one
abbrev pub AreAll : MlType → MlTypes → Type 0
AreAll a ml.no_types = Unit {0}
AreAll a (ml.more_types t ts) = (t ≡ a) × AreAll a ts

-- the constructor makes values of the type from fields of these types
abbrev pub Builds : Signature → ℕ → MlTypes → MlType → Type 0
Builds g c ts t =
    (k : Constructor) × (arguments : MlTypes) × (g c ≡ Some k) × (t ≡ ml.named k.datatype arguments) × (ts ≡ put_all (type_at arguments) k.fields)
    × (count_types arguments ≡ k.parameters)

-- a list of parts of these types has the type
abbrev pub Lists : MlTypes → MlType → Type 0
Lists ts t = (a : MlType) × (t ≡ list_type a) × AreAll a ts
