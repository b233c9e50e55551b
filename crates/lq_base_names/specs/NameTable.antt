-- The texts of a name table, in the order of their numbers.
use Rattle.std.specs.Prelude.{◌≡◌, ℕ, ◌<◌, ◌^◌, List, [], ◌∷◌, ◌++◌, length, take, map, slice_get, Some, None, false, if◌then◌else◌, codes, String}
use Rattle.std.specs.BTreeMap.{BTreeMap, get_by_text}
use Rattle.std.specs.List.{list_any}
use Rattle.std.specs.Str.{bytes_eq}
use Rattle.std.specs.String.{string_bytes}
use Rattle.std.specs.declared.alloc.Global.{Global}

-- the texts that every table begins with: the types, the constructors and the first type variable
abbrev pub predeclared : List (List ℕ)
predeclared =
    codes "int" ∷ codes "bool" ∷ codes "unit" ∷ codes "array" ∷ codes "list" ∷ codes "option" ∷ codes "map" ∷ codes "[]" ∷ codes "::" ∷ codes "None" ∷ codes "Some" ∷ codes "'a" ∷ []

-- the numbers of the constructors of lists
abbrev pub nil_name : ℕ
nil_name = 7

abbrev pub cons_name : ℕ
cons_name = 8

-- the texts with this one among them: a new text goes last
abbrev pub with_text : List (List ℕ) → List ℕ → List (List ℕ)
with_text texts text = if list_any (bytes_eq text) texts then texts else texts ++ text ∷ []

-- no text has two numbers
abbrev pub HasOneNumberEach : List (List ℕ) → Type 0
HasOneNumberEach texts =
    (i j : ℕ) → i < length texts → j < length texts → slice_get texts i ≡ slice_get texts j → i ≡ j

-- what holds of the texts of every table
pub record IsNameTable (texts : List (List ℕ)) : Type 0 where
  pub begins : take (length predeclared) texts ≡ predeclared
  pub distinct : HasOneNumberEach texts
  pub small : length texts < 2 ^ 32

-- the bytes of each text
abbrev pub texts_of : List (String Global) → List (List ℕ)
texts_of = map string_bytes

-- each text has its number in the map, and the map has no other
pub record AreNumbers (texts : List (List ℕ)) (numbers : BTreeMap (String Global) ℕ) : Type 0 where
  pub known : (q : List ℕ) (n : ℕ) → get_by_text numbers q ≡ Some n → slice_get texts n ≡ Some q
  pub others : (q : List ℕ) → get_by_text numbers q ≡ None → list_any (bytes_eq q) texts ≡ false
