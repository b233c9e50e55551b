-- What is known at a place of a text: the variables that are visible there, and the constructors and types that are defined.
use Rattle.std.specs.Prelude.{ℕ, Bool, false, ◌||◌, ◌==◌, ◌++◌, List, [], ◌∷◌, Option, Some, None, if◌then◌else◌, codes, slice_get, unwrap_or, reverse}
use Rattle.std.specs.Str.{bytes_eq}
use Rattle.lq_base_names.specs.declared.place.Place.{Place}
use Rattle.lq_base_names.specs.NameTable.{nil_name, cons_name}
use Rattle.lq_text_tree.specs.Pattern.{Pattern, bound_in}
use Rattle.lq_text_scope.specs.Complaints.{Cause, arity, Complaint, at}

-- a constructor or a type with the number of its arguments
pub record Arity : Type 0 where
  pub name : ℕ
  pub count : ℕ

pub record Known : Type 0 where
  -- each list has what was defined last first
  pub variables : List ℕ
  pub constructors : List Arity
  pub types : List Arity

abbrev pub known_with : List ℕ → List Arity → List Arity → Known
known_with vs cs ts = record { variables = vs; constructors = cs; types = ts }

-- whether a name is among these
abbrev pub has : List ℕ → ℕ → Bool
has [] x = false
has (y ∷ ys) x = (y == x) || has ys x

-- the number of arguments of a name's last definition
abbrev pub arity_in : List Arity → ℕ → Option ℕ
arity_in [] x = None
arity_in (a ∷ as_) x = if a.name == x then Some a.count else arity_in as_ x

abbrev pub defined : ℕ → ℕ → Arity
defined x n = record { name = x; count = n }

-- the numbers of `int`, `bool`, `unit`, `array`, `list`, `option`, `map`, `None` and `Some`
abbrev pub array_name : ℕ
array_name = 3

-- what is known before a text begins
abbrev pub predeclared_constructors : List Arity
predeclared_constructors = defined 10 1 ∷ defined 9 0 ∷ defined cons_name 2 ∷ defined nil_name 0 ∷ []

abbrev pub predeclared_types : List Arity
predeclared_types = defined 6 1 ∷ defined 5 1 ∷ defined 4 1 ∷ defined array_name 1 ∷ defined 2 0 ∷ defined 1 0 ∷ defined 0 0 ∷ []

abbrev pub predeclared_known : Known
predeclared_known = record { variables = []; constructors = predeclared_constructors; types = predeclared_types }

-- how many arguments a primitive takes, by its name
abbrev pub primitive : List ℕ → Option ℕ
primitive text = if bytes_eq text (codes "read_int") then Some 1 else if bytes_eq text (codes "print_int") then Some 1 else None

abbrev pub array_primitive : List ℕ → Option ℕ
array_primitive text = if bytes_eq text (codes "make") then Some 2 else if bytes_eq text (codes "length") then Some 1 else None

abbrev pub map_primitive : List ℕ → Option ℕ
map_primitive text =
    if bytes_eq text (codes "empty") then Some 0 else if bytes_eq text (codes "add") then Some 3 else if bytes_eq text (codes "find") then Some 2 else None

-- the same behind an upper name and a dot
abbrev pub primitive_in : List ℕ → List ℕ → Option ℕ
primitive_in front text =
    if bytes_eq front (codes "Array") then array_primitive text else if bytes_eq front (codes "Map") then map_primitive text else None

-- the text of a name; a name that isn't in the table has none
abbrev pub text_of : List (List ℕ) → ℕ → List ℕ
text_of names x = unwrap_or (slice_get names x) []

-- a name's definition takes this number of arguments, which are to be as many as are found
abbrev pub counted : Place → Option ℕ → Cause → ℕ → List Complaint
counted p None undefined found = at p undefined ∷ []
counted p (Some wanted) undefined found = if wanted == found then [] else at p (arity wanted found) ∷ []

-- what is known where the names of a pattern are visible, and where one name is
abbrev pub under : Pattern → Known → Known
under p k = record { variables = reverse (bound_in p) ++ k.variables; constructors = k.constructors; types = k.types }

abbrev pub named : ℕ → Known → Known
named x k = record { variables = x ∷ k.variables; constructors = k.constructors; types = k.types }
