-- What is known of names: of each name the first that a list says, or nothing.
use Rattle.std.specs.Prelude.{ℕ, Bool, false, ◌||◌, ◌==◌, List, [], ◌∷◌, Option, Some, None, if◌then◌else◌}

abbrev pub Lookup : Type 0 → Type 0
Lookup X = ℕ → Option X

abbrev pub or_else : {X : Type 0} → Option X → Option X → Option X
or_else None b = b
or_else (Some a) b = Some a

-- the one thing at one name
abbrev pub one : {X : Type 0} → ℕ → X → Lookup X
one k v x = if k == x then Some v else None

-- the first of a name
abbrev pub first_in : {X : Type 0} → List (ℕ × X) → Lookup X
first_in [] x = None
first_in (p ∷ ps) x = or_else (one p.0 p.1 x) (first_in ps x)

-- some names
abbrev pub Names : Type 0
Names = ℕ → Bool

abbrev pub no_names : Names
no_names x = false

-- one name more
abbrev pub with_name : ℕ → Names → Names
with_name k names x = (k == x) || names x
