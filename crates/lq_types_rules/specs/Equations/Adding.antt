-- What more nodes and equations say of the nodes that there were: a rule, no less and no more.
use Rattle.std.specs.Prelude.{◌≡◌, ℕ, ◌<◌, ◌≤◌, List, [], ◌++◌, Option, Some, None, All, length}
use Rattle.lq_text_tree.specs.MlType as ml
use Rattle.lq_text_tree.specs.MlType.{MlType, MlTypes}
use Rattle.lq_types_unify.specs.declared.arena.Equation.{Equation}
use Rattle.lq_types_unify.specs.declared.arena.Head.{Head}
use Rattle.lq_types_unify.specs.declared.arena.Head.TheVariants as head
use Rattle.lq_types_unify.specs.Nodes.{Form, form_at, IsArena}
use Rattle.lq_types_unify.specs.Solution.{AreNodes}
use Rattle.lq_types_rules.specs.declared.equations.system.System.{System}
use Rattle.lq_types_rules.specs.Equations.Solutions.{each, Fits, Meets}

-- a head stands over so many parts
abbrev pub IsRight : Head → ℕ → Type 0
IsRight head.Whole n = n ≡ 0
IsRight head.Flag n = n ≡ 0
IsRight head.Unit n = n ≡ 0
IsRight head.Arrow n = n ≡ 2
IsRight head.Tuple n = Unit {0}
IsRight head.Array n = n ≡ 1
IsRight head.Map n = n ≡ 1
IsRight (head.Named d) n = Unit {0}

abbrev pub count_of : System → ℕ
count_of s = length s.arena.nodes.items

abbrev pub forms_of : System → ℕ → Option Form
forms_of s = form_at s.arena

-- the equations are between nodes, and each form has as many parts as its head takes
pub record IsSystem (s : System) : Type 0 where
  pub arena : IsArena s.arena
  pub nodes : AreNodes (count_of s) s.equations.items
  pub right : (i : ℕ) (f : Form) → forms_of s i ≡ Some f → IsRight f.head (length f.parts)

-- so many nodes, of which nothing is known
pub record IsFresh (count : ℕ) (s : System) : Type 0 where
  pub system : IsSystem s
  pub long : count_of s ≡ count
  pub none : (i : ℕ) → forms_of s i ≡ None
  pub empty : s.equations.items ≡ []

-- the same types of the nodes below n
abbrev pub Agree : ℕ → (ℕ → MlType) → (ℕ → MlType) → Type 0
Agree n types later = (i : ℕ) → i < n → later i ≡ types i

-- a fact of types that rests on those of the nodes below n alone
abbrev pub Depends : ℕ → ((ℕ → MlType) → Type 0) → Type 0
Depends n P = (types later : ℕ → MlType) → Agree n types later → P types → P later

-- types of more nodes, by which these equations are met and the roots have these types
pub record Extends (old new : System) (more : List Equation) (roots : List ℕ) (types : ℕ → MlType) (ts : MlTypes) : Type 0 where
  pub later : ℕ → MlType
  pub agree : Agree (count_of old) types later
  pub fits : Fits (forms_of new) later
  pub meets : Meets later more
  pub roots_are : each later roots ≡ ts

-- more nodes and equations, beside those that there were
pub record Grows (old new : System) (more : List Equation) : Type 0 where
  pub system : IsSystem new
  pub longer : count_of old ≤ count_of new
  pub kept : (i : ℕ) → i < count_of old → forms_of new i ≡ forms_of old i
  pub equations_are : new.equations.items ≡ old.equations.items ++ more
  -- the new nodes alone ask nothing
  pub free : (types : ℕ → MlType) → Fits (forms_of old) types → (later : ℕ → MlType) × Agree (count_of old) types later × Fits (forms_of new) later

-- The roots are nodes; the new equations say the fact of them, and nothing else: types of the nodes that there were and of the roots
-- for which it holds are types of all nodes.
pub record Offers (old new : System) (roots : List ℕ) (P : (ℕ → MlType) → MlTypes → Type 0) : Type 0 where
  pub more : List Equation
  pub grows : Grows old new more
  pub inside : All (λ r. r < count_of new) roots
  pub says : (types : ℕ → MlType) → Fits (forms_of new) types → Meets types more → P types (each types roots)
  pub said : (types : ℕ → MlType) (ts : MlTypes) → Fits (forms_of old) types → P types ts → Extends old new more roots types ts

-- the new equations say the fact of the nodes that there were, and nothing else
pub record Adds (old new : System) (P : (ℕ → MlType) → Type 0) : Type 0 where
  pub more : List Equation
  pub grows : Grows old new more
  pub says : (types : ℕ → MlType) → Fits (forms_of new) types → Meets types more → P types
  pub said : (types : ℕ → MlType) → Fits (forms_of old) types → P types → Extends old new more [] types ml.no_types

-- as many nodes, or more
pub record IsLonger (old new : System) : Type 0 where
  pub system : IsSystem new
  pub longer : count_of old ≤ count_of new
