-- Types that solve a system, and how types of `lq_types_unify` are read and written.
use Rattle.std.specs.Prelude.{◌≡◌, ℕ, ◌<◌, ◌≤◌, List, take, length}
use Rattle.lq_text_tree.specs.MlType as ml
use Rattle.lq_text_tree.specs.MlType.{MlType, MlTypes}
use Rattle.lq_text_tree.specs.Types.{put}
use Rattle.lq_types_unify.specs.declared.arena.Equation.{Equation}
use Rattle.lq_types_unify.specs.declared.arena.Head.TheVariants as head
use Rattle.lq_types_unify.specs.declared.solver.Solution.{Solution}
use Rattle.lq_types_unify.specs.Simple as simple
use Rattle.lq_types_unify.specs.Simple.{Simple, Simples}
use Rattle.lq_types_unify.specs.Solved.{types_of}
use Rattle.lq_types_rules.specs.declared.equations.system.System.{System}
use Rattle.lq_types_rules.specs.Equations.Solutions.{made, Fits, Meets}
use Rattle.lq_types_rules.specs.Equations.Adding.{forms_of}

-- what the rules see of a type
abbrev mutual
  pub read : Simple → MlType
  read (simple.variable v) = ml.var v
  read (simple.made h ts) = made h (read_all ts)

  pub read_all : Simples → MlTypes
  read_all simple.none = ml.no_types
  read_all (simple.more t ts) = ml.more_types (read t) (read_all ts)

-- a type that is read so
abbrev mutual
  pub written : MlType → Simple
  written ml.int = simple.made head.Whole simple.none
  written ml.bool = simple.made head.Flag simple.none
  written ml.unit = simple.made head.Unit simple.none
  written (ml.var i) = simple.variable i
  written (ml.arrow a b) = simple.made head.Arrow (simple.more (written a) (simple.more (written b) simple.none))
  written (ml.tuple ts) = simple.made head.Tuple (written_all ts)
  written (ml.array a) = simple.made head.Array (simple.more (written a) simple.none)
  written (ml.named d ts) = simple.made (head.Named d) (written_all ts)
  written (ml.map_of a) = simple.made head.Map (simple.more (written a) simple.none)

  pub written_all : MlTypes → Simples
  written_all ml.no_types = simple.none
  written_all (ml.more_types t ts) = simple.more (written t) (written_all ts)

-- types of all nodes, by their forms, that meet these equations
pub record Solves (s : System) (equations : List Equation) (types : ℕ → MlType) : Type 0 where
  pub fits : Fits (forms_of s) types
  pub meets : Meets types equations

-- types that solve the system, and have all that do as instances, by one replacement of variables for all nodes
pub record IsPrincipal (s : System) (types : ℕ → MlType) : Type 0 where
  pub solves : Solves s s.equations.items types
  pub general : (others : ℕ → MlType) → Solves s s.equations.items others → (by : ℕ → MlType) × ((i : ℕ) → others i ≡ put by (types i))

-- the first k equations have no solution, and fewer have one
pub record IsFirstFailing (s : System) (k : ℕ) : Type 0 where
  pub within : k ≤ length s.equations.items
  pub fails : (types : ℕ → MlType) → Solves s (take k s.equations.items) types → ⊥
  pub before : (j : ℕ) → j < k → (types : ℕ → MlType) × Solves s (take j s.equations.items) types

-- the types that a solution gives
abbrev pub types_in : System → Solution → ℕ → MlType
types_in s found i = read (types_of s.arena found i)
