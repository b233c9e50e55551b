-- What the state of a path is seen as, and what always holds of one.
use Rattle.std.specs.Prelude.{◌≡◌, ℕ, suc, ◌≤◌, ◌<◌, ◌==◌, Bool, List, [], ◌∷◌, Option, Some, None, length, take, slice_get}
use Rattle.lq_logic_rows.specs.Contradiction.{Tagged}
use Rattle.lq_logic_rows.specs.Row as linear
use Rattle.lq_logic_rows.specs.declared.engine.LinearStop.{LinearStop}
use Rattle.lq_logic_predicates.specs.Sum.{Sum}
use Rattle.lq_logic_predicates.specs.declared.symbol.Symbol.{Symbol}
use Rattle.lq_prover_case.specs.Objects.Joined.{IsClash}
use Rattle.lq_prover_case.specs.Objects.Objects.{Objects}
use Rattle.lq_prover_case.specs.declared.objects.fact.ObjectFact.{ObjectFact}
use Rattle.lq_prover_proof_tree.specs.Trees.Path.{Fact, row_fact, flag_fact, objects_fact, never, numbered_at}
use Rattle.lq_prover_proof_tree.specs.Trees.Proves.{rows_among}
use Rattle.lq_prover_proof_tree.specs.Trees.Tree as tree
use Rattle.lq_prover_proof_tree.specs.Trees.TreeView.{clash_of, multiplier_items, multiplier_views}
use Rattle.lq_prover_proof_tree.specs.declared.trees.tree.CaseProof.{CaseProof}
use Rattle.lq_prover_proof_tree.specs.declared.trees.tree.Multipliers.{Multipliers}
use Rattle.lq_prover_case.specs.State.Flags.{AreFlagsOf, HasValue}
use Rattle.lq_prover_case.specs.State.RowState.{RowState, MayStop}
use Rattle.lq_prover_case.specs.State.Stored as stored
use Rattle.lq_prover_case.specs.State.Stored.{WasHanded}
use Rattle.lq_prover_case.specs.declared.state.flags.FlagClash.{FlagClash}
use Rattle.lq_prover_case.specs.declared.state.flags.Given.{Given}
use Rattle.lq_prover_case.specs.declared.state.state.Kind.{Kind}
use Rattle.lq_prover_case.specs.declared.state.state.Kind.TheVariants.{Row, Flag, Same}
use Rattle.lq_prover_case.specs.declared.state.state.Step.{Step}

-- what the facts are, the rows among them, the values of flags, and the objects
pub record PathState : Type 0 where
  pub steps : List Step
  pub rows : RowState
  pub flags : List (Symbol × Given)
  pub objects : Objects

-- the next fact, and the others by the rows behind, over a naming of objects by terms; a row is the next one of the rows
abbrev pub facts_by : (ℕ → Sum) → Kind → (Tagged → List Fact) → Tagged → List Fact
facts_by name (Flag x value) others rows = flag_fact x value ∷ others rows
facts_by name (Same a b one) others rows = objects_fact (name a) (name b) one ∷ others rows
facts_by name Row others [] = never ∷ others []
facts_by name Row others (r ∷ rows) = row_fact r.1 ∷ others rows

abbrev pub facts_of : (ℕ → Sum) → List Step → Tagged → List Fact
facts_of name [] = λ rows. []
facts_of name (s ∷ steps) = facts_by name s.kind (facts_of name steps)

-- the facts that stand, over a naming of objects by terms
abbrev pub facts_in : (ℕ → Sum) → PathState → List Fact
facts_in name s = facts_of name s.steps s.rows.rows

-- the facts about objects, each under its number, where the first fact has the number n
abbrev pub objects_by : Kind → ℕ → List ObjectFact → List ObjectFact
objects_by (Same a b one) n others = record { left = a; right = b; one = one; number = n } ∷ others
objects_by (Flag x value) n others = others
objects_by Row n others = others

abbrev pub objects_from : ℕ → List Step → List ObjectFact
objects_from n [] = []
objects_from n (s ∷ steps) = objects_by s.kind n (objects_from (suc n) steps)

abbrev pub objects_in : PathState → List ObjectFact
objects_in s = objects_from 1 s.steps

-- no two objects that a fact says differ are one by the facts
abbrev pub NoObjectsClash : PathState → Type 0
NoObjectsClash s = (clash : tree.Clash) → IsClash (objects_in s) clash → ⊥

-- the rows are those of the facts, each under the number of its fact, where the first fact has the number n
abbrev pub numbered_by : Kind → ℕ → (Tagged → Type 0) → Tagged → Type 0
numbered_by (Flag x value) n others rows = others rows
numbered_by (Same a b one) n others rows = others rows
numbered_by Row n others [] = ⊥
numbered_by Row n others (r ∷ rows) = (r.0 ≡ n) × others rows

abbrev pub AreNumbered : ℕ → List Step → Tagged → Type 0
AreNumbered n [] = λ rows. rows ≡ []
AreNumbered n (s ∷ steps) = numbered_by s.kind n (AreNumbered (suc n) steps)

-- what stood before the fact at an index
pub record IsPast (facts : List Fact) (entries : List (Symbol × Given)) (k : ℕ) (s : Step) : Type 0 where
  pub rows : s.rows ≡ length (rows_among (take k facts))
  pub within : s.flags ≤ length entries
  pub flags : AreFlagsOf (take k facts) (take s.flags entries) s.clash

pub record HasPasts (facts : List Fact) (steps : List Step) (entries : List (Symbol × Given)) : Type 0 where
  pub each : (k : ℕ) (s : Step) → slice_get steps k ≡ Some s → IsPast facts entries k s
  pub rises : (j k : ℕ) (s t : Step) → j < k → slice_get steps j ≡ Some s → slice_get steps k ≡ Some t → s.flags ≤ t.flags

pub record IsPathState (name : ℕ → Sum) (steps : List Step) (rows : Tagged) (entries : List (Symbol × Given)) (clash : Option FlagClash) : Type 0 where
  pub numbered : AreNumbered 1 steps rows
  pub flags : AreFlagsOf (facts_of name steps rows) entries clash
  pub pasts : HasPasts (facts_of name steps rows) steps entries

-- the facts about objects stand, and each fact knows how many stood before it
pub record AreObjectsOf (steps : List Step) (objects : List ObjectFact) : Type 0 where
  pub standing : objects ≡ objects_from 1 steps
  pub pasts : (k : ℕ) (s : Step) → slice_get steps k ≡ Some s → s.objects ≡ length (objects_from 1 (take k steps))

-- what always holds of the state of a path, at each naming
pub record IsState (steps : List Step) (rows : Tagged) (entries : List (Symbol × Given)) (clash : Option FlagClash) (objects : List ObjectFact) : Type 0 where
  pub paths : (name : ℕ → Sum) → IsPathState name steps rows entries clash
  pub objects_are : AreObjectsOf steps objects

-- each flag has the value that each fact gives it
abbrev pub AllFlagsHold : List (Symbol × Given) → List Fact → Type 0
AllFlagsHold entries facts = (k : ℕ) (x : Symbol) (value : Bool) → numbered_at facts k ≡ Some (flag_fact x value) → HasValue entries x value

-- Two objects that the naming gives these terms, and whether their classes are one.
pub record HaveClasses (name : ℕ → Sum) (class_of : ℕ → ℕ) (x y : Sum) (one : Bool) : Type 0 where
  pub left : ℕ
  pub right : ℕ
  pub is_left : name left ≡ x
  pub is_right : name right ≡ y
  pub classes : (class_of left == class_of right) ≡ one

-- classes of objects give each fact about objects its truth
abbrev pub AllObjectsHold : (ℕ → Sum) → (ℕ → ℕ) → List Fact → Type 0
AllObjectsHold name class_of facts = (k : ℕ) (x y : Sum) (one : Bool) → numbered_at facts k ≡ Some (objects_fact x y one) → HaveClasses name class_of x y one

-- the rows are all that the tableau of the state was ever handed
abbrev pub HasHanded : PathState → List linear.Row → Type 0
HasHanded s ever = WasHanded s.rows.tableau ever

-- what was handed stays
abbrev pub KeepsHanded : PathState → PathState → Type 0
KeepsHanded old new = (ever : List linear.Row) → HasHanded old ever → HasHanded new ever

-- what was handed stays, and more was handed: rows of which P holds
abbrev pub HandsMore : (linear.Row → Type 0) → PathState → PathState → Type 0
HandsMore P old new = stored.HandsMore P old.rows.tableau new.rows.tableau

-- the stops of a check, where these rows were ever handed, and then more of which P holds
abbrev pub HasStops : ℕ → ℕ → List linear.Row → (linear.Row → Type 0) → List Fact → LinearStop → Type 0
HasStops terms pivots ever P facts stop = MayStop terms pivots ever P (rows_among facts) stop

-- a conflict of rows, as a clash
abbrev pub IsByRows : Option Multipliers → Option CaseProof → Type 0
IsByRows None None = Unit {0}
IsByRows (Some ms) (Some p) = clash_of p ≡ tree.rows (multiplier_views (multiplier_items ms))
IsByRows None (Some p) = ⊥
IsByRows (Some ms) None = ⊥

-- two facts that give one flag two values, as a clash
abbrev pub IsByFlags : Option ℕ → ℕ → Option CaseProof → Type 0
IsByFlags None n None = Unit {0}
IsByFlags (Some m) n (Some p) = clash_of p ≡ tree.flags m n
IsByFlags None n (Some p) = ⊥
IsByFlags (Some m) n None = ⊥
