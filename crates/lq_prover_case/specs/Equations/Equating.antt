-- Lengths and measures of one object are equal: the rows and the nodes that say so.
use Rattle.std.specs.Prelude.{◌≡◌, ℕ, pos, negsuc, true, All, ◌<◌, ◌&&◌, ◌==◌, Bool, List, [], ◌∷◌, ◌++◌, Option, Some, None, map, slice_get, slice_index}
use Rattle.std.specs.List.{filter}
use Rattle.std.specs.Map.{lookup}
use Rattle.std.specs.Option.{option_eq}
use Rattle.lq_prover_proof_tree.specs.Trees.Path.{Fact, Path, row_fact}
use Rattle.lq_prover_proof_tree.specs.Trees.Proves.{Numbering, Proves, rows_among}
use Rattle.lq_prover_proof_tree.specs.Trees.Tree.{Tree, equal}
use Rattle.lq_prover_proof_tree.specs.Trees.TreeView.{tag_items}
use Rattle.lq_prover_case.specs.declared.equations.application.Application.{Application}
use Rattle.lq_prover_case.specs.declared.equations.application.FunctionAt.{FunctionAt}
use Rattle.lq_prover_case.specs.declared.equations.chain.Joint.{Joint}
use Rattle.lq_logic_rows.specs.Contradiction.{Solves}
use Rattle.lq_logic_rows.specs.Row.{Row, Valuation}
use Rattle.lq_prover_proof_tree.specs.Literals.Parts.{is_application, places_from}
use Rattle.lq_base_names.specs.declared.name.Name.{Name}
use Rattle.lq_prover_case.specs.Objects.Joined.{AreOne}
use Rattle.lq_prover_case.specs.declared.objects.fact.ObjectFact.{ObjectFact}
use Rattle.lq_logic_predicates.specs.Comparison.{IsRowOf}
use Rattle.lq_logic_predicates.specs.Literals.{equal_row}
use Rattle.lq_logic_predicates.specs.Reading.{Readings}
use Rattle.lq_logic_predicates.specs.Sum.{Sum, len, measure}

-- the measure of this name of an object, and without a name the length
abbrev pub applied : Option Name → Sum → Sum
applied None a = len a
applied (Some f) a = measure f a

-- an application of a length or a measure: the place of its term among the terms and its own among the applications, and the number of its object
pub record IsApplication (objects terms : List Sum) (x : Application) : Type 0 where
  pub place : slice_get (places_from 0 terms) x.index ≡ Some x.term
  pub argument : Sum
  pub object : slice_get objects x.object ≡ Some argument
  pub term : slice_get terms x.term ≡ Some (applied x.measure argument)

-- the nodes around a tree, the first one outermost
abbrev pub around : List Joint → Tree → Tree
around [] tree = tree
around (j ∷ joints) tree = equal j.left j.right (tag_items j.tags) (around joints tree)

-- with these nodes around it a tree that proves the path of some choices and some facts proves another path
abbrev pub Wraps : Numbering → Path → List (Readings Row) → List Joint → List Fact → Type 0
Wraps n whole choices joints facts = (tree : Tree) → Proves n (record { facts = facts; choices = choices }) tree → Proves n whole (around joints tree)

-- the terms, and those that are applications
abbrev pub numbering_by : List Sum → Numbering
numbering_by terms = record { terms = terms; applications = filter is_application terms }

-- ---- the rows that two terms are equal

abbrev pub equation : ℕ × ℕ → Row
equation p = record { parts = (p.0, pos 1) ∷ (p.1, negsuc 0) ∷ []; constant = pos 0; equal = true }

abbrev pub equation_fact : ℕ × ℕ → Fact
equation_fact p = row_fact (equation p)

-- two terms that apply one function, a length or a measure, the earlier one first; and the row that they are equal, by its comparison
pub record AreOneFunction (terms : List Sum) (p : ℕ × ℕ) : Type 0 where
  pub function : Option Name
  pub left : Sum
  pub right : Sum
  pub before : p.0 < p.1
  pub is_left : slice_get terms p.0 ≡ Some (applied function left)
  pub is_right : slice_get terms p.1 ≡ Some (applied function right)
  pub row : IsRowOf terms (equal_row (applied function left) (applied function right)) (equation p)

-- the later facts are the earlier ones, and then that terms are equal which apply one function
pub record AddsEquations (terms : List Sum) (old new : List Fact) : Type 0 where
  pub pairs : List (ℕ × ℕ)
  pub each : All (AreOneFunction terms) pairs
  pub is : new ≡ old ++ map equation_fact pairs

-- the later facts are the earlier ones with more behind
pub record Grows (old new : List Fact) : Type 0 where
  pub more : List Fact
  pub is : new ≡ old ++ more

-- the lengths, and the values of each measure, of objects that the facts about objects make one are equal wherever the rows hold
abbrev pub AreEquated : List Sum → List Sum → List ObjectFact → List Fact → Type 0
AreEquated objects terms about facts =
    (p q i j : ℕ) (m : Option Name) (a b : Sum) → slice_get terms p ≡ Some (applied m a) → slice_get terms q ≡ Some (applied m b) → slice_get objects i ≡ Some a
    → slice_get objects j ≡ Some b → AreOne about i j → (v : Valuation) → Solves v (rows_among facts) → v p ≡ v q

-- ---- the first application of each function to each class

-- of the first n numbers two have one class only where the facts make them one
abbrev pub ClassesJoin : ℕ → List ℕ → List ObjectFact → Type 0
ClassesJoin n classes about = (a b : ℕ) → a < n → b < n → slice_index classes a ≡ slice_index classes b → AreOne about a b

-- the first application of a function to a class, among the first n applications
pub record IsFirst (objects terms : List Sum) (classes : List ℕ) (n : ℕ) (e : FunctionAt × Application) : Type 0 where
  pub is : IsApplication objects terms e.1
  pub function : e.0.measure ≡ e.1.measure
  pub class : e.0.class ≡ slice_index classes e.1.object
  pub before : e.1.index < n

abbrev pub AreFirsts : List Sum → List Sum → List ℕ → ℕ → List (FunctionAt × Application) → Type 0
AreFirsts objects terms classes n [] = Unit {0}
AreFirsts objects terms classes n (e ∷ es) = IsFirst objects terms classes n e × AreFirsts objects terms classes n es

abbrev pub same_at : FunctionAt → FunctionAt → Bool
same_at k l = option_eq (λ x y. x.0 == y.0) k.measure l.measure && (k.class == l.class)

abbrev pub first_at : List (FunctionAt × Application) → FunctionAt → Option Application
first_at entries k = lookup (same_at k) entries

-- what is found stays
abbrev pub KeepsFirsts : List (FunctionAt × Application) → List (FunctionAt × Application) → Type 0
KeepsFirsts old new = (k : FunctionAt) (x : Application) → first_at old k ≡ Some x → first_at new k ≡ Some x

-- the term p applies a function to an object, and it is equal to the first application of the function to the class of the object
pub record IsEquated (objects : List Sum) (classes : List ℕ) (entries : List (FunctionAt × Application)) (facts : List Fact) (m : Option Name) (a : Sum) (p : ℕ) : Type 0 where
  pub object : ℕ
  pub is : slice_get objects object ≡ Some a
  pub first : Application
  pub found : first_at entries (record { measure = m; class = slice_index classes object }) ≡ Some first
  pub equal : (v : Valuation) → Solves v (rows_among facts) → v first.term ≡ v p

-- each length and each measure among the first n applications
abbrev pub EachEquated : List Sum → List Sum → List ℕ → ℕ → List (FunctionAt × Application) → List Fact → Type 0
EachEquated objects terms classes n entries facts =
    (k p : ℕ) (m : Option Name) (a : Sum) → k < n → slice_get (places_from 0 terms) k ≡ Some p → slice_get terms p ≡ Some (applied m a)
    → IsEquated objects classes entries facts m a p
