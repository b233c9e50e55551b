-- The binders of a program, and that each is new where it is bound.
use Rattle.std.specs.Prelude.{◌≡◌, ℕ, false, ◌==◌, List, [], ◌∷◌, ◌++◌}
use Rattle.lq_refined_types.specs.Types.Context.{Context, IsNew}
use Rattle.lq_refined_types.specs.Types.Operations.{symbol_of}
use Rattle.lq_refined_types.specs.Types.Refined.{unit_type}
use Rattle.lq_refined_rules.specs.Checks.Operation.{bind}
use Rattle.lq_refined_rules.specs.Checks.Tree.{names_of, Operation, fun, if_else, match_on, Block, last, binding, recursive, Arms, no_arms, arm, Program, no_items, define, define_recursive, run_unit, run_any}

abbrev pub IsNotIn : List ℕ → ℕ → Type 0
IsNotIn [] x = Unit {0}
IsNotIn (y ∷ ys) x = ((y == x) ≡ false) × IsNotIn ys x

-- in an environment
abbrev pub IsNewName : ℕ → Context → Type 0
IsNewName x Γ = IsNew (symbol_of x) Γ

abbrev pub AreNewNames : List ℕ → Context → Type 0
AreNewNames [] Γ = Unit {0}
AreNewNames (x ∷ xs) Γ = IsNewName x Γ × AreNewNames xs (bind x unit_type Γ)

-- no two of the list are one
abbrev pub AllDiffer : List ℕ → Type 0
AllDiffer [] = Unit {0}
AllDiffer (x ∷ xs) = IsNotIn xs x × AllDiffer xs

-- in the order of the text, but that a name bound by `let` stands behind what it is bound to
abbrev mutual
  pub operation_binders : Operation → List ℕ
  operation_binders (fun p y b) = y ∷ block_binders b
  operation_binders (if_else p c a b) = block_binders a ++ block_binders b
  operation_binders (match_on p u arms) = arms_binders arms
  operation_binders _ = []

  pub block_binders : Block → List ℕ
  block_binders (last l o) = operation_binders o
  block_binders (binding x l o b) = operation_binders o ++ x ∷ block_binders b
  block_binders (recursive g p y b c) = g ∷ y ∷ (block_binders b ++ block_binders c)

  pub arms_binders : Arms → List ℕ
  arms_binders no_arms = []
  arms_binders (arm q b arms) = (names_of q ++ block_binders b) ++ arms_binders arms

abbrev pub binders : Program → List ℕ
binders no_items = []
binders (define x l k b rest) = block_binders b ++ x ∷ binders rest
binders (define_recursive g p y b rest) = g ∷ y ∷ (block_binders b ++ binders rest)
binders (run_unit b rest) = block_binders b ++ binders rest
binders (run_any b rest) = block_binders b ++ binders rest
