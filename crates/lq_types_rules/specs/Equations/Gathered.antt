-- The rules of a program, one after another, as a walk leaves its nodes, functions and items.
use Rattle.std.specs.Prelude.{◌≡◌, ℕ, zero, suc, ◌≤◌, List, take, All, length, slice_index_or}
use Rattle.lq_text_tree.specs.MlType.{MlType}
use Rattle.lq_text_tree.specs.Types.{Signature}
use Rattle.lq_text_walk.specs.Walk.Visits.{Visit, enter_item, leave_item, enter, leave, leave_function, declare, show, hide, show_name, hide_name}
use Rattle.lq_types_rules.specs.declared.equations.system.System.{System}
use Rattle.lq_types_rules.specs.Equations.Adding.{IsSystem, Agree, count_of}
use Rattle.lq_types_rules.specs.Equations.Rows.{TreeRule, FunctionRule, ItemRule}
use Rattle.lq_types_rules.specs.Equations.Solved.{Solves}
use Rattle.lq_types_rules.specs.Equations.Within.{TreeIn, FunctionIn, ItemIn}

-- the rule of what is left
abbrev pub VisitRule : Signature → ℕ → Visit → (ℕ → MlType) → Type 0
VisitRule g nodes (enter_item i) t = Unit {0}
VisitRule g nodes (leave_item i) t = ItemRule nodes i.form t
VisitRule g nodes (enter e) t = Unit {0}
VisitRule g nodes (leave e) t = TreeRule g nodes e t
VisitRule g nodes (leave_function r) t = FunctionRule g nodes r t
VisitRule g nodes (declare q) t = Unit {0}
VisitRule g nodes (show q) t = Unit {0}
VisitRule g nodes (hide q) t = Unit {0}
VisitRule g nodes (show_name x) t = Unit {0}
VisitRule g nodes (hide_name x) t = Unit {0}

abbrev pub VisitIn : ℕ → ℕ → Visit → Type 0
VisitIn nodes n (enter_item i) = Unit {0}
VisitIn nodes n (leave_item i) = ItemIn nodes n i.form
VisitIn nodes n (enter e) = Unit {0}
VisitIn nodes n (leave e) = TreeIn nodes n e
VisitIn nodes n (leave_function r) = FunctionIn nodes n r
VisitIn nodes n (declare q) = Unit {0}
VisitIn nodes n (show q) = Unit {0}
VisitIn nodes n (hide q) = Unit {0}
VisitIn nodes n (show_name x) = Unit {0}
VisitIn nodes n (hide_name x) = Unit {0}

-- types obey the rules of these
abbrev pub Obeys : Signature → ℕ → List Visit → (ℕ → MlType) → Type 0
Obeys g nodes visits types = All (λ v. VisitRule g nodes v types) visits

-- how many equations stand for the first k
abbrev pub end_of : List ℕ → ℕ → ℕ
end_of ends zero = 0
end_of ends (suc k) = slice_index_or ends k 0

-- The equations up to the end of the first k are solved by types exactly where these obey the rules of the first k: types of the first
-- nodes, so many, by which the rules are obeyed are, with types for the others, a solution.
pub record IsGathered (g : Signature) (nodes slots : ℕ) (visits : List Visit) (ends : List ℕ) (s : System) : Type 0 where
  pub system : IsSystem s
  pub longer : slots ≤ count_of s
  pub long : length ends ≡ length visits
  pub low : (k : ℕ) → k ≤ length visits → end_of ends k ≤ length s.equations.items
  pub last : end_of ends (length visits) ≡ length s.equations.items
  pub says : (k : ℕ) → k ≤ length visits → (types : ℕ → MlType) → Solves s (take (end_of ends k) s.equations.items) types → Obeys g nodes (take k visits) types
  pub said : (k : ℕ) → k ≤ length visits → (types : ℕ → MlType) → Obeys g nodes (take k visits) types
      → (later : ℕ → MlType) × Agree slots types later × Solves s (take (end_of ends k) s.equations.items) later
