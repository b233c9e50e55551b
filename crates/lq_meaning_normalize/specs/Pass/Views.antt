-- What the pass holds in memory.
use Rattle.std.specs.Prelude.{◌≡◌, ◌++◌, ◌≤◌, ℕ, Bool, true, false, List, Option, Some, None, map}
use Rattle.lq_meaning_normal_tree.specs.AtomView.{atom_view}
use Rattle.lq_meaning_normal_tree.specs.BlockView.{operation_view, lets_view}
use Rattle.lq_meaning_normal_tree.specs.declared.atom.Atom.{Atom}
use Rattle.lq_meaning_normal_tree.specs.declared.block.Local.{Local}
use Rattle.lq_meaning_normal_tree.specs.declared.block.Operation.{Operation}
use Rattle.lq_base_names.specs.declared.name.Binder.{Binder}
use Rattle.lq_base_names.specs.declared.place.Place.{Place}
use Rattle.lq_meaning_normal_form.specs.Outcomes.Flattening.{Let}
use Rattle.lq_meaning_normal_form.specs.Outcomes.Naming.{NamedPattern, NamedParts}
use Rattle.lq_text_tree.specs.PatternView.{pat_view, pats_view}
use Rattle.lq_text_tree.specs.Tree.{Tree, tree, use_of, match_on, no_cases, more_cases}
use Rattle.lq_text_tree.specs.declared.pattern.Pat.{Pat}
use Rattle.lq_text_tree.specs.declared.pattern.Pats.{Pats}
use Rattle.lq_meaning_normalize.specs.Pass.Forming.{Shown, placed, Formed, FormedRow, atom, operation}
use Rattle.lq_meaning_normalize.specs.declared.pass.making.Pass.{Pass}
use Rattle.lq_meaning_normalize.specs.declared.pass.value.Normal.{Normal}
use Rattle.lq_meaning_normalize.specs.declared.pass.value.Normal.TheVariants as normal

abbrev pub last_view : Normal → Tree
last_view (normal.Atom a b) = atom_view a
last_view (normal.Operation o) = operation_view o

abbrev pub does_stand : Normal → Bool
does_stand (normal.Atom a b) = true
does_stand (normal.Operation o) = false

abbrev pub is_pure_normal : Normal → Bool
is_pure_normal (normal.Atom a b) = b
is_pure_normal (normal.Operation o) = false

-- the bindings so far
abbrev pub lets_of : Pass → List Let
lets_of P = lets_view P.bindings.items

-- the bindings of the first stand first in the second, which has made as many names or more
pub record GoesOn (old new : Pass) : Type 0 where
  pub more : List Let
  pub lets : lets_of new ≡ lets_of old ++ more
  pub next : old.next ≤ new.next

abbrev pub shown : Normal → Shown
shown n = record { last = last_view n; stands = does_stand n; pure = is_pure_normal n }

-- what an expression became, behind the bindings that are made
abbrev pub became : Pass → Normal → Formed
became P n = placed (lets_of P) P.next (shown n)

-- the same of an atom, of an operation, and of a use of a name
abbrev pub became_atom : Pass → Atom → Bool → Formed
became_atom P a b = atom (lets_of P) P.next b (atom_view a)

abbrev pub settled_as : Pass → Operation → Formed
settled_as P o = operation (lets_of P) P.next (operation_view o)

abbrev pub standing_as : Pass → ℕ → Place → Binder → Formed
standing_as P i p x = atom (lets_of P) P.next false (tree i p (use_of x.0))

abbrev pub row_of : Pass → List Atom → FormedRow
row_of P as_ = record { lets = lets_of P; next = P.next; atoms = map atom_view as_ }

-- ---- patterns

abbrev pub named_as : Pass → Pat Binder → NamedPattern
named_as P q = record { pattern = pat_view Binder (λ b. b.0) q; next = P.next }

abbrev pub parts_as : Pass → Pats Binder → NamedParts
parts_as P qs = record { parts = pats_view Binder (λ b. b.0) qs; next = P.next }

-- a body that matches its parameter with a pattern, where there is one
abbrev pub under_view : Local → Option (Pat Binder) → Tree → Tree
under_view x None b = b
under_view x (Some q) b =
    tree 0 x.place (match_on (tree 0 x.place (use_of x.binder.0)) (more_cases (pat_view Binder (λ b. b.0) q) b no_cases))

abbrev pub is_there : Option (Pat Binder) → Bool
is_there None = false
is_there (Some q) = true
