-- A part of a type is smaller than the type.
use Rattle.std.proofs.Common.{◌≡◌, ℕ, zero, suc, ◌<◌, ◌≤◌, List, [], ◌∷◌, Option, Some, None, All, get_or, refl, sym, ap, subst, ◌∙◌, arith}
use Rattle.lq_types_unify.specs.Simple.{Simple, made, each, size, sizes}
use Rattle.lq_types_unify.specs.Nodes.{Form}
use Rattle.lq_types_unify.specs.Solution.{Fits}
use Rattle.lq_types_unify.specs.Classes.{up, root, AreShared}
use Rattle.lq_types_unify.specs.Value.{parts_of, inner}
use Rattle.lq_types_unify.proofs.Roots.{at_root}

part_size : (types : ℕ → Simple) (xs : List ℕ) → All (λ p. size (types p) ≤ sizes (each types xs)) xs
part_size types [] k d h = absurd (omega arith)
part_size types (x ∷ xs) zero d h = omega arith
part_size types (x ∷ xs) (suc k) d h = let i : size (types (get_or xs k d)) ≤ sizes (each types xs) = part_size types xs k d (omega arith) in omega arith

smaller_in : (types : ℕ → Simple) (o : Option Form) (t : Simple) → ((x : Form) → o ≡ Some x → t ≡ made x.head (each types x.parts)) → All (λ p. size (types p) < size t) (parts_of o)
smaller_in types None t m k d h = absurd (omega arith)
smaller_in types (Some x) t m k d h = subst (λ u. size (types (get_or x.parts k d)) < size u) (sym (m x refl)) (let i : size (types (get_or x.parts k d)) ≤ sizes (each types x.parts) = part_size types x.parts k d h in omega arith)

-- the type of a part of a class is smaller than that of the class
pub smaller : (forms : ℕ → Option Form) (n : ℕ) (ps shapes : List ℕ) (types : ℕ → Simple) (r : ℕ) → ((r : ℕ) → up ps r ≡ r → root ps (up shapes r) ≡ r) → up ps r ≡ r
    → Fits forms types → AreShared ps types → All (λ p. size (types (root ps p)) < size (types r)) (inner forms shapes r)
smaller forms n ps shapes types r own e fits shared k d h =
    subst (λ t. size t < size (types r)) (at_root types ps shared (get_or (inner forms shapes r) k d))
    (smaller_in types (forms (up shapes r)) (types r) (λ x f. ap types (sym (own r e)) ∙ sym (at_root types ps shared (up shapes r)) ∙ fits (up shapes r) x f) k d h)
