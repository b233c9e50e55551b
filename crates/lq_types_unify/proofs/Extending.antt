-- Types of a definition's nodes go over to copies.
use Rattle.std.proofs.Common.{◌≡◌, inl, inr, ℕ, suc, ◌<◌, ◌≤◌, List, [], ◌∷◌, map, Option, Some, All, get_or, refl, sym, ap, ap₂, ◌∙◌, arith}
use Rattle.std.proofs.lemmas.Bool.{cases_lt}
use Rattle.lq_types_unify.specs.declared.arena.Head.{Head}
use Rattle.lq_types_unify.specs.Simple.{Simple, variable, made, more, each, replaced, replaced_all}
use Rattle.lq_types_unify.specs.Nodes.{Form}
use Rattle.lq_types_unify.specs.Solution.{Fits}
use Rattle.lq_types_unify.specs.Copies.{GoesTo, AreCopies, TypesExtendToCopies}
use Rattle.lq_types_unify.proofs.Replacing.{replaced_alike, replaced_same, each_as}
use Rattle.lq_types_unify.proofs.Uses.{parted, parted_old, parted_new}

pub each_copied : (f g by : ℕ → Simple) (goes : ℕ → ℕ) (ps : List ℕ) → All (λ p. f (goes p) ≡ replaced by (g p)) ps → each f (map goes ps) ≡ replaced_all by (each g ps)
each_copied f g by goes [] h = refl
each_copied f g by goes (p ∷ ps) h = ap₂ more (h 0 0 (omega arith)) (each_copied f g by goes ps (λ k d l. h (suc k) d (omega arith)))

goes_is : (count : ℕ) (types by : ℕ → Simple) (origin : ℕ → ℕ) (all : ℕ → Simple) → ((i : ℕ) → i < count → all i ≡ types i) → ((q : ℕ) → count ≤ q → all q ≡ replaced by (types (origin q)))
    → (p q : ℕ) → GoesTo count types by origin p q → all q ≡ replaced by (types p)
goes_is count types by origin all low high p q (inl g) = high q g.0 ∙ ap (replaced by) g.1
goes_is count types by origin all low high p q (inr g) = low q g.0 ∙ g.1 ∙ sym (replaced_alike by variable (types p) g.2 ∙ replaced_same (types p))

extended_fits : (old new : ℕ → Option Form) (count : ℕ) (types by : ℕ → Simple) → (c : AreCopies old new count types by) → Fits old types → (all : ℕ → Simple)
    → ((i : ℕ) → i < count → all i ≡ types i) → ((q : ℕ) → count ≤ q → all q ≡ replaced by (types (c.origin q))) → Fits new all
extended_fits old new count types by c fits all low high i f e = elim (cases_lt i count) [
  | inl h ↦
      let was : old i ≡ Some f = sym (c.kept i h) ∙ e in
      low i h ∙ fits i f was ∙ ap (made f.head) (sym (each_as all types f.parts (λ k d m. low (get_or f.parts k d) (c.inside i f was k d m))))
  | inr h ↦
      let g = c.copied i f h e in
      high i h ∙ ap (replaced by) (fits (c.origin i) g.0 g.1)
      ∙ sym (ap₂ (λ (x : Head) (y : List ℕ). made x (each all y)) g.2 g.3
      ∙ ap (made g.0.head) (each_copied all types by (c.goes i) g.0.parts (λ k d m. goes_is count types by c.origin all low high (get_or g.0.parts k d) (c.goes i (get_or g.0.parts k d)) (g.4 k d m))))
]

pub extends : TypesExtendToCopies
extends old new count types by c fits =
    let all = parted count types (λ q. replaced by (types (c.origin q))) in
    let low : (i : ℕ) → i < count → parted count types (λ q. replaced by (types (c.origin q))) i ≡ types i = λ i h. parted_old count types (λ q. replaced by (types (c.origin q))) i h in
    let high : (q : ℕ) → count ≤ q → parted count types (λ q. replaced by (types (c.origin q))) q ≡ replaced by (types (c.origin q)) = λ q h. parted_new count types (λ q. replaced by (types (c.origin q))) q h in
    record { more = all; fits = extended_fits old new count types by c fits all low high; same = low; copies = high }
