-- What is kept of a row, replacement by replacement.
use Rattle.std.proofs.Common.{◌≡◌, ℕ, ◌+◌, List, [], ◌∷◌, ◌++◌, take, slice_get, Some, Bool, true, false, if◌then◌else◌, ap, ap₂, sym, append_assoc, ◌∙◌}
use Rattle.lq_refined_types.specs.Parts.Substitution as swaps
use Rattle.lq_refined_types.specs.Parts.Substitution.{Subst}
use Rattle.lq_refined_substitution.specs.Substitution.Restricting.{picked_view}
use Rattle.lq_refined_substitution.specs.Substitution.Runs.{swap_view, swaps_view}
use Rattle.lq_refined_substitution.specs.declared.substitution.restricting.Picked.{Picked}
use Rattle.lq_refined_substitution.specs.declared.substitution.restricting.Picked.TheVariants.{Whole, Copies}
use Rattle.lq_refined_substitution.specs.declared.substitution.swaps.Swap.{Swap}
use Rattle.lq_refined_substitution.proofs.SubstitutionLemmas.Sharing.{swaps_view-append, take-at}

pub whole-kept : (b : Bool) (p : Picked) (ss : List Swap) (k : ℕ) (s : Swap) → b ≡ true → p ≡ Whole → slice_get ss k ≡ Some s
    → swaps_view (take (k + 1) ss) ≡ (if b then picked_view p ss k ++ swap_view s ∷ [] else picked_view p ss k)
whole-kept true Whole ss k s e f g = ap swaps_view (take-at ss k s g) ∙ swaps_view-append (take k ss) (s ∷ [])
whole-kept true (Copies v) ss k s e f g = absurd (cc)
whole-kept false p ss k s e f g = absurd (cc)

pub copies-kept : (b : Bool) (p : Picked) (v : Subst) (ss : List Swap) (k : ℕ) (s : Swap) → b ≡ true → v ≡ picked_view p ss k ++ swap_view s ∷ []
    → v ≡ (if b then picked_view p ss k ++ swap_view s ∷ [] else picked_view p ss k)
copies-kept true p v ss k s e f = f
copies-kept false p v ss k s e f = absurd (cc)

-- one that was looked at, and added where it is kept
pub kept-next : (b : Bool) (x : swaps.Swap) (made new rest all : Subst) → new ≡ (if b then made ++ x ∷ [] else made)
    → all ≡ (if b then x ∷ rest else rest) → made ++ all ≡ new ++ rest
kept-next true x made new rest all n a = ap (λ l. made ++ l) a ∙ (sym (append_assoc made (x ∷ []) rest) ∙ ap (λ l. l ++ rest) (sym n))
kept-next false x made new rest all n a = ap₂ (λ l r. l ++ r) (sym n) a
