-- What is found in rows, and in others behind them.
use Rattle.std.proofs.Common.{◌≡◌, List, [], ◌++◌, Option, Some, None, MatchOption, sym, ap, ◌∙◌}
use Rattle.std.proofs.lemmas.List.{append-nil}
use Rattle.lq_refined_types.specs.Parts.Substitution.{Subst}
use Rattle.lq_refined_substitution.specs.Substitution.Runs.{run_list, runs_view, swaps_view}
use Rattle.lq_refined_substitution.specs.declared.substitution.runs.Run.{Run}
use Rattle.lq_refined_substitution.specs.declared.substitution.swaps.Swap.{Swap}
use Rattle.lq_refined_substitution.proofs.SubstitutionLemmas.Sharing.{swaps_view-append}

module _ {V X : Type 0} (at : Subst → V) (view : X → V) (front back f b : List Run) (r : Option X) where
  pub found : f ≡ front → b ≡ back → ((θ : Subst) → at (runs_view f ++ θ) ≡ at θ)
      → MatchOption r ((θ : Subst) → at (runs_view b ++ θ) ≡ at θ) (λ x. (θ : Subst) → at (runs_view b ++ θ) ≡ view x)
      → MatchOption r (at (swaps_view (run_list front ++ run_list back)) ≡ at []) (λ x. at (swaps_view (run_list front ++ run_list back)) ≡ view x)
  found p q e m = as_found r m
    where
      behind : at (swaps_view (run_list front ++ run_list back)) ≡ at (runs_view b ++ [])
      behind =
          ap at (swaps_view-append (run_list front) (run_list back)) ∙ ap (λ l. at (runs_view l ++ runs_view back)) (sym p) ∙ e (runs_view back)
          ∙ ap (λ l. at (runs_view l)) (sym q) ∙ ap at (sym (append-nil (runs_view b)))

      as_found : (o : Option X) → MatchOption o ((θ : Subst) → at (runs_view b ++ θ) ≡ at θ) (λ x. (θ : Subst) → at (runs_view b ++ θ) ≡ view x)
          → MatchOption o (at (swaps_view (run_list front ++ run_list back)) ≡ at []) (λ x. at (swaps_view (run_list front ++ run_list back)) ≡ view x)
      as_found None k = behind ∙ k []
      as_found (Some x) k = behind ∙ k []

module _ {V X : Type 0} (at : Subst → V) (view : X → V) (items given : List Swap) where
  pub found-alone : (r : Option X) → given ≡ items → MatchOption r ((θ : Subst) → at (swaps_view given ++ θ) ≡ at θ) (λ x. (θ : Subst) → at (swaps_view given ++ θ) ≡ view x)
      → MatchOption r (at (swaps_view items) ≡ at []) (λ x. at (swaps_view items) ≡ view x)
  found-alone None e k = ap (λ l. at (swaps_view l)) (sym e) ∙ ap at (sym (append-nil (swaps_view given))) ∙ k []
  found-alone (Some x) e k = ap (λ l. at (swaps_view l)) (sym e) ∙ ap at (sym (append-nil (swaps_view given))) ∙ k []
