-- Types of expressions in a row, one more each time.
use Rattle.std.proofs.Common.{◌≡◌, ℕ, suc, ◌+◌, ◌<◌, List, [], ◌∷◌, ◌++◌, length, take, get_or, refl, sym, ap, ap₂, ◌∙◌, arith}
use Rattle.std.proofs.lemmas.List.{length-map, length-take-le, map-append, take_more}
use Rattle.lq_refined_rules.specs.Checks.Basis.{Basis}
use Rattle.lq_refined_rules.specs.Checks.Pure.{operands_for, pure_atom, pure_type, pure_types}
use Rattle.lq_refined_rules.specs.Checks.Tree as t
use Rattle.lq_refined_types.specs.Parts.Substitution.{swap}
use Rattle.lq_refined_templates.specs.Programs.PureView.{pure_view, pures_view}
use Rattle.lq_refined_templates.specs.declared.programs.pure.Pure.{Pure}
use Rattle.lq_logic_predicates.specs.declared.symbol.Symbol.TheVariants.{Position}
use Rattle.lq_refined_types.specs.Types.Context.{Context}
use Rattle.lq_refined_types.specs.Types.Refined.{Refined, Refineds, none, more}
use Rattle.lq_refined_subtyping.specs.Table.Forms.{at, each}

-- one type more at the end
abbrev with_last : Refineds → Refined → Refineds
with_last none t = more t none
with_last (more u us) t = more u (with_last us t)

each-push : (all : List Refined) (is : List ℕ) (i : ℕ) → each all (is ++ i ∷ []) ≡ with_last (each all is) (at all i)
each-push all [] i = refl
each-push all (k ∷ is) i = ap (more (at all k)) (each-push all is i)

module _ (P : Basis) (Γ : Context) where
  pure_types-push : (es : List t.Pure) (e : t.Pure) → pure_types P Γ (es ++ e ∷ []) ≡ with_last (pure_types P Γ es) (pure_type P Γ e)
  pure_types-push [] e = refl
  pure_types-push (a ∷ es) e = ap (more (pure_type P Γ a)) (pure_types-push es e)

  operands_for-push : (j k : ℕ) (es : List t.Pure) (e : t.Pure) → k ≡ j + length es
      → operands_for P Γ j (es ++ e ∷ []) ≡ operands_for P Γ j es ++ swap (Position (suc k)) (pure_atom P Γ e) ∷ []
  operands_for-push j k [] e h = let s : j ≡ k = omega arith in ap (λ i. swap (Position (suc i)) (pure_atom P Γ e) ∷ []) s
  operands_for-push j k (a ∷ es) e h = ap (λ l. swap (Position (suc j)) (pure_atom P Γ a) ∷ l) (operands_for-push (suc j) k es e (omega arith))

  seen-push : (es : List Pure) (i : ℕ) (d : Pure) → i < length es → pures_view (take (i + 1) es) ≡ pures_view (take i es) ++ pure_view (get_or es i d) ∷ []
  seen-push es i d h = ap pures_view (take_more es i d h) ∙ map-append pure_view (take i es) (get_or es i d ∷ [])

  -- the type of the next expression stands behind the others
  pub types-more : (all : List Refined) (is : List ℕ) (r : ℕ) (es : List Pure) (i : ℕ) (e : Pure) → i < length es → e ≡ get_or es i e
      → each all is ≡ pure_types P Γ (pures_view (take i es)) → at all r ≡ pure_type P Γ (pure_view e)
      → each all (is ++ r ∷ []) ≡ pure_types P Γ (pures_view (take (i + 1) es))
  types-more all is r es i e h s f g =
      each-push all is r ∙ ap₂ with_last f (g ∙ ap (λ a. pure_type P Γ (pure_view a)) s)
      ∙ sym (ap (pure_types P Γ) (seen-push es i e h) ∙ pure_types-push (pures_view (take i es)) (pure_view (get_or es i e)))

  -- the next expression stands for the next position
  pub operands-more : (es : List Pure) (i k : ℕ) (e : Pure) → i < length es → e ≡ get_or es i e → k ≡ suc i
      → operands_for P Γ 0 (pures_view (take (i + 1) es))
      ≡ operands_for P Γ 0 (pures_view (take i es)) ++ swap (Position k) (pure_atom P Γ (pure_view e)) ∷ []
  operands-more es i k e h s f =
      let n : length (pures_view (take i es)) ≡ i = length-map (take i es) pure_view ∙ length-take-le i es (omega arith) in
      ap (operands_for P Γ 0) (seen-push es i e h)
      ∙ operands_for-push 0 i (pures_view (take i es)) (pure_view (get_or es i e)) (omega arith)
      ∙ ap₂ (λ j a. operands_for P Γ 0 (pures_view (take i es)) ++ swap (Position j) (pure_atom P Γ (pure_view a)) ∷ []) (sym f) (sym s)
