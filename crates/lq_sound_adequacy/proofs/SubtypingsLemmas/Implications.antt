-- Each implication of a program speaks of bound names, as each of its obligations does.
use Rattle.std.proofs.Common.{◌≡◌, inl, inr, ℕ, List, [], ◌∷◌, refl, sym, subst}
use Rattle.std.specs.List.{All}
use Rattle.std.proofs.lemmas.List.Elements.{All-nil, All-cons, All-head, All-tail}
use Rattle.lq_refined_rules.specs.Checks.Basis.{Basis}
use Rattle.lq_sound_scope.proofs.ScopesLemmas.Symbols.{or_left}
use Rattle.lq_sound_values.specs.Inclusion.Symbols.{Symbols}
use Rattle.lq_refined_rules.specs.Obligations.Laws.{ObligationsAreImplications, ObligationsAreShaped}
use Rattle.lq_refined_rules.specs.Obligations.Obligation.{Asked, holds, fits, IsShaped, IsShapedAsked, Obligation, implications_by}
use Rattle.lq_refined_rules.specs.Obligations.Obligations.{obligations_of}
use Rattle.lq_refined_types.specs.Parts.Part.{Parts, known}
use Rattle.lq_logic_predicates.specs.Formula.{falsity}
use Rattle.lq_refined_types.specs.Types.Context.{Context}
use Rattle.lq_sound_values.specs.Runs.Closed.{names_in}
use Rattle.lq_refined_types.specs.Subtyping.Implication.{of_case, Implication, Origin}
use Rattle.lq_refined_types.specs.Subtyping.Subtype.{facts, with_guards}
use Rattle.lq_refined_templates.specs.Templates.Scopes.{Unknown, symbols_in}
use Rattle.lq_sound_scope.specs.Scopes.Over.{PartsOver, of_any_sort}
use Rattle.lq_sound_scope.specs.Splits.Bound.{HypothesesAreOver, IsEnvironment, SplitsAreBound, names_of, with_positions}
use Rattle.lq_sound_adequacy.specs.Subtypings.Bound.{AreBound, IsAskedOver, IsBoundBy, IsBoundObligation}
use Rattle.lq_sound_adequacy.specs.Subtypings.Laws.{ImplicationsAreBound, ObligationsAreBound}

module _ (split_law : SplitsAreBound) (over : HypothesesAreOver) (P : Basis) (unknowns : ℕ → Unknown)
    (agree : (u : ℕ) → P.setting.scopes u ≡ symbols_in (unknowns u).0) where
  -- what is asked of names
  asked_bound : (Γ : Context) (o : Origin) (a : Asked) → IsEnvironment P.setting unknowns Γ → IsAskedOver P unknowns (names_of Γ) a → IsShapedAsked a
      → All (IsBoundBy P unknowns Γ a) (implications_by P Γ o a)
  asked_bound Γ o (holds p) env h s =
      let own : Implication = record { hypotheses = facts P.setting Γ; left = []; goal = known p; origin = o } in
      All-cons (IsBoundBy P unknowns Γ (holds p)) own []
      (inl (record { are = refl; hypotheses = over P.setting unknowns agree (names_in Γ) Γ [] (λ y k. k) env tt; left = tt; goal = h }))
      (All-nil (IsBoundBy P unknowns Γ (holds p)))
  asked_bound Γ o (fits l r) env h s = split_law P.setting unknowns agree o Γ l r env h.0 h.1 s (inr h.2)

  -- that there is no value of a constructor
  case_bound : (Δ : Context) (qs : Parts) (o : Origin) → o.reason ≡ of_case → IsEnvironment P.setting unknowns Δ
      → PartsOver unknowns (of_any_sort (with_positions (names_in Δ))) qs
      → All (IsBoundBy P unknowns (with_guards qs Δ) (holds falsity)) (implications_by P (with_guards qs Δ) o (holds falsity))
  case_bound Δ qs o e env h =
      let Γ = with_guards qs Δ in
      let N : Symbols = with_positions (names_in Δ) in
      let own : Implication = record { hypotheses = facts P.setting Γ; left = []; goal = known falsity; origin = o } in
      All-cons (IsBoundBy P unknowns Γ (holds falsity)) own []
      (inr
      (record {
        reason = e;
        are = refl;
        before = Δ;
        equations = qs;
        is = refl;
        hypotheses = over P.setting unknowns agree N Δ qs (λ y k. or_left (names_in Δ y) _ k) env h;
        left = refl;
        goal = refl;
      }))
      (All-nil (IsBoundBy P unknowns Γ (holds falsity)))

  obligation_bound : (o : Obligation) → IsBoundObligation P unknowns o → IsShaped o → AreBound P unknowns o
  obligation_bound o (inl h) s = asked_bound o.context o.origin o.asked h.environment h.asked s
  obligation_bound o (inr h) s =
      subst (λ (Γ : Context). All (IsBoundBy P unknowns Γ o.asked) (implications_by P Γ o.origin o.asked)) (sym h.are)
      (subst (λ (a : Asked). All (IsBoundBy P unknowns (with_guards h.equations h.before) a) (implications_by P (with_guards h.equations h.before) o.origin a))
      (sym h.asked) (case_bound h.before h.equations o.origin h.reason h.environment h.over))

  all_bound : (os : List Obligation) → All (IsBoundObligation P unknowns) os → All IsShaped os → All (AreBound P unknowns) os
  all_bound [] h s = All-nil (AreBound P unknowns)
  all_bound (o ∷ os) h s =
      All-cons (AreBound P unknowns) o os
      (obligation_bound o (All-head (IsBoundObligation P unknowns) o os h) (All-head IsShaped o os s))
      (all_bound os (All-tail (IsBoundObligation P unknowns) o os h) (All-tail IsShaped o os s))

pub implications_bound : SplitsAreBound → HypothesesAreOver → ObligationsAreBound → ObligationsAreImplications → ObligationsAreShaped
    → ImplicationsAreBound
implications_bound split_law over obligations are shaped P unknowns Q p posed = (
  are P [] p,
  all_bound split_law over P unknowns posed.scopes (obligations_of P [] p) (obligations P unknowns Q p posed) (shaped P [] p posed.ready),
)
