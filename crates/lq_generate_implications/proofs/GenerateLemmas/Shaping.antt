-- Obligations in memory have one simple type on both sides where those that they state have.
use Rattle.std.proofs.Common.{◌≡◌, List, [], ◌∷◌, All, map, ap, subst}
use Rattle.std.proofs.lemmas.List.Elements.{All-cons, All-head, All-nil, All-tail}
use Rattle.lq_refined_rules.specs.Checks.Basis.{Basis}
use Rattle.lq_refined_rules.specs.Obligations.Obligation as asking
use Rattle.lq_refined_rules.specs.Obligations.Obligation.{IsShapedAsked}
use Rattle.lq_refined_types.specs.Parts.Part.{Parts}
use Rattle.lq_refined_types.specs.Types.Refined.{Refined}
use Rattle.lq_generate_implications.specs.Obligations.Views.{all_stated, stated, stated_view, IsShaped}
use Rattle.lq_generate_implications.specs.declared.obligations.obligation.Obligation.{Obligation}

module _ (P : Basis) (es : List Parts) (types : List Refined) where
  pub shaped-stated : (xs : List asking.Obligation) (os : List Obligation) → map (stated P) xs ≡ all_stated es types os → All asking.IsShaped xs
      → All (IsShaped types) os
  shaped-stated xs [] e h = All-nil (IsShaped types)
  shaped-stated [] (o ∷ os) e h = absurd (cc)
  shaped-stated (x ∷ xs) (o ∷ os) e h =
      let head : stated P x ≡ stated_view es types o = cc in
      let rest : map (stated P) xs ≡ all_stated es types os = cc in
      All-cons (IsShaped types) o os (subst IsShapedAsked (ap (λ s. s.asked) head) (All-head asking.IsShaped x xs h))
      (shaped-stated xs os rest (All-tail asking.IsShaped x xs h))
