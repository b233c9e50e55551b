-- What a program is asked for, while types grow, and how many implications it has.
use Rattle.std.proofs.Common.{◌≡◌, ℕ, ◌<◌, ◌≤◌, ◌-◌, ◌^◌, List, [], ◌∷◌, ◌++◌, All, length, min, take, refl, sym, ap, ap₂, ◌∙◌, arith}
use Rattle.std.proofs.lemmas.List.{take_all}
use Rattle.std.proofs.lemmas.List.Elements.{All-head, All-tail}
use Rattle.lq_refined_types.specs.Parts.Part.{Parts, Scopes}
use Rattle.lq_refined_subtyping.specs.Table.Rows.{grown, Extends}
use Rattle.lq_refined_subtyping.specs.declared.table.table.Row.{Row}
use Rattle.lq_refined_subtyping.specs.Split.Growing.{HasMore-refl}
use Rattle.lq_refined_types.specs.Subtyping.Implication.{Implication}
use Rattle.lq_generate_implications.specs.Obligations.Views.{all_stated, IsThere}
use Rattle.lq_generate_implications.specs.declared.obligations.obligation.Obligation.{Obligation}
use Rattle.lq_generate_implications.proofs.ObligationsLemmas.Keeping.{stated-kept}

-- obligations state what they did
pub all-stated-kept : (scopes : Scopes) (old new : List Row) → Extends old new → (es : List Parts) (os : List Obligation)
    → All (IsThere (length es) (length old)) os → all_stated es (grown scopes [] new) os ≡ all_stated es (grown scopes [] old) os
all-stated-kept scopes old new e es [] h = refl
all-stated-kept scopes old new e es (o ∷ os) h =
    let P = IsThere (length es) (length old) in
    ap₂ (λ x l. x ∷ l) (stated-kept scopes old new e es es (HasMore-refl es) o (All-head P o os h))
    (all-stated-kept scopes old new e es os (All-tail P o os h))

-- these are the implications of a program, and those of its obligations
module _ (zs ys : List Implication) (e : zs ≡ ys) (n : ℕ) (c : n ≡ min (length ys) (2 ^ 64 - 1)) where
  pub are-past : 262144 < n → (262144 < length zs) × (n ≡ min (length zs) (2 ^ 64 - 1))
  are-past h = let l : length zs ≡ length ys = ap length e in (omega arith, omega arith)

  pub are-few : n ≤ 262144 → length zs ≤ 262144
  are-few h = let l : length zs ≡ length ys = ap length e in omega arith

  -- a list that was empty has all of them
  pub all-there : (old new : List Implication) → old ≡ [] → new ≡ take 262144 (old ++ ys) → n ≤ 262144 → new ≡ zs
  all-there old new o k h =
      let few = are-few h in
      let l : length zs ≡ length ys = ap length e in
      k ∙ ap (λ q. take 262144 (q ++ ys)) o ∙ take_all 262144 ys (omega arith) ∙ sym e
