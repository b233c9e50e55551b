-- The first visit of a program whose rule can't hold.
use Rattle.std.proofs.Common.{◌≡◌, inl, inr, ℕ, zero, suc, ◌+◌, ◌<◌, ◌≤◌, List, [], ◌∷◌, ◌++◌, take, drop, Some, None, length, sym, ap, subst, ◌∙◌, arith}
use Rattle.std.proofs.lemmas.Bool.{cases_lt}
use Rattle.std.proofs.lemmas.List.{take-append-drop}
use Rattle.lq_base_names.specs.declared.place.Place.{Place}
use Rattle.lq_text_tree.specs.MlType as ml
use Rattle.lq_text_tree.specs.MlType.{MlType}
use Rattle.lq_text_tree.specs.Tree.{tree}
use Rattle.lq_text_tree.specs.Types.{Signature}
use Rattle.lq_text_walk.specs.Walk.Visits.{Visit, enter_item, leave_item, enter, leave, leave_function, declare, show, hide, show_name, hide_name, visits_of_items}
use Rattle.lq_types_rules.specs.Equations.Solved.{types_in}
use Rattle.lq_types_rules.specs.Equations.Templates.{HasSignature}
use Rattle.lq_text_walk.specs.Scoped.Scoping.{Scoping}
use Rattle.lq_text_walk.specs.Scoped.Signature.{signature_in}
use Rattle.lq_types_rules.specs.Typings.Inference.{place_at, IsIllTyped}
use Rattle.lq_types_rules.specs.Typings.Principal.{node_count}
use Rattle.lq_types_rules.specs.Typings.Uses.{Known, none_known, UseRule, ObeysUses}
use Rattle.lq_types_infer.specs.declared.inference.equations.Inferred.{Inferred}
use Rattle.lq_types_infer.specs.declared.inference.program.Program.{Program}
use Rattle.lq_types_infer.specs.Inference.Programs.{visits_in, IsReady, Can, Cannot, IsFrontSolved, IsFailing}
use Rattle.lq_types_infer.proofs.InferenceLemmas.Steps.{obeys_fewer, obeys_next, none_behind}

pub can_none : (p : Program) → Can p 0
can_none p g h = ((λ i. ml.unit), tt)

pub can_solved : (p : Program) (n : ℕ) (i : Inferred) → IsFrontSolved p n i → Can p n
can_solved p n i s g h = (types_in i.system i.solution, s.sound g h (types_in i.system i.solution) s.principal)

pub can_below : (p : Program) (low high : ℕ) → IsReady p → Can p low → Cannot p high → low < high
can_below p low high ready can cannot = elim (cases_lt low high) [
  | inl l ↦ l
  | inr l ↦ absurd (let g = ready.signature in let x = can g.0 g.1 in cannot g.0 g.1 x.0 (obeys_fewer g.0 p.nodes none_known high low (visits_in p) x.0 l x.1))
]

-- the rules of the first so many visits can hold together, and those of the first so many more can't
pub record IsBetween (p : Program) (low high : ℕ) : Type 0 where
  pub order : low < high
  pub within : high ≤ length (visits_in p)
  pub can : Can p low
  pub cannot : Cannot p high

pub between_all : (p : Program) (n : ℕ) → IsReady p → n ≤ length (visits_in p) → Cannot p n → IsBetween p 0 n
between_all p n ready l cannot = record { order = can_below p 0 n ready (can_none p) cannot; within = l; can = can_none p; cannot = cannot }

pub between_solved : (p : Program) (low high middle : ℕ) (i : Inferred) → IsBetween p low high → middle < high → IsFrontSolved p middle i → IsBetween p middle high
between_solved p low high middle i b l s = record { order = l; within = b.within; can = can_solved p middle i s; cannot = b.cannot }

pub between_failed : (p : Program) (low high middle n : ℕ) → IsReady p → IsBetween p low high → middle < high → (n ≤ middle) × Cannot p n → IsBetween p low n
between_failed p low high middle n ready b l f = record {
  order = can_below p low n ready b.can f.1;
  within = let x = f.0 in let y = b.within in omega arith;
  can = b.can;
  cannot = f.1;
}

pub between_same : (p : Program) (a b x y : ℕ) → x ≡ a → y ≡ b → IsBetween p a b → IsBetween p x y
between_same p a b x y e f h = subst (λ m. IsBetween p m y) (sym e) (subst (λ m. IsBetween p a m) (sym f) h)

pub between_next : (p : Program) (low high : ℕ) → high ≤ low + 1 → IsBetween p low high → IsFailing p low
between_next p low high l b = record {
  within = let x = b.order in let y = b.within in omega arith;
  can = b.can;
  cannot = subst (Cannot p) e b.cannot;
}
  where
    e : high ≡ suc low
    e = let x = b.order in omega arith

-- what has no place has no rule
free_rule : (g : Signature) (nodes : ℕ) (v : Visit) (types : ℕ → MlType) → place_at v ≡ None → (k : Known) → UseRule g nodes k v types
free_rule g nodes (enter_item i) types e k = tt
free_rule g nodes (leave_item i) types e k = absurd (cc)
free_rule g nodes (enter t) types e k = tt
free_rule g nodes (leave (tree i p f)) types e k = absurd (cc)
free_rule g nodes (leave_function r) types e k = absurd (cc)
free_rule g nodes (declare q) types e k = tt
free_rule g nodes (show q) types e k = tt
free_rule g nodes (hide q) types e k = tt
free_rule g nodes (show_name x) types e k = tt
free_rule g nodes (hide_name x) types e k = tt

pub failing_placed : (p : Program) (n : ℕ) (v : Visit) (later : List Visit) → IsReady p → IsFailing p n → drop n (visits_in p) ≡ v ∷ later → place_at v ≡ None → ⊥
failing_placed p n v later ready f e q =
    let g = ready.signature in
    let x = f.can g.0 g.1 in
    f.cannot g.0 g.1 x.0 (obeys_next g.0 p.nodes none_known n (visits_in p) later v x.0 e (free_rule g.0 p.nodes v x.0 q) x.1)

next_front : (n : ℕ) (vs later : List Visit) (v : Visit) → drop n vs ≡ v ∷ later → take (suc n) vs ≡ take n vs ++ v ∷ []
next_front n [] later v e = absurd (none_behind n v later e)
next_front zero (w ∷ vs) later v e = first_same e
  where
    first_same : w ∷ vs ≡ v ∷ later → w ∷ [] ≡ v ∷ []
    first_same q = cc
next_front (suc n) (w ∷ vs) later v e = ap (λ (l : List Visit). w ∷ l) (next_front n vs later v e)

pub ill_typed_at : (s : Scoping) (p : Program) (n : ℕ) (v : Visit) (later : List Visit) (place : Place) → visits_in p ≡ visits_of_items s.items → p.nodes ≡ node_count s → HasSignature p.constructors (signature_in s.datatypes)
    → IsFailing p n → drop n (visits_in p) ≡ v ∷ later → place_at v ≡ Some place → IsIllTyped s place
ill_typed_at s p n v later place all_is nodes_are h f e q = record {
  front = take n (visits_in p);
  visit = v;
  later = later;
  split = sym all_is ∙ sym (take-append-drop n (visits_in p)) ∙ ap (λ (l : List Visit). take n (visits_in p) ++ l) e;
  there = q;
  can = let x = f.can (signature_in s.datatypes) h in (x.0, subst (λ (m : ℕ). ObeysUses (signature_in s.datatypes) m (take n (visits_in p)) x.0) nodes_are x.1);
  cannot = λ types o. f.cannot (signature_in s.datatypes) h types
      (subst (λ (l : List Visit). ObeysUses (signature_in s.datatypes) p.nodes l types) (sym (next_front n (visits_in p) later v e))
      (subst (λ (m : ℕ). ObeysUses (signature_in s.datatypes) m (take n (visits_in p) ++ v ∷ []) types) (sym nodes_are) o));
}
