-- The equations of the visits of a walk, one more at a time.
use Rattle.std.proofs.Common.{◌≡◌, ℕ, ◌+◌, ◌<◌, ◌≤◌, List, [], ◌∷◌, ◌++◌, take, All, length, refl, sym, ap, subst, ◌∙◌, arith, append_assoc}
use Rattle.std.proofs.lemmas.List.{length-append}
use Rattle.std.proofs.Math.Seq.{take-append_seam}
use Rattle.lq_text_tree.specs.MlType.{MlType}
use Rattle.lq_text_tree.specs.Types.{Signature}
use Rattle.lq_types_unify.specs.Solved.{HasOrder}
use Rattle.lq_text_walk.specs.Walk.Visits.{Visit}
use Rattle.lq_types_rules.specs.declared.equations.system.System.{System}
use Rattle.lq_types_rules.specs.Equations.Adding.{IsSystem, IsFresh, count_of}
use Rattle.lq_types_rules.specs.Equations.Gathered.{VisitIn}
use Rattle.lq_types_rules.specs.Equations.Solved.{IsPrincipal, Solves, types_in, written}
use Rattle.lq_types_rules.specs.Equations.Templates.{HasSignature}
use Rattle.lq_types_rules.proofs.EquationsLemmas.Growing.{all_right}
use Rattle.lq_types_rules.proofs.EquationsLemmas.Widening.{visit_wider}
use Rattle.lq_types_rules.specs.Visits.Owning.{AreOwned}
use Rattle.lq_types_rules.specs.Typings.Uses.{none_known, known_at, ObeysUses}
use Rattle.lq_types_infer.specs.declared.inference.equations.Equations.{Equations}
use Rattle.lq_types_infer.specs.declared.inference.equations.Inferred.{Inferred}
use Rattle.lq_types_infer.specs.declared.inference.program.Program.{Program}
use Rattle.lq_types_infer.specs.Inference.Adding.{IsKept, IsAtVisit, IsStepOf, IsBehind, HasClash}
use Rattle.lq_types_infer.specs.Inference.Defining.{HasKnown}
use Rattle.lq_types_infer.specs.Inference.Gathering.{IsComplete, IsSound, AreSteps}
use Rattle.lq_types_infer.specs.Inference.Programs.{visits_in, IsReady, Cannot, IsFrontSolved}
use Rattle.lq_types_infer.proofs.InferenceLemmas.Fronts.{say, known_more}
use Rattle.lq_types_infer.proofs.InferenceLemmas.Reading.{writes}
use Rattle.lq_types_infer.proofs.InferenceLemmas.Steps.{steps_more, owned_front, owned_next}

-- the equations of the visits that came, so many
pub record IsFront (p : Program) (n : ℕ) (left : List Visit) (s : Equations) : Type 0 where
  pub done : List Visit
  pub all_is : visits_in p ≡ done ++ left
  pub count : length done ≡ n
  pub kept : IsKept p.nodes s
  pub longer : p.slots ≤ count_of s.system
  pub known : HasKnown s.definitions (known_at done)
  pub first : System
  pub fresh : IsFresh p.slots first
  pub steps : (g : Signature) → HasSignature p.constructors g → AreSteps g p.nodes none_known done first s.system

pub front_none : (p : Program) (left : List Visit) (s : Equations) → IsFresh p.slots s.system → IsKept p.nodes s → HasKnown s.definitions none_known → left ≡ visits_in p → IsFront p 0 left s
front_none p left s f kept known e = record {
  done = [];
  all_is = sym e;
  count = refl;
  kept = kept;
  longer = let x = f.long in omega arith;
  known = known;
  first = s.system;
  fresh = f;
  steps = λ g h. refl;
}

module _ (p : Program) (n : ℕ) (left : List Visit) (s : Equations) (ready : IsReady p) (i : IsFront p n left s) where
  done_is : take n (visits_in p) ≡ i.done
  done_is = ap (λ (m : ℕ). take m (visits_in p)) (sym i.count) ∙ ap (take (length i.done)) i.all_is ∙ take-append_seam i.done left

  owned : AreOwned p.nodes p.slots ready.apart.0 0 none_known (i.done ++ left)
  owned = subst (AreOwned p.nodes p.slots ready.apart.0 0 none_known) i.all_is ready.apart.1

  pub front_says : (g : Signature) → HasSignature p.constructors g → IsComplete g p.nodes p.slots (take n (visits_in p)) s.system × IsSound g p.nodes (take n (visits_in p)) s.system
  front_says g h =
      subst (λ vs. IsComplete g p.nodes p.slots vs s.system × IsSound g p.nodes vs s.system) (sym done_is)
      (say g p.nodes p.slots i.done i.first s.system i.fresh (ready.apart.0, owned_front p.nodes p.slots ready.apart.0 0 none_known i.done left owned) (i.steps g h))

  -- a visit is left where fewer came than there are
  pub front_left : n < length (visits_in p) → left ≡ [] → ⊥
  front_left l e =
      let x = i.count in
      let y = ap length i.all_is in
      let z = length-append i.done left in
      let w : length left ≡ 0 = ap length e in
      omega arith

  pub front_solved : (limit : ℕ) → n ≡ limit → (d : Inferred) → d.system ≡ s.system → IsPrincipal d.system (types_in d.system d.solution) → HasOrder d.system.arena d.solution → IsFrontSolved p limit d
  front_solved limit e d same principal ordered = record {
    system = subst IsSystem (sym same) i.kept.system;
    principal = principal;
    ordered = ordered;
    longer = subst (λ (y : System). p.slots ≤ count_of y) (sym same) i.longer;
    complete = λ g h. subst (λ y. IsComplete g p.nodes p.slots (take limit (visits_in p)) y) (sym same)
        (subst (λ m. IsComplete g p.nodes p.slots (take m (visits_in p)) s.system) e (front_says g h).0);
    sound = λ g h. subst (λ y. IsSound g p.nodes (take limit (visits_in p)) y) (sym same) (subst (λ m. IsSound g p.nodes (take m (visits_in p)) s.system) e (front_says g h).1);
  }

  pub front_unsolved : (limit : ℕ) → n ≡ limit → ((types : ℕ → MlType) → Solves s.system s.system.equations.items types → ⊥) → Cannot p limit
  front_unsolved limit e none g h types o =
      let x = (front_says g h).0 types (subst (λ m. ObeysUses g p.nodes (take m (visits_in p)) types) (sym e) o) in
      none x.0 x.2

  module _ (v : Visit) (rest : List Visit) (e : left ≡ v ∷ rest) where
    all_is : visits_in p ≡ i.done ++ v ∷ rest
    all_is = i.all_is ∙ ap (λ (l : List Visit). i.done ++ l) e

    next_owned : AreOwned p.nodes p.slots ready.apart.0 0 none_known (i.done ++ v ∷ rest)
    next_owned = subst (AreOwned p.nodes p.slots ready.apart.0 0 none_known) all_is ready.apart.1

    pub front_at : IsAtVisit p.nodes s v
    front_at = (
      known_at i.done,
      i.known,
      λ k d l. let x = owned_next p.nodes p.slots ready.apart.0 0 none_known i.done rest v next_owned k d l in let y = i.longer in omega arith,
    )

    pub front_in : VisitIn p.nodes (count_of s.system) v
    front_in = visit_wider p.nodes p.slots (count_of s.system) i.longer v
        (all_right (VisitIn p.nodes p.slots) i.done (v ∷ rest) (subst (All (VisitIn p.nodes p.slots)) all_is ready.within) 0 v (omega arith))

    next_done : take (n + 1) (visits_in p) ≡ i.done ++ v ∷ []
    next_done = ap (λ (m : ℕ). take m (visits_in p)) long ∙ ap (take (length (i.done ++ v ∷ []))) (all_is ∙ sym (append_assoc i.done (v ∷ []) rest)) ∙ take-append_seam (i.done ++ v ∷ []) rest
      where
        long : n + 1 ≡ length (i.done ++ v ∷ [])
        long = let x = i.count in let y = length-append i.done (v ∷ []) in omega arith

    steps_by : (next : System) → IsStepOf p.constructors p.nodes s v next → (g : Signature) → HasSignature p.constructors g → AreSteps g p.nodes none_known (i.done ++ v ∷ []) i.first next
    steps_by next step g h = steps_more g p.nodes none_known i.done v i.first s.system next (i.steps g h) (step g (known_at i.done) h i.known)

    pub front_more : (new : Equations) → IsKept p.nodes new → count_of s.system ≤ count_of new.system → IsStepOf p.constructors p.nodes s v new.system → IsBehind v s.definitions new.definitions → IsFront p (n + 1) rest new
    front_more new kept longer step b = record {
      done = i.done ++ v ∷ [];
      all_is = all_is ∙ sym (append_assoc i.done (v ∷ []) rest);
      count = let x = i.count in let y = length-append i.done (v ∷ []) in omega arith;
      kept = kept;
      longer = let x = i.longer in omega arith;
      known = subst (HasKnown new.definitions) (sym (known_more none_known i.done v)) (b (known_at i.done) i.known);
      first = i.first;
      fresh = i.fresh;
      steps = steps_by new.system step;
    }

    pub front_fails : HasClash p.constructors p.nodes s v → Cannot p (n + 1)
    front_fails c g h types o =
        let said = say g p.nodes p.slots (i.done ++ v ∷ []) i.first c.next i.fresh
        (ready.apart.0, owned_front p.nodes p.slots ready.apart.0 0 none_known (i.done ++ v ∷ []) rest (subst (AreOwned p.nodes p.slots ready.apart.0 0 none_known) (sym (append_assoc i.done (v ∷ []) rest)) next_owned))
        (steps_by c.next c.step g h) in
        let x = said.0 types (subst (λ vs. ObeysUses g p.nodes vs types) next_done o) in
        c.fails (λ j. written (x.0 j)) (writes c.next c.next.equations.items x.0 c.system x.2)
