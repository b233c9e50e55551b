-- A scoped program as what is walked over.
use Rattle.std.proofs.Common.{◌≡◌, ℕ, suc, ◌+◌, ◌<◌, ◌≤◌, List, ◌∷◌, take, drop, get_or, Option, Some, None, IsSome, All, length, refl, sym, ap, ap₂, subst, ◌∙◌, arith}
use Rattle.std.proofs.Math.Seq.{drop-cons}
use Rattle.std.proofs.lemmas.List.{take_all}
use Rattle.lq_base_names.specs.declared.place.Place.{Place}
use Rattle.lq_text_walk.specs.Walk.Visits.{Visit, show_name, visits_of_items}
use Rattle.lq_types_rules.specs.Equations.Adding.{count_of}
use Rattle.lq_types_rules.specs.Equations.Gathered.{VisitIn}
use Rattle.lq_types_rules.specs.Equations.Solved.{types_in}
use Rattle.lq_types_rules.specs.Equations.Templates.{AreWhole, HasSignature}
use Rattle.lq_text_walk.specs.Scoped.Scoping.{Scoping, IsScoped}
use Rattle.lq_text_walk.specs.Scoped.Signature.{DataTree, signature_in}
use Rattle.lq_text_walk.specs.Scoped.Views.{scoped_items}
use Rattle.lq_types_rules.specs.Visits.Laws.{slot_count, ScopedSlotsAreApart, ScopedVisitsAreIn}
use Rattle.lq_types_rules.specs.Visits.Owning.{AreApart}
use Rattle.lq_types_rules.specs.Typings.Fronts.{left_in}
use Rattle.lq_types_rules.specs.Typings.Inference.{place_at, IsIllTyped}
use Rattle.lq_types_rules.specs.Typings.Principal.{node_count}
use Rattle.lq_types_infer.specs.declared.inference.equations.Inferred.{Inferred}
use Rattle.lq_types_infer.specs.declared.inference.program.Program.{Program}
use Rattle.lq_types_infer.specs.Inference.Gathering.{IsComplete, IsSound}
use Rattle.lq_types_infer.specs.Inference.Inferring.{IsSolved}
use Rattle.lq_types_infer.specs.Inference.Programs.{visits_in, IsReady, IsFrontSolved, IsFailing}
use Rattle.lq_types_infer.proofs.InferenceLemmas.Leaving.{items_left}
use Rattle.lq_types_infer.proofs.InferenceLemmas.Failing.{failing_placed, ill_typed_at}

-- the program has the scoped one's visits, nodes, slots and constructors
pub record IsOf (s : Scoping) (p : Program) : Type 0 where
  pub visits : visits_in p ≡ visits_of_items s.items
  pub nodes : p.nodes ≡ node_count s
  pub slots : p.slots ≡ slot_count s
  pub whole : AreWhole p.constructors
  pub signature : HasSignature p.constructors (signature_in s.datatypes)

pub nodes_are : (s : Scoping) (visits : List Visit) (n : ℕ) → visits ≡ visits_of_items s.items → n ≡ length (left_in visits) → n ≡ node_count s
nodes_are s visits n e q = q ∙ ap (λ vs. length (left_in vs)) e ∙ ap length (items_left s.items)

pub is_of : (s : Scoping) (p : Program) (binders : ℕ) (datatypes : List DataTree) → scoped_items p.items.now ≡ s.items → p.nodes ≡ length (left_in (visits_in p)) → p.slots ≡ p.nodes + binders → binders ≡ length s.sources → AreWhole p.constructors
    → datatypes ≡ s.datatypes → HasSignature p.constructors (signature_in datatypes) → IsOf s p
is_of s p binders datatypes e n m b w d h = record {
  visits = ap visits_of_items e;
  nodes = nodes_are s (visits_in p) p.nodes (ap visits_of_items e) n;
  slots = m ∙ ap₂ (λ (x : ℕ) (y : ℕ). x + y) (nodes_are s (visits_in p) p.nodes (ap visits_of_items e) n) b;
  whole = w;
  signature = subst (λ x. HasSignature p.constructors (signature_in x)) d h;
}

pub ready_of : (s : Scoping) (p : Program) → IsScoped s → IsOf s p → ScopedSlotsAreApart → ScopedVisitsAreIn → IsReady p
ready_of s p scoped o apart within = record {
  whole = o.whole;
  signature = (signature_in s.datatypes, o.signature);
  apart = subst (λ vs. AreApart p.nodes p.slots vs) (sym o.visits)
      (subst (λ n. AreApart n p.slots (visits_of_items s.items)) (sym o.nodes) (subst (λ m. AreApart (node_count s) m (visits_of_items s.items)) (sym o.slots) (apart s scoped)));
  within = subst (λ vs. All (VisitIn p.nodes p.slots) vs) (sym o.visits)
      (subst (λ n. All (VisitIn n p.slots) (visits_of_items s.items)) (sym o.nodes) (subst (λ m. All (VisitIn (node_count s) m) (visits_of_items s.items)) (sym o.slots) (within s scoped)));
}

pub solved_of : (s : Scoping) (p : Program) (n : ℕ) (i : Inferred) → IsOf s p → n ≡ length (visits_in p) → IsFrontSolved p n i → IsSolved s i.system (types_in i.system i.solution)
solved_of s p n i o e f = record {
  principal = f.principal;
  complete = subst (λ vs. IsComplete (signature_in s.datatypes) (node_count s) (slot_count s) vs i.system) whole
      (subst (λ k. IsComplete (signature_in s.datatypes) k (slot_count s) (take n (visits_in p)) i.system) o.nodes
      (subst (λ m. IsComplete (signature_in s.datatypes) p.nodes m (take n (visits_in p)) i.system) o.slots (f.complete (signature_in s.datatypes) o.signature)));
  sound = subst (λ vs. IsSound (signature_in s.datatypes) (node_count s) vs i.system) whole
      (subst (λ k. IsSound (signature_in s.datatypes) k (take n (visits_in p)) i.system) o.nodes (f.sound (signature_in s.datatypes) o.signature));
}
  where
    whole : take n (visits_in p) ≡ visits_of_items s.items
    whole = take_all n (visits_in p) (omega arith) ∙ o.visits

pub slots_of : (s : Scoping) (p : Program) (n : ℕ) (i : Inferred) → IsOf s p → IsFrontSolved p n i → slot_count s ≤ count_of i.system
slots_of s p n i o f = subst (λ (m : ℕ). m ≤ count_of i.system) o.slots f.longer

-- ---- the place

visit_at : (p : Program) (n : ℕ) → n < length (visits_in p) → drop n (visits_in p) ≡ get_or (visits_in p) n (show_name 0) ∷ drop (suc n) (visits_in p)
visit_at p n l = drop-cons (visits_in p) n (show_name 0) l

pub place_some : (p : Program) (n : ℕ) → IsReady p → IsFailing p n → (found : Option Place) → ((v : Visit) (later : List Visit) → drop n (visits_in p) ≡ v ∷ later → found ≡ place_at v) → IsSome found
place_some p n ready f None h =
    let e = visit_at p n f.within in absurd (failing_placed p n (get_or (visits_in p) n (show_name 0)) (drop (suc n) (visits_in p)) ready f e (sym (h (get_or (visits_in p) n (show_name 0)) (drop (suc n) (visits_in p)) e)))
place_some p n ready f (Some x) h = refl

pub ill_typed_of : (s : Scoping) (p : Program) (n : ℕ) → IsOf s p → IsFailing p n → (found : Option Place) → ((v : Visit) (later : List Visit) → drop n (visits_in p) ≡ v ∷ later → found ≡ place_at v) → (place : Place)
    → found ≡ Some place → IsIllTyped s place
ill_typed_of s p n o f found h place q =
    let e = visit_at p n f.within in
    ill_typed_at s p n (get_or (visits_in p) n (show_name 0)) (drop (suc n) (visits_in p)) place o.visits o.nodes o.signature f e (sym (h (get_or (visits_in p) n (show_name 0)) (drop (suc n) (visits_in p)) e) ∙ q)
