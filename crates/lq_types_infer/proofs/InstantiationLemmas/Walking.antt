-- What a walk over two types side by side notes.
use Rattle.std.specs.Prelude.{All, slice_index_or}
use Rattle.std.proofs.Common.{◌≡◌, ℕ, zero, suc, ◌+◌, ◌<◌, ◌≤◌, map, set, Bool, false, List, [], ◌∷◌, length, Some, None, ◌⊎◌, inl, inr, refl, sym, ap, subst, ◌∙◌, arith, get_or}
use Rattle.std.proofs.lemmas.Bool.{cases_eq}
use Rattle.std.proofs.lemmas.List.{get_or-map, get_or-set_same, get_or-set_other, length-set, length-map}
use Rattle.std.proofs.Math.Logic.{∥∥₁_elim}
use Rattle.std.proofs.Props.{props}
use Rattle.lq_text_tree.specs.MlType as ml
use Rattle.lq_text_tree.specs.MlType.{MlType}
use Rattle.lq_text_tree.specs.Types.{put}
use Rattle.lq_types_table.specs.Nodes.{at}
use Rattle.lq_types_table.specs.Seen.{IsOver}
use Rattle.lq_types_rules.specs.Typings.Principal.{is_open}
use Rattle.lq_types_rules.specs.Typings.Uses.{Each}
use Rattle.lq_types_infer.specs.Annotation.Bounds.{bound_of}
use Rattle.lq_types_infer.specs.Annotation.Numbering.{variable_in}
use Rattle.lq_types_infer.specs.declared.instantiation.matching.Matching.{Matching}
use Rattle.lq_types_infer.specs.Instantiation.Matching.{Becomes, IsNoted, AreMet, StaysNoted, IsWalked}
use Rattle.lq_types_infer.proofs.InstantiationLemmas.Parts.{AllOf, type_parts, parts_are, parts_put, put_each, each_of, each_more, bounds_parts, variable_is}

-- the first parts of a type are walked
pub record PartsWalked (all : List MlType) (by : ℕ → MlType) (old new : Matching) (parts : List ℕ) (i : ℕ) : Type 0 where
  pub stays : StaysNoted all by old new
  pub noted : (k : ℕ) → k < i → Each (IsNoted all by new.found.items) (at all (slice_index_or parts k 0))

-- ---- parts side by side

map_map : (f : MlType → MlType) (g : ℕ → MlType) (ps : List ℕ) → map f (map g ps) ≡ map (λ p. f (g p)) ps
map_map f g [] = refl
map_map f g (p ∷ ps) = ap (λ (l : List MlType). f (g p) ∷ l) (map_map f g ps)

abbrev first_or : List MlType → MlType
first_or [] = ml.unit
first_or (a ∷ as_) = a

abbrev rest_of : List MlType → List MlType
rest_of [] = []
rest_of (a ∷ as_) = as_

module _ (f g : ℕ → MlType) where
  same_each : (qs ps : List ℕ) → map f qs ≡ map g ps → (k : ℕ) → k < length ps → f (get_or qs k 0) ≡ g (get_or ps k 0)
  same_each [] [] e k l = absurd (omega arith)
  same_each [] (p ∷ ps) e k l = absurd (let n : length {A = MlType} [] ≡ length (g p ∷ map g ps) = ap length e in omega (arith, n))
  same_each (q ∷ qs) [] e k l = absurd (omega arith)
  same_each (q ∷ qs) (p ∷ ps) e zero l = ap first_or e
  same_each (q ∷ qs) (p ∷ ps) e (suc k) l = same_each qs ps (ap rest_of e) k (omega arith)

module _ (all : List MlType) (by : ℕ → MlType) (d r : ℕ) (ps qs : List ℕ) (over_d : IsOver all d ps) (over_r : IsOver all r qs)
    (none : variable_in (at all d) ≡ None) (becomes : Becomes all by d r) where
  side_by_side : map (at all) qs ≡ map (λ p. put by (at all p)) ps
  side_by_side =
      sym (parts_are all r qs over_r) ∙ ap type_parts becomes ∙ parts_put by (at all d) none ∙ ap (map (put by)) (parts_are all d ps over_d)
      ∙ map_map (put by) (at all) ps

  pub as_many : length qs ≡ length ps
  as_many = sym (length-map qs (at all)) ∙ ap length side_by_side ∙ length-map ps (λ p. put by (at all p))

  pub parts_become : (k : ℕ) → k < length ps → Becomes all by (get_or ps k 0) (get_or qs k 0)
  parts_become k l = same_each (at all) (λ p. put by (at all p)) qs ps side_by_side k l

pub as_many_merely : (all : List MlType) (d r : ℕ) (ps qs : List ℕ) → IsOver all d ps → IsOver all r qs → variable_in (at all d) ≡ None
    → ∥ ((by : ℕ → MlType) × Becomes all by d r) ∥₁ → length qs ≡ length ps
as_many_merely all d r ps qs over_d over_r none becomes =
    ∥∥₁_elim becomes (Prim.hlevel props) (λ b. as_many all b.0 d r ps qs over_d over_r none b.1)

module _ (types : ℕ → MlType) (P : MlType → Type 0) where
  all_from : (ps : List ℕ) → ((k : ℕ) → k < length ps → P (types (get_or ps k 0))) → AllOf P (map types ps)
  all_from [] h = tt
  all_from (p ∷ ps) h = (h 0 (omega arith), all_from ps (λ k l. h (suc k) (omega (arith, l))))

  all_to : (ps : List ℕ) → AllOf P (map types ps) → (k : ℕ) → k < length ps → P (types (get_or ps k 0))
  all_to [] h k l = absurd (omega arith)
  all_to (p ∷ ps) h zero l = h.0
  all_to (p ∷ ps) h (suc k) l = all_to ps h.1 k (omega arith)

pub part_bound : (all : List MlType) (d : ℕ) (ps : List ℕ) (n : ℕ) → IsOver all d ps → bound_of (at all d) ≤ n → (k : ℕ) → k < length ps
    → bound_of (at all (get_or ps k 0)) ≤ n
part_bound all d ps n over_d h =
    all_to (at all) (λ a. bound_of a ≤ n) ps (subst (AllOf (λ a. bound_of a ≤ n)) (parts_are all d ps over_d) (bounds_parts n (at all d) h))

pub each_from_parts : (P : ℕ → Type 0) (all : List MlType) (d : ℕ) (ps : List ℕ) → IsOver all d ps → variable_in (at all d) ≡ None
    → ((k : ℕ) → k < length ps → Each P (at all (get_or ps k 0))) → Each P (at all d)
each_from_parts P all d ps over_d none h =
    each_of P (at all d) none (subst (AllOf (Each P)) (sym (parts_are all d ps over_d)) (all_from (at all) (Each P) ps h))

-- ---- a variable

module _ (all : List MlType) (by : ℕ → MlType) (found : List ℕ) (d r v : ℕ) (is : variable_in (at all d) ≡ Some v) (low : v < length found)
    (becomes : Becomes all by d r) where
  here : IsNoted all by (set found v r) v
  here = ap (at all) (get_or-set_same found v r 0 low) ∙ becomes ∙ ap (put by) (variable_is (at all d) v is)

  noted_by : (w : ℕ) → (w ≡ v) ⊎ (w ≡ v → ⊥) → IsNoted all by found w → IsNoted all by (set found v r) w
  noted_by w (inl e) h = subst (IsNoted all by (set found v r)) (sym e) here
  noted_by w (inr other) h = ap (at all) (get_or-set_other found v w r 0 other) ∙ h

  pub stays_noted : (w : ℕ) → IsNoted all by found w → IsNoted all by (set found v r) w
  stays_noted w h = noted_by w (cases_eq w v) h

  pub noted_there : Each (IsNoted all by (set found v r)) (at all d)
  noted_there = subst (Each (IsNoted all by (set found v r))) (sym (variable_is (at all d) v is)) here

pub variable_low : (a : MlType) (v n : ℕ) → variable_in a ≡ Some v → bound_of a ≤ n → v < n
variable_low a v n is h = let e : bound_of a ≡ suc v = ap bound_of (variable_is a v is) in omega (arith, e, h)

pub met_more : (all : List MlType) (by : ℕ → MlType) (stamps found others : List ℕ) (turn : ℕ)
    → ((w : ℕ) → IsNoted all by found w → IsNoted all by others w)
    → ((d : ℕ) → d < length stamps → slice_index_or stamps d 0 ≡ turn → Each (IsNoted all by found) (at all d))
    → (d : ℕ) → d < length stamps → slice_index_or stamps d 0 ≡ turn → Each (IsNoted all by others) (at all d)
met_more all by stamps found others turn goes met d low is =
    each_more (IsNoted all by found) (IsNoted all by others) goes (at all d) (met d low is)

-- ---- what was met

-- a type that is done is stamped
module _ (all : List MlType) (by : ℕ → MlType) (stamps found : List ℕ) (turn d : ℕ)
    (met : (e : ℕ) → e < length stamps → slice_index_or stamps e 0 ≡ turn → Each (IsNoted all by found) (at all e))
    (done : Each (IsNoted all by found) (at all d)) where
  stamped_by : (e : ℕ) → (e ≡ d) ⊎ (e ≡ d → ⊥) → e < length stamps → slice_index_or (set stamps d turn) e 0 ≡ turn
      → Each (IsNoted all by found) (at all e)
  stamped_by e (inl same) low is = subst (λ (k : ℕ). Each (IsNoted all by found) (at all k)) (sym same) done
  stamped_by e (inr other) low is = met e low (sym (get_or-set_other stamps d e turn 0 other) ∙ is)

  pub met_stamped : (e : ℕ) → e < length (set stamps d turn) → slice_index_or (set stamps d turn) e 0 ≡ turn
      → Each (IsNoted all by found) (at all e)
  met_stamped e low is = stamped_by e (cases_eq e d) (omega (arith, low, length-set stamps d turn)) is

-- in a new turn nothing is met
pub none_met : (all : List MlType) (by : ℕ → MlType) (stamps found : List ℕ) (old turn : ℕ) → All (λ s. s ≤ old) stamps → turn ≡ old + 1
    → (d : ℕ) → d < length stamps → slice_index_or stamps d 0 ≡ turn → Each (IsNoted all by found) (at all d)
none_met all by stamps found old turn past is d low e = absurd (let p : get_or stamps d 0 ≤ old = past d 0 low in omega (arith, p, is, e))

pub past_more : (stamps : List ℕ) (old turn : ℕ) → All (λ s. s ≤ old) stamps → turn ≡ old + 1 → All (λ s. s ≤ turn) stamps
past_more stamps old turn past is k d low = let p : get_or stamps k d ≤ old = past k d low in omega (arith, p, is)

pub closed_at : (all : List MlType) (opens : List Bool) (d : ℕ) → opens ≡ map is_open all → d < length all
    → slice_index_or opens d false ≡ false → is_open (at all d) ≡ false
closed_at all opens d are low is =
    sym (get_or-map is_open all d ml.unit false low) ∙ sym (ap (λ (bs : List Bool). slice_index_or bs d false) are) ∙ is

-- ---- the parts of a type

module _ (all : List MlType) (by : ℕ → MlType) (old mid new : Matching) (d : ℕ) (ps : List ℕ) (over_d : IsOver all d ps)
    (none : variable_in (at all d) ≡ None) where
  -- one more part is walked
  pub parts_next : (i part : ℕ) → part ≡ get_or ps i 0 → PartsWalked all by old mid ps i → IsWalked all by mid new part
      → PartsWalked all by old new ps (i + 1)
  parts_next i part is before step = record {
    stays = record { met = step.0.met; kept = λ v h. step.0.kept v (before.stays.kept v h) };
    noted = λ k low. last k (cases_eq k i) low;
  }
    where
      last : (k : ℕ) → (k ≡ i) ⊎ (k ≡ i → ⊥) → k < i + 1 → Each (IsNoted all by new.found.items) (at all (get_or ps k 0))
      last k (inl same) low =
          subst (λ (j : ℕ). Each (IsNoted all by new.found.items) (at all j)) (is ∙ sym (ap (λ (j : ℕ). get_or ps j 0) same)) step.1
      last k (inr other) low =
          each_more (IsNoted all by mid.found.items) (IsNoted all by new.found.items) step.0.kept (at all (get_or ps k 0))
          (before.noted k (below k other low))
        where
          below : (k : ℕ) → (k ≡ i → ⊥) → k < i + 1 → k < i
          below k other low = omega (arith, low, other)

  pub parts_done : (i : ℕ) → length ps ≤ i → PartsWalked all by old new ps i → IsWalked all by old new d
  parts_done i far walked = (
    walked.stays,
    each_from_parts (IsNoted all by new.found.items) all d ps over_d none (λ k low. walked.noted k (omega (arith, low, far))),
  )

pub parts_begun : (all : List MlType) (by : ℕ → MlType) (m : Matching) (ps : List ℕ) → AreMet all by m → PartsWalked all by m m ps 0
parts_begun all by m ps met = record { stays = record { met = met; kept = λ v h. h }; noted = λ k low. absurd (omega (arith, low)) }

-- ---- what is found

pub found_is : (all : List MlType) (by : ℕ → MlType) (found : List ℕ) (d r : ℕ) → Becomes all by d r
    → Each (IsNoted all by found) (at all d) → Becomes all (λ v. at all (slice_index_or found v 0)) d r
found_is all by found d r becomes noted = becomes ∙ sym (put_each (λ v. at all (slice_index_or found v 0)) by (at all d) noted)
