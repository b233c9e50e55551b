-- Instances that are refuted, one after another, and the implications that fail with them.
use Rattle.std.specs.declared.alloc.AllocError.{AllocError}
use Rattle.std.proofs.Common.{Result, Ok, Err, IfOk, ◌≡◌, ◌∙◌, ◌⊎◌, inl, inr, ℕ, zero, suc, ◌+◌, ◌<◌, ◌==◌, get_or, Bool, true, false, cond, List, [], ◌∷◌, ◌++◌, Some, length, map, slice_get, refl, sym, ap, subst, arith}
use Rattle.lq_refined_substitution.specs.Implications.Views.{environment_in, implication_view}
use Rattle.lq_refined_substitution.specs.declared.implications.implication.Implication as code
use Rattle.lq_solve_facts.proofs.FactsLemmas.Holding.{agrees_before}
use Rattle.lq_solve_facts.specs.Facts.Known.{Keeps, readings_of}
use Rattle.lq_solve_facts.specs.Facts.Plain.{IsPlain}
use Rattle.lq_solve_facts.specs.Facts.Values.{MeetsEachRow}
use Rattle.lq_solve_facts.specs.declared.facts.known.Known.{Known}
use Rattle.lq_solve_facts.specs.declared.facts.standing.Stand.{Stand}
use Rattle.lq_solve_facts.specs.declared.facts.standing.Stand.TheVariants.{Proved, Settled, Unknown}
use Rattle.lq_solve_facts.specs.Nearest.Reading.{EachPlain}
use Rattle.lq_refined_types.proofs.PartsLemmas.Flows.{MeetsSome, of_some}
use Rattle.lq_refined_types.specs.Parts.Assignment.{all_joined, goal_under, parts_under}
use Rattle.lq_refined_types.specs.Parts.Constraint.{Constraint}
use Rattle.lq_refined_types.specs.Parts.Flowing.{Selection, assigned, picked}
use Rattle.lq_refined_types.specs.Parts.Part.{Parts, unknown}
use Rattle.lq_refined_types.specs.Parts.Substitution.{Subst, formula_by}
use Rattle.lq_logic_predicates.specs.ClosedImplication.{ClosedImplication, terms_in}
use Rattle.lq_logic_predicates.specs.Formula.{Formula}
use Rattle.lq_logic_predicates.specs.Points.{Meets, Point}
use Rattle.lq_logic_predicates.specs.Reading.{reading_of}
use Rattle.lq_logic_predicates.specs.TableView.{terms_of}
use Rattle.lq_refined_substitution.specs.Substitution.Views.{part_view, parts_view}
use Rattle.lq_refined_types.specs.Subtyping.Implication as Implication
use Rattle.lq_refined_types.specs.Subtyping.Implication.{constraint_of}
use Rattle.lq_solve_fixpoint.specs.Weakening.Among.{IsAmong}
use Rattle.lq_solve_fixpoint.specs.Weakening.Judging.{AreRefuted, FlowFailsThere, Instances, IsFailingFlow}
use Rattle.lq_solve_facts.proofs.StoreLemmas.Plain.{classes_of, plain_all_joined, plain_point}
use Rattle.lq_solve_facts.specs.Store.Answer.{IfHolds, IfRefuted}
use Rattle.lq_solve_facts.specs.declared.store.answer.Answer.{Answer}
use Rattle.lq_solve_facts.specs.declared.store.answer.Answer.TheVariants.{Holds, Open, Refuted}
use Rattle.lq_solve_facts.specs.Store.Aiming.{AreRefutable, ChosenArePlain, IsGoalRefuted}
use Rattle.lq_solve_facts.specs.Store.Kept.{AreTold}

some_is : {X : Type 0} (x y : X) → Some x ≡ Some y → x ≡ y
some_is x y e = cc

-- ---- chosen instances that are plain

plain_from : (f : ℕ → Bool) (σ : Subst) (k : ℕ) (qs : List Formula) → ((i : ℕ) (q : Formula) → i < length qs → f (k + i) ≡ true → Some q ≡ slice_get qs i → IsPlain (formula_by σ q))
    → EachPlain (map (formula_by σ) (picked f k qs))
plain_from f σ k [] h = tt
plain_from f σ k (a ∷ qs) h = by (f k) refl (plain_from f σ (suc k) qs (λ i q w c e. h (suc i) q (omega (arith, w)) (subst (λ j. f j ≡ true) (omega arith) c) e))
  where
    by : (b : Bool) → f k ≡ b → EachPlain (map (formula_by σ) (picked f (suc k) qs)) → EachPlain (map (formula_by σ) (cond b (a ∷ picked f (suc k) qs) (picked f (suc k) qs)))
    by true t rest = (h 0 a (omega arith) (subst (λ j. f j ≡ true) (omega arith) t) refl, rest)
    by false t rest = rest

plain_picked : (f : ℕ → Bool) (σ : Subst) (qs : List Formula) → ChosenArePlain f σ (length qs) qs → EachPlain (map (formula_by σ) (picked f 0 qs))
plain_picked f σ qs h = plain_from f σ 0 qs (λ i q w c e. h i q w (subst (λ j. f j ≡ true) (omega arith) c) e)

-- ---- one that is refuted

pub some_there : (b : Bool) (n m : ℕ) → b ≡ (n == 0) → b ≡ false → n ≡ m → 0 < m
some_there b zero m e f g = absurd (cc)
some_there b (suc n) m e f g = omega (arith, g)

pub first_among : (ns : List ℕ) → 0 < length ns → IsAmong ns (get_or ns 0 0)
first_among [] w = absurd (omega (arith, w))
first_among (n ∷ ns) w = inl refl

some_picked : (p : Point) (f : ℕ → Bool) (σ : Subst) (k : ℕ) (qs : List Formula) (n : ℕ) (q : Formula) → slice_get qs n ≡ Some q → f (k + n) ≡ true
    → Meets p (reading_of false (formula_by σ q)) → MeetsSome p (map (formula_by σ) (picked f k qs))
some_picked p f σ k [] n q e c m = absurd (cc)
some_picked p f σ k (a ∷ qs) zero q e c m = by (f k) (subst (λ j. f j ≡ true) (omega arith) c)
  where
    by : (b : Bool) → b ≡ true → MeetsSome p (map (formula_by σ) (cond b (a ∷ picked f (suc k) qs) (picked f (suc k) qs)))
    by true t = inl (subst (λ x. Meets p (reading_of false (formula_by σ x))) (sym (some_is a q e)) m)
    by false t = absurd (cc)
some_picked p f σ k (a ∷ qs) (suc n) q e c m = by (f k) (some_picked p f σ (suc k) qs n q e (subst (λ j. f j ≡ true) (omega arith) c) m)
  where
    by : (b : Bool) → MeetsSome p (map (formula_by σ) (picked f (suc k) qs)) → MeetsSome p (map (formula_by σ) (cond b (a ∷ picked f (suc k) qs) (picked f (suc k) qs)))
    by true s = inr s
    by false s = s

against_goal : (chosen : ℕ → Bool) (p : Point) (σ : Subst) (qs : List Formula) (numbers : List ℕ) (k : ℕ) → IsAmong numbers k → AreRefuted chosen p σ qs numbers
    → Meets p (reading_of false (all_joined (map (formula_by σ) (picked chosen 0 qs))))
against_goal chosen p σ qs numbers k a r =
    let one = r.each k a in
    of_some p (map (formula_by σ) (picked chosen 0 qs))
    (some_picked p chosen σ 0 qs k one.instance one.here (subst (λ j. chosen j ≡ true) (omega arith) (r.chosen_each k a)) one.against)

-- ---- what is refuted where more is known is so where less is

pub refutable_before : (old new : Known) (chosen : ℕ → Bool) (σ : Subst) (qs : List Formula) (numbers : List ℕ) → Keeps old new → readings_of new ≡ readings_of old
    → AreRefutable new chosen σ qs numbers → AreRefutable old chosen σ qs numbers
refutable_before old new chosen σ qs numbers k e r = record {
  plain = r.plain;
  one = r.one;
  among = r.among;
  at = λ class_of.
      let here = r.at class_of in record {
        point = here.point;
        classes = here.classes;
        values = here.values;
        agrees = agrees_before (terms_of old.table) (terms_of new.table) here.values here.point k.terms here.agrees;
        meets = subst (MeetsEachRow here.values here.point) e here.meets;
        refuted = here.refuted;
      };
}

-- ---- an implication that fails

-- a flow whose hypotheses are told by readings fails where these are met and instances of its goal refuted
failing_flow : (known : Known) (I : Instances) (c : Selection) (hs : Parts) (u : ℕ) (σ : Subst) (numbers : List ℕ) → AreTold (assigned I c) known (readings_of known) hs
    → AreRefutable known (c u) σ (I u) numbers → IsFailingFlow I c (record { hypotheses = hs; goal = unknown u σ }) numbers
failing_flow known I c hs u σ numbers told r =
    let A = assigned I c in
    let i : ClosedImplication = record { hypotheses = parts_under A hs; goal = goal_under A (unknown u σ) } in
    let here = r.at (classes_of (terms_in i)) in
    let met = told here.values here.point here.agrees here.meets in
    let plain = plain_all_joined (map (formula_by σ) (picked (c u) 0 (I u))) (plain_picked (c u) σ (I u) r.plain) in record {
      point = here.point;
      fails = record {
        point = plain_point i here.point met.1 plain here.classes;
        meets = met.0;
        against = against_goal (c u) here.point σ (I u) numbers r.one r.among here.refuted;
      };
      number = u;
      by = σ;
      goal = refl;
      refuted = here.refuted;
    }

get_map : {X Y : Type 0} (f : X → Y) (xs : List X) (at : ℕ) (x : X) → slice_get xs at ≡ Some x → slice_get (map f xs) at ≡ Some (f x)
get_map f [] at x e = absurd (cc)
get_map f (a ∷ xs) zero x e = ap (λ y. Some (f y)) (some_is a x e)
get_map f (a ∷ xs) (suc at) x e = get_map f xs at x e

-- of the code's implication at the number
pub fails_here : (known : Known) (I : Instances) (c : Selection) (es : List Parts) (is : List code.Implication) (at : ℕ) (item : code.Implication) (numbers : List ℕ)
    → Some item ≡ slice_get is at → AreTold (assigned I c) known (readings_of known) (environment_in es item.env ++ parts_view item.left)
    → IsGoalRefuted known I c (part_view item.goal) numbers → FlowFailsThere I (map constraint_of (map (implication_view es) is)) c at numbers
fails_here known I c es is at item numbers e told g = λ k f.
    let view : Implication.Implication = implication_view es item in
    let here : slice_get (map (implication_view es) is) at ≡ Some view = get_map (implication_view es) is at item (sym e) in
    let made : constraint_of view ≡ k = some_is (constraint_of view) k (sym (get_map constraint_of (map (implication_view es) is) at view here) ∙ f) in
    let hs : Parts = environment_in es item.env ++ parts_view item.left in
    subst (λ (x : Constraint). IsFailingFlow I c x numbers) made
    (subst (λ q. IsFailingFlow I c (record { hypotheses = hs; goal = q }) numbers) (sym g.is) (failing_flow known I c hs g.number g.by numbers told g.refutable))

-- ---- answers

pub holds_by : (r : Result Answer AllocError) (P Q : Type 0) → (P → Q) → IfOk r (λ a. IfHolds a P) → IfOk r (λ a. IfHolds a Q)
holds_by (Ok Holds) P Q f h = f h
holds_by (Ok (Refuted n)) P Q f h = tt
holds_by (Ok Open) P Q f h = tt
holds_by (Err e) P Q f h = tt

pub holds_here : (a : Answer) (P Q : Type 0) → (P → Q) → IfHolds a P → IfHolds a Q
holds_here Holds P Q f h = f h
holds_here (Refuted n) P Q f h = tt
holds_here Open P Q f h = tt

pub none_refuted : (a : Answer) (Q : List ℕ → Type 0) → IfRefuted a (λ ns. ⊥) → IfRefuted a Q
none_refuted Holds Q h = tt
none_refuted (Refuted n) Q h = absurd h
none_refuted Open Q h = tt

pub refuted_by : (r : Result Answer AllocError) (P Q : List ℕ → Type 0) → ((ns : List ℕ) → P ns → Q ns) → IfOk r (λ a. IfRefuted a P) → IfOk r (λ a. IfRefuted a Q)
refuted_by (Ok Holds) P Q f h = tt
refuted_by (Ok (Refuted n)) P Q f h = f n.items h
refuted_by (Ok Open) P Q f h = tt
refuted_by (Err e) P Q f h = tt

pub not_proved : (s : Stand) → (s ≡ Settled) ⊎ (s ≡ Unknown) → s ≡ Proved → ⊥
not_proved s (inl e) t = absurd (cc)
not_proved s (inr e) t = absurd (cc)
