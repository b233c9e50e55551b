-- What the classes are after more equations.
use Rattle.std.proofs.Common.{◌≡◌, ℕ, ◌+◌, ◌-◌, ◌<◌, inl, inr, Bool, List, ◌++◌, Option, All, Result, Ok, Err, IfOk, length, get_or, take, refl, sym, ap, subst, ◌∙◌, arith, length-append}
use Rattle.std.proofs.lemmas.Bool.{cases_lt}
use Rattle.std.proofs.lemmas.List.{get_or_append_left, get_or-append_right, take_more}
use Rattle.lq_types_unify.specs.declared.arena.Equation.{Equation}
use Rattle.lq_types_unify.specs.Simple.{Simple}
use Rattle.lq_types_unify.specs.Nodes.{Form}
use Rattle.lq_types_unify.specs.Solution.{Fits, Meets, IsSolution, HasNoSolution}
use Rattle.lq_types_unify.specs.Classes.{root, IsState, Grows, AreShared, AreFollowed, IsKnown}
use Rattle.lq_types_unify.proofs.Rows.{grows_then}
use Rattle.lq_types_unify.proofs.Linking.{All_push, All_front}

pub All_both : {X : Type 0} (P : X → Type 0) (xs ys : List X) → All P xs → All P ys → All P (xs ++ ys)
All_both P xs ys a b k d h = elim (cases_lt k (length xs)) [
  | inl l ↦ subst P (sym (get_or_append_left xs ys d k l)) (a k d l)
  | inr l ↦ subst P (sym (get_or-append_right xs ys (length xs) k d refl l)) (b (k - length xs) d (omega (arith, length-append xs ys)))
]

pub All_back : {X : Type 0} (P : X → Type 0) (xs ys : List X) → All P (xs ++ ys) → All P ys
All_back P xs ys a k d h = subst P (get_or-append_right xs ys (length xs) (length xs + k) d refl (omega arith) ∙ ap (λ j. get_or ys j d) (omega arith)) (a (length xs + k) d (omega (arith, length-append xs ys)))

pub one_taken : {X : Type 0} (P : X → Type 0) (xs : List X) (at : ℕ) (d : X) → at < length xs → All P (take at xs) → P (get_or xs at d) → All P (take (at + 1) xs)
one_taken P xs at d l a p = subst (All P) (sym (take_more xs at d l)) (All_push P (take at xs) (get_or xs at d) a p)

pub met_later : (old new : List ℕ) (equations : List Equation) → ((i : ℕ) → root new (root old i) ≡ root new i) → All (λ e. root old e.left ≡ root old e.right) equations
    → All (λ e. root new e.left ≡ root new e.right) equations
met_later old new equations h a k d l = sym (h _) ∙ ap (root new) (a k d l) ∙ h _

pub split_solution : (forms : ℕ → Option Form) (before equations : List Equation) (types : ℕ → Simple) → IsSolution forms (before ++ equations) types → IsSolution forms before types × Meets types equations
split_solution forms before equations types s = (record { fits = s.fits; meets = All_front (λ e. types e.left ≡ types e.right) before equations s.meets }, All_back (λ e. types e.left ≡ types e.right) before equations s.meets)

pub merged_known : (forms : ℕ → Option Form) (n : ℕ) (old mid new shapes kept : List ℕ) (f g h before equations : List Equation)
    → IsKnown forms n old shapes f before → Grows old mid f g → All (λ e. root mid e.left ≡ root mid e.right) equations
    → ((types : ℕ → Simple) → AreShared old types → Meets types equations → AreShared mid types)
    → IsState forms n new kept h → Grows mid new g h → AreFollowed forms new h → ((types : ℕ → Simple) → Fits forms types → AreShared mid types → AreShared new types)
    → IsKnown forms n new kept h (before ++ equations)
merged_known forms n old mid new shapes kept f g h before equations known grows met shared state grows_on followed shared_on = record {
  state = state;
  followed = followed;
  met = All_both (λ e. root new e.left ≡ root new e.right) before equations (met_later old new before (grows_then old mid new f g h grows grows_on).coarser known.met) (met_later mid new equations grows_on.coarser met);
  follows = λ types s. let p = split_solution forms before equations types s in shared_on types s.fits (shared types (known.follows types p.0) p.1);
}

pub merged_clash : (forms : ℕ → Option Form) (n : ℕ) (old mid shapes : List ℕ) (f before equations : List Equation)
    → IsKnown forms n old shapes f before → ((types : ℕ → Simple) → AreShared old types → Meets types equations → AreShared mid types)
    → ((types : ℕ → Simple) → Fits forms types → AreShared mid types → ⊥) → HasNoSolution forms (before ++ equations)
merged_clash forms n old mid shapes f before equations known shared clash types s =
    let p = split_solution forms before equations types s in clash types s.fits (shared types (known.follows types p.0) p.1)

pub if_ok : {E : Type 0} (r : Result Bool E) {C K : Bool → Type 0} → IfOk r C → ((b : Bool) → C b → K b) → IfOk r K
if_ok (Ok b) c f = f b c
if_ok (Err e) c f = tt
