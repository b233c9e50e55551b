-- From the first state to a solution.
use Rattle.std.proofs.Common.{◌≡◌, ℕ, ◌<◌, ◌≤◌, List, [], ◌++◌, Option, Some, None, IsSome, IfSome, IfNone, IfOk, Result, Ok, Err, All, length, take, drop, sym, ap, subst, ◌∙◌, arith, take_all, append-nil, length-take-le}
use Rattle.std.proofs.lemmas.List.{drop_all, get_or-take}
use Rattle.lq_types_unify.specs.declared.arena.Equation.{Equation}
use Rattle.lq_types_unify.specs.Simple.{Simple}
use Rattle.lq_types_unify.specs.Nodes.{Form}
use Rattle.lq_types_unify.specs.Solution.{Fits, HasSolution, HasNoSolution}
use Rattle.lq_types_unify.specs.Classes.{up, root, IsSame, IsState, AreShared, AreFollowed, IsKnown}
use Rattle.lq_types_unify.specs.Visits.{IsTable}
use Rattle.lq_types_unify.proofs.Roots.{root_self, root_of_root}
use Rattle.lq_types_unify.proofs.Rows.{followed_later}
use Rattle.lq_types_unify.proofs.Same.{same_state, same_shared}
use Rattle.lq_types_unify.proofs.Merging.{met_later}

pub first_state : (forms : ℕ → Option Form) (n : ℕ) (ps shapes : List ℕ) (found : List Equation) → length ps ≡ n → length shapes ≡ n → ((i : ℕ) → up ps i ≡ i) → ((i : ℕ) → up shapes i ≡ i) → found ≡ []
    → IsState forms n ps shapes found
first_state forms n ps shapes found pl sl p s f = record {
  parents_length = pl;
  shapes_length = sl;
  down = λ i. let e = p i in omega arith;
  inside = λ i h. subst (λ (j : ℕ). j < n) (sym (s i)) h;
  own = λ i e. ap (root ps) (s i) ∙ root_self ps i e;
  formed = λ i m. subst (λ j. IsSome (forms j)) (sym (kept i)) m;
  keyed = λ key a i m. ap key (sym (kept i));
  pairs = λ k d h. absurd (let e : length found ≡ 0 = ap length f in omega arith);
}
  where
    kept : (i : ℕ) → up shapes (root ps i) ≡ i
    kept i = s (root ps i) ∙ root_self ps i (p i)

pub first_known : (forms : ℕ → Option Form) (n : ℕ) (ps shapes : List ℕ) (found : List Equation) → length ps ≡ n → length shapes ≡ n → ((i : ℕ) → up ps i ≡ i) → ((i : ℕ) → up shapes i ≡ i) → found ≡ []
    → IsKnown forms n ps shapes found []
first_known forms n ps shapes found pl sl p s f = record {
  state = first_state forms n ps shapes found pl sl p s f;
  followed = none_followed forms ps found f;
  met = λ k d h. absurd (omega arith);
  follows = λ types i j. ap types (sym (p j));
}
  where
    none_followed : (forms : ℕ → Option Form) (ps : List ℕ) (found : List Equation) → found ≡ [] → AreFollowed forms ps found
    none_followed forms ps found f k d h = absurd (let e : length found ≡ 0 = ap length f in omega arith)

pub none_followed : (forms : ℕ → Option Form) (ps : List ℕ) (found : List Equation) → found ≡ [] → AreFollowed forms ps found
none_followed forms ps found f k d h = absurd (let e : length found ≡ 0 = ap length f in omega arith)

pub same_known : (forms : ℕ → Option Form) (n : ℕ) (old new shapes : List ℕ) (found equations : List Equation) → IsSame old new → IsKnown forms n old shapes found equations → IsKnown forms n new shapes found equations
same_known forms n old new shapes found equations s k = record {
  state = same_state forms n old new shapes found s k.state;
  followed = followed_later forms old new found coarser k.followed;
  met = met_later old new equations coarser k.met;
  follows = λ types i. same_shared old new types s (k.follows types i);
}
  where
    coarser : (i : ℕ) → root new (root old i) ≡ root new i
    coarser i = s.roots (root old i) ∙ root_of_root old k.state.down i ∙ sym (s.roots i)

pub table_of : (forms : ℕ → Option Form) (n : ℕ) (ps shapes : List ℕ) (found : List Equation) → IsState forms n ps shapes found → ((i : ℕ) → up ps i ≡ root ps i) → IsTable forms n ps shapes
table_of forms n ps shapes found s f = record {
  parents_length = s.parents_length;
  shapes_length = s.shapes_length;
  down = s.down;
  flat = f;
  inside = s.inside;
  own = s.own;
}

-- what a vector holds after a slice of all of it was changed
pub whole : (n : ℕ) (new old : List ℕ) → n ≡ length old → length new ≡ length old → take n (new ++ drop (length new) old) ≡ new
whole n new old e f = ap (λ l. take n (new ++ l)) (drop_all (length new) old (omega arith)) ∙ ap (take n) (append-nil new) ∙ take_all n new (omega arith)

-- ---- fewer equations

pub All_taken : {X : Type 0} (P : X → Type 0) (xs : List X) (j m : ℕ) → j ≤ m → m ≤ length xs → All P (take m xs) → All P (take j xs)
All_taken P xs j m h l a k d i = let ki : k < j = omega (arith, length-take-le j xs (omega arith)) in
    subst P (get_or-take m xs k d (omega arith) ∙ sym (get_or-take j xs k d ki)) (a k d (omega (arith, length-take-le m xs l)))

pub fewer : (forms : ℕ → Option Form) (equations : List Equation) (j m : ℕ) → j ≤ m → m ≤ length equations → HasSolution forms (take m equations) → HasSolution forms (take j equations)
fewer forms equations j m h l (types, s) = (types, record { fits = s.fits; meets = All_taken (λ e. types e.left ≡ types e.right) equations j m h l s.meets })

-- ---- answers that may be missing

pub if_some : {X E : Type 0} (r : Result (Option X) E) (P Q : X → Type 0) → ((x : X) → P x → Q x) → IfOk r (λ f. IfSome f P) → IfOk r (λ f. IfSome f Q)
if_some (Ok (Some x)) P Q h p = h x p
if_some (Ok None) P Q h p = tt
if_some (Err e) P Q h p = tt

pub if_none : {X E : Type 0} (r : Result (Option X) E) (P Q : Type 0) → (P → Q) → IfOk r (λ f. IfNone f P) → IfOk r (λ f. IfNone f Q)
if_none (Ok (Some x)) P Q h p = tt
if_none (Ok None) P Q h p = h p
if_none (Err e) P Q h p = tt

pub no_cycle_solution : (forms : ℕ → Option Form) (n : ℕ) (ps shapes : List ℕ) (found equations : List Equation) → IsKnown forms n ps shapes found equations
    → ((types : ℕ → Simple) → Fits forms types → AreShared ps types → ⊥) → HasNoSolution forms equations
no_cycle_solution forms n ps shapes found equations k h types s = h types s.fits (k.follows types s)
