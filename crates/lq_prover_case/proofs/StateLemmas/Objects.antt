-- The facts about objects among the facts of a path.
use Rattle.std.proofs.Common.{◌≡◌, ℕ, zero, suc, ◌+◌, ◌≤◌, ◌<◌, ◌↔◌, inl, inr, Bool, List, [], ◌∷◌, ◌++◌, Option, Some, None, refl, sym, ap, subst, ◌∙◌, arith, length, take, slice_get, get_or}
use Rattle.std.specs.Option.{IfSome, IfNone}
use Rattle.std.proofs.lemmas.List.{take-append-le, take-take, take_at}
use Rattle.std.proofs.lemmas.Option.{slice_get_within}
use Rattle.lq_logic_rows.specs.Contradiction.{Tagged}
use Rattle.lq_logic_predicates.specs.Sum.{Sum}
use Rattle.lq_prover_proof_tree.specs.Trees.Path.{Fact, flag_fact, objects_fact, numbered_at}
use Rattle.lq_prover_proof_tree.specs.Trees.Proves.{AreJoined, Clashes}
use Rattle.lq_prover_proof_tree.specs.Trees.Tree.{Clash}
use Rattle.lq_prover_proof_tree.specs.Trees.TreeView.{clash_of, tag_items}
use Rattle.lq_prover_proof_tree.specs.declared.trees.tree.CaseProof.{CaseProof}
use Rattle.lq_prover_proof_tree.specs.declared.trees.tree.Tags.{Tags}
use Rattle.lq_prover_case.specs.Objects.Joined as joined
use Rattle.lq_prover_case.specs.Objects.Joined.{AreOne, IsClash, IsJoined, Says, StandAs}
use Rattle.lq_prover_case.specs.declared.objects.fact.ObjectFact.{ObjectFact}
use Rattle.lq_prover_case.specs.State.PathState.{facts_by, facts_of, objects_by, objects_from, AllObjectsHold, AreObjectsOf, HaveClasses, IsPathState, IsState}
use Rattle.lq_prover_case.specs.declared.state.flags.Given.{Given}
use Rattle.lq_logic_predicates.specs.declared.symbol.Symbol.{Symbol}
use Rattle.lq_prover_case.specs.declared.state.state.Kind.{Kind}
use Rattle.lq_prover_case.specs.declared.state.state.Kind.TheVariants.{Row, Flag, Same}
use Rattle.lq_prover_case.specs.declared.state.state.Step.{Step}
use Rattle.lq_prover_case.proofs.StateLemmas.Pathing.{get_take, step_push}

-- ---- one fact more

objects-append : (n : ℕ) (steps more : List Step) → objects_from n (steps ++ more) ≡ objects_from n steps ++ objects_from (n + length steps) more
objects-append n [] more = let e : n ≡ n + 0 = omega arith in ap (λ (m : ℕ). objects_from m more) e
objects-append n (s ∷ steps) more =
    let e : suc n + length steps ≡ n + suc (length steps) = omega arith in
    by s.kind (objects-append (suc n) steps more ∙ ap (λ (m : ℕ). objects_from (suc n) steps ++ objects_from m more) e)
  where
    by : (k : Kind) → objects_from (suc n) (steps ++ more) ≡ objects_from (suc n) steps ++ objects_from (n + suc (length steps)) more
        → objects_by k n (objects_from (suc n) (steps ++ more)) ≡ objects_by k n (objects_from (suc n) steps) ++ objects_from (n + suc (length steps)) more
    by (Flag x v) h = h
    by (Same a b v) h = ap (λ (l : List ObjectFact). record { left = a; right = b; one = v; number = n } ∷ l) h
    by Row h = h

-- the facts before a place are the first ones of all
first-objects : (n k : ℕ) (steps : List Step) → take (length (objects_from n (take k steps))) (objects_from n steps) ≡ objects_from n (take k steps)
first-objects n zero steps = refl
first-objects n (suc k) [] = refl
first-objects n (suc k) (s ∷ steps) = by s.kind (first-objects (suc n) k steps)
  where
    by : (j : Kind) → take (length (objects_from (suc n) (take k steps))) (objects_from (suc n) steps) ≡ objects_from (suc n) (take k steps)
        → take (length (objects_by j n (objects_from (suc n) (take k steps)))) (objects_by j n (objects_from (suc n) steps)) ≡ objects_by j n (objects_from (suc n) (take k steps))
    by (Flag x v) h = h
    by (Same a b v) h = ap (λ (l : List ObjectFact). record { left = a; right = b; one = v; number = n } ∷ l) h
    by Row h = h

first-fits : (n k : ℕ) (steps : List Step) → length (objects_from n (take k steps)) ≤ length (objects_from n steps)
first-fits n zero steps = omega arith
first-fits n (suc k) [] = omega arith
first-fits n (suc k) (s ∷ steps) = by s.kind (first-fits (suc n) k steps)
  where
    by : (j : Kind) → length (objects_from (suc n) (take k steps)) ≤ length (objects_from (suc n) steps)
        → length (objects_by j n (objects_from (suc n) (take k steps))) ≤ length (objects_by j n (objects_from (suc n) steps))
    by (Flag x v) h = h
    by (Same a b v) h = omega arith
    by Row h = h

pub objects_none : AreObjectsOf [] []
objects_none = record { standing = refl; pasts = λ k s e. absurd (cc) }

pub objects_more : (steps new : List Step) (objects after : List ObjectFact) (s : Step) → AreObjectsOf steps objects → s.objects ≡ length objects → new ≡ steps ++ s ∷ []
    → after ≡ objects ++ objects_by s.kind (1 + length steps) [] → AreObjectsOf new after
objects_more steps new objects after s h count is after_is = subst (λ (l : List Step). AreObjectsOf l after) (sym is) (record {
  standing = after_is ∙ ap (λ (l : List ObjectFact). l ++ objects_by s.kind (1 + length steps) []) h.standing ∙ sym (objects-append 1 steps (s ∷ []));
  pasts = λ k y e. elim (step_push steps s y k e) [ inl p ↦ old k y p | inr p ↦ last k y p.0 p.1 ];
})
  where
    old : (k : ℕ) (y : Step) → slice_get steps k ≡ Some y → y.objects ≡ length (objects_from 1 (take k (steps ++ s ∷ [])))
    old k y e =
        let w : k ≤ length steps = (let v = slice_get_within steps k y e in omega arith) in
        h.pasts k y e ∙ ap (λ (l : List Step). length (objects_from 1 l)) (sym (take-append-le k steps (s ∷ []) w))

    last : (k : ℕ) (y : Step) → k ≡ length steps → s ≡ y → y.objects ≡ length (objects_from 1 (take k (steps ++ s ∷ [])))
    last k y e f =
        let t : take k (steps ++ s ∷ []) ≡ steps = take_at steps (s ∷ []) k (sym e) in
        ap (λ (z : Step). z.objects) (sym f) ∙ count ∙ ap length h.standing ∙ ap (λ (l : List Step). length (objects_from 1 l)) (sym t)

-- ---- the first facts

pub objects_within : (steps : List Step) (objects : List ObjectFact) (k : ℕ) (s : Step) → AreObjectsOf steps objects → slice_get steps k ≡ Some s → s.objects ≤ length objects
objects_within steps objects k s h at = let e = h.pasts k s at in let f = ap length h.standing in let l = first-fits 1 k steps in omega arith

pub objects_first : (steps new : List Step) (objects less : List ObjectFact) (k : ℕ) (s : Step) → AreObjectsOf steps objects → slice_get steps k ≡ Some s → new ≡ take k steps
    → less ≡ take s.objects objects → AreObjectsOf new less
objects_first steps new objects less k s h at is less_is = subst (λ (l : List Step). AreObjectsOf l less) (sym is) (record {
  standing = less_is ∙ ap (λ (n : ℕ). take n objects) (h.pasts k s at) ∙ ap (λ (l : List ObjectFact). take (length (objects_from 1 (take k steps))) l) h.standing ∙ first-objects 1 k steps;
  pasts = λ j y e.
      let p = get_take k j steps y e in
      let t : take j (take k steps) ≡ take j steps = take-take j k steps (let p0 = p.0 in omega arith) in
      h.pasts j y p.1 ∙ ap (λ (l : List Step). length (objects_from 1 l)) (sym t);
})

-- ---- among the facts

record IsPlaced (fs : List Fact) (n t : ℕ) (f : Fact) : Type 0 where
  place : ℕ
  number : t ≡ n + place
  is : slice_get fs place ≡ Some f

later : (fs : List Fact) (g f : Fact) (n t : ℕ) → IsPlaced fs (suc n) t f → IsPlaced (g ∷ fs) n t f
later fs g f n t p = record { place = suc p.place; number = (let e = p.number in omega arith); is = p.is }

says_placed : (name : ℕ → Sum) (n : ℕ) (steps : List Step) (rows : Tagged) (a b t : ℕ) (one : Bool) → Says (objects_from n steps) a b one t
    → IsPlaced (facts_of name steps rows) n t (objects_fact (name a) (name b) one)
says_placed name n [] rows a b t one h = absurd h
says_placed name n (s ∷ steps) rows a b t one h = by s.kind rows (λ l. says_placed name (suc n) steps l a b t one) h
  where
    goal : Tagged → Kind → Type 0
    goal l k = IsPlaced (facts_by name k (facts_of name steps) l) n t (objects_fact (name a) (name b) one)

    here : (x y : ℕ) (v : Bool) (l : Tagged)
        → let f : ObjectFact = record { left = x; right = y; one = v; number = n } in let g : ObjectFact = record { left = a; right = b; one = one; number = t } in f ≡ g
        → IsPlaced (objects_fact (name x) (name y) v ∷ facts_of name steps l) n t (objects_fact (name a) (name b) one)
    here x y v l e = record {
      place = 0;
      number = (let z : n ≡ t = ap (λ (f : ObjectFact). f.number) e in omega arith);
      is = ap (λ (f : ObjectFact). Some (objects_fact (name f.left) (name f.right) f.one)) e;
    }

    by : (k : Kind) (rows : Tagged) → ((l : Tagged) → Says (objects_from (suc n) steps) a b one t → IsPlaced (facts_of name steps l) (suc n) t (objects_fact (name a) (name b) one))
        → Says (objects_by k n (objects_from (suc n) steps)) a b one t → IsPlaced (facts_by name k (facts_of name steps) rows) n t (objects_fact (name a) (name b) one)
    by (Flag x v) l f h = later _ _ _ n t (f l h)
    by (Same x y v) l f h = elim h [ inl e ↦ here x y v l e | inr m ↦ later _ _ _ n t (f l m) ]
    by Row [] f h = later _ _ _ n t (f [] h)
    by Row (r ∷ l) f h = later _ _ _ n t (f l h)

pub stand_as : (name : ℕ → Sum) (steps : List Step) (rows : Tagged) (objects : List ObjectFact) → objects ≡ objects_from 1 steps → StandAs name objects (facts_of name steps rows)
stand_as name steps rows objects e = λ a b t one s.
    let p = says_placed name 1 steps rows a b t one (subst (λ (l : List ObjectFact). Says l a b one t) e s) in
    let n : suc p.place ≡ t = (let m = p.number in omega arith) in
    subst (λ (k : ℕ). numbered_at (facts_of name steps rows) k ≡ Some (objects_fact (name a) (name b) one)) n p.is

-- two objects of which the fact of a number speaks
record AreSaid (name : ℕ → Sum) (objects : List ObjectFact) (x y : Sum) (one : Bool) (t : ℕ) : Type 0 where
  left : ℕ
  right : ℕ
  is_left : name left ≡ x
  is_right : name right ≡ y
  says : Says objects left right one t

more_said : (name : ℕ → Sum) (objects : List ObjectFact) (f : ObjectFact) (x y : Sum) (one : Bool) (t : ℕ) → AreSaid name objects x y one t → AreSaid name (f ∷ objects) x y one t
more_said name objects f x y one t h = record { left = h.left; right = h.right; is_left = h.is_left; is_right = h.is_right; says = inr h.says }

placed_said : (name : ℕ → Sum) (n k : ℕ) (steps : List Step) (rows : Tagged) (x y : Sum) (one : Bool) → slice_get (facts_of name steps rows) k ≡ Some (objects_fact x y one)
    → AreSaid name (objects_from n steps) x y one (n + k)
placed_said name n k [] rows x y one h = absurd (cc)
placed_said name n k (s ∷ steps) rows x y one h = by s.kind k rows (λ j l. placed_said name (suc n) j steps l x y one) h
  where
    moved : (objects : List ObjectFact) (j : ℕ) → AreSaid name objects x y one (suc n + j) → AreSaid name objects x y one (n + suc j)
    moved objects j h = let e : suc n + j ≡ n + suc j = omega arith in subst (AreSaid name objects x y one) e h

    here : (a b : ℕ) (v : Bool) (objects : List ObjectFact) → let f : Fact = objects_fact (name a) (name b) v in Some f ≡ Some (objects_fact x y one)
        → AreSaid name (record { left = a; right = b; one = v; number = n } ∷ objects) x y one (n + 0)
    here a b v objects e =
        let m : n ≡ n + 0 = omega arith in
        let o : v ≡ one = cc in
        record {
          left = a;
          right = b;
          is_left = cc;
          is_right = cc;
          says = inl (ap (λ (w : Bool). record { left = a; right = b; one = w; number = n }) o ∙ ap (λ (i : ℕ). record { left = a; right = b; one = one; number = i }) m);
        }

    by : (j : Kind) (k : ℕ) (rows : Tagged)
        → ((i : ℕ) (l : Tagged) → slice_get (facts_of name steps l) i ≡ Some (objects_fact x y one) → AreSaid name (objects_from (suc n) steps) x y one (suc n + i))
        → slice_get (facts_by name j (facts_of name steps) rows) k ≡ Some (objects_fact x y one) → AreSaid name (objects_by j n (objects_from (suc n) steps)) x y one (n + k)
    by (Flag z v) zero l f h = absurd (cc)
    by (Flag z v) (suc k) l f h = moved _ k (f k l h)
    by (Same a b v) zero l f h = here a b v _ h
    by (Same a b v) (suc k) l f h = more_said name _ _ x y one (n + suc k) (moved _ k (f k l h))
    by Row zero [] f h = absurd (cc)
    by Row (suc k) [] f h = moved _ k (f k [] h)
    by Row zero (r ∷ l) f h = absurd (cc)
    by Row (suc k) (r ∷ l) f h = moved _ k (f k l h)

pub facts_hold : (name : ℕ → Sum) (class_of : ℕ → ℕ) (steps : List Step) (rows : Tagged) → joined.AllObjectsHold class_of (objects_from 1 steps)
    → AllObjectsHold name class_of (facts_of name steps rows)
facts_hold name class_of steps rows h = λ k x y one e. by k x y one e
  where
    by : (k : ℕ) (x y : Sum) (one : Bool) → numbered_at (facts_of name steps rows) k ≡ Some (objects_fact x y one) → HaveClasses name class_of x y one
    by zero x y one e = absurd (cc)
    by (suc k) x y one e =
        let s = placed_said name 1 k steps rows x y one e in
        record { left = s.left; right = s.right; is_left = s.is_left; is_right = s.is_right; classes = h s.left s.right (1 + k) one s.says }

-- ---- clashes

pub clash_by_name : (answer : Option CaseProof) (steps : List Step) (rows : Tagged) (objects : List ObjectFact)
    → ((name : ℕ → Sum) (o : List ObjectFact) (facts : List Fact) (clash : Clash) → StandAs name o facts → IsClash o clash → Clashes facts clash)
    → objects ≡ objects_from 1 steps → IfSome answer (λ p. IsClash objects (clash_of p)) → IfSome answer (λ p. (name : ℕ → Sum) → Clashes (facts_of name steps rows) (clash_of p))
clash_by_name None steps rows objects law e h = tt
clash_by_name (Some p) steps rows objects law e h = λ name. law name objects (facts_of name steps rows) (clash_of p) (stand_as name steps rows objects e) h

pub none_clash : (answer : Option CaseProof) (objects : List ObjectFact) (steps : List Step) → objects ≡ objects_from 1 steps
    → IfNone answer ((c : Clash) → IsClash objects c → ⊥) → IfNone answer ((c : Clash) → IsClash (objects_from 1 steps) c → ⊥)
none_clash None objects steps e h = λ c k. h c (subst (λ (l : List ObjectFact). IsClash l c) (sym e) k)
none_clash (Some p) objects steps e h = tt

pub joined_by_name : (answer : Option Tags) (a b : ℕ) (steps : List Step) (rows : Tagged) (objects : List ObjectFact)
    → ((name : ℕ → Sum) (o : List ObjectFact) (facts : List Fact) (ts : List ℕ) (x y : ℕ) → StandAs name o facts → IsJoined o ts x y → AreJoined facts ts (name x) (name y))
    → objects ≡ objects_from 1 steps → IfSome answer (λ tags. IsJoined objects (tag_items tags) a b)
    → IfSome answer (λ tags. (name : ℕ → Sum) → AreJoined (facts_of name steps rows) (tag_items tags) (name a) (name b))
joined_by_name None a b steps rows objects law e h = tt
joined_by_name (Some tags) a b steps rows objects law e h = λ name. law name objects (facts_of name steps rows) (tag_items tags) a b (stand_as name steps rows objects e) h

pub none_joined : (answer : Option Tags) (a b : ℕ) (objects : List ObjectFact) (steps : List Step) → objects ≡ objects_from 1 steps
    → IfNone answer (AreOne objects a b → ⊥) → IfNone answer (AreOne (objects_from 1 steps) a b → ⊥)
none_joined None a b objects steps e h = λ k. h (subst (λ (l : List ObjectFact). AreOne l a b) (sym e) k)
none_joined (Some tags) a b objects steps e h = tt

-- ---- classes

pub one_by_facts : (n : ℕ) (labels : List ℕ) (objects : List ObjectFact) (steps : List Step) → objects ≡ objects_from 1 steps
    → ((a b : ℕ) → a < n → b < n → (get_or labels a 0 ≡ get_or labels b 0) ↔ AreOne objects a b)
    → (a b : ℕ) → a < n → b < n → (get_or labels a 0 ≡ get_or labels b 0) ↔ AreOne (objects_from 1 steps) a b
one_by_facts n labels objects steps e h =
    subst (λ (l : List ObjectFact). (a b : ℕ) → a < n → b < n → (get_or labels a 0 ≡ get_or labels b 0) ↔ AreOne l a b) e h

pub holds_by_name : (labels : List ℕ) (objects : List ObjectFact) (steps : List Step) (rows : Tagged) → objects ≡ objects_from 1 steps
    → (((c : Clash) → IsClash objects c → ⊥) → joined.AllObjectsHold (λ a. get_or labels a 0) objects) → ((c : Clash) → IsClash (objects_from 1 steps) c → ⊥)
    → (name : ℕ → Sum) → AllObjectsHold name (λ a. get_or labels a 0) (facts_of name steps rows)
holds_by_name labels objects steps rows e h none = λ name.
    facts_hold name (λ a. get_or labels a 0) steps rows
    (subst (joined.AllObjectsHold (λ a. get_or labels a 0)) e (h (λ c k. none c (subst (λ (l : List ObjectFact). IsClash l c) e k))))

-- ---- no facts

none_at : (k : ℕ) (f : Fact) → numbered_at [] k ≡ Some f → ⊥
none_at zero f h = cc
none_at (suc k) f h = cc

no_facts : (name : ℕ → Sum) → IsPathState name [] [] [] None
no_facts name = record {
  numbered = refl;
  flags = record { given = λ x g h. absurd (cc); is_clash = tt; agree = λ c k x value h. absurd (none_at k (flag_fact x value) h) };
  pasts = record { each = λ k s h. absurd (cc); rises = λ j k s t l h i. absurd (cc) };
}

pub new_state : (steps : List Step) (rows : Tagged) (entries : List (Symbol × Given)) (objects : List ObjectFact) → steps ≡ [] → rows ≡ [] → entries ≡ [] → objects ≡ []
    → IsState steps rows entries None objects
new_state steps rows entries objects s r e o =
    subst (λ (l : List Step). IsState l rows entries None objects) (sym s)
    (subst (λ (l : Tagged). IsState [] l entries None objects) (sym r)
    (subst (λ (l : List (Symbol × Given)). IsState [] [] l None objects) (sym e)
    (subst (λ (l : List ObjectFact). IsState [] [] [] None l) (sym o) (record { paths = no_facts; objects_are = objects_none }))))

-- what holds where there is no answer, holds where there is a later one
pub still_apart : (P : Type 0) (clash later : Option CaseProof) → ((p : CaseProof) → clash ≡ Some p → ⊥) → IfNone clash P → IfNone later P
still_apart P clash (Some q) h k = tt
still_apart P None None h k = k
still_apart P (Some p) None h k = absurd (h p refl)
