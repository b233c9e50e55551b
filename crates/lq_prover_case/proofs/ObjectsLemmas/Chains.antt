-- Chains of facts are chains of merges, and what the classes hold the same facts join.
use Rattle.std.proofs.Common.{◌≡◌, ◌↔◌, ◌⊎◌, inl, inr, ℕ, zero, suc, ◌+◌, ◌<◌, Bool, true, false, List, [], ◌∷◌, ◌++◌, length, take, get_or, eqb, refl, sym, ap, subst, ◌∙◌, arith, append_assoc, append-nil, eq-eqb, eqb-true}
use Rattle.lq_prover_congruence.specs.Classes.Terms.{Term}
use Rattle.lq_prover_congruence.specs.Classes.Steps.{terms_of, term_at, IsMerge, IsSame, IsTerm, merged, itself as same_itself, turned, onward, applied}
use Rattle.lq_prover_congruence.specs.Classes.Chains.{AllNamed, IsChain, IsName}
use Rattle.lq_prover_congruence.specs.declared.classes.head.Head.{Head}
use Rattle.lq_prover_congruence.specs.declared.classes.head.Head.TheVariants as head
use Rattle.lq_prover_congruence.specs.declared.classes.steps.Step.{Step}
use Rattle.lq_prover_congruence.specs.declared.classes.steps.Step.TheVariants.{Added, Merged}
use Rattle.lq_prover_proof_tree.specs.Trees.Path.{Fact}
use Rattle.lq_prover_proof_tree.specs.Trees.Proves as proves
use Rattle.lq_prover_proof_tree.specs.Trees.Tree.{Clash, merges}
use Rattle.lq_prover_case.specs.Objects.Joined as joined
use Rattle.lq_prover_case.specs.Objects.Joined.{Says, IsJoined, itself, backward, AreOne, IsClash, differ, AllObjectsHold, AllWithin, StandAs}
use Rattle.lq_prover_case.specs.Objects.Objects.{names, name_step, step_by, step_of, told, IsObjects}
use Rattle.lq_prover_case.specs.declared.objects.fact.ObjectFact.{ObjectFact}
use Rattle.lq_logic_predicates.specs.Sum.{Sum}
use Rattle.lq_logic_predicates.specs.declared.symbol.Symbol.TheVariants.{Bound}

-- ---- the names

told-terms : (fs : List ObjectFact) → terms_of (told fs) ≡ []
told-terms [] = refl
told-terms (f ∷ fs) = by f.one (told-terms fs)
  where
    by : (b : Bool) → terms_of (told fs) ≡ [] → terms_of (step_by b f ∷ told fs) ≡ []
    by true h = h
    by false h = h

pub terms-length : (k n : ℕ) (fs : List ObjectFact) → length (terms_of (names k n ++ told fs)) ≡ n
terms-length k zero fs = ap length (told-terms fs)
terms-length k (suc n) fs = ap suc (terms-length (suc k) n fs)

term_named : (k n i : ℕ) (ys : List Step) → i < n → term_at (terms_of (names k n ++ ys)) i ≡ (head.Symbol (Bound (record { 0 = k + i })), [])
term_named k zero i ys h = absurd (omega arith)
term_named k (suc n) zero ys h = let e : k ≡ k + 0 = omega arith in ap (λ (j : ℕ). (head.Symbol (Bound (record { 0 = j })), [])) e
term_named k (suc n) (suc i) ys h =
    let e : suc k + i ≡ k + suc i = omega arith in
    term_named (suc k) n i ys (omega arith) ∙ ap (λ (j : ℕ). (head.Symbol (Bound (record { 0 = j })), [])) e

pub is_term : (n i : ℕ) (fs : List ObjectFact) → i < n → IsTerm (names 0 n ++ told fs) i (head.Symbol (Bound (record { 0 = i })), [])
is_term n i fs h =
    let l = terms-length 0 n fs in
    let e : 0 + i ≡ i = omega arith in
    (omega arith, term_named 0 n i (told fs) h ∙ ap (λ (j : ℕ). (head.Symbol (Bound (record { 0 = j })), [])) e)

pub is_name : (n i : ℕ) (fs : List ObjectFact) → i < n → IsName (names 0 n ++ told fs) i
is_name n i fs h = (head.Symbol (Bound (record { 0 = i })), tt, is_term n i fs h)

abbrev binder_of : Head → ℕ
binder_of (head.Symbol (Bound x)) = x.0
binder_of (head.Symbol _) = 0
binder_of head.Length = 0
binder_of (head.Measure f) = 0

names_more : (k n : ℕ) → names k n ++ name_step (k + n) ∷ [] ≡ names k (suc n)
names_more k zero = let e : k + 0 ≡ k = omega arith in ap (λ (j : ℕ). name_step j ∷ []) e
names_more k (suc n) =
    let e : k + suc n ≡ suc k + n = omega arith in
    ap (λ (j : ℕ). name_step k ∷ names (suc k) n ++ name_step j ∷ []) e ∙ ap (λ (l : List Step). name_step k ∷ l) (names_more (suc k) n)

pub next_name : (n : ℕ) → names 0 n ++ name_step n ∷ [] ≡ names 0 (n + 1)
next_name n =
    let e : 0 + n ≡ n = omega arith in
    let f : suc n ≡ n + 1 = omega arith in
    ap (λ (j : ℕ). names 0 n ++ name_step j ∷ []) (sym e) ∙ names_more 0 n ∙ ap (names 0) f

-- the next name is not there yet
pub name_fresh : (n i : ℕ) → IsTerm (names 0 n ++ told []) i (head.Symbol (Bound (record { 0 = n })), []) → ⊥
name_fresh n i h =
    let l = terms-length 0 n [] in
    let lt : i < n = (let b = h.0 in omega arith) in
    let e : i ≡ n = ap (λ (t : Term). binder_of t.0) (sym (is_term n i [] lt).1 ∙ h.1) in
    omega arith

-- ---- merges and what facts say

no_name : (k : ℕ) (a b r : ℕ) → name_step k ≡ Merged a b r → ⊥
no_name k a b r e = cc

tells_merge : (one : Bool) (f : ObjectFact) (a b r : ℕ) → f.one ≡ one → step_by one f ≡ Merged a b r → f ≡ record { left = a; right = b; one = true; number = r }
tells_merge true f a b r o e =
    let l : f.left ≡ a = cc in
    let m : f.right ≡ b = cc in
    let n : f.number ≡ r = cc in
    let P : ℕ → ObjectFact = λ x. record { left = x; right = f.right; one = f.one; number = f.number } in
    let Q : ℕ → ObjectFact = λ x. record { left = a; right = x; one = f.one; number = f.number } in
    let R : Bool → ObjectFact = λ x. record { left = a; right = b; one = x; number = f.number } in
    let S : ℕ → ObjectFact = λ x. record { left = a; right = b; one = true; number = x } in
    ap P l ∙ ap Q m ∙ ap R o ∙ ap S n
tells_merge false f a b r o e = absurd (cc)

merge_told : (fs : List ObjectFact) (a b r : ℕ) → IsMerge (told fs) a b r → Says fs a b true r
merge_told [] a b r h = h
merge_told (f ∷ fs) a b r h = elim h [ inl e ↦ inl (tells_merge f.one f a b r refl e) | inr m ↦ inr (merge_told fs a b r m) ]

pub merge_says : (k n : ℕ) (fs : List ObjectFact) (a b r : ℕ) → IsMerge (names k n ++ told fs) a b r → Says fs a b true r
merge_says k zero fs a b r h = merge_told fs a b r h
merge_says k (suc n) fs a b r h = elim h [ inl e ↦ absurd (no_name k a b r e) | inr m ↦ merge_says (suc k) n fs a b r m ]

told_merge : (fs : List ObjectFact) (a b r : ℕ) → Says fs a b true r → IsMerge (told fs) a b r
told_merge [] a b r h = h
told_merge (f ∷ fs) a b r h = elim h [ inl e ↦ inl (ap step_of e) | inr m ↦ inr (told_merge fs a b r m) ]

pub says_merge : (k n : ℕ) (fs : List ObjectFact) (a b r : ℕ) → Says fs a b true r → IsMerge (names k n ++ told fs) a b r
says_merge k zero fs a b r h = told_merge fs a b r h
says_merge k (suc n) fs a b r h = inr (says_merge (suc k) n fs a b r h)

pub says_within : (n : ℕ) (fs : List ObjectFact) (a b : ℕ) (one : Bool) (t : ℕ) → AllWithin n fs → Says fs a b one t → (a < n) × (b < n)
says_within n [] a b one t w h = absurd h
says_within n (f ∷ fs) a b one t w h = elim h [
  | inl e ↦ (subst (λ (x : ℕ). x < n) (ap (λ (g : ObjectFact). g.left) e) w.0, subst (λ (x : ℕ). x < n) (ap (λ (g : ObjectFact). g.right) e) w.1)
  | inr m ↦ says_within n fs a b one t w.2 m
]

pub all_named : (n : ℕ) (fs : List ObjectFact) → AllWithin n fs → AllNamed (names 0 n ++ told fs)
all_named n fs w = λ a b r m. let l = says_within n fs a b true r w (merge_says 0 n fs a b r m) in (is_name n a fs l.0, is_name n b fs l.1)

-- ---- chains

pub chain_joins : (n : ℕ) (fs : List ObjectFact) (ts : List ℕ) (a b : ℕ) → IsChain (names 0 n ++ told fs) a b ts → IsJoined fs ts a b
chain_joins n fs [] a b h = subst (IsJoined fs [] a) h (itself a)
chain_joins n fs (t ∷ ts) a b h = elim h.1 [
  | inl m ↦ joined.onward t ts a h.0 b (merge_says 0 n fs a h.0 t m) (chain_joins n fs ts h.0 b h.2)
  | inr m ↦ backward t ts a h.0 b (merge_says 0 n fs h.0 a t m) (chain_joins n fs ts h.0 b h.2)
]

pub joins_same : (n : ℕ) (fs : List ObjectFact) (ts : List ℕ) (a b : ℕ) → IsJoined fs ts a b → IsSame (names 0 n ++ told fs) a b
joins_same n fs ts a b (itself _) = same_itself a
joins_same n fs ts a c (joined.onward t us _ b _ s k) = onward a b c (merged a b t (says_merge 0 n fs a b t s)) (joins_same n fs us b c k)
joins_same n fs ts a c (backward t us _ b _ s k) = onward a b c (turned b a (merged b a t (says_merge 0 n fs b a t s))) (joins_same n fs us b c k)

then_joined : (fs : List ObjectFact) (ts us : List ℕ) (a b c : ℕ) → IsJoined fs ts a b → IsJoined fs us b c → IsJoined fs (ts ++ us) a c
then_joined fs ts us a b c (itself _) k = k
then_joined fs ts us a b c (joined.onward t vs _ m _ s h) k = joined.onward t (vs ++ us) a m c s (then_joined fs vs us m b c h k)
then_joined fs ts us a b c (backward t vs _ m _ s h) k = backward t (vs ++ us) a m c s (then_joined fs vs us m b c h k)

then_one : (fs : List ObjectFact) (a b c : ℕ) → AreOne fs a b → AreOne fs b c → AreOne fs a c
then_one fs a b c h k = (h.0 ++ k.0, then_joined fs h.0 k.0 a b c h.1 k.1)

turned_one : (fs : List ObjectFact) (ts : List ℕ) (a b : ℕ) → IsJoined fs ts a b → AreOne fs b a
turned_one fs ts a b (itself _) = ([], itself a)
turned_one fs ts a b (joined.onward t vs _ m _ s h) = then_one fs b m a (turned_one fs vs m b h) (t ∷ [], backward t [] m a a s (itself a))
turned_one fs ts a b (backward t vs _ m _ s h) = then_one fs b m a (turned_one fs vs m b h) (t ∷ [], joined.onward t [] m a a s (itself a))

one_term : (n : ℕ) (fs : List ObjectFact) (i j : ℕ) (t u : Term) → t.0 ≡ u.0 → IsTerm (names 0 n ++ told fs) i t → IsTerm (names 0 n ++ told fs) j u → i ≡ j
one_term n fs i j t u e h k =
    let l = terms-length 0 n fs in
    let at_i = is_term n i fs (let b = h.0 in omega arith) in
    let at_j = is_term n j fs (let b = k.0 in omega arith) in
    ap (λ (x : Term). binder_of x.0) (sym at_i.1 ∙ h.1) ∙ ap binder_of e ∙ ap (λ (x : Term). binder_of x.0) (sym k.1 ∙ at_j.1)

pub same_one : (n : ℕ) (fs : List ObjectFact) (a b : ℕ) → IsSame (names 0 n ++ told fs) a b → AreOne fs a b
same_one n fs a b (merged _ _ r m) = (r ∷ [], joined.onward r [] a b b (merge_says 0 n fs a b r m) (itself b))
same_one n fs a b (same_itself _) = ([], itself a)
same_one n fs a b (turned _ _ h) = let k = same_one n fs b a h in turned_one fs k.0 b a k.1
same_one n fs a c (onward _ b _ h k) = then_one fs a b c (same_one n fs a b h) (same_one n fs b c k)
same_one n fs a b (applied _ _ h xs ys t u l s) = subst (AreOne fs a) (one_term n fs a b (h, xs) (h, ys) refl t u) ([], itself a)

-- ---- classes and truths

truth : (x y : ℕ) (one : Bool) → (one ≡ true → x ≡ y) → (one ≡ false → x ≡ y → ⊥) → eqb x y ≡ one
truth x y true h k = eq-eqb x y (h refl)
truth x y false h k = by (eqb x y) refl
  where
    by : (b : Bool) → eqb x y ≡ b → b ≡ false
    by true e = absurd (k refl (eqb-true x y e))
    by false e = refl

pub classes_hold : (n : ℕ) (fs : List ObjectFact) (labels : List ℕ) → AllWithin n fs
    → ((a b : ℕ) → a < n → b < n → (get_or labels a 0 ≡ get_or labels b 0) ↔ AreOne fs a b)
    → ((c : Clash) → IsClash fs c → ⊥) → AllObjectsHold (λ a. get_or labels a 0) fs
classes_hold n fs labels w tell none = λ a b t one s.
    let l = says_within n fs a b one t w s in
    let both = tell a b l.0 l.1 in
    truth (get_or labels a 0) (get_or labels b 0) one
    (λ e. let y = subst (λ (o : Bool). Says fs a b o t) e s in both.1 (t ∷ [], joined.onward t [] a b b y (itself b)))
    (λ e k. let y = subst (λ (o : Bool). Says fs a b o t) e s in let j = both.0 k in none (merges t j.0) (differ t j.0 a b y j.1))

pub one_same : (n : ℕ) (fs : List ObjectFact) (a b : ℕ) (P : Type 0) → (P ↔ IsSame (names 0 n ++ told fs) a b) → P ↔ AreOne fs a b
one_same n fs a b P h = (λ p. same_one n fs a b (h.0 p), λ o. h.1 (joins_same n fs o.0 a b o.1))

-- ---- one fact more, and the first ones

told-append : (fs gs : List ObjectFact) → told (fs ++ gs) ≡ told fs ++ told gs
told-append [] gs = refl
told-append (f ∷ fs) gs = ap (λ (l : List Step). step_of f ∷ l) (told-append fs gs)

pub told_more : (n : ℕ) (fs : List ObjectFact) (f : ObjectFact) → (names 0 n ++ told fs) ++ step_of f ∷ [] ≡ names 0 n ++ told (fs ++ f ∷ [])
told_more n fs f = append_assoc (names 0 n) (told fs) (step_of f ∷ []) ∙ ap (λ (l : List Step). names 0 n ++ l) (sym (told-append fs (f ∷ [])))

pub within_more : (n : ℕ) (fs : List ObjectFact) (f : ObjectFact) → AllWithin n fs → f.left < n → f.right < n → AllWithin n (fs ++ f ∷ [])
within_more n [] f w l r = (l, r, tt)
within_more n (g ∷ fs) f w l r = (w.0, w.1, within_more n fs f w.2 l r)

pub within_take : (n k : ℕ) (fs : List ObjectFact) → AllWithin n fs → AllWithin n (take k fs)
within_take n zero fs w = tt
within_take n (suc k) [] w = tt
within_take n (suc k) (f ∷ fs) w = (w.0, w.1, within_take n k fs w.2)

take_told : (k : ℕ) (fs : List ObjectFact) → take k (told fs) ≡ told (take k fs)
take_told zero fs = refl
take_told (suc k) [] = refl
take_told (suc k) (f ∷ fs) = ap (λ (l : List Step). step_of f ∷ l) (take_told k fs)

pub take_steps : (j n k : ℕ) (fs : List ObjectFact) → take (n + k) (names j n ++ told fs) ≡ names j n ++ told (take k fs)
take_steps j zero k fs = let e : 0 + k ≡ k = omega arith in ap (λ (i : ℕ). take i (told fs)) e ∙ take_told k fs
take_steps j (suc n) k fs =
    let e : suc n + k ≡ suc (n + k) = omega arith in
    ap (λ (i : ℕ). take i (names j (suc n) ++ told fs)) e ∙ ap (λ (l : List Step). name_step j ∷ l) (take_steps (suc j) n k fs)

pub steps-length : (j n : ℕ) (fs : List ObjectFact) → length (names j n ++ told fs) ≡ n + length fs
steps-length j zero fs = let e : length fs ≡ 0 + length fs = omega arith in told-length fs ∙ e
  where
    told-length : (gs : List ObjectFact) → length (told gs) ≡ length gs
    told-length [] = refl
    told-length (g ∷ gs) = ap suc (told-length gs)
steps-length j (suc n) fs = let h = steps-length (suc j) n fs in omega arith

-- ---- facts of a path

pub path_joined : (name : ℕ → Sum) (objects : List ObjectFact) (facts : List Fact) (ts : List ℕ) (a b : ℕ) → StandAs name objects facts → IsJoined objects ts a b
    → proves.AreJoined facts ts (name a) (name b)
path_joined name objects facts ts a b s (itself _) = proves.itself (name a)
path_joined name objects facts ts a c s (joined.onward t us _ b _ y k) = proves.onward t us (name a) (name b) (name c) (s a b t true y) (path_joined name objects facts us b c s k)
path_joined name objects facts ts a c s (backward t us _ b _ y k) = proves.backward t us (name a) (name b) (name c) (s b a t true y) (path_joined name objects facts us b c s k)

pub path_clash : (name : ℕ → Sum) (objects : List ObjectFact) (facts : List Fact) (c : Clash) → StandAs name objects facts → IsClash objects c → proves.Clashes facts c
path_clash name objects facts c s (differ t ts a b y k) = proves.merges_clash t ts (name a) (name b) (s a b t false y) (path_joined name objects facts ts a b s k)

-- ---- what always holds

pub names_in : (n : ℕ) (fs : List ObjectFact) (steps : List Step) → IsObjects n fs steps → length (terms_of steps) ≡ n
names_in n fs steps h = ap (λ (l : List Step). length (terms_of l)) h.steps_are ∙ terms-length 0 n fs

pub length_in : (n : ℕ) (fs : List ObjectFact) (steps : List Step) → IsObjects n fs steps → length steps ≡ n + length fs
length_in n fs steps h = ap length h.steps_are ∙ steps-length 0 n fs

pub named_in : (n : ℕ) (fs : List ObjectFact) (steps : List Step) → IsObjects n fs steps → AllNamed steps
named_in n fs steps h = subst AllNamed (sym h.steps_are) (all_named n fs h.within)

pub name_in : (n : ℕ) (fs : List ObjectFact) (steps : List Step) (i : ℕ) → IsObjects n fs steps → i < n → IsName steps i
name_in n fs steps i h l = subst (λ (x : List Step). IsName x i) (sym h.steps_are) (is_name n i fs l)

pub chain_in : (n : ℕ) (fs : List ObjectFact) (steps : List Step) (ts : List ℕ) (a b : ℕ) → IsObjects n fs steps → IsChain steps a b ts → IsJoined fs ts a b
chain_in n fs steps ts a b h k = chain_joins n fs ts a b (subst (λ (x : List Step). IsChain x a b ts) h.steps_are k)

pub same_in : (n : ℕ) (fs : List ObjectFact) (steps : List Step) (a b : ℕ) → IsObjects n fs steps → IsSame steps a b → AreOne fs a b
same_in n fs steps a b h k = same_one n fs a b (subst (λ (x : List Step). IsSame x a b) h.steps_are k)

pub one_in : (n : ℕ) (fs : List ObjectFact) (steps : List Step) (a b : ℕ) → IsObjects n fs steps → AreOne fs a b → IsSame steps a b
one_in n fs steps a b h k = subst (λ (x : List Step). IsSame x a b) (sym h.steps_are) (joins_same n fs k.0 a b k.1)

pub objects_more : (n : ℕ) (fs more : List ObjectFact) (steps next : List Step) (f : ObjectFact) → IsObjects n fs steps → more ≡ fs ++ f ∷ [] → next ≡ steps ++ step_of f ∷ []
    → f.left < n → f.right < n → IsObjects n more next
objects_more n fs more steps next f h is next_is l r = record {
  steps_are = next_is ∙ ap (λ (x : List Step). x ++ step_of f ∷ []) h.steps_are ∙ told_more n fs f ∙ ap (λ (x : List ObjectFact). names 0 n ++ told x) (sym is);
  within = subst (AllWithin n) (sym is) (within_more n fs f h.within l r);
}

pub objects_first : (n k : ℕ) (fs less : List ObjectFact) (steps next : List Step) → IsObjects n fs steps → less ≡ take k fs → next ≡ take (n + k) steps → IsObjects n less next
objects_first n k fs less steps next h is next_is = record {
  steps_are = next_is ∙ ap (λ (x : List Step). take (n + k) x) h.steps_are ∙ take_steps 0 n k fs ∙ ap (λ (x : List ObjectFact). names 0 n ++ told x) (sym is);
  within = subst (AllWithin n) (sym is) (within_take n k fs h.within);
}

pub objects_tell : (n : ℕ) (fs : List ObjectFact) (steps : List Step) (labels : List ℕ) → IsObjects n fs steps
    → ((a b : ℕ) → a < length (terms_of steps) → b < length (terms_of steps) → (get_or labels a 0 ≡ get_or labels b 0) ↔ IsSame steps a b)
    → (a b : ℕ) → a < n → b < n → (get_or labels a 0 ≡ get_or labels b 0) ↔ AreOne fs a b
objects_tell n fs steps labels h tell a b l r =
    let e = names_in n fs steps h in
    let both = tell a b (omega arith) (omega arith) in
    (λ p. same_in n fs steps a b h (both.0 p), λ o. both.1 (one_in n fs steps a b h o))

-- ---- facts by their index

pub not_both : (b : Bool) → b ≡ true → b ≡ false → ⊥
not_both true h k = cc
not_both false h k = cc

pub within_at : (n : ℕ) (fs : List ObjectFact) (k : ℕ) (d : ObjectFact) → AllWithin n fs → k < length fs → ((get_or fs k d).left < n) × ((get_or fs k d).right < n)
within_at n [] k d w h = absurd (omega arith)
within_at n (f ∷ fs) zero d w h = (w.0, w.1)
within_at n (f ∷ fs) (suc k) d w h = within_at n fs k d w.2 (omega arith)

pub says_at : (fs : List ObjectFact) (k : ℕ) (d : ObjectFact) (one : Bool) → k < length fs → (get_or fs k d).one ≡ one
    → Says fs (get_or fs k d).left (get_or fs k d).right one (get_or fs k d).number
says_at [] k d one h e = absurd (omega arith)
says_at (f ∷ fs) zero d one h e = let P : Bool → ObjectFact = λ x. record { left = f.left; right = f.right; one = x; number = f.number } in inl (ap P e)
says_at (f ∷ fs) (suc k) d one h e = inr (says_at fs k d one (omega arith) e)

pub says_next : (fs : List ObjectFact) (k : ℕ) (d : ObjectFact) (a b : ℕ) (one : Bool) (t : ℕ) → Says (take (k + 1) fs) a b one t
    → Says (take k fs) a b one t ⊎ (get_or fs k d ≡ record { left = a; right = b; one = one; number = t })
says_next fs k d a b one t h = let e : k + 1 ≡ suc k = omega arith in by fs k (subst (λ (m : ℕ). Says (take m fs) a b one t) e h)
  where
    by : (fs : List ObjectFact) (k : ℕ) → Says (take (suc k) fs) a b one t → Says (take k fs) a b one t ⊎ (get_or fs k d ≡ record { left = a; right = b; one = one; number = t })
    by [] zero h = absurd h
    by [] (suc k) h = absurd h
    by (f ∷ fs) zero h = elim h [ inl e ↦ inr e | inr m ↦ absurd m ]
    by (f ∷ fs) (suc k) h = elim h [ inl e ↦ inl (inl e) | inr m ↦ elim (by fs k m) [ inl p ↦ inl (inr p) | inr e ↦ inr e ] ]

-- the facts before the next one are no false differences, and so it is neither
pub still_none : (fs : List ObjectFact) (k : ℕ) (d : ObjectFact) (steps : List Step) → ((a b t : ℕ) → Says (take k fs) a b false t → IsSame steps a b → ⊥)
    → ((get_or fs k d).one ≡ false → IsSame steps (get_or fs k d).left (get_or fs k d).right → ⊥) → (a b t : ℕ) → Says (take (k + 1) fs) a b false t → IsSame steps a b → ⊥
still_none fs k d steps h now a b t s i = elim (says_next fs k d a b false t s) [
  | inl p ↦ h a b t p i
  | inr e ↦ (let P : ObjectFact → Type 0 = λ f. IsSame steps f.left f.right in let o : (get_or fs k d).one ≡ false = ap (λ (f : ObjectFact). f.one) e in now o (subst P (sym e) i))
]

pub named_next : (n : ℕ) (old new : List Step) (args : List ℕ) (term : ℕ) → old ≡ names 0 n → args ≡ []
    → ((new ≡ old) × IsTerm old term (head.Symbol (Bound (record { 0 = n })), args)) ⊎ ((new ≡ old ++ Added (head.Symbol (Bound (record { 0 = n }))) args ∷ []) × (term ≡ length (terms_of old))
    × ((i : ℕ) → IsTerm old i (head.Symbol (Bound (record { 0 = n })), args) → ⊥)) → new ≡ names 0 (n + 1)
named_next n old new args term is none (inl p) =
    let e : old ≡ names 0 n ++ told [] = is ∙ sym (append-nil (names 0 n)) in
    let q = subst (λ (l : List Step). IsTerm l term (head.Symbol (Bound (record { 0 = n })), args)) e p.1 in
    absurd (name_fresh n term (subst (λ (l : List ℕ). IsTerm (names 0 n ++ told []) term (head.Symbol (Bound (record { 0 = n })), l)) none q))
named_next n old new args term is none (inr p) =
    p.0 ∙ ap (λ (l : List Step). l ++ Added (head.Symbol (Bound (record { 0 = n }))) args ∷ []) is
    ∙ ap (λ (l : List ℕ). names 0 n ++ Added (head.Symbol (Bound (record { 0 = n }))) l ∷ []) none ∙ next_name n

pub no_clash : (n : ℕ) (fs : List ObjectFact) (steps : List Step) → IsObjects n fs steps → ((a b t : ℕ) → Says fs a b false t → IsSame steps a b → ⊥) → (c : Clash) → IsClash fs c → ⊥
no_clash n fs steps h none c (differ t ts a b y k) = none a b t y (one_in n fs steps a b h (ts, k))
