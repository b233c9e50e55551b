-- The open classes that slots reach are the variables of their types.
use Rattle.std.proofs.Common.{◌≡◌, ◌==◌, ◌&&◌, ◌||◌, inl, inr, ℕ, zero, suc, ◌<◌, ◌≤◌, Bool, true, false, List, [], ◌∷◌, ◌++◌, Option, Some, None, All, get_or, refl, sym, ap, subst, ◌∙◌, arith}
use Rattle.std.specs.List.{list_any}
use Rattle.std.proofs.lemmas.Bool.{cases_eq, eq-eqb, ne_eqb}
use Rattle.std.proofs.lemmas.List.Elements.{All-append}
use Rattle.lq_types_unify.specs.declared.arena.Equation.{Equation}
use Rattle.lq_types_unify.specs.Simple.{Simple, variable, made, Simples, none, more, each, replaced}
use Rattle.lq_types_unify.specs.Nodes.{Form}
use Rattle.lq_types_unify.specs.Solution.{IsSolution}
use Rattle.lq_types_unify.specs.Variables.{Each, EachIn}
use Rattle.lq_types_unify.specs.Classes.{up, root, IsKnown}
use Rattle.lq_types_unify.specs.Value.{parts_of}
use Rattle.lq_types_unify.specs.Opens.{AreOpens}
use Rattle.lq_types_unify.specs.Reaching.{IsInherited}
use Rattle.lq_types_unify.proofs.Roots.{root_fixed, root_self, root_low}
use Rattle.lq_types_unify.proofs.Replacing.{replaced_alike, replaced_same, each_map}
use Rattle.lq_types_infer.proofs.InferenceLemmas.Standing as values

-- ---- tests

abbrev member : List ℕ → ℕ → Bool
member xs v = list_any (λ x. x == v) xs

or_right : (a b : Bool) → b ≡ true → (a || b) ≡ true
or_right true b e = refl
or_right false b e = e

or_left : (a b : Bool) → a ≡ true → (a || b) ≡ true
or_left true b e = refl
or_left false b e = absurd (cc)

both_true : (a b : Bool) → (a && b) ≡ true → (a ≡ true) × (b ≡ true)
both_true true b e = (refl, e)
both_true false b e = absurd (cc)

and_true : (a b : Bool) → a ≡ true → b ≡ true → (a && b) ≡ true
and_true true b e f = f
and_true false b e f = absurd (cc)

same_from : (a b : ℕ) → (a == b) ≡ true → a ≡ b
same_from a b e = elim (cases_eq a b) [ inl h ↦ h | inr h ↦ absurd (let f = ne_eqb a b h in cc) ]

left_by : (x v : ℕ) (xs ys : List ℕ) → (member xs v ≡ true → member (xs ++ ys) v ≡ true) → (b : Bool) → (x == v) ≡ b → member (x ∷ xs) v ≡ true → (x == v || member (xs ++ ys) v) ≡ true
left_by x v xs ys f true q e = ap (λ c. c || list_any (λ y. y == v) (xs ++ ys)) q
left_by x v xs ys f false q e = or_right (x == v) (list_any (λ y. y == v) (xs ++ ys)) (f (sym (ap (λ c. c || list_any (λ y. y == v) xs) q) ∙ e))

member_left : (xs ys : List ℕ) (v : ℕ) → member xs v ≡ true → member (xs ++ ys) v ≡ true
member_left [] ys v e = absurd (cc)
member_left (x ∷ xs) ys v e = left_by x v xs ys (member_left xs ys v) (x == v) refl e

member_right : (xs ys : List ℕ) (v : ℕ) → member ys v ≡ true → member (xs ++ ys) v ≡ true
member_right [] ys v e = e
member_right (x ∷ xs) ys v e = or_right (x == v) (list_any (λ y. y == v) (xs ++ ys)) (member_right xs ys v e)

all_by : (P : ℕ → Type 0) (x v : ℕ) (xs : List ℕ) → P x → (member xs v ≡ true → P v) → (b : Bool) → (x == v) ≡ b → member (x ∷ xs) v ≡ true → P v
all_by P x v xs h f true q e = subst P (same_from x v q) h
all_by P x v xs h f false q e = f (sym (ap (λ c. c || list_any (λ y. y == v) xs) q) ∙ e)

member_all : (P : ℕ → Type 0) (xs : List ℕ) (v : ℕ) → All P xs → member xs v ≡ true → P v
member_all P [] v a e = absurd (cc)
member_all P (x ∷ xs) v a e = all_by P x v xs (a 0 x (omega arith)) (member_all P xs v (λ k d l. a (suc k) d (omega arith))) (x == v) refl e

-- ---- the variables of types

abbrev mutual
  vars : Simple → List ℕ
  vars (variable v) = v ∷ []
  vars (made k ts) = all_vars ts

  all_vars : Simples → List ℕ
  all_vars none = []
  all_vars (more t ts) = vars t ++ all_vars ts

all_one : (P : ℕ → Type 0) (v : ℕ) → P v → All P (v ∷ [])
all_one P v h zero d l = h
all_one P v h (suc k) d l = absurd (omega arith)

all_none : (P : ℕ → Type 0) → All P []
all_none P k d l = absurd (omega arith)

mutual
  vars_hold : (P : ℕ → Type 0) (t : Simple) → Each P t → All P (vars t)
  vars_hold P (variable v) h = all_one P v h
  vars_hold P (made k ts) h = all_vars_hold P ts h

  all_vars_hold : (P : ℕ → Type 0) (ts : Simples) → EachIn P ts → All P (all_vars ts)
  all_vars_hold P none h = all_none P
  all_vars_hold P (more t ts) h = All-append P (vars t) (all_vars ts) (vars_hold P t h.0) (all_vars_hold P ts h.1)

-- ---- types whose variables are among some

abbrev mutual
  within : List ℕ → Simple → Bool
  within xs (variable v) = member xs v
  within xs (made k ts) = all_within xs ts

  all_within : List ℕ → Simples → Bool
  all_within xs none = true
  all_within xs (more t ts) = within xs t && all_within xs ts

mutual
  within_each : (xs : List ℕ) (t : Simple) → within xs t ≡ true → Each (λ v. member xs v ≡ true) t
  within_each xs (variable v) e = e
  within_each xs (made k ts) e = all_within_each xs ts e

  all_within_each : (xs : List ℕ) (ts : Simples) → all_within xs ts ≡ true → EachIn (λ v. member xs v ≡ true) ts
  all_within_each xs none e = tt
  all_within_each xs (more t ts) e = let b = both_true (within xs t) (all_within xs ts) e in (within_each xs t b.0, all_within_each xs ts b.1)

mutual
  each_within : (xs : List ℕ) (t : Simple) → Each (λ v. member xs v ≡ true) t → within xs t ≡ true
  each_within xs (variable v) h = h
  each_within xs (made k ts) h = each_all_within xs ts h

  each_all_within : (xs : List ℕ) (ts : Simples) → EachIn (λ v. member xs v ≡ true) ts → all_within xs ts ≡ true
  each_all_within xs none h = refl
  each_all_within xs (more t ts) h = and_true (within xs t) (all_within xs ts) (each_within xs t h.0) (each_all_within xs ts h.1)

each_map_in : (P Q : ℕ → Type 0) (us : Simples) → ((v : ℕ) → P v → Q v) → EachIn P us → EachIn Q us
each_map_in P Q none f h = tt
each_map_in P Q (more u us) f h = (each_map P Q u f h.0, each_map_in P Q us f h.1)

mutual
  own_vars : (t : Simple) → Each (λ v. member (vars t) v ≡ true) t
  own_vars (variable v) = or_left (v == v) false (eq-eqb v v refl)
  own_vars (made k ts) = own_all_vars ts

  own_all_vars : (ts : Simples) → EachIn (λ v. member (all_vars ts) v ≡ true) ts
  own_all_vars none = tt
  own_all_vars (more t ts) = (
    each_map (λ v. member (vars t) v ≡ true) (λ v. member (vars t ++ all_vars ts) v ≡ true) t (member_left (vars t) (all_vars ts)) (own_vars t),
    each_map_in (λ v. member (all_vars ts) v ≡ true) (λ v. member (vars t ++ all_vars ts) v ≡ true) ts (member_right (vars t) (all_vars ts)) (own_all_vars ts),
  )

-- the variables of the types of some slots
abbrev vars_of : (ℕ → Simple) → List ℕ → List ℕ
vars_of f [] = []
vars_of f (i ∷ is) = vars (f i) ++ vars_of f is

vars_of_hold : (P : ℕ → Type 0) (f : ℕ → Simple) (is : List ℕ) → All (λ i. Each P (f i)) is → All P (vars_of f is)
vars_of_hold P f [] h = all_none P
vars_of_hold P f (i ∷ is) h = All-append P (vars (f i)) (vars_of f is) (vars_hold P (f i) (h 0 i (omega arith))) (vars_of_hold P f is (λ k d l. h (suc k) d (omega arith)))

own_vars_of : (f : ℕ → Simple) (is : List ℕ) → All (λ i. Each (λ v. member (vars_of f is) v ≡ true) (f i)) is
own_vars_of f [] k d l = absurd (omega arith)
own_vars_of f (i ∷ is) zero d l = each_map (λ v. member (vars (f i)) v ≡ true) (λ v. member (vars (f i) ++ vars_of f is) v ≡ true) (f i) (member_left (vars (f i)) (vars_of f is)) (own_vars (f i))
own_vars_of f (i ∷ is) (suc k) d l =
    each_map (λ v. member (vars_of f is) v ≡ true) (λ v. member (vars (f i) ++ vars_of f is) v ≡ true) (f (get_or is k d)) (member_right (vars (f i)) (vars_of f is)) (own_vars_of f is k d (omega arith))

-- the parts of a made type
part_each : (P : ℕ → Type 0) (f : ℕ → Simple) (ps : List ℕ) → EachIn P (each f ps) → All (λ p. Each P (f p)) ps
part_each P f [] h k d l = absurd (omega arith)
part_each P f (p ∷ ps) h zero d l = h.0
part_each P f (p ∷ ps) h (suc k) d l = part_each P f ps h.1 k d (omega arith)

module _ (forms : ℕ → Option Form) (n : ℕ) (ps shapes : List ℕ) (found equations : List Equation) (known : IsKnown forms n ps shapes found equations)
    (inside : (i : ℕ) (f : Form) → forms i ≡ Some f → (i < n) × All (λ p. p < n) f.parts) (types : ℕ → Simple) (solves : IsSolution forms equations types) where
  stands : ℕ → Simple
  stands = values.stands forms n ps shapes found equations known inside types solves

  -- the roots of classes whose types' variables are among these
  seen : List ℕ → ℕ → Bool
  seen xs r = (up ps r == r) && within xs (stands r)

  stands_root : (i : ℕ) → stands (root ps i) ≡ stands i
  unfolding stands
  stands_root i =
      let m = values.most_general forms n ps shapes found equations known inside types solves in
      sym (values.to_root forms n ps shapes found equations known inside _ m.solves i)

  seen_at : (xs : List ℕ) (i : ℕ) → Each (λ v. member xs v ≡ true) (stands i) → seen xs (root ps i) ≡ true
  unfolding seen
  seen_at xs i h = and_true (up ps (root ps i) == root ps i) (within xs (stands (root ps i))) (eq-eqb (up ps (root ps i)) (root ps i) (root_fixed ps known.state.down i))
      (each_within xs (stands (root ps i)) (subst (Each (λ v. member xs v ≡ true)) (sym (stands_root i)) h))

  inherited_by : (xs : List ℕ) (r : ℕ) (o : Option Form) → forms (up shapes r) ≡ o → up ps r ≡ r → Each (λ v. member xs v ≡ true) (stands r) → All (λ p. seen xs (root ps p) ≡ true) (parts_of o)
  unfolding stands
  inherited_by xs r None e q h k d l = absurd (omega arith)
  inherited_by xs r (Some f) e q h k d l =
      let self : root ps r ≡ r = root_self ps r q in
      let is = values.made_stands forms n ps shapes found equations known inside types solves r f (ap (λ (j : ℕ). forms (up shapes j)) self ∙ e) in
      seen_at xs (get_or f.parts k d) (part_each (λ v. member xs v ≡ true) stands f.parts (subst (Each (λ v. member xs v ≡ true)) is h) k d l)

  inherited : (xs : List ℕ) → IsInherited forms ps shapes (seen xs)
  unfolding seen
  inherited xs r e =
      let b = both_true (up ps r == r) (within xs (stands r)) e in
      inherited_by xs r (forms (up shapes r)) refl (same_from (up ps r) r b.0) (within_each xs (stands r) b.1)

  -- what holds of each variable of the slots' types holds of the open classes that they reach
  pub opens_hold : (P : ℕ → Type 0) (nodes open_ : List ℕ) → AreOpens forms ps shapes nodes open_
      → All (λ i. Each P (values.stands forms n ps shapes found equations known inside types solves i)) nodes → All P open_
  unfolding seen stands
  opens_hold P nodes open_ o h k d l =
      let xs = vars_of stands nodes in
      let s = o.only (seen xs) (inherited xs) (λ j e i. seen_at xs (get_or nodes j e) (own_vars_of stands nodes j e i)) k d l in
      let r = get_or open_ k d in
      let b = both_true (up ps r == r) (within xs (stands r)) s in
      let is = values.root_stands forms n ps shapes found equations known inside types solves r (same_from (up ps r) r b.0, o.are_open k d l) in
      member_all P xs r (vars_of_hold P stands nodes h) (subst (Each (λ v. member xs v ≡ true)) is (within_each xs (stands r) b.1))

-- ---- classes that the same equations make stand for the same types

module _ (forms : ℕ → Option Form) (n : ℕ) (equations : List Equation) (inside : (i : ℕ) (f : Form) → forms i ≡ Some f → (i < n) × All (λ p. p < n) f.parts)
    (types : ℕ → Simple) (solves : IsSolution forms equations types) (ps shapes : List ℕ) (found : List Equation) (known : IsKnown forms n ps shapes found equations)
    (ps' shapes' : List ℕ) (found' : List Equation) (known' : IsKnown forms n ps' shapes' found' equations) where
  one : ℕ → Simple
  one = values.stands forms n ps shapes found equations known inside types solves

  other : ℕ → Simple
  other = values.stands forms n ps' shapes' found' equations known' inside types solves

  one_solves : IsSolution forms equations one
  unfolding one
  one_solves = (values.most_general forms n ps shapes found equations known inside types solves).solves

  other_solves : IsSolution forms equations other
  unfolding other
  other_solves = (values.most_general forms n ps' shapes' found' equations known' inside types solves).solves

  same_by : (v : ℕ) (t : Simple) → one v ≡ t → other v ≡ variable v → replaced other t ≡ variable v → one v ≡ variable v
  unfolding one other
  same_by v (variable w) e q r =
      let a : root ps v ≡ w = values.root_from forms n ps shapes found equations known inside types solves v w e in
      let b : root ps' w ≡ v = values.root_from forms n ps' shapes' found' equations known' inside types solves w v r in
      let c : root ps v ≤ v = root_low ps known.state.down v in
      let d : root ps' w ≤ w = root_low ps' known'.state.down w in
      let s : w ≡ v = omega arith in
      e ∙ ap variable s
  same_by v (made k ts) e q r = absurd (cc)

  same_open : (v : ℕ) → values.IsOpenRoot forms n ps' shapes' found' equations known' inside types solves v → one v ≡ variable v
  unfolding one other
  same_open v o =
      let q : other v ≡ variable v = values.root_stands forms n ps' shapes' found' equations known' inside types solves v o in
      same_by v (one v) refl q (sym (values.as_stands forms n ps shapes found equations known inside types solves other other_solves v) ∙ q)

  pub same_stands : (i : ℕ) → values.stands forms n ps shapes found equations known inside types solves i ≡ values.stands forms n ps' shapes' found' equations known' inside types solves i
  unfolding one other
  same_stands i =
      let e = values.as_stands forms n ps' shapes' found' equations known' inside types solves one one_solves i in
      e ∙ replaced_alike one variable (other i)
      (each_map (values.IsOpenRoot forms n ps' shapes' found' equations known' inside types solves) (λ v. one v ≡ variable v) (other i) same_open
      (values.each_open forms n ps' shapes' found' equations known' inside types solves i)) ∙ replaced_same (other i)
