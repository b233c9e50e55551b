-- Terms and their roots, where one term gets another edge.
use Rattle.std.proofs.Common.{◌≡◌, ◌≢◌, ◌⊎◌, inl, inr, ℕ, zero, suc, ◌<◌, Option, Some, None, refl, sym, ap, ◌∙◌, subst, arith}
use Rattle.std.proofs.lemmas.Bool.{cases_eq}
use Rattle.lq_prover_congruence.specs.Classes.Forest.{IsPath, IsRoot, AreRooted, AreJoined, AreApart}
use Rattle.lq_prover_congruence.specs.declared.classes.forest.Edge.{Edge}

abbrev pub Edges : Type 0
Edges = ℕ → Option Edge

no-edge : (e : Edge) → None ≡ Some e → ⊥
no-edge e h = cc

same-edge : (d e : Edge) → Some d ≡ Some e → d ≡ e
same-edge d e h = cc

-- a term has one root, and one way to it
pub one-path : (f : Edges) (k m i r s : ℕ) → IsPath f k i r → IsPath f m i s → (k ≡ m) × (r ≡ s)
one-path f zero zero i r s p q = (refl, sym p.0 ∙ q.0)
one-path f zero (suc m) i r s p q = absurd (no-edge q.0 (sym p.1 ∙ q.1))
one-path f (suc k) zero i r s p q = absurd (no-edge p.0 (sym q.1 ∙ p.1))
one-path f (suc k) (suc m) i r s p q =
    let e = same-edge q.0 p.0 (sym q.1 ∙ p.1) in
    let P : Edge → Type 0 = λ d. IsPath f m d.to s in
    let rest = one-path f k m p.0.to r s p.2 (subst P e q.2) in
    (ap suc rest.0, rest.1)

pub one-root : (f : Edges) (i r s : ℕ) → IsRoot f i r → IsRoot f i s → r ≡ s
one-root f i r s p q = (one-path f p.0 q.0 i r s p.1 q.1).1

-- edges that are the same
pub path-same : (f g : Edges) → ((i : ℕ) → g i ≡ f i) → (k i r : ℕ) → IsPath f k i r → IsPath g k i r
path-same f g h zero i r p = (p.0, h i ∙ p.1)
path-same f g h (suc k) i r p = (p.0, h i ∙ p.1, path-same f g h k p.0.to r p.2)

pub rooted-same : (f g : Edges) → ((i : ℕ) → g i ≡ f i) → AreRooted f → AreRooted g
rooted-same f g h p i = let r = p i in (r.0, (r.1.0, path-same f g h r.1.0 i r.0 r.1.1))

pub joined-same : (f g : Edges) → ((i : ℕ) → g i ≡ f i) → (i j : ℕ) → AreJoined f i j → AreJoined g i j
joined-same f g h i j p = (p.0, (p.1.0, path-same f g h p.1.0 i p.0 p.1.1), (p.2.0, path-same f g h p.2.0 j p.0 p.2.1))

-- two terms are joined by their roots
pub joined-turned : (f : Edges) (i j : ℕ) → AreJoined f i j → AreJoined f j i
joined-turned f i j p = (p.0, p.2, p.1)

pub joined-onward : (f : Edges) (i j k : ℕ) → AreJoined f i j → AreJoined f j k → AreJoined f i k
joined-onward f i j k p q =
    let e = one-root f j q.0 p.0 q.1 p.2 in
    let P : ℕ → Type 0 = λ r. IsRoot f k r in
    (p.0, p.1, subst P e q.2)

pub joined-itself : (f : Edges) → AreRooted f → (i : ℕ) → AreJoined f i i
joined-itself f h i = let r = h i in (r.0, r.1, r.1)

-- ---- one term gets an edge into another tree

-- the edges before and after, with the roots of the term and of the one that its new edge leads to
pub record Turns (f g : Edges) (x : ℕ) (e : Edge) (o s : ℕ) : Type 0 where
  pub here : g x ≡ Some e
  pub others : (i : ℕ) → i ≢ x → g i ≡ f i
  pub from : IsRoot f x o
  pub to : IsRoot f e.to s
  pub differ : o ≢ s

-- what doesn't lead through the term stays
off : (f : Edges) (x m o k i r : ℕ) → IsPath f m x o → (r ≡ o → ⊥) ⊎ (k < m) → IsPath f k i r → i ≡ x → ⊥
off f x m o k i r from far p e =
    let P : ℕ → Type 0 = λ y. IsPath f k y r in
    let one = one-path f k m x r o (subst P e p) from in
    elim far [ inl d ↦ d one.1 | inr l ↦ absurd (let z = one.0 in omega arith) ]

past-path : (f g : Edges) (x m o : ℕ) → ((i : ℕ) → i ≢ x → g i ≡ f i) → IsPath f m x o → (k i r : ℕ) → (r ≡ o → ⊥) ⊎ (k < m) → IsPath f k i r → IsPath g k i r
past-path f g x m o h from zero i r far p = (p.0, h i (off f x m o zero i r from far p) ∙ p.1)
past-path f g x m o h from (suc k) i r far p =
    (p.0, h i (off f x m o (suc k) i r from far p) ∙ p.1, past-path f g x m o h from k p.0.to r (elim far [ inl d ↦ inl d | inr l ↦ inr (omega arith) ]) p.2)

-- a root that isn't the term's stays
pub root-stays : (f g : Edges) (x : ℕ) (e : Edge) (o s : ℕ) → Turns f g x e o s → (i r : ℕ) → (r ≡ o → ⊥) → IsRoot f i r → IsRoot g i r
root-stays f g x e o s t i r d p = (p.0, past-path f g x t.from.0 o t.others t.from.1 p.0 i r (inl d) p.1)

pub root-here : (f g : Edges) (x : ℕ) (e : Edge) (o s : ℕ) → Turns f g x e o s → IsRoot g x s
root-here f g x e o s t =
    let p = root-stays f g x e o s t e.to s (λ q. t.differ (sym q)) t.to in
    (suc p.0, (e, t.here, p.1))

-- a term with the term's root keeps it, or gets that of the other tree
at-term : (f g : Edges) (x : ℕ) (e : Edge) (o s : ℕ) → Turns f g x e o s → (i : ℕ) → i ≡ x → IsRoot g i s
at-term f g x e o s t i q = let P : ℕ → Type 0 = λ y. IsRoot g y s in subst P (sym q) (root-here f g x e o s t)

moved-path : (f g : Edges) (x : ℕ) (e : Edge) (o s : ℕ) → Turns f g x e o s → (k i : ℕ) → IsPath f k i o → IsRoot g i o ⊎ IsRoot g i s
moved-path f g x e o s t zero i p =
    elim (cases_eq i x) [
      | inl q ↦ inr (at-term f g x e o s t i q)
      | inr d ↦ inl (0, (p.0, t.others i d ∙ p.1))
    ]
moved-path f g x e o s t (suc k) i p =
    let rest = moved-path f g x e o s t k p.0.to p.2 in
    elim (cases_eq i x) [
      | inl q ↦ inr (at-term f g x e o s t i q)
      | inr d ↦ elim rest [
        | inl r ↦ inl (suc r.0, (p.0, t.others i d ∙ p.1, r.1))
        | inr r ↦ inr (suc r.0, (p.0, t.others i d ∙ p.1, r.1))
      ]
    ]

-- where the term was the root itself, all get that of the other tree
all-path : (f g : Edges) (x : ℕ) (e : Edge) (o s : ℕ) → Turns f g x e o s → o ≡ x → (k i : ℕ) → IsPath f k i o → IsRoot g i s
all-path f g x e o s t w zero i p = at-term f g x e o s t i (p.0 ∙ w)
all-path f g x e o s t w (suc k) i p =
    let r = all-path f g x e o s t w k p.0.to p.2 in
    elim (cases_eq i x) [
      | inl q ↦ at-term f g x e o s t i q
      | inr d ↦ (suc r.0, (p.0, t.others i d ∙ p.1, r.1))
    ]

-- what was one tree, or will be once the term that has lost its edge is joined again
abbrev pub AreNear : Edges → ℕ → ℕ → ℕ → ℕ → Type 0
AreNear f x y i j = AreJoined f i j ⊎ ((AreJoined f i x × AreJoined f y j) ⊎ (AreJoined f i y × AreJoined f x j))

pub record Turned (f g : Edges) (x y : ℕ) : Type 0 where
  pub rooted : AreRooted g
  pub near : (i j : ℕ) → AreNear f x y i j → AreJoined g i j

abbrev OneOf : Edges → ℕ → ℕ → ℕ → Type 0
OneOf g i o s = IsRoot g i o ⊎ IsRoot g i s

pub turns-rooted : (f g : Edges) (x : ℕ) (e : Edge) (o s : ℕ) → Turns f g x e o s → AreRooted f → AreRooted g
turns-rooted f g x e o s t h i =
    let r = h i in
    elim (cases_eq r.0 o) [
      | inl q ↦
          let P : ℕ → Type 0 = λ y. IsPath f r.1.0 i y in
          elim (moved-path f g x e o s t r.1.0 i (subst P q r.1.1)) [ inl z ↦ (o, z) | inr z ↦ (s, z) ]
      | inr d ↦ (r.0, root-stays f g x e o s t i r.0 d r.1)
    ]

-- the last edge: the term was the root of its tree
pub turned-last : (f g : Edges) (x : ℕ) (e : Edge) (o s : ℕ) → Turns f g x e o s → f x ≡ None → AreRooted f → Turned f g x e.to
turned-last f g x e o s t none h =
    let w : o ≡ x = one-root f x o x t.from (0, (refl, none)) in
    let all : (i : ℕ) → IsRoot f i o → IsRoot g i s = λ i p. all-path f g x e o s t w p.0 i p.1 in
    let stays : (i : ℕ) → IsRoot f i s → IsRoot g i s = λ i p. root-stays f g x e o s t i s (λ q. t.differ (sym q)) p in
    let at_x : (i : ℕ) → AreJoined f i x → IsRoot g i s = λ i p. (let P : ℕ → Type 0 = λ r. IsRoot f i r in all i (subst P (one-root f x p.0 o p.2 t.from) p.1)) in
    let at_y : (i : ℕ) → AreJoined f i e.to → IsRoot g i s = λ i p. (let P : ℕ → Type 0 = λ r. IsRoot f i r in stays i (subst P (one-root f e.to p.0 s p.2 t.to) p.1)) in
    record {
      rooted = turns-rooted f g x e o s t h;
      near = λ i j n. elim n [
        | inl p ↦ elim (cases_eq p.0 o) [
          | inl q ↦ (let P : ℕ → Type 0 = λ r. IsRoot f i r in let Q : ℕ → Type 0 = λ r. IsRoot f j r in (s, all i (subst P q p.1), all j (subst Q q p.2)))
          | inr d ↦ (p.0, root-stays f g x e o s t i p.0 d p.1, root-stays f g x e o s t j p.0 d p.2)
        ]
        | inr z ↦ elim z [
          | inl p ↦ (s, at_x i p.0, at_y j (joined-turned f e.to j p.1))
          | inr p ↦ (s, at_y i p.0, at_x j (joined-turned f x j p.1))
        ]
      ];
    }

-- an edge in between: the term's old edge is still to be turned round
pub record TurnsOn (f g : Edges) (x : ℕ) (e : Edge) (was : Edge) : Type 0 where
  pub rooted : AreRooted g
  pub apart : AreApart g was.to x
  pub near : (i j : ℕ) → AreNear f x e.to i j → AreNear g was.to x i j
  pub steps : ℕ
  pub root : ℕ
  pub before : IsPath f (suc steps) x root
  pub after : IsPath g steps was.to root

pub turned-on : (f g : Edges) (x : ℕ) (e was : Edge) (o s : ℕ) → Turns f g x e o s → f x ≡ Some was → AreRooted f → TurnsOn f g x e was
turned-on f g x e was o s t some h =
    let a = h was.to in
    let from : IsPath f (suc a.1.0) x a.0 = (was, some, a.1.1) in
    let one = one-path f (suc a.1.0) t.from.0 x a.0 o from t.from.1 in
    let was_root : IsRoot g was.to o =
    (let P : ℕ → Type 0 = λ r. IsRoot g was.to r in subst P one.1 (a.1.0, past-path f g x (suc a.1.0) a.0 t.others from a.1.0 was.to a.0 (inr (omega arith)) a.1.1)) in
    let here = root-here f g x e o s t in
    let from_o : (i : ℕ) → IsRoot f i o → OneOf g i o s = λ i p. moved-path f g x e o s t p.0 i p.1 in
    let stays : (i : ℕ) → IsRoot f i s → IsRoot g i s = λ i p. root-stays f g x e o s t i s (λ q. t.differ (sym q)) p in
    let at_x : (i : ℕ) → AreJoined f i x → OneOf g i o s = λ i p. (let P : ℕ → Type 0 = λ r. IsRoot f i r in from_o i (subst P (one-root f x p.0 o p.2 t.from) p.1)) in
    let at_y : (i : ℕ) → AreJoined f i e.to → IsRoot g i s = λ i p. (let P : ℕ → Type 0 = λ r. IsRoot f i r in stays i (subst P (one-root f e.to p.0 s p.2 t.to) p.1)) in
    let both : (i j : ℕ) → OneOf g i o s → OneOf g j o s → AreNear g was.to x i j =
    (λ i j p q. elim p [
      | inl u ↦ elim q [ inl v ↦ inl (o, u, v) | inr v ↦ inr (inl ((o, u, was_root), (s, here, v))) ]
      | inr u ↦ elim q [ inl v ↦ inr (inr ((s, u, here), (o, was_root, v))) | inr v ↦ inl (s, u, v) ]
    ]) in
    record {
      rooted = turns-rooted f g x e o s t h;
      apart = (o, s, was_root, here, t.differ);
      near = λ i j n. elim n [
        | inl p ↦ elim (cases_eq p.0 o) [
          | inl q ↦ (let P : ℕ → Type 0 = λ r. IsRoot f i r in let Q : ℕ → Type 0 = λ r. IsRoot f j r in both i j (from_o i (subst P q p.1)) (from_o j (subst Q q p.2)))
          | inr d ↦ inl (p.0, root-stays f g x e o s t i p.0 d p.1, root-stays f g x e o s t j p.0 d p.2)
        ]
        | inr z ↦ elim z [
          | inl p ↦ both i j (at_x i p.0) (inr (at_y j (joined-turned f e.to j p.1)))
          | inr p ↦ both i j (inr (at_y i p.0)) (at_x j (joined-turned f x j p.1))
        ]
      ];
      steps = a.1.0;
      root = a.0;
      before = from;
      after = past-path f g x (suc a.1.0) a.0 t.others from a.1.0 was.to a.0 (inr (omega arith)) a.1.1;
    }
