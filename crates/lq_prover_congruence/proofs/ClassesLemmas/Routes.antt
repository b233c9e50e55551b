-- Climbs to roots, and ways put together from two of them.
use Rattle.std.proofs.Common.{◌≡◌, inl, inr, ℕ, zero, suc, ◌+◌, ◌<◌, List, [], ◌∷◌, ◌++◌, length, drop, get_or, Some, None, refl, sym, ap, ap₂, ◌∙◌, subst, arith}
use Rattle.lq_prover_congruence.specs.Classes.Ways.{IsClimb, IsEdge, IsWay, Meets}
use Rattle.lq_prover_congruence.specs.declared.classes.forest.Edge.{Edge}
use Rattle.lq_prover_congruence.specs.declared.classes.tracing.Hop.{Hop}
use Rattle.lq_prover_congruence.specs.Classes.Forest.{IsRoot, AreJoined}
use Rattle.lq_prover_congruence.proofs.ClassesLemmas.Trees.{Edges, one-root}

-- an edge more
pub climb-more : (f : Edges) (a : ℕ) (hs : List Hop) (m : ℕ) (e : Edge) → IsClimb f a hs m → f m ≡ Some e → IsClimb f a (hs ++ record { term = m; reason = e.reason } ∷ []) e.to
climb-more f a [] m e c q = (sym c, e, (let P : ℕ → Type 0 = λ i. f i ≡ Some e in subst P (sym c) q), refl, refl)
climb-more f a (h ∷ hs) m e c q = (c.0, c.1, c.2, c.3, climb-more f c.1.to hs m e c.4 q)

-- the last edge taken off
pub climb-front : (f : Edges) (a : ℕ) (hs : List Hop) (h : Hop) (m : ℕ) → IsClimb f a (hs ++ h ∷ []) m → IsClimb f a hs h.term × ((e : Edge) × (f h.term ≡ Some e) × (e.reason ≡ h.reason) × (e.to ≡ m))
climb-front f a [] h m c = (sym c.0, (c.1, (let P : ℕ → Type 0 = λ i. f i ≡ Some c.1 in subst P (sym c.0) c.2), c.3, c.4))
climb-front f a (g ∷ hs) h m c = let r = climb-front f c.1.to hs h m c.4 in ((c.0, c.1, c.2, c.3, r.0), r.1)

pub meets-front : (f : Edges) (a b : ℕ) (xs ys : List Hop) (h : Hop) → Meets f a (xs ++ h ∷ []) b (ys ++ h ∷ []) → Meets f a xs b ys
meets-front f a b xs ys h m = (h.term, (climb-front f a xs h m.0 m.1).0, (climb-front f b ys h m.0 m.2).0)

-- ---- ways

pub way-more : (f : Edges) (a m b : ℕ) (rs : List ℕ) (r : ℕ) → IsWay f a m rs → IsEdge f m b r → IsWay f a b (rs ++ r ∷ [])
way-more f a m b [] r w e = (b, (let P : ℕ → Type 0 = λ i. IsEdge f i b r in subst P (sym w) e), refl)
way-more f a m b (x ∷ rs) r w e = (w.0, w.1, way-more f w.0 m b rs r w.2 e)

abbrev an-edge : ℕ → ℕ → Edge
an-edge to reason = record { to = to; reason = reason }

edge-is : (e : Edge) (to reason : ℕ) → e.to ≡ to → e.reason ≡ reason → e ≡ record { to = to; reason = reason }
edge-is e to reason p q = ap₂ an-edge p q

-- down by the last edge of a climb
pub way-down : (f : Edges) (a b m : ℕ) (hs : List Hop) (h : Hop) (rs : List ℕ) → IsClimb f b (hs ++ h ∷ []) m → IsWay f a m rs → IsClimb f b hs h.term × IsWay f a h.term (rs ++ h.reason ∷ [])
way-down f a b m hs h rs c w =
    let r = climb-front f b hs h m c in
    let e = r.1 in
    (r.0, way-more f a m h.term rs h.reason w (inr (e.1 ∙ ap Some (edge-is e.0 m h.reason e.3 e.2))))

-- up by the first edge of what is left of a climb
drop-step : (hs : List Hop) (n : ℕ) (d : Hop) → n < length hs → drop n hs ≡ get_or hs n d ∷ drop (n + 1) hs
drop-step [] n d l = absurd (omega arith)
drop-step (h ∷ hs) zero d l = refl
drop-step (h ∷ hs) (suc n) d l =
    let e : suc (n + 1) ≡ suc n + 1 = omega arith in
    drop-step hs n d (omega arith) ∙ ap (λ m. get_or hs n d ∷ drop m (h ∷ hs)) e

-- a way so far, with what is left to be climbed up and down
pub record Climbing (f : Edges) (a b : ℕ) (rs : List ℕ) (up down : List Hop) : Type 0 where
  pub at : ℕ
  pub top : ℕ
  pub way : IsWay f a at rs
  pub rest : IsClimb f at up top
  pub other : IsClimb f b down top

pub climbing-first : (f : Edges) (a b : ℕ) (up down : List Hop) → Meets f a up b down → Climbing f a b [] up down
climbing-first f a b up down m = record { at = a; top = m.0; way = refl; rest = m.1; other = m.2 }

pub climbing-up : (f : Edges) (a b : ℕ) (rs more : List ℕ) (up down : List Hop) (n : ℕ) (d : Hop) → n < length up → Climbing f a b rs (drop n up) down → more ≡ rs ++ (get_or up n d).reason ∷ [] → Climbing f a b more (drop (n + 1) up) down
climbing-up f a b rs more up down n d l c q =
    let h = get_or up n d in
    let P : List Hop → Type 0 = λ hs. IsClimb f c.at hs c.top in
    let r = subst P (drop-step up n d l) c.rest in
    let e = r.1 in
    let here : IsEdge f c.at e.to h.reason = inl (r.2 ∙ ap Some (edge-is e e.to h.reason refl r.3)) in
    let Q : List ℕ → Type 0 = λ ss. IsWay f a e.to ss in
    record { at = e.to; top = c.top; way = subst Q (sym q) (way-more f a c.at e.to rs h.reason c.way here); rest = r.4; other = c.other }

pub climbing-down : (f : Edges) (a b : ℕ) (rs more : List ℕ) (down less : List Hop) (h : Hop) → Climbing f a b rs [] down → down ≡ less ++ h ∷ [] → more ≡ rs ++ h.reason ∷ [] → Climbing f a b more [] less
climbing-down f a b rs more down less h c e q =
    let P : List Hop → Type 0 = λ hs. IsClimb f b hs c.top in
    let W : ℕ → Type 0 = λ i. IsWay f a i rs in
    let r = way-down f a b c.top less h rs (subst P e c.other) (subst W c.rest c.way) in
    let Q : List ℕ → Type 0 = λ ss. IsWay f a h.term ss in
    record { at = h.term; top = h.term; way = subst Q (sym q) r.1; rest = refl; other = r.0 }

-- where the climbs end at the roots of one tree
climb-root : (f : Edges) (i : ℕ) (hs : List Hop) (r : ℕ) → IsClimb f i hs r → f r ≡ None → IsRoot f i r
climb-root f i [] r c n = let P : ℕ → Type 0 = λ j. f j ≡ None in (0, (c, subst P (sym c) n))
climb-root f i (h ∷ hs) r c n = let rest = climb-root f c.1.to hs r c.4 n in (suc rest.0, (c.1, c.2, rest.1))

pub climbs-meet : (f : Edges) (a b : ℕ) (xs ys : List Hop) (r s : ℕ) → AreJoined f a b → IsClimb f a xs r → f r ≡ None → IsClimb f b ys s → f s ≡ None → Meets f a xs b ys
climbs-meet f a b xs ys r s j c n d m =
    let p = one-root f a j.0 r j.1 (climb-root f a xs r c n) in
    let q = one-root f b j.0 s j.2 (climb-root f b ys s d m) in
    let P : ℕ → Type 0 = λ i. IsClimb f b ys i in
    (r, c, subst P (sym q ∙ p) d)
