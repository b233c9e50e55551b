-- Edges turned round one by one.
use Rattle.std.proofs.Common.{◌≡◌, inl, inr, ℕ, suc, ◌<◌, length, Some, None, refl, sym, ap, ap₂, ◌∙◌, subst, arith}
use Rattle.std.proofs.lemmas.Bool.{cases_eq}
use Rattle.lq_prover_congruence.specs.Classes.Forest.{edges_of, AreRooted, AreJoined, AreApart, IsLog, Follows, Writes, IsOfLink, Links}
use Rattle.lq_prover_congruence.specs.declared.classes.forest.Edge.{Edge}
use Rattle.lq_prover_congruence.specs.declared.classes.forest.Forest.{Forest}
use Rattle.lq_prover_congruence.proofs.ClassesLemmas.Heights.{height, path-height}
use Rattle.lq_prover_congruence.proofs.ClassesLemmas.Logs.{follows-on, follows-writes, log-writes, log-room}
use Rattle.lq_prover_congruence.proofs.ClassesLemmas.Trees.{Edges, Turns, turned-last, turned-on, AreNear, joined-itself}

-- the edge to be given to a term that has lost its own, or is to lose it
pub record IsTurning (s t : Forest) (step from to reason at : ℕ) (edge : Edge) : Type 0 where
  pub past : Follows step s t
  pub log : IsLog (suc step) (length t.toward.items) t.log.items
  pub rooted : AreRooted (edges_of t.toward.items)
  pub apart : AreApart (edges_of t.toward.items) at edge.to
  pub edges : (i : ℕ) (e : Edge) → edges_of t.toward.items i ≡ Some e → IsOfLink (edges_of s.toward.items) from to reason i e
  pub next : IsOfLink (edges_of s.toward.items) from to reason at edge
  pub near : (i j : ℕ) → AreJoined (edges_of s.toward.items) i j → AreNear (edges_of t.toward.items) at edge.to i j
  pub linked : AreNear (edges_of t.toward.items) at edge.to from to

pub turning-first : (s : Forest) (step from to reason : ℕ) (edge : Edge) → edge.to ≡ to → edge.reason ≡ reason → IsLog step (length s.toward.items) s.log.items → AreRooted (edges_of s.toward.items) → AreApart (edges_of s.toward.items) from to → IsTurning s s step from to reason from edge
turning-first s step from to reason edge e q log rooted apart =
    let f = edges_of s.toward.items in
    let m = length s.toward.items in
    let P : ℕ → Type 0 = λ y. AreApart f from y in
    let N : ℕ → Type 0 = λ y. AreNear f from y from to in
    record {
      past = λ k i l. refl;
      log = log-room step (suc step) m m s.log.items (omega arith) (omega arith) log;
      rooted = rooted;
      apart = subst P (sym e) apart;
      edges = λ i d h. inl h;
      next = inr (inr (inl (refl, e), q));
      near = λ i j h. inl h;
      linked = subst N (sym e) (inr (inl (joined-itself f rooted from, joined-itself f rooted to)));
    }

turns : (t u : Forest) (step at : ℕ) (edge : Edge) → Writes t u step at edge → (a : AreApart (edges_of t.toward.items) at edge.to) → Turns (edges_of t.toward.items) (edges_of u.toward.items) at edge a.0 a.1
turns t u step at edge w a = record { here = w.here; others = w.others; from = a.2; to = a.3; differ = a.4 }

-- each edge after a write
written : (s t u : Forest) (step from to reason at : ℕ) (edge : Edge) → IsTurning s t step from to reason at edge → Writes t u step at edge → (i : ℕ) (e : Edge) → edges_of u.toward.items i ≡ Some e → IsOfLink (edges_of s.toward.items) from to reason i e
written s t u step from to reason at edge h w i e q =
    elim (cases_eq i at) [
      | inl p ↦
          let P : ℕ → Type 0 = λ y. edges_of u.toward.items y ≡ Some e in
          let one : edge ≡ e = same-edge edge e (sym w.here ∙ subst P p q) in
          let Q : ℕ → Type 0 = λ y. IsOfLink (edges_of s.toward.items) from to reason y e in
          let R : Edge → Type 0 = λ d. IsOfLink (edges_of s.toward.items) from to reason at d in
          subst Q (sym p) (subst R one h.next)
      | inr d ↦ h.edges i e (sym (w.others i d) ∙ q)
    ]
  where
    same-edge : (d e : Edge) → Some d ≡ Some e → d ≡ e
    same-edge d e h = cc

abbrev an-edge : ℕ → ℕ → Edge
an-edge to reason = record { to = to; reason = reason }

-- an edge turned round
turned-link : (f : Edges) (from to reason at : ℕ) (was edge : Edge) → edge.to ≡ at → edge.reason ≡ was.reason → IsOfLink f from to reason at was → IsOfLink f from to reason was.to edge
turned-link f from to reason at was edge p q h =
    elim h [
      | inl old ↦ inr (inl (ap f p ∙ old ∙ ap Some (is was edge q)))
      | inr z ↦ elim z [
        | inl old ↦ inl (old ∙ ap Some (turned at was edge p q))
        | inr new ↦ inr (inr (
          elim new.0 [
            | inl e ↦ inr (e.1, p ∙ e.0)
            | inr e ↦ inl (e.1, p ∙ e.0)
          ],
          q ∙ new.1,
        ))
      ]
    ]
  where
    is : (was edge : Edge) → edge.reason ≡ was.reason → was ≡ record { to = was.to; reason = edge.reason }
    is was edge q = ap (λ r. an-edge was.to r) (sym q)

    turned : (at : ℕ) (was edge : Edge) → edge.to ≡ at → edge.reason ≡ was.reason → record { to = at; reason = was.reason } ≡ edge
    turned at was edge p q = ap₂ an-edge (sym p) (sym q)

pub record TurningOn (s t u : Forest) (step from to reason at : ℕ) (was edge : Edge) : Type 0 where
  pub turning : IsTurning s u step from to reason was.to edge
  pub smaller : height (length u.toward.items) (edges_of u.toward.items) was.to < height (length t.toward.items) (edges_of t.toward.items) at

pub turning-on : (s t u : Forest) (step from to reason at : ℕ) (edge was more : Edge) → IsTurning s t step from to reason at edge → Writes t u step at edge → edges_of t.toward.items at ≡ Some was → more.to ≡ at → more.reason ≡ was.reason → TurningOn s t u step from to reason at was more
turning-on s t u step from to reason at edge was more h w old p q =
    let f = edges_of t.toward.items in
    let g = edges_of u.toward.items in
    let o = turned-on f g at edge was h.apart.0 h.apart.1 (turns t u step at edge w h.apart) old h.rooted in
    let A : ℕ → Type 0 = λ y. AreApart g was.to y in
    let N : (i j : ℕ) → AreNear f at edge.to i j → AreNear g was.to more.to i j =
    (λ i j n. let P : ℕ → Type 0 = λ y. AreNear g was.to y i j in subst P (sym p) (o.near i j n)) in
    record {
      turning = record {
        past = follows-on step s t u h.past (follows-writes step t u at edge w);
        log = log-writes step t u at edge w h.log;
        rooted = o.rooted;
        apart = subst A (sym p) o.apart;
        edges = written s t u step from to reason at edge h w;
        next = turned-link (edges_of s.toward.items) from to reason at was more p q (h.edges at was old);
        near = λ i j n. N i j (h.near i j n);
        linked = N from to h.linked;
      };
      smaller = (let x = path-height u.toward.items o.steps was.to o.root o.after in let y = path-height t.toward.items (suc o.steps) at o.root o.before in omega arith);
    }

pub turning-done : (s t u : Forest) (step from to reason at : ℕ) (edge : Edge) → IsTurning s t step from to reason at edge → Writes t u step at edge → edges_of t.toward.items at ≡ None → Links s u from to reason
turning-done s t u step from to reason at edge h w none =
    let f = edges_of t.toward.items in
    let g = edges_of u.toward.items in
    let o = turned-last f g at edge h.apart.0 h.apart.1 (turns t u step at edge w h.apart) none h.rooted in
    record {
      rooted = o.rooted;
      edges = written s t u step from to reason at edge h w;
      joined = λ i j n. o.near i j (h.near i j n);
      linked = o.near from to h.linked;
    }
