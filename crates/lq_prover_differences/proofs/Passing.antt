-- The steps of a pass keep what `IsPass` says.
use Rattle.std.proofs.Common.{◌≡◌, ◌≢◌, ℕ, suc, zero, ◌+◌, ◌≤◌, ◌<◌, refl, sym, ap, subst, ◌∙◌, arith, List, [], ◌∷◌, ◌++◌, ◌-◌, sum_by, get_or, length-append, Option, Some, None, IfSome, slice_get, ◌⊎◌, inl, inr, length}
use Rattle.std.proofs.Math.IntN.{ℤ, pos, ◌+ℤ◌, ◌-ℤ◌}
use Rattle.std.specs.Int.Signed.{◌≤ℤ◌, ◌<ℤ◌}
use Rattle.std.proofs.lemmas.Int.{ints}
use Rattle.std.proofs.lemmas.Bool.{cases_lt}
use Rattle.std.proofs.lemmas.Option.{slice_get_within, get_or_from_slice_get}
use borrow.Author.Differences.{up, down}
use Rattle.std.proofs.lemmas.List.Sums.{sum_by-set, sum_by-cons}
use Rattle.std.proofs.lemmas.List.{get_or-set_same, get_or-set_other}
use Rattle.std.proofs.Math.ListN.{set}
use Rattle.lq_prover_differences.specs.Climb.{parts}
use Rattle.lq_prover_differences.specs.declared.arc.Arc.{Arc}
use Rattle.lq_prover_differences.specs.declared.vertex.Vertex.{Vertex}
use Rattle.lq_prover_differences.specs.Arcs.{Potentials, ArcHolds, Meets}
use Rattle.lq_prover_differences.specs.Links.{IsLatest}
use Rattle.lq_prover_differences.specs.Passes.{blank, vertex_at, AtRest, values, nexts, IsCaused, IsPass, IsLeast, NoneFalls, Falls, IsSized, IsNext, order_at, IsNarrow, IsStuck, IsClosing}
use Rattle.std.proofs.Common.{FitsSigned, ◌^◌}
use Rattle.std.specs.Int.{w128}
use Rattle.lq_prover_differences.proofs.Numbers.{large_offer}

-- every element but those in `some` cases
pub each : {A : Type 0} (xs : List A) (P : ℕ → A → Type 0) → ((k : ℕ) (a : A) → slice_get xs k ≡ Some a → P k a) → (k : ℕ) → IfSome (slice_get xs k) (P k)
each {A} xs P h k = by (slice_get xs k) refl
  where
    by : (o : Option A) → slice_get xs k ≡ o → IfSome o (P k)
    by None e = tt
    by (Some a) e = h k a e

pub there : {A : Type 0} (xs : List A) (P : A → Type 0) (k : ℕ) (a : A) → slice_get xs k ≡ Some a → IfSome (slice_get xs k) P → P a
there xs P k a e h = subst (λ o. IfSome o P) e h

-- the elements of a list with one more at its end
pub at_end : {A : Type 0} (xs : List A) (x : A) → slice_get (xs ++ x ∷ []) (length xs) ≡ Some x
at_end [] x = refl
at_end (y ∷ xs) x = at_end xs x

pub at_or_end : {A : Type 0} (xs : List A) (x : A) (k : ℕ) (a : A) → slice_get (xs ++ x ∷ []) k ≡ Some a → (slice_get xs k ≡ Some a) ⊎ (a ≡ x)
at_or_end [] x zero a e = inr (cc)
at_or_end [] x (suc k) a e = absurd (cc)
at_or_end (y ∷ xs) x zero a e = inl e
at_or_end (y ∷ xs) x (suc k) a e = at_or_end xs x k a e

pub at_front : {A : Type 0} (xs : List A) (x : A) (k : ℕ) (a : A) → slice_get xs k ≡ Some a → slice_get (xs ++ x ∷ []) k ≡ Some a
at_front [] x k a e = absurd (cc)
at_front (y ∷ xs) x zero a e = e
at_front (y ∷ xs) x (suc k) a e = at_front xs x k a e

-- one vertex is settled
pub record Settles (order later : ℕ → ℕ) (v count : ℕ) : Type 0 where
  pub here : later v ≡ count + 1
  pub others : (t : ℕ) → t ≢ v → later t ≡ order t

apart : (order : ℕ → ℕ) (u v : ℕ) → 0 < order u → order v ≡ 0 → u ≢ v
apart order u v h k e = let f : order u ≡ order v = ap order e in omega arith

pub same_or : (u v : ℕ) {P : Type 0} → (u ≡ v → P) → (u ≢ v → P) → P
same_or u v {P} f g =
    elim (cases_lt u v) [
      | inl h ↦ g (λ e. omega arith)
      | inr h ↦ elim (cases_lt v u) [ inl k ↦ g (λ e. omega arith) | inr k ↦ f (omega arith) ]
    ]

pub settle_step : (arcs : List Arc) (top gap : ℕ) (s : ℕ → Vertex) (order later : ℕ → ℕ) (count v i : ℕ)
    → IsPass arcs top gap s order count top i → IsLeast s order v → Settles order later v count → IsPass arcs top gap s later (count + 1) v (length arcs)
settle_step arcs top gap s order later count v i pass least set = record {
  fell = pass.fell;
  near = pass.near;
  most = pass.most;
  top_stays = pass.top_stays;
  top_out = set.others top top_apart ∙ pass.top_out;
  held = pass.held;
  caused = λ t f. caused t (pass.caused t f);
  counted = λ t. same_or t v (λ e. let f : later t ≡ later v = ap later e in omega (arith, set.here)) (λ n. omega (arith, set.others t n, pass.counted t));
  lowered = λ t h. same_or t v (λ e. subst (λ w. nexts s w <ℤ values s w) (sym e) least.falls) (λ n. pass.lowered t (omega (arith, set.others t n)));
  sooner = λ u t h z. same_or u v
      (λ e. subst (λ w. (nexts s w +ℤ values s t) ≤ℤ (nexts s t +ℤ values s w)) (sym e) (least.least t (was_out t z)))
      (λ n. pass.sooner u t (omega (arith, set.others u n)) (was_out t z));
  latest = λ h t k. same_or t v (λ e. subst (λ w. (nexts s w +ℤ values s v) ≤ℤ (nexts s v +ℤ values s w)) (sym e) (self (nexts s v) (values s v)))
      (λ n. pass.sooner t v (omega (arith, set.others t n)) least.unsettled);
  done = each arcs (λ k a. 0 < later a.from → (a.from ≡ v → length arcs ≤ k) → ArcHolds (nexts s) a) (λ k a e h g.
      let n : a.from ≢ v = (λ f. let z = g f in let l = slice_get_within arcs k a e in omega arith) in
      there arcs _ k a e (pass.done k) (omega (arith, set.others a.from n)) (λ f. absurd (let z : order a.from ≡ order top = ap order f in omega (arith, pass.top_out, set.others a.from n))));
}
  where
    self : (a b : ℤ) → (a +ℤ b) ≤ℤ (a +ℤ b)
    self a b = omega (arith, ints)

    top_apart : top ≢ v
    top_apart e = let f : nexts s v <ℤ values s v = least.falls in
        let g : nexts s v ≡ values s v = subst (λ w. nexts s w ≡ values s w) e pass.top_stays in absurd (omega (arith, ints))

    was_out : (t : ℕ) → later t ≡ 0 → order t ≡ 0
    was_out t z = same_or t v (λ e. absurd (let f : later t ≡ later v = ap later e in omega (arith, set.here))) (λ n. sym (set.others t n) ∙ z)

    caused : (t : ℕ) → IsCaused arcs top s order t → IsCaused arcs top s later t
    caused t c = record { arc = c.arc; found = c.found; to = c.to; tight = c.tight; source = source c.source }
      where
        settled : 0 < order c.arc.from → ((order t ≡ 0) ⊎ (order c.arc.from < order t)) → (0 < later c.arc.from) × ((later t ≡ 0) ⊎ (later c.arc.from < later t))
        settled h g =
            let n : c.arc.from ≢ v = apart order c.arc.from v h least.unsettled in
            let o : later c.arc.from ≡ order c.arc.from = set.others c.arc.from n in (
              omega arith,
              same_or t v
                  (λ e. inr (let f : later t ≡ later v = ap later e in omega (arith, set.here, pass.counted c.arc.from)))
                  (λ m. elim g [
                    | inl z ↦ inl (set.others t m ∙ z)
                    | inr l ↦ inr (omega (arith, set.others t m))
                  ]),
            )

        source : ((c.arc.from ≡ top) ⊎ ((0 < order c.arc.from) × ((order t ≡ 0) ⊎ (order c.arc.from < order t))))
            → (c.arc.from ≡ top) ⊎ ((0 < later c.arc.from) × ((later t ≡ 0) ⊎ (later c.arc.from < later t)))
        source (inl e) = inl e
        source (inr h) = inr (settled h.0 h.1)

-- an arc whose offer changes nothing
pub offer_kept : (arcs : List Arc) (top gap : ℕ) (s : ℕ → Vertex) (order : ℕ → ℕ) (count v i : ℕ) (a : Arc)
    → IsPass arcs top gap s order count v (suc i) → slice_get arcs i ≡ Some a → ((a.from ≡ v) → ArcHolds (nexts s) a)
    → IsPass arcs top gap s order count v i
offer_kept arcs top gap s order count v i a pass at h = record {
  fell = pass.fell;
  near = pass.near;
  most = pass.most;
  top_stays = pass.top_stays;
  top_out = pass.top_out;
  held = pass.held;
  caused = pass.caused;
  counted = pass.counted;
  lowered = pass.lowered;
  sooner = pass.sooner;
  latest = pass.latest;
  done = each arcs (λ k b. 0 < order b.from → (b.from ≡ v → i ≤ k) → ArcHolds (nexts s) b) (λ k b e o g.
      elim (cases_lt i k) [
        | inl l ↦ there arcs _ k b e (pass.done k) o (λ f. l)
        | inr l ↦ same_or b.from v
            (λ f. let ki : k ≡ i = (let z = g f in omega arith) in
            let same : Some a ≡ Some b = sym at ∙ ap (λ j. slice_get arcs j) (sym ki) ∙ e in
            let ab : a ≡ b = cc in
            subst (λ c. ArcHolds (nexts s) c) ab (h (ap (λ c. c.from) ab ∙ f)))
            (λ n. there arcs _ k b e (pass.done k) o (λ f. absurd (n f)))
      ]);
}

-- no arc from the vertex stands between
pub offers_skip : (arcs : List Arc) (top gap : ℕ) (s : ℕ → Vertex) (order : ℕ → ℕ) (count v n m : ℕ)
    → IsPass arcs top gap s order count v n → IsLatest arcs v n m → IsPass arcs top gap s order count v m
offers_skip arcs top gap s order count v n m pass latest = record {
  fell = pass.fell;
  near = pass.near;
  most = pass.most;
  top_stays = pass.top_stays;
  top_out = pass.top_out;
  held = pass.held;
  caused = pass.caused;
  counted = pass.counted;
  lowered = pass.lowered;
  sooner = pass.sooner;
  latest = pass.latest;
  done = each arcs (λ k b. 0 < order b.from → (b.from ≡ v → m ≤ k) → ArcHolds (nexts s) b) (λ k b e o g.
      there arcs _ k b e (pass.done k) o (λ f. elim (cases_lt k n) [
        | inl l ↦ absurd (there arcs (λ (a : Arc). a.from ≢ v) k b e (latest.none k (g f) l) f)
        | inr l ↦ l
      ]));
}

-- to a vertex that is settled no arc offers less
pub settled_holds : (arcs : List Arc) (top gap : ℕ) (s : ℕ → Vertex) (order : ℕ → ℕ) (count v i upto : ℕ) (a : Arc)
    → IsPass arcs top gap s order count v upto → slice_get arcs i ≡ Some a → a.from ≡ v → 0 < order v → 0 < order a.to → ArcHolds (nexts s) a
settled_holds arcs top gap s order count v i upto a pass at from o t =
    elim (there arcs _ i a at (pass.held i)) [
      | inl h ↦ glue _ _ _ _ _ (subst (λ w. values s a.to ≤ℤ (values s w +ℤ a.cost)) from h) (pass.latest o a.to t)
          (ap (nexts s) from)
      | inr h ↦ h.1
    ]
  where
    glue : (nt nv vt vv c : ℤ) → vt ≤ℤ (vv +ℤ c) → (nt +ℤ vv) ≤ℤ (nv +ℤ vt) → nexts s a.from ≡ nv → nt ≤ℤ (nexts s a.from +ℤ c)
    glue nt nv vt vv c h k e = omega (arith, ints)

pub offer_falls : (arcs : List Arc) (top gap : ℕ) (s t : ℕ → Vertex) (order : ℕ → ℕ) (count v i : ℕ) (a : Arc) (offer : ℤ)
    → IsPass arcs top gap s order count v (suc i) → slice_get arcs i ≡ Some a → a.from ≡ v → 0 < order v → order a.to ≡ 0 → a.to ≢ top
    → offer ≡ nexts s v +ℤ a.cost → offer <ℤ nexts s a.to → Falls s t a.to i offer → IsPass arcs top gap t order count v i
offer_falls arcs top gap s t order count v i a offer pass at from o out below is less change = record {
  fell = λ u. same_or u a.to
      (λ e. subst (λ w. nexts t w ≤ℤ values t w) (sym e) fell_here)
      (λ n. subst (λ x. nexts t u ≤ℤ x) (sym (change.kept u)) (subst (λ x. x ≤ℤ values s u) (sym (other u n)) (pass.fell u)));
  near = λ u. same_or u a.to
      (λ e. subst (λ w. values t w ≤ℤ (nexts t w +ℤ pos gap)) (sym e) near_here)
      (λ n. subst (λ x. x ≤ℤ (nexts t u +ℤ pos gap)) (sym (change.kept u)) (subst (λ x. values s u ≤ℤ (x +ℤ pos gap)) (sym (other u n)) (pass.near u)));
  most = λ q m h u. same_or u a.to
      (λ e. subst (λ w. q w ≤ℤ nexts t w) (sym e) (most_here q m (λ w. subst (λ x. q w ≤ℤ x) (change.kept w) (h w))))
      (λ n. subst (λ x. q u ≤ℤ x) (sym (other u n)) (pass.most q m (λ w. subst (λ x. q w ≤ℤ x) (change.kept w) (h w)) u));
  top_stays = other top (λ e. below (sym e)) ∙ pass.top_stays ∙ sym (change.kept top);
  top_out = pass.top_out;
  held = each arcs (λ k b. ArcHolds (values t) b ⊎ ((b.from ≡ top) × ArcHolds (nexts t) b)) (λ k b e. held b (there arcs _ k b e (pass.held k)));
  caused = λ u l. same_or u a.to
      (λ e. subst (λ w. IsCaused arcs top t order w) (sym e) caused_here)
      (λ n. caused u n (pass.caused u (cast_less (nexts t u) (values t u) (nexts s u) (values s u) (other u n) (change.kept u) l)));
  counted = pass.counted;
  lowered = λ u h. let n = unsettled_apart u h in
      cast_less (nexts s u) (values s u) (nexts t u) (values t u) (sym (other u n)) (sym (change.kept u)) (pass.lowered u h);
  sooner = λ u w h z. same_or w a.to
      (λ e. subst (λ x. (nexts t u +ℤ values t x) ≤ℤ (nexts t x +ℤ values t u)) (sym e) (sooner_here u h))
      (λ n. sums _ _ _ _ _ _ _ _ (other u (unsettled_apart u h)) (change.kept w) (other w n) (change.kept u) (pass.sooner u w h z));
  latest = λ h u k. sums _ _ _ _ _ _ _ _ (other u (unsettled_apart u k)) (change.kept v) (other v (unsettled_apart v h)) (change.kept u) (pass.latest h u k);
  done = each arcs (λ k b. 0 < order b.from → (b.from ≡ v → i ≤ k) → ArcHolds (nexts t) b) (λ k b e h g. done k b e h g);
}
  where
    other : (u : ℕ) → u ≢ a.to → nexts t u ≡ nexts s u
    other u n = ap (λ (w : Vertex). w.next) (change.others u n)

    unsettled_apart : (u : ℕ) → 0 < order u → u ≢ a.to
    unsettled_apart u h = apart order u a.to h out

    v_apart : v ≢ a.to
    v_apart = unsettled_apart v o

    v_top : v ≢ top
    v_top = apart order v top o pass.top_out

    -- the arc holds before
    holds : values s a.to ≤ℤ (values s v +ℤ a.cost)
    holds = elim (there arcs _ i a at (pass.held i)) [
      | inl h ↦ subst (λ w. values s a.to ≤ℤ (values s w +ℤ a.cost)) from h
      | inr h ↦ absurd (v_top (sym from ∙ h.0))
    ]

    cast_less : (x y p q : ℤ) → x ≡ p → y ≡ q → x <ℤ y → p <ℤ q
    cast_less x y p q e f l = omega (arith, ints)

    sums : (a b c d p q r w : ℤ) → a ≡ p → b ≡ q → c ≡ r → d ≡ w → (p +ℤ q) ≤ℤ (r +ℤ w) → (a +ℤ b) ≤ℤ (c +ℤ d)
    sums a b c d p q r w e f g h l = omega (arith, ints)

    glue_fell : (n o x y z : ℤ) → n ≡ o → o <ℤ x → x ≤ℤ y → z ≡ y → n ≤ℤ z
    glue_fell n o x y z e l k f = omega (arith, ints)

    fell_here : nexts t a.to ≤ℤ values t a.to
    fell_here = glue_fell _ offer (nexts s a.to) (values s a.to) _ change.here less (pass.fell a.to) (change.kept a.to)

    glue_near : (n o nv vv vt c vt' : ℤ) → n ≡ o → o ≡ nv +ℤ c → vt ≤ℤ (vv +ℤ c) → vv ≤ℤ (nv +ℤ pos gap) → vt' ≡ vt → vt' ≤ℤ (n +ℤ pos gap)
    glue_near n o nv vv vt c vt' e f g h k = omega (arith, ints)

    near_here : values t a.to ≤ℤ (nexts t a.to +ℤ pos gap)
    near_here = glue_near _ offer (nexts s v) (values s v) (values s a.to) a.cost _ change.here is holds (pass.near v) (change.kept a.to)

    glue_most : (qt qv c nv o n : ℤ) → qt ≤ℤ (qv +ℤ c) → qv ≤ℤ nv → o ≡ nv +ℤ c → n ≡ o → qt ≤ℤ n
    glue_most qt qv c nv o n h k e f = omega (arith, ints)

    most_here : (q : Potentials) → Meets q arcs → ((w : ℕ) → q w ≤ℤ values s w) → q a.to ≤ℤ nexts t a.to
    most_here q m h =
        glue_most (q a.to) (q v) a.cost (nexts s v) offer _ (subst (λ w. q a.to ≤ℤ (q w +ℤ a.cost)) from (there arcs _ i a at (m i))) (pass.most q m h v) is change.here

    kept_holds : (b : Arc) → ArcHolds (values s) b → ArcHolds (values t) b
    kept_holds b h = both _ _ _ _ b.cost (change.kept b.to) (change.kept b.from) h
      where
        both : (x y p q c : ℤ) → x ≡ p → y ≡ q → p ≤ℤ (q +ℤ c) → x ≤ℤ (y +ℤ c)
        both x y p q c e f h = omega (arith, ints)

    -- an arc that holds holds after its head falls, if its tail stays
    next_holds : (b : Arc) → b.from ≢ a.to → ArcHolds (nexts s) b → ArcHolds (nexts t) b
    next_holds b n h = same_or b.to a.to
        (λ e. lower _ _ _ _ _ b.cost (ap (nexts t) e ∙ change.here) less (ap (nexts s) e) (other b.from n) h)
        (λ m. both _ _ _ _ b.cost (other b.to m) (other b.from n) h)
      where
        lower : (x o y p q c : ℤ) → x ≡ o → o <ℤ nexts s a.to → y ≡ nexts s a.to → p ≡ q → y ≤ℤ (q +ℤ c) → x ≤ℤ (p +ℤ c)
        lower x o y p q c e l f g h = omega (arith, ints)

        both : (x y p q c : ℤ) → x ≡ p → y ≡ q → p ≤ℤ (q +ℤ c) → x ≤ℤ (y +ℤ c)
        both x y p q c e f h = omega (arith, ints)

    held : (b : Arc) → (ArcHolds (values s) b ⊎ ((b.from ≡ top) × ArcHolds (nexts s) b)) → ArcHolds (values t) b ⊎ ((b.from ≡ top) × ArcHolds (nexts t) b)
    held b (inl h) = inl (kept_holds b h)
    held b (inr h) = inr (h.0, next_holds b (λ e. below (sym e ∙ h.0)) h.1)

    tail_apart : (w : ℕ) → (w ≡ top) ⊎ (0 < order w) → w ≢ a.to
    tail_apart w (inl e) f = below (sym f ∙ e)
    tail_apart w (inr h) f = unsettled_apart w h f

    caused_here : IsCaused arcs top t order a.to
    caused_here = record {
      arc = a;
      found = ap (λ j. slice_get arcs j) change.parent ∙ at;
      to = refl;
      tight = change.here ∙ is ∙ ap (λ x. x +ℤ a.cost) (sym (other v v_apart) ∙ ap (nexts t) (sym from));
      source = inr (subst (λ w. 0 < order w) (sym from) o, inl out);
    }

    caused : (u : ℕ) → u ≢ a.to → IsCaused arcs top s order u → IsCaused arcs top t order u
    caused u n c = record {
      arc = c.arc;
      found = ap (λ (w : Vertex). slice_get arcs w.parent) (change.others u n) ∙ c.found;
      to = c.to;
      tight = other u n ∙ c.tight ∙ ap (λ x. x +ℤ c.arc.cost) (sym (other c.arc.from (tail_apart c.arc.from (weaker c.source))));
      source = c.source;
    }
      where
        weaker : ((c.arc.from ≡ top) ⊎ ((0 < order c.arc.from) × ((order u ≡ 0) ⊎ (order c.arc.from < order u)))) → (c.arc.from ≡ top) ⊎ (0 < order c.arc.from)
        weaker (inl e) = inl e
        weaker (inr h) = inr h.0

    glue_sooner : (nu vu nv vv vt c n o nu' vu' vt' : ℤ) → (nu +ℤ vv) ≤ℤ (nv +ℤ vu) → vt ≤ℤ (vv +ℤ c) → o ≡ nv +ℤ c → n ≡ o
        → nu' ≡ nu → vu' ≡ vu → vt' ≡ vt → (nu' +ℤ vt') ≤ℤ (n +ℤ vu')
    glue_sooner nu vu nv vv vt c n o nu' vu' vt' h k e f g l m = omega (arith, ints)

    sooner_here : (u : ℕ) → 0 < order u → (nexts t u +ℤ values t a.to) ≤ℤ (nexts t a.to +ℤ values t u)
    sooner_here u h =
        glue_sooner (nexts s u) (values s u) (nexts s v) (values s v) (values s a.to) a.cost _ offer _ _ _ (pass.latest o u h) holds is change.here
        (other u (unsettled_apart u h)) (change.kept u) (change.kept a.to)

    done : (k : ℕ) (b : Arc) → slice_get arcs k ≡ Some b → 0 < order b.from → (b.from ≡ v → i ≤ k) → ArcHolds (nexts t) b
    done k b e h g =
        let n : b.from ≢ a.to = unsettled_apart b.from h in
        elim (cases_lt i k) [
          | inl l ↦ next_holds b n (there arcs _ k b e (pass.done k) h (λ f. l))
          | inr l ↦ same_or b.from v
              (λ f. let ki : k ≡ i = (let z = g f in omega arith) in
              let same : Some a ≡ Some b = sym at ∙ ap (λ j. slice_get arcs j) (sym ki) ∙ e in
              let ab : a ≡ b = cc in
              subst (λ c. ArcHolds (nexts t) c) ab offered)
              (λ m. next_holds b n (there arcs _ k b e (pass.done k) h (λ f. absurd (m f))))
        ]
      where
        offered : ArcHolds (nexts t) a
        offered = equal _ _ _ offer a.cost change.here is (other v v_apart) (ap (nexts t) from)
          where
            equal : (x y z o c : ℤ) → x ≡ o → o ≡ y +ℤ c → nexts t v ≡ y → z ≡ nexts t v → x ≤ℤ (z +ℤ c)
            equal x y z o c e f g h = omega (arith, ints)

-- all arcs from the settled vertex were offered
pub offers_end : (arcs : List Arc) (top gap : ℕ) (s : ℕ → Vertex) (order : ℕ → ℕ) (count v : ℕ)
    → IsPass arcs top gap s order count v 0 → IsPass arcs top gap s order count top 0
offers_end arcs top gap s order count v pass = record {
  fell = pass.fell;
  near = pass.near;
  most = pass.most;
  top_stays = pass.top_stays;
  top_out = pass.top_out;
  held = pass.held;
  caused = pass.caused;
  counted = pass.counted;
  lowered = pass.lowered;
  sooner = pass.sooner;
  latest = λ h. absurd (let z = pass.top_out in omega arith);
  done = each arcs (λ k a. 0 < order a.from → (a.from ≡ top → 0 ≤ k) → ArcHolds (nexts s) a) (λ k a e h g.
      there arcs _ k a e (pass.done k) h (λ f. omega arith));
}

-- nothing falls any more: the offers meet the arcs
pub pass_meets : (arcs : List Arc) (top gap : ℕ) (s : ℕ → Vertex) (order : ℕ → ℕ) (count i : ℕ)
    → IsPass arcs top gap s order count top i → NoneFalls s order → Meets (nexts s) arcs
pass_meets arcs top gap s order count i pass none = each arcs (λ k a. ArcHolds (nexts s) a) (λ k a e. by k a e (order a.from) refl)
  where
    by : (k : ℕ) (a : Arc) → slice_get arcs k ≡ Some a → (n : ℕ) → order a.from ≡ n → ArcHolds (nexts s) a
    by k a e zero z = elim (there arcs _ k a e (pass.held k)) [
      | inl h ↦ glue _ _ _ _ a.cost (pass.fell a.to) h (none a.from z)
      | inr h ↦ h.1
    ]
      where
        glue : (nt vt nf vf c : ℤ) → nt ≤ℤ vt → vt ≤ℤ (vf +ℤ c) → vf ≤ℤ nf → nt ≤ℤ (nf +ℤ c)
        glue nt vt nf vf c h k l = omega (arith, ints)
    by k a e (suc n) z = there arcs _ k a e (pass.done k) (omega arith) (λ f. absurd (let y : order a.from ≡ order top = ap order f in omega (arith, pass.top_out)))

-- an offer that has no form of 128 bits needs sizes of at least 2 ^ 126
pub offer_large : (arcs : List Arc) (top gap : ℕ) (r s : ℕ → Vertex) (order : ℕ → ℕ) (count n v i upto : ℕ) (a : Arc)
    → IsPass arcs top gap s order count v upto → ((t : ℕ) → values s t ≡ values r t) → slice_get arcs i ≡ Some a → a.from ≡ v → 0 < order v
    → IsSized n gap arcs (values r) → ¬ (FitsSigned w128 (nexts s v +ℤ a.cost)) → 2 ^ 126 ≤ n
offer_large arcs top gap r s order count n v i upto a pass kept at from o sized past =
    large_offer (nexts s v) a.cost (values s v) (values s a.to) gap n (pass.fell v) (pass.near v) holds
    (subst (λ x. x ≤ℤ pos n) (sym (kept v)) (sized.above v)) (subst (λ x. pos 0 ≤ℤ (x +ℤ pos n)) (sym (kept a.to)) (sized.below a.to))
    (there arcs _ i a at (sized.costs i)) sized.gap_in past
  where
    holds : values s a.to ≤ℤ (values s v +ℤ a.cost)
    holds = elim (there arcs _ i a at (pass.held i)) [
      | inl h ↦ subst (λ w. values s a.to ≤ℤ (values s w +ℤ a.cost)) from h
      | inr h ↦ absurd (apart order v top o pass.top_out (sym from ∙ h.0))
    ]

-- the sizes are those of the potentials before
pub sized_kept : (n gap : ℕ) (arcs : List Arc) (r s : ℕ → Vertex) → ((t : ℕ) → values s t ≡ values r t) → IsSized n gap arcs (values r) → IsSized n gap arcs (values s)
sized_kept n gap arcs r s kept h = record {
  above = λ t. subst (λ x. x ≤ℤ pos n) (sym (kept t)) (h.above t);
  below = λ t. subst (λ x. pos 0 ≤ℤ (x +ℤ pos n)) (sym (kept t)) (h.below t);
  costs = h.costs;
  gap_in = h.gap_in;
}

-- one more vertex is settled: one fewer is left
pub one_fewer : (order : List ℕ) (v count : ℕ) → v < length order → get_or order v 0 ≡ 0 → sum_by (λ o. 1 - o) (set order v (count + 1)) + 1 ≡ sum_by (λ o. 1 - o) order
one_fewer order v count h e = let s = sum_by-set (λ o. 1 - o) order v (count + 1) 0 h in omega (arith, ap (λ o. 1 - o) e)

pub few : (order : List ℕ) → sum_by (λ o. 1 - o) order ≤ length order
few [] = omega arith
few (o ∷ order) = omega (arith, few order, sum_by-cons (λ o. 1 - o) o order)

pub settled_now : (order : List ℕ) (v count : ℕ) → v < length order → Settles (order_at order) (order_at (set order v (count + 1))) v count
settled_now order v count h = record {
  here = get_or-set_same order v (count + 1) 0 h;
  others = λ t n. get_or-set_other order v t (count + 1) 0 n;
}

pub order_most : (order later : ℕ → ℕ) (v count : ℕ) → Settles order later v count → ((t : ℕ) → order t ≤ count) → (t : ℕ) → later t ≤ count + 1
order_most order later v count s h t = same_or t v
    (λ e. let f = s.here in let g = ap later e in omega arith)
    (λ n. let f = s.others t n in let g = h t in omega arith)

pub next_from : (arcs : List Arc) (top gap : ℕ) (r s : ℕ → Vertex) (order : ℕ → ℕ) (count i : ℕ)
    → IsPass arcs top gap s order count top i → ((t : ℕ) → values s t ≡ values r t) → NoneFalls s order → IsNext arcs (values r) (nexts s)
next_from arcs top gap r s order count i pass kept none = record {
  meets = pass_meets arcs top gap s order count i pass none;
  fell = λ t. subst (λ x. nexts s t ≤ℤ x) (kept t) (pass.fell t);
  most = λ q m h. pass.most q m (λ t. subst (λ x. q t ≤ℤ x) (sym (kept t)) (h t));
}

-- the first offer, of the last arc to another vertex
pub begins : (front : List Arc) (last : Arc) (r s : ℕ → Vertex) (order : ℕ → ℕ) (offer : ℤ)
    → Meets (values r) front → ((t : ℕ) → order t ≡ 0) → ((t : ℕ) → values s t ≡ values r t) → (s last.to).parent ≡ length front → nexts s last.to ≡ offer
    → ((t : ℕ) → t ≢ last.to → nexts s t ≡ values r t) → offer ≡ values r last.from +ℤ last.cost → offer <ℤ values r last.to → last.from ≢ last.to
    → IsPass (front ++ last ∷ []) last.from (up (values r last.to -ℤ offer)) s order 0 last.from 0
begins front last r s order offer meets out kept parent here others is less differ = record {
  fell = λ t. same_or t last.to
      (λ e. subst (λ w. nexts s w ≤ℤ values s w) (sym e) (glue_fell _ offer _ _ here less (kept last.to)))
      (λ n. glue_same _ _ _ (others t n) (kept t));
  near = λ t. same_or t last.to
      (λ e. subst (λ w. values s w ≤ℤ (nexts s w +ℤ pos gap)) (sym e) (glue_near _ offer _ _ here (kept last.to)))
      (λ n. glue_far _ _ _ gap (others t n) (kept t));
  most = λ q m h t. same_or t last.to
      (λ e. subst (λ w. q w ≤ℤ nexts s w) (sym e) (glue_most _ _ _ offer _ _ _ (there arcs _ (length front) last at_last (m (length front))) (h last.from) (kept last.from) is here))
      (λ n. glue_kept _ _ _ _ (h t) (others t n) (kept t));
  top_stays = others last.from differ ∙ sym (kept last.from);
  top_out = out last.from;
  held = each arcs (λ k a. ArcHolds (values s) a ⊎ ((a.from ≡ last.from) × ArcHolds (nexts s) a)) (λ k a e. held k a e);
  caused = λ t f. same_or t last.to (λ e. subst (λ w. IsCaused arcs last.from s order w) (sym e) caused_here) (λ n. absurd (glue_not _ _ _ (others t n) (kept t) f));
  counted = λ t. omega (arith, out t);
  lowered = λ t h. absurd (let z = out t in omega arith);
  sooner = λ u t h. absurd (let z = out u in omega arith);
  latest = λ h. absurd (let z = out last.from in omega arith);
  done = each arcs (λ k a. 0 < order a.from → (a.from ≡ last.from → 0 ≤ k) → ArcHolds (nexts s) a) (λ k a e h. absurd (let z = out a.from in omega arith));
}
  where
    gap : ℕ
    gap = up (values r last.to -ℤ offer)

    arcs : List Arc
    arcs = front ++ last ∷ []

    at_last : slice_get arcs (length front) ≡ Some last
    at_last = at_end front last

    glue_fell : (n o v w : ℤ) → n ≡ o → o <ℤ v → w ≡ v → n ≤ℤ w
    glue_fell n o v w e l f = omega (arith, ints)

    glue_same : (n v w : ℤ) → n ≡ v → w ≡ v → n ≤ℤ w
    glue_same n v w e f = omega (arith, ints)

    glue_near : (n o v w : ℤ) → n ≡ o → w ≡ v → w ≤ℤ (n +ℤ pos (up (v -ℤ o)))
    glue_near n o v w e f = omega (arith, ints, parts (v -ℤ o))

    glue_far : (n v w : ℤ) (g : ℕ) → n ≡ v → w ≡ v → w ≤ℤ (n +ℤ pos g)
    glue_far n v w g e f = omega (arith, ints)

    glue_most : (qt qf c o vf wf n : ℤ) → qt ≤ℤ (qf +ℤ c) → qf ≤ℤ wf → wf ≡ vf → o ≡ vf +ℤ c → n ≡ o → qt ≤ℤ n
    glue_most qt qf c o vf wf n h k e f g = omega (arith, ints)

    glue_kept : (q w n v : ℤ) → q ≤ℤ w → n ≡ v → w ≡ v → q ≤ℤ n
    glue_kept q w n v h e f = omega (arith, ints)

    glue_not : (n v w : ℤ) → n ≡ v → w ≡ v → n <ℤ w → ⊥
    glue_not n v w e f l = omega (arith, ints)

    both : (x y p q c : ℤ) → x ≡ p → y ≡ q → p ≤ℤ (q +ℤ c) → x ≤ℤ (y +ℤ c)
    both x y p q c e f h = omega (arith, ints)

    equal : (x y o v c : ℤ) → x ≡ o → o ≡ v +ℤ c → y ≡ v → x ≤ℤ (y +ℤ c)
    equal x y o v c e f g = omega (arith, ints)

    held : (k : ℕ) (a : Arc) → slice_get arcs k ≡ Some a → ArcHolds (values s) a ⊎ ((a.from ≡ last.from) × ArcHolds (nexts s) a)
    held k a e = elim (at_or_end front last k a e) [
      | inl h ↦ inl (both _ _ _ _ a.cost (kept a.to) (kept a.from) (there front _ k a h (meets k)))
      | inr h ↦ inr (ap (λ (b : Arc). b.from) h, subst (λ b. ArcHolds (nexts s) b) (sym h) (equal _ _ offer _ last.cost here is (others last.from differ)))
    ]

    caused_here : IsCaused arcs last.from s order last.to
    caused_here = record {
      arc = last;
      found = ap (λ j. slice_get arcs j) parent ∙ at_last;
      to = refl;
      tight = here ∙ is ∙ ap (λ x. x +ℤ last.cost) (sym (others last.from differ));
      source = inl refl;
    }

pub front_is : (front : List Arc) (last : Arc) (arcs : List Arc) → arcs ≡ front ++ last ∷ [] → length arcs - 1 ≡ length front
front_is front last arcs e = omega (arith, ap length e, length-append front (last ∷ []))

pub last_is : (front : List Arc) (last : Arc) (arcs : List Arc) (d : Arc) → arcs ≡ front ++ last ∷ [] → get_or arcs (length arcs - 1) d ≡ last
last_is front last arcs d e = get_or_from_slice_get arcs (length arcs - 1) last d (ap (λ k. slice_get arcs k) (front_is front last arcs e) ∙ ap (λ (l : List Arc). slice_get l (length front)) e ∙ at_end front last)

pub starts : (front : List Arc) (last : Arc) (arcs : List Arc) (r b s : ℕ → Vertex) (order : ℕ → ℕ) (offer : ℤ)
    → arcs ≡ front ++ last ∷ [] → Meets (values r) front → ((t : ℕ) → order t ≡ 0) → ((t : ℕ) → values b t ≡ values r t) → ((t : ℕ) → nexts b t ≡ values r t)
    → Falls b s last.to (length arcs - 1) offer → offer ≡ values r last.from +ℤ last.cost → offer <ℤ values r last.to → last.from ≢ last.to
    → IsPass arcs last.from (up (values r last.to -ℤ offer)) s order 0 last.from 0
starts front last arcs r b s order offer e meets out kept same fall is less differ =
    subst (λ l. IsPass l last.from (up (values r last.to -ℤ offer)) s order 0 last.from 0) (sym e)
    (begins front last r s order offer meets out (λ t. fall.kept t ∙ kept t) (fall.parent ∙ front_is front last arcs e) fall.here
    (λ t n. ap (λ (w : Vertex). w.next) (fall.others t n) ∙ same t) is less differ)

-- the last arc's own offer holds already
pub holds_already : (front : List Arc) (last : Arc) (arcs : List Arc) (p : Potentials) → arcs ≡ front ++ last ∷ [] → Meets p front → ArcHolds p last → IsNext arcs p p
holds_already front last arcs p e meets h = record {
  meets = subst (λ l. Meets p l) (sym e) (each (front ++ last ∷ []) (λ k a. ArcHolds p a) (λ k a f. elim (at_or_end front last k a f) [
    | inl g ↦ there front _ k a g (meets k)
    | inr g ↦ subst (λ b. ArcHolds p b) (sym g) h
  ]));
  fell = λ t. at_most_self (p t);
  most = λ q m l. l;
}
  where
    at_most_self : (x : ℤ) → x ≤ℤ x
    at_most_self x = omega (arith, ints)

-- an arc from a vertex to itself of a cost below 0
pub stuck_at_once : (front : List Arc) (last : Arc) (arcs : List Arc) (r s : ℕ → Vertex) (order : ℕ → ℕ) (offer : ℤ)
    → arcs ≡ front ++ last ∷ [] → ((t : ℕ) → order t ≡ 0) → ((t : ℕ) → values s t ≡ values r t) → ((t : ℕ) → nexts s t ≡ values r t)
    → offer ≡ values r last.from +ℤ last.cost → offer <ℤ values r last.to → last.from ≡ last.to → IsStuck arcs last.from (length arcs - 1) s order
stuck_at_once front last arcs r s order offer e out kept same is less self = record {
  caused = λ t f. absurd (none _ _ _ (same t) (kept t) f);
  lowered = λ t h. absurd (let z = out t in omega arith);
  top_out = out last.from;
  closes = subst (λ o. IfSome o (IsClosing last.from s order))
      (sym (ap (λ k. slice_get arcs k) (front_is front last arcs e) ∙ ap (λ (l : List Arc). slice_get l (length front)) e ∙ at_end front last))
      (record { to = sym self; source = inl refl; falls = glue _ _ offer last.cost (same last.from) is (subst (λ v. offer <ℤ values r v) (sym self) less) });
  is_arc = omega (arith, ap length e, length-append front (last ∷ []));
}
  where
    none : (n v w : ℤ) → n ≡ v → w ≡ v → n <ℤ w → ⊥
    none n v w f g l = omega (arith, ints)

    glue : (n v o c : ℤ) → n ≡ v → o ≡ v +ℤ c → o <ℤ v → (n +ℤ c) <ℤ n
    glue n v o c f g l = omega (arith, ints)

first_fits : (x c : ℤ) (m n : ℕ) → x ≤ℤ pos m → pos 0 ≤ℤ (x +ℤ pos m) → c ≤ℤ pos n → m + down c ≤ n → n < 2 ^ 126 → FitsSigned w128 (x +ℤ c)
first_fits x c m n a b d e l = omega (arith, ints)

pub first_large : (front : List Arc) (last : Arc) (p : Potentials) (m n : ℕ) → IsNarrow m n front last p → ¬ (FitsSigned w128 (p last.from +ℤ last.cost)) → 2 ^ 126 ≤ n
first_large front last p m n h past =
    elim (cases_lt n (2 ^ 126)) [
      | inl l ↦ absurd (past (first_fits (p last.from) last.cost m n (h.range.above last.from) (h.range.below last.from)
          (there (front ++ last ∷ []) _ (length front) last (at_end front last) (h.costs (length front))) h.room l))
      | inr l ↦ l
    ]

pub narrow_sized : (front : List Arc) (last : Arc) (arcs : List Arc) (r s : ℕ → Vertex) (m n : ℕ) (offer : ℤ) → arcs ≡ front ++ last ∷ [] → IsNarrow m n front last (values r)
    → ((t : ℕ) → values s t ≡ values r t) → offer ≡ values r last.from +ℤ last.cost → IsSized n (up (values r last.to -ℤ offer)) arcs (values s)
narrow_sized front last arcs r s m n offer e h kept is = record {
  above = λ t. more _ _ m n (kept t) (h.range.above t) (at_most m (down last.cost) n h.room);
  below = λ t. less _ _ m n (kept t) (h.range.below t) (at_most m (down last.cost) n h.room);
  costs = subst (λ l. (k : ℕ) → IfSome (slice_get l k) (λ a. a.cost ≤ℤ pos n)) (sym e) h.costs;
  gap_in = glue _ _ last.cost offer m n is (h.range.apart last.to last.from) h.room;
}
  where
    at_most : (m d n : ℕ) → m + d ≤ n → m ≤ n
    at_most m d n h = omega arith

    more : (x y : ℤ) (m n : ℕ) → x ≡ y → y ≤ℤ pos m → m ≤ n → x ≤ℤ pos n
    more x y m n e h l = omega (arith, ints)

    less : (x y : ℤ) (m n : ℕ) → x ≡ y → pos 0 ≤ℤ (y +ℤ pos m) → m ≤ n → pos 0 ≤ℤ (x +ℤ pos n)
    less x y m n e h l = omega (arith, ints)

    glue : (t f c o : ℤ) (m n : ℕ) → o ≡ f +ℤ c → t ≤ℤ (f +ℤ pos m) → m + down c ≤ n → up (t -ℤ o) ≤ n
    glue t f c o m n e h k = omega (arith, ints, parts (t -ℤ o), parts c)

pub next_cast : (arcs : List Arc) (p q s : Potentials) → ((t : ℕ) → q t ≡ s t) → IsNext arcs p s → IsNext arcs p q
next_cast arcs p q s e h = record {
  meets = each arcs (λ k a. ArcHolds q a) (λ k a f. both _ _ _ _ a.cost (e a.to) (e a.from) (there arcs _ k a f (h.meets k)));
  fell = λ t. subst (λ x. x ≤ℤ p t) (sym (e t)) (h.fell t);
  most = λ r m l t. subst (λ x. r t ≤ℤ x) (sym (e t)) (h.most r m l t);
}
  where
    both : (x y p q c : ℤ) → x ≡ p → y ≡ q → p ≤ℤ (q +ℤ c) → x ≤ℤ (y +ℤ c)
    both x y p q c e f h = omega (arith, ints)

pub next_before : (arcs : List Arc) (p q s : Potentials) → ((t : ℕ) → q t ≡ p t) → IsNext arcs q s → IsNext arcs p s
next_before arcs p q s e h = record {
  meets = h.meets;
  fell = λ t. subst (λ x. s t ≤ℤ x) (e t) (h.fell t);
  most = λ r m l. h.most r m (λ t. subst (λ x. r t ≤ℤ x) (sym (e t)) (l t));
}

-- ---- one vertex is written

pub set_same_by : {A : Type 0} (f : Vertex → A) (vertices : List Vertex) (x : ℕ) (new : Vertex) → x < length vertices → f new ≡ f (get_or vertices x blank)
    → (v : ℕ) → f (vertex_at (set vertices x new) v) ≡ f (vertex_at vertices v)
set_same_by f vertices x new h e v =
    same_or v x
    (λ q. ap (λ w. f (vertex_at (set vertices x new) w)) q ∙ ap f (get_or-set_same vertices x new blank h) ∙ e ∙ ap (λ w. f (vertex_at vertices w)) (sym q))
    (λ n. ap f (get_or-set_other vertices x v new blank n))

pub done_more : (vertices : List Vertex) (r : ℕ → Vertex) (x v : ℕ) (new : Vertex) → x < length vertices → new.kept.value ≡ (get_or vertices x blank).next
    → ((u : ℕ) → nexts (vertex_at vertices) u ≡ nexts r u) → (values (vertex_at vertices) v ≡ nexts r v) ⊎ (v ≡ x) → values (vertex_at (set vertices x new)) v ≡ nexts r v
done_more vertices r x v new h e offers done =
    same_or v x
    (λ q. ap (λ w. (vertex_at (set vertices x new) w).kept.value) q ∙ ap (λ (y : Vertex). y.kept.value) (get_or-set_same vertices x new blank h) ∙ e ∙ offers x ∙ ap (nexts r) (sym q))
    (λ n. ap (λ (y : Vertex). y.kept.value) (get_or-set_other vertices x v new blank n) ∙ elim done [ inl d ↦ d | inr q ↦ absurd (n q) ])

pub rest_same : (s t : ℕ → Vertex) (order : ℕ → ℕ) → ((v : ℕ) → values t v ≡ values s v) → ((v : ℕ) → nexts t v ≡ nexts s v) → ((v : ℕ) → AtRest s order v) → (v : ℕ) → AtRest t order v
rest_same s t order same offers rest v = (offers v ∙ (rest v).0 ∙ sym (same v), (rest v).1)

pub rest_set : (vertices : List Vertex) (x : ℕ) (new : Vertex) (order : ℕ → ℕ) → x < length vertices → new.next ≡ new.kept.value → ((v : ℕ) → AtRest (vertex_at vertices) order v)
    → (v : ℕ) → AtRest (vertex_at (set vertices x new)) order v
rest_set vertices x new order h e rest v = (
  same_or v x
      (λ q. subst (λ w. nexts (vertex_at (set vertices x new)) w ≡ values (vertex_at (set vertices x new)) w) (sym q)
      (subst (λ (y : Vertex). y.next ≡ y.kept.value) (sym (get_or-set_same vertices x new blank h)) e))
      (λ n. subst (λ (y : Vertex). y.next ≡ y.kept.value) (sym (get_or-set_other vertices x v new blank n)) (rest v).0),
  (rest v).1,
)
