-- The walk back from the closing arc: each arc's tag is new, and the costs so far with the potential at hand are below that at the top.
use Rattle.std.proofs.Common.{◌≡◌, ◌≢◌, ℕ, ◌<◌, refl, sym, ap, subst, ◌∙◌, arith, List, [], ◌∷◌, ◌++◌, Bool, Option, Some, None, IfSome, slice_get, ◌⊎◌, inl, inr}
use Rattle.std.proofs.Math.IntN.{ℤ, pos, ◌+ℤ◌}
use Rattle.std.specs.Int.Signed.{◌<ℤ◌}
use Rattle.std.proofs.lemmas.Int.{ints}
use Rattle.std.proofs.lemmas.Option.{slice_get-get_or}
use Rattle.lq_prover_differences.specs.declared.arc.Arc.{Arc}
use Rattle.lq_prover_differences.specs.declared.vertex.Vertex.{Vertex}
use Rattle.lq_prover_differences.specs.Passes.{nexts, IsCaused, IsStuck, IsClosing}
use Rattle.lq_prover_differences.specs.Cycles.{Each, IsAmong, IsWalk, costs, TagsOnce, marks, IsNegativeCycle, ArePaired}

walk_more : (arcs : List Arc) (a b : ℕ) (steps : List Arc) (s : Arc) → IsWalk arcs a b steps → IsAmong arcs s → s.to ≡ b → IsWalk arcs a s.from (steps ++ s ∷ [])
walk_more arcs a b [] s h among to = (among, to ∙ sym h, refl)
walk_more arcs a b (t ∷ steps) s h among to = (h.0, h.1, walk_more arcs t.from b steps s h.2 among to)

costs_more : (steps : List Arc) (s : Arc) → costs (steps ++ s ∷ []) ≡ costs steps +ℤ s.cost
costs_more [] s = omega (arith, ints)
costs_more (t ∷ steps) s = let h = costs_more steps s in glue t.cost (costs (steps ++ s ∷ [])) (costs steps) s.cost h
  where
    glue : (c x y z : ℤ) → x ≡ y +ℤ z → c +ℤ x ≡ (c +ℤ y) +ℤ z
    glue c x y z e = omega (arith, ints)

all_more : (P : Arc → Type 0) (steps : List Arc) (s : Arc) → Each P steps → P s → Each P (steps ++ s ∷ [])
all_more P [] s h p = (p, tt)
all_more P (t ∷ steps) s h p = (h.0, all_more P steps s h.1 p)

all_weaker : (P Q : Arc → Type 0) (steps : List Arc) → ((s : Arc) → P s → Q s) → Each P steps → Each Q steps
all_weaker P Q [] f h = tt
all_weaker P Q (t ∷ steps) f h = (f t h.0, all_weaker P Q steps f h.1)

once_more : (steps : List Arc) (s : Arc) → TagsOnce steps → Each (λ t. t.tag ≢ s.tag) steps → TagsOnce (steps ++ s ∷ [])
once_more [] s h k = (tt, tt)
once_more (t ∷ steps) s h k = (all_more _ steps s h.0 (λ e. k.0 (sym e)), once_more steps s h.1 k.1)

marks_more : (steps : List Arc) (s : Arc) → marks (steps ++ s ∷ []) ≡ marks steps ++ (s.tag, s.forward) ∷ []
marks_more [] s = refl
marks_more (t ∷ steps) s = ap (λ l. (t.tag, t.forward) ∷ l) (marks_more steps s)

-- a step that was taken, seen from a vertex: the closing arc, or one to a vertex settled later
abbrev pub IsOlder : ℕ → (ℕ → Vertex) → (ℕ → ℕ) → ℕ → Arc → Type 0
IsOlder top s order v t = ((t.to ≡ top) × ((nexts s t.from +ℤ t.cost) <ℤ nexts s top)) ⊎ (order v < order t.to)

-- the arc at hand: the closing one, with no step taken yet, or that by which its head fell
abbrev pub IsAtHand : ℕ → (ℕ → Vertex) → (ℕ → ℕ) → List Arc → Arc → Type 0
IsAtHand top s order steps a =
    ((steps ≡ []) × (a.to ≡ top) × ((nexts s a.from +ℤ a.cost) <ℤ nexts s top))
    ⊎ ((0 < order a.to) × (nexts s a.to ≡ nexts s a.from +ℤ a.cost) × ((a.from ≡ top) ⊎ (order a.from < order a.to)))

pub record Walks (arcs : List Arc) (top : ℕ) (s : ℕ → Vertex) (order : ℕ → ℕ) (found : List (ℕ × Bool)) (at : ℕ) : Type 0 where
  pub steps : List Arc
  pub arc : Arc
  pub is_arc : slice_get arcs at ≡ Some arc
  pub is : found ≡ marks steps
  pub walk : IsWalk arcs top arc.to steps
  pub below : (costs steps +ℤ (nexts s arc.from +ℤ arc.cost)) <ℤ nexts s top
  pub once : TagsOnce steps
  pub among : Each (IsAmong arcs) steps
  pub older : Each (IsOlder top s order arc.to) steps
  pub at_hand : IsAtHand top s order steps arc
  pub source : (arc.from ≡ top) ⊎ (0 < order arc.from)

pub walk_starts : (arcs : List Arc) (top closing : ℕ) (s : ℕ → Vertex) (order : ℕ → ℕ) → IsStuck arcs top closing s order → Walks arcs top s order [] closing
walk_starts arcs top closing s order stuck = by (slice_get arcs closing) refl stuck.closes
  where
    glue : (n c t : ℤ) → (n +ℤ c) <ℤ t → (pos 0 +ℤ (n +ℤ c)) <ℤ t
    glue n c t h = omega (arith, ints)

    by : (o : Option Arc) → slice_get arcs closing ≡ o → IfSome o (IsClosing top s order) → Walks arcs top s order [] closing
    by None e h = absurd (let w = slice_get-get_or arcs closing nothing stuck.is_arc in cc)
      where
        nothing : Arc
        nothing = record { tag = 0; from = 0; to = 0; cost = pos 0; forward = Bool.false }
    by (Some a) e h = record {
      steps = [];
      arc = a;
      is_arc = e;
      is = refl;
      walk = sym h.to;
      below = glue (nexts s a.from) a.cost (nexts s top) h.falls;
      once = tt;
      among = tt;
      older = tt;
      at_hand = inl (refl, h.to, h.falls);
      source = h.source;
    }

-- the tag of the arc at hand is new
new_tag : (arcs : List Arc) (top : ℕ) (s : ℕ → Vertex) (order : ℕ → ℕ) (steps : List Arc) (a : Arc) → ArePaired arcs → IsAmong arcs a → order top ≡ 0
    → IsAtHand top s order steps a → (rest : List Arc) → ((rest ≡ []) ⊎ (0 < order a.to)) → Each (IsAmong arcs) rest → Each (IsOlder top s order a.to) rest → Each (λ t. t.tag ≢ a.tag) rest
new_tag arcs top s order steps a paired among out hand [] some all older = tt
new_tag arcs top s order steps a paired among out hand (t ∷ rest) some all older =
    (apart, new_tag arcs top s order steps a paired among out hand rest (inr settled) all.1 older.1)
  where
    settled : 0 < order a.to
    settled = elim some [ inl e ↦ absurd (cc) | inr h ↦ h ]

    is_later : (nexts s a.to ≡ nexts s a.from +ℤ a.cost) × ((a.from ≡ top) ⊎ (order a.from < order a.to))
    is_later = elim hand [
      | inl h ↦ absurd (let e : order a.to ≡ order top = ap order h.1 in omega (arith, settled))
      | inr h ↦ (h.1, h.2)
    ]

    glue : (na nf c nt nf' d : ℤ) → na ≡ nf +ℤ c → nf ≡ nt → (nf' +ℤ d) <ℤ nt → nf' ≡ na → d +ℤ c ≡ pos 0 → ⊥
    glue na nf c nt nf' d e f l g h = omega (arith, ints)

    apart : t.tag ≢ a.tag
    apart e = elim (paired all.0.0 among.0 t a all.0.1 among.1 e).ends [
      | inl h ↦ elim older.0 [
        | inl o ↦ (let f : order a.to ≡ order top = ap order (sym h.1 ∙ o.0) in absurd (omega (arith, settled, out)))
        | inr o ↦ (let f : order t.to ≡ order a.to = ap order h.1 in absurd (omega (arith, settled, out)))
      ]
      | inr h ↦ elim older.0 [
        | inl o ↦ glue (nexts s a.to) (nexts s a.from) a.cost (nexts s top) (nexts s t.from) t.cost is_later.0 (ap (nexts s) (sym h.1 ∙ o.0)) o.1 (ap (nexts s) h.0) h.2
        | inr o ↦ elim is_later.1 [
          | inl f ↦ (let g : order t.to ≡ order top = ap order (h.1 ∙ f) in absurd (omega (arith, settled, out)))
          | inr l ↦ (let g : order t.to ≡ order a.from = ap order h.1 in absurd (omega (arith, settled, out)))
        ]
      ]
    ]

-- the steps with the arc at hand
pub record WalksOn (arcs : List Arc) (top : ℕ) (s : ℕ → Vertex) (order : ℕ → ℕ) (found : List (ℕ × Bool)) (a : Arc) : Type 0 where
  pub steps : List Arc
  pub is : found ≡ marks steps
  pub walk : IsWalk arcs top a.from steps
  pub below : (costs steps +ℤ nexts s a.from) <ℤ nexts s top
  pub once : TagsOnce steps
  pub among : Each (IsAmong arcs) steps
  pub older : 0 < order a.from → Each (IsOlder top s order a.from) steps

pub walk_on : (arcs : List Arc) (top : ℕ) (s : ℕ → Vertex) (order : ℕ → ℕ) (found later : List (ℕ × Bool)) (at : ℕ) → ArePaired arcs → order top ≡ 0
    → (w : Walks arcs top s order found at) → later ≡ found ++ (w.arc.tag, w.arc.forward) ∷ [] → WalksOn arcs top s order later w.arc
walk_on arcs top s order found later at paired out w e = record {
  steps = w.steps ++ a ∷ [];
  is = e ∙ ap (λ l. l ++ (a.tag, a.forward) ∷ []) w.is ∙ sym (marks_more w.steps a);
  walk = walk_more arcs top a.to w.steps a w.walk (at, w.is_arc) refl;
  below = glue _ _ _ _ _ (costs_more w.steps a) w.below;
  once = once_more w.steps a w.once (new_tag arcs top s order w.steps a paired (at, w.is_arc) out w.at_hand w.steps some w.among w.older);
  among = all_more _ w.steps a w.among (at, w.is_arc);
  older = λ h. all_more _ w.steps a (older h) (mine h);
}
  where
    a : Arc
    a = w.arc

    glue : (x y c n t : ℤ) → x ≡ y +ℤ c → (y +ℤ (n +ℤ c)) <ℤ t → (x +ℤ n) <ℤ t
    glue x y c n t e h = omega (arith, ints)

    some : (w.steps ≡ []) ⊎ (0 < order a.to)
    some = elim w.at_hand [ inl h ↦ inl h.0 | inr h ↦ inr h.0 ]

    falls : 0 < order a.from → (0 < order a.to) → order a.from < order a.to
    falls h k = elim w.at_hand [
      | inl g ↦ absurd (let e : order a.to ≡ order top = ap order g.1 in omega arith)
      | inr g ↦ elim g.2 [
        | inl f ↦ absurd (let e : order a.from ≡ order top = ap order f in omega arith)
        | inr l ↦ l
      ]
    ]

    mine : 0 < order a.from → IsOlder top s order a.from a
    mine h = elim w.at_hand [ inl g ↦ inl (g.1, g.2) | inr g ↦ inr (falls h g.0) ]

    empty : (steps : List Arc) → steps ≡ [] → Each (IsOlder top s order a.from) steps
    empty steps e = subst (λ l. Each (IsOlder top s order a.from) l) (sym e) tt

    older : 0 < order a.from → Each (IsOlder top s order a.from) w.steps
    older h = elim some [
      | inl e ↦ empty w.steps e
      | inr k ↦ all_weaker (IsOlder top s order a.to) (IsOlder top s order a.from) w.steps
          (λ t o. elim o [ inl g ↦ inl g | inr g ↦ inr (let l = falls h k in omega arith) ]) w.older
    ]

-- back at the top
pub walk_closes : (arcs : List Arc) (top closing : ℕ) (s : ℕ → Vertex) (order : ℕ → ℕ) (found : List (ℕ × Bool)) (a : Arc) → WalksOn arcs top s order found a → a.from ≡ top
    → IsNegativeCycle arcs found
walk_closes arcs top closing s order found a w e = record {
  start = top;
  steps = w.steps;
  walk = subst (λ v. IsWalk arcs top v w.steps) e w.walk;
  negative = glue _ _ _ (ap (nexts s) e) w.below;
  once = w.once;
  is = w.is;
}
  where
    glue : (c n t : ℤ) → n ≡ t → (c +ℤ n) <ℤ t → c <ℤ pos 0
    glue c n t e h = omega (arith, ints)

-- on by the arc by which the tail of the arc at hand fell
pub walk_next : (arcs : List Arc) (top closing : ℕ) (s : ℕ → Vertex) (order : ℕ → ℕ) (found : List (ℕ × Bool)) (a : Arc) → IsStuck arcs top closing s order
    → WalksOn arcs top s order found a → 0 < order a.from → (n : Walks arcs top s order found (s a.from).parent) × ((order n.arc.from) < order a.from)
walk_next arcs top closing s order found a stuck w h = (
  record {
    steps = w.steps;
    arc = c.arc;
    is_arc = c.found;
    is = w.is;
    walk = subst (λ v. IsWalk arcs top v w.steps) (sym c.to) w.walk;
    below = glue (costs w.steps) (nexts s a.from) (nexts s c.arc.from) c.arc.cost (nexts s top) c.tight w.below;
    once = w.once;
    among = w.among;
    older = subst (λ v. Each (IsOlder top s order v) w.steps) (sym c.to) (w.older h);
    at_hand = inr (subst (λ v. 0 < order v) (sym c.to) h, ap (nexts s) c.to ∙ c.tight, subst (λ v. (c.arc.from ≡ top) ⊎ (order c.arc.from < order v)) (sym c.to) earlier);
    source = source;
  },
  lower,
)
  where
    c : IsCaused arcs top s order a.from
    c = stuck.caused a.from (stuck.lowered a.from h)

    glue : (x n m k t : ℤ) → n ≡ m +ℤ k → (x +ℤ n) <ℤ t → (x +ℤ (m +ℤ k)) <ℤ t
    glue x n m k t e l = omega (arith, ints)

    earlier : (c.arc.from ≡ top) ⊎ (order c.arc.from < order a.from)
    earlier = elim c.source [
      | inl e ↦ inl e
      | inr g ↦ elim g.1 [ inl z ↦ absurd (omega arith) | inr l ↦ inr l ]
    ]

    source : (c.arc.from ≡ top) ⊎ (0 < order c.arc.from)
    source = elim c.source [ inl e ↦ inl e | inr g ↦ inr g.0 ]

    lower : order c.arc.from < order a.from
    lower = elim earlier [
      | inl e ↦ (let f : order c.arc.from ≡ order top = ap order e in omega (arith, stuck.top_out))
      | inr l ↦ l
    ]
