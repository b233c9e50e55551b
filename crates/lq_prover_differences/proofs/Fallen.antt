-- The list of those that fell, and its front.
use Rattle.std.proofs.Common.{◌≡◌, ◌≢◌, ℕ, ◌+◌, ◌≤◌, ◌<◌, refl, sym, ap, subst, ◌∙◌, arith, List, [], ◌∷◌, ◌++◌, ◌-◌, sum_by, get_or, length-append, Some, slice_get, swap, ◌⊎◌, inl, inr, length}
use Rattle.std.proofs.Math.IntN.{ℤ, pos, ◌+ℤ◌}
use Rattle.std.specs.Int.Signed.{◌≤ℤ◌, ◌<ℤ◌}
use Rattle.std.proofs.lemmas.Int.{ints}
use Rattle.std.proofs.lemmas.Bool.{cases_lt}
use Rattle.std.proofs.lemmas.Option.{slice_get-get_or, slice_get_within, slice_get_read, get_or_from_slice_get}
use Rattle.std.proofs.lemmas.List.Edits.{Swapped, length-swap, swapped_from_swap}
use Rattle.std.proofs.Math.ListN.{set}
use Rattle.lq_prover_differences.specs.declared.vertex.Vertex.{Vertex}
use Rattle.lq_prover_differences.specs.Passes.{vertex_at, AtRest, IsListed, AreListed, IsListedFrom, HasFront, AllBelow, values, nexts, IsLeast, NoneFalls, order_at}
use Rattle.lq_prover_differences.proofs.Passing.{Settles, at_end, at_front, each, one_fewer, same_or, settled_now, there}

pub listed_at : (from : ℕ) (fallen : List ℕ) (v : ℕ) → IsListedFrom from fallen v → (i : ℕ) × (from ≤ i) × (i < length fallen) × (get_or fallen i 0 ≡ v)
listed_at from fallen v l = (l.0, l.1, slice_get_within fallen l.0 v l.2, get_or_from_slice_get fallen l.0 v 0 l.2)

-- no vertex of those behind the first ones fell farther than `low`, if it isn't settled
abbrev pub NoneBelow : List ℕ → ℕ → ℕ → (ℕ → Vertex) → (ℕ → ℕ) → ℤ → Type 0
NoneBelow fallen from upto s order low = (i : ℕ) → i < upto → from ≤ i → order (get_or fallen i 0) ≡ 0 → (low +ℤ values s (get_or fallen i 0)) ≤ℤ nexts s (get_or fallen i 0)

-- where no vertex is settled yet, the front is empty
pub front_none : (fallen : List ℕ) (s : ℕ → Vertex) (order : ℕ → ℕ) → AreListed fallen s order → HasFront fallen 0 s order
front_none fallen s order listed = record {
  listed = listed;
  within = omega arith;
  behind = λ v z. elim (listed v) [ inl l ↦ inl (l.0, omega arith, l.1) | inr r ↦ inr r.0 ];
}

front_on : (fallen later : List ℕ) (settled : ℕ) (s t : ℕ → Vertex) (order : ℕ → ℕ) (v : ℕ) → HasFront fallen settled s order → length fallen ≤ length later
    → ((i u : ℕ) → slice_get fallen i ≡ Some u → slice_get later i ≡ Some u) → IsListed later v → (order v ≡ 0 → IsListedFrom settled later v)
    → ((u : ℕ) → u ≢ v → t u ≡ s u) → HasFront later settled t order
front_on fallen later settled s t order v front longer more here behind others = record {
  listed = λ u. same_or u v
      (λ e. inl (subst (λ w. IsListed later w) (sym e) here))
      (λ n. elim (front.listed u) [
        | inl l ↦ inl (l.0, more l.0 u l.1)
        | inr r ↦ inr (subst (λ (x : Vertex). x.next ≡ x.kept.value) (sym (others u n)) r.0, r.1)
      ]);
  within = let w = front.within in omega arith;
  behind = λ u z. same_or u v
      (λ e. inl (subst (λ w. IsListedFrom settled later w) (sym e) (behind (ap order (sym e) ∙ z))))
      (λ n. elim (front.behind u z) [
        | inl l ↦ inl (l.0, l.1, more l.0 u l.2)
        | inr r ↦ inr (subst (λ (x : Vertex). x.next ≡ x.kept.value) (sym (others u n)) r)
      ]);
}

-- one that falls is put at the end of the list
pub front_pushed : (fallen later : List ℕ) (settled : ℕ) (s t : ℕ → Vertex) (order : ℕ → ℕ) (v : ℕ) → HasFront fallen settled s order → later ≡ fallen ++ v ∷ []
    → ((u : ℕ) → u ≢ v → t u ≡ s u) → HasFront later settled t order
front_pushed fallen later settled s t order v front e others =
    front_on fallen later settled s t order v front (let l = ap length e in omega (arith, length-append fallen (v ∷ [])))
    (λ i u h. ap (λ xs. slice_get xs i) e ∙ at_front fallen v i u h) (length fallen, last) (λ z. (length fallen, front.within, last)) others
  where
    last : slice_get later (length fallen) ≡ Some v
    last = ap (λ xs. slice_get xs (length fallen)) e ∙ at_end fallen v

-- one that fell before is listed
pub front_kept : (fallen : List ℕ) (settled : ℕ) (s t : ℕ → Vertex) (order : ℕ → ℕ) (v : ℕ) → HasFront fallen settled s order → nexts s v ≢ values s v
    → ((u : ℕ) → u ≢ v → t u ≡ s u) → HasFront fallen settled t order
front_kept fallen settled s t order v front apart others =
    front_on fallen fallen settled s t order v front (omega arith) (λ i u h. h) (elim (front.listed v) [ inl l ↦ l | inr r ↦ absurd (apart r.0) ])
    (λ z. elim (front.behind v z) [ inl l ↦ l | inr r ↦ absurd (apart r) ]) others

-- two elements in each other's place
swapped_back : (f g : ℕ → ℕ) (a b : ℕ) → Swapped f g a b → Swapped g f a b
swapped_back f g a b s = (sym s.1, sym s.0, λ i n m. sym (s.2 i n m))

swapped_at : (f g : ℕ → ℕ) (a b i : ℕ) → Swapped f g a b → (j : ℕ) × (g j ≡ f i) × ((j ≡ i) ⊎ ((j ≡ a) ⊎ (j ≡ b)))
swapped_at f g a b i s =
    same_or i a
    (λ e. (b, s.1 ∙ ap f (sym e), inr (inr refl)))
    (λ n. same_or i b (λ e. (a, s.0 ∙ ap f (sym e), inr (inl refl))) (λ m. (i, s.2 i n m, inl refl)))

-- each stands at its place or at one of the two
swapped_listed : (xs ys : List ℕ) (a b from v : ℕ) → Swapped (λ i. get_or xs i 0) (λ i. get_or ys i 0) a b → length ys ≡ length xs → a < length xs → b < length xs → from ≤ a → from ≤ b
    → IsListedFrom from xs v → IsListedFrom from ys v
swapped_listed xs ys a b from v s same inside within h k l =
    let at = listed_at from xs v l in
    let j = swapped_at (λ i. get_or xs i 0) (λ i. get_or ys i 0) a b at.0 s in
    let m = at.1 in
    let n = at.2 in
    let low : from ≤ j.0 = elim j.2 [ inl e ↦ omega arith | inr o ↦ elim o [ inl e ↦ omega arith | inr e ↦ omega arith ] ] in
    let high : j.0 < length ys = elim j.2 [ inl e ↦ omega arith | inr o ↦ elim o [ inl e ↦ omega arith | inr e ↦ omega arith ] ] in
    (j.0, low, slice_get-get_or ys j.0 0 high ∙ ap Some (j.1 ∙ at.3))

pub swapped_below : (xs : List ℕ) (a b n : ℕ) → a < length xs → b < length xs → AllBelow xs n → AllBelow (swap xs a b) n
swapped_below xs a b n inside within below = each ys (λ _ v. v < n) (λ k v e.
    let l = swapped_listed ys xs a b 0 v (swapped_back (λ i. get_or xs i 0) (λ i. get_or ys i 0) a b (swapped_from_swap xs ys a b 0 inside within refl))
    (sym same) (omega (arith, same)) (omega (arith, same)) (omega arith) (omega arith) (k, omega arith, e) in
    there xs (λ v. v < n) l.0 v l.2 (below l.0))
  where
    ys : List ℕ
    ys = swap xs a b

    same : length ys ≡ length xs
    same = length-swap xs a b

-- one that wasn't settled comes to the end of the front, and is settled
pub front_settled : (fallen : List ℕ) (count place v : ℕ) (s : ℕ → Vertex) (order later : ℕ → ℕ) → HasFront fallen count s order → count ≤ place → place < length fallen
    → slice_get fallen place ≡ Some v → IsLeast s order v → Settles order later v count → HasFront (swap fallen count place) (count + 1) s later
front_settled fallen count place v s order later front low high here least settles = record {
  listed = λ t. same_or t v
      (λ e. inl (count, now ∙ ap Some (sym e)))
      (λ n. elim (front.listed t) [
        | inl l ↦ let m = moved 0 t (omega arith) (omega arith) (l.0, omega arith, l.1) in inl (m.0, m.2)
        | inr r ↦ inr (r.0, settles.others t n ∙ r.1)
      ]);
  within = omega (arith, same);
  behind = λ t z. same_or t v
      (λ e. absurd (let f : later t ≡ later v = ap later e in omega (arith, settles.here)))
      (λ n. elim (front.behind t (sym (settles.others t n) ∙ z)) [
        | inl l ↦ inl (on t n (moved count t (omega arith) low l))
        | inr r ↦ inr r
      ]);
}
  where
    ys : List ℕ
    ys = swap fallen count place

    same : length ys ≡ length fallen
    same = length-swap fallen count place

    swapped : Swapped (λ i. get_or fallen i 0) (λ i. get_or ys i 0) count place
    swapped = swapped_from_swap fallen ys count place 0 (omega arith) high refl

    now : slice_get ys count ≡ Some v
    now = slice_get-get_or ys count 0 (omega (arith, same)) ∙ ap Some (swapped.0 ∙ get_or_from_slice_get fallen place v 0 here)

    moved : (from t : ℕ) → from ≤ count → from ≤ place → IsListedFrom from fallen t → IsListedFrom from ys t
    moved from t h k l = swapped_listed fallen ys count place from t swapped same (omega arith) high h k l

    on : (t : ℕ) → t ≢ v → IsListedFrom count ys t → IsListedFrom (count + 1) ys t
    on t n l = same_or l.0 count
        (λ e. let f : Some v ≡ Some t = sym now ∙ ap (λ i. slice_get ys i) (sym e) ∙ l.2 in absurd (n (cc)))
        (λ m. (l.0, let k = l.1 in omega arith, l.2))

-- a vertex is settled and moved to the end of the front
pub record Turn (vertices : List Vertex) (order fallen : List ℕ) (count place v : ℕ) : Type 0 where
  pub within : v < length vertices
  pub least : IsLeast (vertex_at vertices) (order_at order) v
  pub settles : Settles (order_at order) (order_at (set order v (count + 1))) v count
  pub fewer : sum_by (λ o. 1 - o) (set order v (count + 1)) + 1 ≡ sum_by (λ o. 1 - o) order
  pub front : HasFront (swap fallen count place) (count + 1) (vertex_at vertices) (order_at (set order v (count + 1)))
  pub inside : AllBelow (swap fallen count place) (length vertices)

pub turn : (vertices : List Vertex) (order fallen seen : List ℕ) (count place v : ℕ) → length order ≡ length vertices → AllBelow fallen (length vertices)
    → HasFront fallen count (vertex_at vertices) (order_at order) → seen ≡ fallen → (count ≤ place) × (place < length seen)
    → IsLeast (vertex_at vertices) (order_at order) (get_or seen place 0) → v ≡ get_or fallen place v → Turn vertices order fallen count place v
turn vertices order fallen seen count place v same inside front e at least is = record {
  within = within;
  least = is_least;
  settles = settles;
  fewer = one_fewer order v count (omega (arith, within)) is_least.unsettled;
  front = front_settled fallen count place v (vertex_at vertices) (order_at order) _ front at.0 high here is_least settles;
  inside = swapped_below fallen count place (length vertices) (let h = at.0 in omega (arith, high)) high inside;
}
  where
    high : place < length fallen
    high = let h = at.1 in let l = ap length e in omega arith

    here : slice_get fallen place ≡ Some v
    here = slice_get_read fallen (length fallen) place v refl high is

    within : v < length vertices
    within = there fallen (λ w. w < length vertices) place v here (inside place)

    is_least : IsLeast (vertex_at vertices) (order_at order) v
    is_least = subst (λ w. IsLeast (vertex_at vertices) (order_at order) w) (ap (λ l. get_or l place 0) e ∙ get_or_from_slice_get fallen place v 0 here) least

    settles : Settles (order_at order) (order_at (set order v (count + 1))) v count
    settles = settled_now order v count (omega (arith, within))

-- those that are at rest again, and those that are still listed
abbrev pub RestsOrWaits : List ℕ → (ℕ → Vertex) → (ℕ → ℕ) → ℕ → Type 0
RestsOrWaits fallen s order from = (v : ℕ) → AtRest s order v ⊎ IsListedFrom from fallen v

pub rests_at_first : (fallen : List ℕ) (s : ℕ → Vertex) (order : ℕ → ℕ) → AreListed fallen s order → RestsOrWaits fallen s order 0
rests_at_first fallen s order listed v = elim (listed v) [ inl l ↦ inr (l.0, omega arith, l.1) | inr r ↦ inl r ]

pub rests_more : (fallen : List ℕ) (s t : ℕ → Vertex) (order later : ℕ → ℕ) (k x : ℕ) → k < length fallen → get_or fallen k 0 ≡ x → RestsOrWaits fallen s order k → AtRest t later x
    → ((u : ℕ) → u ≢ x → t u ≡ s u) → ((u : ℕ) → u ≢ x → later u ≡ order u) → RestsOrWaits fallen t later (k + 1)
rests_more fallen s t order later k x h is before here others orders v =
    same_or v x
    (λ e. inl (subst (λ w. AtRest t later w) (sym e) here))
    (λ n. elim (before v) [
      | inl r ↦ inl (subst (λ (y : Vertex). y.next ≡ y.kept.value) (sym (others v n)) r.0, orders v n ∙ r.1)
      | inr w ↦ elim (cases_lt k w.0) [
        | inl l ↦ inr (w.0, omega arith, w.2)
        | inr l ↦ let e : w.0 ≡ k = (let m = w.1 in omega arith) in
            absurd (n (sym (get_or_from_slice_get fallen w.0 v 0 w.2) ∙ ap (λ j. get_or fallen j 0) e ∙ is))
      ]
    ])

pub rests_at_last : (fallen : List ℕ) (s : ℕ → Vertex) (order : ℕ → ℕ) (k : ℕ) → length fallen ≤ k → RestsOrWaits fallen s order k → (v : ℕ) → AtRest s order v
rests_at_last fallen s order k h r v = elim (r v) [ inl a ↦ a | inr w ↦ absurd (let l = slice_get_within fallen w.0 v w.2 in let m = w.1 in omega arith) ]

-- the offers to those that are listed were accepted
pub accepted : (fallen : List ℕ) (s t : ℕ → Vertex) (order : ℕ → ℕ) → AreListed fallen s order → ((v : ℕ) → IsListed fallen v → values t v ≡ nexts s v)
    → ((v : ℕ) → IsListed fallen v ⊎ (t v ≡ s v)) → (v : ℕ) → values t v ≡ nexts s v
accepted fallen s t order listed here others v = elim (listed v) [
  | inl l ↦ here v l
  | inr r ↦ elim (others v) [ inl l ↦ here v l | inr e ↦ ap (λ (x : Vertex). x.kept.value) e ∙ sym r.0 ]
]

pub accepted_listed : (fallen : List ℕ) (s t : ℕ → Vertex) (order : ℕ → ℕ) → AreListed fallen s order → ((v : ℕ) → IsListed fallen v ⊎ (t v ≡ s v)) → AreListed fallen t order
accepted_listed fallen s t order listed others v = elim (listed v) [
  | inl l ↦ inl l
  | inr r ↦ elim (others v) [ inl l ↦ inl l | inr e ↦ inr (subst (λ (x : Vertex). x.next ≡ x.kept.value) (sym e) r.0, r.1) ]
]

pub listed_none : (fallen : List ℕ) (s : ℕ → Vertex) (order : ℕ → ℕ) → ((v : ℕ) → AtRest s order v) → AreListed fallen s order
listed_none fallen s order h v = inr (h v)
