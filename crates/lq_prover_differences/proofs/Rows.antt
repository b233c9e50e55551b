-- The arcs of rows: what they say of the rows.
use Rattle.std.proofs.Common.{◌≡◌, ◌≢◌, ℕ, suc, zero, ◌+◌, ◌*◌, ◌≤◌, ◌<◌, ◌^◌, refl, sym, ap, ap₂, subst, ◌∙◌, arith, List, [], ◌∷◌, ◌++◌, Bool, true, false, Option, Some, None, Result, Ok, Err, OnOk, IfErr, IfSome, IsNone, MatchBool, if◌then◌else◌, ◌==◌, nat_lt, slice_get, ◌⊎◌, inl, inr, length, take, drop, get_or, append_assoc, unsigned_abs, All, FitsSigned}
use Rattle.std.specs.Int.{w128}
use Rattle.std.proofs.lemmas.Bool.{cases_lt}
use Rattle.std.proofs.Math.IntN.{ℤ, pos, negsuc, ◌+ℤ◌, ◌-ℤ◌}
use Rattle.std.specs.Int.Signed.{◌≤ℤ◌, ◌<ℤ◌}
use Rattle.std.proofs.lemmas.Int.{ints}
use Rattle.std.proofs.lemmas.List.{take_more, take_all, take_at, take-take, take-append-le, take-append-drop, length-take-le, get_or-take, get_or_append_left, get_or_at}
use Rattle.std.proofs.lemmas.List.Elements.{All-nil, All-cons}
use borrow.Author.Differences.{down}
use Rattle.lq_base_numbers.specs.Rationals.Rational.{ℚ, whole, ◌+ℚ◌, ◌-ℚ◌, ◌*ℚ◌}
use Rattle.lq_base_numbers.specs.Rationals.RationalOrder.{◌≤ℚ◌, NotNegative, NotNegative-whole}
use Rattle.lq_base_numbers.specs.Rationals.Whole.{whole-sum, whole-difference, whole_at_most, whole_below}
use Rattle.lq_base_numbers.specs.Rationals.Solver.{var, con, ◌⊕◌, ◌⊖◌, ◌⊗◌, solve}
use Rattle.lq_logic_rows.specs.Row.{Row, Valuation, level, sum_at, RowHolds}
use Rattle.lq_logic_rows.specs.Contradiction.{Solves, tagged, IsFair, AllFair, NamesOnce, level_of, weighted, IsContradiction}
use Rattle.lq_prover_differences.specs.declared.arc.Arc.{Arc}
use Rattle.lq_prover_differences.specs.declared.arc.Edge.{Edge}
use Rattle.lq_prover_differences.specs.Arcs.{Potentials, ArcHolds, Meets, falls}
use Rattle.lq_prover_differences.specs.Climb.{parts}
use Rattle.lq_prover_differences.specs.Cycles.{Each, IsAmong, IsWalk, costs, TagsOnce, marks, IsNegativeCycle, ArePaired}
use Rattle.lq_prover_differences.specs.Edges.{parts_of, row_of, standing_of, forward, backward, arcs_by, arcs_of, sizes, EdgesInRange, HasNoTag, TagsApart}
use Rattle.lq_prover_differences.specs.Passes.{AllInRange}
use Rattle.lq_prover_differences.specs.Solving.{IsBounded}
use Rattle.lq_prover_differences.specs.Range.{InRange, in_range}
use Rattle.lq_prover_differences.specs.Passes.{blank, vertex_at, values}
use Rattle.lq_prover_differences.specs.declared.vertex.Vertex.{Vertex}
use Rattle.std.proofs.lemmas.Option.{slice_get-get_or}
use Rattle.lq_prover_differences.specs.Solving.{IsSolved}
use Rattle.lq_logic_rows.specs.Answers.{Held, last_of}
use Rattle.lq_logic_rows.specs.declared.engine.Answer.{Answer}
use Rattle.lq_logic_rows.specs.declared.engine.Answer.TheVariants.{Unasked, Solved, Contradicted, GaveUp}
use Rattle.lq_prover_differences.specs.declared.graph.Graph.{Graph}
use Rattle.lq_prover_differences.specs.declared.graph.Start.{Start}
use Rattle.lq_prover_differences.specs.Trail.{start_at}
use Rattle.lq_prover_differences.specs.Graphs.{HasNotes, HasPlace, HasRoom, IsGraph, SameItems, SameRoom, admitted}
use Rattle.lq_prover_differences.specs.Stops.{PastBy}
use Rattle.lq_logic_rows.specs.declared.engine.LinearStop.{LinearStop}
use Rattle.lq_logic_rows.specs.declared.engine.LinearStop.TheVariants.{Number, Pivots, Memory}
use Rattle.lq_logic_rows.specs.declared.limits.TheConstants.{SUM_LIMIT}
use Rattle.lq_prover_differences.specs.Table.{Table, table_point, table_rows, multiplier_of, multipliers_of, table_last, value_at, over_zero, constants, AllFit, IsDecided, IsStanding, IsTable, TermsBelow}
use Rattle.lq_prover_differences.proofs.Passing.{each, there}

-- ---- the arcs of a list of rows
pub arcs_of-append : (xs ys : List Edge) → arcs_of (xs ++ ys) ≡ arcs_of xs ++ arcs_of ys
arcs_of-append [] ys = refl
arcs_of-append (x ∷ xs) ys = ap (λ l. arcs_by x x.equal ++ l) (arcs_of-append xs ys) ∙ sym (append_assoc (arcs_by x x.equal) (arcs_of xs) (arcs_of ys))

append_nil : (xs : List Arc) → xs ++ [] ≡ xs
append_nil [] = refl
append_nil (x ∷ xs) = ap (λ l. x ∷ l) (append_nil xs)

pub arcs_more : (edges : List Edge) (k : ℕ) (d : Edge) → k < length edges → arcs_of (take (k + 1) edges) ≡ arcs_of (take k edges) ++ arcs_by (get_or edges k d) (get_or edges k d).equal
arcs_more edges k d h = ap arcs_of (take_more edges k d h) ∙ arcs_of-append (take k edges) (get_or edges k d ∷ [])
    ∙ ap (λ l. arcs_of (take k edges) ++ l) (append_nil (arcs_by (get_or edges k d) (get_or edges k d).equal))

-- where an arc comes from
abbrev pub edge_by : List Edge → ℕ → Option Edge
edge_by [] tag = None
edge_by (e ∷ edges) tag = if e.tag == tag then Some e else edge_by edges tag

pub record IsFrom (edges : List Edge) (a : Arc) : Type 0 where
  pub edge : Edge
  pub found : edge_by edges a.tag ≡ Some edge
  pub is : (a ≡ forward edge) ⊎ ((edge.equal ≡ true) × (a ≡ backward edge))

by_eqb : (m n : ℕ) {P : Type 0} → (m == n ≡ true → P) → (m == n ≡ false → P) → P
by_eqb m n {P} f g = by (m == n) refl
  where
    by : (b : Bool) → m == n ≡ b → P
    by true e = f e
    by false e = g e

same_true : (n : ℕ) → n == n ≡ true
same_true n = grind arith

same_of : (m n : ℕ) → m == n ≡ true → m ≡ n
same_of m n h = grind arith

found_here : (e : Edge) (edges : List Edge) (tag : ℕ) → e.tag ≡ tag → edge_by (e ∷ edges) tag ≡ Some e
found_here e edges tag h = ap (λ b. if b then Some e else edge_by edges tag) (ap (λ t. e.tag == t) (sym h) ∙ same_true e.tag)

no_tag : (edges : List Edge) (tag : ℕ) (e : Edge) → HasNoTag tag edges → edge_by edges tag ≡ Some e → ⊥
no_tag [] tag e h f = cc
no_tag (x ∷ edges) tag e h f = by_eqb x.tag tag
    (λ g. h.0 (same_of x.tag tag g))
    (λ g. no_tag edges tag e h.1 (sym (ap (λ b. if b then Some x else edge_by edges tag) g) ∙ f))

-- an arc of the first row, or of the others
split_arc : (e : Edge) (b : Bool) (rest : List Arc) (k : ℕ) (a : Arc) → e.equal ≡ b → slice_get (arcs_by e b ++ rest) k ≡ Some a
    → (a ≡ forward e) ⊎ (((e.equal ≡ true) × (a ≡ backward e)) ⊎ ((j : ℕ) × (slice_get rest j ≡ Some a)))
split_arc e true rest zero a q h = inl (cc)
split_arc e true rest (suc zero) a q h = inr (inl (q, cc))
split_arc e true rest (suc (suc k)) a q h = inr (inr (k, h))
split_arc e false rest zero a q h = inl (cc)
split_arc e false rest (suc k) a q h = inr (inr (k, h))

pub is_from : (edges : List Edge) (k : ℕ) (a : Arc) → TagsApart edges → slice_get (arcs_of edges) k ≡ Some a → IsFrom edges a
is_from [] k a t h = absurd (cc)
is_from (e ∷ edges) k a t h = elim (split_arc e e.equal (arcs_of edges) k a refl h) [
  | inl f ↦ record { edge = e; found = found_here e edges a.tag (sym (ap (λ (x : Arc). x.tag) f)); is = inl f }
  | inr g ↦ elim g [
    | inl f ↦ record { edge = e; found = found_here e edges a.tag (sym (ap (λ (x : Arc). x.tag) f.1)); is = inr f }
    | inr f ↦ later (is_from edges f.0 a t.1 f.1)
  ]
]
  where
    later : IsFrom edges a → IsFrom (e ∷ edges) a
    later r =
        by_eqb e.tag a.tag
        (λ g. absurd (no_tag edges e.tag r.edge t.0 (ap (edge_by edges) (same_of e.tag a.tag g) ∙ r.found)))
        (λ g. record { edge = r.edge; found = ap (λ b. if b then Some e else edge_by edges a.tag) g ∙ r.found; is = r.is })

pub paired : (edges : List Edge) → TagsApart edges → ArePaired (arcs_of edges)
paired edges t j k a b f g same =
    let r : IsFrom edges a = is_from edges j a t f in
    let s : IsFrom edges b = is_from edges k b t g in
    let e : Some r.edge ≡ Some s.edge = sym r.found ∙ ap (edge_by edges) same ∙ s.found in
    let q : r.edge ≡ s.edge = cc in
    elim r.is [
      | inl x ↦ elim s.is [
        | inl y ↦ record { ends = inl (same_from (x ∙ ap forward q ∙ sym y)) }
        | inr y ↦ record { ends = inr (turned r.edge x (y.1 ∙ ap backward (sym q))) }
      ]
      | inr x ↦ elim s.is [
        | inl y ↦ record { ends = inr (turned_back r.edge x.1 (y ∙ ap forward (sym q))) }
        | inr y ↦ record { ends = inl (same_from (x.1 ∙ ap backward q ∙ sym y.1)) }
      ]
    ]
  where
    same_from : {c d : Arc} → c ≡ d → (c.from ≡ d.from) × (c.to ≡ d.to)
    same_from {c} {d} e = (ap (λ (x : Arc). x.from) e, ap (λ (x : Arc). x.to) e)

    opposite : (x y w : ℤ) → x ≡ pos 0 -ℤ w → y ≡ w → x +ℤ y ≡ pos 0
    opposite x y w e f = omega (arith, ints)

    opposite_back : (x y w : ℤ) → x ≡ w → y ≡ pos 0 -ℤ w → x +ℤ y ≡ pos 0
    opposite_back x y w e f = omega (arith, ints)

    turned : {c d : Arc} (e : Edge) → c ≡ forward e → d ≡ backward e → (c.from ≡ d.to) × (c.to ≡ d.from) × (c.cost +ℤ d.cost ≡ pos 0)
    turned {c} {d} e f g = (
      ap (λ (x : Arc). x.from) f ∙ sym (ap (λ (x : Arc). x.to) g),
      ap (λ (x : Arc). x.to) f ∙ sym (ap (λ (x : Arc). x.from) g),
      opposite c.cost d.cost e.weight (ap (λ (x : Arc). x.cost) f) (ap (λ (x : Arc). x.cost) g),
    )

    turned_back : {c d : Arc} (e : Edge) → c ≡ backward e → d ≡ forward e → (c.from ≡ d.to) × (c.to ≡ d.from) × (c.cost +ℤ d.cost ≡ pos 0)
    turned_back {c} {d} e f g = (
      ap (λ (x : Arc). x.from) f ∙ sym (ap (λ (x : Arc). x.to) g),
      ap (λ (x : Arc). x.to) f ∙ sym (ap (λ (x : Arc). x.from) g),
      opposite_back c.cost d.cost e.weight (ap (λ (x : Arc). x.cost) f) (ap (λ (x : Arc). x.cost) g),
    )

pub arcs_in_range : (edges : List Edge) (n : ℕ) → EdgesInRange edges n → AllInRange (arcs_of edges) n
arcs_in_range [] n h = λ k. tt
arcs_in_range (e ∷ edges) n h = each (arcs_of (e ∷ edges)) (λ k a. (a.from < n) × (a.to < n)) (λ k a f. elim (split_arc e e.equal (arcs_of edges) k a refl f) [
  | inl g ↦ subst (λ (x : Arc). (x.from < n) × (x.to < n)) (sym g) (h.0, h.1)
  | inr g ↦ elim g [
    | inl i ↦ subst (λ (x : Arc). (x.from < n) × (x.to < n)) (sym i.1) (h.1, h.0)
    | inr i ↦ there (arcs_of edges) (λ a. (a.from < n) × (a.to < n)) i.0 a i.1 (arcs_in_range edges n h.2 i.0)
  ]
])

-- ---- sizes
abs_low : (w : ℤ) → down (pos 0 -ℤ w) + down w ≤ unsigned_abs w
abs_low (pos zero) = omega (arith, ints, parts (pos 0 -ℤ pos zero))
abs_low (pos (suc n)) = omega (arith, ints, parts (pos 0 -ℤ pos (suc n)))
abs_low (negsuc n) = omega (arith, ints, parts (pos 0 -ℤ negsuc n))

abs_high : (w : ℤ) → ((pos 0 -ℤ w) ≤ℤ pos (unsigned_abs w)) × (w ≤ℤ pos (unsigned_abs w))
abs_high (pos n) = (omega (arith, ints), omega (arith, ints))
abs_high (negsuc n) = (omega (arith, ints), omega (arith, ints))

falls_by : (e : Edge) (b : Bool) (rest : List Arc) → falls (arcs_by e b ++ rest) ≤ unsigned_abs e.weight + falls rest
falls_by e true rest = omega (arith, abs_low e.weight)
falls_by e false rest = omega (arith, abs_low e.weight)

pub falls_sizes : (edges : List Edge) → falls (arcs_of edges) ≤ sizes edges
falls_sizes [] = omega arith
falls_sizes (e ∷ edges) = omega (arith, falls_by e e.equal (arcs_of edges), falls_sizes edges)

wide : (x : ℤ) (m n : ℕ) → x ≤ℤ pos m → m ≤ n → x ≤ℤ pos n
wide x m n h k = omega (arith, ints)

at_most_sum : (m n : ℕ) → m ≤ m + n
at_most_sum m n = omega arith

at_most_other : (m n : ℕ) → n ≤ m + n
at_most_other m n = omega arith

costs_sizes : (edges : List Edge) (k : ℕ) → IfSome (slice_get (arcs_of edges) k) (λ a. a.cost ≤ℤ pos (sizes edges))
costs_sizes [] = λ k. tt
costs_sizes (e ∷ edges) = each (arcs_of (e ∷ edges)) (λ k a. a.cost ≤ℤ pos (sizes (e ∷ edges))) (λ k a f. elim (split_arc e e.equal (arcs_of edges) k a refl f) [
  | inl g ↦ subst (λ (x : Arc). x.cost ≤ℤ pos (sizes (e ∷ edges))) (sym g) (wide _ _ _ (abs_high e.weight).0 (at_most_sum (unsigned_abs e.weight) (sizes edges)))
  | inr g ↦ elim g [
    | inl i ↦ subst (λ (x : Arc). x.cost ≤ℤ pos (sizes (e ∷ edges))) (sym i.1) (wide _ _ _ (abs_high e.weight).1 (at_most_sum (unsigned_abs e.weight) (sizes edges)))
    | inr i ↦ wide _ _ _ (there (arcs_of edges) (λ a. a.cost ≤ℤ pos (sizes edges)) i.0 a i.1 (costs_sizes edges i.0)) (at_most_other (unsigned_abs e.weight) (sizes edges))
  ]
])

pub bounded : (edges : List Edge) → IsBounded (sizes edges) (arcs_of edges)
bounded edges = record { fall = falls_sizes edges; costs = costs_sizes edges }

pub sizes_are : (edges : List Edge) → constants (standing_of edges) ≡ sizes edges
sizes_are [] = refl
sizes_are (e ∷ edges) = ap (λ n. unsigned_abs e.weight + n) (sizes_are edges)

-- ---- a row's level
abbrev pub at_vertex : Valuation → ℕ → ℚ
at_vertex v zero = whole (pos 0)
at_vertex v (suc t) = v t

pub level_is : (v : Valuation) (from to : ℕ) → sum_at v (parts_of from to) ≡ at_vertex v to -ℚ at_vertex v from
level_is v zero zero = solve [] (con (pos 0)) (con (pos 0) ⊖ con (pos 0)) refl
level_is v zero (suc t) = solve (v t ∷ []) (con (pos 1) ⊗ var 0 ⊕ con (pos 0)) (var 0 ⊖ con (pos 0)) refl
level_is v (suc u) zero = solve (v u ∷ []) (con (negsuc 0) ⊗ var 0 ⊕ con (pos 0)) (con (pos 0) ⊖ var 0) refl
level_is v (suc u) (suc t) = by (nat_lt u t)
  where
    by : (b : Bool) → sum_at v (if b then (u, negsuc 0) ∷ (t, pos 1) ∷ [] else (t, pos 1) ∷ (u, negsuc 0) ∷ []) ≡ v t -ℚ v u
    by true = solve (v u ∷ v t ∷ []) (con (negsuc 0) ⊗ var 0 ⊕ (con (pos 1) ⊗ var 1 ⊕ con (pos 0))) (var 1 ⊖ var 0) refl
    by false = solve (v u ∷ v t ∷ []) (con (pos 1) ⊗ var 1 ⊕ (con (negsuc 0) ⊗ var 0 ⊕ con (pos 0))) (var 1 ⊖ var 0) refl

-- ---- a closed walk is a contradiction
abbrev arc_level : Valuation → Arc → ℚ
arc_level v a = at_vertex v a.to -ℚ at_vertex v a.from -ℚ whole a.cost

tagged_is : (edges : List Edge) (tag : ℕ) (e : Edge) → edge_by edges tag ≡ Some e → tagged (standing_of edges) tag ≡ Some (row_of e)
tagged_is [] tag e h = absurd (cc)
tagged_is (x ∷ edges) tag e h = by_eqb x.tag tag
    (λ g. ap (λ b. if b then Some (row_of x) else tagged (standing_of edges) tag) g
    ∙ ap (λ (y : Edge). Some (row_of y)) (same_Some_edge x e (sym (ap (λ b. if b then Some x else edge_by edges tag) g) ∙ h)))
    (λ g. ap (λ b. if b then Some (row_of x) else tagged (standing_of edges) tag) g
    ∙ tagged_is edges tag e (sym (ap (λ b. if b then Some x else edge_by edges tag) g) ∙ h))
  where
    same_Some_edge : (x y : Edge) → Some x ≡ Some y → x ≡ y
    same_Some_edge x y h = cc

abbrev mark : Arc → ℕ × Bool
mark a = (a.tag, a.forward)

step_level : (edges : List Edge) (v : Valuation) (a : Arc) → IsFrom edges a → (multiplier_of (mark a)).1 *ℚ level_of v (tagged (standing_of edges) a.tag) ≡ arc_level v a
step_level edges v a r =
    ap (λ o. (multiplier_of (mark a)).1 *ℚ level_of v o) (tagged_is edges a.tag r.edge r.found)
    ∙ elim r.is [ inl f ↦ ahead f | inr f ↦ back f.1 ]
  where
    e : Edge
    e = r.edge

    level_of_edge : level v (row_of e) ≡ at_vertex v e.to -ℚ at_vertex v e.from +ℚ whole e.weight
    level_of_edge = ap (λ x. x +ℚ whole e.weight) (level_is v e.from e.to)

    ahead : a ≡ forward e → (multiplier_of (mark a)).1 *ℚ level v (row_of e) ≡ arc_level v a
    ahead f = subst (λ (x : Arc). (multiplier_of (mark x)).1 *ℚ level v (row_of e) ≡ arc_level v x) (sym f)
        (ap (λ x. whole (pos 1) *ℚ x) level_of_edge
        ∙ solve (at_vertex v e.to ∷ at_vertex v e.from ∷ whole e.weight ∷ []) (con (pos 1) ⊗ (var 0 ⊖ var 1 ⊕ var 2)) (var 0 ⊖ var 1 ⊖ (con (pos 0) ⊖ var 2)) refl
        ∙ ap (λ x. at_vertex v e.to -ℚ at_vertex v e.from -ℚ x) (whole-difference (pos 0) e.weight))

    back : a ≡ backward e → (multiplier_of (mark a)).1 *ℚ level v (row_of e) ≡ arc_level v a
    back f = subst (λ (x : Arc). (multiplier_of (mark x)).1 *ℚ level v (row_of e) ≡ arc_level v x) (sym f)
        (ap (λ x. whole (negsuc 0) *ℚ x) level_of_edge
        ∙ solve (at_vertex v e.to ∷ at_vertex v e.from ∷ whole e.weight ∷ []) (con (negsuc 0) ⊗ (var 0 ⊖ var 1 ⊕ var 2)) (var 1 ⊖ var 0 ⊖ var 2) refl)

walk_sum : (edges : List Edge) (v : Valuation) (a b : ℕ) (steps : List Arc) → TagsApart edges → IsWalk (arcs_of edges) a b steps
    → weighted v (standing_of edges) (multipliers_of (marks steps)) ≡ at_vertex v a -ℚ at_vertex v b -ℚ whole (costs steps)
walk_sum edges v a b [] t h =
    solve (at_vertex v a ∷ []) (con (pos 0)) (var 0 ⊖ var 0 ⊖ con (pos 0)) refl ∙ ap (λ n. at_vertex v a -ℚ at_vertex v n -ℚ whole (pos 0)) h
walk_sum edges v a b (s ∷ steps) t h =
    ap₂ (λ x y. x +ℚ y) (step_level edges v s (is_from edges h.0.0 s t h.0.1)) (walk_sum edges v s.from b steps t h.2)
    ∙ solve (at_vertex v s.to ∷ at_vertex v s.from ∷ at_vertex v b ∷ whole s.cost ∷ whole (costs steps) ∷ [])
    (var 0 ⊖ var 1 ⊖ var 3 ⊕ (var 1 ⊖ var 2 ⊖ var 4)) (var 0 ⊖ var 2 ⊖ (var 3 ⊕ var 4)) refl
    ∙ ap₂ (λ n x. at_vertex v n -ℚ at_vertex v b -ℚ x) h.1 (whole-sum s.cost (costs steps))

fair_step : (edges : List Edge) (a : Arc) → IsFrom edges a → IsFair (tagged (standing_of edges) a.tag) (multiplier_of (mark a)).1
fair_step edges a r = subst (λ o. IsFair o (multiplier_of (mark a)).1) (sym (tagged_is edges a.tag r.edge r.found))
    (elim r.is [
      | inl f ↦ subst (λ (x : Arc). MatchBool r.edge.equal (Unit {0}) (NotNegative (multiplier_of (mark x)).1)) (sym f) (anything r.edge.equal)
      | inr f ↦ subst (λ b. MatchBool b (Unit {0}) (NotNegative (multiplier_of (mark a)).1)) (sym f.0) tt
    ])
  where
    anything : (b : Bool) → MatchBool b (Unit {0}) (NotNegative (whole (pos 1)))
    anything true = tt
    anything false = NotNegative-whole 1

fair_walk : (edges : List Edge) (a b : ℕ) (steps : List Arc) → TagsApart edges → IsWalk (arcs_of edges) a b steps → AllFair (standing_of edges) (multipliers_of (marks steps))
fair_walk edges a b [] t h = tt
fair_walk edges a b (s ∷ steps) t h = (fair_step edges s (is_from edges h.0.0 s t h.0.1), fair_walk edges s.from b steps t h.2)

others_once : (tag : ℕ) (steps : List Arc) → Each (λ other. other.tag ≢ tag) steps → All (λ other. other.0 ≢ tag) (multipliers_of (marks steps))
others_once tag [] h = All-nil (λ (other : ℕ × ℚ). other.0 ≢ tag)
others_once tag (s ∷ steps) h = All-cons (λ (other : ℕ × ℚ). other.0 ≢ tag) (multiplier_of (mark s)) (multipliers_of (marks steps)) h.0 (others_once tag steps h.1)

names_once : (steps : List Arc) → TagsOnce steps → NamesOnce (multipliers_of (marks steps))
names_once [] h = tt
names_once (s ∷ steps) h = (others_once s.tag steps h.0, names_once steps h.1)

pub contradiction : (edges : List Edge) (found : List (ℕ × Bool)) → TagsApart edges → IsNegativeCycle (arcs_of edges) found → IsContradiction (standing_of edges) (multipliers_of found)
contradiction edges found t c = subst (λ l. IsContradiction (standing_of edges) (multipliers_of l)) (sym c.is) (record {
  fair = fair_walk edges c.start c.start c.steps t c.walk;
  once = names_once c.steps c.once;
  gap = whole (pos 0 -ℤ costs c.steps);
  above = whole_below (pos 0) (pos 0 -ℤ costs c.steps) (turned (costs c.steps) c.negative);
  sum = λ v. walk_sum edges v c.start c.start c.steps t c.walk
      ∙ solve (at_vertex v c.start ∷ whole (costs c.steps) ∷ []) (var 0 ⊖ var 0 ⊖ var 1) (con (pos 0) ⊖ var 1) refl
      ∙ whole-difference (pos 0) (costs c.steps);
})
  where
    turned : (x : ℤ) → x <ℤ pos 0 → pos 0 <ℤ (pos 0 -ℤ x)
    turned x h = omega (arith, ints)

-- ---- potentials that meet the arcs solve the rows
first_meets : (e : Edge) (b : Bool) (rest : List Arc) (p : Potentials) → Meets p (arcs_by e b ++ rest)
    → ArcHolds p (forward e) × MatchBool b (ArcHolds p (backward e)) (Unit {0}) × Meets p rest
first_meets e true rest p h = (h 0, h 1, λ k. h (suc (suc k)))
first_meets e false rest p h = (h 0, tt, λ k. h (suc k))

row_level : (v : Valuation) (p : Potentials) (n : ℕ) (e : Edge) → e.from < n → e.to < n → ((k : ℕ) → k < n → at_vertex v k ≡ whole (p k -ℤ p 0))
    → level v (row_of e) ≡ whole ((p e.to -ℤ p e.from) +ℤ e.weight)
row_level v p n e f t h =
    ap (λ x. x +ℚ whole e.weight) (level_is v e.from e.to ∙ ap₂ (λ x y. x -ℚ y) (h e.to t) (h e.from f) ∙ whole-difference (p e.to -ℤ p 0) (p e.from -ℤ p 0))
    ∙ whole-sum ((p e.to -ℤ p 0) -ℤ (p e.from -ℤ p 0)) e.weight
    ∙ ap whole (over (p e.to) (p e.from) (p 0) e.weight)
  where
    over : (t f z w : ℤ) → ((t -ℤ z) -ℤ (f -ℤ z)) +ℤ w ≡ (t -ℤ f) +ℤ w
    over t f z w = omega (arith, ints)

row_holds : (v : Valuation) (p : Potentials) (e : Edge) (b : Bool) → e.equal ≡ b → level v (row_of e) ≡ whole ((p e.to -ℤ p e.from) +ℤ e.weight)
    → ArcHolds p (forward e) → MatchBool b (ArcHolds p (backward e)) (Unit {0}) → RowHolds v (row_of e)
row_holds v p e true q l f g = subst (λ b. MatchBool b (level v (row_of e) ≡ whole (pos 0)) (level v (row_of e) ≤ℚ whole (pos 0))) (sym q)
    (l ∙ ap whole (is_zero (p e.to) (p e.from) e.weight f g))
  where
    is_zero : (t f w : ℤ) → t ≤ℤ (f +ℤ (pos 0 -ℤ w)) → f ≤ℤ (t +ℤ w) → (t -ℤ f) +ℤ w ≡ pos 0
    is_zero t f w h k = omega (arith, ints)
row_holds v p e false q l f g = subst (λ b. MatchBool b (level v (row_of e) ≡ whole (pos 0)) (level v (row_of e) ≤ℚ whole (pos 0))) (sym q)
    (subst (λ x. x ≤ℚ whole (pos 0)) (sym l) (whole_at_most _ (pos 0) (is_low (p e.to) (p e.from) e.weight f)))
  where
    is_low : (t f w : ℤ) → t ≤ℤ (f +ℤ (pos 0 -ℤ w)) → ((t -ℤ f) +ℤ w) ≤ℤ pos 0
    is_low t f w h = omega (arith, ints)

pub solves : (edges : List Edge) (v : Valuation) (p : Potentials) (n : ℕ) → EdgesInRange edges n → Meets p (arcs_of edges) → ((k : ℕ) → k < n → at_vertex v k ≡ whole (p k -ℤ p 0))
    → Solves v (standing_of edges)
solves [] v p n r m h = tt
solves (e ∷ edges) v p n r m h =
    let f = first_meets e e.equal (arcs_of edges) p m in
    (row_holds v p e e.equal refl (row_level v p n e r.0 r.1 h) f.0 f.1, solves edges v p n r.2 f.2 h)

-- ---- one more row, and fewer
pub standing_more : (edges : List Edge) (e : Edge) → standing_of (edges ++ e ∷ []) ≡ standing_of edges ++ (e.tag, row_of e) ∷ []
standing_more [] e = refl
standing_more (x ∷ edges) e = ap (λ l. (x.tag, row_of x) ∷ l) (standing_more edges e)

pub standing_length : (edges : List Edge) → length (standing_of edges) ≡ length edges
standing_length [] = refl
standing_length (x ∷ edges) = ap suc (standing_length edges)

pub standing_taken : (n : ℕ) (edges : List Edge) → standing_of (take n edges) ≡ take n (standing_of edges)
standing_taken zero edges = refl
standing_taken (suc n) [] = refl
standing_taken (suc n) (x ∷ edges) = ap (λ l. (x.tag, row_of x) ∷ l) (standing_taken n edges)

pub range_more : (edges : List Edge) (e : Edge) (n : ℕ) → EdgesInRange edges n → e.from < n → e.to < n → EdgesInRange (edges ++ e ∷ []) n
range_more [] e n h f t = (f, t, tt)
range_more (x ∷ edges) e n h f t = (h.0, h.1, range_more edges e n h.2 f t)

pub range_taken : (k : ℕ) (edges : List Edge) (n : ℕ) → EdgesInRange edges n → EdgesInRange (take k edges) n
range_taken zero edges n h = tt
range_taken (suc k) [] n h = tt
range_taken (suc k) (x ∷ edges) n h = (h.0, h.1, range_taken k edges n h.2)

none_more : (tag : ℕ) (edges : List Edge) (e : Edge) → HasNoTag tag edges → e.tag ≢ tag → HasNoTag tag (edges ++ e ∷ [])
none_more tag [] e h n = (n, tt)
none_more tag (x ∷ edges) e h n = (h.0, none_more tag edges e h.1 n)

none_taken : (tag k : ℕ) (edges : List Edge) → HasNoTag tag edges → HasNoTag tag (take k edges)
none_taken tag zero edges h = tt
none_taken tag (suc k) [] h = tt
none_taken tag (suc k) (x ∷ edges) h = (h.0, none_taken tag k edges h.1)

pub apart_more : (edges : List Edge) (e : Edge) → TagsApart edges → HasNoTag e.tag edges → TagsApart (edges ++ e ∷ [])
apart_more [] e h n = (tt, tt)
apart_more (x ∷ edges) e h n = (none_more x.tag edges e h.0 (λ f. n.0 (sym f)), apart_more edges e h.1 n.1)

pub apart_taken : (k : ℕ) (edges : List Edge) → TagsApart edges → TagsApart (take k edges)
apart_taken zero edges h = tt
apart_taken (suc k) [] h = tt
apart_taken (suc k) (x ∷ edges) h = (none_taken x.tag k edges h.0, apart_taken k edges h.1)

pub fresh_tag : (edges : List Edge) (tag : ℕ) → IsNone (tagged (standing_of edges) tag) → HasNoTag tag edges
fresh_tag [] tag h = tt
fresh_tag (x ∷ edges) tag h = by_eqb x.tag tag
    (λ g. absurd (some_none (row_of x) (subst (λ b. IsNone (if b then Some (row_of x) else tagged (standing_of edges) tag)) g h)))
    (λ g. (
      λ f. absurd (let s = same_true tag in let q : x.tag == tag ≡ tag == tag = ap (λ t. t == tag) f in true_false (sym s ∙ sym q ∙ g)),
      fresh_tag edges tag (subst (λ b. IsNone (if b then Some (row_of x) else tagged (standing_of edges) tag)) g h),
    ))
  where
    true_false : true ≡ false → ⊥
    true_false h = cc

    some_none : (r : Row) → IsNone (Some r) → ⊥
    some_none r h = true_false h

-- a weight whose negation has no form
pub large_weight : (edges : List Edge) (k : ℕ) (d : Edge) → k < length edges → ¬ (FitsSigned w128 (pos 0 -ℤ (get_or edges k d).weight)) → 2 ^ 126 ≤ sizes edges
large_weight edges k d h past = omega (arith, size_within edges k d h, at_least (get_or edges k d).weight past)
  where
    fits : (w : ℤ) → unsigned_abs w < 2 ^ 126 → FitsSigned w128 (pos 0 -ℤ w)
    fits (pos n) h = omega (arith, ints)
    fits (negsuc n) h = omega (arith, ints)

    at_least : (w : ℤ) → ¬ (FitsSigned w128 (pos 0 -ℤ w)) → 2 ^ 126 ≤ unsigned_abs w
    at_least w past = elim (cases_lt (unsigned_abs w) (2 ^ 126)) [ inl l ↦ absurd (past (fits w l)) | inr l ↦ l ]

    size_within : (edges : List Edge) (k : ℕ) (d : Edge) → k < length edges → unsigned_abs (get_or edges k d).weight ≤ sizes edges
    size_within [] k d h = absurd (omega arith)
    size_within (e ∷ edges) zero d h = omega arith
    size_within (e ∷ edges) (suc k) d h = omega (arith, size_within edges k d (omega arith))

pub near_sizes : (edges : List Edge) (p : Potentials) → IsSolved (arcs_of edges) p → InRange p (sizes edges)
near_sizes edges p s = record {
  apart = λ u v. more _ _ _ _ (r.apart u v) f;
  above = λ u. wide _ _ _ (r.above u) f;
  below = λ u. more _ _ _ _ (r.below u) f;
}
  where
    r : InRange p (falls (arcs_of edges))
    r = in_range s.placed (arcs_of edges) p s.greatest

    f : falls (arcs_of edges) ≤ sizes edges
    f = falls_sizes edges

    more : (x y : ℤ) (m n : ℕ) → x ≤ℤ (y +ℤ pos m) → m ≤ n → x ≤ℤ (y +ℤ pos n)
    more x y m n h k = omega (arith, ints)

-- ---- the values
pub value_in : (t : Table) (k : ℕ) → suc k < length t.vertices → value_at t k ≡ values (vertex_at t.vertices) (suc k) -ℤ values (vertex_at t.vertices) 0
value_in t k l = ap (λ (o : Option Vertex). over_zero o (values (vertex_at t.vertices) 0)) (slice_get-get_or t.vertices (suc k) blank l)

past : {A : Type 0} (xs : List A) (k : ℕ) → length xs ≤ k → slice_get xs k ≡ None
past [] k l = refl
past (x ∷ xs) zero l = absurd (omega arith)
past (x ∷ xs) (suc k) l = past xs k (omega arith)

pub answer_solves : (t : Table) → EdgesInRange t.edges (length t.vertices) → IsSolved (arcs_of t.edges) (values (vertex_at t.vertices)) → Solves (table_point t) (table_rows t)
answer_solves t r a = solves t.edges (table_point t) p (length t.vertices) r a.greatest.meets at
  where
    p : Potentials
    p = values (vertex_at t.vertices)

    self : (x : ℤ) → pos 0 ≡ x -ℤ x
    self x = omega (arith, ints)

    at : (k : ℕ) → k < length t.vertices → at_vertex (table_point t) k ≡ whole (p k -ℤ p 0)
    at zero h = ap whole (self (p 0))
    at (suc k) h = ap whole (value_in t k h)

abs_from : (x : ℤ) (n : ℕ) → x ≤ℤ pos n → pos 0 ≤ℤ (x +ℤ pos n) → unsigned_abs x ≤ n
abs_from (pos m) n h k = omega (arith, ints)
abs_from (negsuc m) n h k = omega (arith, ints)

pub value_near : (t : Table) (k : ℕ) → suc k < length t.vertices → IsSolved (arcs_of t.edges) (values (vertex_at t.vertices)) → unsigned_abs (value_at t k) ≤ constants (table_rows t)
value_near t k l a = subst (λ z. unsigned_abs z ≤ constants (table_rows t)) (sym (value_in t k l)) (subst (λ n. unsigned_abs (p (suc k) -ℤ p 0) ≤ n) (sym (sizes_are t.edges)) (abs_from (p (suc k) -ℤ p 0) (sizes t.edges) (high _ _ _ (r.apart (suc k) 0)) (low _ _ _ (r.apart 0 (suc k)))))
  where
    p : Potentials
    p = values (vertex_at t.vertices)

    r : InRange p (sizes t.edges)
    r = near_sizes t.edges p a

    high : (x z : ℤ) (n : ℕ) → x ≤ℤ (z +ℤ pos n) → (x -ℤ z) ≤ℤ pos n
    high x z n h = omega (arith, ints)

    low : (x z : ℤ) (n : ℕ) → z ≤ℤ (x +ℤ pos n) → pos 0 ≤ℤ ((x -ℤ z) +ℤ pos n)
    low x z n h = omega (arith, ints)

pub difference_near : (t : Table) (j k : ℕ) → suc j < length t.vertices → suc k < length t.vertices → IsSolved (arcs_of t.edges) (values (vertex_at t.vertices)) → unsigned_abs (value_at t j -ℤ value_at t k) ≤ constants (table_rows t)
difference_near t j k l m a = subst (λ z. unsigned_abs z ≤ constants (table_rows t)) (sym (ap₂ (λ x y. x -ℤ y) (value_in t j l) (value_in t k m))) (subst (λ n. unsigned_abs ((p (suc j) -ℤ p 0) -ℤ (p (suc k) -ℤ p 0)) ≤ n) (sym (sizes_are t.edges))
    (abs_from _ (sizes t.edges) (high (p (suc j)) (p (suc k)) (p 0) (sizes t.edges) (r.apart (suc j) (suc k))) (low (p (suc j)) (p (suc k)) (p 0) (sizes t.edges) (r.apart (suc k) (suc j)))))
  where
    p : Potentials
    p = values (vertex_at t.vertices)

    r : InRange p (sizes t.edges)
    r = near_sizes t.edges p a

    high : (x y z : ℤ) (n : ℕ) → x ≤ℤ (y +ℤ pos n) → ((x -ℤ z) -ℤ (y -ℤ z)) ≤ℤ pos n
    high x y z n h = omega (arith, ints)

    low : (x y z : ℤ) (n : ℕ) → y ≤ℤ (x +ℤ pos n) → pos 0 ≤ℤ (((x -ℤ z) -ℤ (y -ℤ z)) +ℤ pos n)
    low x y z n h = omega (arith, ints)

pub multiplier_some : (found : List (ℕ × Bool)) (k : ℕ) (m : ℕ × Bool) → slice_get found k ≡ Some m → slice_get (multipliers_of found) k ≡ Some (multiplier_of m)
multiplier_some [] k m h = absurd (cc)
multiplier_some (x ∷ found) zero m h = (let e : x ≡ m = cc in ap (λ (y : ℕ × Bool). Some (multiplier_of y)) e)
multiplier_some (x ∷ found) (suc k) m h = multiplier_some found k m h

pub multiplier_none : (found : List (ℕ × Bool)) (k : ℕ) → slice_get found k ≡ None → slice_get (multipliers_of found) k ≡ None
multiplier_none [] k h = refl
multiplier_none (x ∷ found) zero h = absurd (cc)
multiplier_none (x ∷ found) (suc k) h = multiplier_none found k h

-- ---- what stands
pub solved_all : (edges : List Edge) (g : Graph) (conflict : Bool) (found : List (ℕ × Bool)) → IsStanding edges g conflict found → admitted g ≡ length edges
    → IsSolved (arcs_of edges) (values (vertex_at g.vertices.items))
solved_all edges g conflict found h e =
    subst (λ l. IsSolved l (values (vertex_at g.vertices.items)))
    (take_all (length g.arcs.items) g.arcs.items (omega arith) ∙ h.arcs ∙ ap arcs_of (take_all (admitted g) edges (omega arith))) h.graph.reached.solved

-- a cycle of the arcs of the first rows is one of all
walk_more : (arcs others : List Arc) (a b : ℕ) (steps : List Arc) → ((x : Arc) → IsAmong arcs x → IsAmong others x) → IsWalk arcs a b steps → IsWalk others a b steps
walk_more arcs others a b [] h w = w
walk_more arcs others a b (s ∷ steps) h w = (h s w.0, w.1, walk_more arcs others s.from b steps h w.2)

pub cycle_more : (arcs others : List Arc) (found : List (ℕ × Bool)) → ((x : Arc) → IsAmong arcs x → IsAmong others x) → IsNegativeCycle arcs found → IsNegativeCycle others found
cycle_more arcs others found h c = record { start = c.start; steps = c.steps; walk = walk_more arcs others c.start c.start c.steps h c.walk; negative = c.negative; once = c.once; is = c.is }

among_first : (xs ys : List Arc) (x : Arc) → IsAmong xs x → IsAmong (xs ++ ys) x
among_first xs ys x h = (h.0, first xs h.0 h.1)
  where
    first : (xs : List Arc) (k : ℕ) → slice_get xs k ≡ Some x → slice_get (xs ++ ys) k ≡ Some x
    first [] k e = absurd (cc)
    first (y ∷ xs) zero e = e
    first (y ∷ xs) (suc k) e = first xs k e

pub known_contradicts : (edges : List Edge) (g : Graph) (conflict : Bool) (found : List (ℕ × Bool)) → IsStanding edges g conflict found → conflict ≡ true
    → IsContradiction (standing_of edges) (multipliers_of found)
known_contradicts edges g conflict found h e =
    contradiction edges found h.apart (cycle_more (arcs_of (take n edges)) (arcs_of edges) found
    (λ x m. subst (λ l. IsAmong l x) (sym (arcs_of-append (take n edges) (drop n edges)) ∙ ap arcs_of (take-append-drop n edges)) (among_first (arcs_of (take n edges)) (arcs_of (drop n edges)) x m)) (h.known e))
  where
    n : ℕ
    n = suc (admitted g)

length_one : {A : Type 0} (xs : List A) (x : A) → length (xs ++ x ∷ []) ≡ length xs + 1
length_one [] x = omega arith
length_one (y ∷ xs) x = let e = length_one xs x in omega arith

take_before : (k : ℕ) (edges : List Edge) (e : Edge) → k ≤ length edges → take k (edges ++ e ∷ []) ≡ take k edges
take_before k edges e l = take-append-le k edges (e ∷ []) l

pub sizes_more : (edges : List Edge) (e : Edge) → sizes edges ≤ sizes (edges ++ e ∷ [])
sizes_more [] e = omega arith
sizes_more (x ∷ edges) e = let h = sizes_more edges e in omega arith

pub size_one : (edges : List Edge) (k : ℕ) (d : Edge) → k < length edges → unsigned_abs (get_or edges k d).weight ≤ sizes edges
size_one [] k d l = absurd (omega arith)
size_one (x ∷ edges) zero d l = omega arith
size_one (x ∷ edges) (suc k) d l = let h = size_one edges k d (omega arith) in omega arith

sizes_taken : (k : ℕ) (edges : List Edge) → sizes (take k edges) ≤ sizes edges
sizes_taken zero edges = omega arith
sizes_taken (suc k) [] = omega arith
sizes_taken (suc k) (x ∷ edges) = let h = sizes_taken k edges in omega arith

bounded_more : (m n : ℕ) (arcs : List Arc) → m ≤ n → IsBounded m arcs → IsBounded n arcs
bounded_more m n arcs l b = record { fall = let f = b.fall in omega arith; costs = λ k. wider (slice_get arcs k) (b.costs k) }
  where
    wider : (o : Option Arc) → IfSome o (λ a. a.cost ≤ℤ pos m) → IfSome o (λ a. a.cost ≤ℤ pos n)
    wider None h = tt
    wider (Some a) h = omega (arith, ints)

pub bounded_first : (edges : List Edge) (k : ℕ) → IsBounded (sizes edges) (arcs_of (take k edges))
bounded_first edges k = bounded_more (sizes (take k edges)) (sizes edges) (arcs_of (take k edges)) (sizes_taken k edges) (bounded (take k edges))

pub arcs_few : (edges : List Edge) → length (arcs_of edges) ≤ 2 * length edges
arcs_few [] = omega arith
arcs_few (e ∷ edges) = two_more e e.equal (arcs_of edges) (length edges) (arcs_few edges)
  where
    two_more : (e : Edge) (b : Bool) (arcs : List Arc) (n : ℕ) → length arcs ≤ 2 * n → length (arcs_by e b ++ arcs) ≤ 2 * suc n
    two_more e true arcs n h = omega arith
    two_more e false arcs n h = omega arith

-- a row more, which isn't admitted
pub standing_behind : (edges new : List Edge) (g : Graph) (conflict : Bool) (found : List (ℕ × Bool)) (e : Edge) → IsStanding edges g conflict found → new ≡ edges ++ e ∷ []
    → e.from < length g.vertices.items → e.to < length g.vertices.items → HasNoTag e.tag edges → IsStanding new g conflict found
standing_behind edges new g conflict found e h is f t fresh = subst (λ l. IsStanding l g conflict found) (sym is) (record {
  graph = h.graph;
  in_range = range_more edges e (length g.vertices.items) h.in_range f t;
  apart = apart_more edges e h.apart fresh;
  rows = let r = h.rows in let n = length_one edges e in omega arith;
  arcs = h.arcs ∙ ap arcs_of (sym (take_before (admitted g) edges e h.rows));
  starts = λ i l. h.starts i l ∙ ap (λ x. length (arcs_of x)) (sym (take_before (g.base + i) edges e (let r = h.rows in omega arith)));
  more = λ q. let m = h.more q in let n = length_one edges e in omega arith;
  known = λ q. subst (λ x. IsNegativeCycle (arcs_of x) found) (sym (take_before (suc (admitted g)) edges e (let m = h.more q in omega arith))) (h.known q);
})

-- the arcs of the next row
pub next_arcs : (edges : List Edge) (arcs : List Arc) (g : Graph) (found : List (ℕ × Bool)) (k : ℕ) (d : Edge) → IsStanding edges g false found → k ≡ admitted g → k < length edges → arcs ≡ g.arcs.items
    → arcs_of (take (k + 1) edges) ≡ arcs ++ arcs_by (get_or edges k d) (get_or edges k d).equal
next_arcs edges arcs g found k d h e l same =
    arcs_more edges k d l ∙ ap (λ x. x ++ arcs_by (get_or edges k d) (get_or edges k d).equal) (ap (λ n. arcs_of (take n edges)) e ∙ sym (same ∙ h.arcs))

pub next_in_range : (edges : List Edge) (arcs : List Arc) (g : Graph) (found : List (ℕ × Bool)) (k n : ℕ) (d : Edge) → IsStanding edges g false found → k ≡ admitted g → k < length edges → arcs ≡ g.arcs.items
    → n ≡ length g.vertices.items → AllInRange (arcs ++ arcs_by (get_or edges k d) (get_or edges k d).equal) n
next_in_range edges arcs g found k n d h e l same count =
    subst (λ x. AllInRange x n) (next_arcs edges arcs g found k d h e l same)
    (arcs_in_range (take (k + 1) edges) n (range_taken (k + 1) edges n (subst (λ m. EdgesInRange edges m) (sym count) h.in_range)))

pub next_paired : (edges : List Edge) (arcs : List Arc) (g : Graph) (found : List (ℕ × Bool)) (k : ℕ) (d : Edge) → IsStanding edges g false found → k ≡ admitted g → k < length edges → arcs ≡ g.arcs.items
    → ArePaired (arcs ++ arcs_by (get_or edges k d) (get_or edges k d).equal)
next_paired edges arcs g found k d h e l same = subst ArePaired (next_arcs edges arcs g found k d h e l same) (paired (take (k + 1) edges) (apart_taken (k + 1) edges h.apart))

pub next_bounded : (edges : List Edge) (arcs : List Arc) (g : Graph) (found : List (ℕ × Bool)) (k : ℕ) (d : Edge) → IsStanding edges g false found → k ≡ admitted g → k < length edges → arcs ≡ g.arcs.items
    → IsBounded (sizes edges) (arcs ++ arcs_by (get_or edges k d) (get_or edges k d).equal)
next_bounded edges arcs g found k d h e l same = subst (λ x. IsBounded (sizes edges) x) (next_arcs edges arcs g found k d h e l same) (bounded_first edges (k + 1))

pub admitted_more : (g later : Graph) (start : Start) → later.starts.items ≡ g.starts.items ++ start ∷ [] → later.base ≡ g.base → admitted later ≡ admitted g + 1
admitted_more g later start starts base = let n = ap length starts in let o = length_one g.starts.items start in omega (arith, base)

pub admitted_same : (g later : Graph) → later.starts.items ≡ g.starts.items → later.base ≡ g.base → admitted later ≡ admitted g
admitted_same g later starts base = let n = ap length starts in omega (arith, base)

-- the next row's arcs were admitted
pub standing_admitted : (edges : List Edge) (g later : Graph) (found steps : List (ℕ × Bool)) (d : Edge) (start : Start) → IsStanding edges g false found → admitted g < length edges
    → IsGraph later → length later.vertices.items ≡ length g.vertices.items
    → later.arcs.items ≡ g.arcs.items ++ arcs_by (get_or edges (admitted g) d) (get_or edges (admitted g) d).equal → later.starts.items ≡ g.starts.items ++ start ∷ []
    → later.base ≡ g.base → start.arcs ≡ length g.arcs.items → IsStanding edges later false steps
standing_admitted edges g later found steps d start h l graph same arcs starts base at = record {
  graph = graph;
  in_range = subst (λ n. EdgesInRange edges n) (sym same) h.in_range;
  apart = h.apart;
  rows = omega (arith, count);
  arcs = arcs ∙ ap (λ x. x ++ arcs_by (get_or edges (admitted g) d) (get_or edges (admitted g) d).equal) h.arcs ∙ sym (arcs_more edges (admitted g) d l) ∙ ap (λ n. arcs_of (take n edges)) (sym count);
  starts = λ i m. elim (cases_lt i (length g.starts.items)) [
    | inl k ↦ ap (λ (x : List Start). (start_at x i).arcs) starts ∙ ap (λ (x : Start). x.arcs) (get_or_append_left g.starts.items (start ∷ []) _ i k) ∙ h.starts i k
        ∙ ap (λ n. length (arcs_of (take (n + i) edges))) (sym base)
    | inr k ↦
        let e : length g.starts.items ≡ i = (let n = ap length starts in let o = length_one g.starts.items start in omega arith) in
        ap (λ (x : List Start). (start_at x i).arcs) starts ∙ ap (λ (x : Start). x.arcs) (get_or_at g.starts.items start [] _ i e) ∙ at ∙ ap length h.arcs
        ∙ ap (λ n. length (arcs_of (take n edges))) (let f : admitted g ≡ later.base + i = omega (arith, base, e) in f)
  ];
  more = λ q. absurd (cc);
  known = λ q. absurd (cc);
}
  where
    count : admitted later ≡ admitted g + 1
    count = let n = ap length starts in let o = length_one g.starts.items start in omega (arith, base)

-- what stands where the arcs are the same
pub standing_still : (edges : List Edge) (g later : Graph) (conflict : Bool) (found steps : List (ℕ × Bool)) → IsStanding edges g false found
    → IsGraph later → length later.vertices.items ≡ length g.vertices.items → later.arcs.items ≡ g.arcs.items → admitted later ≡ admitted g
    → (later.starts.items ≢ [] → (later.starts.items ≡ g.starts.items) × (later.base ≡ g.base))
    → (conflict ≡ true → (admitted g < length edges) × IsNegativeCycle (arcs_of (take (suc (admitted g)) edges)) steps) → IsStanding edges later conflict steps
standing_still edges g later conflict found steps h graph same arcs count starts closed = record {
  graph = graph;
  in_range = subst (λ n. EdgesInRange edges n) (sym same) h.in_range;
  apart = h.apart;
  rows = let r = h.rows in omega (arith, count);
  arcs = arcs ∙ h.arcs ∙ ap (λ n. arcs_of (take n edges)) (sym count);
  starts = λ i m.
      let some = starts (λ e. let z = ap length e in omega arith) in
      ap (λ (x : List Start). (start_at x i).arcs) some.0 ∙ h.starts i (let k = ap length some.0 in omega arith) ∙ ap (λ n. length (arcs_of (take (n + i) edges))) (sym some.1);
  more = λ q. let m = (closed q).0 in omega (arith, count);
  known = λ q. subst (λ n. IsNegativeCycle (arcs_of (take (suc n) edges)) steps) (sym count) (closed q).1;
}

-- the next row closes a cycle
pub standing_closed : (edges : List Edge) (g later : Graph) (found steps : List (ℕ × Bool)) (d : Edge) → IsStanding edges g false found → admitted g < length edges
    → IsGraph later → length later.vertices.items ≡ length g.vertices.items → later.arcs.items ≡ g.arcs.items → later.starts.items ≡ g.starts.items → later.base ≡ g.base
    → IsNegativeCycle (g.arcs.items ++ arcs_by (get_or edges (admitted g) d) (get_or edges (admitted g) d).equal) steps → IsStanding edges later true steps
standing_closed edges g later found steps d h l graph same arcs starts base cycle =
    standing_still edges g later true found steps h graph same arcs (let n = ap length starts in omega (arith, base)) (λ n. (starts, base)) (λ q. (
      l,
      subst (λ x. IsNegativeCycle x steps)
          (ap (λ x. x ++ arcs_by (get_or edges (admitted g) d) (get_or edges (admitted g) d).equal) h.arcs ∙ sym (arcs_more edges (admitted g) d l) ∙ ap (λ n. arcs_of (take n edges)) (one_more (admitted g))) cycle,
    ))
  where
    one_more : (n : ℕ) → n + 1 ≡ suc n
    one_more n = omega arith

-- fewer rows are kept, of which all were admitted
arcs_front : (r n : ℕ) (edges : List Edge) → r ≤ n → take (length (arcs_of (take r edges))) (arcs_of (take n edges)) ≡ arcs_of (take r edges)
arcs_front r n edges l =
    ap (λ x. take (length (arcs_of (take r edges))) x) (ap arcs_of (sym (take-append-drop r (take n edges)) ∙ ap (λ z. z ++ drop r (take n edges)) (take-take r n edges l)) ∙ arcs_of-append (take r edges) (drop r (take n edges)))
    ∙ take_at (arcs_of (take r edges)) (arcs_of (drop r (take n edges))) (length (arcs_of (take r edges))) refl

pub standing_back : (edges new : List Edge) (g later : Graph) (conflict : Bool) (found : List (ℕ × Bool)) (r k : ℕ) → IsStanding edges g conflict found → r ≡ g.base + k → k < length g.starts.items
    → new ≡ take r edges → IsGraph later → length later.vertices.items ≡ length g.vertices.items → later.arcs.items ≡ take (start_at g.starts.items k).arcs g.arcs.items
    → later.starts.items ≡ take k g.starts.items → later.base ≡ g.base → IsStanding new later false found
standing_back edges new g later conflict found r k h rk l is graph same arcs starts base = subst (λ x. IsStanding x later false found) (sym is) (record {
  graph = graph;
  in_range = subst (λ n. EdgesInRange (take r edges) n) (sym same) (range_taken r edges (length g.vertices.items) h.in_range);
  apart = apart_taken r edges h.apart;
  rows = omega (arith, count, edged);
  arcs = arcs ∙ ap (λ n. take n g.arcs.items) (h.starts k l ∙ ap (λ n. length (arcs_of (take n edges))) (sym rk)) ∙ ap (take (length (arcs_of (take r edges)))) h.arcs ∙ arcs_front r (admitted g) edges (omega arith)
      ∙ ap arcs_of (sym (ap (λ n. take n (take r edges)) count ∙ take-take r r edges (omega arith)));
  starts = λ i m. ap (λ (x : List Start). (start_at x i).arcs) starts ∙ ap (λ (x : Start). x.arcs) (get_or-take k g.starts.items i _ (omega (arith, taken))) ∙ h.starts i (omega (arith, taken))
      ∙ ap (λ x. length (arcs_of x)) (sym (take-take (g.base + i) r edges (omega (arith, taken, rk)))) ∙ ap (λ n. length (arcs_of (take (n + i) (take r edges)))) (sym base);
  more = λ q. absurd (cc);
  known = λ q. absurd (cc);
})
  where
    taken : length later.starts.items ≡ k
    taken = ap length starts ∙ length-take-le k g.starts.items (omega arith)

    count : admitted later ≡ r
    count = omega (arith, taken, base, rk)

    edged : length (take r edges) ≡ r
    edged = length-take-le r edges (let k = h.rows in omega arith)

-- no row is admitted any more
pub standing_cleared : (edges new : List Edge) (g later : Graph) (conflict : Bool) (found : List (ℕ × Bool)) (r : ℕ) → IsStanding edges g conflict found
    → new ≡ take r edges → IsGraph later → length later.vertices.items ≡ length g.vertices.items → later.arcs.items ≡ [] → later.starts.items ≡ [] → later.base ≡ 0 → IsStanding new later false found
standing_cleared edges new g later conflict found r h is graph same arcs starts base = subst (λ x. IsStanding x later false found) (sym is) (record {
  graph = graph;
  in_range = subst (λ n. EdgesInRange (take r edges) n) (sym same) (range_taken r edges (length g.vertices.items) h.in_range);
  apart = apart_taken r edges h.apart;
  rows = omega (arith, count);
  arcs = arcs ∙ ap (λ n. arcs_of (take n (take r edges))) (sym count);
  starts = λ i m. absurd (let n = ap length starts in omega arith);
  more = λ q. absurd (cc);
  known = λ q. absurd (cc);
})
  where
    count : admitted later ≡ 0
    count = let n = ap length starts in omega (arith, base)

-- the rows that were admitted are kept
pub standing_first : (edges new : List Edge) (g : Graph) (conflict : Bool) (found : List (ℕ × Bool)) (r : ℕ) → IsStanding edges g conflict found → r ≡ admitted g
    → new ≡ take r edges → IsStanding new g false found
standing_first edges new g conflict found r h e is = subst (λ x. IsStanding x g false found) (sym is) (record {
  graph = h.graph;
  in_range = range_taken r edges (length g.vertices.items) h.in_range;
  apart = apart_taken r edges h.apart;
  rows = omega (arith, edged);
  arcs = h.arcs ∙ ap arcs_of (sym (take-take (admitted g) r edges (omega arith)));
  starts = λ i m. h.starts i m ∙ ap (λ x. length (arcs_of x)) (sym (take-take (g.base + i) r edges (omega arith)));
  more = λ q. absurd (cc);
  known = λ q. absurd (cc);
})
  where
    edged : length (take r edges) ≡ r
    edged = length-take-le r edges (let k = h.rows in omega arith)

-- a row behind those that were admitted is kept
pub standing_kept : (edges new : List Edge) (g : Graph) (conflict : Bool) (found : List (ℕ × Bool)) (r : ℕ) → IsStanding edges g conflict found → admitted g < r → r ≤ length edges
    → new ≡ take r edges → IsStanding new g conflict found
standing_kept edges new g conflict found r h l w is = subst (λ x. IsStanding x g conflict found) (sym is) (record {
  graph = h.graph;
  in_range = range_taken r edges (length g.vertices.items) h.in_range;
  apart = apart_taken r edges h.apart;
  rows = omega (arith, edged);
  arcs = h.arcs ∙ ap arcs_of (sym (take-take (admitted g) r edges (omega arith)));
  starts = λ i m. h.starts i m ∙ ap (λ x. length (arcs_of x)) (sym (take-take (g.base + i) r edges (omega arith)));
  more = λ q. omega (arith, edged);
  known = λ q. subst (λ x. IsNegativeCycle (arcs_of x) found) (sym (take-take (suc (admitted g)) r edges (omega arith))) (h.known q);
})
  where
    edged : length (take r edges) ≡ r
    edged = length-take-le r edges w

pub decided_behind : (edges new : List Edge) (g : Graph) (conflict : Bool) (e : Edge) → IsDecided edges g conflict → admitted g < length edges → new ≡ edges ++ e ∷ [] → IsDecided new g conflict
decided_behind edges new g conflict e h l is = subst (λ x. IsDecided x g conflict) (sym is) (λ q m. absurd (let k = h q (let s = sizes_more edges e in omega arith) in omega arith))

-- there is room for one row more
pub has_place : (edges : List Edge) (g : Graph) (conflict : Bool) (found : List (ℕ × Bool)) → IsStanding edges g conflict found → HasRoom g (length edges) → HasNotes g → admitted g < length edges → HasPlace g
has_place edges g conflict found h room notes l =
    let few : length g.arcs.items ≤ 2 * admitted g =
    (let e = ap length h.arcs in let f = arcs_few (take (admitted g) edges) in let t = length-take-le (admitted g) edges h.rows in omega arith) in
    record { arcs = let r = room.arcs in omega arith; links = let r = room.links in omega arith; fallen = room.fallen; notes = notes }

pub room_on : (g later : Graph) (n : ℕ) → SameRoom g later → length later.vertices.items ≡ length g.vertices.items → HasRoom g n → HasRoom later n
room_on g later n s v h = record {
  arcs = let r = h.arcs in let e = s.arcs in omega arith;
  links = let r = h.links in let e = s.links in omega arith;
  starts = let r = h.starts in let e = s.starts in omega arith;
  fallen = let r = h.fallen in let e = s.fallen in omega arith;
  notes = let r = h.notes in let e = s.fallen in let f = s.trail in omega arith;
}

pub room_less : (g : Graph) (m n : ℕ) → m ≤ n → HasRoom g n → HasRoom g m
room_less g m n l h = record {
  arcs = let r = h.arcs in omega arith;
  links = let r = h.links in omega arith;
  starts = let r = h.starts in omega arith;
  fallen = h.fallen;
  notes = h.notes;
}

pub room_then : (g h k : Graph) → SameRoom g h → SameRoom h k → SameRoom g k
room_then g h k a b = record { arcs = b.arcs ∙ a.arcs; links = b.links ∙ a.links; starts = b.starts ∙ a.starts; fallen = b.fallen ∙ a.fallen; trail = b.trail ∙ a.trail }

pub room_same : (g : Graph) → SameRoom g g
room_same g = record { arcs = refl; links = refl; starts = refl; fallen = refl; trail = refl }

standing_open : (edges : List Edge) (g : Graph) (conflict : Bool) (found : List (ℕ × Bool)) → IsStanding edges g conflict found → IsStanding edges g false found
standing_open edges g conflict found h = record {
  graph = h.graph;
  in_range = h.in_range;
  apart = h.apart;
  rows = h.rows;
  arcs = h.arcs;
  starts = h.starts;
  more = λ q. absurd (cc);
  known = λ q. absurd (cc);
}

same_graph : (g later : Graph) → SameItems g later → IsGraph g → IsGraph later
same_graph g later s h = rw (s.arcs, s.links, s.vertices, s.order, s.fallen, s.trail, s.starts) h

-- a table whose lists may have more room
pub still_table : (t : Table) (new : List Edge) (g later : Graph) (place more steps : ℕ) → IsTable t g place steps → new ≡ t.edges → SameItems g later → ((n : ℕ) → HasRoom g n → HasRoom later n) → place ≤ more
    → IsTable (record { edges = new; vertices = later.vertices.items; conflict = t.conflict; found = t.found; answer = t.answer; terms = t.terms; rows = t.rows }) later more steps
still_table t new g later place more steps h is s room l =
    subst (λ (e : List Edge). IsTable (record { edges = e; vertices = later.vertices.items; conflict = t.conflict; found = t.found; answer = t.answer; terms = t.terms; rows = t.rows }) later more steps) (sym is) (record {
      fits = h.fits;
      same = refl;
      sized = ap length (s.vertices ∙ h.same) ∙ h.sized;
      standing = standing_still t.edges g later t.conflict t.found t.found (standing_open t.edges g t.conflict t.found h.standing) (same_graph g later s h.standing.graph) (ap length s.vertices) s.arcs count
          (λ n. (s.starts, s.base)) (λ q. (h.standing.more q, h.standing.known q));
      decided = λ q small. count ∙ h.decided q small;
      few = h.few;
      place = let p = h.place in omega arith;
      room = room t.rows h.room;
      steps = h.steps;
      all = λ e. count ∙ h.all e;
      fit = λ e. subst AllFit (sym (s.vertices ∙ h.same)) (h.fit e);
      solved = h.solved;
      contradicted = h.contradicted;
    })
  where
    count : admitted later ≡ admitted g
    count = admitted_same g later s.starts s.base

-- where all rows were admitted no conflict is known
pub no_conflict : (edges : List Edge) (g : Graph) (conflict : Bool) (found : List (ℕ × Bool)) → IsStanding edges g conflict found → length edges ≤ admitted g → conflict ≡ false
no_conflict edges g true found h l = absurd (let m = h.more refl in omega arith)
no_conflict edges g false found h l = refl

pub pushed_length : (edges new : List Edge) (e : Edge) → new ≡ edges ++ e ∷ [] → length new ≡ length edges + 1
pushed_length edges new e is = ap length is ∙ length_one edges e

pub room_for : (g : Graph) (edges new : List Edge) (e : Edge) → new ≡ edges ++ e ∷ [] → HasRoom g (length edges + 1) → HasRoom g (length new)
room_for g edges new e is h = subst (HasRoom g) (sym (ap length is ∙ length_one edges e)) h

-- after `Held`
answered_solved : (a : Answer) → last_of a ≡ Held → a ≡ Solved
answered_solved Unasked e = absurd (cc)
answered_solved Solved e = refl
answered_solved Contradicted e = absurd (cc)
answered_solved GaveUp e = absurd (cc)

pub held : (t : Table) (g : Graph) (place steps : ℕ) → IsTable t g place steps → table_last t ≡ Held → IsSolved (arcs_of t.edges) (values (vertex_at t.vertices))
held t g place steps h e =
    subst (λ (l : List Vertex). IsSolved (arcs_of t.edges) (values (vertex_at l))) h.same
    (solved_all t.edges g t.conflict t.found h.standing (h.all (answered_solved t.answer e)))
