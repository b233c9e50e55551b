-- Under fewer instances an implication has fewer literals and terms. What can be gathered stays so.
use Rattle.std.proofs.Common.{◌≡◌, inl, inr, true, List, [], ◌∷◌, ◌++◌, All, map, refl, sym, ap, ap₂, subst, ◌∙◌, append_assoc, ◌+◌, ◌≤◌, arith, ◌==◌, if◌then◌else◌, get_or}
use Rattle.std.specs.List.{Contains}
use Rattle.std.proofs.lemmas.Bool.{eq-eqb, ne_eqb}
use Rattle.std.proofs.lemmas.List.{append-nil}
use Rattle.std.proofs.lemmas.List.Elements.{All-append, All-cons, All-head, All-nil, All-tail, Contains-get_or}
use Rattle.lq_prover_pivots.proofs.CramerLemmas.Places.{eqb_by}
use Rattle.lq_prover_case.proofs.EquationsLemmas.Plain.{terms_plain}
use Rattle.lq_prover_proof_tree.proofs.LiteralsLemmas.Fits.{all_left, all_right}
use Rattle.lq_prover_proof_tree.specs.Literals.Gathered.{sizes, sizes_of}
use Rattle.lq_base_names.specs.declared.name.Name.{Name}
use Rattle.lq_refined_types.proofs.PartsLemmas.Flows.{Sublist, drop, keep, nil, parts_within, picked_within, sub_self}
use Rattle.lq_refined_types.specs.Parts.Assignment.{all_joined, joined, parts_under}
use Rattle.lq_refined_types.specs.Parts.Constraint.{Constraint}
use Rattle.lq_refined_types.specs.Parts.Flowing.{Selection, assigned}
use Rattle.lq_refined_types.specs.Parts.Part.{Part, known, unknown, Parts}
use Rattle.lq_refined_types.specs.Parts.Substitution.{formula_by}
use Rattle.lq_logic_predicates.proofs.FormSums.{all_differ-numbered}
use Rattle.lq_logic_predicates.specs.ClosedImplication.{ClosedImplication, each_numbered, terms_in}
use Rattle.lq_logic_predicates.specs.Comparison.{CanGather, Comparison}
use Rattle.lq_logic_predicates.specs.Formula.{Formula, truth, falsity, flag, compare, objects, negation, conjunction, disjunction, equivalence}
use Rattle.lq_logic_predicates.specs.Literals.{all_pairs, below_row, condition_rows, each_literals, equal_row, implication_literals, literals_of, negative, positive}
use Rattle.lq_logic_predicates.specs.Reading.{formula_numbered}
use Rattle.lq_logic_predicates.specs.Sum.{Sum, whole, var, neg, add, sub, mul, div, rem, len, measure}
use Rattle.lq_logic_predicates.specs.Table.{all_differ, numbered}
use Rattle.lq_solve_fixpoint.specs.Questions.Assigned.{closed_under}
use Rattle.lq_solve_fixpoint.specs.Weakening.Judging.{Instances}
use Rattle.lq_solve_strongest.specs.Selections.Fewer.{HasAlike, IsAlike, SizesAreFewer, SomeAreFewer, SomeGather}
use Rattle.lq_solve_strongest.proofs.SelectionsLemmas.Terms.{Turns, Under, all_joined_terms, each_pairs, each_under, pairs_each}
use Rattle.lq_solve_strongest.proofs.SelectionsLemmas.Turning.{pair_turns}
use Rattle.lq_solve_strongest.proofs.SelectionsLemmas.Weights.{each_fewer, pairs_fewer, sizes_append}
use Rattle.lq_solve_strongest.proofs.SelectionsLemmas.Whole.{closed_all}

-- ---- no term has two numbers

formula_differ : (ts : List Sum) (p : Formula) → all_differ ts ≡ true → all_differ (formula_numbered ts p) ≡ true
formula_differ ts truth d = d
formula_differ ts falsity d = d
formula_differ ts (flag x) d = d
formula_differ ts (compare o a b) d = all_differ-numbered (numbered ts a) b (all_differ-numbered ts a d)
formula_differ ts (objects a b) d = d
formula_differ ts (negation p) d = formula_differ ts p d
formula_differ ts (conjunction p q) d = formula_differ (formula_numbered ts p) q (formula_differ ts p d)
formula_differ ts (disjunction p q) d = formula_differ (formula_numbered ts p) q (formula_differ ts p d)
formula_differ ts (equivalence p q) d = formula_differ (formula_numbered ts p) q (formula_differ ts p d)

each_differ : (ts : List Sum) (ps : List Formula) → all_differ ts ≡ true → all_differ (each_numbered ts ps) ≡ true
each_differ ts [] d = d
each_differ ts (p ∷ ps) d = each_differ (formula_numbered ts p) ps (formula_differ ts p d)

pub terms_differ : (i : ClosedImplication) → all_differ (terms_in i) ≡ true
terms_differ i = formula_differ (each_numbered [] i.hypotheses) i.goal (each_differ [] i.hypotheses refl)

-- ---- the literals of hypotheses and of a goal

hypotheses_fewer : (P : Comparison → Type 0) (ps qs : List Formula) → Sublist ps qs → All P (each_literals qs) → All P (each_literals ps)
hypotheses_fewer P _ _ nil h = h
hypotheses_fewer P _ _ (drop {ps = ps} {qs = qs} {q = q} s) h = hypotheses_fewer P ps qs s (all_right P (literals_of positive q) (each_literals qs) h)
hypotheses_fewer P _ _ (keep {ps = ps} {qs = qs} {q = q} s) h =
    All-append P (literals_of positive q) (each_literals ps) (all_left P (literals_of positive q) (each_literals qs) h)
    (hypotheses_fewer P ps qs s (all_right P (literals_of positive q) (each_literals qs) h))

abbrev negated_literals : List Formula → List Comparison
negated_literals [] = []
negated_literals (q ∷ qs) = literals_of negative q ++ negated_literals qs

joined_literals : (p : Formula) (qs : List Formula) → literals_of negative (joined p qs) ≡ literals_of negative p ++ negated_literals qs
joined_literals p [] = sym (append-nil (literals_of negative p))
joined_literals p (q ∷ qs) = joined_literals (conjunction p q) qs ∙ append_assoc (literals_of negative p) (literals_of negative q) (negated_literals qs)

goal_literals : (qs : List Formula) → literals_of negative (all_joined qs) ≡ negated_literals qs
goal_literals [] = refl
goal_literals (q ∷ qs) = joined_literals q qs

goal_fewer : (P : Comparison → Type 0) (ps qs : List Formula) → Sublist ps qs → All P (negated_literals qs) → All P (negated_literals ps)
goal_fewer P _ _ nil h = h
goal_fewer P _ _ (drop {ps = ps} {qs = qs} {q = q} s) h = goal_fewer P ps qs s (all_right P (literals_of negative q) (negated_literals qs) h)
goal_fewer P _ _ (keep {ps = ps} {qs = qs} {q = q} s) h =
    All-append P (literals_of negative q) (negated_literals ps) (all_left P (literals_of negative q) (negated_literals qs) h)
    (goal_fewer P ps qs s (all_right P (literals_of negative q) (negated_literals qs) h))

-- ---- the whole

abbrev made : List Formula → List Formula → ClosedImplication
made hs gs = record { hypotheses = hs; goal = all_joined gs }

terms_fewer : (hs ks gs fs : List Formula) → Sublist hs ks → Sublist gs fs → Under (terms_in (made hs gs)) (terms_in (made ks fs))
terms_fewer hs ks gs fs s t =
    subst (λ l. Under l (terms_in (made ks fs))) (sym (all_joined_terms (each_numbered [] hs) gs))
    (subst (Under (each_numbered (each_numbered [] hs) gs)) (sym (all_joined_terms (each_numbered [] ks) fs))
    (each_under gs fs t (each_numbered [] hs) (each_numbered [] ks) (each_under hs ks s [] [] (λ x h. h))))

pub fewer_all : (P : Comparison → Type 0) → Turns P → (hs ks gs fs : List Formula) → Sublist hs ks → Sublist gs fs → All P (implication_literals (made ks fs))
    → All P (implication_literals (made hs gs))
fewer_all P turns hs ks gs fs s t h =
    All-append P (each_literals hs ++ literals_of negative (all_joined gs)) (all_pairs (terms_in (made hs gs)))
    (All-append P (each_literals hs) (literals_of negative (all_joined gs)) (hypotheses_fewer P hs ks s (all_left P (each_literals ks) (literals_of negative (all_joined fs)) front))
    (subst (All P) (sym (goal_literals gs)) (goal_fewer P gs fs t (subst (All P) (goal_literals fs) (all_right P (each_literals ks) (literals_of negative (all_joined fs)) front)))))
    (each_pairs P (terms_in (made hs gs)) (terms_differ (made hs gs))
    (λ a b e f n. pairs_each P turns (terms_in (made ks fs)) (terms_plain (made ks fs)) back a b (under a e) (under b f) n))
  where
    front : All P (each_literals ks ++ literals_of negative (all_joined fs))
    front = all_left P (each_literals ks ++ literals_of negative (all_joined fs)) (all_pairs (terms_in (made ks fs))) h

    back : All P (all_pairs (terms_in (made ks fs)))
    back = all_right P (each_literals ks ++ literals_of negative (all_joined fs)) (all_pairs (terms_in (made ks fs))) h

    under : Under (terms_in (made hs gs)) (terms_in (made ks fs))
    under = terms_fewer hs ks gs fs s t

-- ---- under fewer instances

abbrev everything : Selection
everything u k = true

-- the predicates of the one are among those of the other
record IsPart (i j : ClosedImplication) : Type 1 where
  all : (P : Comparison → Type 0) → Turns P → All P (implication_literals j) → All P (implication_literals i)
  terms : Under (terms_in i) (terms_in j)
  sizes : sizes_of i ≤ sizes_of j

-- the sizes of the literals' constants, in all
made_sizes : (hs gs : List Formula) → sizes_of (made hs gs) ≡ sizes (each_literals hs) + sizes (negated_literals gs) + sizes (all_pairs (terms_in (made hs gs)))
made_sizes hs gs =
    sizes_append (each_literals hs ++ literals_of negative (all_joined gs)) (all_pairs (terms_in (made hs gs)))
    ∙ ap (λ n. n + sizes (all_pairs (terms_in (made hs gs)))) (sizes_append (each_literals hs) (literals_of negative (all_joined gs)))
    ∙ ap (λ cs. sizes (each_literals hs) + sizes cs + sizes (all_pairs (terms_in (made hs gs)))) (goal_literals gs)

sizes_fewer : (hs ks gs fs : List Formula) → Sublist hs ks → Sublist gs fs → sizes_of (made hs gs) ≤ sizes_of (made ks fs)
sizes_fewer hs ks gs fs s t =
    let first = each_fewer (literals_of positive) each_literals (λ q qs. refl) hs ks s in
    let second = each_fewer (literals_of negative) negated_literals (λ q qs. refl) gs fs t in
    let third = pairs_fewer (terms_in (made hs gs)) (terms_in (made ks fs)) (terms_differ (made hs gs)) (terms_fewer hs ks gs fs s t) in
    let less = made_sizes hs gs in
    let more = made_sizes ks fs in
    omega (arith, first, second, third, less, more)

made_part : (hs ks gs fs : List Formula) → Sublist hs ks → Sublist gs fs → IsPart (made hs gs) (made ks fs)
made_part hs ks gs fs s t = record { all = λ P turns h. fewer_all P turns hs ks gs fs s t h; terms = terms_fewer hs ks gs fs s t; sizes = sizes_fewer hs ks gs fs s t }

part_fewer : (I : Instances) (c : Selection) (hs : Parts) (q : Part)
    → IsPart (closed_under (assigned I c) (record { hypotheses = hs; goal = q })) (closed_under (assigned I everything) (record { hypotheses = hs; goal = q }))
part_fewer I c hs (known p) =
    made_part (parts_under (assigned I c) hs) (parts_under (assigned I everything) hs) (p ∷ []) (p ∷ []) (parts_within I c everything (λ u k w e. refl) hs) (sub_self (p ∷ []))
part_fewer I c hs (unknown u σ) =
    made_part (parts_under (assigned I c) hs) (parts_under (assigned I everything) hs) (map (formula_by σ) (assigned I c u)) (map (formula_by σ) (assigned I everything u))
    (parts_within I c everything (λ v k w e. refl) hs) (picked_within (c u) (everything u) σ 0 (I u) (λ n a b e. refl))

is_part : (I : Instances) (c : Selection) (k : Constraint) → IsPart (closed_under (assigned I c) k) (closed_under I k)
is_part I c k = subst (IsPart (closed_under (assigned I c) k)) (closed_all I everything (λ u n w. refl) k) (part_fewer I c k.hypotheses k.goal)

pub some_gather : SomeGather
some_gather I c k h = (is_part I c k).all CanGather pair_turns h

pub sizes_are_fewer : SizesAreFewer
sizes_are_fewer I c k = (is_part I c k).sizes

-- ---- each literal is one of the others, or an equation the other way round

itself : (cs : List Comparison) (c : Comparison) → Contains cs c → HasAlike cs c
itself cs c there = (c, there, inl refl)

alike_turns : (a b : Sum) (d : Comparison) → IsAlike (equal_row a b) d → IsAlike (equal_row b a) d
alike_turns a b d (inl e) = inr (b, a, refl, sym e)
alike_turns a b d (inr t) =
    inl (ap₂ equal_row (ap (λ (c : Comparison). c.right) t.2) (ap (λ (c : Comparison). c.left) t.2) ∙ sym t.3)

has_turns : (cs : List Comparison) (a b : Sum) → HasAlike cs (equal_row a b) → HasAlike cs (equal_row b a)
has_turns cs a b h = (h.0, h.1, alike_turns a b h.0 h.2)

condition_alike : (cs : List Comparison) (s a b t c d : Sum) → All (HasAlike cs) (condition_rows s a b t c d) → All (HasAlike cs) (condition_rows t c d s a b)
condition_alike cs s a b t c d h =
    let P = HasAlike cs in
    let r6 : List Comparison = below_row d b ∷ [] in
    let r5 : List Comparison = below_row b d ∷ r6 in
    let r4 : List Comparison = below_row c a ∷ r5 in
    let r3 : List Comparison = below_row a c ∷ r4 in
    let r2 : List Comparison = equal_row s t ∷ r3 in
    let r1 : List Comparison = equal_row b d ∷ r2 in
    let t1 : All P r1 = All-tail P (equal_row a c) r1 h in
    let t2 : All P r2 = All-tail P (equal_row b d) r2 t1 in
    let t3 : All P r3 = All-tail P (equal_row s t) r3 t2 in
    let t4 : All P r4 = All-tail P (below_row a c) r4 t3 in
    let t5 : All P r5 = All-tail P (below_row c a) r5 t4 in
    let t6 : All P r6 = All-tail P (below_row b d) r6 t5 in
    let u6 : List Comparison = below_row b d ∷ [] in
    let u5 : List Comparison = below_row d b ∷ u6 in
    let u4 : List Comparison = below_row a c ∷ u5 in
    let u3 : List Comparison = below_row c a ∷ u4 in
    let u2 : List Comparison = equal_row t s ∷ u3 in
    let u1 : List Comparison = equal_row d b ∷ u2 in
    All-cons P (equal_row c a) u1 (has_turns cs a c (All-head P (equal_row a c) r1 h))
    (All-cons P (equal_row d b) u2 (has_turns cs b d (All-head P (equal_row b d) r2 t1))
    (All-cons P (equal_row t s) u3 (has_turns cs s t (All-head P (equal_row s t) r3 t2))
    (All-cons P (below_row c a) u4 (All-head P (below_row c a) r5 t4)
    (All-cons P (below_row a c) u5 (All-head P (below_row a c) r4 t3)
    (All-cons P (below_row d b) u6 (All-head P (below_row d b) [] t6)
    (All-cons P (below_row b d) [] (All-head P (below_row b d) r6 t5) (All-nil P)))))))

alone_alike : (cs : List Comparison) (s t : Sum) → All (HasAlike cs) (equal_row s t ∷ []) → All (HasAlike cs) (equal_row t s ∷ [])
alone_alike cs s t h =
    All-cons (HasAlike cs) (equal_row t s) [] (has_turns cs s t (All-head (HasAlike cs) (equal_row s t) [] h)) (All-nil (HasAlike cs))

measures_alike : (cs : List Comparison) (f g : Name) (a b : Sum) → All (HasAlike cs) (if f.0 == g.0 then equal_row (measure f a) (measure g b) ∷ [] else [])
    → All (HasAlike cs) (if g.0 == f.0 then equal_row (measure g b) (measure f a) ∷ [] else [])
measures_alike cs f g a b h =
    eqb_by f.0 g.0
    (λ q e. subst (λ x. All (HasAlike cs) (if x then equal_row (measure g b) (measure f a) ∷ [] else [])) (sym (eq-eqb g.0 f.0 (sym e)))
    (alone_alike cs (measure f a) (measure g b) (subst (λ x. All (HasAlike cs) (if x then equal_row (measure f a) (measure g b) ∷ [] else [])) q h)))
    (λ q e. subst (λ x. All (HasAlike cs) (if x then equal_row (measure g b) (measure f a) ∷ [] else [])) (sym (ne_eqb g.0 f.0 (λ k. e (sym k)))) (All-nil (HasAlike cs)))

pairs_alike : (cs : List Comparison) → Turns (HasAlike cs)
pairs_alike cs (mul a b) (mul c d) p q h = condition_alike cs (mul a b) a b (mul c d) c d h
pairs_alike cs (mul a b) _ p q h = All-nil (HasAlike cs)
pairs_alike cs (div a b) (div c d) p q h = condition_alike cs (div a b) a b (div c d) c d h
pairs_alike cs (div a b) _ p q h = All-nil (HasAlike cs)
pairs_alike cs (rem a b) (rem c d) p q h = condition_alike cs (rem a b) a b (rem c d) c d h
pairs_alike cs (rem a b) _ p q h = All-nil (HasAlike cs)
pairs_alike cs (len a) (len b) p q h = alone_alike cs (len a) (len b) h
pairs_alike cs (len a) _ p q h = All-nil (HasAlike cs)
pairs_alike cs (measure f a) (measure g b) p q h = measures_alike cs f g a b h
pairs_alike cs (measure f a) _ p q h = All-nil (HasAlike cs)
pairs_alike cs (whole n) (mul c d) p q h = All-nil (HasAlike cs)
pairs_alike cs (whole n) _ p q h = All-nil (HasAlike cs)
pairs_alike cs (var x) (mul c d) p q h = All-nil (HasAlike cs)
pairs_alike cs (var x) _ p q h = All-nil (HasAlike cs)
pairs_alike cs (neg a) (mul c d) p q h = All-nil (HasAlike cs)
pairs_alike cs (neg a) _ p q h = All-nil (HasAlike cs)
pairs_alike cs (add a b) (mul c d) p q h = All-nil (HasAlike cs)
pairs_alike cs (add a b) _ p q h = All-nil (HasAlike cs)
pairs_alike cs (sub a b) (mul c d) p q h = All-nil (HasAlike cs)
pairs_alike cs (sub a b) _ p q h = All-nil (HasAlike cs)

every_one : (cs : List Comparison) → All (HasAlike cs) cs
every_one cs k d l = itself cs (get_or cs k d) (Contains-get_or cs k d l)

pub some_are_fewer : SomeAreFewer
some_are_fewer I c k = record {
  literals = λ d there.
      subst (HasAlike (implication_literals (closed_under I k))) there.2
      ((is_part I c k).all (HasAlike (implication_literals (closed_under I k))) (pairs_alike (implication_literals (closed_under I k)))
      (every_one (implication_literals (closed_under I k))) there.0 d there.1);
  terms = (is_part I c k).terms;
}
