-- Steps of a way, and what is met and read of hypotheses.
use Rattle.std.proofs.Common.{Bool, cond, ◌≡◌, ◌∙◌, inl, inr, ℕ, zero, suc, ◌+◌, ◌<◌, ◌≤◌, List, [], ◌∷◌, ◌++◌, length, map, get_or, take, refl, sym, ap, ap₂, subst, append_assoc, arith}
use Rattle.std.proofs.Math.Seq.{take-suc}
use Rattle.std.proofs.lemmas.List.{append-nil, map-append, take_all}
use Rattle.lq_solve_facts.proofs.FactsLemmas.Holding.{agrees_before}
use Rattle.lq_solve_facts.specs.Facts.Known.{Keeps, readings_of}
use Rattle.lq_solve_facts.specs.declared.facts.known.Known.{Known}
use Rattle.lq_solve_facts.specs.Nearest.Reading.{AreRead, EachPlain}
use Rattle.lq_refined_substitution.specs.Implications.Views.{environment_in}
use Rattle.lq_refined_types.specs.Parts.Assignment.{Assignment, part_under, parts_under}
use Rattle.lq_refined_types.specs.Parts.Flowing.{Selection, assigned, picked}
use Rattle.lq_refined_types.specs.Parts.Part.{Part, Parts, known, unknown}
use Rattle.lq_refined_types.specs.Parts.Refuting.{Speak}
use Rattle.lq_refined_types.specs.Parts.Substitution.{formula_by}
use Rattle.lq_logic_predicates.specs.ClosedImplication.{MeetsEach}
use Rattle.lq_logic_predicates.specs.Formula.{Formula}
use Rattle.lq_logic_predicates.specs.Points.{Point}
use Rattle.lq_logic_predicates.specs.TableView.{terms_of}
use Rattle.lq_refined_substitution.specs.Substitution.Views.{part_view}
use Rattle.lq_refined_substitution.specs.declared.substitution.parts.Part as code
use Rattle.lq_solve_fixpoint.specs.Weakening.Chosen.{AgreeBut}
use Rattle.lq_solve_facts.proofs.NearestLemmas.Meeting.{each_join, each_left, each_right}
use Rattle.lq_solve_facts.specs.Store.Kept.{AreAlike, AreTold}
use Rattle.lq_solve_facts.specs.Store.Way.{LeadsTo}
use Rattle.lq_solve_facts.specs.declared.store.way.Step.{Step}

-- one step more, and one less, at the outer end
pub way_added : (es : List Parts) (steps : List Step) (s : Step) (parent env : ℕ) → LeadsTo es s.env steps env
    → environment_in es s.env ≡ environment_in es parent ++ part_view s.part.now ∷ [] → LeadsTo es parent (steps ++ s ∷ []) env
way_added es [] s parent env h e = record { parent = parent; is = sym h; hypotheses = e; rest = refl }
way_added es (x ∷ steps) s parent env h e = record { parent = h.parent; is = h.is; hypotheses = h.hypotheses; rest = way_added es steps s parent h.parent h.rest e }

pub way_taken : (es : List Parts) (steps : List Step) (s : Step) (at env : ℕ) → LeadsTo es at (steps ++ s ∷ []) env
    → LeadsTo es s.env steps env × (environment_in es s.env ≡ environment_in es at ++ part_view s.part.now ∷ [])
way_taken es [] s at env h = (sym h.is, subst (λ k. environment_in es s.env ≡ environment_in es k ++ part_view s.part.now ∷ []) h.rest h.hypotheses)
way_taken es (x ∷ steps) s at env h = let r = way_taken es steps s at h.parent h.rest in (record { parent = h.parent; is = h.is; hypotheses = h.hypotheses; rest = r.0 }, r.1)

-- of hypotheses that are met the first ones are, the last ones, and each
pub parts_apart : (A : Assignment) (p : Point) (xs ys : Parts) → MeetsEach p (parts_under A (xs ++ ys)) → MeetsEach p (parts_under A xs) × MeetsEach p (parts_under A ys)
parts_apart A p [] ys h = (tt, h)
parts_apart A p (x ∷ xs) ys h =
    let r = parts_apart A p xs ys (each_right p (part_under A x) (parts_under A (xs ++ ys)) h) in
    (each_join p (part_under A x) (parts_under A xs) (each_left p (part_under A x) (parts_under A (xs ++ ys)) h) r.0, r.1)

pub part_met : (A : Assignment) (p : Point) (items : List code.Part) (i : ℕ) (d : code.Part) → i < length items → MeetsEach p (parts_under A (map part_view items))
    → MeetsEach p (part_under A (part_view (get_or items i d)))
part_met A p [] i d w h = absurd (omega (arith, w))
part_met A p (x ∷ items) zero d w h = each_left p (part_under A (part_view x)) (parts_under A (map part_view items)) h
part_met A p (x ∷ items) (suc i) d w h = part_met A p items i d (omega (arith, w)) (each_right p (part_under A (part_view x)) (parts_under A (map part_view items)) h)

-- ---- what is read of hypotheses

plain_join : (xs ys : List Formula) → EachPlain xs → EachPlain ys → EachPlain (xs ++ ys)
plain_join [] ys h k = k
plain_join (x ∷ xs) ys h k = (h.0, plain_join xs ys h.1 k)

under_append : (A : Assignment) (xs ys : Parts) → parts_under A (xs ++ ys) ≡ parts_under A xs ++ parts_under A ys
under_append A [] ys = refl
under_append A (x ∷ xs) ys = ap (λ l. part_under A x ++ l) (under_append A xs ys) ∙ sym (append_assoc (part_under A x) (parts_under A xs) (parts_under A ys))

under_one : (A : Assignment) (xs : Parts) (q : Part) → parts_under A (xs ++ q ∷ []) ≡ parts_under A xs ++ part_under A q
under_one A xs q = under_append A xs (q ∷ []) ∙ ap (λ l. parts_under A xs ++ l) (append-nil (part_under A q))

pub read_none : (k : Known) → AreRead k k []
read_none k v p a m = (m, (tt, tt))

pub read_then : (old mid new : Known) (ps qs : List Formula) → Keeps mid new → AreRead old mid ps → AreRead mid new qs → AreRead old new (ps ++ qs)
read_then old mid new ps qs k h g v p a m =
    let r = g v p a m in
    let s = h v p (agrees_before (terms_of mid.table) (terms_of new.table) v p k.terms a) r.0 in
    (s.0, (each_join p ps qs s.1.0 r.1.0, plain_join ps qs s.1.1 r.1.1))

-- of parts one more
pub read_next : (A : Assignment) (old mid new : Known) (items : List code.Part) (i : ℕ) (d : code.Part) → i < length items → Keeps mid new
    → AreRead old mid (parts_under A (map part_view (take i items))) → AreRead mid new (part_under A (part_view (get_or items i d)))
    → AreRead old new (parts_under A (map part_view (take (i + 1) items)))
read_next A old mid new items i d w k h g =
    let before = take i items in
    let x = get_or items i d in
    let next : suc i ≡ i + 1 = omega arith in
    let one : take (i + 1) items ≡ before ++ x ∷ [] = subst (λ n. take n items ≡ before ++ x ∷ []) next (take-suc items i d w) in
    let same : parts_under A (map part_view (take (i + 1) items)) ≡ parts_under A (map part_view before) ++ part_under A (part_view x)
    = ap (λ l. parts_under A (map part_view l)) one ∙ ap (parts_under A) (map-append part_view before (x ∷ [])) ∙ under_one A (map part_view before) (part_view x) in
    subst (AreRead old new) (sym same) (read_then old mid new (parts_under A (map part_view before)) (part_under A (part_view x)) k h g)

pub read_all : (A : Assignment) (old new : Known) (items : List code.Part) (i : ℕ) → length items ≤ i → AreRead old new (parts_under A (map part_view (take i items)))
    → AreRead old new (parts_under A (map part_view items))
read_all A old new items i w h = subst (λ l. AreRead old new (parts_under A (map part_view l))) (take_all i items w) h

-- what is told goes on being so, and what is read behind it too
told_more : (A : Assignment) (old new : Known) (xs ys : Parts) (ps : List Formula) → parts_under A ys ≡ parts_under A xs ++ ps → Keeps old new
    → AreTold A old (readings_of old) xs → AreRead old new ps → AreTold A new (readings_of new) ys
told_more A old new xs ys ps e k t g v p a m =
    let r = g v p a m in
    let s = t v p (agrees_before (terms_of old.table) (terms_of new.table) v p k.terms a) r.0 in
    subst (λ l. MeetsEach p l × EachPlain l) (sym e) (each_join p (parts_under A xs) ps s.0 r.1.0, plain_join (parts_under A xs) ps s.1 r.1.1)

pub told_parts : (A : Assignment) (old new : Known) (xs ys : Parts) → Keeps old new → AreTold A old (readings_of old) xs → AreRead old new (parts_under A ys) → AreTold A new (readings_of new) (xs ++ ys)
told_parts A old new xs ys k t g = told_more A old new xs (xs ++ ys) (parts_under A ys) (under_append A xs ys) k t g

pub told_part : (A : Assignment) (old new : Known) (left xs : Parts) (q : Part) → left ≡ xs ++ q ∷ [] → Keeps old new → AreTold A old (readings_of old) xs → AreRead old new (part_under A q)
    → AreTold A new (readings_of new) left
told_part A old new left xs q e k t g = told_more A old new xs left (part_under A q) (ap (parts_under A) e ∙ under_one A xs q) k t g

pub told_nothing : (A : Assignment) (k : Known) (left : Parts) → left ≡ [] → AreTold A k (readings_of k) left
told_nothing A k left e v p a m = subst (λ l. MeetsEach p (parts_under A l) × EachPlain (parts_under A l)) (sym e) (tt, tt)

-- ---- another assignment

pub under_alike : (u : ℕ) (A B : Assignment) (qs : Parts) → AreAlike u A B → (Speak u qs → ⊥) → parts_under A qs ≡ parts_under B qs
under_alike u A B [] a h = refl
under_alike u A B (known p ∷ qs) a h = ap (λ l. p ∷ l) (under_alike u A B qs a (λ s. h (inr s)))
under_alike u A B (unknown w σ ∷ qs) a h =
    ap₂ (λ x y. map (formula_by σ) x ++ y) (a w (λ e. h (inl (sym e)))) (under_alike u A B qs a (λ s. h (inr s)))

picked_alike : (f g : ℕ → Bool) (k : ℕ) (ps : List Formula) → ((n : ℕ) → f n ≡ g n) → picked f k ps ≡ picked g k ps
picked_alike f g k [] h = refl
picked_alike f g k (p ∷ ps) h = ap₂ (λ b l. cond b (p ∷ l) l) (h k) (picked_alike f g (suc k) ps h)

-- of selections that agree but on one unknown
pub alike_assigned : (I : ℕ → List Formula) (u : ℕ) (c d : Selection) → AgreeBut u c d → AreAlike u (assigned I c) (assigned I d)
alike_assigned I u c d h w n = picked_alike (c w) (d w) 0 (I w) (h w n)
