-- Levels that are right stay so: as facts come, as they go, as a level is added, and where an unknown changes of which none speaks.
use Rattle.std.proofs.Common.{◌≡◌, ◌∙◌, ◌⊎◌, inl, inr, ℕ, zero, suc, ◌+◌, ◌<◌, ◌≤◌, min, List, [], ◌∷◌, ◌++◌, Some, get_or, length, take, slice_get, refl, sym, ap, subst, arith}
use Rattle.std.proofs.lemmas.List.{length-take, take-take, take_all}
use Rattle.std.proofs.lemmas.Option.{slice_get_within}
use Rattle.lq_refined_substitution.specs.Implications.Views.{environment_in}
use Rattle.lq_solve_facts.proofs.FactsLemmas.Holding.{agrees_before}
use Rattle.lq_solve_facts.specs.Facts.Known.{Hold, HoldFirst, Keeps, fact_count, readings_of}
use Rattle.lq_solve_facts.specs.Facts.Values.{MeetsEachRow}
use Rattle.lq_solve_facts.specs.declared.facts.known.Known.{Known}
use Rattle.lq_logic_rows.specs.Row.{Row}
use Rattle.lq_solve_facts.specs.Nearest.Reading.{EachPlain}
use Rattle.lq_refined_types.specs.Parts.Assignment.{Assignment, parts_under}
use Rattle.lq_refined_types.specs.Parts.Part.{Part, Parts}
use Rattle.lq_refined_types.specs.Parts.Refuting.{IsUnknown, Speak}
use Rattle.lq_logic_predicates.specs.ClosedImplication.{MeetsEach}
use Rattle.lq_logic_predicates.specs.Points.{Point}
use Rattle.lq_logic_predicates.specs.Reading.{Reading}
use Rattle.lq_logic_predicates.specs.RowMeaning.{AgreesOn}
use Rattle.lq_logic_predicates.specs.TableView.{terms_of}
use Rattle.lq_solve_facts.proofs.StoreLemmas.Ways.{under_alike}
use Rattle.lq_solve_facts.specs.Store.Kept.{AreAlike, AreRight, AreRising, AreThere, AreTold, HoldsAt, IsNoted, IsWithin, ReadsAt}
use Rattle.lq_solve_facts.specs.declared.store.level.Level.{Level}

-- ---- places of a list

some_is : {X : Type 0} (x y : X) → Some x ≡ Some y → x ≡ y
some_is x y e = cc

pub get_taken : {X : Type 0} (xs : List X) (n i : ℕ) (x : X) → slice_get (take n xs) i ≡ Some x → (i < n) × (slice_get xs i ≡ Some x)
get_taken xs zero i x e = absurd (cc)
get_taken [] (suc n) i x e = absurd (cc)
get_taken (y ∷ xs) (suc n) zero x e = (omega arith, e)
get_taken (y ∷ xs) (suc n) (suc i) x e = let r = get_taken xs n i x e in let w = r.0 in (omega (arith, w), r.1)

pub get_read : {X : Type 0} (xs : List X) (i : ℕ) (d : X) → i < length xs → slice_get xs i ≡ Some (get_or xs i d)
get_read [] i d w = absurd (omega (arith, w))
get_read (x ∷ xs) zero d w = refl
get_read (x ∷ xs) (suc i) d w = get_read xs i d (omega (arith, w))

get_kept : {X : Type 0} (xs : List X) (n i : ℕ) (x : X) → i < n → slice_get xs i ≡ Some x → slice_get (take n xs) i ≡ Some x
get_kept xs zero i x w e = absurd (omega (arith, w))
get_kept [] (suc n) i x w e = absurd (cc)
get_kept (y ∷ xs) (suc n) zero x w e = e
get_kept (y ∷ xs) (suc n) (suc i) x w e = get_kept xs n i x (omega (arith, w)) e

get_added : {X : Type 0} (xs ys : List X) (i : ℕ) (x : X) → slice_get xs i ≡ Some x → slice_get (xs ++ ys) i ≡ Some x
get_added [] ys i x e = absurd (cc)
get_added (y ∷ xs) ys zero x e = e
get_added (y ∷ xs) ys (suc i) x e = get_added xs ys i x e

get_here : {X : Type 0} (xs : List X) (y : X) → slice_get (xs ++ y ∷ []) (length xs) ≡ Some y
get_here [] y = refl
get_here (x ∷ xs) y = get_here xs y

pub get_last : {X : Type 0} (xs : List X) (y : X) (i : ℕ) (x : X) → slice_get (xs ++ y ∷ []) i ≡ Some x → (slice_get xs i ≡ Some x) ⊎ ((i ≡ length xs) × (y ≡ x))
get_last [] y zero x e = inr (refl, cc)
get_last [] y (suc i) x e = absurd (cc)
get_last (z ∷ xs) y zero x e = inl e
get_last (z ∷ xs) y (suc i) x e = elim (get_last xs y i x e) [ inl f ↦ inl f | inr f ↦ inr (ap suc f.0, f.1) ]

-- ---- unknowns that are noted

noted_added : (levels : List Level) (top : Level) (n m u : ℕ) → n ≤ m → IsNoted levels n u → IsNoted (levels ++ top ∷ []) m u
noted_added levels top n m u w h = record { at = h.at; level = h.level; before = let b = h.before in omega (arith, w, b); here = get_added levels (top ∷ []) h.at h.level h.here; is = h.is }

noted_taken : (levels : List Level) (n i u : ℕ) → i < n → IsNoted levels i u → IsNoted (take n levels) i u
noted_taken levels n i u w h = record {
  at = h.at;
  level = h.level;
  before = h.before;
  here = get_kept levels n h.at h.level (let b = h.before in omega (arith, w, b)) h.here;
  is = h.is;
}

noted_any : (levels : List Level) (n u : ℕ) → IsNoted levels n u → IsNoted levels (length levels) u
noted_any levels n u h = record { at = h.at; level = h.level; before = let w = slice_get_within levels h.at h.level h.here in omega (arith, w); here = h.here; is = h.is }

speaks_last : (u : ℕ) (xs : Parts) (q : Part) → Speak u (xs ++ q ∷ []) → Speak u xs ⊎ IsUnknown u q
speaks_last u [] q (inl h) = inr h
speaks_last u [] q (inr h) = absurd h
speaks_last u (x ∷ xs) q (inl h) = inl (inl h)
speaks_last u (x ∷ xs) q (inr h) = elim (speaks_last u xs q h) [ inl s ↦ inl (inr s) | inr s ↦ inr s ]

-- with a level that notes the last hypothesis, where this is an unknown, each unknown is noted
pub noted_last : (levels : List Level) (top : Level) (xs left : Parts) (q : Part) → left ≡ xs ++ q ∷ [] → ((u : ℕ) → IsUnknown u q → top.unknown ≡ Some u)
    → ((u : ℕ) → Speak u xs → IsNoted levels (length levels) u) → (u : ℕ) → Speak u left → IsNoted (levels ++ top ∷ []) (length levels) u
noted_last levels top xs left q e own h u s = by (speaks_last u xs q (subst (Speak u) e s))
  where
    by : Speak u xs ⊎ IsUnknown u q → IsNoted (levels ++ top ∷ []) (length levels) u
    by (inl t) = noted_added levels top (length levels) (length levels) u (omega arith) (h u t)
    by (inr t) = record { at = length levels; level = top; before = omega arith; here = get_here levels top; is = own u t }

-- ---- what is told

told_grown : (A : Assignment) (old new : Known) (n : ℕ) (xs : Parts) → Keeps old new → n ≤ length (readings_of old) → AreTold A old (take n (readings_of old)) xs
    → AreTold A new (take n (readings_of new)) xs
told_grown A old new n xs k w t v p a m =
    t v p (agrees_before (terms_of old.table) (terms_of new.table) v p k.terms a) (subst (MeetsEachRow v p) (k.readings n w) m)

told_back : (A : Assignment) (old new : Known) (xs : Parts) (rs ss : List (Reading Row)) → terms_of new.table ≡ terms_of old.table → rs ≡ ss → AreTold A old ss xs → AreTold A new rs xs
told_back A old new xs rs ss e f t v p a m = t v p (subst (λ l. AgreesOn l v p) e a) (subst (MeetsEachRow v p) f m)

told_take : (A : Assignment) (k : Known) (n : ℕ) (xs : Parts) → n ≡ length (readings_of k) → AreTold A k (readings_of k) xs → AreTold A k (take n (readings_of k)) xs
told_take A k n xs e t = told_back A k k xs (take n (readings_of k)) (readings_of k) refl (take_all n (readings_of k) (omega (arith, e))) t

-- ---- levels

pub right_none : (A : Assignment) (es : List Parts) (known : Known) → AreRight A es known []
right_none A es known = record { within = λ i l e. absurd (cc); rises = λ i j l m w e f. absurd (cc); holds = λ i l e. absurd (cc); reads = λ i l e. absurd (cc); named = λ i l e. absurd (cc) }

pub right_grown : (A : Assignment) (es : List Parts) (old new : Known) (levels : List Level) → Keeps old new → AreRight A es old levels → AreRight A es new levels
right_grown A es old new levels k r = record {
  within = λ i l e.
      let w = r.within i l e in
      let m = w.mark in
      let n = w.readings in
      let a = k.count in
      let b = k.reading_count in record { mark = omega (arith, a, m); readings = omega (arith, b, n) };
  rises = r.rises;
  holds = λ i l e p m. k.first l.mark p (r.within i l e).mark (r.holds i l e p m);
  reads = λ i l e. told_grown A old new l.readings (environment_in es l.env) k (r.within i l e).readings (r.reads i l e);
  named = r.named;
}

-- back to the facts and readings of a level
pub record IsBackTo (top : Level) (old new : Known) : Type 0 where
  pub count : fact_count new ≡ min top.mark (fact_count old)
  pub hold : (p : Point) → HoldFirst top.mark old p → Hold new p
  pub first : (n : ℕ) (p : Point) → n ≤ top.mark → HoldFirst n old p → HoldFirst n new p
  pub readings : readings_of new ≡ take top.readings (readings_of old)
  pub terms : terms_of new.table ≡ terms_of old.table

pub right_back : (A : Assignment) (es : List Parts) (old new : Known) (levels : List Level) (at : ℕ) (top : Level) → slice_get levels at ≡ Some top
    → IsBackTo top old new → AreRight A es old levels → AreRight A es new (take (at + 1) levels)
right_back A es old new levels at top here b r = record {
  within = λ i l e.
      let t = get_taken levels (at + 1) i l e in
      let w = t.0 in
      let a = r.rises i at l top (omega (arith, w)) t.1 here in
      let m = a.mark in
      let n = a.readings in
      let c = r.within at top here in
      let d = c.mark in
      let g = c.readings in
      let count = b.count in
      let size = ap length b.readings ∙ length-take top.readings (readings_of old) in record { mark = omega (arith, m, d, count); readings = omega (arith, n, g, size) };
  rises = λ i j l m w e f. r.rises i j l m w (get_taken levels (at + 1) i l e).1 (get_taken levels (at + 1) j m f).1;
  holds = λ i l e p m.
      let t = get_taken levels (at + 1) i l e in
      let w = t.0 in
      b.first l.mark p (r.rises i at l top (omega (arith, w)) t.1 here).mark (r.holds i l t.1 p m);
  reads = λ i l e.
      let t = get_taken levels (at + 1) i l e in
      let w = t.0 in
      let n = (r.rises i at l top (omega (arith, w)) t.1 here).readings in
      told_back A old new (environment_in es l.env) (take l.readings (readings_of new)) (take l.readings (readings_of old)) b.terms
      (ap (take l.readings) b.readings ∙ take-take l.readings top.readings (readings_of old) n) (r.reads i l t.1);
  named = λ i l e u s. let t = get_taken levels (at + 1) i l e in noted_taken levels (at + 1) i u t.0 (r.named i l t.1 u s);
}

-- the environment of the level is there then
pub there_back : (A : Assignment) (es : List Parts) (old new : Known) (levels : List Level) (at : ℕ) (top : Level) → slice_get levels at ≡ Some top
    → IsBackTo top old new → AreRight A es old levels → AreThere A es new (take (at + 1) levels) top.env
there_back A es old new levels at top here b r = record {
  holds = λ p m. b.hold p (r.holds at top here p m);
  reads = told_back A old new (environment_in es top.env) (readings_of new) (take top.readings (readings_of old)) b.terms b.readings (r.reads at top here);
  named = λ u s. noted_any (take (at + 1) levels) at u (noted_taken levels (at + 1) at u (omega arith) (r.named at top here u s));
}

-- a level at the end, of an environment that is there
pub right_added : (A : Assignment) (es : List Parts) (known : Known) (levels : List Level) (top : Level) → top.mark ≡ fact_count known → top.readings ≡ length (readings_of known)
    → HoldsAt A es known top → AreTold A known (readings_of known) (environment_in es top.env)
    → ((u : ℕ) → Speak u (environment_in es top.env) → IsNoted (levels ++ top ∷ []) (length levels) u) → AreRight A es known levels → AreRight A es known (levels ++ top ∷ [])
right_added A es known levels top count size here told names r = record { within = within; rises = rises; holds = holds; reads = reads; named = named }
  where
    within : (i : ℕ) (l : Level) → slice_get (levels ++ top ∷ []) i ≡ Some l → IsWithin known l
    within i l e = by (get_last levels top i l e)
      where
        by : (slice_get levels i ≡ Some l) ⊎ ((i ≡ length levels) × (top ≡ l)) → IsWithin known l
        by (inl f) = r.within i l f
        by (inr f) = subst (IsWithin known) f.1 (record { mark = omega (arith, count); readings = omega (arith, size) })

    rises : (i j : ℕ) (l m : Level) → i ≤ j → slice_get (levels ++ top ∷ []) i ≡ Some l → slice_get (levels ++ top ∷ []) j ≡ Some m → AreRising l m
    rises i j l m w e f = by (get_last levels top i l e) (get_last levels top j m f)
      where
        by : (slice_get levels i ≡ Some l) ⊎ ((i ≡ length levels) × (top ≡ l)) → (slice_get levels j ≡ Some m) ⊎ ((j ≡ length levels) × (top ≡ m)) → AreRising l m
        by (inl g) (inl h) = r.rises i j l m w g h
        by (inl g) (inr h) =
            let n = r.within i l g in
            let a = n.mark in
            let b = n.readings in
            subst (AreRising l) h.1 (record { mark = omega (arith, a, count); readings = omega (arith, b, size) })
        by (inr g) (inl h) = let a = slice_get_within levels j m h in let b = g.0 in absurd (omega (arith, a, b, w))
        by (inr g) (inr h) = subst (λ (x : Level). AreRising x m) g.1 (subst (AreRising top) h.1 (record { mark = omega arith; readings = omega arith }))

    holds : (i : ℕ) (l : Level) → slice_get (levels ++ top ∷ []) i ≡ Some l → HoldsAt A es known l
    holds i l e = by (get_last levels top i l e)
      where
        by : (slice_get levels i ≡ Some l) ⊎ ((i ≡ length levels) × (top ≡ l)) → HoldsAt A es known l
        by (inl f) = r.holds i l f
        by (inr f) = subst (HoldsAt A es known) f.1 here

    reads : (i : ℕ) (l : Level) → slice_get (levels ++ top ∷ []) i ≡ Some l → ReadsAt A es known l
    reads i l e = by (get_last levels top i l e)
      where
        by : (slice_get levels i ≡ Some l) ⊎ ((i ≡ length levels) × (top ≡ l)) → ReadsAt A es known l
        by (inl f) = r.reads i l f
        by (inr f) = subst (ReadsAt A es known) f.1 (told_take A known top.readings (environment_in es top.env) size told)

    named : (i : ℕ) (l : Level) → slice_get (levels ++ top ∷ []) i ≡ Some l → (u : ℕ) → Speak u (environment_in es l.env) → IsNoted (levels ++ top ∷ []) i u
    named i l e u s = by (get_last levels top i l e)
      where
        by : (slice_get levels i ≡ Some l) ⊎ ((i ≡ length levels) × (top ≡ l)) → IsNoted (levels ++ top ∷ []) i u
        by (inl f) = noted_added levels top i i u (omega arith) (r.named i l f u s)
        by (inr f) = subst (λ k. IsNoted (levels ++ top ∷ []) k u) (sym f.0) (names u (subst (λ (x : Level). Speak u (environment_in es x.env)) (sym f.1) s))

-- and its environment is there
pub there_added : (A : Assignment) (es : List Parts) (known : Known) (levels : List Level) (top : Level) → ((p : Point) → MeetsEach p (parts_under A (environment_in es top.env)) → Hold known p)
    → AreTold A known (readings_of known) (environment_in es top.env) → ((u : ℕ) → Speak u (environment_in es top.env) → IsNoted (levels ++ top ∷ []) (length levels) u)
    → AreThere A es known (levels ++ top ∷ []) top.env
there_added A es known levels top hold told names = record { holds = hold; reads = told; named = λ u s. noted_any (levels ++ top ∷ []) (length levels) u (names u s) }

-- ---- another assignment

-- what is right stays so where only an unknown changes that no level notes
pub right_alike : (u : ℕ) (A B : Assignment) (es : List Parts) (known : Known) (levels : List Level) → AreAlike u A B
    → ((i : ℕ) (l : Level) → slice_get levels i ≡ Some l → l.unknown ≡ Some u → ⊥) → AreRight A es known levels → AreRight B es known levels
right_alike u A B es known levels a none r = record {
  within = r.within;
  rises = r.rises;
  holds = λ i l e p m. r.holds i l e p (subst (MeetsEach p) (sym (same i l e)) m);
  reads = λ i l e v p h m. subst (λ qs. MeetsEach p qs × EachPlain qs) (same i l e) (r.reads i l e v p h m);
  named = r.named;
}
  where
    same : (i : ℕ) (l : Level) → slice_get levels i ≡ Some l → parts_under A (environment_in es l.env) ≡ parts_under B (environment_in es l.env)
    same i l e = under_alike u A B (environment_in es l.env) a (λ s. let n = r.named i l e u s in none n.at n.level n.here n.is)

-- none of the first levels notes the unknown
abbrev pub NoneFirst : List Level → ℕ → ℕ → Type 0
NoneFirst levels n u = (i : ℕ) (l : Level) → i < n → slice_get levels i ≡ Some l → l.unknown ≡ Some u → ⊥

below_next : (n k : ℕ) → k < n + 1 → (k < n) ⊎ (n ≡ k)
below_next zero zero w = inr refl
below_next zero (suc k) w = absurd (omega (arith, w))
below_next (suc n) zero w = inl (omega arith)
below_next (suc n) (suc k) w = elim (below_next n k (omega (arith, w))) [ inl v ↦ inl (omega (arith, v)) | inr e ↦ inr (omega (arith, e)) ]

pub none_next : (levels : List Level) (n u : ℕ) (here : Level) → slice_get levels n ≡ Some here → (here.unknown ≡ Some u → ⊥) → NoneFirst levels n u → NoneFirst levels (n + 1) u
none_next levels n u here e f h i l w g s = by (below_next n i w)
  where
    by : (i < n) ⊎ (n ≡ i) → ⊥
    by (inl v) = h i l v g s
    by (inr d) = f (subst (λ (x : Level). x.unknown ≡ Some u) (some_is l here (sym g ∙ ap (slice_get levels) (sym d) ∙ e)) s)

-- what is right stays so where the levels are those before the first one that notes the unknown
pub right_before : (u : ℕ) (A B : Assignment) (es : List Parts) (known : Known) (levels : List Level) (n : ℕ) → AreAlike u A B → NoneFirst levels n u → AreRight A es known (take n levels)
    → AreRight B es known (take n levels)
right_before u A B es known levels n a none r =
    right_alike u A B es known (take n levels) a (λ i l e s. let t = get_taken levels n i l e in none i l t.0 t.1 s) r

pub back_here : (old new : Known) (levels : List Level) (at : ℕ) (level l : Level) → slice_get levels at ≡ Some level → slice_get levels at ≡ Some l → IsBackTo level old new → IsBackTo l old new
back_here old new levels at level l e f b = subst (λ (x : Level). IsBackTo x old new) (some_is level l (sym e ∙ f)) b
