-- Stored readings stay right, and readings of chosen instances.
use Rattle.std.proofs.Common.{◌≡◌, ◌∙◌, ◌⊎◌, inl, inr, ◌↔◌, ℕ, zero, suc, ◌+◌, ◌<◌, ◌≤◌, Bool, IsTrue, true, false, List, [], ◌∷◌, ◌++◌, Some, None, length, map, slice_get, refl, sym, ap, ap₂, subst, arith}
use Rattle.std.proofs.lemmas.Option.{same_Some, slice_get_within}
use Rattle.lq_solve_facts.proofs.FactsLemmas.Holding.{read_kept}
use Rattle.lq_solve_facts.specs.Facts.Known.{Hold, IsReadOf, Keeps, readings_of}
use Rattle.lq_solve_facts.specs.Facts.Plain.{IsPlain}
use Rattle.lq_solve_facts.specs.Facts.Read.{IsReadOver}
use Rattle.lq_solve_facts.specs.declared.facts.known.Known.{Known}
use Rattle.lq_solve_facts.specs.declared.facts.read.ReadPred.{ReadPred}
use Rattle.lq_solve_facts.proofs.NearestLemmas.Meeting.{IsMetBy, all_chosen, none_against}
use Rattle.lq_solve_facts.specs.Nearest.Reading.{EachPlain}
use Rattle.lq_refined_types.specs.Parts.Assignment.{all_joined}
use Rattle.lq_refined_types.specs.Parts.Flowing.{picked}
use Rattle.lq_refined_types.specs.Parts.Refuting.{IsRefuted}
use Rattle.lq_refined_types.specs.Parts.Substitution.{Subst, formula_by}
use Rattle.lq_logic_predicates.specs.ClosedImplication.{MeetsEach}
use Rattle.lq_logic_predicates.specs.Formula.{Formula}
use Rattle.lq_logic_predicates.specs.Points.{Meets, Point}
use Rattle.lq_logic_predicates.specs.Reading.{reading_of}
use Rattle.lq_logic_predicates.specs.TableView.{terms_of}
use Rattle.lq_solve_fixpoint.specs.Weakening.Among.{IsAmong}
use Rattle.lq_solve_fixpoint.specs.Weakening.Judging.{AreRefuted}
use Rattle.lq_solve_facts.proofs.StoreLemmas.Failing.{refutable_before}
use Rattle.lq_solve_facts.proofs.StoreLemmas.Levels.{get_last}
use Rattle.lq_solve_facts.proofs.StoreLemmas.Standing.{get_mapped}
use Rattle.lq_solve_facts.specs.Store.Aiming.{AreProvedBy, AreRefutableBy, ChosenArePlain}
use Rattle.lq_solve_facts.specs.Store.Reads.{AreReadFrom, AreReads, HasNumber, IsChosenRead, StandUnder}
use Rattle.lq_solve_facts.specs.Store.Store.{AreStored, Standing, stored_at}
use Rattle.lq_solve_facts.specs.declared.store.reading.ReadInstance.{ReadInstance}
use Rattle.lq_solve_facts.specs.declared.store.store.PartPlace.{PartPlace}
use Rattle.lq_solve_facts.specs.declared.store.store.Store.{Store}

-- ---- stored readings

pub stored_kept : (F : Standing) (old new : Known) (s : Store) → Keeps old new → AreStored F old s → AreStored F new s
stored_kept F old new s k a = λ q n r h e f. read_kept old new r h k (a q n r h e f)

pub stored_same : (F : Standing) (old new : Known) (s : Store) → terms_of new.table ≡ terms_of old.table → AreStored F old s → AreStored F new s
stored_same F old new s t a = λ q n r h e f. subst (λ ts. IsReadOver ts r h) (sym t) (a q n r h e f)

pub stored_none : (F : Standing) (k : Known) (s : Store) → ((q : PartPlace) (n : ℕ) → stored_at s q n ≡ None) → AreStored F k s
stored_none F k s none = λ q n r h e f. let x : None ≡ Some r = sym (none q n) ∙ e in absurd (cc)

pub stored_put : (F : Standing) (k : Known) (s t : Store) (place : PartPlace) (number : ℕ) (read : ReadPred) (f : Formula)
    → ((q : PartPlace) (n : ℕ) (r : ReadPred) → stored_at t q n ≡ Some r → (stored_at s q n ≡ Some r) ⊎ ((q ≡ place) × (n ≡ number) × (r ≡ read)))
    → F place number ≡ Some f → IsReadOf k read f → AreStored F k s → AreStored F k t
stored_put F k s t place number read f put at is a q n r h e g = by (put q n r e)
  where
    by : (stored_at s q n ≡ Some r) ⊎ ((q ≡ place) × (n ≡ number) × (r ≡ read)) → IsReadOf k r h
    by (inl x) = a q n r h x g
    by (inr x) =
        let same : f ≡ h = same_Some f h (sym at ∙ sym (ap₂ F x.0 x.1) ∙ g) in
        subst (λ y. IsReadOf k y h) (sym x.2) (subst (IsReadOf k read) same is)

-- ---- items of a list, the first ones

abbrev pub EachFirst : {X : Type 0} → ℕ → List X → (X → Type 0) → Type 0
EachFirst {X} n xs P = (at : ℕ) (x : X) → at < n → slice_get xs at ≡ Some x → P x

below_next : (n k : ℕ) → k < n + 1 → (k < n) ⊎ (n ≡ k)
below_next zero zero w = inr refl
below_next zero (suc k) w = absurd (omega (arith, w))
below_next (suc n) zero w = inl (omega arith)
below_next (suc n) (suc k) w = elim (below_next n k (omega (arith, w))) [ inl v ↦ inl (omega (arith, v)) | inr e ↦ inr (omega (arith, e)) ]

pub item_next : {X : Type 0} (n : ℕ) (xs : List X) (P : X → Type 0) (x : X) → slice_get xs n ≡ Some x → P x → EachFirst n xs P → EachFirst (n + 1) xs P
item_next n xs P x here p h at y w e = by (below_next n at w)
  where
    by : (at < n) ⊎ (n ≡ at) → P y
    by (inl v) = h at y v e
    by (inr q) = subst P (same_Some x y (sym here ∙ ap (slice_get xs) q ∙ e)) p

pub stands_under : (F : Standing) (place : PartPlace) (σ : Subst) (qs : List Formula) (n : ℕ) (q : Formula) → StandUnder F place σ qs → Some q ≡ slice_get qs n
    → F place n ≡ Some (formula_by σ q)
stands_under F place σ qs n q s e = s n ∙ get_mapped (formula_by σ) qs n q (sym e)

-- ---- readings of chosen instances

pub reads_kept : (n : ℕ) (old new : Known) (chosen : ℕ → Bool) (σ : Subst) (qs : List Formula) (reads : List ReadInstance) → Keeps old new → AreReadFrom n old chosen σ qs reads
    → AreReadFrom n new chosen σ qs reads
reads_kept n old new chosen σ qs reads k a = record {
  each = λ at r e.
      let one = a.each at r e in record {
        instance = one.instance;
        here = one.here;
        is_chosen = one.is_chosen;
        read = read_kept old new r.read.value (formula_by σ one.instance) k one.read;
      };
  all = a.all;
}

pub reads_none : (n : ℕ) (k : Known) (chosen : ℕ → Bool) (σ : Subst) (qs : List Formula) (reads : List ReadInstance) → reads ≡ [] → length qs ≤ n → AreReadFrom n k chosen σ qs reads
reads_none n k chosen σ qs reads e w = record {
  each = λ at r g. let x : slice_get [] at ≡ Some r = subst (λ l. slice_get l at ≡ Some r) e g in absurd (cc);
  all = λ i v u. absurd (omega (arith, w, v, u));
}

number_added : (reads : List ReadInstance) (r : ReadInstance) (i : ℕ) → HasNumber reads i → HasNumber (reads ++ r ∷ []) i
number_added reads r i h = record { at = h.at; read = h.read; here = added reads h.at h.read h.here; is = h.is }
  where
    added : (xs : List ReadInstance) (at : ℕ) (x : ReadInstance) → slice_get xs at ≡ Some x → slice_get (xs ++ r ∷ []) at ≡ Some x
    added [] at x e = absurd (cc)
    added (y ∷ xs) zero x e = e
    added (y ∷ xs) (suc at) x e = added xs at x e

get_behind : (xs : List ReadInstance) (y : ReadInstance) → slice_get (xs ++ y ∷ []) (length xs) ≡ Some y
get_behind [] y = refl
get_behind (x ∷ xs) y = get_behind xs y

-- one more, the nearest before those
pub reads_next : (m n : ℕ) (k : Known) (chosen : ℕ → Bool) (σ : Subst) (qs : List Formula) (reads new : List ReadInstance) (r : ReadInstance) (q : Formula) → m ≤ n + 1 → r.number ≡ n
    → Some q ≡ slice_get qs n → chosen n ≡ true → IsReadOf k r.read.value (formula_by σ q) → new ≡ reads ++ r ∷ [] → AreReadFrom m k chosen σ qs reads → AreReadFrom n k chosen σ qs new
reads_next m n k chosen σ qs reads new r q w num e c i is a = subst (AreReadFrom n k chosen σ qs) (sym is) (record { each = each; all = all })
  where
    one : IsChosenRead k chosen σ qs r
    one = record { instance = q; here = subst (λ j. slice_get qs j ≡ Some q) (sym num) (sym e); is_chosen = subst (λ j. chosen j ≡ true) (sym num) c; read = i }

    each : (at : ℕ) (x : ReadInstance) → slice_get (reads ++ r ∷ []) at ≡ Some x → IsChosenRead k chosen σ qs x
    each at x g = by (get_last reads r at x g)
      where
        by : (slice_get reads at ≡ Some x) ⊎ ((at ≡ length reads) × (r ≡ x)) → IsChosenRead k chosen σ qs x
        by (inl h) = a.each at x h
        by (inr h) = subst (IsChosenRead k chosen σ qs) h.1 one

    all : (j : ℕ) → n ≤ j → j < length qs → chosen j ≡ true → HasNumber (reads ++ r ∷ []) j
    all j v u d = by (below_next j n (omega (arith, v)))
      where
        by : (n < j) ⊎ (j ≡ n) → HasNumber (reads ++ r ∷ []) j
        by (inl x) = number_added reads r j (a.all j (omega (arith, w, x)) u d)
        by (inr x) = record { at = length reads; read = r; here = get_behind reads r; is = num ∙ sym x }

pub reads_skip : (m n : ℕ) (k : Known) (chosen : ℕ → Bool) (σ : Subst) (qs : List Formula) (reads : List ReadInstance) → m ≤ n + 1 → chosen n ≡ false → AreReadFrom m k chosen σ qs reads
    → AreReadFrom n k chosen σ qs reads
reads_skip m n k chosen σ qs reads w c a = record { each = a.each; all = all }
  where
    all : (j : ℕ) → n ≤ j → j < length qs → chosen j ≡ true → HasNumber reads j
    all j v u d = by (below_next j n (omega (arith, v)))
      where
        by : (n < j) ⊎ (j ≡ n) → HasNumber reads j
        by (inl x) = a.all j (omega (arith, w, x)) u d
        by (inr x) = let t : chosen n ≡ true = subst (λ i. chosen i ≡ true) x d in absurd (cc)

-- ---- what is said of each of them is said of each chosen instance

-- of the instance of the number
abbrev pub OfNumber : List Formula → (Formula → Type 0) → ReadInstance → Type 0
OfNumber qs P r = (q : Formula) → slice_get qs r.number ≡ Some q → P q

pub of_number : (qs : List Formula) (P : Formula → Type 0) (r : ReadInstance) (q : Formula) → slice_get qs r.number ≡ Some q → P q → OfNumber qs P r
of_number qs P r q here p a e = subst P (same_Some q a (sym here ∙ e)) p

chosen_each : (k : Known) (chosen : ℕ → Bool) (σ : Subst) (qs : List Formula) (reads : List ReadInstance) (n : ℕ) (P : Formula → Type 0) → AreReads k chosen σ qs reads → length reads ≤ n
    → EachFirst n reads (OfNumber qs P) → (i : ℕ) (q : Formula) → i < length qs → chosen i ≡ true → Some q ≡ slice_get qs i → P q
chosen_each k chosen σ qs reads n P a w h i q v c e =
    let x = a.all i (omega arith) v c in
    let u = slice_get_within reads x.at x.read x.here in
    h x.at x.read (omega (arith, u, w)) x.here q (subst (λ j. slice_get qs j ≡ Some q) (sym x.is) (sym e))

pub each_chosen_met : (k : Known) (chosen : ℕ → Bool) (σ : Subst) (qs : List Formula) (reads : List ReadInstance) (n : ℕ) (p : Point) → AreReads k chosen σ qs reads → length reads ≤ n
    → EachFirst n reads (OfNumber qs (IsMetBy p σ)) → MeetsEach p (map (formula_by σ) (picked chosen 0 qs)) × EachPlain (map (formula_by σ) (picked chosen 0 qs))
each_chosen_met k chosen σ qs reads n p a w h = all_chosen p chosen σ (length qs) qs (omega arith) (λ i q v c e. chosen_each k chosen σ qs reads n (IsMetBy p σ) a w h i q v c e)

-- the negation of the instance isn't met
abbrev pub IsUnmet : Point → Subst → Formula → Type 0
IsUnmet p σ q = Meets p (reading_of false (formula_by σ q)) → ⊥

pub no_chosen_against : (k : Known) (chosen : ℕ → Bool) (σ : Subst) (qs : List Formula) (reads : List ReadInstance) (n : ℕ) (p : Point) → AreReads k chosen σ qs reads → length reads ≤ n
    → EachFirst n reads (OfNumber qs (IsUnmet p σ)) → Meets p (reading_of false (all_joined (map (formula_by σ) (picked chosen 0 qs)))) → ⊥
no_chosen_against k chosen σ qs reads n p a w h m =
    none_against p chosen σ qs (λ i q v c e. chosen_each k chosen σ qs reads n (IsUnmet p σ) a w h i q v (subst (λ j. chosen j ≡ true) (omega arith) c) e) m

abbrev pub IsPlainBy : Subst → Formula → Type 0
IsPlainBy σ q = IsPlain (formula_by σ q)

pub chosen_plain : (k : Known) (chosen : ℕ → Bool) (σ : Subst) (qs : List Formula) (reads : List ReadInstance) (n : ℕ) → AreReads k chosen σ qs reads → length reads ≤ n
    → EachFirst n reads (OfNumber qs (IsPlainBy σ)) → ChosenArePlain chosen σ (length qs) qs
chosen_plain k chosen σ qs reads n a w h i q v c e = chosen_each k chosen σ qs reads n (IsPlainBy σ) a w h i q v c e

-- ---- those that are refuted

-- of the first n readings exactly the instances of these numbers are refuted
pub record AreNoted (n : ℕ) (chosen : ℕ → Bool) (p : Point) (σ : Subst) (qs : List Formula) (reads : List ReadInstance) (numbers : List ℕ) : Type 0 where
  pub chosen_each : (k : ℕ) → IsAmong numbers k → chosen k ≡ true
  pub each : (k : ℕ) → IsAmong numbers k → IsRefuted p σ qs k
  pub all : (at : ℕ) (r : ReadInstance) → at < n → slice_get reads at ≡ Some r → IsRefuted p σ qs r.number → IsAmong numbers r.number

pub noted_none : (chosen : ℕ → Bool) (p : Point) (σ : Subst) (qs : List Formula) (reads : List ReadInstance) (numbers : List ℕ) → numbers ≡ [] → AreNoted 0 chosen p σ qs reads numbers
noted_none chosen p σ qs reads numbers e = subst (AreNoted 0 chosen p σ qs reads) (sym e) (record { chosen_each = λ k a. absurd a; each = λ k a. absurd a; all = λ at r w. absurd (omega (arith, w)) })

among_last : (ks : List ℕ) (n k : ℕ) → IsAmong (ks ++ n ∷ []) k → IsAmong ks k ⊎ (n ≡ k)
among_last [] n k (inl e) = inr e
among_last [] n k (inr z) = absurd z
among_last (x ∷ ks) n k (inl e) = inl (inl e)
among_last (x ∷ ks) n k (inr h) = elim (among_last ks n k h) [ inl a ↦ inl (inr a) | inr e ↦ inr e ]

among_more : (ks : List ℕ) (n k : ℕ) → IsAmong ks k → IsAmong (ks ++ n ∷ []) k
among_more [] n k h = absurd h
among_more (x ∷ ks) n k (inl e) = inl e
among_more (x ∷ ks) n k (inr h) = inr (among_more ks n k h)

among_here : (ks : List ℕ) (n : ℕ) → IsAmong (ks ++ n ∷ []) n
among_here [] n = inl refl
among_here (x ∷ ks) n = inr (among_here ks n)

noted_more : (n : ℕ) (chosen : ℕ → Bool) (p : Point) (σ : Subst) (qs : List Formula) (reads : List ReadInstance) (numbers : List ℕ) (r : ReadInstance) → slice_get reads n ≡ Some r
    → chosen r.number ≡ true → IsRefuted p σ qs r.number → AreNoted n chosen p σ qs reads numbers → AreNoted (n + 1) chosen p σ qs reads (numbers ++ r.number ∷ [])
noted_more n chosen p σ qs reads numbers r here c f h = record { chosen_each = chosen_all; each = each; all = all }
  where
    chosen_all : (k : ℕ) → IsAmong (numbers ++ r.number ∷ []) k → chosen k ≡ true
    chosen_all k a = by (among_last numbers r.number k a)
      where
        by : IsAmong numbers k ⊎ (r.number ≡ k) → chosen k ≡ true
        by (inl b) = h.chosen_each k b
        by (inr s) = subst (λ i. chosen i ≡ true) s c

    each : (k : ℕ) → IsAmong (numbers ++ r.number ∷ []) k → IsRefuted p σ qs k
    each k a = by (among_last numbers r.number k a)
      where
        by : IsAmong numbers k ⊎ (r.number ≡ k) → IsRefuted p σ qs k
        by (inl b) = h.each k b
        by (inr s) = subst (IsRefuted p σ qs) s f

    all : (at : ℕ) (x : ReadInstance) → at < n + 1 → slice_get reads at ≡ Some x → IsRefuted p σ qs x.number → IsAmong (numbers ++ r.number ∷ []) x.number
    all at x w e g = by (below_next n at w)
      where
        by : (at < n) ⊎ (n ≡ at) → IsAmong (numbers ++ r.number ∷ []) x.number
        by (inl v) = among_more numbers r.number x.number (h.all at x v e g)
        by (inr s) = subst (λ (y : ReadInstance). IsAmong (numbers ++ r.number ∷ []) y.number) (same_Some r x (sym here ∙ ap (slice_get reads) s ∙ e)) (among_here numbers r.number)

noted_same : (n : ℕ) (chosen : ℕ → Bool) (p : Point) (σ : Subst) (qs : List Formula) (reads : List ReadInstance) (numbers : List ℕ) (r : ReadInstance) → slice_get reads n ≡ Some r
    → (IsRefuted p σ qs r.number → ⊥) → AreNoted n chosen p σ qs reads numbers → AreNoted (n + 1) chosen p σ qs reads numbers
noted_same n chosen p σ qs reads numbers r here f h = record { chosen_each = h.chosen_each; each = h.each; all = all }
  where
    all : (at : ℕ) (x : ReadInstance) → at < n + 1 → slice_get reads at ≡ Some x → IsRefuted p σ qs x.number → IsAmong numbers x.number
    all at x w e g = by (below_next n at w)
      where
        by : (at < n) ⊎ (n ≡ at) → IsAmong numbers x.number
        by (inl v) = h.all at x v e g
        by (inr s) = absurd (f (subst (λ (y : ReadInstance). IsRefuted p σ qs y.number) (sym (same_Some r x (sym here ∙ ap (slice_get reads) s ∙ e))) g))

-- the next one is noted where it is refuted
pub noted_next : (n : ℕ) (chosen : ℕ → Bool) (p : Point) (σ : Subst) (qs : List Formula) (reads : List ReadInstance) (old new : List ℕ) (r : ReadInstance) (q : Formula) (b : Bool)
    → slice_get reads n ≡ Some r → slice_get qs r.number ≡ Some q → chosen r.number ≡ true → IsTrue b ↔ Meets p (reading_of false (formula_by σ q)) → (b ≡ true → new ≡ old ++ r.number ∷ [])
    → (b ≡ false → new ≡ old) → AreNoted n chosen p σ qs reads old → AreNoted (n + 1) chosen p σ qs reads new
noted_next n chosen p σ qs reads old new r q true here e c d noted same h =
    subst (AreNoted (n + 1) chosen p σ qs reads) (sym (noted refl)) (noted_more n chosen p σ qs reads old r here c (record { instance = q; here = e; against = d.0 refl }) h)
noted_next n chosen p σ qs reads old new r q false here e c d noted same h =
    subst (AreNoted (n + 1) chosen p σ qs reads) (sym (same refl))
    (noted_same n chosen p σ qs reads old r here
    (λ f.
    let is : f.instance ≡ q = same_Some f.instance q (sym f.here ∙ e) in
    let x : false ≡ true = d.1 (subst (λ y. Meets p (reading_of false (formula_by σ y))) is f.against) in absurd (cc))
    h)

pub all_noted : (k : Known) (n : ℕ) (chosen : ℕ → Bool) (p : Point) (σ : Subst) (qs : List Formula) (reads : List ReadInstance) (numbers : List ℕ) → AreReads k chosen σ qs reads
    → length reads ≤ n → AreNoted n chosen p σ qs reads numbers → AreRefuted chosen p σ qs numbers
all_noted k n chosen p σ qs reads numbers a w h = record {
  chosen_each = h.chosen_each;
  each = h.each;
  all = λ i d f.
      let x = a.all i (omega arith) (slice_get_within qs i f.instance f.here) d in
      let u = slice_get_within reads x.at x.read x.here in
      subst (IsAmong numbers) x.is (h.all x.at x.read (omega (arith, u, w)) x.here (subst (IsRefuted p σ qs) (sym x.is) f));
}

-- ---- what is known later was known before

pub refutable_by_before : (old new : Known) (reads : List ReadInstance) (numbers : List ℕ) → Keeps old new → readings_of new ≡ readings_of old → AreRefutableBy new reads numbers
    → AreRefutableBy old reads numbers
refutable_by_before old new reads numbers k e r = λ chosen σ qs a. refutable_before old new chosen σ qs numbers k e (r chosen σ qs (reads_kept 0 old new chosen σ qs reads k a))

pub proved_by_before : (old new : Known) (reads : List ReadInstance) → Keeps old new → ((p : Point) → Hold old p → Hold new p) → AreProvedBy new reads → AreProvedBy old reads
proved_by_before old new reads k h f = λ chosen σ qs a p g m. f chosen σ qs (reads_kept 0 old new chosen σ qs reads k a) p (h p g) m
