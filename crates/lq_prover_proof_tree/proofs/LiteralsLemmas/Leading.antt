-- The first source that can't be gathered, among more sources.
use Rattle.std.proofs.Common.{◌≡◌, ℕ, zero, suc, ◌+◌, ◌<◌, ◌≤◌, Some, None, Option, Result, Ok, Err, IfOk, IfSome, IfNone, false, slice_get, arith, List, [], ◌∷◌, ◌++◌, map, drop, length, get_or, refl, sym, ap, subst, ◌∙◌, append_assoc}
use Rattle.std.specs.List.{All}
use Rattle.std.proofs.lemmas.List.{map-append}
use Rattle.std.proofs.lemmas.List.Elements.{All-nil, All-cons, All-head, All-append}
use Rattle.lq_logic_predicates.specs.Comparison.{CanGather}
use Rattle.lq_logic_predicates.specs.Formula.{Formula}
use Rattle.lq_logic_predicates.specs.Literals.{pair_rows, rows_with, all_pairs}
use Rattle.lq_logic_predicates.specs.PredView.{formula_of}
use Rattle.lq_logic_predicates.specs.declared.pred.Pred.{Pred}
use Rattle.lq_logic_predicates.specs.Sum.{Sum, whole, var, neg, add, sub, mul, div, rem, len, measure}
use Rattle.lq_prover_proof_tree.proofs.LiteralsLemmas.Fits.{all_right}
use Rattle.lq_prover_proof_tree.specs.Literals.Gathered.{AllGathered, IsFirstPast}
use Rattle.lq_prover_proof_tree.specs.Literals.Parts.{is_application}
use Rattle.lq_prover_proof_tree.specs.Literals.RowView.{rows_at}
use Rattle.lq_prover_proof_tree.specs.Literals.Sources.{Source, row_source}

abbrev pub Gathers : Source → Type 0
Gathers s = All CanGather s.literals

pub first_here : (s : Source) (ss : List Source) → ¬ Gathers s → IsFirstPast (s ∷ ss) s.formula
first_here s ss h = record { earlier = []; literals = s.literals; later = ss; at = refl; gathered = All-nil Gathers; past = h }

pub first_left : (ss ts : List Source) (p : Formula) → IsFirstPast ss p → IsFirstPast (ss ++ ts) p
first_left ss ts p f =
    let found : Source = record { formula = p; literals = f.literals } in
    record {
      earlier = f.earlier;
      literals = f.literals;
      later = f.later ++ ts;
      at = ap (λ l. l ++ ts) f.at ∙ append_assoc f.earlier (found ∷ f.later) ts;
      gathered = f.gathered;
      past = f.past;
    }

pub first_right : (ss ts : List Source) (p : Formula) → AllGathered ss → IsFirstPast ts p → IsFirstPast (ss ++ ts) p
first_right ss ts p h f =
    let found : Source = record { formula = p; literals = f.literals } in
    record {
      earlier = ss ++ f.earlier;
      literals = f.literals;
      later = f.later;
      at = ap (λ l. ss ++ l) f.at ∙ sym (append_assoc ss f.earlier (found ∷ f.later));
      gathered = All-append Gathers ss f.earlier h f.gathered;
      past = f.past;
    }

pub first_not : (ss : List Source) (p : Formula) → IsFirstPast ss p → AllGathered ss → ⊥
first_not ss p f h =
    let found : Source = record { formula = p; literals = f.literals } in
    f.past (All-head Gathers found f.later (all_right Gathers f.earlier (found ∷ f.later) (subst AllGathered f.at h)))

-- What is left to be looked at decides the whole.
pub record Leads (left all : List Source) : Type 0 where
  pub first : (p : Formula) → IsFirstPast left p → IsFirstPast all p
  pub gathered : AllGathered left → AllGathered all

pub leads_refl : (all : List Source) → Leads all all
leads_refl all = record { first = λ p f. f; gathered = λ h. h }

pub leads_same : (left other all : List Source) → left ≡ other → Leads other all → Leads left all
leads_same left other all e l = subst (λ x. Leads x all) (sym e) l

pub leads_past : (ss left all : List Source) → Leads (ss ++ left) all → AllGathered ss → Leads left all
leads_past ss left all l h = record { first = λ p f. l.first p (first_right ss left p h f); gathered = λ k. l.gathered (All-append Gathers ss left h k) }

pub leads_found : (ss left all : List Source) (p : Formula) → Leads (ss ++ left) all → IsFirstPast ss p → IsFirstPast all p
leads_found ss left all p l f = l.first p (first_left ss left p f)

-- ---- going through a list

drop_next : {X : Type 0} (xs : List X) (i : ℕ) (d : X) → i < length xs → drop i xs ≡ get_or xs i d ∷ drop (i + 1) xs
drop_next [] i d h = absurd (omega arith)
drop_next (x ∷ xs) zero d h = refl
drop_next (x ∷ xs) (suc i) d h =
    let k : suc i + 1 ≡ suc (i + 1) = omega arith in drop_next xs i d (omega arith) ∙ ap (λ n. get_or xs i d ∷ drop n (x ∷ xs)) (sym k)

pub drop_all : {X : Type 0} (xs : List X) (i : ℕ) → length xs ≤ i → drop i xs ≡ []
drop_all [] zero h = refl
drop_all [] (suc i) h = refl
drop_all (x ∷ xs) zero h = absurd (omega arith)
drop_all (x ∷ xs) (suc i) h = drop_all xs i (omega arith)

leads_item : {X Y : Type 0} (f : Y → Source) (g : X → Y) (xs : List X) (i : ℕ) (x : X) → i < length xs → x ≡ get_or xs i x → Leads (map f (map g (drop i xs))) (map f (map g xs))
    → Leads (f (g x) ∷ map f (map g (drop (i + 1) xs))) (map f (map g xs))
leads_item f g xs i x h e l =
    subst (λ y. Leads (map f (map g y)) (map f (map g xs))) (drop_next xs i x h ∙ ap (λ y. y ∷ drop (i + 1) xs) (sym e)) l

pub leads_next : {X Y : Type 0} (f : Y → Source) (g : X → Y) (xs : List X) (i : ℕ) (x : X) → i < length xs → x ≡ get_or xs i x → Leads (map f (map g (drop i xs))) (map f (map g xs))
    → Gathers (f (g x)) → Leads (map f (map g (drop (i + 1) xs))) (map f (map g xs))
leads_next f g xs i x h e l k =
    leads_past (f (g x) ∷ []) (map f (map g (drop (i + 1) xs))) (map f (map g xs)) (leads_item f g xs i x h e l)
    (All-cons Gathers (f (g x)) [] k (All-nil Gathers))

pub leads_here : {X Y : Type 0} (f : Y → Source) (g : X → Y) (xs : List X) (i : ℕ) (x : X) → i < length xs → x ≡ get_or xs i x → Leads (map f (map g (drop i xs))) (map f (map g xs))
    → ¬ Gathers (f (g x)) → IsFirstPast (map f (map g xs)) (f (g x)).formula
leads_here f g xs i x h e l k = (leads_item f g xs i x h e l).first (f (g x)).formula (first_here (f (g x)) (map f (map g (drop (i + 1) xs))) k)

-- ---- going through pairs

drop_at : (ts : List Sum) (i : ℕ) (t : Sum) → slice_get ts i ≡ Some t → drop i ts ≡ t ∷ drop (i + 1) ts
drop_at [] i t e = cc
drop_at (u ∷ ts) zero t e = let same_one : u ≡ t = cc in ap (λ x. x ∷ ts) same_one
drop_at (u ∷ ts) (suc i) t e =
    let k : suc i + 1 ≡ suc (i + 1) = omega arith in drop_at ts i t e ∙ ap (λ n. t ∷ drop n (u ∷ ts)) (sym k)

rows_at-is : (ts : List Sum) (i : ℕ) (t : Sum) → slice_get ts i ≡ Some t → rows_at ts i ≡ rows_with t (drop (i + 1) ts)
rows_at-is [] i t e = cc
rows_at-is (u ∷ ts) zero t e = let same_one : u ≡ t = cc in ap (λ x. rows_with x ts) same_one
rows_at-is (u ∷ ts) (suc i) t e =
    let k : suc i + 1 ≡ suc (i + 1) = omega arith in rows_at-is ts i t e ∙ ap (λ n. rows_with t (drop n (u ∷ ts))) (sym k)

-- of the term at a place with those from a later place on
abbrev pub LeadsRows : List Sum → Sum → ℕ → ℕ → Type 0
LeadsRows ts t at later = Leads (map row_source (rows_with t (drop later ts))) (map row_source (rows_at ts at))

pub rows_begin : (ts : List Sum) (t : Sum) (at : ℕ) → slice_get ts at ≡ Some t → LeadsRows ts t at (at + 1)
rows_begin ts t at e = leads_same _ _ _ (ap (map row_source) (sym (rows_at-is ts at t e))) (leads_refl (map row_source (rows_at ts at)))

rows_split : (ts : List Sum) (t u : Sum) (later : ℕ) → slice_get ts later ≡ Some u
    → map row_source (pair_rows t u) ++ map row_source (rows_with t (drop (later + 1) ts)) ≡ map row_source (rows_with t (drop later ts))
rows_split ts t u later e =
    sym (map-append row_source (pair_rows t u) (rows_with t (drop (later + 1) ts))) ∙ ap (λ l. map row_source (rows_with t l)) (sym (drop_at ts later u e))

pub rows_next : (ts : List Sum) (t u : Sum) (at later : ℕ) → slice_get ts later ≡ Some u → LeadsRows ts t at later → AllGathered (map row_source (pair_rows t u))
    → LeadsRows ts t at (later + 1)
rows_next ts t u at later e l h =
    leads_past (map row_source (pair_rows t u)) (map row_source (rows_with t (drop (later + 1) ts))) (map row_source (rows_at ts at))
    (leads_same _ _ _ (rows_split ts t u later e) l) h

pub rows_found : (ts : List Sum) (t u : Sum) (at later : ℕ) (p : Formula) → slice_get ts later ≡ Some u → LeadsRows ts t at later
    → IsFirstPast (map row_source (pair_rows t u)) p → IsFirstPast (map row_source (rows_at ts at)) p
rows_found ts t u at later p e l f =
    leads_found (map row_source (pair_rows t u)) (map row_source (rows_with t (drop (later + 1) ts))) (map row_source (rows_at ts at)) p
    (leads_same _ _ _ (rows_split ts t u later e) l) f

no_rows : (t u : Sum) → is_application t ≡ false → pair_rows t u ≡ []
no_rows (whole n) u h = refl
no_rows (var x) u h = refl
no_rows (neg a) u h = refl
no_rows (add a b) u h = refl
no_rows (sub a b) u h = refl
no_rows (mul a b) u h = cc
no_rows (div a b) u h = cc
no_rows (rem a b) u h = cc
no_rows (len a) u h = cc
no_rows (measure f a) u h = cc

rows_none : (t : Sum) (ts : List Sum) → is_application t ≡ false → rows_with t ts ≡ []
rows_none t [] h = refl
rows_none t (u ∷ ts) h = ap (λ l. l ++ rows_with t ts) (no_rows t u h) ∙ rows_none t ts h

pub rows_of_none : (ts : List Sum) (t : Sum) (at : ℕ) → slice_get ts at ≡ Some t → is_application t ≡ false → AllGathered (map row_source (rows_at ts at))
rows_of_none ts t at e h = subst (λ l. AllGathered (map row_source l)) (sym (rows_at-is ts at t e ∙ rows_none t (drop (at + 1) ts) h)) (All-nil Gathers)

-- of the terms from a place on
abbrev pub LeadsPairs : List Sum → ℕ → Type 0
LeadsPairs ts at = Leads (map row_source (all_pairs (drop at ts))) (map row_source (all_pairs ts))

pairs_split : (ts : List Sum) (at : ℕ) → at < length ts → all_pairs (drop at ts) ≡ rows_at ts at ++ all_pairs (drop (at + 1) ts)
pairs_split [] at h = absurd (omega arith)
pairs_split (t ∷ ts) zero h = refl
pairs_split (t ∷ ts) (suc at) h =
    let k : suc at + 1 ≡ suc (at + 1) = omega arith in pairs_split ts at (omega arith) ∙ ap (λ n. rows_at ts at ++ all_pairs (drop n (t ∷ ts))) (sym k)

pairs_lead : (ts : List Sum) (at : ℕ) → at < length ts → LeadsPairs ts at
    → Leads (map row_source (rows_at ts at) ++ map row_source (all_pairs (drop (at + 1) ts))) (map row_source (all_pairs ts))
pairs_lead ts at h l =
    leads_same _ _ _ (sym (map-append row_source (rows_at ts at) (all_pairs (drop (at + 1) ts))) ∙ ap (map row_source) (sym (pairs_split ts at h))) l

pub pairs_next : (ts : List Sum) (at : ℕ) → at < length ts → LeadsPairs ts at → AllGathered (map row_source (rows_at ts at)) → LeadsPairs ts (at + 1)
pairs_next ts at h l g = leads_past (map row_source (rows_at ts at)) (map row_source (all_pairs (drop (at + 1) ts))) (map row_source (all_pairs ts)) (pairs_lead ts at h l) g

pub pairs_found : (ts : List Sum) (at : ℕ) (p : Formula) → at < length ts → LeadsPairs ts at → IsFirstPast (map row_source (rows_at ts at)) p
    → IsFirstPast (map row_source (all_pairs ts)) p
pairs_found ts at p h l f =
    leads_found (map row_source (rows_at ts at)) (map row_source (all_pairs (drop (at + 1) ts))) (map row_source (all_pairs ts)) p (pairs_lead ts at h l) f

-- ---- what a call gives, where other sources stand before

pub lift_some : {E : Type 0} (r : Result (Option Pred) E) (ss ts : List Source) → AllGathered ss → IfOk r (λ o. IfSome o (λ p. IsFirstPast ts (formula_of p)))
    → IfOk r (λ o. IfSome o (λ p. IsFirstPast (ss ++ ts) (formula_of p)))
lift_some (Ok (Some p)) ss ts h k = first_right ss ts (formula_of p) h k
lift_some (Ok None) ss ts h k = tt
lift_some (Err e) ss ts h k = tt

pub lift_none : {E : Type 0} (r : Result (Option Pred) E) (ss ts : List Source) (P : Type 0) → AllGathered ss → (AllGathered (ss ++ ts) → P) → IfOk r (λ o. IfNone o (AllGathered ts))
    → IfOk r (λ o. IfNone o P)
lift_none (Ok (Some p)) ss ts P h f k = tt
lift_none (Ok None) ss ts P h f k = f (All-append Gathers ss ts h k)
lift_none (Err e) ss ts P h f k = tt
