-- The entries of a configuration by Cramer's rule over its free ones.
use Rattle.std.proofs.Common.{◌≡◌, ◌≢◌, ℕ, ℤ, zero, suc, pos, ◌+◌, ◌<◌, ◌≤◌, inl, inr, arith, refl, sym, ap, ap₂, subst, ◌∙◌, Bool, true, false, ◌==◌, if◌then◌else◌, [], ◌∷◌}
use Rattle.lq_base_numbers.specs.Rationals.Rational.{ℚ, whole, ◌+ℚ◌, ◌*ℚ◌}
use Rattle.lq_base_numbers.specs.Rationals.Solver.{var, con, ◌⊕◌, ◌⊗◌, solve}
use Rattle.lq_base_numbers.specs.Rationals.Whole.{whole-sum}
use Rattle.lq_prover_pivots.specs.Pivots.Ranges.{sum_below, one_if, count_below, combine}
use Rattle.lq_logic_rows.specs.Row.{sum_at}
use Rattle.lq_logic_rows.specs.Forms.{Parts}
use Rattle.lq_prover_pivots.specs.Pivots.Rows.{Variables, size, form, at}
use Rattle.lq_prover_pivots.specs.Pivots.Configurations.{Configuration, Free, Basic}
use Rattle.lq_prover_pivots.proofs.PivotsLemmas.Ranges.{unit, unit_here, unit_elsewhere, combine-unit}
use Rattle.lq_prover_pivots.specs.Cramer.Determinants.{Rows, det, put}
use Rattle.lq_prover_pivots.specs.Cramer.Sizes.{WithinWhole, limit}
use Rattle.lq_prover_pivots.specs.Cramer.Entries.{coefficient, IsSized, HasDenominator, smaller, EntriesAreQuotients}
use Rattle.lq_prover_pivots.proofs.CramerLemmas.Places.{eqb_by, put_here, put_else}
use Rattle.lq_prover_pivots.proofs.CramerLemmas.Linear.{det_same}
use Rattle.lq_prover_pivots.proofs.CramerLemmas.Cramer.{cramer, Spanning, spanning_from, some_det}
use Rattle.lq_prover_pivots.proofs.CramerLemmas.Sizes.{within_same}
use Rattle.lq_prover_pivots.proofs.CramerLemmas.Bounds.{AreWide, bounded}
use Rattle.lq_prover_pivots.proofs.CramerLemmas.Members.{member, split, IsMember, member_is, place_of, member_sum, member_count, both, count_part, count_one_more, count_changed, from, from_is, count_from}

unit_turn : (a b : ℕ) → unit a b ≡ unit b a
unit_turn a b =
    eqb_by a b
    (λ q e. subst (λ t. unit a t ≡ unit t a) e refl)
    (λ q e. unit_elsewhere a b e ∙ sym (unit_elsewhere b a (λ f. e (sym f))))

-- a form at a unit is its coefficient
at_unit : (b : ℕ) (parts : Parts) → sum_at (unit b) parts ≡ whole (coefficient parts b)
at_unit b [] = refl
at_unit b (part ∷ parts) =
    ap₂ (λ s t. s +ℚ t) (one part.0 part.1) (at_unit b parts)
    ∙ whole-sum (if part.0 == b then part.1 else pos 0) (coefficient parts b)
  where
    one : (t : ℕ) (z : ℤ) → whole z *ℚ unit b t ≡ whole (if t == b then z else pos 0)
    one t z =
        eqb_by t b
        (λ q e. ap (λ x. whole z *ℚ x) (subst (λ k. unit b k ≡ whole (pos 1)) (sym e) (unit_here b))
        ∙ solve (whole z ∷ []) (var 0 ⊗ con (pos 1)) (var 0) refl
        ∙ ap (λ x. whole (if x then z else pos 0)) (sym q))
        (λ q e. ap (λ x. whole z *ℚ x) (unit_elsewhere b t (λ f. e (sym f)))
        ∙ solve (whole z ∷ []) (var 0 ⊗ con (pos 0)) (con (pos 0)) refl
        ∙ ap (λ x. whole (if x then z else pos 0)) (sym q))

-- the rows of coefficients of chosen variables
abbrev rows_of : Variables → (ℕ → ℕ) → Rows
rows_of vs chosen t b = at vs (unit b) (chosen t)

term_row : (vs : Variables) (m c : ℕ) → IsSized vs m c → (t b : ℕ) → t < vs.terms → at vs (unit b) t ≡ unit t b
term_row vs m c is t b l =
    ap (sum_at (unit b)) (is.named t l)
    ∙ solve (unit b t ∷ []) (con (pos 1) ⊗ var 0 ⊕ con (pos 0)) (var 0) refl
    ∙ unit_turn b t

are_wide : (vs : Variables) (m c : ℕ) (chosen : ℕ → ℕ) → IsSized vs m c → ((t : ℕ) → t < vs.terms → chosen t < size vs)
    → AreWide vs.terms c (λ t. from vs.terms (chosen t)) (rows_of vs chosen)
are_wide vs m c chosen is below = record {
  sized = λ a b l o e. record { number = coefficient (form vs (chosen a)) b; is = at_unit b (form vs (chosen a)); within = is.sized (chosen a) b (below a l) o };
  units = λ a l e.
      elim (from_is vs.terms (chosen a)) [
        | inl h ↦ let f = h.1 in absurd (cc)
        | inr h ↦ record { column = chosen a; is = λ b o. term_row vs m c is (chosen a) b h.0 }
      ];
}

at_most_smaller : (r m n : ℕ) → r ≤ m → r ≤ n → r ≤ smaller m n
at_most_smaller r zero n l o = l
at_most_smaller r (suc m) zero l o = o
at_most_smaller zero (suc m) (suc n) l o = omega arith
at_most_smaller (suc r) (suc m) (suc n) l o = let h = at_most_smaller r m n (omega arith) (omega arith) in omega arith

count_all : (n : ℕ) (f : ℕ → Bool) → count_below n f ≤ n
count_all zero f = omega arith
count_all (suc n) f = let h = count_all n f in let e = ones (f n) in omega arith
  where
    ones : (b : Bool) → one_if b ≤ 1
    ones true = omega arith
    ones false = omega arith

both_second : (a b : Bool) → both a b ≡ true → b ≡ true
both_second true b e = e
both_second false b e = absurd (cc)

both_off : (a b : Bool) → a ≡ false → both a b ≡ false
both_off true b e = absurd (cc)
both_off false b e = refl

record IsSetUp (vs : Variables) (m c : ℕ) (conf : Configuration) : Type 0 where
  some : 1 ≤ c
  sized : IsSized vs m c
  count : count_below (size vs) conf.is_free ≡ vs.terms
  combined : (k : ℕ) → Basic vs conf k → (v : ℕ → ℚ) → at vs v k ≡ combine (size vs) conf.is_free (conf.entry k) (at vs v)

abbrev free_at : Variables → Configuration → ℕ → ℕ
free_at vs conf = member (size vs) conf.is_free

free_below : (vs : Variables) (m c : ℕ) (conf : Configuration) → IsSetUp vs m c conf → (t : ℕ) → t < vs.terms → IsMember (size vs) conf.is_free (free_at vs conf t)
free_below vs m c conf is t l = member_is (size vs) conf.is_free t (subst (λ n. t < n) (sym is.count) l)

-- a combination of the free ones by their places
by_places : (vs : Variables) (m c : ℕ) (conf : Configuration) → IsSetUp vs m c conf → (a x : ℕ → ℚ)
    → combine (size vs) conf.is_free a x ≡ sum_below vs.terms (λ t. a (free_at vs conf t) *ℚ x (free_at vs conf t))
by_places vs m c conf is a x =
    sym (member_sum (size vs) conf.is_free (λ j. a j *ℚ x j))
    ∙ ap (λ n. sum_below n (λ t. a (free_at vs conf t) *ℚ x (free_at vs conf t))) is.count

basic_row : (vs : Variables) (m c : ℕ) (conf : Configuration) → IsSetUp vs m c conf → (g b : ℕ) → Basic vs conf g
    → at vs (unit b) g ≡ sum_below vs.terms (λ t. conf.entry g (free_at vs conf t) *ℚ rows_of vs (free_at vs conf) t b)
basic_row vs m c conf is g b basic = is.combined g basic (unit b) ∙ by_places vs m c conf is (conf.entry g) (at vs (unit b))

free_row : (vs : Variables) (m c : ℕ) (conf : Configuration) → IsSetUp vs m c conf → (g b : ℕ) → Free vs conf g
    → at vs (unit b) g ≡ sum_below vs.terms (λ t. unit g (free_at vs conf t) *ℚ rows_of vs (free_at vs conf) t b)
free_row vs m c conf is g b free =
    sym (combine-unit (size vs) g conf.is_free (at vs (unit b)) free.0 free.1) ∙ by_places vs m c conf is (unit g) (at vs (unit b))

abbrev entry_of : Configuration → ℕ → ℕ → ℚ
entry_of conf g j = if conf.is_free g then unit g j else conf.entry g j

any_row : (vs : Variables) (m c : ℕ) (conf : Configuration) → IsSetUp vs m c conf → (g b : ℕ) → g < size vs
    → at vs (unit b) g ≡ sum_below vs.terms (λ t. entry_of conf g (free_at vs conf t) *ℚ rows_of vs (free_at vs conf) t b)
any_row vs m c conf is g b l =
    elim (split (conf.is_free g)) [
      | inl e ↦ free_row vs m c conf is g b (l, e)
          ∙ ap (λ x. sum_below vs.terms (λ t. (if x then unit g (free_at vs conf t) else conf.entry g (free_at vs conf t)) *ℚ rows_of vs (free_at vs conf) t b)) (sym e)
      | inr e ↦ basic_row vs m c conf is g b (l, e)
          ∙ ap (λ x. sum_below vs.terms (λ t. (if x then unit g (free_at vs conf t) else conf.entry g (free_at vs conf t)) *ℚ rows_of vs (free_at vs conf) t b)) (sym e)
    ]

spanning : (vs : Variables) (m c : ℕ) (conf : Configuration) → IsSetUp vs m c conf → Spanning vs.terms (rows_of vs (free_at vs conf))
spanning vs m c conf is =
    spanning_from vs.terms (rows_of vs (free_at vs conf)) (λ t j. entry_of conf t (free_at vs conf j))
    (λ t b l o.
    let e = is.sized.count in
    sym (term_row vs m c is.sized t b l) ∙ any_row vs m c conf is t b (omega arith))

-- the free forms, and a basis member that is a form, are m at most
free_forms : (vs : Variables) (m c : ℕ) (conf : Configuration) → IsSetUp vs m c conf → (g : ℕ) → Basic vs conf g
    → count_below vs.terms (λ t. from vs.terms (free_at vs conf t)) + one_if (from vs.terms g) ≤ m
free_forms vs m c conf is g basic =
    let n = vs.terms in
    let s = size vs in
    let e : count_below n (λ t. from n (free_at vs conf t)) ≡ count_below s (λ j. both (conf.is_free j) (from n j)) =
    ap (λ k. count_below k (λ t. from n (free_at vs conf t))) (sym is.count) ∙ member_count s conf.is_free (from n) in
    let h : count_below s (λ j. both (conf.is_free j) (from n j)) + one_if (from n g) ≤ count_below s (from n) =
    count_one_more s g (λ j. both (conf.is_free j) (from n j)) (from n) basic.0 (λ k l. both_second (conf.is_free k) (from n k)) (both_off (conf.is_free g) (from n g) basic.1) in
    let q = is.sized.count in
    let k : count_below s (from n) ≤ m = count_from s n m (omega arith) in
    omega arith

free_forms_alone : (vs : Variables) (m c : ℕ) (conf : Configuration) → IsSetUp vs m c conf → count_below vs.terms (λ t. from vs.terms (free_at vs conf t)) ≤ m
free_forms_alone vs m c conf is =
    let n = vs.terms in
    let s = size vs in
    let e : count_below n (λ t. from n (free_at vs conf t)) ≡ count_below s (λ j. both (conf.is_free j) (from n j)) =
    ap (λ k. count_below k (λ t. from n (free_at vs conf t))) (sym is.count) ∙ member_count s conf.is_free (from n) in
    let h : count_below s (λ j. both (conf.is_free j) (from n j)) ≤ count_below s (from n) =
    count_part s (λ j. both (conf.is_free j) (from n j)) (from n) (λ k l. both_second (conf.is_free k) (from n k)) in
    let q = is.sized.count in
    let k : count_below s (from n) ≤ m = count_from s n m (omega arith) in
    omega arith

-- the determinant over the chosen variables is bounded where they are at most m forms
chosen_bounded : (vs : Variables) (m c : ℕ) (chosen : ℕ → ℕ) → 1 ≤ c → IsSized vs m c → ((t : ℕ) → t < vs.terms → chosen t < size vs)
    → count_below vs.terms (λ t. from vs.terms (chosen t)) ≤ m → WithinWhole (limit (smaller m vs.terms) c) (det vs.terms (rows_of vs chosen))
chosen_bounded vs m c chosen some is below count =
    bounded vs.terms (smaller m vs.terms) c (λ t. from vs.terms (chosen t)) (rows_of vs chosen) some
    (at_most_smaller (count_below vs.terms (λ t. from vs.terms (chosen t))) m vs.terms count (count_all vs.terms (λ t. from vs.terms (chosen t))))
    (are_wide vs m c chosen is below)

-- g in place i, the free ones elsewhere
abbrev changed : Variables → Configuration → ℕ → ℕ → ℕ → ℕ
changed vs conf i g t = if t == i then g else free_at vs conf t

changed_here : (vs : Variables) (conf : Configuration) (i g : ℕ) → changed vs conf i g i ≡ g
changed_here vs conf i g = eqb_by i i (λ q e. ap (λ b. if b then g else free_at vs conf i) q) (λ q e. absurd (e refl))

changed_else : (vs : Variables) (conf : Configuration) (i g t : ℕ) → t ≢ i → changed vs conf i g t ≡ free_at vs conf t
changed_else vs conf i g t u = eqb_by t i (λ q e. absurd (u e)) (λ q e. ap (λ b. if b then g else free_at vs conf t) q)

entry_within : (vs : Variables) (m c : ℕ) (conf : Configuration) → IsSetUp vs m c conf → (g i : ℕ) → Basic vs conf g → i < vs.terms
    → WithinWhole (limit (smaller m vs.terms) c) (conf.entry g (free_at vs conf i) *ℚ det vs.terms (rows_of vs (free_at vs conf)))
entry_within vs m c conf is g i basic l =
    let n = vs.terms in
    let most = limit (smaller m n) c in
    let chosen = changed vs conf i g in
    let rows = rows_of vs (free_at vs conf) in
    let row : ℕ → ℚ = λ b. at vs (unit b) g in
    within_same most (conf.entry g (free_at vs conf i) *ℚ det n rows) (det n (rows_of vs chosen))
    (sym (cramer n i rows row (λ t. conf.entry g (free_at vs conf t)) l (λ b o. basic_row vs m c conf is g b basic))
    ∙ det_same n (put rows i row) (rows_of vs chosen)
    (λ a b o p. eqb_by a i
    (λ q e. subst (λ t. put rows i row t b ≡ at vs (unit b) (chosen t)) (sym e) (put_here rows i row b ∙ ap (at vs (unit b)) (sym (changed_here vs conf i g))))
    (λ q e. put_else rows i row a b e ∙ ap (at vs (unit b)) (sym (changed_else vs conf i g a e)))))
    (chosen_bounded vs m c chosen is.some is.sized
    (λ t o. eqb_by t i
    (λ q e. subst (λ k. chosen k < size vs) (sym e) (subst (λ k. k < size vs) (sym (changed_here vs conf i g)) basic.0))
    (λ q e. subst (λ k. k < size vs) (sym (changed_else vs conf i g t e)) (free_below vs m c conf is t o).below))
    (let h : count_below n (λ t. from n (chosen t)) ≤ count_below n (λ t. from n (free_at vs conf t)) + one_if (from n (chosen i)) =
    count_changed n i (λ t. from n (chosen t)) (λ t. from n (free_at vs conf t)) l (λ k u. ap (from n) (changed_else vs conf i g k u)) in
    let e : one_if (from n (chosen i)) ≡ one_if (from n g) = ap (λ k. one_if (from n k)) (changed_here vs conf i g) in
    let f = free_forms vs m c conf is g basic in
    omega arith))

pub entries_are_quotients : EntriesAreQuotients
entries_are_quotients vs listed m c conf some sized is = by
    (chosen_bounded vs m c (free_at vs conf) some sized (λ t l. (free_below vs m c conf set_up t l).below) (free_forms_alone vs m c conf set_up))
  where
    set_up : IsSetUp vs m c conf
    set_up = record { some = some; sized = sized; count = is.count; combined = λ k b v. (is.combined k b).always v }

    by : WithinWhole (limit (smaller m vs.terms) c) (det vs.terms (rows_of vs (free_at vs conf))) → HasDenominator vs conf (limit (smaller m vs.terms) c)
    by w = record {
      denominator = w.number;
      some = λ e. some_det vs.terms (rows_of vs (free_at vs conf)) (spanning vs m c conf set_up) (w.is ∙ ap whole e);
      within = w.within;
      entries = λ k j basic free.
          let p = place_of (size vs) conf.is_free j free.0 free.1 in
          subst (λ x. WithinWhole (limit (smaller m vs.terms) c) (conf.entry k j *ℚ x)) w.is
          (subst (λ i. WithinWhole (limit (smaller m vs.terms) c) (conf.entry k i *ℚ det vs.terms (rows_of vs (free_at vs conf)))) p.is
          (entry_within vs m c conf set_up k p.place basic (subst (λ n. p.place < n) is.count p.inside)));
    }
