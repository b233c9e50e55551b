-- Forms of sums, from those of their operands.
use Rattle.std.proofs.Common.{◌≡◌, ℕ, zero, suc, ℤ, pos, ◌≤◌, ◌==◌, length, length-append, List, [], ◌∷◌, ◌++◌, Bool, true, false, Option, Some, None, slice_get, ◌⊎◌, inl, inr, Result, Ok, Err, IfOk, OnOk, refl, sym, ap, ap₂, subst, ◌∙◌, FitsSigned, arith, if◌then◌else◌}
use Rattle.std.proofs.Math.IntN.{◌+ℤ◌, ◌-ℤ◌, ◌*ℤ◌, negsuc}
use Rattle.std.proofs.lemmas.Bool.{eq-eqb, ne_eqb}
use Rattle.std.proofs.lemmas.Int.{ints}
use Rattle.std.specs.Int.{w128}
use Rattle.std.specs.BTreeMap.{BTreeMap}
use Rattle.lq_logic_predicates.specs.Sum.{Sum, same}
use Rattle.lq_logic_predicates.specs.SameLaws.{same-is, same-from}
use Rattle.lq_logic_predicates.specs.Table.{has_term, index_of, all_differ, Extends}
use Rattle.lq_logic_predicates.specs.LinearForm.{one_at, scaled, OnFactors, HasFit, IsFit, constant_of, coefficient}
use Rattle.lq_logic_predicates.specs.Comparison.{Comparison, CanGather, IsRowOf, entry}
use Rattle.lq_logic_rows.specs.Row.{Row, IsRow}
use Rattle.lq_logic_predicates.specs.FormOf.{at, AllFit, combined, CanCombine, IsCombined, FormFits, HasForm, IsFormOf}
use Rattle.lq_logic_predicates.specs.declared.form.Form.{Form}
use Rattle.lq_logic_predicates.specs.Numbering.{index_of-append_present, index_of-append_absent, index_of-absent, index_of-present, index_of-slice_get, slice_get-index_of}

-- a form stays one where more terms are numbered
pub grown : (old new : List Sum) (f : Form) (c : ℤ) (k : Sum → ℤ) → HasForm old f c k → Extends old new → HasForm new f c k
grown old new f c k h x = record {
  constant = h.constant;
  constant_fits = h.constant_fits;
  coefficients = λ t. subst (λ l. at f.coefficients (index_of l t) ≡ k t) (sym x.is) (by t (has_term old t) refl);
  within = λ q p. h.within q (subst (λ l. length l ≤ q → length old ≤ q) (sym x.is) (λ w. shorter w) p);
  fit = h.fit;
}
  where
    shorter : {q : ℕ} → length (old ++ x.more) ≤ q → length old ≤ q
    shorter w = omega (arith, w, length-append old x.more)

    by : (t : Sum) (b : Bool) → has_term old t ≡ b → at f.coefficients (index_of (old ++ x.more) t) ≡ k t
    by t true e = ap (at f.coefficients) (index_of-append_present old x.more t e) ∙ h.coefficients t
    by t false e =
        h.within (index_of (old ++ x.more) t) (index_of-append_absent old x.more t e)
        ∙ sym (h.within (index_of old t) (let i = index_of-absent old t e in omega (arith, i)))
        ∙ h.coefficients t

none_past : (terms : List Sum) (q : ℕ) → slice_get terms q ≡ None → length terms ≤ q
none_past [] q e = omega arith
none_past (t ∷ terms) zero e = cc
none_past (t ∷ terms) (suc q) e = let h = none_past terms q e in omega (arith, h)

-- each number is that of a term, or has 0
numbered_or_zero : (terms : List Sum) (q : ℕ) → all_differ terms ≡ true → ((t : Sum) × (index_of terms t ≡ q)) ⊎ (length terms ≤ q)
numbered_or_zero terms q d = by (slice_get terms q) refl
  where
    by : (o : Option Sum) → slice_get terms q ≡ o → ((t : Sum) × (index_of terms t ≡ q)) ⊎ (length terms ≤ q)
    by (Some t) e = inl (t, index_of-slice_get terms q t d e)
    by None e = inr (none_past terms q e)

none_zero : (subtract : Bool) → FitsSigned w128 (combined subtract (pos 0) (pos 0))
none_zero true = omega (arith, ints)
none_zero false = omega (arith, ints)

pub can_combine : (subtract : Bool) (terms : List Sum) (f g : Form) (c d : ℤ) (k l : Sum → ℤ) → all_differ terms ≡ true
    → HasForm terms f c k → HasForm terms g d l → ((t : Sum) → FitsSigned w128 (combined subtract (k t) (l t))) → CanCombine subtract f.coefficients g.coefficients
can_combine subtract terms f g c d k l distinct p r fits q = by (numbered_or_zero terms q distinct)
  where
    by : ((t : Sum) × (index_of terms t ≡ q)) ⊎ (length terms ≤ q) → FitsSigned w128 (combined subtract (at f.coefficients q) (at g.coefficients q))
    by (inl t) =
        subst (λ i. FitsSigned w128 (combined subtract (at f.coefficients i) (at g.coefficients i))) t.1
        (subst (FitsSigned w128) (sym (ap₂ (combined subtract) (p.coefficients t.0) (r.coefficients t.0))) (fits t.0))
    by (inr h) = subst (FitsSigned w128) (sym (ap₂ (combined subtract) (p.within q h) (r.within q h))) (none_zero subtract)

pub can_scale : (n : ℤ) (terms : List Sum) (f : Form) (c : ℤ) (k : Sum → ℤ) → all_differ terms ≡ true
    → HasForm terms f c k → ((t : Sum) → FitsSigned w128 (n *ℤ k t)) → (q : ℕ) → FitsSigned w128 (n *ℤ at f.coefficients q)
can_scale n terms f c k distinct p fits q = by (numbered_or_zero terms q distinct)
  where
    by : ((t : Sum) × (index_of terms t ≡ q)) ⊎ (length terms ≤ q) → FitsSigned w128 (n *ℤ at f.coefficients q)
    by (inl t) =
        subst (λ i. FitsSigned w128 (n *ℤ at f.coefficients i)) t.1 (subst (λ x. FitsSigned w128 (n *ℤ x)) (sym (p.coefficients t.0)) (fits t.0))
    by (inr h) = subst (λ x. FitsSigned w128 (n *ℤ x)) (sym (p.within q h)) (omega (arith, ints))

pub combined_form : {E : Type 0} (subtract : Bool) (r : Result Form E) (terms : List Sum) (f g : Form) (c d : ℤ) (k l : Sum → ℤ)
    → HasForm terms f c k → HasForm terms g d l
    → IfOk r (λ h. h.constant ≡ combined subtract f.constant g.constant) → IfOk r (λ h. IsCombined subtract f.coefficients g.coefficients h.coefficients) → IfOk r FormFits
    → IfOk r (λ h. HasForm terms h (combined subtract c d) (λ t. combined subtract (k t) (l t)))
combined_form subtract (Err e) terms f g c d k l p q x y z = x
combined_form subtract (Ok h) terms f g c d k l p q x y z = record {
  constant = x ∙ ap₂ (combined subtract) p.constant q.constant;
  constant_fits = z.0;
  coefficients = λ t. y (index_of terms t) ∙ ap₂ (combined subtract) (p.coefficients t) (q.coefficients t);
  within = λ i w. y i ∙ ap₂ (combined subtract) (p.within i w) (q.within i w) ∙ nothing subtract;
  fit = z.1;
}
  where
    nothing : (s : Bool) → combined s (pos 0) (pos 0) ≡ pos 0
    nothing true = refl
    nothing false = refl

-- a term that is numbered has its number alone
number_alone : (terms : List Sum) (s t : Sum) → has_term terms s ≡ true → index_of terms s ≡ index_of terms t → s ≡ t
number_alone terms s t has h = by (has_term terms t) refl
  where
    by : (b : Bool) → has_term terms t ≡ b → s ≡ t
    by true p =
        let a = slice_get-index_of terms s has in
        let b = slice_get-index_of terms t p in
        let c = ap (slice_get terms) h in
        let e : Some s ≡ Some t = sym a ∙ c ∙ b in cc
    by false p = let m = index_of-absent terms t p in let n = index_of-present terms s has in absurd (omega (arith, m, n, h))

-- one term alone
pub one_form : (terms : List Sum) (f : Form) (s : Sum) (i : ℕ) → has_term terms s ≡ true → i ≡ index_of terms s
    → f.constant ≡ pos 0 → ((q : ℕ) → at f.coefficients q ≡ (if i == q then pos 1 else pos 0)) → FormFits f → HasForm terms f (pos 0) (one_at s)
one_form terms f s i has is c k fits = record {
  constant = c;
  constant_fits = fits.0;
  coefficients = λ t. k (index_of terms t) ∙ by t (same s t) refl;
  within = λ q w. k q ∙ ap (λ b. if b then pos 1 else pos 0) (ne_eqb i q (λ e. let p = index_of-present terms s has in absurd (omega (arith, p, is, e, w))));
  fit = fits.1;
}
  where
    by : (t : Sum) (b : Bool) → same s t ≡ b → (if i == index_of terms t then pos 1 else pos 0) ≡ (if b then pos 1 else pos 0)
    by t true e = ap (λ b. if b then pos 1 else pos 0) (eq-eqb i (index_of terms t) (is ∙ ap (index_of terms) (same-is s t e)))
    by t false e =
        ap (λ b. if b then pos 1 else pos 0)
        (ne_eqb i (index_of terms t) (λ h. let w = number_alone terms s t has (sym is ∙ h) in let r = same-from s t w in cc (e, r)))

-- what fits of a sum or a difference, so that its operands' forms can be combined
pub fit_parts : (subtract : Bool) (old terms : List Sum) (f g : Form) (c d : ℤ) (k l : Sum → ℤ) → all_differ terms ≡ true
    → HasForm old f c k → Extends old terms → HasForm terms g d l → FitsSigned w128 (combined subtract c d) → ((t : Sum) → FitsSigned w128 (combined subtract (k t) (l t)))
    → FitsSigned w128 (combined subtract f.constant g.constant) × CanCombine subtract f.coefficients g.coefficients
fit_parts subtract old terms f g c d k l distinct p x r fc fk = (
  subst (FitsSigned w128) (sym (ap₂ (combined subtract) p.constant r.constant)) fc,
  can_combine subtract terms f g c d k l distinct (grown old terms f c k p x) r fk,
)

pub fit_scale : (m n : ℤ) → m ≡ n → (terms : List Sum) (f : Form) (c : ℤ) (k : Sum → ℤ) → all_differ terms ≡ true
    → HasForm terms f c k → FitsSigned w128 (n *ℤ c) → ((t : Sum) → FitsSigned w128 (n *ℤ k t))
    → FitsSigned w128 (m *ℤ f.constant) × ((q : ℕ) → FitsSigned w128 (m *ℤ at f.coefficients q))
fit_scale m n e terms f c k distinct p fc fk =
    subst (λ u. FitsSigned w128 (u *ℤ f.constant) × ((q : ℕ) → FitsSigned w128 (u *ℤ at f.coefficients q))) (sym e) (
      subst (λ x. FitsSigned w128 (n *ℤ x)) (sym p.constant) fc,
      can_scale n terms f c k distinct p fk,
    )

negated : (x : ℤ) → negsuc 0 *ℤ x ≡ pos 0 -ℤ x
negated x = omega (arith, ints)

pub fit_negated : (x : ℤ) → FitsSigned w128 (pos 0 -ℤ x) → FitsSigned w128 (negsuc 0 *ℤ x)
fit_negated x h = subst (FitsSigned w128) (sym (negated x)) h

-- the part of a product where the left or the right factor is a literal
pub left_factor : (o p : Option ℤ) (n : ℤ) (P : Type 0) → o ≡ Some n → OnFactors o p P → P
left_factor (Some m) p n P e h = h
left_factor None p n P e h = cc

pub right_factor : (o p : Option ℤ) (n : ℤ) (P : Type 0) → p ≡ Some n → OnFactors o p P → P
right_factor (Some m) p n P e h = h
right_factor None (Some m) n P e h = h
right_factor None None n P e h = cc

pub scaled_left : (o p : Option ℤ) (n x y z : ℤ) → o ≡ Some n → scaled o p x y z ≡ n *ℤ y
scaled_left (Some m) p n x y z e = let w : m ≡ n = cc in ap (λ u. u *ℤ y) w
scaled_left None p n x y z e = cc

pub scaled_right : (o p : Option ℤ) (n x y z : ℤ) → o ≡ None → p ≡ Some n → scaled o p x y z ≡ n *ℤ x
scaled_right None (Some m) n x y z d e = let w : m ≡ n = cc in ap (λ u. u *ℤ x) w
scaled_right None None n x y z d e = cc
scaled_right (Some m) p n x y z d e = cc

-- the form that was kept fits
pub kept_fit : {E : Type 0} (r : Result Form E) (terms : List Sum) (s : Sum) → IfOk r (λ h. IsFormOf terms h s) → OnOk r (HasFit s)
kept_fit (Err e) terms s h = tt
kept_fit (Ok f) terms s h = record {
  constant = subst (FitsSigned w128) h.constant h.constant_fits;
  coefficients = λ t. subst (FitsSigned w128) (h.coefficients t) (h.fit (index_of terms t));
}

pub and_two_kept : {E : Type 0} (P Q R : Type 0) (r : Result Form E) → P → Q → OnOk r R → OnOk r (P × Q × R)
and_two_kept P Q R (Err e) p q s = tt
and_two_kept P Q R (Ok f) p q s = (p, q, s)

pub no_literal : (r o : Option ℤ) → r ≡ o → ((n : ℤ) → r ≡ Some n → ⊥) → o ≡ None
no_literal (Some n) o e k = absurd (k n refl)
no_literal None o e k = sym e

-- the row of a comparison, from the forms of its sides
pub row_from_forms : (old terms : List Sum) (f g : Form) (c : Comparison) (m : BTreeMap ℕ ℤ) (r : Row)
    → HasForm old f (constant_of c.left) (coefficient c.left) → Extends old terms → HasForm terms g (constant_of c.right) (coefficient c.right)
    → IsCombined true f.coefficients g.coefficients m → IsRow r → r.constant ≡ f.constant -ℤ g.constant +ℤ c.added → r.equal ≡ c.equal
    → ((q : ℕ) → entry r.parts q ≡ at m q) → IsRowOf terms c r
row_from_forms old terms f g c m r p x q combined_is formed constant equal parts =
    let left = grown old terms f (constant_of c.left) (coefficient c.left) p x in record {
      formed = formed;
      constant = constant ∙ ap₂ (λ u v. u -ℤ v +ℤ c.added) p.constant q.constant;
      equal = equal;
      coefficients = λ t. parts (index_of terms t) ∙ combined_is (index_of terms t) ∙ ap₂ (λ u v. u -ℤ v) (left.coefficients t) (q.coefficients t);
      within = λ i w. parts i ∙ combined_is i ∙ ap₂ (λ u v. u -ℤ v) (left.within i w) (q.within i w);
    }

pub can_from_forms : (old terms : List Sum) (f g : Form) (c : Comparison) (m : BTreeMap ℕ ℤ) (k : ℤ)
    → HasForm old f (constant_of c.left) (coefficient c.left) → Extends old terms → HasForm terms g (constant_of c.right) (coefficient c.right)
    → IsCombined true f.coefficients g.coefficients m → AllFit m → IsFit c.left → IsFit c.right → FitsSigned w128 k → k ≡ f.constant -ℤ g.constant +ℤ c.added → CanGather c
can_from_forms old terms f g c m k p x q combined_is fit a b kf ke =
    let left = grown old terms f (constant_of c.left) (coefficient c.left) p x in record {
      left = a;
      right = b;
      constant = subst (FitsSigned w128) (ke ∙ ap₂ (λ u v. u -ℤ v +ℤ c.added) p.constant q.constant) kf;
      coefficients = λ t. subst (FitsSigned w128) (combined_is (index_of terms t) ∙ ap₂ (λ u v. u -ℤ v) (left.coefficients t) (q.coefficients t)) (fit (index_of terms t));
    }

pub can_merge : (old terms : List Sum) (f g : Form) (c : Comparison) → all_differ terms ≡ true
    → HasForm old f (constant_of c.left) (coefficient c.left) → Extends old terms → HasForm terms g (constant_of c.right) (coefficient c.right)
    → CanGather c → CanCombine true f.coefficients g.coefficients
can_merge old terms f g c distinct p x q can =
    can_combine true terms f g (constant_of c.left) (constant_of c.right) (coefficient c.left) (coefficient c.right) distinct
    (grown old terms f (constant_of c.left) (coefficient c.left) p x) q can.coefficients
