-- What is done to read a row is work at a configuration of the rows with it.
use Rattle.std.proofs.Common.{◌≡◌, ◌≢◌, ℕ, zero, suc, pos, ◌<◌, inl, inr, arith, refl, sym, ap, subst, ◌∙◌, ◌==◌, if◌then◌else◌, false, List, [], ◌∷◌, ◌++◌, Some, None, take, length, slice_get}
use Rattle.std.specs.List.{Contains}
use Rattle.std.proofs.Math.IntN.{ℤ}
use Rattle.std.proofs.lemmas.List.{length_push, get_or_push}
use Rattle.lq_base_numbers.specs.Rationals.Rational.{ℚ, whole, ◌*ℚ◌}
use Rattle.lq_base_numbers.specs.declared.fractions.past.NumOp.TheVariants.{Add, Mul}
use Rattle.lq_logic_rows.specs.Difference.{TermsBelow}
use Rattle.lq_logic_rows.specs.Forms.{Parts, IsNormal, AreMultiples}
use Rattle.lq_logic_rows.specs.Row.{Row, Valuation, sum_at}
use Rattle.lq_logic_rows.specs.Steps.{valuation_of}
use Rattle.lq_prover_pivots.specs.Pivots.Configurations.{IsConfiguration, Free}
use Rattle.lq_prover_pivots.specs.Pivots.Rows.{Variables, size, form}
use Rattle.lq_prover_pivots.specs.Pivots.Variables.{AreVariables}
use Rattle.lq_prover_pivots.specs.Work.Extension.{with_form, extended, TermsFirst}
use Rattle.lq_prover_pivots.specs.Work.Sizes.{IsDivisor}
use Rattle.lq_prover_pivots.specs.Work.Work.{entry_of, IsReading, IsSumming, IsForming, IsWork}
use Rattle.lq_prover_pivots.proofs.WorkLemmas.Extension.{forms_can_be_added}
use Rattle.lq_prover_simplex.specs.declared.error.TableauError.{TableauError}
use Rattle.lq_prover_simplex.specs.Appearing.{AreFormsOf, IsFurther}
use Rattle.lq_prover_simplex.specs.Configurations.{Rests}
use Rattle.lq_prover_simplex.specs.Lines.{factor_of}
use Rattle.lq_prover_simplex.specs.Operations.{StopsIn, IsSummed, IsFormed, IsTurning, IsBounding, IsDivisorOf, IsRowRead}
use Rattle.lq_prover_simplex.specs.Systems.{System, form_at, line_at, IsFree, IsSystem}
use Rattle.lq_prover_simplex.specs.Table.{StopsReading}
use Rattle.lq_prover_simplex.specs.Working.{IsWorkOver}
use Rattle.lq_prover_simplex.proofs.Appearing.{appear_new}
use Rattle.lq_prover_simplex.proofs.Bounding.{variables_of}
use Rattle.lq_prover_simplex.proofs.Combinations.{eqb_by}
use Rattle.lq_prover_simplex.proofs.Configuring.{configuration_of, free_inside, is_configuration}
use Rattle.lq_prover_simplex.proofs.Forms.{further_forms, sum_at-same}
use Rattle.lq_prover_simplex.proofs.Naming.{are_variables}
use Rattle.lq_prover_simplex.proofs.Operations.{Among, stops_among}
use Rattle.lq_prover_simplex.proofs.Working.{factor_entry}

-- ---- the row is one of the rows with it
last_in : (ever : List Row) (row : Row) → Contains (ever ++ row ∷ []) row
last_in [] row = (0, omega arith, refl)
last_in (r ∷ ever) row = let c = last_in ever row in (suc c.0, (let l = c.1 in omega arith), c.2)

divisor_of : (parts : Parts) (g : ℕ) → parts ≢ [] → IsDivisorOf parts g → IsDivisor parts g
divisor_of [] g some is = absurd (some refl)
divisor_of (p ∷ parts) g some is = record { divides = is.divides; greatest = is.greatest }

turning_work : (ever : List Row) (row : Row) → Among (IsTurning row.parts) (IsReading (ever ++ row ∷ []))
turning_work ever row op x y (IsTurning.negated k term z at) = IsReading.negated_coefficient row k term z (last_in ever row) at

bounding_work : (ever : List Row) (row : Row) (g : ℕ) → IsDivisor row.parts g → Among (IsBounding row.constant g) (IsReading (ever ++ row ∷ []))
bounding_work ever row g is op x y IsBounding.negated = IsReading.negated_constant row (last_in ever row)
bounding_work ever row g is op x y (IsBounding.quotient z either) = IsReading.bound row g z (last_in ever row) is either

-- ---- a further form
-- a form that is there when the row is handed over
record Added (ever : List Row) (s : System) (row : Row) (f : Parts) : Type 0 where
  pub system : IsSystem s
  pub forms : AreFormsOf ever s.terms s.forms
  pub rests : Rests ever s
  pub absent : IsFurther s.forms f
  pub normal : IsNormal f
  pub below : TermsBelow s.terms f
  pub multiple : AreMultiples row.parts f

terms_first : (s : System) → IsSystem s → TermsFirst (variables_of s)
terms_first s i = record { terms_in = i.are_forms.terms_in; named = i.are_forms.named }

listed : (ever : List Row) (s : System) (row : Row) (f : Parts) → Added ever s row f → AreVariables (ever ++ row ∷ []) (with_form (variables_of s) f)
listed ever s row f a =
    let last : form_at (s.forms ++ f ∷ []) (length s.forms) ≡ f = get_or_push s.forms f [] (length s.forms) refl in
    are_variables (ever ++ row ∷ []) s.terms (s.forms ++ f ∷ [])
    (further_forms s.terms s.forms f a.system.are_forms a.below a.normal (λ k h. (a.absent k h).1))
    (appear_new ever s.terms s.forms f row (λ k h. (a.absent k h).0) a.normal a.multiple (λ k h. (a.absent k h).1)
    (inr (length s.forms, (let e = length_push s.forms f in omega arith), subst (AreMultiples row.parts) (sym last) a.multiple)) a.forms)

configured : (ever : List Row) (s : System) (row : Row) (f : Parts) → Added ever s row f
    → IsConfiguration (with_form (variables_of s) f) (ever ++ row ∷ []) (extended (variables_of s) (configuration_of s) f)
configured ever s row f a =
    forms_can_be_added (variables_of s) ever (row ∷ []) (configuration_of s) f (terms_first s a.system) a.below (is_configuration ever s a.system a.rests)

-- ---- its line and its value
terms_of_take : (n : ℕ) (parts : Parts) (i : ℕ) → TermsBelow n parts → TermsBelow n (take i parts)
terms_of_take n parts zero b = tt
terms_of_take n [] (suc i) b = tt
terms_of_take n (p ∷ parts) (suc i) b = (b.0, terms_of_take n parts i b.1)

term_in : (n : ℕ) (parts : Parts) (i term : ℕ) (z : ℤ) → TermsBelow n parts → slice_get parts i ≡ Some (term, z) → term < n
term_in n [] i term z b h = absurd (let q : None ≡ Some (term, z) = h in cc)
term_in n (p ∷ parts) zero term z b h = let q : p ≡ (term, z) = cc in subst (λ (e : ℕ × ℤ). e.0 < n) q b.0
term_in n (p ∷ parts) (suc i) term z b h = term_in n parts i term z b.1 h

summed_same : (n : ℕ) (v w : Valuation) (parts : Parts) → TermsBelow n parts → ((t : ℕ) → t < n → v t ≡ w t) → Among (IsSummed v parts) (IsSummed w parts)
summed_same n v w parts below same op x y (IsSummed.product i term z at) =
    subst (λ u. IsSummed w parts Mul (whole z) u) (sym (same term (term_in n parts i term z below at))) (IsSummed.product i term z at)
summed_same n v w parts below same op x y (IsSummed.sum i term z at) =
    subst (λ u. IsSummed w parts Add u (whole z *ℚ v term)) (sym (sum_at-same n v w (take i parts) (terms_of_take n parts i below) same))
    (subst (λ u. IsSummed w parts Add (sum_at w (take i parts)) (whole z *ℚ u)) (sym (same term (term_in n parts i term z below at))) (IsSummed.sum i term z at))

summing : (v : Valuation) (vs : Variables) (k : ℕ) (parts : Parts) → form vs k ≡ parts → Among (IsSummed v parts) (IsSumming v vs k)
summing v vs k parts is op x y (IsSummed.product i term z at) = IsSumming.product i term z (ap (λ ps. slice_get ps i) is ∙ at)
summing v vs k parts is op x y (IsSummed.sum i term z at) =
    subst (λ u. IsSumming v vs k Add u (whole z *ℚ v term)) (ap (λ ps. sum_at v (take i ps)) is) (IsSumming.sum i term z (ap (λ ps. slice_get ps i) is ∙ at))

-- what is there already stays
old_free : (s : System) (f : Parts) (t : ℕ) → t < length s.forms → (extended (variables_of s) (configuration_of s) f).is_free t ≡ (configuration_of s).is_free t
old_free s f t h =
    eqb_by t (length s.forms) (λ e q. absurd (omega arith)) (λ e q. ap (λ b. if b then false else (configuration_of s).is_free t) e)

old_entry : (s : System) (f : Parts) (t j : ℕ) → IsSystem s → t < length s.forms
    → factor_of (line_at s.lines t) j ≡ entry_of (extended (variables_of s) (configuration_of s) f) t j
old_entry s f t j i h =
    let c = configuration_of s in
    let d = extended (variables_of s) c f in
    factor_entry s t j i
    ∙ eqb_by t (length s.forms) (λ e q. absurd (omega arith))
    (λ e q. sym (ap (λ b. if b then (if t == j then whole (pos 1) else whole (pos 0)) else d.entry t j) (old_free s f t h)
    ∙ ap (λ (u : ℚ). if c.is_free t then (if t == j then whole (pos 1) else whole (pos 0)) else u) (ap (λ b. if b then sum_at (λ t. entry_of c t j) f else c.entry t j) e)))

old_value : (s : System) (f : Parts) (t : ℕ) → t < length s.forms → (configuration_of s).value t ≡ (extended (variables_of s) (configuration_of s) f).value t
old_value s f t h =
    eqb_by t (length s.forms) (λ e q. absurd (omega arith)) (λ e q. sym (ap (λ b. if b then sum_at (configuration_of s).value f else (configuration_of s).value t) e))

formed : (ever : List Row) (s : System) (row : Row) (f : Parts) → Added ever s row f
    → Among (IsFormed s f) (IsForming (with_form (variables_of s) f) (extended (variables_of s) (configuration_of s) f))
formed ever s row f a op x y (IsFormed.of_line l) =
    let vs = with_form (variables_of s) f in let d = extended (variables_of s) (configuration_of s) f in
    let inside : length s.forms < size vs = (let e = length_push s.forms f in omega arith) in
    let last : form vs (length s.forms) ≡ f = get_or_push s.forms f [] (length s.forms) refl in
    let free : IsFree s.lines l.variable = elim (a.system.are_lines.free l.line l.variable) [ inl z ↦ absurd (l.some z) | inr g ↦ g ] in
    let here = free_inside s l.variable a.system free in
    let known : Free vs d l.variable = ((let h = here.0 in omega arith), old_free s f l.variable here.0 ∙ here.1) in
    IsForming.entries (length s.forms) l.variable inside known
    (summing (λ t. entry_of d t l.variable) vs (length s.forms) f last op x y
    (summed_same s.terms (λ t. factor_of (line_at s.lines t) l.variable) (λ t. entry_of d t l.variable) f a.below
    (λ t h. old_entry s f t l.variable a.system (let e = a.system.are_forms.terms_in in omega arith)) op x y l.sums))
formed ever s row f a op x y (IsFormed.of_value h) =
    let vs = with_form (variables_of s) f in let d = extended (variables_of s) (configuration_of s) f in
    let inside : length s.forms < size vs = (let e = length_push s.forms f in omega arith) in
    let last : form vs (length s.forms) ≡ f = get_or_push s.forms f [] (length s.forms) refl in
    IsForming.values (length s.forms) inside
    (summing d.value vs (length s.forms) f last op x y
    (summed_same s.terms (valuation_of s.values) d.value f a.below (λ t l. old_value s f t (let e = a.system.are_forms.terms_in in omega arith)) op x y h))

-- ---- a row
row_work : (ever : List Row) (s : System) (row : Row) → AreFormsOf ever s.terms s.forms → Rests ever s
    → Among (IsRowRead s row) (IsWorkOver s.terms (ever ++ row ∷ []))
row_work ever s row forms rests op x y (IsRowRead.turning h) = IsWorkOver.reading (turning_work ever row op x y h)
row_work ever s row forms rests op x y (IsRowRead.bounding some g is h) = IsWorkOver.reading (bounding_work ever row g (divisor_of row.parts g some is) op x y h)
row_work ever s row forms rests op x y (IsRowRead.adding f multiple h) =
    let a : Added ever s row f = record {
      system = h.system;
      forms = forms;
      rests = rests;
      absent = h.absent;
      normal = h.normal;
      below = h.below;
      multiple = multiple;
    } in
    IsWorkOver.at (with_form (variables_of s) f) (extended (variables_of s) (configuration_of s) f) refl (listed ever s row f a) (configured ever s row f a)
    (IsWork.forming (formed ever s row f a op x y h.forms))

pub reading_work : (s : System) (row : Row) (error : TableauError) → StopsIn (IsRowRead s row) error → StopsReading s row error
reading_work s row error stop ever forms rests =
    stops_among (IsRowRead s row) (IsWorkOver s.terms (ever ++ row ∷ [])) error (row_work ever s row forms rests) stop
