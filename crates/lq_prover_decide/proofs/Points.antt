-- The values that a state gives are a point of the implication.
use Rattle.std.proofs.Common.{◌≡◌, ℕ, suc, ◌+◌, ◌-◌, ◌<◌, ◌↔◌, List, Bool, true, Option, Some, None, slice_get, refl, sym, ap, subst, ◌∙◌, arith}
use Rattle.std.proofs.lemmas.Option.{slice_get_within}
use Rattle.lq_prover_case.specs.State.PathState.{PathState}
use Rattle.lq_prover_case.specs.State.RowState.{row_point}
use Rattle.lq_prover_proof_tree.specs.Trees.Met.{AllHold}
use Rattle.lq_prover_proof_tree.proofs.TreesLemmas.Meeting.{solves_rows}
use Rattle.lq_prover_proof_tree.specs.Trees.Proves.{ApplyTwo, AreNoLiterals, products, quotients, remainders}
use Rattle.lq_logic_rows.specs.Row.{Row, RowHolds, Valuation}
use Rattle.lq_logic_rows.specs.Steps.{valuation_of}
use Rattle.lq_base_names.specs.declared.name.Name.{Name}
use Rattle.lq_base_numbers.specs.Fractions.Past.{IsPast}
use Rattle.lq_base_numbers.specs.declared.fractions.past.NumberPast.{NumberPast}
use Rattle.lq_logic_points.specs.Evaluation.{IsStepOf}
use Rattle.lq_logic_points.specs.Values.{AreSame, as_point, classes_of, flags_of, numbers_of, point_from, point_of_values, table_of, values_of}
use Rattle.lq_logic_points.specs.declared.point.Point as made
use Rattle.lq_logic_points.specs.declared.values.PointValues.{PointValues}
use Rattle.lq_logic_points.proofs.Walks.{all_from_before}
use Rattle.lq_logic_predicates.specs.ClosedImplication.{Agree, AgreeOrApart, IsPoint, terms_in}
use Rattle.lq_logic_predicates.specs.Comparison.{Comparison, IsRowOf}
use Rattle.lq_logic_predicates.specs.Numbering.{index_of-present, slice_get-has_term, slice_get-index_of}
use Rattle.lq_logic_predicates.specs.Points.{ComparisonHolds, Point, form_at}
use Rattle.lq_logic_predicates.specs.Literals.{implication_literals}
use Rattle.lq_logic_predicates.specs.RowMeaning.{AgreesOn, point_by}
use Rattle.lq_logic_predicates.specs.Sum.{Sum, whole, var, neg, add, sub, mul, div, rem, len, measure}
use Rattle.lq_logic_predicates.specs.Table.{all_differ, has_term, index_of}
use Rattle.lq_logic_predicates.specs.declared.symbol.Symbol.{Symbol}
use Rattle.lq_prover_decide.specs.Case.{Case, fact_items}
use Rattle.lq_prover_decide.specs.CaseView.{case_of}
use Rattle.lq_prover_decide.specs.Deciding.{Fits, HoldsCase, PairsAreDecided}
use Rattle.lq_prover_case.specs.Equations.Equating.{applied}
use Rattle.lq_prover_case.specs.Equations.Naming.{HasAllArguments, HasArgument}
use Rattle.lq_prover_decide.specs.Settled.{AreValuesOf, IsSettled}
use Rattle.lq_prover_decide.specs.Stopping.{HasOrigin, IsPastAtPoint}
use Rattle.lq_prover_decide.specs.declared.literals.Literals.{Literals}
use Rattle.lq_prover_decide.proofs.Holding.{class_is, facts_hold, no_never}
use Rattle.lq_prover_decide.proofs.Ways.{compare_all}
use Rattle.lq_prover_case.proofs.EquationsLemmas.Plain.{terms_plain}
use Rattle.lq_prover_case.proofs.EquationsLemmas.Ways.{product_form, way_agrees}

-- what is known of the values
pub record AreGiven (objects : List Sum) (c : Case) (s : PathState) (values : PointValues) : Type 0 where
  pub settled : IsSettled objects c s
  pub values_are : AreValuesOf objects c s values
  pub arguments : HasAllArguments objects c.terms
  pub complete : c.terms ≡ terms_in c.implication
  pub numbers : AgreesOn c.terms (valuation_of (numbers_of values)) (point_of_values values)
  pub says : (k : Comparison) (r : Row) → IsRowOf c.terms k r → RowHolds (valuation_of (numbers_of values)) r → ComparisonHolds (point_of_values values) k
  pub hold : AllHold (valuation_of (numbers_of values)) (point_of_values values) c.facts
  pub pairs : PairsAreDecided c

-- ---- lengths and measures

argument_of : (objects : List Sum) (m : Option Name) (a : Sum) → HasArgument objects (applied m a) → has_term objects a ≡ true
argument_of objects None a h = h
argument_of objects (Some f) a h = h

one_agrees : (objects : List Sum) (c : Case) (s : PathState) (values : PointValues) → AreGiven objects c s values → (i j : ℕ) (m : Option Name) (a b : Sum)
    → slice_get c.terms i ≡ Some (applied m a) → slice_get c.terms j ≡ Some (applied m b) → (point_of_values values).class_of a ≡ (point_of_values values).class_of b
    → (point_of_values values).number (applied m a) ≡ (point_of_values values).number (applied m b)
one_agrees objects c s values g i j m a b e f q =
    let w = g.values_are in
    let ha = argument_of objects m a (g.arguments i (applied m a) e) in
    let hb = argument_of objects m b (g.arguments j (applied m b) f) in
    let ga = slice_get-index_of objects a ha in
    let gb = slice_get-index_of objects b hb in
    let class = sym (class_is objects c s values w (index_of objects a) a ga) ∙ q ∙ class_is objects c s values w (index_of objects b) b gb in
    let one = (w.one (index_of objects a) (index_of objects b) (index_of-present objects a ha) (index_of-present objects b hb)).0 class in
    sym (g.numbers i (applied m a) e) ∙ w.numbers i (slice_get_within c.terms i (applied m a) e)
    ∙ g.settled.equated i j (index_of objects a) (index_of objects b) m a b e f ga gb one (row_point s.rows) g.settled.solves
    ∙ sym (w.numbers j (slice_get_within c.terms j (applied m b) f)) ∙ g.numbers j (applied m b) f

-- ---- products, quotients and remainders

two_agree : (objects : List Sum) (c : Case) (s : PathState) (values : PointValues) → AreGiven objects c s values → (i j : ℕ) (x a b y d e : Sum) → i < j
    → slice_get c.terms i ≡ Some x → slice_get c.terms j ≡ Some y → ApplyTwo x a b y d e → form_at (point_of_values values) x ≡ (point_of_values values).number x
    → form_at (point_of_values values) y ≡ (point_of_values values).number y
    → AgreeOrApart (point_of_values values) a b d e ((point_of_values values).number x) ((point_of_values values).number y)
two_agree objects c s values g i j x a b y d e l ex ey two fx fy =
    let p = point_of_values values in
    let n : j ≡ i + suc (j - suc i) = omega (arith, l) in
    let k = g.pairs i (j - suc i) x a b y d e ex (subst (λ m. slice_get c.terms m ≡ Some y) n ey) two in
    way_agrees p x a b y d e (p.number x) (p.number y) k.way fx fy k.is
    (compare_all c.terms (valuation_of (numbers_of values)) p g.says c.facts g.hold k.way k.rows k.are k.facts)

plain_product : (c : Case) (i : ℕ) (a b : Sum) → c.terms ≡ terms_in c.implication → slice_get c.terms i ≡ Some (mul a b) → AreNoLiterals a b
plain_product c i a b complete e = terms_plain c.implication (mul a b) (subst (λ l. has_term l (mul a b) ≡ true) complete (slice_get-has_term c.terms i (mul a b) e))

-- ---- all pairs

pair_agrees : (objects : List Sum) (c : Case) (s : PathState) (values : PointValues) → AreGiven objects c s values → (i j : ℕ) (x y : Sum) → i < j → slice_get c.terms i ≡ Some x
    → slice_get c.terms j ≡ Some y → Agree (point_of_values values) x y
pair_agrees objects c s values g i j (mul a b) (mul d e) l ex ey =
    let ha = plain_product c i a b g.complete ex in
    let hd = plain_product c j d e g.complete ey in
    two_agree objects c s values g i j (mul a b) a b (mul d e) d e l ex ey (products a b d e ha hd) (product_form (point_of_values values) a b ha) (product_form (point_of_values values) d e hd)
pair_agrees objects c s values g i j (div a b) (div d e) l ex ey = two_agree objects c s values g i j (div a b) a b (div d e) d e l ex ey (quotients a b d e) refl refl
pair_agrees objects c s values g i j (rem a b) (rem d e) l ex ey = two_agree objects c s values g i j (rem a b) a b (rem d e) d e l ex ey (remainders a b d e) refl refl
pair_agrees objects c s values g i j (len a) (len b) l ex ey = one_agrees objects c s values g i j None a b ex ey
pair_agrees objects c s values g i j (measure f a) (measure h b) l ex ey = λ k. subst (λ z. slice_get c.terms j ≡ Some (measure z b) → (point_of_values values).class_of a ≡ (point_of_values values).class_of b
    → (point_of_values values).number (measure f a) ≡ (point_of_values values).number (measure z b)) k (λ q. one_agrees objects c s values g i j (Some f) a b ex q) ey
pair_agrees objects c s values g i j (mul a b) _ l ex ey = tt
pair_agrees objects c s values g i j (div a b) _ l ex ey = tt
pair_agrees objects c s values g i j (rem a b) _ l ex ey = tt
pair_agrees objects c s values g i j (len a) _ l ex ey = tt
pair_agrees objects c s values g i j (measure f a) _ l ex ey = tt
pair_agrees objects c s values g i j (whole n) _ l ex ey = tt
pair_agrees objects c s values g i j (var x) _ l ex ey = tt
pair_agrees objects c s values g i j (neg a) _ l ex ey = tt
pair_agrees objects c s values g i j (add a b) _ l ex ey = tt
pair_agrees objects c s values g i j (sub a b) _ l ex ey = tt

pub are_point : (objects : List Sum) (c : Case) (s : PathState) (values : PointValues) → AreGiven objects c s values → IsPoint c.implication (point_of_values values)
are_point objects c s values g =
    subst (λ l. (x y : Sum) → has_term l x ≡ true → has_term l y ≡ true → Agree (point_of_values values) x y) g.complete
    (all_from_before (point_of_values values) c.terms (λ n l i x y less ex ey. pair_agrees objects c s values g i n x y less ex ey))

-- ---- the point that is made of them

same_point : (v w : PointValues) → AreSame v w → point_of_values v ≡ point_of_values w
same_point v w h =
    ap (λ l. point_from l (numbers_of v) (flags_of v) (classes_of v)) h.table ∙ ap (λ l. point_from (table_of w) l (flags_of v) (classes_of v)) h.numbers
    ∙ ap (λ l. point_from (table_of w) (numbers_of w) l (classes_of v)) h.flags ∙ ap (λ l. point_from (table_of w) (numbers_of w) (flags_of w) l) h.classes

pub holds_case : (c : Case) (p : made.Point) (values : PointValues) → AreSame (values_of p) values → table_of values ≡ c.terms
    → AllHold (valuation_of (numbers_of values)) (point_of_values values) c.facts → HoldsCase c p
holds_case c p values same table hold = record {
  table = same.table ∙ table;
  facts = subst (λ n. AllHold (valuation_of n) (as_point p) c.facts) (sym same.numbers)
      (subst (λ q. AllHold (valuation_of (numbers_of values)) q c.facts) (sym (same_point (values_of p) values same)) hold);
}

-- ---- the values of a case of the code

pub given : (objects : List Sum) (l : Literals) (s : PathState) (values : PointValues) → IsSettled objects (case_of l) s → AreValuesOf objects (case_of l) s values
    → HasAllArguments objects (case_of l).terms → Fits (case_of l) → PairsAreDecided (case_of l) → all_differ (case_of l).terms ≡ true
    → ((terms : List Sum) (v : Valuation) (holds : Symbol → Bool) (class_of : Sum → ℕ) → all_differ terms ≡ true → AgreesOn terms v (point_by terms v holds class_of))
    → ((terms : List Sum) (v : Valuation) (p : Point) (k : Comparison) (row : Row) → all_differ terms ≡ true → AgreesOn terms v p → IsRowOf terms k row → RowHolds v row ↔ ComparisonHolds p k)
    → AreGiven objects (case_of l) s values
given objects l s values settled w arguments fits pairs distinct agrees rows =
    let numbers : AgreesOn (case_of l).terms (valuation_of (numbers_of values)) (point_of_values values) = subst (λ ts. AgreesOn ts (valuation_of (numbers_of values)) (point_of_values values)) w.table
    (agrees (table_of values) (valuation_of (numbers_of values)) (point_of_values values).holds (point_of_values values).class_of (ap all_differ w.table ∙ distinct)) in record {
      settled = settled;
      values_are = w;
      arguments = arguments;
      complete = fits.complete;
      numbers = numbers;
      says = λ k r is h. (rows (case_of l).terms (valuation_of (numbers_of values)) (point_of_values values) k r distinct numbers is).0 h;
      hold = facts_hold objects (case_of l) s values settled w fits.below (no_never (fact_items l.facts));
      pairs = pairs;
    }

pub all_terms : (l : Literals) (values : PointValues) → table_of values ≡ (case_of l).terms → Fits (case_of l) → (t : Sum) → has_term (terms_in (case_of l).implication) t ≡ true
    → has_term (table_of values) t ≡ true
all_terms l values e fits t h = ap (λ ts. has_term ts t) (e ∙ fits.complete) ∙ h

pub past_at_point : (objects : List Sum) (c : Case) (s : PathState) (values : PointValues) (e : NumberPast) → AreGiven objects c s values → IsPast e
    → HasOrigin c (valuation_of (numbers_of values)) → IsStepOf (implication_literals c.implication) (table_of values) (numbers_of values) e → IsPastAtPoint c e
past_at_point objects c s values e g past origin step = record {
  past = past;
  numbers = numbers_of values;
  origin = origin;
  solve = solves_rows (valuation_of (numbers_of values)) (point_of_values values) 1 c.facts g.hold;
  step = subst (λ ts. IsStepOf (implication_literals c.implication) ts (numbers_of values) e) g.values_are.table step;
}
