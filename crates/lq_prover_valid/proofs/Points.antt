-- The values that a settled path gives are a counterexample.
use Rattle.std.proofs.Common.{◌≡◌, ◌↔◌, inl, inr, ℕ, zero, suc, ◌<◌, List, [], ◌∷◌, Contains, Bool, true, false, Option, Some, None, cond, get_or, length, map, slice_get, slice_index, unwrap_or, refl, sym, ap, subst, ◌∙◌, arith, if◌then◌else◌}
use Rattle.std.specs.List.{filter}
use Rattle.std.proofs.lemmas.List.Elements.{All-contains}
use Rattle.std.proofs.lemmas.Option.{slice_get_within}
use Rattle.lq_prover_case.specs.State.Flags.{find_given}
use Rattle.lq_prover_case.specs.State.PathState.{PathState}
use Rattle.lq_prover_case.specs.State.RowState.{row_point}
use Rattle.lq_prover_proof_tree.specs.Trees.Met.{AllChosen, MeetsPath}
use Rattle.lq_prover_proof_tree.specs.Trees.Path.{IsOpening, Path, nothing, numbered_at, taken}
use Rattle.lq_prover_proof_tree.specs.Trees.Proves.{ApplyTwo, AreNoLiterals, AreRowsOf, five_ways, products, quotients, remainders}
use Rattle.lq_prover_proof_tree.proofs.TreesLemmas.Comparing.{AllCompare, SomeWay}
use Rattle.lq_prover_proof_tree.proofs.TreesLemmas.Meeting.{meets_taken, taken_meets}
use Rattle.lq_prover_case.proofs.EquationsLemmas.Plain.{terms_plain}
use Rattle.lq_prover_case.proofs.EquationsLemmas.Ways.{product_form, way_agrees}
use Rattle.lq_prover_case.specs.Equations.Equating.{applied}
use Rattle.lq_prover_case.specs.Equations.Naming.{HasArgument}
use Rattle.lq_logic_rows.specs.Row.{Row, RowHolds, Valuation}
use Rattle.lq_logic_rows.specs.Steps.{valuation_of}
use Rattle.lq_prover_proof_tree.specs.Literals.Parts.{is_application}
use Rattle.lq_base_names.specs.declared.name.Name.{Name}
use Rattle.lq_prover_search.specs.Path.Meeting.{IsAt, given_value}
use Rattle.lq_logic_points.specs.Values.{AreSame, as_point, classes_of, flags_of, numbers_of, point_from, point_of_values, table_of, values_of}
use Rattle.lq_logic_points.specs.declared.point.Point as made
use Rattle.lq_logic_points.specs.declared.values.PointValues.{PointValues}
use Rattle.lq_logic_points.proofs.Walks.{all_from_before}
use Rattle.lq_logic_predicates.specs.ClosedImplication.{Agree, ClosedImplication, IsPoint, MeetsEach, terms_in}
use Rattle.lq_logic_predicates.specs.Comparison.{Comparison, IsRowOf}
use Rattle.lq_logic_predicates.specs.NnfView.{nnfs_view, readings_of}
use Rattle.lq_logic_predicates.specs.Numbering.{index_of-present, slice_get-has_term, slice_get-index_of}
use Rattle.lq_logic_predicates.specs.Points.{ComparisonHolds, Meets, Point}
use Rattle.lq_logic_predicates.specs.Reading.{Reading, Readings, more, none, reading_of, row}
use Rattle.lq_logic_predicates.specs.RowMeaning.{AgreesOn, MeetsAllRows, MeetsAnyRow, MeetsRows, point_by}
use Rattle.lq_logic_predicates.specs.Sum.{Sum, whole, var, neg, add, sub, mul, div, rem, len, measure}
use Rattle.lq_logic_predicates.specs.Table.{all_differ, has_term, index_of}
use Rattle.lq_logic_predicates.specs.declared.symbol.Symbol.{Symbol}
use Rattle.lq_prover_search.specs.Search.Pairs.{AreAllPairs, AreWays, IsPair, reading_of_rows}
use Rattle.lq_prover_search.specs.Search.Scope.{IsWithin, Scope}
use Rattle.lq_prover_search.specs.Search.SearchPath.{AreGiven, IsSettled, ways_of}
use Rattle.lq_prover_search.specs.declared.search.pair.Pair.{Pair}
use Rattle.lq_prover_search.specs.declared.search.search_path.SearchPath.{SearchPath}
use Rattle.lq_prover_valid.specs.Answers.{IsCounterexample}
use Rattle.lq_prover_valid.specs.Openings.{IsOpeningReading}
use Rattle.lq_prover_valid.specs.Values.{AreValuesOf}
use Rattle.lq_prover_valid.proofs.Meeting.{AreAlike, met_alike}
use Rattle.lq_prover_valid.proofs.Opening.{is_opening}

-- ---- applications by their places

abbrev before : List Sum → ℕ → ℕ
before [] i = 0
before (t ∷ ts) zero = 0
before (t ∷ ts) (suc i) = if is_application t then suc (before ts i) else before ts i

application_here : (ts : List Sum) (i : ℕ) (x : Sum) → slice_get ts i ≡ Some x → is_application x ≡ true → slice_get (filter is_application ts) (before ts i) ≡ Some x
application_here [] i x e a = cc
application_here (t ∷ ts) zero x e a =
    let same : t ≡ x = cc in
    ap (λ b. slice_get (cond b (t ∷ filter is_application ts) (filter is_application ts)) 0) (ap is_application same ∙ a) ∙ ap Some same
application_here (t ∷ ts) (suc i) x e a = by (is_application t) (application_here ts i x e a)
  where
    by : (b : Bool) → slice_get (filter is_application ts) (before ts i) ≡ Some x
        → slice_get (cond b (t ∷ filter is_application ts) (filter is_application ts)) (if b then suc (before ts i) else before ts i) ≡ Some x
    by true h = h
    by false h = h

before_rises : (ts : List Sum) (i j : ℕ) (x : Sum) → i < j → slice_get ts i ≡ Some x → is_application x ≡ true → before ts i < before ts j
before_rises [] i j x l e a = cc
before_rises (t ∷ ts) i zero x l e a = absurd (omega (arith, l))
before_rises (t ∷ ts) zero (suc j) x l e a =
    let same : t ≡ x = cc in
    let k = ap (λ b. if b then suc (before ts j) else before ts j) (ap is_application same ∙ a) in omega (arith, k)
before_rises (t ∷ ts) (suc i) (suc j) x l e a = by (is_application t) (before_rises ts i j x (omega (arith, l)) e a)
  where
    by : (b : Bool) → before ts i < before ts j → (if b then suc (before ts i) else before ts i) < (if b then suc (before ts j) else before ts j)
    by true h = omega (arith, h)
    by false h = h

-- ---- a way whose rows hold

-- rows hold where their comparisons do
abbrev pub RowsSay : List Sum → Valuation → Point → Type 0
RowsSay terms v q = (c : Comparison) (r : Row) → IsRowOf terms c r → RowHolds v r → ComparisonHolds q c

rows_compare : (terms : List Sum) (v : Valuation) (q p : Point) → RowsSay terms v q → (cs : List Comparison) (rs : List Row) → AreRowsOf terms cs rs
    → MeetsAllRows v p (readings_of (map row rs)) → AllCompare q cs
rows_compare terms v q p says [] [] a m = tt
rows_compare terms v q p says (c ∷ cs) (r ∷ rs) a m = (says c r a.0 m.0, rows_compare terms v q p says cs rs a.1 m.1)
rows_compare terms v q p says [] (r ∷ rs) a m = absurd a
rows_compare terms v q p says (c ∷ cs) [] a m = absurd a

all_rows_met : (v : Valuation) (p : Point) (rs : List Row) → MeetsRows v p (reading_of_rows rs) → MeetsAllRows v p (readings_of (map row rs))
all_rows_met v p [] m = tt
all_rows_met v p (r ∷ []) m = (m, tt)
all_rows_met v p (r ∷ q ∷ rs) m = m

some_way : (terms : List Sum) (v : Valuation) (q p : Point) → RowsSay terms v q → (ways : List (List Comparison)) (rs : Readings Row) → AreWays terms ways rs → MeetsAnyRow v p rs → SomeWay q ways
some_way terms v q p says [] none a m = m
some_way terms v q p says (cs ∷ ways) (more r rs) a (inl m) =
    inl (rows_compare terms v q p says cs a.0.rows a.0.are (all_rows_met v p a.0.rows (subst (MeetsRows v p) a.0.is m)))
some_way terms v q p says (cs ∷ ways) (more r rs) a (inr m) = inr (some_way terms v q p says ways rs a.1 m)
some_way terms v q p says [] (more r rs) a m = absurd a
some_way terms v q p says (cs ∷ ways) none a m = absurd a

-- one of some ways
record IsAWay (q : Point) (ways : List (List Comparison)) : Type 0 where
  way : List Comparison
  among : Contains ways way
  compare : AllCompare q way

a_way : (q : Point) (ways : List (List Comparison)) → SomeWay q ways → IsAWay q ways
a_way q [] h = absurd h
a_way q (cs ∷ ways) (inl h) = record { way = cs; among = (0, omega arith, refl); compare = h }
a_way q (cs ∷ ways) (inr h) =
    let r = a_way q ways h in record { way = r.way; among = (suc r.among.0, (let l = r.among.1 in omega (arith, l)), r.among.2); compare = r.compare }

two_agree : (q : Point) (s a b t c d : Sum) → ApplyTwo s a b t c d → SomeWay q (five_ways s a b t c d) → Agree q s t
two_agree q _ _ _ _ _ _ (products a b c d h k) m =
    let w = a_way q (five_ways (mul a b) a b (mul c d) c d) m in
    way_agrees q (mul a b) a b (mul c d) c d (q.number (mul a b)) (q.number (mul c d)) w.way (product_form q a b h) (product_form q c d k) w.among w.compare
two_agree q _ _ _ _ _ _ (quotients a b c d) m =
    let w = a_way q (five_ways (div a b) a b (div c d) c d) m in way_agrees q (div a b) a b (div c d) c d (q.number (div a b)) (q.number (div c d)) w.way refl refl w.among w.compare
two_agree q _ _ _ _ _ _ (remainders a b c d) m =
    let w = a_way q (five_ways (rem a b) a b (rem c d) c d) m in way_agrees q (rem a b) a b (rem c d) c d (q.number (rem a b)) (q.number (rem c d)) w.way refl refl w.among w.compare

chosen_pair : (v : Valuation) (p : Point) (pairs : List Pair) (k : ℕ) (d : Pair) → k < length pairs → AllChosen v p (ways_of pairs)
    → MeetsAnyRow v p (nnfs_view (get_or pairs k d).ways)
chosen_pair v p [] k d l h = absurd (omega (arith, l))
chosen_pair v p (x ∷ pairs) zero d l h = h.0
chosen_pair v p (x ∷ pairs) (suc k) d l h = chosen_pair v p pairs k d (omega (arith, l)) h.1

-- ---- what is known of the values

pub record AreKnown (s : Scope) (i : ClosedImplication) (pairs : List Pair) (path : SearchPath) (values : PointValues) : Type 0 where
  pub distinct : all_differ s.terms ≡ true
  pub complete : s.terms ≡ terms_in i
  pub given : AreGiven s pairs
  pub all : AreAllPairs s.terms pairs
  pub settled : IsSettled s pairs path
  pub values_are : AreValuesOf s path.state values
  pub agrees : AgreesOn s.terms (row_point path.state.rows) (point_of_values values)
  pub says : RowsSay s.terms (row_point path.state.rows) (point_of_values values)

-- the point of the values, with the flags that the state gives
abbrev pub point_at : PathState → PointValues → Point
point_at state values =
    record { number = (point_of_values values).number; holds = λ x. given_value (find_given state.flags x); class_of = (point_of_values values).class_of }

class_is : (s : Scope) (state : PathState) (values : PointValues) (w : AreValuesOf s state values) (k : ℕ) (a : Sum) → slice_get s.objects k ≡ Some a
    → (point_of_values values).class_of a ≡ slice_index w.class_of k
class_is s state values w k a e = ap (λ o. unwrap_or o 0) (w.classes k a e)

pub is_at : (s : Scope) (state : PathState) (values : PointValues) → AreValuesOf s state values → IsAt s.objects state (point_at state values)
is_at s state values w = record {
  flags = λ x. refl;
  classes = λ i j a b e f.
      let l = slice_get_within s.objects i a e in
      let r = slice_get_within s.objects j b f in
      let one = w.one i j l r in (
        λ h. one.0 (sym (class_is s state values w i a e) ∙ h ∙ class_is s state values w j b f),
        λ h. class_is s state values w i a e ∙ one.1 h ∙ sym (class_is s state values w j b f),
      );
}

alike : (s : Scope) (state : PathState) (values : PointValues) → AreValuesOf s state values → AreAlike s (point_at state values) (point_of_values values)
alike s state values w = record {
  flags = λ x h. sym (ap (λ o. unwrap_or o false) (w.flags x ∙ ap (λ b. if b then Some (given_value (find_given state.flags x)) else None) h));
  classes = λ a. refl;
}

-- ---- the conditions of a point

argument_of : (objects : List Sum) (m : Option Name) (a : Sum) → HasArgument objects (applied m a) → has_term objects a ≡ true
argument_of objects None a h = h
argument_of objects (Some f) a h = h

one_agrees : (s : Scope) (i : ClosedImplication) (pairs : List Pair) (path : SearchPath) (values : PointValues) → AreKnown s i pairs path values → (j k : ℕ) (m : Option Name) (a b : Sum)
    → slice_get s.terms j ≡ Some (applied m a) → slice_get s.terms k ≡ Some (applied m b) → (point_of_values values).class_of a ≡ (point_of_values values).class_of b
    → (point_of_values values).number (applied m a) ≡ (point_of_values values).number (applied m b)
one_agrees s i pairs path values g j k m a b e f q =
    let w = g.values_are in
    let ha = argument_of s.objects m a (g.given.arguments j (applied m a) e) in
    let hb = argument_of s.objects m b (g.given.arguments k (applied m b) f) in
    let ga = slice_get-index_of s.objects a ha in
    let gb = slice_get-index_of s.objects b hb in
    let class = sym (class_is s path.state values w (index_of s.objects a) a ga) ∙ q ∙ class_is s path.state values w (index_of s.objects b) b gb in
    let one = (w.one (index_of s.objects a) (index_of s.objects b) (index_of-present s.objects a ha) (index_of-present s.objects b hb)).0 class in
    sym (g.agrees j (applied m a) e) ∙ g.settled.equated j k (index_of s.objects a) (index_of s.objects b) m a b e f ga gb one (row_point path.state.rows) g.settled.solves
    ∙ g.agrees k (applied m b) f

some_same : {X : Type 0} (x y : X) → Some x ≡ Some y → x ≡ y
some_same {X} x y e = cc

pair_agrees : (s : Scope) (i : ClosedImplication) (pairs : List Pair) (path : SearchPath) (values : PointValues) → AreKnown s i pairs path values
    → AllChosen (row_point path.state.rows) (point_at path.state values) (ways_of pairs) → (j k : ℕ) (x a b y d e : Sum) → j < k → slice_get s.terms j ≡ Some x
    → slice_get s.terms k ≡ Some y → is_application x ≡ true → is_application y ≡ true → ApplyTwo x a b y d e → Agree (point_of_values values) x y
pair_agrees s i pairs path values g chosen j k x a b y d e l ex ey ax ay two =
    let v = row_point path.state.rows in
    let q = point_of_values values in
    let first = application_here s.terms j x ex ax in
    let second = application_here s.terms k y ey ay in
    let rises = before_rises s.terms j k x l ex ax in
    let h = g.all.all (suc (before s.terms j)) (suc (before s.terms k)) x a b y d e (omega (arith, rises)) first second two in
    let is = All-contains (IsPair s.terms) pairs h.pair g.given.each h.among in
    let left : is.first ≡ x = some_same is.first x (sym is.is_first ∙ ap (λ n. numbered_at (filter is_application s.terms) n) h.is_left ∙ first) in
    let right : is.second ≡ y = some_same is.second y (sym is.is_second ∙ ap (λ n. numbered_at (filter is_application s.terms) n) h.is_right ∙ second) in
    let met : MeetsAnyRow v (point_at path.state values) (nnfs_view h.pair.ways) =
    subst (λ (z : Pair). MeetsAnyRow v (point_at path.state values) (nnfs_view z.ways)) h.among.2 (chosen_pair v (point_at path.state values) pairs h.among.0 h.pair h.among.1 chosen) in
    let way = some_way s.terms v q (point_at path.state values) g.says (five_ways is.first is.first_left is.first_right is.second is.second_left is.second_right) (nnfs_view h.pair.ways) is.ways met in
    subst (λ z. Agree q z y) left
    (subst (Agree q is.first) right (two_agree q is.first is.first_left is.first_right is.second is.second_left is.second_right is.apply way))

plain_product : (s : Scope) (i : ClosedImplication) (k : ℕ) (a b : Sum) → s.terms ≡ terms_in i → slice_get s.terms k ≡ Some (mul a b) → AreNoLiterals a b
plain_product s i k a b complete e = terms_plain i (mul a b) (subst (λ l. has_term l (mul a b) ≡ true) complete (slice_get-has_term s.terms k (mul a b) e))

terms_agree : (s : Scope) (i : ClosedImplication) (pairs : List Pair) (path : SearchPath) (values : PointValues) → AreKnown s i pairs path values
    → AllChosen (row_point path.state.rows) (point_at path.state values) (ways_of pairs) → (j k : ℕ) (x y : Sum) → j < k → slice_get s.terms j ≡ Some x
    → slice_get s.terms k ≡ Some y → Agree (point_of_values values) x y
terms_agree s i pairs path values g c j k (mul a b) (mul d e) l ex ey =
    pair_agrees s i pairs path values g c j k (mul a b) a b (mul d e) d e l ex ey refl refl
    (products a b d e (plain_product s i j a b g.complete ex) (plain_product s i k d e g.complete ey))
terms_agree s i pairs path values g c j k (div a b) (div d e) l ex ey = pair_agrees s i pairs path values g c j k (div a b) a b (div d e) d e l ex ey refl refl (quotients a b d e)
terms_agree s i pairs path values g c j k (rem a b) (rem d e) l ex ey = pair_agrees s i pairs path values g c j k (rem a b) a b (rem d e) d e l ex ey refl refl (remainders a b d e)
terms_agree s i pairs path values g c j k (len a) (len b) l ex ey = one_agrees s i pairs path values g j k None a b ex ey
terms_agree s i pairs path values g c j k (measure f a) (measure h b) l ex ey = λ n. subst (λ z. slice_get s.terms k ≡ Some (measure z b) → (point_of_values values).class_of a ≡ (point_of_values values).class_of b
    → (point_of_values values).number (measure f a) ≡ (point_of_values values).number (measure z b)) n (λ q. one_agrees s i pairs path values g j k (Some f) a b ex q) ey
terms_agree s i pairs path values g c j k (mul a b) _ l ex ey = tt
terms_agree s i pairs path values g c j k (div a b) _ l ex ey = tt
terms_agree s i pairs path values g c j k (rem a b) _ l ex ey = tt
terms_agree s i pairs path values g c j k (len a) _ l ex ey = tt
terms_agree s i pairs path values g c j k (measure f a) _ l ex ey = tt
terms_agree s i pairs path values g c j k (whole n) _ l ex ey = tt
terms_agree s i pairs path values g c j k (var x) _ l ex ey = tt
terms_agree s i pairs path values g c j k (neg a) _ l ex ey = tt
terms_agree s i pairs path values g c j k (add a b) _ l ex ey = tt
terms_agree s i pairs path values g c j k (sub a b) _ l ex ey = tt

pub are_point : (s : Scope) (i : ClosedImplication) (pairs : List Pair) (path : SearchPath) (values : PointValues) → AreKnown s i pairs path values
    → AllChosen (row_point path.state.rows) (point_at path.state values) (ways_of pairs) → IsPoint i (point_of_values values)
are_point s i pairs path values g c =
    subst (λ l. (x y : Sum) → has_term l x ≡ true → has_term l y ≡ true → Agree (point_of_values values) x y) g.complete
    (all_from_before (point_of_values values) s.terms (λ n l j x y less ex ey. terms_agree s i pairs path values g c j n x y less ex ey))

-- ---- the readings

-- a point that meets the opening path meets the hypotheses and the negated goal
abbrev pub OpeningsSay : Type 0
OpeningsSay = (terms : List Sum) (v : Valuation) (p : Point) (i : ClosedImplication) (path : Path) → all_differ terms ≡ true → AgreesOn terms v p → IsOpening terms i path
    → MeetsPath v p path ↔ (MeetsEach p i.hypotheses × Meets p (reading_of false i.goal))

pub meets_opening : OpeningsSay → (s : Scope) (i : ClosedImplication) (pairs : List Pair) (path : SearchPath) (values : PointValues) (reading : Reading Row)
    → AreKnown s i pairs path values → IsWithin s reading → IsOpeningReading s.terms i reading
    → MeetsPath (row_point path.state.rows) (point_at path.state values) (taken nothing reading)
    → MeetsEach (point_of_values values) i.hypotheses × Meets (point_of_values values) (reading_of false i.goal)
meets_opening openings s i pairs path values reading g within o m =
    let v = row_point path.state.rows in
    let q = point_of_values values in
    let met = (taken_meets v (point_at path.state values) nothing reading m).1 in
    let same = met_alike s v (point_at path.state values) q (alike s path.state values g.values_are) reading within met in
    (openings s.terms v q i (taken nothing reading) g.distinct g.agrees (is_opening s.terms i reading o)).0 (meets_taken v q nothing reading (record { facts = tt; choices = tt }) same)

-- ---- the point that is made of the values

same_point : (v w : PointValues) → AreSame v w → point_of_values v ≡ point_of_values w
same_point v w h =
    ap (λ l. point_from l (numbers_of v) (flags_of v) (classes_of v)) h.table ∙ ap (λ l. point_from (table_of w) l (flags_of v) (classes_of v)) h.numbers
    ∙ ap (λ l. point_from (table_of w) (numbers_of w) l (classes_of v)) h.flags ∙ ap (λ l. point_from (table_of w) (numbers_of w) (flags_of w) l) h.classes

pub counterexample : (i : ClosedImplication) (p : made.Point) (values : PointValues) → AreSame (values_of p) values → IsPoint i (as_point p)
    → MeetsEach (point_of_values values) i.hypotheses × Meets (point_of_values values) (reading_of false i.goal) → IsCounterexample i (as_point p)
counterexample i p values same point met =
    let e = sym (same_point (values_of p) values same) in
    record { is_point = point; hypotheses = subst (λ z. MeetsEach z i.hypotheses) e met.0; goal = subst (λ z. Meets z (reading_of false i.goal)) e met.1 }

pub known : (s : Scope) (i : ClosedImplication) (pairs : List Pair) (path : SearchPath) (values : PointValues) → all_differ s.terms ≡ true → s.terms ≡ terms_in i → AreGiven s pairs
    → AreAllPairs s.terms pairs → IsSettled s pairs path → AreValuesOf s path.state values
    → ((terms : List Sum) (v : Valuation) (holds : Symbol → Bool) (class_of : Sum → ℕ) → all_differ terms ≡ true → AgreesOn terms v (point_by terms v holds class_of))
    → ((terms : List Sum) (v : Valuation) (p : Point) (c : Comparison) (r : Row) → all_differ terms ≡ true → AgreesOn terms v p → IsRowOf terms c r → RowHolds v r ↔ ComparisonHolds p c)
    → AreKnown s i pairs path values
known s i pairs path values distinct complete given all settled w points rows =
    let numbers : AgreesOn s.terms (valuation_of (numbers_of values)) (point_of_values values) = subst (λ ts. AgreesOn ts (valuation_of (numbers_of values)) (point_of_values values)) w.table
    (points (table_of values) (valuation_of (numbers_of values)) (point_of_values values).holds (point_of_values values).class_of (ap all_differ w.table ∙ distinct)) in
    let agrees : AgreesOn s.terms (row_point path.state.rows) (point_of_values values) = λ k t e. sym (w.numbers k (slice_get_within s.terms k t e)) ∙ numbers k t e in
    record {
      distinct = distinct;
      complete = complete;
      given = given;
      all = all;
      settled = settled;
      values_are = w;
      agrees = agrees;
      says = λ c r i h. (rows s.terms (row_point path.state.rows) (point_of_values values) c r distinct agrees i).0 h;
    }

pub all_terms : (s : Scope) (i : ClosedImplication) (values : PointValues) → table_of values ≡ s.terms → s.terms ≡ terms_in i → (t : Sum) → has_term (terms_in i) t ≡ true
    → has_term (table_of values) t ≡ true
all_terms s i values e complete t h = ap (λ ts. has_term ts t) (e ∙ complete) ∙ h
