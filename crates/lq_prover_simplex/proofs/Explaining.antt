-- The rows that keep a variable from its bound sum to a contradiction.
use Rattle.std.proofs.Common.{◌≡◌, ◌≢◌, ℕ, zero, suc, pos, ◌+◌, ◌<◌, ◌≤◌, ◌==◌, if◌then◌else◌, arith, refl, sym, ap, ap₂, subst, ◌∙◌, Bool, true, false, List, [], ◌∷◌, ◌++◌, Some, All, IfSome, length, take, get_or, slice_get}
use Rattle.std.proofs.lemmas.List.Elements.{All-nil, All-cons, All-head, All-tail}
use Rattle.std.proofs.lemmas.Option.{slice_get_within, get_or_from_slice_get}
use Rattle.std.proofs.lemmas.List.{take_all}
use Rattle.std.specs.Int.Signed.{◌<ℤ◌}
use Rattle.lq_base_numbers.specs.Rationals.Rational.{ℚ, whole, ◌+ℚ◌, ◌-ℚ◌, ◌*ℚ◌}
use Rattle.lq_base_numbers.specs.Rationals.RationalRing.{*ℚ_assoc}
use Rattle.lq_base_numbers.specs.Rationals.Solver.{var, con, ◌⊕◌, solve}
use Rattle.lq_base_numbers.specs.declared.fractions.frac.Frac.{Frac}
use Rattle.lq_base_numbers.specs.Fractions.Value.{value_of}
use Rattle.lq_logic_rows.specs.Row.{Valuation, sum_at}
use Rattle.lq_logic_rows.specs.Contradiction.{Tagged, tagged, IsFair, AllFair, NamesOnce, level_of, weighted, IsContradiction}
use Rattle.lq_prover_simplex.specs.declared.line.Entry.{Entry}
use Rattle.lq_prover_simplex.specs.declared.row.Bound.{Bound}
use Rattle.lq_prover_simplex.specs.declared.row.Standing.{Standing}
use Rattle.lq_logic_rows.specs.declared.bound.Side.{Side}
use Rattle.lq_prover_simplex.specs.declared.limits.Limit.{Limit}
use Rattle.lq_prover_simplex.specs.declared.limits.Broken.{Broken}
use Rattle.lq_prover_simplex.specs.Lines.{combine, AscendsFrom, IsLine}
use Rattle.lq_logic_rows.specs.Forms.{Parts}
use Rattle.lq_prover_simplex.specs.Systems.{form_at, form_values}
use Rattle.lq_prover_simplex.specs.Standing.{standing_of, multiplier_of, multipliers_of, scale_of, ReadsAs, ReadsBy, Reads, AllRead, HasNoTag, TagsApart}
use Rattle.lq_prover_simplex.specs.Bounds.{other, Within, IsOn, Limits, limit_at, bound_value, IsLimit, blocking_of}
use Rattle.lq_prover_simplex.specs.Conflicts.{toward, AllGiven, Names, IsKept}
use Rattle.lq_prover_simplex.proofs.Combinations.{combine-more, entry_above}
use Rattle.lq_prover_simplex.proofs.Limiting.{blocked_at}
use Rattle.lq_prover_simplex.proofs.Signs.{fair, blocked, within_sum, within_same, not_both, gap_above, toward_more, toward_end, toward_nothing, blocking_one, other_other}

-- ---- rows by their tags
no_tag : (tag : ℕ) (rows : List Standing) (k : ℕ) (t : Standing) → HasNoTag tag rows → slice_get rows k ≡ Some t → t.tag ≢ tag
no_tag tag [] k t h g = absurd (cc)
no_tag tag (r ∷ rows) zero t h g = let q : r ≡ t = cc in subst (λ (s : Standing). s.tag ≢ tag) q h.0
no_tag tag (r ∷ rows) (suc k) t h g = no_tag tag rows k t h.1 g

pub same_standing : (rows : List Standing) (i k : ℕ) (s t : Standing) → TagsApart rows → slice_get rows i ≡ Some s → slice_get rows k ≡ Some t → s.tag ≡ t.tag → s ≡ t
same_standing [] i k s t a g h e = absurd (cc)
same_standing (r ∷ rows) zero zero s t a g h e = cc
same_standing (r ∷ rows) zero (suc k) s t a g h e =
    let q : r ≡ s = cc in absurd (no_tag r.tag rows k t a.0 h (sym e ∙ ap (λ (x : Standing). x.tag) (sym q)))
same_standing (r ∷ rows) (suc i) zero s t a g h e =
    let q : r ≡ t = cc in absurd (no_tag r.tag rows i s a.0 g (e ∙ ap (λ (x : Standing). x.tag) (sym q)))
same_standing (r ∷ rows) (suc i) (suc k) s t a g h e = same_standing rows i k s t a.1 g h e

tag_by : (m n : ℕ) {P : Type 0} → (m == n ≡ true → m ≡ n → P) → (m == n ≡ false → m ≢ n → P) → P
tag_by m n {P} f g = by (m == n) refl
  where
    by : (b : Bool) → m == n ≡ b → P
    by true e = f e (let h : m ≡ n = grind arith in h)
    by false e = g e (λ h. absurd (let k : ⊥ = grind arith in k))

pub tag_found : (rows : List Standing) (i : ℕ) (s : Standing) → TagsApart rows → slice_get rows i ≡ Some s → tagged (standing_of rows) s.tag ≡ Some s.row
tag_found [] i s a g = absurd (cc)
tag_found (r ∷ rows) zero s a g =
    let q : r ≡ s = cc in
    subst (λ (t : Standing). tagged (standing_of (r ∷ rows)) t.tag ≡ Some t.row) q
    (tag_by r.tag r.tag (λ e h. ap (λ b. if b then Some r.row else tagged (standing_of rows) r.tag) e) (λ e h. absurd (h refl)))
tag_found (r ∷ rows) (suc i) s a g =
    tag_by r.tag s.tag
    (λ e h. absurd (no_tag r.tag rows i s a.0 g (sym h)))
    (λ e h. ap (λ b. if b then Some r.row else tagged (standing_of rows) s.tag) e ∙ tag_found rows i s a.1 g)

pub read_at : (forms : List Parts) (rows : List Standing) (i : ℕ) (s : Standing) → AllRead forms rows → slice_get rows i ≡ Some s → Reads forms s
read_at forms [] i s a g = absurd (cc)
read_at forms (r ∷ rows) zero s a g = let q : r ≡ s = cc in subst (Reads forms) q a.0
read_at forms (r ∷ rows) (suc i) s a g = read_at forms rows i s a.1 g

pub reads_as : (forms : List Parts) (s : Standing) (b : Bound) → Reads forms s → s.bound ≡ Some b → ReadsAs forms s.row b
reads_as forms s b r e = let h = subst (ReadsBy forms s.row) e r in h

pub limit_read : (rows : List Standing) (forms : List Parts) (side : Side) (j : ℕ) (l : Limit) → AllRead forms rows → (g : IsLimit rows side j l) → ReadsAs forms g.standing.row l.bound
limit_read rows forms side j l r g = reads_as forms g.standing l.bound (read_at forms rows l.row g.standing r g.stands) g.gives

-- ---- lists that grow at their end
weighted-push : (v : Valuation) (rows : Tagged) (ms : List (ℕ × Frac)) (m : ℕ × Frac)
    → weighted v rows (multipliers_of (ms ++ m ∷ [])) ≡ weighted v rows (multipliers_of ms) +ℚ value_of m.1 *ℚ level_of v (tagged rows m.0)
weighted-push v rows [] m = solve ((value_of m.1 *ℚ level_of v (tagged rows m.0)) ∷ []) (var 0 ⊕ con (pos 0)) (con (pos 0) ⊕ var 0) refl
weighted-push v rows (n ∷ ms) m =
    ap (λ t. value_of n.1 *ℚ level_of v (tagged rows n.0) +ℚ t) (weighted-push v rows ms m)
    ∙ solve ((value_of n.1 *ℚ level_of v (tagged rows n.0)) ∷ weighted v rows (multipliers_of ms) ∷ (value_of m.1 *ℚ level_of v (tagged rows m.0)) ∷ [])
    (var 0 ⊕ (var 1 ⊕ var 2)) (var 0 ⊕ var 1 ⊕ var 2) refl

fair-push : (rows : Tagged) (ms : List (ℕ × Frac)) (m : ℕ × Frac) → AllFair rows (multipliers_of ms) → IsFair (tagged rows m.0) (value_of m.1) → AllFair rows (multipliers_of (ms ++ m ∷ []))
fair-push rows [] m a f = (f, tt)
fair-push rows (n ∷ ms) m a f = (a.0, fair-push rows ms m a.1 f)

-- a tag that none of the list has
abbrev NotNamed : ℕ → List (ℕ × Frac) → Type 0
NotNamed tag [] = Unit {0}
NotNamed tag (m ∷ ms) = (tag ≢ m.0) × NotNamed tag ms

other-push : (tag : ℕ) (ms : List (ℕ × Frac)) (m : ℕ × Frac) → All (λ other. other.0 ≢ tag) (multipliers_of ms) → m.0 ≢ tag → All (λ other. other.0 ≢ tag) (multipliers_of (ms ++ m ∷ []))
other-push tag [] m a n = All-cons (λ other. other.0 ≢ tag) (multiplier_of m) [] n (All-nil (λ other. other.0 ≢ tag))
other-push tag (k ∷ ms) m a n =
    All-cons (λ other. other.0 ≢ tag) (multiplier_of k) (multipliers_of (ms ++ m ∷ []))
    (All-head (λ other. other.0 ≢ tag) (multiplier_of k) (multipliers_of ms) a)
    (other-push tag ms m (All-tail (λ other. other.0 ≢ tag) (multiplier_of k) (multipliers_of ms) a) n)

once-push : (ms : List (ℕ × Frac)) (m : ℕ × Frac) → NamesOnce (multipliers_of ms) → NotNamed m.0 ms → NamesOnce (multipliers_of (ms ++ m ∷ []))
once-push [] m o n = (All-nil (λ other. other.0 ≢ m.0), tt)
once-push (k ∷ ms) m o n = (other-push k.0 ms m o.0 n.0, once-push ms m o.1 n.1)

-- ---- one row
pub named_level : (rows : List Standing) (forms : List Parts) (on side : Side) (j : ℕ) (l : Limit) (f m : ℚ) (tag : ℕ) (v : Valuation) → TagsApart rows → AllRead forms rows
    → IsLimit rows on j l → Names rows tag l → m *ℚ scale_of l.bound ≡ toward side f → m *ℚ level_of v (tagged (standing_of rows) tag) ≡ toward side f *ℚ (form_values forms v j -ℚ bound_value l)
named_level rows forms on side j l f m tag v apart read g n e =
    let r = reads_as forms n.standing l.bound (read_at forms rows l.row n.standing read n.stands) n.gives in
    ap (λ t. m *ℚ level_of v (tagged (standing_of rows) t)) (sym n.is)
    ∙ ap (λ o. m *ℚ level_of v o) (tag_found rows l.row n.standing apart n.stands)
    ∙ ap (λ t. m *ℚ t) (r.level v)
    ∙ sym (*ℚ_assoc m (scale_of l.bound) (sum_at v (form_at forms l.bound.variable) -ℚ bound_value l))
    ∙ ap₂ (λ s k. s *ℚ (form_values forms v k -ℚ bound_value l)) e g.bounds

pub named_fair : (rows : List Standing) (forms : List Parts) (on side : Side) (j : ℕ) (l : Limit) (f m : ℚ) (tag : ℕ) → TagsApart rows → AllRead forms rows
    → IsLimit rows on j l → Names rows tag l → m *ℚ scale_of l.bound ≡ toward side f → on ≡ blocking_of side f → IsFair (tagged (standing_of rows) tag) m
named_fair rows forms on side j l f m tag apart read g n e q =
    let r = reads_as forms n.standing l.bound (read_at forms rows l.row n.standing read n.stands) n.gives in
    let o : Some g.standing ≡ Some n.standing = sym g.stands ∙ n.stands in
    let w : g.standing ≡ n.standing = cc in
    let side_on : IsOn on n.standing.row.equal l.bound.turned = subst (λ (s : Standing). IsOn on s.row.equal l.bound.turned) w g.on in
    subst (λ t. IsFair (tagged (standing_of rows) t) m) n.is
    (subst (λ p. IsFair p m) (sym (tag_found rows l.row n.standing apart n.stands))
    (fair side f m l.bound n.standing.row.equal r.divides (subst (λ s. IsOn s n.standing.row.equal l.bound.turned) q side_on) e))

-- ---- what the loop keeps: the first multiplier is that of the bound, the others those of the entries so far
abbrev pub AllOf : List Standing → List Entry → ℕ → List (ℕ × Frac) → Type 0
AllOf rows line i [] = Unit {0}
AllOf rows line i (m ∷ ms) = ((k : ℕ) × (e : Entry) × (l : Limit) × (k < i) × (slice_get line k ≡ Some e) × Names rows m.0 l × (l.bound.variable ≡ e.variable)) × AllOf rows line i ms

pub record Explained (rows : List Standing) (limits : Limits) (broken : Broken) (line : List Entry) (kept : IsKept rows limits broken line) (i : ℕ) (found : List (ℕ × Frac)) : Type 0 where
  pub own : ℕ × Frac
  pub rest : List (ℕ × Frac)
  pub is : found ≡ own ∷ rest
  pub own_names : Names rows own.0 broken.limit
  pub of_entries : AllOf rows line i rest
  pub total : ℚ
  pub within : Within broken.side (combine kept.values (take i line)) total
  pub sum : (v : Valuation) → weighted v (standing_of rows) (multipliers_of found)
      ≡ toward (other broken.side) (whole (pos 1)) *ℚ (form_values kept.forms v broken.variable -ℚ bound_value broken.limit) +ℚ toward broken.side (combine (form_values kept.forms v) (take i line) -ℚ total)
  pub fair : AllFair (standing_of rows) (multipliers_of found)
  pub once : NamesOnce (multipliers_of found)

pub given_some : (rows : List Standing) (limits : Limits) (side : Side) (k : ℕ) (l : Limit) → AllGiven rows limits → limit_at limits side k ≡ Some l → IsLimit rows side k l
given_some rows limits side k l a e = let h = subst (λ o. IfSome o (IsLimit rows side k)) e (a side k) in h

pub explained_start : (rows : List Standing) (limits : Limits) (broken : Broken) (line : List Entry) (kept : IsKept rows limits broken line) (one m : Frac) (tag : ℕ)
    → Names rows tag broken.limit → value_of one ≡ whole (pos 1) → value_of m *ℚ scale_of broken.limit.bound ≡ toward (other broken.side) (value_of one)
    → Explained rows limits broken line kept 0 ((tag, m) ∷ [])
explained_start rows limits broken line kept one m tag names o e =
    let g : IsLimit rows broken.side broken.variable broken.limit = given_some rows limits broken.side broken.variable broken.limit kept.given kept.breaks.limit in
    let e1 : value_of m *ℚ scale_of broken.limit.bound ≡ toward (other broken.side) (whole (pos 1)) = e ∙ ap (toward (other broken.side)) o in
    record {
      own = (tag, m);
      rest = [];
      is = refl;
      own_names = names;
      of_entries = tt;
      total = whole (pos 0);
      within = within_same broken.side (whole (pos 0)) (whole (pos 0)) refl;
      sum = λ v.
          ap (λ t. t +ℚ whole (pos 0)) (named_level rows kept.forms broken.side (other broken.side) broken.variable broken.limit (whole (pos 1)) (value_of m) tag v kept.apart kept.read g names e1)
          ∙ ap (λ t. toward (other broken.side) (whole (pos 1)) *ℚ (form_values kept.forms v broken.variable -ℚ bound_value broken.limit) +ℚ t) (sym (toward_nothing broken.side));
      fair = (
        named_fair rows kept.forms broken.side (other broken.side) broken.variable broken.limit (whole (pos 1)) (value_of m) tag kept.apart kept.read g names e1
            (sym (blocking_one (other broken.side) (whole (pos 1)) refl ∙ other_other broken.side)),
        tt,
      );
      once = (All-nil (λ other. other.0 ≢ tag), tt);
    }

-- names of one tag are of one bound
same_bound : (rows : List Standing) (a b : ℕ) (l m : Limit) → TagsApart rows → Names rows a l → Names rows b m → a ≡ b → l.bound ≡ m.bound
same_bound rows a b l m apart n k e =
    let s = same_standing rows l.row m.row n.standing k.standing apart n.stands k.stands (n.is ∙ e ∙ sym k.is) in
    let q : Some l.bound ≡ Some m.bound = sym n.gives ∙ ap (λ (s : Standing). s.bound) s ∙ k.gives in cc

line_below : (line : List Entry) (low k i : ℕ) (e f : Entry) → AscendsFrom low line → slice_get line k ≡ Some e → slice_get line i ≡ Some f → k < i → e.variable < f.variable
line_below [] low k i e f a g h l = absurd (cc)
line_below (x ∷ line) low zero zero e f a g h l = absurd (omega arith)
line_below (x ∷ line) low zero (suc i) e f a g h l =
    let q : x ≡ e = cc in let u = entry_above line (suc x.variable) i f a.2 h in subst (λ (y : Entry). y.variable < f.variable) q (omega arith)
line_below (x ∷ line) low (suc k) zero e f a g h l = absurd (omega arith)
line_below (x ∷ line) low (suc k) (suc i) e f a g h l = line_below line (suc x.variable) k i e f a.2 g h (omega arith)

rest_apart : (rows : List Standing) (line : List Entry) (i : ℕ) (e : Entry) (l : Limit) (tag : ℕ) (rest : List (ℕ × Frac)) → TagsApart rows → IsLine line → slice_get line i ≡ Some e
    → Names rows tag l → l.bound.variable ≡ e.variable → AllOf rows line i rest → NotNamed tag rest
rest_apart rows line i e l tag [] apart il g n b a = tt
rest_apart rows line i e l tag (m ∷ rest) apart il g n b a = (
  (λ q. let p = a.0 in
      let same = same_bound rows tag m.0 l p.2 apart n p.5 q in
      let lt = line_below line 0 p.0 i p.1 e il p.4 g p.3 in
      let v : e.variable ≡ p.1.variable = sym b ∙ ap (λ (c : Bound). c.variable) same ∙ p.6 in
      absurd (omega arith)),
  rest_apart rows line i e l tag rest apart il g n b a.1,
)

own_apart : (rows : List Standing) (limits : Limits) (broken : Broken) (line : List Entry) (kept : IsKept rows limits broken line) (i : ℕ) (e : Entry) (l : Limit) (tag own : ℕ)
    → slice_get line i ≡ Some e → Names rows tag l → l.bound.variable ≡ e.variable → Within (other (blocking_of broken.side (value_of e.factor))) (kept.values e.variable) (bound_value l)
    → Names rows own broken.limit → tag ≢ own
own_apart rows limits broken line kept i e l tag own g n b w k q =
    let same = same_bound rows tag own l broken.limit kept.apart n k q in
    let given : IsLimit rows broken.side broken.variable broken.limit = given_some rows limits broken.side broken.variable broken.limit kept.given kept.breaks.limit in
    let v : e.variable ≡ broken.variable = sym b ∙ ap (λ (c : Bound). c.variable) same ∙ given.bounds in
    let o = kept.own i e g v in
    let value : bound_value l ≡ bound_value broken.limit = ap (λ (c : Bound). value_of c.value) same in
    let turn : other (blocking_of broken.side (value_of e.factor)) ≡ broken.side = ap other (blocking_one broken.side (value_of e.factor) o.0) ∙ other_other broken.side in
    not_both broken.side (combine kept.values line) (bound_value broken.limit)
    (subst (λ x. Within broken.side x (bound_value broken.limit)) (sym o.1)
    (subst (λ x. Within broken.side (kept.values e.variable) x) value (subst (λ s. Within s (kept.values e.variable) (bound_value l)) turn w)))
    kept.breaks.beyond

all_of_push : (rows : List Standing) (line : List Entry) (i : ℕ) (e : Entry) (l : Limit) (m : ℕ × Frac) (rest : List (ℕ × Frac)) → slice_get line i ≡ Some e → Names rows m.0 l
    → l.bound.variable ≡ e.variable → AllOf rows line i rest → AllOf rows line (i + 1) (rest ++ m ∷ [])
all_of_push rows line i e l m [] g n b a = ((i, e, l, omega arith, g, n, b), tt)
all_of_push rows line i e l m (k ∷ rest) g n b a =
    let p = a.0 in ((p.0, p.1, p.2, (let h = p.3 in omega arith), p.4, p.5, p.6), all_of_push rows line i e l m rest g n b a.1)

pub explained_step : (rows : List Standing) (limits : Limits) (broken : Broken) (line : List Entry) (kept : IsKept rows limits broken line) (i : ℕ) (found : List (ℕ × Frac)) (e : Entry) (l : Limit)
    (m : Frac) (tag : ℕ) → Explained rows limits broken line kept i found → slice_get line i ≡ Some e → limit_at limits (blocking_of broken.side (value_of e.factor)) e.variable ≡ Some l
    → Names rows tag l → value_of m *ℚ scale_of l.bound ≡ toward broken.side (value_of e.factor) → Explained rows limits broken line kept (i + 1) (found ++ (tag, m) ∷ [])
explained_step rows limits broken line kept i found e l m tag x g at names q =
    let side = broken.side in let f = value_of e.factor in let S = standing_of rows in
    let given : IsLimit rows (blocking_of side f) e.variable l = given_some rows limits (blocking_of side f) e.variable l kept.given at in
    let block = blocked_at limits side kept.values line i e kept.blocked g in
    let o : Some block.limit ≡ Some l = sym block.is ∙ at in
    let same : block.limit ≡ l = cc in
    let past : Within (other (blocking_of side f)) (kept.values e.variable) (bound_value l) = subst (λ (k : Limit). Within (other (blocking_of side f)) (kept.values e.variable) (bound_value k)) same block.past in
    let inside = slice_get_within line i e g in
    let here : get_or line i e ≡ e = get_or_from_slice_get line i e e g in
    let more = λ (y : Valuation). combine-more y line i e inside ∙ ap (λ (z : Entry). combine y (take i line) +ℚ value_of z.factor *ℚ y z.variable) here in
    record {
      own = x.own;
      rest = x.rest ++ (tag, m) ∷ [];
      is = ap (λ (ms : List (ℕ × Frac)). ms ++ (tag, m) ∷ []) x.is;
      own_names = x.own_names;
      of_entries = all_of_push rows line i e l (tag, m) x.rest g names given.bounds x.of_entries;
      total = x.total +ℚ f *ℚ bound_value l;
      within = subst (λ t. Within side t (x.total +ℚ f *ℚ bound_value l)) (sym (more kept.values))
          (within_sum side (combine kept.values (take i line)) x.total (f *ℚ kept.values e.variable) (f *ℚ bound_value l) x.within (blocked side f (kept.values e.variable) (bound_value l) past));
      sum = λ v.
          let y = form_values kept.forms v in
          let a = toward (other side) (whole (pos 1)) *ℚ (y broken.variable -ℚ bound_value broken.limit) in
          weighted-push v S found (tag, m)
          ∙ ap₂ (λ s t. s +ℚ t) (x.sum v) (named_level rows kept.forms (blocking_of side f) side e.variable l f (value_of m) tag v kept.apart kept.read given names q)
          ∙ solve (a ∷ toward side (combine y (take i line) -ℚ x.total) ∷ (toward side f *ℚ (y e.variable -ℚ bound_value l)) ∷ []) (var 0 ⊕ var 1 ⊕ var 2) (var 0 ⊕ (var 1 ⊕ var 2)) refl
          ∙ ap (λ t. a +ℚ t) (toward_more side (combine y (take i line)) x.total f (y e.variable) (bound_value l) ∙ ap (λ t. toward side (t -ℚ (x.total +ℚ f *ℚ bound_value l))) (sym (more y)));
      fair = fair-push S found (tag, m) x.fair (named_fair rows kept.forms (blocking_of side f) side e.variable l f (value_of m) tag kept.apart kept.read given names q refl);
      once = once-push found (tag, m) x.once
          (subst (NotNamed tag) (sym x.is) (
            own_apart rows limits broken line kept i e l tag x.own.0 g names given.bounds past x.own_names,
            rest_apart rows line i e l tag x.rest kept.apart kept.ascends g names given.bounds x.of_entries,
          ));
    }

pub explained_end : (rows : List Standing) (limits : Limits) (broken : Broken) (line : List Entry) (kept : IsKept rows limits broken line) (i : ℕ) (found : List (ℕ × Frac)) → length line ≤ i
    → Explained rows limits broken line kept i found → IsContradiction (standing_of rows) (multipliers_of found)
explained_end rows limits broken line kept i found h x =
    let all : take i line ≡ line = take_all i line h in
    record {
      fair = x.fair;
      once = x.once;
      gap = toward broken.side (bound_value broken.limit -ℚ x.total);
      above = gap_above broken.side (combine kept.values line) x.total (bound_value broken.limit) (subst (λ es. Within broken.side (combine kept.values es) x.total) all x.within) kept.breaks.beyond;
      sum = λ v.
          let y = form_values kept.forms v in
          x.sum v ∙ ap (λ es. toward (other broken.side) (whole (pos 1)) *ℚ (y broken.variable -ℚ bound_value broken.limit) +ℚ toward broken.side (combine y es -ℚ x.total)) all
          ∙ ap (λ t. toward (other broken.side) (whole (pos 1)) *ℚ (y broken.variable -ℚ bound_value broken.limit) +ℚ toward broken.side (t -ℚ x.total)) (sym (kept.sum v))
          ∙ toward_end broken.side (whole (pos 1)) (y broken.variable) (bound_value broken.limit) x.total refl;
    }

-- the row of a limit
pub limit_names : (rows : List Standing) (on : Side) (j : ℕ) (l : Limit) → (g : IsLimit rows on j l) → Names rows g.standing.tag l
limit_names rows on j l g = record { standing = g.standing; stands = g.stands; gives = g.gives; is = refl }

pub limit_divides : (rows : List Standing) (forms : List Parts) (on : Side) (j : ℕ) (l : Limit) → AllRead forms rows → IsLimit rows on j l → pos 0 <ℤ l.bound.divisor
limit_divides rows forms on j l r g = (limit_read rows forms on j l r g).divides

pub own_limit : (rows : List Standing) (limits : Limits) (broken : Broken) (line : List Entry) → IsKept rows limits broken line → IsLimit rows broken.side broken.variable broken.limit
own_limit rows limits broken line kept = given_some rows limits broken.side broken.variable broken.limit kept.given kept.breaks.limit
