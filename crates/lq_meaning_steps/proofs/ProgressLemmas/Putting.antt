-- Types in the place of variables: one after another, and in what rules of types say.
use Rattle.std.proofs.Common.{◌≡◌, ℕ, zero, suc, Bool, true, false, ◌==◌, if◌then◌else◌, List, [], ◌∷◌, ◌++◌, Option, Some, refl, ap, ap₂, ◌∙◌}
use Rattle.lq_text_tree.specs.MlType as ml
use Rattle.lq_text_tree.specs.MlType.{MlType, MlTypes}
use Rattle.lq_meaning_steps.specs.Model.Core.{Operation, negate, invert, assert, length_of, print, read, Binary, arithmetic, comparison, make, fetch, Ternary, store, Row, tuple, build, list_of}
use Rattle.lq_text_tree.specs.Types.{put, put_all, type_at, count_types, AreAll, Signature, Scheme, plain, general, Fixes, IsInstance, Names, scheme_in, IsUsedAt}
use Rattle.lq_meaning_steps.specs.Progress.Typing.{UnaryHas, BinaryHas, TernaryHas, RowHas}
use Rattle.lq_text_tree.specs.TypingRules.{IsWithin, AreWithin, Covers}

mutual
  pub put-put : (a : MlType) (first next : ℕ → MlType) → put next (put first a) ≡ put (λ i. put next (first i)) a
  put-put ml.int first next = refl
  put-put ml.bool first next = refl
  put-put ml.unit first next = refl
  put-put (ml.var i) first next = refl
  put-put (ml.arrow a b) first next = ap₂ ml.arrow (put-put a first next) (put-put b first next)
  put-put (ml.tuple ts) first next = ap ml.tuple (put_all-put ts first next)
  put-put (ml.array a) first next = ap ml.array (put-put a first next)
  put-put (ml.named d ts) first next = ap (ml.named d) (put_all-put ts first next)
  put-put (ml.map_of a) first next = ap ml.map_of (put-put a first next)

  pub put_all-put : (ts : MlTypes) (first next : ℕ → MlType) → put_all next (put_all first ts) ≡ put_all (λ i. put next (first i)) ts
  put_all-put ml.no_types first next = refl
  put_all-put (ml.more_types t ts) first next = ap₂ ml.more_types (put-put t first next) (put_all-put ts first next)

mutual
  pub put-same : (a : MlType) (by to : ℕ → MlType) → ((i : ℕ) → by i ≡ to i) → put by a ≡ put to a
  put-same ml.int by to h = refl
  put-same ml.bool by to h = refl
  put-same ml.unit by to h = refl
  put-same (ml.var i) by to h = h i
  put-same (ml.arrow a b) by to h = ap₂ ml.arrow (put-same a by to h) (put-same b by to h)
  put-same (ml.tuple ts) by to h = ap ml.tuple (put_all-same ts by to h)
  put-same (ml.array a) by to h = ap ml.array (put-same a by to h)
  put-same (ml.named d ts) by to h = ap (ml.named d) (put_all-same ts by to h)
  put-same (ml.map_of a) by to h = ap ml.map_of (put-same a by to h)

  pub put_all-same : (ts : MlTypes) (by to : ℕ → MlType) → ((i : ℕ) → by i ≡ to i) → put_all by ts ≡ put_all to ts
  put_all-same ml.no_types by to h = refl
  put_all-same (ml.more_types t ts) by to h = ap₂ ml.more_types (put-same t by to h) (put_all-same ts by to h)

put-type_at : (ts : MlTypes) (by : ℕ → MlType) (i : ℕ) → put by (type_at ts i) ≡ type_at (put_all by ts) i
put-type_at ml.no_types by i = refl
put-type_at (ml.more_types t ts) by zero = refl
put-type_at (ml.more_types t ts) by (suc i) = put-type_at ts by i

put-count : (ts : MlTypes) (by : ℕ → MlType) → count_types (put_all by ts) ≡ count_types ts
put-count ml.no_types by = refl
put-count (ml.more_types t ts) by = ap suc (put-count ts by)

-- what is fixed stays
mutual
  pub put-fixed : (a : MlType) (fixed : List ℕ) (by : ℕ → MlType) → Fixes fixed by → IsWithin fixed a → put by a ≡ a
  put-fixed ml.int fixed by k h = refl
  put-fixed ml.bool fixed by k h = refl
  put-fixed ml.unit fixed by k h = refl
  put-fixed (ml.var i) fixed by k h = k i h
  put-fixed (ml.arrow a b) fixed by k h = ap₂ ml.arrow (put-fixed a fixed by k h.0) (put-fixed b fixed by k h.1)
  put-fixed (ml.tuple ts) fixed by k h = ap ml.tuple (put_all-fixed ts fixed by k h)
  put-fixed (ml.array a) fixed by k h = ap ml.array (put-fixed a fixed by k h)
  put-fixed (ml.named d ts) fixed by k h = ap (ml.named d) (put_all-fixed ts fixed by k h)
  put-fixed (ml.map_of a) fixed by k h = ap ml.map_of (put-fixed a fixed by k h)

  put_all-fixed : (ts : MlTypes) (fixed : List ℕ) (by : ℕ → MlType) → Fixes fixed by → AreWithin fixed ts → put_all by ts ≡ ts
  put_all-fixed ml.no_types fixed by k h = refl
  put_all-fixed (ml.more_types t ts) fixed by k h = ap₂ ml.more_types (put-fixed t fixed by k h.0) (put_all-fixed ts fixed by k h.1)

-- ---- operations and rows

pub put-unary : (o : Operation) (a t : MlType) (by : ℕ → MlType) → UnaryHas o a t → UnaryHas o (put by a) (put by t)
put-unary negate a t by h = (ap (put by) h.0, ap (put by) h.1)
put-unary invert a t by h = (ap (put by) h.0, ap (put by) h.1)
put-unary (assert p) a t by h = (ap (put by) h.0, ap (put by) h.1)
put-unary length_of a t by h = (put by h.0, ap (put by) h.1, ap (put by) h.2)
put-unary print a t by h = (ap (put by) h.0, ap (put by) h.1)
put-unary (read p) a t by h = (ap (put by) h.0, ap (put by) h.1)

pub put-binary : (o : Binary) (a b t : MlType) (by : ℕ → MlType) → BinaryHas o a b t → BinaryHas o (put by a) (put by b) (put by t)
put-binary (arithmetic o) a b t by h = (ap (put by) h.0, ap (put by) h.1, ap (put by) h.2)
put-binary (comparison o) a b t by h = (ap (put by) h.0, ap (put by) h.1, ap (put by) h.2)
put-binary (make p) a b t by h = (ap (put by) h.0, ap (put by) h.1)
put-binary (fetch p) a b t by h = (ap (put by) h.0, ap (put by) h.1)

pub put-ternary : (o : Ternary) (a b c t : MlType) (by : ℕ → MlType) → TernaryHas o a b c t → TernaryHas o (put by a) (put by b) (put by c) (put by t)
put-ternary (store p) a b c t by h = (ap (put by) h.0, ap (put by) h.1, ap (put by) h.2)

put-are_all : (a : MlType) (ts : MlTypes) (by : ℕ → MlType) → AreAll a ts → AreAll (put by a) (put_all by ts)
put-are_all a ml.no_types by h = tt
put-are_all a (ml.more_types t ts) by h = (ap (put by) h.0, put-are_all a ts by h.1)

pub put-row : (g : Signature) (r : Row) (ts : MlTypes) (a : MlType) (by : ℕ → MlType) → RowHas g r ts a → RowHas g r (put_all by ts) (put by a)
put-row g tuple ts a by h = ap (put by) h
put-row g (build c) ts a by h = (
  h.0,
  put_all by h.1,
  h.2,
  ap (put by) h.3,
  ap (put_all by) h.4 ∙ put_all-put (h.0).fields (type_at h.1) by ∙ put_all-same (h.0).fields (λ i. put by (type_at h.1 i)) (type_at (put_all by h.1)) (put-type_at h.1 by),
  put-count h.1 by ∙ h.5,
)
put-row g list_of ts a by h = (put by h.0, ap (put by) h.1, put-are_all h.0 ts by h.2)

-- ---- names

-- one type for each name has types put in; a scheme stays
abbrev pub put_scheme : (ℕ → MlType) → Scheme → Scheme
put_scheme by (plain a) = plain (put by a)
put_scheme by (general fixed a) = general fixed a

abbrev pub put_names : (ℕ → MlType) → Names → Names
put_names by [] = []
put_names by (n ∷ ns) = (n.0, put_scheme by n.1) ∷ put_names by ns

pub put_names-append : (ns ms : Names) (by : ℕ → MlType) → put_names by (ns ++ ms) ≡ put_names by ns ++ put_names by ms
put_names-append [] ms by = refl
put_names-append (n ∷ ns) ms by = ap (λ l. (n.0, put_scheme by n.1) ∷ l) (put_names-append ns ms by)

-- what the schemes have fixed is fixed
abbrev pub FixesFor : (ℕ → MlType) → Scheme → Type 0
FixesFor by (plain a) = Unit {0}
FixesFor by (general fixed a) = Fixes fixed by

abbrev pub FixesAll : (ℕ → MlType) → Names → Type 0
FixesAll by [] = Unit {0}
FixesAll by (n ∷ ns) = FixesFor by n.1 × FixesAll by ns

pub put-instance : (s : Scheme) (a : MlType) (by : ℕ → MlType) → FixesFor by s → IsInstance s a → IsInstance (put_scheme by s) (put by a)
put-instance (plain b) a by k h = ap (put by) h
put-instance (general fixed b) a by k h =
    ((λ i. put by (h.0 i)), (λ i j. ap (put by) (h.1 i j) ∙ k i j), ap (put by) h.2 ∙ put-put b h.0 by)

used_first : (b : Bool) (s : Scheme) (o r : Option Scheme) (a : MlType) (by : ℕ → MlType) → FixesFor by s → (IsUsedAt o a → IsUsedAt r (put by a)) → IsUsedAt (if b then Some s else o) a
    → IsUsedAt (if b then Some (put_scheme by s) else r) (put by a)
used_first true s o r a by k go h = put-instance s a by k h
used_first false s o r a by k go h = go h

pub put-use : (ns : Names) (x : ℕ) (a : MlType) (by : ℕ → MlType) → FixesAll by ns → IsUsedAt (scheme_in ns x) a → IsUsedAt (scheme_in (put_names by ns) x) (put by a)
put-use [] x a by k h = h
put-use (n ∷ ns) x a by k h =
    used_first (n.0 == x) n.1 (scheme_in ns x) (scheme_in (put_names by ns) x) a by k.0 (λ j. put-use ns x a by k.1 j) h

-- each variable in its own place
mutual
  pub put-var : (a : MlType) → put ml.var a ≡ a
  put-var ml.int = refl
  put-var ml.bool = refl
  put-var ml.unit = refl
  put-var (ml.var i) = refl
  put-var (ml.arrow a b) = ap₂ ml.arrow (put-var a) (put-var b)
  put-var (ml.tuple ts) = ap ml.tuple (put_all-var ts)
  put-var (ml.array a) = ap ml.array (put-var a)
  put-var (ml.named d ts) = ap (ml.named d) (put_all-var ts)
  put-var (ml.map_of a) = ap ml.map_of (put-var a)

  put_all-var : (ts : MlTypes) → put_all ml.var ts ≡ ts
  put_all-var ml.no_types = refl
  put_all-var (ml.more_types t ts) = ap₂ ml.more_types (put-var t) (put_all-var ts)

scheme-var : (s : Scheme) → put_scheme ml.var s ≡ s
scheme-var (plain a) = ap plain (put-var a)
scheme-var (general fixed a) = refl

pub names-var : (ns : Names) → put_names ml.var ns ≡ ns
names-var [] = refl
names-var (n ∷ ns) = ap₂ (λ s l. (n.0, s) ∷ l) (scheme-var n.1) (names-var ns)

scheme_fixes-var : (s : Scheme) → FixesFor ml.var s
scheme_fixes-var (plain a) = tt
scheme_fixes-var (general fixed a) = λ i h. refl

pub fixes-var : (ns : Names) → FixesAll ml.var ns
fixes-var [] = tt
fixes-var (n ∷ ns) = (scheme_fixes-var n.1, fixes-var ns)

-- under a scheme that covers the names, they stay, and all that they have fixed is fixed
pub covered_stay : (ns : Names) (fixed : List ℕ) (by : ℕ → MlType) → Fixes fixed by → Covers fixed ns → put_names by ns ≡ ns
covered_stay [] fixed by k h = refl
covered_stay ((x, plain a) ∷ ns) fixed by k h = ap₂ (λ b l. (x, plain b) ∷ l) (put-fixed a fixed by k h.0) (covered_stay ns fixed by k h.1)
covered_stay ((x, general earlier a) ∷ ns) fixed by k h = ap (λ l. (x, general earlier a) ∷ l) (covered_stay ns fixed by k h.1)

pub covered_fix : (ns : Names) (fixed : List ℕ) (by : ℕ → MlType) → Fixes fixed by → Covers fixed ns → FixesAll by ns
covered_fix [] fixed by k h = tt
covered_fix ((x, plain a) ∷ ns) fixed by k h = (tt, covered_fix ns fixed by k h.1)
covered_fix ((x, general earlier a) ∷ ns) fixed by k h = ((λ i j. k i (h.0 i j)), covered_fix ns fixed by k h.1)
