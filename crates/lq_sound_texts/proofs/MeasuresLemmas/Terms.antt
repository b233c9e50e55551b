-- Terms of measures speak of fields of the shapes that their places ask for.
use Rattle.std.proofs.Common.{◌≡◌, ◌∙◌, ℕ, zero, suc, ◌<◌, Bool, true, false, List, [], Option, Some, None, slice_get, if◌then◌else◌, sym, ap, subst, arith}
use Rattle.std.specs.Prelude.{◌==◌}
use Rattle.lq_sound_scope.specs.Scopes.Over.{IsWithin, kind_of}
use Rattle.lq_sound_scope.proofs.ScopesLemmas.Assigned.{sum_within}
use Rattle.lq_sound_scope.proofs.ScopesLemmas.Symbols.{own_one, within_one}
use Rattle.lq_sound_values.specs.Inclusion.Symbols.{Symbols, SumOn}
use Rattle.lq_refined_measures.specs.Equations.Facts.{field_by, operated, measured_by, or_zero, with_fields}
use Rattle.lq_refined_measures.specs.Values.Reading.{AsksBelow, IsBelow}
use Rattle.lq_base_names.specs.declared.operation.ArithOp.{ArithOp}
use Rattle.lq_base_names.specs.declared.operation.ArithOp.TheVariants as op
use Rattle.lq_logic_predicates.specs.Sum.{Sum}
use Rattle.lq_logic_predicates.specs.declared.symbol.Symbol.{Symbol}
use Rattle.lq_logic_predicates.specs.declared.symbol.Symbol.TheVariants.{Position, Value}
use Rattle.lq_refined_types.specs.Types.Refined.{Kind, number, truth_value, object, other}
use Rattle.lq_sound_values.specs.Runs.Closed.{with_value}
use Rattle.lq_sound_scope.specs.Scalars.Data.{measured_from, with_measured}
use Rattle.lq_sound_programs.specs.Scenes.Scenes.{positions_from}
use Rattle.lq_text_qualifiers.specs.Sorting.Making as making
use Rattle.lq_text_qualifiers.specs.Sorting.Making.{fields_from}
use Rattle.lq_text_qualifiers.specs.Sorting.Rules.{NameIs, TermIs}
use Rattle.lq_text_qualifiers.specs.Sorting.Sorted.{Variable, value, field_at, placeholder_at, Term, literal, variable, length_of, measured, operation, negative}
use Rattle.lq_text_qualifiers.specs.Faults.Equations as equations
use Rattle.lq_text_qualifiers.specs.Faults.Lookups.{first_in, or_else}
use Rattle.lq_text_qualifiers.specs.Faults.Predicates as sorts
use Rattle.lq_text_qualifiers.specs.Faults.Predicates.{form_of}
use Rattle.lq_text_qualifiers.specs.Faults.Shapes as shape
use Rattle.lq_text_qualifiers.specs.Faults.Shapes.{Shape, int, bool, array, data_of, shape_of}
use Rattle.lq_text_tree.specs.MlType.{MlTypes, no_types, more_types}
use Rattle.lq_text_tree.specs.Pattern.{pattern, any, bind, nothing, tuple_of, build_of, Patterns, no_patterns, more_patterns}
use Rattle.lq_text_tree.specs.PredTree.{PredTree, PredForm, flag, whole, use_of, placeholder, applied, qualified, arithmetic, negated, compare, not_of, and_of, or_of, iff}
use Rattle.lq_text_tree.specs.Types.{count_types, type_at}
use Rattle.lq_sound_texts.proofs.MeasuresLemmas.Lists.{same_some}

-- a number or an object
abbrev pub IsCounted : Shape → Type 0
IsCounted int = Unit {0}
IsCounted bool = ⊥
IsCounted array = Unit {0}
IsCounted (data_of d) = Unit {0}
IsCounted shape.other = ⊥

-- so is a value of the kind
abbrev pub IsCountedKind : Kind → Type 0
IsCountedKind number = Unit {0}
IsCountedKind truth_value = ⊥
IsCountedKind object = Unit {0}
IsCountedKind other = ⊥

-- a variable is a field of the kind
abbrev pub SuitsVariable : MlTypes → Kind → Variable → Type 0
SuitsVariable fs k value = ⊥
SuitsVariable fs k (field_at n) = kind_of (shape_of (type_at fs n)) ≡ k
SuitsVariable fs k (placeholder_at n) = ⊥

abbrev pub Suits : MlTypes → Term → Type 0
Suits fs (literal n) = Unit {0}
Suits fs (variable x) = SuitsVariable fs number x
Suits fs (length_of x) = SuitsVariable fs object x
Suits fs (measured n x) = SuitsVariable fs object x
Suits fs (operation o a b) = Suits fs a × Suits fs b
Suits fs (negative a) = Suits fs a

-- ---- names of fields

abbrev IsFieldOf : MlTypes → Variable → Shape → Type 0
IsFieldOf ts v g = (i : ℕ) × (v ≡ field_at i) × (g ≡ shape_of (type_at ts i))

field_named : (n : ℕ) (ts : MlTypes) (ps : Patterns) (x : ℕ) (g : Shape) (v : Variable) → first_in (equations.fields_in n ts ps) x ≡ Some g
    → first_in (fields_from n ps) x ≡ Some v → IsFieldOf ts v g
field_named n ts no_patterns x g v h k = absurd (let w = h in cc)
field_named n ts (more_patterns (pattern p any) ps) x g v h k = field_named (suc n) ts ps x g v h k
field_named n ts (more_patterns (pattern p nothing) ps) x g v h k = field_named (suc n) ts ps x g v h k
field_named n ts (more_patterns (pattern p (tuple_of qs)) ps) x g v h k = field_named (suc n) ts ps x g v h k
field_named n ts (more_patterns (pattern p (build_of c q qs)) ps) x g v h k = field_named (suc n) ts ps x g v h k
field_named n ts (more_patterns (pattern p (bind y)) ps) x g v h k = by (y == x) h k (λ a b. field_named (suc n) ts ps x g v a b)
  where
    by : (b : Bool) → or_else (if b then Some (shape_of (type_at ts n)) else None) (first_in (equations.fields_in (suc n) ts ps) x) ≡ Some g
        → or_else (if b then Some (field_at n) else None) (first_in (fields_from (suc n) ps) x) ≡ Some v
        → (first_in (equations.fields_in (suc n) ts ps) x ≡ Some g → first_in (fields_from (suc n) ps) x ≡ Some v → IsFieldOf ts v g) → IsFieldOf ts v g
    by true h k later = (n, sym (same_some (field_at n) v k), sym (same_some (shape_of (type_at ts n)) g h))
    by false h k later = later h k

module _ (fs : MlTypes) (qs : Patterns) (a : sorts.Setting) (s : making.Setting) (shapes : (x : ℕ) → a.variables x ≡ first_in (equations.fields_in 0 fs qs) x)
    (meanings : (x : ℕ) → s.variables x ≡ first_in (fields_from 0 qs) x) where
  suits_field : (v : Variable) (g : Shape) → IsFieldOf fs v g → SuitsVariable fs (kind_of g) v
  suits_field v g (i, e, f) = subst (SuitsVariable fs (kind_of g)) (sym e) (ap kind_of (sym f))

  name_suits : (g : Shape) (f : PredForm) (v : Variable) → NameIs a s [] g f v → SuitsVariable fs (kind_of g) v
  name_suits g (use_of x) v h = suits_field v g (field_named 0 fs qs x g v (sym (shapes x) ∙ h.1) (sym (meanings x) ∙ h.0))
  name_suits g (placeholder x) v (n, e, i) = absurd (let w = i in cc)
  name_suits g (flag b) v h = absurd h
  name_suits g (whole n) v h = absurd h
  name_suits g (applied m e) v h = absurd h
  name_suits g (qualified m x e) v h = absurd h
  name_suits g (arithmetic o d e) v h = absurd h
  name_suits g (negated e) v h = absurd h
  name_suits g (compare o d e) v h = absurd h
  name_suits g (not_of e) v h = absurd h
  name_suits g (and_of d e) v h = absurd h
  name_suits g (or_of d e) v h = absurd h
  name_suits g (iff d e) v h = absurd h

  pub term_suits : (t : PredTree) (m : Term) → TermIs a s [] t m → Suits fs m
  term_suits t (literal n) h = tt
  term_suits t (variable v) h = name_suits int (form_of t) v h
  term_suits t (length_of v) (m, x, e, _, _, is) = name_suits array (form_of e) v is
  term_suits t (measured n v) (m, d, e, _, _, is) = name_suits (data_of d) (form_of e) v is
  term_suits t (operation o b c) (d, e, _, h, k) = (term_suits d b h, term_suits e c k)
  term_suits t (negative b) (d, _, h) = term_suits d b h

-- ---- such terms ask of fields that are there

counted : (s : Shape) (k : Kind) → IsCountedKind k → kind_of s ≡ k → IsCounted s
counted int k c e = tt
counted bool k c e = absurd (subst IsCountedKind (sym e) c)
counted array k c e = tt
counted (data_of d) k c e = tt
counted shape.other k c e = absurd (subst IsCountedKind (sym e) c)

counted_below : (fs : MlTypes) (n : ℕ) → IsCounted (shape_of (type_at fs n)) → n < count_types fs
counted_below no_types n h = absurd h
counted_below (more_types f fs) zero h = omega arith
counted_below (more_types f fs) (suc n) h = let l : n < count_types fs = counted_below fs n h in omega (arith, l)

variable_below : (fs : MlTypes) (k : Kind) (x : Variable) → IsCountedKind k → SuitsVariable fs k x → IsBelow (count_types fs) x
variable_below fs k value c h = absurd h
variable_below fs k (field_at n) c h = counted_below fs n (counted (shape_of (type_at fs n)) k c h)
variable_below fs k (placeholder_at n) c h = absurd h

pub term_below : (fs : MlTypes) (t : Term) → Suits fs t → AsksBelow (count_types fs) t
term_below fs (literal n) h = tt
term_below fs (variable x) h = variable_below fs number x tt h
term_below fs (length_of x) h = variable_below fs object x tt h
term_below fs (measured n x) h = variable_below fs object x tt h
term_below fs (operation o a b) h = (term_below fs a h.0, term_below fs b h.1)
term_below fs (negative a) h = term_below fs a h

-- ---- and speak of them

own_measured : (s : Shape) (N : Symbols) (x : Symbol) → IsCounted s → with_measured s N x x ≡ true
own_measured int N x h = own_one N x
own_measured bool N x h = absurd h
own_measured array N x h = own_one N x
own_measured (data_of d) N x h = own_one N x
own_measured shape.other N x h = absurd h

within_measured : (s : Shape) (N : Symbols) (x : Symbol) → IsWithin N (with_measured s N x)
within_measured int N x = within_one N x
within_measured bool N x = λ y h. h
within_measured array N x = within_one N x
within_measured (data_of d) N x = within_one N x
within_measured shape.other N x = λ y h. h

field_on : (j : ℕ) (fs : MlTypes) (n : ℕ) → IsCounted (shape_of (type_at fs n))
    → SumOn (measured_from j fs) (or_zero (slice_get (positions_from j (count_types fs)) n))
field_on j no_types n h = absurd h
field_on j (more_types f fs) zero h = own_measured (shape_of f) (measured_from (suc j) fs) (Position (suc j)) h
field_on j (more_types f fs) (suc n) h =
    sum_within (measured_from (suc j) fs) (measured_from j (more_types f fs)) (within_measured (shape_of f) (measured_from (suc j) fs) (Position (suc j)))
    (or_zero (slice_get (positions_from (suc j) (count_types fs)) n)) (field_on (suc j) fs n h)

variable_on : (fs : MlTypes) (k : Kind) (x : Variable) → IsCountedKind k → SuitsVariable fs k x
    → SumOn (with_value (measured_from 0 fs)) (field_by (positions_from 0 (count_types fs)) x)
variable_on fs k value c h = absurd h
variable_on fs k (field_at n) c h =
    sum_within (measured_from 0 fs) (with_value (measured_from 0 fs)) (within_one (measured_from 0 fs) Value)
    (or_zero (slice_get (positions_from 0 (count_types fs)) n)) (field_on 0 fs n (counted (shape_of (type_at fs n)) k c h))
variable_on fs k (placeholder_at n) c h = absurd h

measure_on : (N : Symbols) (o : Option ℕ) (s : Sum) → SumOn N s → SumOn N (measured_by o s)
measure_on N None s h = tt
measure_on N (Some f) s h = h

operated_on : (N : Symbols) (o : ArithOp) (a b : Sum) → SumOn N a → SumOn N b → SumOn N (operated o a b)
operated_on N op.Add a b h k = (h, k)
operated_on N op.Sub a b h k = (h, k)
operated_on N op.Mul a b h k = (h, k)
operated_on N op.Div a b h k = (h, k)
operated_on N op.Mod a b h k = (h, k)

pub term_on : (names : List ℕ) (fs : MlTypes) (t : Term) → Suits fs t
    → SumOn (with_value (measured_from 0 fs)) (with_fields names (positions_from 0 (count_types fs)) t)
term_on names fs (literal n) h = tt
term_on names fs (variable x) h = variable_on fs number x tt h
term_on names fs (length_of x) h = variable_on fs object x tt h
term_on names fs (measured n x) h =
    measure_on (with_value (measured_from 0 fs)) (slice_get names n) (field_by (positions_from 0 (count_types fs)) x) (variable_on fs object x tt h)
term_on names fs (operation o a b) h =
    let xs = positions_from 0 (count_types fs) in
    operated_on (with_value (measured_from 0 fs)) o (with_fields names xs a) (with_fields names xs b) (term_on names fs a h.0) (term_on names fs b h.1)
term_on names fs (negative a) h = term_on names fs a h
