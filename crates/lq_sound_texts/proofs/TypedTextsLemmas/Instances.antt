-- Of which names instances of qualifiers speak.
use Rattle.std.proofs.Common.{◌≡◌, ℕ, zero, suc, Bool, true, false, ◌||◌, if◌then◌else◌, cond, List, [], ◌∷◌, ◌++◌, map, filter, slice_get, Option, Some, None, refl}
use Rattle.std.specs.List.{flat_map}
use Rattle.lq_sound_values.proofs.InclusionLemmas.Truths.{same_symbol-refl}
use Rattle.lq_refined_instances.specs.Instances.{firsts, has_formula, instances_of, made_of, of_shape, replacements}
use Rattle.lq_refined_instances.specs.Made.{constant_by, instance_by, measure_by, operated, or_value, symbol_by, term_by}
use Rattle.lq_refined_instances.specs.Scopes.{Scope, scope_in, symbols_of}
use Rattle.lq_base_names.specs.declared.operation.ArithOp.{ArithOp}
use Rattle.lq_base_names.specs.declared.operation.ArithOp.TheVariants as op
use Rattle.lq_refined_types.specs.Parts.Flowing.{picked}
use Rattle.lq_refined_types.specs.Parts.Names.{AreOver, IsOver, IsSumOver}
use Rattle.lq_refined_types.specs.Parts.Substitution.{is_in}
use Rattle.lq_refined_templates.specs.Points.Templates.{scopes_of, unknowns_of}
use Rattle.lq_logic_predicates.specs.Formula.{Formula}
use Rattle.lq_logic_predicates.specs.Sum.{Sum, same_symbol}
use Rattle.lq_logic_predicates.specs.declared.symbol.Symbol.{Symbol}
use Rattle.lq_logic_predicates.specs.declared.symbol.Symbol.TheVariants.{Value}
use Rattle.lq_text_qualifiers.specs.Sorting.Sorted as sorted
use Rattle.lq_text_qualifiers.specs.Sorting.Sorted.{Predicate, Qualifier, Term, Variable}
use Rattle.lq_text_qualifiers.specs.Faults.Shapes.{Shape, is_same}
use Rattle.lq_refined_templates.specs.Templates.Scopes.{Unknown, symbols_in}
use Rattle.lq_sound_texts.specs.TypedTexts.Instances.{instances_for, InstancesAreScoped}

-- ---- symbols

-- each of the symbols is one of these
abbrev AreIn : List Symbol → List Symbol → Type 0
AreIn names [] = Unit {0}
AreIn names (x ∷ xs) = (is_in names x ≡ true) × AreIn names xs

either : (a b : Bool) → b ≡ true → (a || b) ≡ true
either true b h = refl
either false b h = h

or_left : (a b : Bool) → a ≡ true → (a || b) ≡ true
or_left true b h = refl
or_left false b h = cc

append_in : (names xs ys : List Symbol) → AreIn names xs → AreIn names ys → AreIn names (xs ++ ys)
append_in names [] ys a b = b
append_in names (x ∷ xs) ys a b = (a.0, append_in names xs ys a.1 b)

-- the symbols of a scope are among those of which its instances may speak
shown_in : (names : List Symbol) (Γ : Scope) → ((x : Symbol) → is_in (map (λ e. e.0) Γ) x ≡ true → is_in names x ≡ true) → (s : Shape)
    → AreIn names (symbols_of Γ s)
shown_in names [] within s = tt
shown_in names (e ∷ Γ) within s =
    by (is_same s e.1) (shown_in names Γ (λ x h. within x (either (same_symbol e.0 x) (is_in (map (λ d. d.0) Γ) x) h)) s)
  where
    by : (b : Bool) → AreIn names (symbols_of Γ s)
        → AreIn names (map (λ d. d.0) (if b then e ∷ filter (λ d. is_same s d.1) Γ else filter (λ d. is_same s d.1) Γ))
    by true rest = (within e.0 (or_left (same_symbol e.0 e.0) (is_in (map (λ d. d.0) Γ) e.0) (same_symbol-refl e.0)), rest)
    by false rest = rest

scope_in_names : (Γ : Scope) (s : Shape) → AreIn (symbols_in Γ) (symbols_of Γ s)
scope_in_names Γ s = shown_in (symbols_in Γ) Γ (λ x h. either (same_symbol Value x) (is_in (map (λ e. e.0) Γ) x) h) s

-- ---- replacements

-- each list of symbols is of these
abbrev AllIn : List Symbol → List (List Symbol) → Type 0
AllIn names [] = Unit {0}
AllIn names (xs ∷ xss) = AreIn names xs × AllIn names xss

append_all : (names : List Symbol) (xss yss : List (List Symbol)) → AllIn names xss → AllIn names yss → AllIn names (xss ++ yss)
append_all names [] yss a b = b
append_all names (xs ∷ xss) yss a b = (a.0, append_all names xss yss a.1 b)

before_all : (names : List Symbol) (x : Symbol) (xss : List (List Symbol)) → is_in names x ≡ true → AllIn names xss
    → AllIn names (map (λ xs. x ∷ xs) xss)
before_all names x [] h a = tt
before_all names x (xs ∷ xss) h a = ((h, a.0), before_all names x xss h a.1)

each_before : (names xs : List Symbol) (xss : List (List Symbol)) → AreIn names xs → AllIn names xss
    → AllIn names (flat_map (λ x. map (λ ys. x ∷ ys) xss) xs)
each_before names [] xss h a = tt
each_before names (x ∷ xs) xss h a =
    append_all names (map (λ ys. x ∷ ys) xss) (flat_map (λ y. map (λ ys. y ∷ ys) xss) xs) (before_all names x xss h.0 a)
    (each_before names xs xss h.1 a)

replaced : (Γ : Scope) (ss : List Shape) → AllIn (symbols_in Γ) (replacements Γ ss)
replaced Γ [] = (tt, tt)
replaced Γ (s ∷ ss) = each_before (symbols_in Γ) (symbols_of Γ s) (replacements Γ ss) (scope_in_names Γ s) (replaced Γ ss)

-- ---- instances

module _ (Γ : Scope) (ms : List ℕ) where
  abbrev names : List Symbol
  names = symbols_in Γ

  placed : (xs : List Symbol) (n : ℕ) → AreIn names xs → is_in names (or_value (slice_get xs n)) ≡ true
  placed [] n h = refl
  placed (x ∷ xs) zero h = h.0
  placed (x ∷ xs) (suc n) h = placed xs n h.1

  symbol_over : (xs : List Symbol) → AreIn names xs → (v : Variable) → is_in names (symbol_by xs v) ≡ true
  symbol_over xs h sorted.value = refl
  symbol_over xs h (sorted.field_at n) = refl
  symbol_over xs h (sorted.placeholder_at n) = placed xs n h

  measured_over : (o : Option ℕ) (x : Symbol) → is_in names x ≡ true → IsSumOver names (measure_by o x)
  measured_over (Some f) x h = h
  measured_over None x h = tt

  operated_over : (o : ArithOp) (a b : Sum) → IsSumOver names a → IsSumOver names b → IsSumOver names (operated o a b)
  operated_over op.Add a b h k = (h, k)
  operated_over op.Sub a b h k = (h, k)
  operated_over op.Mul a b h k = (h, k)
  operated_over op.Div a b h k = (h, k)
  operated_over op.Mod a b h k = (h, k)

  term_over : (xs : List Symbol) → AreIn names xs → (t : Term) → IsSumOver names (term_by ms xs t)
  term_over xs h (sorted.literal n) = tt
  term_over xs h (sorted.variable v) = symbol_over xs h v
  term_over xs h (sorted.length_of v) = symbol_over xs h v
  term_over xs h (sorted.measured n v) = measured_over (slice_get ms n) (symbol_by xs v) (symbol_over xs h v)
  term_over xs h (sorted.operation o a b) = operated_over o (term_by ms xs a) (term_by ms xs b) (term_over xs h a) (term_over xs h b)
  term_over xs h (sorted.negative a) = term_over xs h a

  constant_over : (b : Bool) → IsOver names (constant_by b)
  constant_over true = tt
  constant_over false = tt

  instance_over : (xs : List Symbol) → AreIn names xs → (p : Predicate) → IsOver names (instance_by ms xs p)
  instance_over xs h (sorted.constant b) = constant_over b
  instance_over xs h (sorted.holds v) = symbol_over xs h v
  instance_over xs h (sorted.comparison o a b) = (term_over xs h a, term_over xs h b)
  instance_over xs h (sorted.negation p) = instance_over xs h p
  instance_over xs h (sorted.conjunction p q) = (instance_over xs h p, instance_over xs h q)
  instance_over xs h (sorted.disjunction p q) = (instance_over xs h p, instance_over xs h q)
  instance_over xs h (sorted.equivalence p q) = (instance_over xs h p, instance_over xs h q)

  append_over : (ps qs : List Formula) → AreOver names ps → AreOver names qs → AreOver names (ps ++ qs)
  append_over [] qs a b = b
  append_over (p ∷ ps) qs a b = (a.0, append_over ps qs a.1 b)

  each_over : (p : Predicate) (xss : List (List Symbol)) → AllIn names xss → AreOver names (map (λ xs. instance_by ms xs p) xss)
  each_over p [] h = tt
  each_over p (xs ∷ xss) h = (instance_over xs h.0 p, each_over p xss h.1)

  made_over : (qs : List Qualifier) → AreOver names (flat_map (made_of ms Γ) qs)
  made_over [] = tt
  made_over (q ∷ qs) =
      append_over (made_of ms Γ q) (flat_map (made_of ms Γ) qs) (each_over q.predicate (replacements Γ q.placeholders) (replaced Γ q.placeholders))
      (made_over qs)

  firsts_over : (before ps : List Formula) → AreOver names ps → AreOver names (firsts before ps)
  firsts_over before [] h = tt
  firsts_over before (p ∷ ps) h = by (has_formula before p) (λ bs. firsts_over bs ps h.1)
    where
      by : (b : Bool) → ((bs : List Formula) → AreOver names (firsts bs ps))
          → AreOver names (if b then firsts before ps else p ∷ firsts (before ++ p ∷ []) ps)
      by true rest = rest before
      by false rest = (h.0, rest (before ++ p ∷ []))

  instances_over : (qs : List Qualifier) (s : Shape) → AreOver names (instances_of ms qs Γ s)
  instances_over qs s = firsts_over [] (flat_map (made_of ms Γ) (of_shape qs s)) (made_over (of_shape qs s))

picked_over : (scope : List Symbol) (f : ℕ → Bool) (k : ℕ) (ps : List Formula) → AreOver scope ps → AreOver scope (picked f k ps)
picked_over scope f k [] h = tt
picked_over scope f k (p ∷ ps) h = by (f k) (picked_over scope f (suc k) ps h.1)
  where
    by : (b : Bool) → AreOver scope (picked f (suc k) ps) → AreOver scope (cond b (p ∷ picked f (suc k) ps) (picked f (suc k) ps))
    by true rest = (h.0, rest)
    by false rest = rest

all_over : (ms : List ℕ) (qs : List Qualifier) (us : List Unknown) (u : ℕ) → AreOver (symbols_in (scope_in (scopes_of us) u)) (instances_for ms qs us u)
all_over ms qs [] u = tt
all_over ms qs (x ∷ us) zero = instances_over x.0 ms qs x.1
all_over ms qs (x ∷ us) (suc u) = all_over ms qs us u

pub instances_scoped : InstancesAreScoped
instances_scoped D ps ms qs c u =
    picked_over (symbols_in (scope_in (scopes_of (unknowns_of D ps)) u)) (c u) 0 (instances_for ms qs (unknowns_of D ps) u)
    (all_over ms qs (unknowns_of D ps) u)
