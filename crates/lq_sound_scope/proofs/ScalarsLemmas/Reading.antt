-- What is read of scalar programs is written as their templates name it.
use Rattle.std.proofs.Common.{◌≡◌, ◌⊎◌, inl, inr, ℕ, suc, ◌+◌, arith, Bool, true, false, cond, List, [], ◌∷◌, ◌++◌, length, Option, None, Some, refl, sym, ap, ap₂, subst}
use Rattle.lq_refined_rules.specs.Checks.Basis.{Basis}
use Rattle.lq_refined_rules.specs.Checks.Ready.{Where}
use Rattle.lq_refined_rules.specs.Checks.Tree as t
use Rattle.lq_refined_rules.specs.Checks.Tree.{has_template, last_operation, names_of}
use Rattle.lq_refined_instances.specs.Scopes.{Scope}
use Rattle.lq_base_names.specs.declared.operation.ArithOp.{ArithOp}
use Rattle.lq_base_names.specs.declared.place.Place.{Place}
use Rattle.lq_refined_templates.specs.Points.Annotation.{Annotation, argument_name, arguments_at, element_type, type_of_form}
use Rattle.lq_refined_templates.specs.Points.Point.{Point, each, idled, simple_types, whole}
use Rattle.lq_refined_templates.specs.Points.Pure.{Read, after, arithmetic_of, pure_of, pures_of, use_with, variable_of}
use Rattle.lq_refined_templates.specs.Points.Reading as reading
use Rattle.lq_refined_templates.specs.Points.Reading.{all_idled, arms_of, block_of, built, defined, expecting, is_checked, item, own_point, program_from, program_of, written_names}
use Rattle.lq_refined_templates.specs.Points.Seen.{Seen, all_seen, seen, seen_until, scope_at}
use Rattle.lq_refined_templates.specs.Points.Templates.{Datatypes, all_plain, basis_of, made_at, plain, templates_at, templates_from}
use Rattle.lq_sound_readiness.specs.Reading.Normal.{is_name, ArePure, no_pure, more_pure, AreArms, no_arms, more_arms, IsPure, pure_whole, pure_flag, pure_unit, pure_use, pure_arithmetic, pure_negated, pure_compare, pure_not, pure_and, pure_or, pure_length, IsRing, ring_add, ring_subtract, ring_multiply, IsUse, is_use, IsBlock, block_let, block_let_rec, block_operation, IsOperation, is_pure, is_fun, is_if, is_match, is_tuple, is_build, is_call, is_quotient, is_remainder, is_assert, is_assert_false, is_make, is_fetch, is_store, is_print, is_read, IsItem, item_type, item_name, item_any, item_unit, item_function, AreNormal}
use Rattle.lq_sound_values.specs.NewNames.NewNames.{HaveNoNames}
use Rattle.lq_sound_forms.specs.Pures.Pures.{EachUse}
use Rattle.lq_refined_types.specs.Types.Refined.{Refined, Refineds, erased, all_erased}
use Rattle.lq_text_walk.specs.Scoped.Numbers.{number_of}
use Rattle.lq_refined_types.specs.Subtyping.Splitting.{first_of}
use Rattle.lq_refined_templates.specs.Templates.Fresh.{fresh}
use Rattle.lq_refined_templates.specs.Templates.Laws.{TemplatesErase}
use Rattle.lq_text_tree.specs.Items.{ItemTree, ItemForm}
use Rattle.lq_text_tree.specs.MlType as ml
use Rattle.lq_text_tree.specs.MlType.{MlType, MlTypes}
use Rattle.lq_text_tree.specs.Tree as form
use Rattle.lq_text_tree.specs.Tree.{Tree, Trees, no_trees, more_trees, Cases, more_cases}
use Rattle.lq_sound_scope.specs.Scalars.Laws.{DefinitionsAreNameless, TemplatesAreWritten}
use Rattle.lq_sound_forms.specs.Quiet.Quiet.{IsValueBlock, IsValueOperation}
use Rattle.lq_sound_scope.specs.Scalars.Scalar.{end_type, AreScalarCases, HasNoTypeVariables, IsScalarTree, IsScalarItem, IsScalarProgram, IsValueTree}
use Rattle.lq_sound_scope.specs.Scalars.Written.{end_point, function_point, AreArmsWritten, AreDefinitionsNameless, AreScalar, EachUseIn, HasNamelessArguments, IsNameless, IsFunctionFor, IsGivenWritten, IsOperationWritten, IsBlockWritten, AreItemsWritten}
use Rattle.lq_sound_scope.proofs.ScalarsLemmas.Forms.{nameless_function}
use Rattle.lq_sound_scope.proofs.ScalarsLemmas.Templates.{all_plain_nameless, arguments_made, constant_nameless, function_made, inner_nameless, nameless_made, plain_nameless}

-- ---- templates of points

module _ (D : Datatypes) (T : ℕ → Refineds) where
  -- the templates from the number k on are made for these points, or the points are idle
  abbrev IsMade : ℕ → Point → Type 0
  IsMade k q = ((m : ℕ) × (T k ≡ (made_at D m q).types)) ⊎ (T k ≡ all_plain (simple_types q))

  abbrev AreMade : ℕ → List Point → Type 0
  AreMade k [] = Unit {0}
  AreMade k (q ∷ qs) = IsMade k q × AreMade (suc k) qs

  made_first : (k : ℕ) (ps qs : List Point) → AreMade k (ps ++ qs) → AreMade k ps
  made_first k [] qs h = tt
  made_first k (p ∷ ps) qs h = (h.0, made_first (suc k) ps qs h.1)

  made_second : (k : ℕ) (ps qs : List Point) → AreMade k (ps ++ qs) → AreMade (k + length ps) qs
  made_second k [] qs h = let e : k ≡ k + 0 = omega arith in subst (λ (m : ℕ). AreMade m qs) e h
  made_second k (p ∷ ps) qs h =
      let e : suc k + length ps ≡ k + suc (length ps) = omega arith in subst (λ (m : ℕ). AreMade m qs) e (made_second (suc k) ps qs h.1)

  made_one : (k : ℕ) (q : Point) → IsMade k (idled q) → IsMade k q
  made_one k q (inl h) = inr h.1
  made_one k q (inr h) = inr h

  made_idled : (k : ℕ) (ps : List Point) → AreMade k (all_idled ps) → AreMade k ps
  made_idled k [] h = tt
  made_idled k (p ∷ ps) h = (made_one k p h.0, made_idled (suc k) ps h.1)

  idled_length : (ps : List Point) → length (all_idled ps) ≡ length ps
  idled_length [] = refl
  idled_length (p ∷ ps) = ap suc (idled_length ps)

  -- points that may be idle, and those behind them
  made_arm : (b : Bool) (k : ℕ) (ps qs : List Point) → AreMade k (cond b ps (all_idled ps) ++ qs) → AreMade k ps × AreMade (k + length ps) qs
  made_arm true k ps qs h = (made_first k ps qs h, made_second k ps qs h)
  made_arm false k ps qs h = (
    made_idled k ps (made_first k (all_idled ps) qs h),
    subst (λ (m : ℕ). AreMade m qs) (ap (λ i. k + i) (idled_length ps)) (made_second k (all_idled ps) qs h),
  )

made_later : (D : Datatypes) (T : ℕ → Refineds) (k : ℕ) (ps : List Point) → AreMade D (λ i. T (suc i)) k ps → AreMade D T (suc k) ps
made_later D T k [] h = tt
made_later D T k (p ∷ ps) h = (h.0, made_later D T (suc k) ps h.1)

all_made : (D : Datatypes) (n : ℕ) (ps : List Point) → AreMade D (templates_at (templates_from D n ps)) 0 ps
all_made D n [] = tt
all_made D n (p ∷ ps) =
    let m = made_at D n p in
    (inl (n, refl), made_later D (templates_at (templates_from D n (p ∷ ps))) 0 ps (all_made D (n + length m.unknowns) ps))

-- ---- values

value_pure : {e : Tree} → IsPure e → (n : Annotation) (g : Bool) (k : ℕ) (Δ : List Seen)
    → IsValueOperation (last_operation (block_of n g k Δ e).read) × IsValueBlock (block_of n g k Δ e).read
value_pure pure_whole n g k Δ = (tt, tt)
value_pure pure_flag n g k Δ = (tt, tt)
value_pure pure_unit n g k Δ = (tt, tt)
value_pure pure_use n g k Δ = (tt, tt)
value_pure (pure_arithmetic ring_add p q) n g k Δ = (tt, tt)
value_pure (pure_arithmetic ring_subtract p q) n g k Δ = (tt, tt)
value_pure (pure_arithmetic ring_multiply p q) n g k Δ = (tt, tt)
value_pure (pure_negated p) n g k Δ = (tt, tt)
value_pure (pure_compare p q) n g k Δ = (tt, tt)
value_pure (pure_not p) n g k Δ = (tt, tt)
value_pure (pure_and p q) n g k Δ = (tt, tt)
value_pure (pure_or p q) n g k Δ = (tt, tt)
value_pure (pure_length p) n g k Δ = (tt, tt)

mutual
  value_block : {e : Tree} → IsBlock e → IsValueTree e → (n : Annotation) (g : Bool) (k : ℕ) (Δ : List Seen) → IsValueBlock (block_of n g k Δ e).read
  value_block (block_let {i = i} {q = q} {e = e} {b = b} m f r) v n g k Δ =
      let E = block_of n false k Δ e in
      ((value_operation f v.0 n false k Δ).0, value_block r v.1 n g (after k E) (seen_until i (reading.parameter_of q) ∷ Δ))
  value_block (block_let_rec m f r) v n g k Δ = absurd v
  value_block (block_operation f) v n g k Δ = (value_operation f v n g k Δ).1

  value_operation : {e : Tree} → IsOperation e → IsValueTree e → (n : Annotation) (g : Bool) (k : ℕ) (Δ : List Seen)
      → IsValueOperation (last_operation (block_of n g k Δ e).read) × IsValueBlock (block_of n g k Δ e).read
  value_operation (is_pure p) v n g k Δ = value_pure p n g k Δ
  value_operation (is_fun m r) v n g k Δ = (tt, tt)
  value_operation (is_tuple p) v n g k Δ = (tt, tt)
  value_operation (is_build p) v n g k Δ = (tt, tt)
  value_operation (is_if p f r) v n g k Δ = absurd v
  value_operation (is_match p f) v n g k Δ = absurd v
  value_operation (is_call p q) v n g k Δ = absurd v
  value_operation (is_quotient p q) v n g k Δ = absurd v
  value_operation (is_remainder p q) v n g k Δ = absurd v
  value_operation (is_assert p) v n g k Δ = absurd v
  value_operation is_assert_false v n g k Δ = absurd v
  value_operation (is_make p q) v n g k Δ = absurd v
  value_operation (is_fetch p q) v n g k Δ = absurd v
  value_operation (is_store p q r) v n g k Δ = absurd v
  value_operation (is_print p) v n g k Δ = absurd v
  value_operation (is_read p) v n g k Δ = absurd v

mutual
  plain_erased : (t : MlType) → erased (plain t) ≡ t
  plain_erased ml.int = refl
  plain_erased ml.bool = refl
  plain_erased ml.unit = refl
  plain_erased (ml.var i) = refl
  plain_erased (ml.arrow a b) = ap₂ ml.arrow (plain_erased a) (plain_erased b)
  plain_erased (ml.tuple ts) = ap ml.tuple (all_plain_erased ts)
  plain_erased (ml.array a) = ap ml.array (plain_erased a)
  plain_erased (ml.named d ts) = ap (ml.named d) (all_plain_erased ts)
  plain_erased (ml.map_of a) = ap ml.map_of (plain_erased a)

  all_plain_erased : (ts : MlTypes) → all_erased (all_plain ts) ≡ ts
  all_plain_erased ml.no_types = refl
  all_plain_erased (ml.more_types t ts) = ap₂ ml.more_types (plain_erased t) (all_plain_erased ts)

-- ---- blocks and programs

module _ (erases : TemplatesErase) (D : Datatypes) (n : Annotation) (all : List Point) where
  abbrev P : Basis
  P = basis_of D all

  abbrev At : ℕ → Point → Type 0
  At = IsMade D P.type_arguments

  abbrev Made : ℕ → List Point → Type 0
  Made = AreMade D P.type_arguments

  front : (k : ℕ) (ps qs : List Point) → Made k (ps ++ qs) → Made k ps
  front k ps qs h = made_first D P.type_arguments k ps qs h

  back : (k : ℕ) (ps qs : List Point) → Made k (ps ++ qs) → Made (k + length ps) qs
  back k ps qs h = made_second D P.type_arguments k ps qs h

  -- what holds of each fresh template for a point, and of its simple type, holds of its template
  template_at : (C : Refined → Type 0) (k : ℕ) (Γ : Scope) (xs : List (Option ℕ)) (a : MlType) → At k (whole Γ xs a)
      → ((m : ℕ) → C (fresh D.constructors D.ordered m Γ xs a).type) → C (plain a) → C (P.template k)
  template_at C k Γ xs a (inl h) f z = subst (λ ts. C (first_of ts)) (sym h.1) (f h.0)
  template_at C k Γ xs a (inr h) f z = subst (λ ts. C (first_of ts)) (sym h) z

  -- of the value of a constructor
  built_at : (k : ℕ) (Γ : Scope) (a : MlType) (es : Trees) → At k (built Γ a es) → IsNameless (P.template k)
  built_at k Γ a no_trees (inl h) = subst (λ ts. IsNameless (first_of ts)) (sym h.1) (constant_nameless erases D h.0 Γ a)
  built_at k Γ a no_trees (inr h) = subst (λ ts. IsNameless (first_of ts)) (sym h) (plain_nameless erases a)
  built_at k Γ a (more_trees e es) (inl h) = subst (λ ts. IsNameless (first_of ts)) (sym h.1) (inner_nameless erases D h.0 Γ a)
  built_at k Γ a (more_trees e es) (inr h) = subst (λ ts. IsNameless (first_of ts)) (sym h) (plain_nameless erases a)

  -- where no type is expected
  given_at : (C : Refined → Type 0) (g : Bool) (k : ℕ) (Γ : Scope) (xs : List (Option ℕ)) (a : MlType) → At k (expecting g (whole Γ xs a))
      → ((m : ℕ) → C (fresh D.constructors D.ordered m Γ xs a).type) → C (plain a) → Where g (Unit {0}) (C (P.template k))
  given_at C true k Γ xs a h f z = tt
  given_at C false k Γ xs a h f z = template_at C k Γ xs a h f z

  -- a function's simple type
  plain_function : (x : ℕ) (b : t.Block) (a : MlType) → IsFunctionFor x b (plain a)
  plain_function x b a = nameless_function x b (plain a) (plain_nameless erases a)

  -- ---- expressions

  abbrev Written : t.Use → Type 0
  Written = HasNamelessArguments P

  each_nameless : (k : ℕ) (Γ : Scope) (ts : MlTypes) → At k (each Γ ts) → AreScalar (P.type_arguments k) × HaveNoNames (P.type_arguments k)
  each_nameless k Γ ts (inl h) = subst (λ us. AreScalar us × HaveNoNames us) (sym h.1) (arguments_made erases D h.0 Γ ts)
  each_nameless k Γ ts (inr h) = subst (λ us. AreScalar us × HaveNoNames us) (sym h) (all_plain_nameless erases ts)

  use_plain : (Δ : List Seen) (k i x : ℕ) (o : Option MlTypes) → Made k (use_with n Δ k i x o).points → Written (use_with n Δ k i x o).read
  use_plain Δ k i x None h = tt
  use_plain Δ k i x (Some ts) h = each_nameless k (scope_at n Δ i) ts h.0

  variable_plain : {e : Tree} → IsUse e → (Δ : List Seen) (k : ℕ) → Made k (variable_of n Δ k e).points → Written (variable_of n Δ k e).read
  variable_plain (is_use {i = i} {x = x}) Δ k h = use_plain Δ k i x (arguments_at n i x) h

  ring_plain : {o : ArithOp} (a b : t.Pure) → IsRing o → EachUse Written a → EachUse Written b → EachUse Written (arithmetic_of o a b)
  ring_plain a b ring_add h k = (h, k)
  ring_plain a b ring_subtract h k = (h, k)
  ring_plain a b ring_multiply h k = (h, k)

  pure_plain : {e : Tree} → IsPure e → (Δ : List Seen) (k : ℕ) → Made k (pure_of n Δ k e).points → EachUse Written (pure_of n Δ k e).read
  pure_plain pure_whole Δ k h = tt
  pure_plain pure_flag Δ k h = tt
  pure_plain pure_unit Δ k h = tt
  pure_plain (pure_use {i = i} {x = x}) Δ k h = use_plain Δ k i x (arguments_at n i x) h
  pure_plain (pure_arithmetic {a = a} {b = b} r p q) Δ k h =
      let A = pure_of n Δ k a in
      let B = pure_of n Δ (after k A) b in
      ring_plain A.read B.read r (pure_plain p Δ k (front k A.points B.points h)) (pure_plain q Δ (after k A) (back k A.points B.points h))
  pure_plain (pure_negated p) Δ k h = pure_plain p Δ k h
  pure_plain (pure_compare {a = a} {b = b} p q) Δ k h =
      let A = pure_of n Δ k a in
      let B = pure_of n Δ (after k A) b in
      (pure_plain p Δ k (front k A.points B.points h), pure_plain q Δ (after k A) (back k A.points B.points h))
  pure_plain (pure_not p) Δ k h = pure_plain p Δ k h
  pure_plain (pure_and {a = a} {b = b} p q) Δ k h =
      let A = pure_of n Δ k a in
      let B = pure_of n Δ (after k A) b in
      (pure_plain p Δ k (front k A.points B.points h), pure_plain q Δ (after k A) (back k A.points B.points h))
  pure_plain (pure_or {a = a} {b = b} p q) Δ k h =
      let A = pure_of n Δ k a in
      let B = pure_of n Δ (after k A) b in
      (pure_plain p Δ k (front k A.points B.points h), pure_plain q Δ (after k A) (back k A.points B.points h))
  pure_plain (pure_length p) Δ k h = pure_plain p Δ k h

  pures_plain : {es : Trees} → ArePure es → (Δ : List Seen) (k : ℕ) → Made k (pures_of n Δ k es).points → EachUseIn Written (pures_of n Δ k es).read
  pures_plain no_pure Δ k h = tt
  pures_plain (more_pure {e = e} {es = es} p ps) Δ k h =
      let A = pure_of n Δ k e in
      let B = pures_of n Δ (after k A) es in
      (pure_plain p Δ k (front k A.points B.points h), pures_plain ps Δ (after k A) (back k A.points B.points h))

  -- two in a row
  two_plain : {a b : Tree} → IsPure a → IsPure b → (Δ : List Seen) (k : ℕ)
      → let A = pure_of n Δ k a in let B = pure_of n Δ (after k A) b in Made k (A.points ++ B.points) → EachUse Written A.read × EachUse Written B.read
  two_plain {a} {b} p q Δ k h =
      let A = pure_of n Δ k a in
      let B = pure_of n Δ (after k A) b in
      (pure_plain p Δ k (front k A.points B.points h), pure_plain q Δ (after k A) (back k A.points B.points h))

  -- an operation, and the block that it is alone
  abbrev OperationRead : Bool → t.Block → Type 0
  OperationRead g B =
      (IsOperationWritten P Written (last_operation B) × Where g (Unit {0}) (IsGivenWritten P (last_operation B))) × IsBlockWritten P Written g B

  twice : {A : Type 0} → A → A × A
  twice h = (h, h)

  nothing_given : (g : Bool) → Where g (Unit {0}) (Unit {0})
  nothing_given true = tt
  nothing_given false = tt

  pure_block : (g : Bool) (k : ℕ) (Δ : List Seen) {e : Tree} → IsPure e → Made k (block_of n g k Δ e).points → OperationRead g (block_of n g k Δ e).read
  pure_block g k Δ (pure_whole {l = l}) h = twice (tt, nothing_given g)
  pure_block g k Δ (pure_flag {l = l}) h = twice (tt, nothing_given g)
  pure_block g k Δ (pure_unit {l = l}) h = twice (tt, nothing_given g)
  pure_block g k Δ (pure_use {i = i} {l = l} {x = x}) h = twice (pure_plain (pure_use {i = i} {l = l} {x = x}) Δ k h, nothing_given g)
  pure_block g k Δ (pure_arithmetic {i = i} {l = l} ring_add p q) h = twice (pure_plain (pure_arithmetic {i = i} {l = l} ring_add p q) Δ k h, nothing_given g)
  pure_block g k Δ (pure_arithmetic {i = i} {l = l} ring_subtract p q) h = twice (pure_plain (pure_arithmetic {i = i} {l = l} ring_subtract p q) Δ k h, nothing_given g)
  pure_block g k Δ (pure_arithmetic {i = i} {l = l} ring_multiply p q) h = twice (pure_plain (pure_arithmetic {i = i} {l = l} ring_multiply p q) Δ k h, nothing_given g)
  pure_block g k Δ (pure_negated {i = i} {l = l} p) h = twice (pure_plain (pure_negated {i = i} {l = l} p) Δ k h, nothing_given g)
  pure_block g k Δ (pure_compare {i = i} {l = l} {o = o} p q) h = twice (pure_plain (pure_compare {i = i} {l = l} {o = o} p q) Δ k h, nothing_given g)
  pure_block g k Δ (pure_not {i = i} {l = l} p) h = twice (pure_plain (pure_not {i = i} {l = l} p) Δ k h, nothing_given g)
  pure_block g k Δ (pure_and {i = i} {l = l} p q) h = twice (pure_plain (pure_and {i = i} {l = l} p q) Δ k h, nothing_given g)
  pure_block g k Δ (pure_or {i = i} {l = l} p q) h = twice (pure_plain (pure_or {i = i} {l = l} p q) Δ k h, nothing_given g)
  pure_block g k Δ (pure_length {i = i} {l = l} p) h = twice (pure_plain (pure_length {i = i} {l = l} p) Δ k h, nothing_given g)

  mutual
    block_read : (g : Bool) (k : ℕ) (Δ : List Seen) {e : Tree} → IsBlock e → IsScalarTree n e → Made k (block_of n g k Δ e).points
        → IsBlockWritten P Written g (block_of n g k Δ e).read
    block_read g k Δ (block_let {i = i} {q = q} {e = e} {b = b} m f r) s h =
        let E : Read t.Block = block_of n false k Δ e in
        let Θ : List Seen = seen_until i (reading.parameter_of q) ∷ Δ in
        let B : Read t.Block = block_of n g (after k E) Θ b in
        let X : OperationRead false E.read = operation_read false k Δ f s.0 (front k E.points B.points h) in
        (X.0.0, X.0.1, block_read g (after k E) Θ r s.1 (back k E.points B.points h))
    block_read g k Δ (block_let_rec {i = i} {f = f} {j = j} {b = b} {e = e} (is_name {l = l} {x = x}) r z) s h =
        let Θ : List Seen = seen_until i f ∷ Δ in
        let B : Read t.Block = block_of n true (suc k) (seen x ∷ Θ) b in
        let E : Read t.Block = block_of n g (after (suc k) B) Θ e in (
          template_at (IsFunctionFor x B.read) k (scope_at n Θ j) (argument_name n x ∷ written_names n b) (n.names f) h.0
              (λ m. function_made erases D.constructors D.ordered n r x (suc k) (seen x ∷ Θ) m (scope_at n Θ j) (n.names f))
              (plain_function x B.read (n.names f)),
          block_read true (suc k) (seen x ∷ Θ) r s.0 (front (suc k) B.points E.points h.1),
          block_read g (after (suc k) B) Θ z s.1 (back (suc k) B.points E.points h.1),
        )
    block_read g k Δ (block_operation f) s h = (operation_read g k Δ f s h).1

    operation_read : (g : Bool) (k : ℕ) (Δ : List Seen) {e : Tree} → IsOperation e → IsScalarTree n e → Made k (block_of n g k Δ e).points
        → OperationRead g (block_of n g k Δ e).read
    operation_read g k Δ (is_pure p) s h = pure_block g k Δ p h
    operation_read g k Δ (is_fun {i = i} {b = b} (is_name {l = l} {x = x}) r) s h =
        let B : Read t.Block = block_of n true (suc k) (seen x ∷ Δ) b in
        twice (
          block_read true (suc k) (seen x ∷ Δ) r s h.1,
          given_at (IsFunctionFor x B.read) g k (scope_at n Δ i) (argument_name n x ∷ written_names n b) (n.types i) h.0
              (λ m. function_made erases D.constructors D.ordered n r x (suc k) (seen x ∷ Δ) m (scope_at n Δ i) (n.types i))
              (plain_function x B.read (n.types i)),
        )
    operation_read g k Δ (is_if {i = i} {c = c} {a = a} {b = b} p r z) s h =
        let C = pure_of n Δ (suc k) c in
        let A = block_of n true (after (suc k) C) Δ a in
        let B = block_of n true (after (after (suc k) C) A) Δ b in
        let rest = back (suc k) C.points (A.points ++ B.points) h.1 in
        twice (
          (
            pure_plain p Δ (suc k) (front (suc k) C.points (A.points ++ B.points) h.1),
            block_read true (after (suc k) C) Δ r s.1 (front (after (suc k) C) A.points B.points rest),
            block_read true (after (after (suc k) C) A) Δ z s.2 (back (after (suc k) C) A.points B.points rest),
          ),
          given_at (IsNameless) g k (scope_at n Δ i) [] (n.types i) h.0 (λ m. nameless_made erases D.constructors D.ordered m (scope_at n Δ i) (n.types i))
              (plain_nameless erases (n.types i)),
        )
    operation_read g k Δ (is_match p no_arms) s h = absurd s
    operation_read g k Δ (is_match {i = i} {e = e} p (more_arms {q = q} {b = b} {cs = cs} f r z)) s h =
        let a = type_of_form n i (form.match_on e (more_cases q b cs)) in
        let V = variable_of n Δ (suc k) e in
        let l = after (suc k) V in
        let A = arms_of n l Δ [] (more_cases q b cs) in
        let w = arms_read l Δ [] (more_arms {q = q} {b = b} {cs = cs} f r z) s.1 (back (suc k) V.points A.points h.1) in
        twice (
          (variable_plain p Δ (suc k) (front (suc k) V.points A.points h.1), tt, w),
          given_at (IsNameless) g k (scope_at n Δ i) [] a h.0 (λ m. nameless_made erases D.constructors D.ordered m (scope_at n Δ i) a)
              (plain_nameless erases a),
        )
    operation_read g k Δ (is_tuple p) s h = twice (pures_plain p Δ k h, nothing_given g)
    operation_read g k Δ (is_build {i = i} {es = es} p) s h =
        twice ((pures_plain p Δ (suc k) h.1, built_at k (scope_at n Δ i) (n.types i) es h.0), nothing_given g)
    operation_read g k Δ (is_call {f = f} p q) s h =
        twice (two_plain p q Δ k h, nothing_given g)
    operation_read g k Δ (is_quotient {a = a} p q) s h =
        twice (two_plain p q Δ k h, nothing_given g)
    operation_read g k Δ (is_remainder {a = a} p q) s h =
        twice (two_plain p q Δ k h, nothing_given g)
    operation_read g k Δ (is_assert p) s h = twice (pure_plain p Δ k h, nothing_given g)
    operation_read g k Δ (is_assert_false {i = i}) s h =
        twice (
          template_at (IsNameless) k (scope_at n Δ i) [] (n.types i) h.0 (λ m. nameless_made erases D.constructors D.ordered m (scope_at n Δ i) (n.types i))
              (plain_nameless erases (n.types i)),
          nothing_given g,
        )
    operation_read g k Δ (is_make {i = i} {n = a} p q) s h =
        let A = pure_of n Δ (suc k) a in
        let both = two_plain p q Δ (suc k) h.1 in
        let t = element_type (n.types i) in
        twice (
          (
            both.0,
            both.1,
            template_at (IsNameless) k (scope_at n Δ i) [] t h.0
                (λ m. nameless_made erases D.constructors D.ordered m (scope_at n Δ i) t)
                (plain_nameless erases t),
          ),
          nothing_given g,
        )
    operation_read g k Δ (is_fetch {a = a} {n = b} p q) s h =
        let A = variable_of n Δ k a in
        let B = pure_of n Δ (after k A) b in
        twice ((variable_plain p Δ k (front k A.points B.points h), pure_plain q Δ (after k A) (back k A.points B.points h)), nothing_given g)
    operation_read g k Δ (is_store {a = a} {n = b} {e = c} p q r) s h =
        let A = variable_of n Δ k a in
        let B = pure_of n Δ (after k A) b in
        let D = pure_of n Δ (after (after k A) B) c in
        let rest = back k A.points (B.points ++ D.points) h in
        twice (
          (
            variable_plain p Δ k (front k A.points (B.points ++ D.points) h),
            pure_plain q Δ (after k A) (front (after k A) B.points D.points rest),
            pure_plain r Δ (after (after k A) B) (back (after k A) B.points D.points rest),
          ),
          nothing_given g,
        )
    operation_read g k Δ (is_print p) s h = twice (pure_plain p Δ k h, nothing_given g)
    operation_read g k Δ (is_read p) s h = twice (pure_plain p Δ k h, nothing_given g)

    arms_read : (k : ℕ) (Δ : List Seen) (qs : List t.Pattern) {cs : Cases} → AreArms cs → AreScalarCases n cs → Made k (arms_of n k Δ qs cs).points
        → AreArmsWritten P Written (arms_of n k Δ qs cs).read
    arms_read k Δ qs no_arms s h = tt
    arms_read k Δ qs (more_arms {q = q} {b = b} {cs = cs} f r z) s h =
        let p = reading.pattern_of q in
        let Θ = all_seen (names_of p) Δ in
        let B = block_of n true k Θ b in
        let rest = arms_of n (after k B) Δ (qs ++ p ∷ []) cs in
        let both = made_arm D (P.type_arguments) (is_checked qs p) k B.points rest.points h in
        (block_read true k Θ r s.0 both.0, arms_read (after k B) Δ (qs ++ p ∷ []) z s.1 both.1)

  -- ---- definitions

  -- what is behind an item is written so
  abbrev RestRead : (ℕ → List Seen → Read t.Program) → Type 0
  RestRead rest = (k : ℕ) (Δ : List Seen) → Made k (rest k Δ).points → AreItemsWritten P Written (rest k Δ).read

  settled_by : {V W X Y : Type 0} → V ⊎ X → (V → W) → (X → Y) → W ⊎ Y
  settled_by (inl v) f g = inl (f v)
  settled_by (inr x) f g = inr (g x)

  -- the template for a point has no variables where its simple type has none
  closed_at : (k : ℕ) (Γ : Scope) (xs : List (Option ℕ)) (a : MlType) → At k (whole Γ xs a) → HasNoTypeVariables a
      → HasNoTypeVariables (erased (P.template k))
  closed_at k Γ xs a h c =
      template_at (λ t. HasNoTypeVariables (erased t)) k Γ xs a h (λ m. subst HasNoTypeVariables (sym (erases D.constructors D.ordered m Γ xs a)) c)
      (subst HasNoTypeVariables (sym (plain_erased a)) c)

  -- A block that ends in no function gives the name's type, and one that does the type of that function, which has a point of its own.
  abbrev EndsIn : ℕ → Tree → t.Block → Type 0
  EndsIn x e B =
      ((end_type n x e ≡ n.names x) × (has_template B ≡ true))
      ⊎ ((has_template B ≡ false) × (HasNoTypeVariables (end_type n x e) → HasNoTypeVariables (erased (P.template (function_point (last_operation B))))))

  pure_ends : (x : ℕ) {e : Tree} → IsPure e → (k : ℕ) (Δ : List Seen) → EndsIn x e (block_of n false k Δ e).read
  pure_ends x pure_whole k Δ = inl (refl, refl)
  pure_ends x pure_flag k Δ = inl (refl, refl)
  pure_ends x pure_unit k Δ = inl (refl, refl)
  pure_ends x pure_use k Δ = inl (refl, refl)
  pure_ends x (pure_arithmetic ring_add p q) k Δ = inl (refl, refl)
  pure_ends x (pure_arithmetic ring_subtract p q) k Δ = inl (refl, refl)
  pure_ends x (pure_arithmetic ring_multiply p q) k Δ = inl (refl, refl)
  pure_ends x (pure_negated p) k Δ = inl (refl, refl)
  pure_ends x (pure_compare p q) k Δ = inl (refl, refl)
  pure_ends x (pure_not p) k Δ = inl (refl, refl)
  pure_ends x (pure_and p q) k Δ = inl (refl, refl)
  pure_ends x (pure_or p q) k Δ = inl (refl, refl)
  pure_ends x (pure_length p) k Δ = inl (refl, refl)

  operation_ends : (x : ℕ) {e : Tree} → IsOperation e → (k : ℕ) (Δ : List Seen) → Made k (block_of n false k Δ e).points
      → EndsIn x e (block_of n false k Δ e).read
  operation_ends x (is_pure p) k Δ h = pure_ends x p k Δ
  operation_ends x (is_fun {i = i} {b = b} (is_name {l = l} {x = y}) r) k Δ h =
      inr (refl, (λ c. closed_at k (scope_at n Δ i) (argument_name n y ∷ written_names n b) (n.types i) h.0 c))
  operation_ends x (is_if p f r) k Δ h = inl (refl, refl)
  operation_ends x (is_match p f) k Δ h = inl (refl, refl)
  operation_ends x (is_tuple p) k Δ h = inl (refl, refl)
  operation_ends x (is_build p) k Δ h = inl (refl, refl)
  operation_ends x (is_call p q) k Δ h = inl (refl, refl)
  operation_ends x (is_quotient p q) k Δ h = inl (refl, refl)
  operation_ends x (is_remainder p q) k Δ h = inl (refl, refl)
  operation_ends x (is_assert p) k Δ h = inl (refl, refl)
  operation_ends x is_assert_false k Δ h = inl (refl, refl)
  operation_ends x (is_make p q) k Δ h = inl (refl, refl)
  operation_ends x (is_fetch p q) k Δ h = inl (refl, refl)
  operation_ends x (is_store p q r) k Δ h = inl (refl, refl)
  operation_ends x (is_print p) k Δ h = inl (refl, refl)
  operation_ends x (is_read p) k Δ h = inl (refl, refl)

  block_ends : (x : ℕ) {e : Tree} → IsBlock e → (k : ℕ) (Δ : List Seen) → Made k (block_of n false k Δ e).points
      → EndsIn x e (block_of n false k Δ e).read
  block_ends x (block_let {i = i} {q = q} {e = e} {b = b} m f r) k Δ h =
      let E : Read t.Block = block_of n false k Δ e in
      let Θ : List Seen = seen_until i (reading.parameter_of q) ∷ Δ in
      let B : Read t.Block = block_of n false (after k E) Θ b in
      block_ends x r (after k E) Θ (back k E.points B.points h)
  block_ends x (block_let_rec {i = i} {f = f} {j = j} {b = b} {e = e} (is_name {l = l} {x = y}) r z) k Δ h =
      let Θ : List Seen = seen_until i f ∷ Δ in
      let B : Read t.Block = block_of n true (suc k) (seen y ∷ Θ) b in
      let E : Read t.Block = block_of n false (after (suc k) B) Θ e in
      block_ends x z (after (suc k) B) Θ (back (suc k) B.points E.points h.1)
  block_ends x (block_operation f) k Δ h = operation_ends x f k Δ h

  -- the point of a definition
  end_closed : (x : ℕ) (e : Tree) (B : t.Block) → EndsIn x e B → (k : ℕ) (Γ : Scope) (ps : List Point)
      → Made k (own_point n (has_template B) (whole Γ [] (n.names x)) ++ ps) → (p : ℕ) → HasNoTypeVariables (end_type n x e)
      → HasNoTypeVariables (erased (P.template (end_point B (cond (has_template B) k p))))
  end_closed x e B (inl d) k Γ ps h p c =
      let F = function_point (last_operation B) in
      let made = subst (λ b. Made k (own_point n b (whole Γ [] (n.names x)) ++ ps)) d.1 h in
      subst (λ b. HasNoTypeVariables (erased (P.template (cond b (cond b k p) F)))) (sym d.1)
      (closed_at k Γ [] (n.names x) made.0 (subst HasNoTypeVariables d.0 c))
  end_closed x e B (inr d) k Γ ps h p c =
      let F = function_point (last_operation B) in
      subst (λ b. HasNoTypeVariables (erased (P.template (cond b (cond b k p) F)))) (sym d.0) (d.1 c)

  name_read : (k : ℕ) (Δ : List Seen) (l : Place) (x : ℕ) {e : Tree} → IsBlock e → IsScalarTree n e
      → IsValueTree e ⊎ HasNoTypeVariables (end_type n x e) → (rest : ℕ → List Seen → Read t.Program)
      → RestRead rest → Made k (defined n k Δ l x e rest).points → AreItemsWritten P Written (defined n k Δ l x e rest).read
  name_read k Δ l x {e} b s v rest r h =
      let B : Read t.Block = block_of n false k Δ e in
      let Γ = scope_at n Δ (number_of e) in
      let own : List Point = own_point n (has_template B.read) (whole Γ [] (n.names x)) in
      let ends = block_ends x b k Δ (front k B.points _ h) in (
        block_read false k Δ b s (front k B.points _ h),
        settled_by v (λ w. value_block b w n false k Δ) (λ c. end_closed x e B.read ends (after k B) Γ _ (back k B.points _ h) _ c),
        r (after k B + length own) (seen x ∷ Δ) (back (after k B) own _ (back k B.points _ h)),
      )

  item_read : (k : ℕ) (Δ : List Seen) {i : ItemForm} → IsItem i → IsScalarItem n i → (rest : ℕ → List Seen → Read t.Program) → RestRead rest
      → Made k (item n k Δ i rest).points → AreItemsWritten P Written (item n k Δ i rest).read
  item_read k Δ item_type s rest r h = r k Δ h
  item_read k Δ (item_name {l = l} {x = x} {e = e} b) s rest r h = name_read k Δ l x b s.0 s.1 rest r h
  item_read k Δ (item_any {e = e} b) s rest r h =
      let B : Read t.Block = block_of n false k Δ e in
      (block_read false k Δ b s.0 (front k B.points _ h), r (after k B) Δ (back k B.points _ h))
  item_read k Δ (item_unit {e = e} b) s rest r h =
      let B : Read t.Block = block_of n true k Δ e in
      (block_read true k Δ b s.0 (front k B.points _ h), r (after k B) Δ (back k B.points _ h))
  item_read k Δ (item_function {f = f} {r = z} m b) s rest r h =
      let Θ : List Seen = seen f ∷ Δ in
      let y : ℕ = reading.parameter_of z.parameter in
      let B : Read t.Block = block_of n true (suc k) (seen y ∷ Θ) z.body in (
        template_at (IsFunctionFor y B.read) k (scope_at n Θ z.id) (argument_name n y ∷ written_names n z.body) (n.names f) h.0
            (λ m. function_made erases D.constructors D.ordered n b y (suc k) (seen y ∷ Θ) m (scope_at n Θ z.id) (n.names f))
            (plain_function y B.read (n.names f)),
        block_read true (suc k) (seen y ∷ Θ) b s (front (suc k) B.points _ h.1),
        r (after (suc k) B) Θ (back (suc k) B.points _ h.1),
      )

  items_read : (is : List ItemTree) → AreNormal is → IsScalarProgram n is → RestRead (λ k Δ. program_from n k Δ is)
  items_read [] m s k Δ h = tt
  items_read (i ∷ is) m s k Δ h = item_read k Δ m.0 s.0 (λ j Θ. program_from n j Θ is) (items_read is m.1 s.1) h

  -- ---- templates of definitions

  own_nameless : (b : Bool) (x k : ℕ) (Γ : Scope) (ps : List Point) → Made k (own_point n b (whole Γ [] (n.names x)) ++ ps) → (p : ℕ)
      → Where b (IsNameless (P.template (cond b k p))) (Unit {0})
  own_nameless true x k Γ ps made p =
      template_at (IsNameless) k Γ [] (n.names x) made.0 (λ m. nameless_made erases D.constructors D.ordered m Γ (n.names x))
      (plain_nameless erases (n.names x))
  own_nameless false x k Γ ps made p = tt

  abbrev RestNameless : (ℕ → List Seen → Read t.Program) → Type 0
  RestNameless rest = (k : ℕ) (Δ : List Seen) → Made k (rest k Δ).points → AreDefinitionsNameless P (rest k Δ).read

  item_nameless : (k : ℕ) (Δ : List Seen) {i : ItemForm} → IsItem i → (rest : ℕ → List Seen → Read t.Program) → RestNameless rest
      → Made k (item n k Δ i rest).points → AreDefinitionsNameless P (item n k Δ i rest).read
  item_nameless k Δ item_type rest r h = r k Δ h
  item_nameless k Δ (item_name {l = l} {x = x} {e = e} b) rest r h =
      let B : Read t.Block = block_of n false k Δ e in
      let Γ = scope_at n Δ (number_of e) in
      let own : List Point = own_point n (has_template B.read) (whole Γ [] (n.names x)) in (
        own_nameless (has_template B.read) x (after k B) Γ _ (back k B.points _ h) _,
        r (after k B + length own) (seen x ∷ Δ) (back (after k B) own _ (back k B.points _ h)),
      )
  item_nameless k Δ (item_any {e = e} b) rest r h =
      let B : Read t.Block = block_of n false k Δ e in r (after k B) Δ (back k B.points _ h)
  item_nameless k Δ (item_unit {e = e} b) rest r h =
      let B : Read t.Block = block_of n true k Δ e in r (after k B) Δ (back k B.points _ h)
  item_nameless k Δ (item_function {f = f} {r = z} m b) rest r h =
      let Θ : List Seen = seen f ∷ Δ in
      let y : ℕ = reading.parameter_of z.parameter in
      let B : Read t.Block = block_of n true (suc k) (seen y ∷ Θ) z.body in
      r (after (suc k) B) Θ (back (suc k) B.points _ h.1)

  items_nameless : (is : List ItemTree) → AreNormal is → RestNameless (λ k Δ. program_from n k Δ is)
  items_nameless [] m k Δ h = tt
  items_nameless (i ∷ is) m k Δ h = item_nameless k Δ m.0 (λ j Θ. program_from n j Θ is) (items_nameless is m.1) h

pub templates_written : TemplatesErase → TemplatesAreWritten
templates_written erases D n is m s =
    let ps : List Point = (program_of n is).points in items_read erases D n ps is m s 0 [] (all_made D 0 ps)

pub definitions_nameless : TemplatesErase → DefinitionsAreNameless
definitions_nameless erases D n is m =
    let ps : List Point = (program_of n is).points in items_nameless erases D n ps is m 0 [] (all_made D 0 ps)
