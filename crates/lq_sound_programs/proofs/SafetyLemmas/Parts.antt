-- What the rules and typing say of the parts of an operation and of a block.
use Rattle.std.proofs.Common.{◌≡◌, ◌⊎◌, inl, inr, ℕ, Bool, true, false, List, [], ◌∷◌, Some, refl, subst}
use Rattle.lq_refined_types.specs.Parts.Assignment.{Assignment}
use Rattle.lq_refined_types.specs.Parts.Part.{known}
use Rattle.lq_logic_predicates.specs.Formula.{falsity, negation}
use Rattle.lq_text_tree.specs.MlType as ml
use Rattle.lq_text_tree.specs.MlType.{MlType, MlTypes}
use Rattle.lq_text_tree.specs.Types.{Constructor}
use Rattle.lq_refined_types.specs.Types.Context.{Context, guard}
use Rattle.lq_refined_types.specs.Types.Refined.{Refined, argument_of, element_of}
use Rattle.lq_refined_types.specs.Subtyping.Subtype.{IsSubtype}
use Rattle.lq_refined_rules.specs.Checks.Basis.{Basis}
use Rattle.lq_refined_rules.specs.Checks.Checks.{AreCases, cases_none, cases_more, IsCase, case_here, case_later, case_default, case_missing, IsDefault, default_none, default_here, default_later, IsFirst, first_none, first_arm, AreArguments, Demanded, Obeys, obeys_pure, obeys_fun, obeys_if, obeys_data_match, obeys_other_match, obeys_call, obeys_tuple, obeys_build, obeys_make, obeys_fetch, obeys_store, obeys_divide, obeys_remainder, obeys_assert, obeys_assert_false, obeys_read, obeys_print, obeys_map_empty, obeys_map_add, obeys_map_find, Against, against_last, against_binding, against_recursive, IsRecursive, is_recursive}
use Rattle.lq_refined_rules.specs.Checks.Match.{is_data_match, matched_constructors, in_arm, missing_context}
use Rattle.lq_refined_rules.specs.Checks.Ready.{Where}
use Rattle.lq_refined_rules.specs.Checks.Operation.{field_types, in_range, not_zero, not_negative, type_of, bind, body_context, body_type, recursive_context, recursive_type}
use Rattle.lq_refined_rules.specs.Checks.Pure.{formula_of, type_of_use, pure_type}
use Rattle.lq_refined_rules.specs.Checks.Tree.{passes_on, is_arm_of, takes_all, has_default, Use, Arms, no_arms, arm, Operation, pure, fun, if_else, match_on, call, tuple, build, make, fetch, store, divide, remainder, assert, assert_false, read, print, map_empty, map_add, map_find, Block, last, binding, recursive}
use Rattle.lq_refined_rules.specs.Checks.Typing as typing
use Rattle.lq_refined_rules.specs.Checks.Typing.{Points, Types, fields_at, HavePures, HasPattern, HaveArms, have_no_arms, have_arm, HasPure, IsPointed, HasOperation, has_pure, has_fun, has_if, has_match, has_call, has_tuple, has_build, has_make, has_fetch, has_store, has_divide, has_remainder, has_assert, has_assert_false, has_read, has_print, has_map_empty, has_map_add, has_map_find, HasBlock, has_last, has_binding, has_recursive, HasRecursive, has_body}
use Rattle.lq_sound_programs.specs.Safety.Scoped.{IsIn}

module _ (P : Basis) (A : Assignment) where
  -- what an operation's row asks (of the covered forms)
  abbrev pub ObeysParts : Context → Operation → Refined → Type 0
  ObeysParts Γ (pure e) t = Unit {0}
  ObeysParts Γ (fun p y b) t = Against P A (body_context Γ y t) b (body_type P.setting.scopes y t)
  ObeysParts Γ (if_else p c a b) t = Against P A (guard (known (formula_of c)) ∷ Γ) a t × Against P A (guard (known (negation (formula_of c))) ∷ Γ) b t
  ObeysParts Γ (match_on p u arms) t =
      ((is_data_match P Γ u ≡ true) × AreCases P A Γ u arms t (matched_constructors P Γ u) × IsDefault P A Γ u arms t)
      ⊎ ((is_data_match P Γ u ≡ false) × IsFirst P A Γ u arms t)
  ObeysParts Γ (call g a) t = IsSubtype P.setting A Γ (pure_type P Γ a) (argument_of (pure_type P Γ g))
  ObeysParts Γ (tuple es) t = Unit {0}
  ObeysParts Γ (build p c es) t = AreArguments P A Γ es (field_types P Γ p c es)
  ObeysParts Γ (make p n e) t = Demanded P A Γ (not_negative n) × IsSubtype P.setting A Γ (pure_type P Γ e) (P.template p)
  ObeysParts Γ (fetch u i) t = Demanded P A Γ (in_range u i)
  ObeysParts Γ (store u i e) t =
      Demanded P A Γ (in_range u i) × IsSubtype P.setting A Γ (pure_type P Γ e) (element_of (type_of_use P Γ u))
  ObeysParts Γ (divide x y) t = Demanded P A Γ (not_zero y)
  ObeysParts Γ (remainder x y) t = Demanded P A Γ (not_zero y)
  ObeysParts Γ (assert e) t = Demanded P A Γ (formula_of e)
  ObeysParts Γ (assert_false p) t = Demanded P A Γ falsity
  ObeysParts Γ (read e) t = Unit {0}
  ObeysParts Γ (print e) t = Unit {0}
  ObeysParts Γ (map_empty p) t = Unit {0}
  ObeysParts Γ (map_add p k e m) t = Unit {0}
  ObeysParts Γ (map_find k m) t = Unit {0}

  pub obeys_parts : {Γ : Context} {o : Operation} {t : Refined} → Obeys P A Γ o t → ObeysParts Γ o t
  obeys_parts obeys_pure = tt
  obeys_parts (obeys_fun n b) = b
  obeys_parts (obeys_if a b) = (a, b)
  obeys_parts (obeys_data_match e c d) = inl (e, c, d)
  obeys_parts (obeys_other_match e f) = inr (e, f)
  obeys_parts (obeys_call s) = s
  obeys_parts obeys_tuple = tt
  obeys_parts (obeys_build s) = s
  obeys_parts (obeys_make d s) = (d, s)
  obeys_parts (obeys_fetch d) = d
  obeys_parts (obeys_store d s) = (d, s)
  obeys_parts (obeys_divide d) = d
  obeys_parts (obeys_remainder d) = d
  obeys_parts (obeys_assert d) = d
  obeys_parts (obeys_assert_false d) = d
  obeys_parts obeys_read = tt
  obeys_parts obeys_print = tt
  obeys_parts obeys_map_empty = tt
  obeys_parts (obeys_map_add s m) = tt
  obeys_parts obeys_map_find = tt

  pub recursive_parts : {Γ : Context} {g p y : ℕ} {b : Block} → IsRecursive P A Γ g p y b → Against P A (recursive_context P Γ g p y) b (recursive_type P p y)
  recursive_parts (is_recursive n m b) = b

  abbrev pub AgainstParts : Context → Block → Refined → Type 0
  AgainstParts Γ (last l o) t = Obeys P A Γ o t × (passes_on o ≡ false → IsSubtype P.setting A Γ (type_of P Γ o) t)
  AgainstParts Γ (binding x l o b) t = Obeys P A Γ o (type_of P Γ o) × Against P A (bind x (type_of P Γ o) Γ) b t
  AgainstParts Γ (recursive g p y b c) t =
      Against P A (recursive_context P Γ g p y) b (recursive_type P p y) × Against P A (bind g (P.template p) Γ) c t

  pub against_parts : {Γ : Context} {b : Block} {t : Refined} → Against P A Γ b t → AgainstParts Γ b t
  against_parts (against_last o s) = (o, s)
  against_parts (against_binding o n b) = (o, b)
  against_parts (against_recursive r b) = (recursive_parts r, b)

module _ (P : Basis) (Q : Points) where
  abbrev pub OperationHas : Types → Operation → MlType → Type 0
  OperationHas Δ (pure e) a = HasPure Q Δ e a
  OperationHas Δ (fun p y b) a = (s : MlType) × (u : MlType) × (a ≡ ml.arrow s u) × HasBlock P Q ((y, s) ∷ Δ) b u
  OperationHas Δ (if_else p c d e) a = HasPure Q Δ c ml.bool × HasBlock P Q Δ d a × HasBlock P Q Δ e a
  OperationHas Δ (match_on p u arms) a = HaveArms P Q Δ (typing.type_of_use Q Δ u) arms a
  OperationHas Δ (call g e) a = (s : MlType) × HasPure Q Δ g (ml.arrow s a) × HasPure Q Δ e s
  OperationHas Δ (tuple es) a = (us : MlTypes) × HavePures Q Δ es us
  OperationHas Δ (build p c es) a =
      (k : Constructor) × (us : MlTypes) × (P.setting.constructors c ≡ Some k) × (Q.point p ≡ ml.named k.datatype us) × HavePures Q Δ es (fields_at us k)
  OperationHas Δ (make p n e) a = (c : MlType) × HasPure Q Δ n ml.int × HasPure Q Δ e c
  OperationHas Δ (fetch u i) a = (typing.type_of_use Q Δ u ≡ ml.array a) × HasPure Q Δ i ml.int
  OperationHas Δ (store u i e) a = (c : MlType) × (typing.type_of_use Q Δ u ≡ ml.array c) × HasPure Q Δ i ml.int × HasPure Q Δ e c
  OperationHas Δ (divide x y) a = HasPure Q Δ x ml.int × HasPure Q Δ y ml.int
  OperationHas Δ (remainder x y) a = HasPure Q Δ x ml.int × HasPure Q Δ y ml.int
  OperationHas Δ (assert e) a = HasPure Q Δ e ml.bool
  OperationHas Δ (assert_false p) a = Unit {0}
  OperationHas Δ (read e) a = HasPure Q Δ e ml.unit
  OperationHas Δ (print e) a = HasPure Q Δ e ml.int
  OperationHas Δ (map_empty p) a = Unit {0}
  OperationHas Δ (map_add p k e m) a = Unit {0}
  OperationHas Δ (map_find k m) a = Unit {0}

  pub operation_has : {Δ : Types} {o : Operation} {a : MlType} → HasOperation P Q Δ o a → OperationHas Δ o a
  operation_has (has_pure h) = h
  operation_has (has_fun {a = s} {c = u} h) = (s, u, refl, h)
  operation_has (has_if c d e) = (c, d, e)
  operation_has (has_match h) = h
  operation_has (has_call {a = s} f e) = (s, f, e)
  operation_has (has_tuple {us = us} h) = (us, h)
  operation_has (has_build {k = k} {us = us} i n p h) = (k, us, i, p, h)
  operation_has (has_make {a = c} p n e) = (c, n, e)
  operation_has (has_fetch u i) = (u, i)
  operation_has (has_store {a = c} u i e) = (c, u, i, e)
  operation_has (has_divide x y) = (x, y)
  operation_has (has_remainder x y) = (x, y)
  operation_has (has_assert e) = e
  operation_has (has_assert_false p) = tt
  operation_has (has_read e) = e
  operation_has (has_print e) = e
  operation_has (has_map_empty p) = tt
  operation_has (has_map_add p k e m) = tt
  operation_has (has_map_find k m) = tt

  abbrev pub RecursiveHas : Types → ℕ → ℕ → ℕ → Block → Type 0
  RecursiveHas Δ g p y b = (s : MlType) × (u : MlType) × (Q.point p ≡ ml.arrow s u) × HasBlock P Q ((y, s) ∷ (g, Q.point p) ∷ Δ) b u

  pub recursive_has : {Δ : Types} {g p y : ℕ} {b : Block} → HasRecursive P Q Δ g p y b → RecursiveHas Δ g p y b
  recursive_has (has_body {a = s} {c = u} e h) = (s, u, e, h)

  abbrev pub BlockHas : Types → Block → MlType → Type 0
  BlockHas Δ (last l o) a = HasOperation P Q Δ o a
  BlockHas Δ (binding x l o b) a = (c : MlType) × HasOperation P Q Δ o c × IsPointed Q o c × HasBlock P Q ((x, c) ∷ Δ) b a
  BlockHas Δ (recursive g p y b c) a = RecursiveHas Δ g p y b × HasBlock P Q ((g, Q.point p) ∷ Δ) c a

  pub block_has : {Δ : Types} {b : Block} {a : MlType} → HasBlock P Q Δ b a → BlockHas Δ b a
  block_has (has_last h) = h
  block_has (has_binding {a = c} h i b) = (c, h, i, b)
  block_has (has_recursive r c) = (recursive_has r, c)

  abbrev pub ArmsHave : Types → MlType → Arms → MlType → Type 0
  ArmsHave Δ a no_arms c = Unit {0}
  ArmsHave Δ a (arm q b arms) c = (Θ : Types) × HasPattern P Δ a q Θ × HasBlock P Q Θ b c × HaveArms P Q Δ a arms c

  pub arms_have : {Δ : Types} {a c : MlType} {arms : Arms} → HaveArms P Q Δ a arms c → ArmsHave Δ a arms c
  arms_have have_no_arms = tt
  arms_have (have_arm {Θ = Θ} q b rest) = (Θ, q, b, rest)

-- ---- arms

-- one of two, by a test that is known
pub where_true : (z : Bool) (X Y : Type 0) → z ≡ true → Where z X Y → X
where_true true X Y e h = h
where_true false X Y e h = absurd (cc)

pub where_false : (z : Bool) (X Y : Type 0) → z ≡ false → Where z X Y → Y
where_false false X Y e h = h
where_false true X Y e h = absurd (cc)

pub here_true : (z : Bool) (X Y : Type 0) → z ≡ true → X → Where z X Y
here_true true X Y e h = h
here_true false X Y e h = absurd (cc)

pub here_false : (z : Bool) (X Y : Type 0) → z ≡ false → Y → Where z X Y
here_false false X Y e h = h
here_false true X Y e h = absurd (cc)

pub where_both : (z : Bool) (X Y X2 Y2 X3 Y3 : Type 0) → (X → X2 → X3) → (Y → Y2 → Y3) → Where z X Y → Where z X2 Y2 → Where z X3 Y3
where_both true X Y X2 Y2 X3 Y3 f g h k = f h k
where_both false X Y X2 Y2 X3 Y3 f g h k = g h k

module _ (P : Basis) (A : Assignment) where
  abbrev pub CaseParts : Context → Use → Bool → ℕ → Refined → Arms → Type 0
  CaseParts Γ u d c t no_arms = Where d (Unit {0}) (Demanded P A (missing_context P Γ u c) falsity)
  CaseParts Γ u d c t (arm q b arms) = Where (is_arm_of c q) (Against P A (in_arm P Γ u q) b t) (IsCase P A Γ u d c t arms)

  pub case_parts : {Γ : Context} {u : Use} {d : Bool} {c : ℕ} {t : Refined} {arms : Arms} → IsCase P A Γ u d c t arms → CaseParts Γ u d c t arms
  case_parts (case_here e n b) = here_true _ _ _ e b
  case_parts (case_later e r) = here_false _ _ _ e r
  case_parts case_default = tt
  case_parts (case_missing d) = d

  abbrev pub DefaultParts : Context → Use → Refined → Arms → Type 0
  DefaultParts Γ u t no_arms = Unit {0}
  DefaultParts Γ u t (arm q b arms) = Where (takes_all q) (Against P A (in_arm P Γ u q) b t) (IsDefault P A Γ u arms t)

  pub default_parts : {Γ : Context} {u : Use} {t : Refined} {arms : Arms} → IsDefault P A Γ u arms t → DefaultParts Γ u t arms
  default_parts default_none = tt
  default_parts (default_here e n b) = here_true _ _ _ e b
  default_parts (default_later e r) = here_false _ _ _ e r

  abbrev pub FirstParts : Context → Use → Refined → Arms → Type 0
  FirstParts Γ u t no_arms = Unit {0}
  FirstParts Γ u t (arm q b arms) = Against P A (in_arm P Γ u q) b t

  pub first_parts : {Γ : Context} {u : Use} {t : Refined} {arms : Arms} → IsFirst P A Γ u arms t → FirstParts Γ u t arms
  first_parts first_none = tt
  first_parts (first_arm n b) = b

  abbrev CasesParts : Context → Use → Arms → Refined → List ℕ → Type 0
  CasesParts Γ u arms t [] = Unit {0}
  CasesParts Γ u arms t (c ∷ cs) = IsCase P A Γ u (has_default arms) c t arms × AreCases P A Γ u arms t cs

  cases_parts : {Γ : Context} {u : Use} {arms : Arms} {t : Refined} {cs : List ℕ} → AreCases P A Γ u arms t cs → CasesParts Γ u arms t cs
  cases_parts cases_none = tt
  cases_parts (cases_more c rest) = (c, rest)

  -- the case of a constructor that is listed
  pub case_of : (Γ : Context) (u : Use) (arms : Arms) (t : Refined) (cs : List ℕ) (c : ℕ) → IsIn cs c → AreCases P A Γ u arms t cs → IsCase P A Γ u (has_default arms) c t arms
  case_of Γ u arms t [] c i h = absurd i
  case_of Γ u arms t (b ∷ cs) c (inl e) h = subst (λ z. IsCase P A Γ u (has_default arms) z t arms) e (cases_parts h).0
  case_of Γ u arms t (b ∷ cs) c (inr i) h = case_of Γ u arms t cs c i (cases_parts h).1
