-- What simple typing says of the parts of a program, and what is suited to a type.
use Rattle.std.proofs.Common.{◌≡◌, ◌∙◌, ℕ, suc, Bool, true, false, not, cond, List, ◌∷◌, length, Some, refl, sym, ap, subst}
use Rattle.lq_base_names.specs.declared.place.Place.{Place}
use Rattle.lq_refined_rules.specs.Checks.Basis.{Basis}
use Rattle.lq_refined_rules.specs.Checks.Fitting.{Fits}
use Rattle.lq_refined_rules.specs.Checks.Operation.{type_of}
use Rattle.lq_refined_rules.specs.Checks.Ready.{IsReadyOperation, Where}
use Rattle.lq_refined_rules.specs.Checks.Tree.{has_template, is_fun, last_operation, passes_on, Use, Pattern, Arms, arm, Pure, Operation, pure, fun, if_else, match_on, call, tuple, build, make, fetch, store, divide, remainder, assert, assert_false, read, print, map_empty, map_add, map_find, Block, last, binding, recursive, Program, define, define_recursive, run_unit, run_any}
use Rattle.lq_refined_rules.specs.Checks.Typing.{Points, AreTemplates, IsPointed, Types, type_of_use, HavePures, have_none, have_more, HasPattern, HasOperation, has_fun, has_if, has_match, has_build, has_fetch, has_store, HaveArms, have_arm, HasBlock, has_last, has_binding, has_recursive, HasRecursive, has_body, HasEnd, end_last, end_binding, end_recursive, HasProgram, has_define, has_define_recursive, has_run_unit, has_run_any}
use Rattle.lq_refined_types.specs.Types.Context.{Context}
use Rattle.lq_refined_types.specs.Types.Refined.{Refined, erased}
use Rattle.lq_text_tree.specs.MlType as ml
use Rattle.lq_text_tree.specs.MlType.{MlType, MlTypes}
use Rattle.lq_text_tree.specs.Types.{Constructor, count_types, put_all, type_at}
use Rattle.lq_sound_scope.specs.Scalars.Written.{end_point, function_point, IsFunctionFor, IsGivenWritten, IsNameless, IsOperationFor}
use Rattle.lq_sound_scope.proofs.ScalarsLemmas.NameKinds.{Agree, Naming, operation_kinds}

-- ---- types

abbrev pub result_in : MlType → MlType
result_in (ml.arrow a b) = b
result_in _ = ml.unit

abbrev pub argument_in : MlType → MlType
argument_in (ml.arrow a b) = a
argument_in _ = ml.unit

pub where_or : (X Y : Type 0) (b : Bool) → Where b (Unit {0}) X → (b ≡ false → X → Y) → Where b (Unit {0}) Y
where_or X Y true h f = tt
where_or X Y false h f = f refl h

-- one of two by a test, of one of two
pub where_either : (b : Bool) (R S X Y : Type 0) → Where b R S → (b ≡ true → R → X) → (b ≡ false → S → Y) → Where b X Y
where_either true R S X Y h f g = f refl h
where_either false R S X Y h f g = g refl h

-- ---- constructors

put_count : (by : ℕ → MlType) (fs : MlTypes) → count_types (put_all by fs) ≡ count_types fs
put_count by ml.no_types = refl
put_count by (ml.more_types f fs) = ap suc (put_count by fs)

pures_count : {Q : Points} {Δ : Types} {es : List Pure} {us : MlTypes} → HavePures Q Δ es us → length es ≡ count_types us
pures_count have_none = refl
pures_count (have_more h hs) = ap suc (pures_count hs)

module _ (P : Basis) (Q : Points) where
  -- a constructor with its datatype's arguments and as many operands as fields
  pub record IsBuilt (p c : ℕ) (es : List Pure) : Type 0 where
    pub made : Constructor
    pub arguments : MlTypes
    pub there : P.setting.constructors c ≡ Some made
    pub point : Q.point p ≡ ml.named made.datatype arguments
    pub count : length es ≡ count_types made.fields

  pub built_typing : {Δ : Types} {p c : ℕ} {es : List Pure} {a : MlType} → HasOperation P Q Δ (build p c es) a → IsBuilt p c es
  built_typing (has_build {k = k} {us = us} e n q h) =
      record { made = k; arguments = us; there = e; point = q; count = pures_count h ∙ put_count (type_at us) k.fields }

  -- what typing says of a function, a conditional, a match, a constructor and what is written into an array, against a type
  abbrev pub IsSuited : Types → Operation → Refined → Type 0
  IsSuited Δ (fun p y b) t =
      IsFunctionFor y b t × ((u : MlType) × ((v : MlType) × (HasBlock P Q ((y, u) ∷ Δ) b v × (erased t ≡ ml.arrow u v))))
  IsSuited Δ (if_else p c a b) t = IsNameless t × HasBlock P Q Δ a (erased t) × HasBlock P Q Δ b (erased t)
  IsSuited Δ (match_on p u arms) t = IsNameless t × HaveArms P Q Δ (type_of_use Q Δ u) arms (erased t)
  IsSuited Δ (build p c es) t = IsBuilt p c es
  IsSuited Δ (store u i e) t = (a : MlType) × (type_of_use Q Δ u ≡ ml.array a)
  IsSuited Δ _ t = Unit {0}

  pub fun_typing : {Δ : Types} {p y : ℕ} {b : Block} {a : MlType} → HasOperation P Q Δ (fun p y b) a
      → (u : MlType) × ((v : MlType) × (HasBlock P Q ((y, u) ∷ Δ) b v × (a ≡ ml.arrow u v)))
  fun_typing (has_fun {a = u} {c = v} h) = (u, (v, (h, refl)))

  pub if_typing : {Δ : Types} {p : ℕ} {c : Pure} {a b : Block} {t : MlType} → HasOperation P Q Δ (if_else p c a b) t
      → HasBlock P Q Δ a t × HasBlock P Q Δ b t
  if_typing (has_if e h k) = (h, k)

  pub match_typing : {Δ : Types} {p : ℕ} {u : Use} {arms : Arms} {t : MlType} → HasOperation P Q Δ (match_on p u arms) t
      → HaveArms P Q Δ (type_of_use Q Δ u) arms t
  match_typing (has_match h) = h

  pub fetch_typing : {Δ : Types} {u : Use} {i : Pure} {t : MlType} → HasOperation P Q Δ (fetch u i) t → (a : MlType) × (type_of_use Q Δ u ≡ ml.array a)
  fetch_typing (has_fetch {a = a} e h) = (a, e)

  pub store_typing : {Δ : Types} {u : Use} {i e : Pure} {t : MlType} → HasOperation P Q Δ (store u i e) t
      → (a : MlType) × (type_of_use Q Δ u ≡ ml.array a)
  store_typing (has_store {a = a} e h k) = (a, e)

  pub arm_typing : {Δ : Types} {a c : MlType} {q : Pattern} {b : Block} {arms : Arms} → HaveArms P Q Δ a (arm q b arms) c
      → (Θ : Types) × (HasPattern P Δ a q Θ × HasBlock P Q Θ b c × HaveArms P Q Δ a arms c)
  arm_typing (have_arm {Θ = Θ} q h r) = (Θ, (q, h, r))

  pub last_typing : {Δ : Types} {l : Place} {o : Operation} {a : MlType} → HasBlock P Q Δ (last l o) a → HasOperation P Q Δ o a
  last_typing (has_last h) = h

  pub binding_typing : {Δ : Types} {x : ℕ} {l : Place} {o : Operation} {b : Block} {c : MlType} → HasBlock P Q Δ (binding x l o b) c
      → (a : MlType) × (HasOperation P Q Δ o a × IsPointed Q o a × HasBlock P Q ((x, a) ∷ Δ) b c)
  binding_typing (has_binding {a = a} h q k) = (a, (h, q, k))

  -- of a recursive function
  abbrev pub RecursiveTyping : Types → ℕ → ℕ → ℕ → Block → Type 0
  RecursiveTyping Δ g p y b =
      (u : MlType) × ((v : MlType) × (HasBlock P Q ((y, u) ∷ (g, Q.point p) ∷ Δ) b v × (Q.point p ≡ ml.arrow u v)))

  pub body_typing : {Δ : Types} {g p y : ℕ} {b : Block} → HasRecursive P Q Δ g p y b → RecursiveTyping Δ g p y b
  body_typing (has_body {a = u} {c = v} e h) = (u, (v, (h, e)))

  pub recursive_typing : {Δ : Types} {g p y : ℕ} {b c : Block} {a : MlType} → HasBlock P Q Δ (recursive g p y b c) a
      → RecursiveTyping Δ g p y b × HasBlock P Q ((g, Q.point p) ∷ Δ) c a
  recursive_typing (has_recursive h k) = (body_typing h, k)

  pub end_last_typing : {Δ Θ : Types} {l : Place} {o : Operation} {a : MlType} → HasEnd P Q Δ (last l o) Θ a
      → HasOperation P Q Δ o a × IsPointed Q o a
  end_last_typing (end_last h q) = (h, q)

  pub end_last_fits : {Δ Θ : Types} {l : Place} {o : Operation} {a : MlType} {Γ : Context} → HasEnd P Q Δ (last l o) Θ a → Fits Δ Γ → Fits Θ Γ
  end_last_fits (end_last h q) f = f

  pub end_binding_typing : {Δ Θ : Types} {x : ℕ} {l : Place} {o : Operation} {b : Block} {c : MlType} → HasEnd P Q Δ (binding x l o b) Θ c
      → (a : MlType) × (HasOperation P Q Δ o a × IsPointed Q o a × HasEnd P Q ((x, a) ∷ Δ) b Θ c)
  end_binding_typing (end_binding {a = a} h q k) = (a, (h, q, k))

  pub end_recursive_typing : {Δ Θ : Types} {g p y : ℕ} {b c : Block} {a : MlType} → HasEnd P Q Δ (recursive g p y b c) Θ a
      → RecursiveTyping Δ g p y b × HasEnd P Q ((g, Q.point p) ∷ Δ) c Θ a
  end_recursive_typing (end_recursive h k) = (body_typing h, k)

  -- where the block ends in a function, the function's point has its type
  end_function : {Δ Θ : Types} {b : Block} {a : MlType} → HasEnd P Q Δ b Θ a → has_template b ≡ false → Q.point (function_point (last_operation b)) ≡ a
  end_function (end_last {o = o} {a = a} h q) e = by o q e
    where
      by : (o : Operation) → IsPointed Q o a → not (is_fun o) ≡ false → Q.point (function_point o) ≡ a
      by (fun p y b) q e = q
      by (pure z) q e = cc
      by (if_else p c x y) q e = cc
      by (match_on p u arms) q e = cc
      by (call f z) q e = cc
      by (tuple es) q e = cc
      by (build p c es) q e = cc
      by (make p n z) q e = cc
      by (fetch u i) q e = cc
      by (store u i z) q e = cc
      by (divide x y) q e = cc
      by (remainder x y) q e = cc
      by (assert z) q e = cc
      by (assert_false p) q e = cc
      by (read z) q e = cc
      by (print z) q e = cc
      by (map_empty p) q e = cc
      by (map_add p z w n) q e = cc
      by (map_find z n) q e = cc
  end_function (end_binding h q k) e = end_function k e
  end_function (end_recursive h k) e = end_function k e

  -- the point of a definition has its type
  end_pointed : (b : Block) (k : ℕ) (a : MlType) → (has_template b ≡ true → Q.point k ≡ a)
      → (has_template b ≡ false → Q.point (function_point (last_operation b)) ≡ a) → Q.point (end_point b k) ≡ a
  end_pointed b k a f g = by (has_template b) f g
    where
      by : (c : Bool) → (c ≡ true → Q.point k ≡ a) → (c ≡ false → Q.point (function_point (last_operation b)) ≡ a)
          → Q.point (cond c k (function_point (last_operation b))) ≡ a
      by true f g = f refl
      by false f g = g refl

  pub define_typing : {Δ : Types} {x k : ℕ} {l : Place} {b : Block} {rest : Program} → HasProgram P Q Δ (define x l k b rest)
      → (Θ : Types) × ((a : MlType) × (HasEnd P Q Δ b Θ a × HasProgram P Q ((x, a) ∷ Θ) rest × (Q.point (end_point b k) ≡ a)))
  define_typing (has_define {Θ = Θ} {k = k} {b = b} {a = a} e h r) = (Θ, (a, (h, r, end_pointed b k a e (end_function h))))

  pub define_recursive_typing : {Δ : Types} {g p y : ℕ} {b : Block} {rest : Program} → HasProgram P Q Δ (define_recursive g p y b rest)
      → RecursiveTyping Δ g p y b × HasProgram P Q ((g, Q.point p) ∷ Δ) rest
  define_recursive_typing (has_define_recursive h k) = (body_typing h, k)

  pub unit_typing : {Δ : Types} {b : Block} {rest : Program} → HasProgram P Q Δ (run_unit b rest) → HasBlock P Q Δ b ml.unit × HasProgram P Q Δ rest
  unit_typing (has_run_unit h k) = (h, k)

  pub any_typing : {Δ : Types} {b : Block} {rest : Program} → HasProgram P Q Δ (run_any b rest)
      → (Θ : Types) × ((a : MlType) × (HasEnd P Q Δ b Θ a × HasProgram P Q Δ rest))
  any_typing (has_run_any {Θ = Θ} {a = a} h k) = (Θ, (a, (h, k)))

  pub suited_last : (Δ : Types) (o : Operation) (t : Refined) → HasOperation P Q Δ o (erased t) → IsOperationFor o t → IsSuited Δ o t
  suited_last Δ (fun p y b) t h w = (w, fun_typing h)
  suited_last Δ (if_else p c a b) t h w = (w, (if_typing h).0, (if_typing h).1)
  suited_last Δ (pure e) t h w = tt
  suited_last Δ (match_on p u arms) t h w = (w, match_typing h)
  suited_last Δ (call g a) t h w = tt
  suited_last Δ (tuple es) t h w = tt
  suited_last Δ (build p c es) t h w = built_typing h
  suited_last Δ (make p n e) t h w = tt
  suited_last Δ (fetch u i) t h w = tt
  suited_last Δ (store u i e) t h w = store_typing h
  suited_last Δ (divide x y) t h w = tt
  suited_last Δ (remainder x y) t h w = tt
  suited_last Δ (assert e) t h w = tt
  suited_last Δ (assert_false p) t h w = tt
  suited_last Δ (read e) t h w = tt
  suited_last Δ (print e) t h w = tt
  suited_last Δ (map_empty p) t h w = tt
  suited_last Δ (map_add p k e m) t h w = tt
  suited_last Δ (map_find k m) t h w = tt

  pub suited_given : AreTemplates P Q → (Δ : Types) (Γ : Context) (o : Operation) (a : MlType) → HasOperation P Q Δ o a → IsPointed Q o a
      → IsGivenWritten P o → IsSuited Δ o (type_of P Γ o)
  suited_given T Δ Γ (fun p y b) a h q w =
      let e : erased (P.template p) ≡ a = T.templates p ∙ q in
      let f = fun_typing h in (w, (f.0, (f.1.0, (f.1.1.0, e ∙ f.1.1.1))))
  suited_given T Δ Γ (if_else p c x y) a h q w =
      let e : erased (P.template p) ≡ a = T.templates p ∙ q in
      let f = if_typing h in (w, subst (λ t. HasBlock P Q Δ x t) (sym e) f.0, subst (λ t. HasBlock P Q Δ y t) (sym e) f.1)
  suited_given T Δ Γ (pure e) a h q w = tt
  suited_given T Δ Γ (match_on p u arms) a h q w =
      let e : erased (P.template p) ≡ a = T.templates p ∙ q in
      (w, subst (λ t. HaveArms P Q Δ (type_of_use Q Δ u) arms t) (sym e) (match_typing h))
  suited_given T Δ Γ (call g e) a h q w = tt
  suited_given T Δ Γ (tuple es) a h q w = tt
  suited_given T Δ Γ (build p c es) a h q w = built_typing h
  suited_given T Δ Γ (make p n e) a h q w = tt
  suited_given T Δ Γ (fetch u i) a h q w = tt
  suited_given T Δ Γ (store u i e) a h q w = store_typing h
  suited_given T Δ Γ (divide x y) a h q w = tt
  suited_given T Δ Γ (remainder x y) a h q w = tt
  suited_given T Δ Γ (assert e) a h q w = tt
  suited_given T Δ Γ (assert_false p) a h q w = tt
  suited_given T Δ Γ (read e) a h q w = tt
  suited_given T Δ Γ (print e) a h q w = tt
  suited_given T Δ Γ (map_empty p) a h q w = tt
  suited_given T Δ Γ (map_add p k e m) a h q w = tt
  suited_given T Δ Γ (map_find k m) a h q w = tt

  -- Where no branch or body is checked against the type of a block, this has no names, no template is taken, and nothing else depends on it.
  pub others : (m : Naming) (Γ : Context) (o : Operation) (t s : Refined) → passes_on o ≡ false → IsOperationFor o t → IsReadyOperation P Γ o t
      → IsNameless t × IsGivenWritten P o × IsReadyOperation P Γ o s × Agree m (operation_kinds P Γ o s)
  others m Γ (fun p y b) t s f w r = cc
  others m Γ (if_else p c a b) t s f w r = cc
  others m Γ (match_on p u arms) t s f w r = cc
  others m Γ (pure e) t s f w r = (w, tt, r, tt)
  others m Γ (call g a) t s f w r = (w, tt, r, tt)
  others m Γ (tuple es) t s f w r = (w, tt, r, tt)
  others m Γ (build p c es) t s f w r = (w, tt, r, tt)
  others m Γ (make p n e) t s f w r = (w, tt, r, tt)
  others m Γ (fetch u i) t s f w r = (w, tt, r, tt)
  others m Γ (store u i e) t s f w r = (w, tt, r, tt)
  others m Γ (divide x y) t s f w r = (w, tt, r, tt)
  others m Γ (remainder x y) t s f w r = (w, tt, r, tt)
  others m Γ (assert e) t s f w r = (w, tt, r, tt)
  others m Γ (assert_false p) t s f w r = (w, tt, r, tt)
  others m Γ (read e) t s f w r = (w, tt, r, tt)
  others m Γ (print e) t s f w r = (w, tt, r, tt)
  others m Γ (map_empty p) t s f w r = (w, tt, r, tt)
  others m Γ (map_add p k e n) t s f w r = (w, tt, r, tt)
  others m Γ (map_find k n) t s f w r = (w, tt, r, tt)
