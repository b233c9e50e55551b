-- The type of no definition is a type variable alone.
use Rattle.std.proofs.Common.{◌≡◌, ◌∙◌, ◌⊎◌, inl, inr, ℕ, ◌==◌, Bool, true, false, ◌||◌, not, cond, [], ◌∷◌, Option, Some, None, refl, sym, ap}
use Rattle.std.proofs.lemmas.Bool.{eqb-true}
use Rattle.lq_refined_rules.specs.Checks.Basis.{Basis}
use Rattle.lq_refined_rules.specs.Checks.Operation.{bind, last_context, last_type, type_of}
use Rattle.lq_refined_rules.specs.Checks.Pure.{instance_of, pure_type, type_of_use, variable_type}
use Rattle.lq_refined_rules.specs.Checks.Ready.{IsReady, SameType, Where}
use Rattle.lq_refined_rules.specs.Checks.Tree as t
use Rattle.lq_refined_rules.specs.Checks.Tree.{Use, is_fun, last_operation}
use Rattle.lq_refined_rules.specs.Checks.Typing.{AreTemplates, Points, Types, IsPointed, HasOperation, has_fun, has_body, HasEnd, end_last, end_binding, HasProgram, has_define, has_define_recursive, has_run_unit, has_run_any}
use Rattle.lq_base_names.specs.declared.place.Place.{Place}
use Rattle.lq_sound_values.specs.Inclusion.Symbols.{Symbols}
use Rattle.lq_sound_scope.specs.Scopes.InScope.{BlockInScope, InScope, OperationInScope, PureInScope, no_names, with_name}
use Rattle.lq_logic_predicates.specs.declared.symbol.Symbol.TheVariants.{Value, Bound, Position}
use Rattle.lq_sound_forms.specs.Quiet.Quiet.{IsValueBlock, IsValueOperation}
use Rattle.lq_refined_types.specs.Types.Context.{Context, name, guard, type_in}
use Rattle.lq_refined_types.specs.Types.Operations.{instantiated, symbol_of}
use Rattle.lq_refined_types.specs.Types.Refined.{Refined, int_with, bool_with, unit_type, function, tuple_of, array_with, data_with, map_with, type_variable, Refineds, erased}
use Rattle.lq_sound_scope.specs.Scalars.Scalar.{HasNoTypeVariables}
use Rattle.lq_sound_scope.specs.Scalars.Written.{AreItemsWritten, HasNamelessArguments, function_point}
use Rattle.lq_refined_templates.specs.Templates.Scopes.{Unknown}
use Rattle.lq_text_tree.specs.MlType as ml
use Rattle.lq_text_tree.specs.MlType.{MlType}
use Rattle.lq_sound_adequacy.specs.Obligations.Kinds.{DefinitionsFixed, GivenKinds, NameKind, ProgramKinds, is_variable}
use Rattle.lq_sound_adequacy.proofs.ObligationsLemmas.Pures as pures
use Rattle.lq_sound_adequacy.specs.Programs.Kinds.{is_bare}
use Rattle.lq_sound_adequacy.specs.Programs.Laws.{DefinitionsAreFixed}
use Rattle.lq_sound_adequacy.proofs.ProgramsLemmas.Erasing.{kind_erased, variable_erased}

-- ---- types that are no type variable

variable_is : (T : Refined) → is_variable T ≡ is_bare (erased T)
variable_is T = ap (λ (k : NameKind). k.1) (kind_erased T)

same_variable : (S T : Refined) → SameType S T → is_variable S ≡ is_variable T
same_variable S T e = variable_is S ∙ ap is_bare e ∙ sym (variable_is T)

closed_bare : (a : MlType) → HasNoTypeVariables a → is_bare a ≡ false
closed_bare ml.int h = refl
closed_bare ml.bool h = refl
closed_bare ml.unit h = refl
closed_bare (ml.var i) h = absurd h
closed_bare (ml.arrow a b) h = refl
closed_bare (ml.tuple ts) h = refl
closed_bare (ml.array a) h = refl
closed_bare (ml.named d ts) h = refl
closed_bare (ml.map_of a) h = refl

closed_fixed : (T : Refined) → HasNoTypeVariables (erased T) → is_variable T ≡ false
closed_fixed T h = variable_is T ∙ closed_bare (erased T) h

instance_fixed : (Ts : Refineds) (T : Refined) → is_variable T ≡ false → is_variable (instantiated Ts T) ≡ false
instance_fixed Ts (int_with p) e = refl
instance_fixed Ts (bool_with p) e = refl
instance_fixed Ts unit_type e = refl
instance_fixed Ts (function x a b) e = refl
instance_fixed Ts (tuple_of ts) e = refl
instance_fixed Ts (array_with a p) e = refl
instance_fixed Ts (data_with d ts m p) e = refl
instance_fixed Ts (map_with a p) e = refl
instance_fixed Ts (type_variable i) e = cc

-- ---- what a typed program is made of

fun_bare : {P : Basis} {Q : Points} {Δ : Types} {q y : ℕ} {b : t.Block} {a : MlType} → HasOperation P Q Δ (t.fun q y b) a → is_bare a ≡ false
fun_bare (has_fun h) = refl

last_of : {P : Basis} {Q : Points} {Δ Θ : Types} {l : Place} {o : t.Operation} {a : MlType} → HasEnd P Q Δ (t.last l o) Θ a
    → HasOperation P Q Δ o a × IsPointed Q o a
last_of (end_last h q) = (h, q)

binding_of : {P : Basis} {Q : Points} {Δ Θ : Types} {x : ℕ} {l : Place} {o : t.Operation} {b : t.Block} {c : MlType} → HasEnd P Q Δ (t.binding x l o b) Θ c
    → (a : MlType) × HasOperation P Q Δ o a × IsPointed Q o a × HasEnd P Q ((x, a) ∷ Δ) b Θ c
binding_of (end_binding {a = a} h q k) = (a, h, q, k)

define_of : {P : Basis} {Q : Points} {Δ : Types} {x k : ℕ} {l : Place} {b : t.Block} {rest : t.Program} → HasProgram P Q Δ (t.define x l k b rest)
    → (Θ : Types) × (a : MlType) × HasEnd P Q Δ b Θ a × HasProgram P Q ((x, a) ∷ Θ) rest
define_of (has_define {Θ = Θ} {a = a} q h r) = (Θ, a, h, r)

recursive_of : {P : Basis} {Q : Points} {Δ : Types} {g p y : ℕ} {b : t.Block} {rest : t.Program} → HasProgram P Q Δ (t.define_recursive g p y b rest)
    → (is_bare (Q.point p) ≡ false) × HasProgram P Q ((g, Q.point p) ∷ Δ) rest
recursive_of (has_define_recursive (has_body e h) r) = (ap is_bare e, r)

unit_of : {P : Basis} {Q : Points} {Δ : Types} {b : t.Block} {rest : t.Program} → HasProgram P Q Δ (t.run_unit b rest) → HasProgram P Q Δ rest
unit_of (has_run_unit h r) = r

any_of : {P : Basis} {Q : Points} {Δ : Types} {b : t.Block} {rest : t.Program} → HasProgram P Q Δ (t.run_any b rest) → HasProgram P Q Δ rest
any_of (has_run_any h r) = r

module _ (P : Basis) (unknowns : ℕ → Unknown) (Q : Points) (templates : AreTemplates P Q) (K : ℕ → NameKind) where
  -- ---- environments

  -- each name has the kind of its type
  abbrev Kinded : Context → Type 0
  Kinded = pures.Kinded P unknowns K

  looked_up : (Γ : Context) → Kinded Γ → (x : ℕ) → (K x).1 ≡ false → is_variable (type_in Γ (symbol_of x)) ≡ false
  looked_up [] s x f = refl
  looked_up (name Value T ∷ Γ) s x f = absurd s
  looked_up (name (Position i) T ∷ Γ) s x f = absurd s
  looked_up (guard p ∷ Γ) s x f = looked_up Γ s x f
  looked_up (name (Bound y) T ∷ Γ) s x f = by (y.0 == x) refl (looked_up Γ s.1 x f)
    where
      by : (b : Bool) → (y.0 == x) ≡ b → is_variable (type_in Γ (symbol_of x)) ≡ false → is_variable (cond b T (type_in Γ (symbol_of x))) ≡ false
      by true e rest = sym (ap (λ (k : NameKind). k.1) s.0) ∙ ap (λ (z : ℕ). (K z).1) (eqb-true y.0 x e) ∙ f
      by false e rest = rest

  -- names in scope are of no type variable
  abbrev AreFixed : Symbols → Type 0
  AreFixed N = (z : ℕ) → N (symbol_of z) ≡ true → (K z).1 ≡ false

  fixed_with : (N : Symbols) → AreFixed N → (x : ℕ) → (K x).1 ≡ false → AreFixed (with_name N x)
  fixed_with N f x h z k = by (N (symbol_of z)) (x == z) k (f z) (λ e. ap (λ (y : ℕ). (K y).1) (sym (eqb-true x z e)) ∙ h)
    where
      by : (a b : Bool) → (a || b) ≡ true → (a ≡ true → (K z).1 ≡ false) → (b ≡ true → (K z).1 ≡ false) → (K z).1 ≡ false
      by true b e g i = g refl
      by false true e g i = i refl
      by false false e g i = cc

  -- ---- values

  use_fixed : (Γ : Context) → Kinded Γ → (u : Use) → (K u.name).1 ≡ false → is_variable (type_of_use P Γ u) ≡ false
  use_fixed Γ s u f = by u.type_arguments
    where
      by : (a : Option ℕ) → is_variable (instance_of P Γ a (type_in Γ (symbol_of u.name))) ≡ false
      by None = looked_up Γ s u.name f
      by (Some i) = instance_fixed (P.type_arguments i) (type_in Γ (symbol_of u.name)) (looked_up Γ s u.name f)

  pure_fixed : (N : Symbols) → AreFixed N → (Γ : Context) → Kinded Γ → (e : t.Pure) → PureInScope P unknowns N e → is_variable (pure_type P Γ e) ≡ false
  pure_fixed N f Γ s (t.use_of u) h =
      same_variable (variable_type P.setting.scopes u.name (type_of_use P Γ u)) (type_of_use P Γ u)
      (variable_erased P.setting.scopes u.name (type_of_use P Γ u)) ∙ use_fixed Γ s u (f u.name h.0)
  pure_fixed N f Γ s (t.whole n) h = refl
  pure_fixed N f Γ s (t.flag b) h = refl
  pure_fixed N f Γ s t.unit h = refl
  pure_fixed N f Γ s (t.negated a) h = refl
  pure_fixed N f Γ s (t.add a b) h = refl
  pure_fixed N f Γ s (t.subtract a b) h = refl
  pure_fixed N f Γ s (t.multiply a b) h = refl
  pure_fixed N f Γ s (t.length_of a) h = refl
  pure_fixed N f Γ s (t.compare o a b) h = refl
  pure_fixed N f Γ s (t.not_of a) h = refl
  pure_fixed N f Γ s (t.and_of a b) h = refl
  pure_fixed N f Γ s (t.or_of a b) h = refl

  operation_fixed : (N : Symbols) → AreFixed N → (Γ : Context) → Kinded Γ → (o : t.Operation) → IsValueOperation o → OperationInScope P unknowns N o
      → (Δ : Types) (a : MlType) → HasOperation P Q Δ o a → IsPointed Q o a → is_variable (type_of P Γ o) ≡ false
  operation_fixed N f Γ s (t.pure e) v h Δ A d q = pure_fixed N f Γ s e h
  operation_fixed N f Γ s (t.fun p y b) v h Δ A d q = variable_is (P.template p) ∙ ap is_bare (templates.templates p ∙ q) ∙ fun_bare d
  operation_fixed N f Γ s (t.tuple es) v h Δ A d q = refl
  operation_fixed N f Γ s (t.build p c es) v h Δ A d q = refl
  operation_fixed N f Γ s (t.if_else q c a b) v h Δ A d z = absurd v
  operation_fixed N f Γ s (t.match_on q u arms) v h Δ A d z = absurd v
  operation_fixed N f Γ s (t.call g a) v h Δ A d z = absurd v
  operation_fixed N f Γ s (t.make q n e) v h Δ A d z = absurd v
  operation_fixed N f Γ s (t.fetch u i) v h Δ A d z = absurd v
  operation_fixed N f Γ s (t.store u i e) v h Δ A d z = absurd v
  operation_fixed N f Γ s (t.divide x y) v h Δ A d z = absurd v
  operation_fixed N f Γ s (t.remainder x y) v h Δ A d z = absurd v
  operation_fixed N f Γ s (t.assert e) v h Δ A d z = absurd v
  operation_fixed N f Γ s (t.assert_false q) v h Δ A d z = absurd v
  operation_fixed N f Γ s (t.read e) v h Δ A d z = absurd v
  operation_fixed N f Γ s (t.print e) v h Δ A d z = absurd v
  operation_fixed N f Γ s (t.map_empty q) v h Δ A d z = absurd v
  operation_fixed N f Γ s (t.map_add q i e m) v h Δ A d z = absurd v
  operation_fixed N f Γ s (t.map_find i m) v h Δ A d z = absurd v

  value_fixed : (b : t.Block) → IsValueBlock b → (N : Symbols) → AreFixed N → BlockInScope P unknowns N b → (Γ : Context) → Kinded Γ → GivenKinds P K Γ b
      → (Δ Θ : Types) (a : MlType) → HasEnd P Q Δ b Θ a → is_variable (last_type P Γ b) ≡ false
  value_fixed (t.last l o) v N f h Γ s k Δ Θ a d = let e = last_of d in operation_fixed N f Γ s o v h Δ a e.0 e.1
  value_fixed (t.binding x l o b) v N f h Γ s k Δ Θ a d =
      let T : Refined = type_of P Γ o in
      let e = binding_of d in
      let fixed : is_variable T ≡ false = operation_fixed N f Γ s o v.0 h.0 Δ e.0 e.1 e.2 in
      value_fixed b v.1 (with_name N x) (fixed_with N f x (ap (λ (z : NameKind). z.1) k.1 ∙ fixed)) h.1 (bind x T Γ) (k.1, s) k.2 ((x, e.0) ∷ Δ) Θ a e.3
  value_fixed (t.recursive g p y b c) v N f h Γ s k Δ Θ a d = absurd v

  -- ---- what is no value

  closed_like : (S T : Refined) → SameType S T → HasNoTypeVariables (erased T) → is_variable S ≡ false
  closed_like S T e h = same_variable S T e ∙ closed_fixed T h

  end_fixed : (Γ : Context) (o : t.Operation) (k : ℕ) → HasNoTypeVariables (erased (P.template (cond (not (is_fun o)) k (function_point o))))
      → Where (not (is_fun o)) (SameType (type_of P Γ o) (P.template k)) (Unit {0}) → is_variable (type_of P Γ o) ≡ false
  end_fixed Γ (t.fun p y b) k h e = closed_fixed (P.template p) h
  end_fixed Γ (t.pure e) k h z = closed_like (type_of P Γ (t.pure e)) (P.template k) z h
  end_fixed Γ (t.if_else q c a b) k h z = closed_like (type_of P Γ (t.if_else q c a b)) (P.template k) z h
  end_fixed Γ (t.match_on q u arms) k h z = closed_like (type_of P Γ (t.match_on q u arms)) (P.template k) z h
  end_fixed Γ (t.call g a) k h z = closed_like (type_of P Γ (t.call g a)) (P.template k) z h
  end_fixed Γ (t.tuple es) k h z = closed_like (type_of P Γ (t.tuple es)) (P.template k) z h
  end_fixed Γ (t.build q c es) k h z = closed_like (type_of P Γ (t.build q c es)) (P.template k) z h
  end_fixed Γ (t.make q n e) k h z = closed_like (type_of P Γ (t.make q n e)) (P.template k) z h
  end_fixed Γ (t.fetch u i) k h z = closed_like (type_of P Γ (t.fetch u i)) (P.template k) z h
  end_fixed Γ (t.store u i e) k h z = closed_like (type_of P Γ (t.store u i e)) (P.template k) z h
  end_fixed Γ (t.divide x y) k h z = closed_like (type_of P Γ (t.divide x y)) (P.template k) z h
  end_fixed Γ (t.remainder x y) k h z = closed_like (type_of P Γ (t.remainder x y)) (P.template k) z h
  end_fixed Γ (t.assert e) k h z = closed_like (type_of P Γ (t.assert e)) (P.template k) z h
  end_fixed Γ (t.assert_false q) k h z = closed_like (type_of P Γ (t.assert_false q)) (P.template k) z h
  end_fixed Γ (t.read e) k h z = closed_like (type_of P Γ (t.read e)) (P.template k) z h
  end_fixed Γ (t.print e) k h z = closed_like (type_of P Γ (t.print e)) (P.template k) z h
  end_fixed Γ (t.map_empty q) k h z = closed_like (type_of P Γ (t.map_empty q)) (P.template k) z h
  end_fixed Γ (t.map_add q i e m) k h z = closed_like (type_of P Γ (t.map_add q i e m)) (P.template k) z h
  end_fixed Γ (t.map_find i m) k h z = closed_like (type_of P Γ (t.map_find i m)) (P.template k) z h

  -- ---- programs

  end_kinded : (Γ : Context) (b : t.Block) → Kinded Γ → GivenKinds P K Γ b → Kinded (last_context P Γ b)
  end_kinded Γ (t.last l o) s k = s
  end_kinded Γ (t.binding x l o b) s k = end_kinded (bind x (type_of P Γ o) Γ) b (k.1, s) k.2
  end_kinded Γ (t.recursive g p y b c) s k = end_kinded (bind g (P.template p) Γ) c (k.0, s) k.3

  program_fixed : (p : t.Program) (N : Symbols) → AreFixed N → (Γ : Context) → Kinded Γ → ProgramKinds P K Γ p → InScope P unknowns N p
      → AreItemsWritten P (HasNamelessArguments P) p → IsReady P Γ p → (Δ : Types) → HasProgram P Q Δ p → DefinitionsFixed K p
  program_fixed t.no_items N f Γ s k h w r Δ d = tt
  program_fixed (t.define x l j b rest) N f Γ s k h w r Δ d =
      let e = define_of d in
      let own : (K x).1 ≡ false = ap (λ (z : NameKind). z.1) k.1 ∙ by e.0 e.1 e.2 w.1 in (
        own,
        program_fixed rest (with_name N x) (fixed_with N f x own) (bind x (last_type P Γ b) (last_context P Γ b)) (k.1, end_kinded Γ b s k.0) k.2 h.2 w.2 r.3
            ((x, e.1) ∷ e.0) e.3,
      )
    where
      by : (Θ : Types) (a : MlType) → HasEnd P Q Δ b Θ a
          → IsValueBlock b ⊎ HasNoTypeVariables (erased (P.template (cond (not (is_fun (last_operation b))) j (function_point (last_operation b)))))
          → is_variable (last_type P Γ b) ≡ false
      by Θ a e (inl v) = value_fixed b v N f h.0 Γ s k.0 Δ Θ a e
      by Θ a e (inr c) = end_fixed (last_context P Γ b) (last_operation b) j c r.1
  program_fixed (t.define_recursive g p y b rest) N f Γ s k h w r Δ d =
      let e = recursive_of d in
      let own : (K g).1 ≡ false = ap (λ (z : NameKind). z.1) k.0 ∙ variable_is (P.template p) ∙ ap is_bare (templates.templates p) ∙ e.0 in
      program_fixed rest (with_name N g) (fixed_with N f g own) (bind g (P.template p) Γ) (k.0, s) k.3 h.3 w.2 r.1 ((g, Q.point p) ∷ Δ) e.1
  program_fixed (t.run_unit b rest) N f Γ s k h w r Δ d = program_fixed rest N f Γ s k.1 h.1 w.1 r.1 Δ (unit_of d)
  program_fixed (t.run_any b rest) N f Γ s k h w r Δ d = program_fixed rest N f Γ s k.1 h.1 w.1 r.1 Δ (any_of d)

pub definitions_fixed : DefinitionsAreFixed
definitions_fixed P unknowns Q p posed K kinds =
    program_fixed P unknowns Q posed.templates K p no_names (λ z h. absurd (no h)) [] tt kinds posed.scoped posed.written posed.ready [] posed.typed
  where
    no : false ≡ true → ⊥
    no e = cc
