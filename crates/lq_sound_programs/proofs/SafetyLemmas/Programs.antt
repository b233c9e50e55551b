-- Programs that check are safe.
use Rattle.std.proofs.Common.{◌≡◌, ℕ, suc, [], ◌∷◌, Some, refl, ap, ◌∙◌, subst, arith as numbers}
use Rattle.lq_refined_types.specs.Parts.Assignment.{Assignment}
use Rattle.lq_text_tree.specs.MlType as ml
use Rattle.lq_text_tree.specs.MlType.{MlType}
use Rattle.lq_refined_types.specs.Types.Context.{Context}
use Rattle.lq_refined_types.specs.Types.Operations.{symbol_of}
use Rattle.lq_refined_types.specs.Types.Refined.{unit_type, argument_of, erased}
use Rattle.lq_meaning_steps.specs.Model.Core.{variable, let_in, let_rec, v_rec, Value, without, close}
use Rattle.lq_meaning_steps.specs.Model.Operations.{World}
use Rattle.lq_meaning_steps.specs.Model.Step.{goes, in_let}
use Rattle.lq_meaning_steps.specs.Model.StepFunction.{step}
use Rattle.lq_refined_rules.specs.Checks.Basis.{Basis}
use Rattle.lq_refined_rules.specs.Checks.Checks.{Gives, gives_last, gives_binding, gives_recursive, Obeys, Against, Checks, checks_none, checks_define, checks_recursive, checks_unit, checks_any}
use Rattle.lq_refined_rules.specs.Checks.Fitting.{Fits, fits_bind, GiveSimpleTypes}
use Rattle.lq_refined_rules.specs.Checks.Operation.{type_of, bind, recursive_context, recursive_type, last_context, last_type}
use Rattle.lq_refined_rules.specs.Checks.Tree as tree
use Rattle.lq_refined_rules.specs.Checks.Tree.{Operation, Block, Program}
use Rattle.lq_refined_rules.specs.Checks.Typing.{Points, AreTemplates, Types, IsPointed, HasOperation, HasBlock, HasEnd, end_last, end_binding, end_recursive, HasProgram, has_no_items, has_define, has_define_recursive, has_run_unit, has_run_any}
use Rattle.lq_sound_values.specs.Inhabitants.Truth.{Givens, given, Objects, Scene}
use Rattle.lq_sound_values.specs.Inhabitants.Shut.{shut}
use Rattle.lq_sound_values.specs.Inhabitants.Inhabits.{Table, Extends, Inhabits, Agrees}
use Rattle.lq_sound_values.specs.Inhabitants.Runs.{RunsWell, LandsIn}
use Rattle.lq_sound_values.proofs.InhabitantsLemmas.Running.{runs_map, runs_step}
use Rattle.lq_sound_values.specs.Inclusion.Laws.{IsScene}
use Rattle.lq_sound_values.specs.Inclusion.Symbols.{Symbols, with_symbol, Agree}
use Rattle.lq_sound_values.specs.Runs.Closed.{names_in, IsClosed}
use Rattle.lq_sound_values.specs.Runs.Meets.{pairs, Variables, Meets}
use Rattle.lq_sound_values.specs.Runs.Runs.{RunsTo}
use Rattle.lq_sound_values.proofs.RunsLemmas.Closing.{within_with, agree_new, closed_bind}
use Rattle.lq_sound_values.proofs.RunsLemmas.Framing.{runs_in}
use Rattle.lq_sound_values.proofs.RunsLemmas.Meeting.{extends_self, extends_on, meets_less, meets_bind}
use Rattle.lq_sound_forms.specs.Pures.Cores.{operation_core, block_core}
use Rattle.lq_sound_forms.specs.Pures.Pures.{KnowsLengths, scene_of}
use Rattle.lq_sound_programs.specs.Safety.Scoped.{IsScopedRecursive}
use Rattle.lq_sound_programs.specs.Safety.Programs.{BlockUsesOnly, Allows, IsScopedGiven}
use Rattle.lq_sound_programs.proofs.SafetyLemmas.Allowing.{allows_bind}
use Rattle.lq_sound_programs.proofs.SafetyLemmas.Blocks.{Forms, argument_erased, body_erased, recursion_fits, operation_runs, bound_ok, block_runs}
use Rattle.lq_sound_programs.proofs.SafetyLemmas.Parts.{operation_has, obeys_parts, recursive_parts, RecursiveHas, recursive_has}

module _ (P : Basis) (A : Assignment) where
  abbrev pub GivesParts : Context → Block → Type 0
  GivesParts Γ (tree.last l o) = Obeys P A Γ o (type_of P Γ o)
  GivesParts Γ (tree.binding x l o b) = Obeys P A Γ o (type_of P Γ o) × Gives P A (bind x (type_of P Γ o) Γ) b
  GivesParts Γ (tree.recursive g p y b c) =
      Against P A (recursive_context P Γ g p y) b (recursive_type P p y) × Gives P A (bind g (P.template p) Γ) c

  pub gives_parts : {Γ : Context} {b : Block} → Gives P A Γ b → GivesParts Γ b
  gives_parts (gives_last o) = o
  gives_parts (gives_binding o n b) = (o, b)
  gives_parts (gives_recursive r c) = (recursive_parts P A r, c)

  abbrev pub ChecksParts : Context → Program → Type 0
  ChecksParts Γ tree.no_items = Unit {0}
  ChecksParts Γ (tree.define x l k b rest) = Gives P A Γ b × Checks P A (bind x (last_type P Γ b) (last_context P Γ b)) rest
  ChecksParts Γ (tree.define_recursive g p y b rest) =
      Against P A (recursive_context P Γ g p y) b (recursive_type P p y) × Checks P A (bind g (P.template p) Γ) rest
  ChecksParts Γ (tree.run_unit b rest) = Against P A Γ b unit_type × Checks P A Γ rest
  ChecksParts Γ (tree.run_any b rest) = Gives P A Γ b × Checks P A Γ rest

  pub checks_parts : {Γ : Context} {p : Program} → Checks P A Γ p → ChecksParts Γ p
  checks_parts checks_none = tt
  checks_parts (checks_define b s n rest) = (b, rest)
  checks_parts (checks_recursive r rest) = (recursive_parts P A r, rest)
  checks_parts (checks_unit b rest) = (b, rest)
  checks_parts (checks_any b rest) = (b, rest)

module _ (P : Basis) (Q : Points) where
  abbrev pub EndHas : Types → Block → Types → MlType → Type 0
  EndHas Δ (tree.last l o) Θ a = (Δ ≡ Θ) × HasOperation P Q Δ o a × IsPointed Q o a
  EndHas Δ (tree.binding x l o b) Θ a = (c : MlType) × HasOperation P Q Δ o c × IsPointed Q o c × HasEnd P Q ((x, c) ∷ Δ) b Θ a
  EndHas Δ (tree.recursive g p y b c) Θ a = RecursiveHas P Q Δ g p y b × HasEnd P Q ((g, Q.point p) ∷ Δ) c Θ a

  pub end_has : {Δ Θ : Types} {b : Block} {a : MlType} → HasEnd P Q Δ b Θ a → EndHas Δ b Θ a
  end_has (end_last h i) = (refl, h, i)
  end_has (end_binding {a = c} h i b) = (c, h, i, b)
  end_has (end_recursive r c) = (recursive_has P Q r, c)

  abbrev pub ProgramHas : Types → Program → Type 0
  ProgramHas Δ tree.no_items = Unit {0}
  ProgramHas Δ (tree.define x l k b rest) = (Θ : Types) × ((a : MlType) × HasEnd P Q Δ b Θ a × HasProgram P Q ((x, a) ∷ Θ) rest)
  ProgramHas Δ (tree.define_recursive g p y b rest) = RecursiveHas P Q Δ g p y b × HasProgram P Q ((g, Q.point p) ∷ Δ) rest
  ProgramHas Δ (tree.run_unit b rest) = HasBlock P Q Δ b ml.unit × HasProgram P Q Δ rest
  ProgramHas Δ (tree.run_any b rest) = (Θ : Types) × ((a : MlType) × HasEnd P Q Δ b Θ a × HasProgram P Q Δ rest)

  pub program_has : {Δ : Types} {p : Program} → HasProgram P Q Δ p → ProgramHas Δ p
  program_has has_no_items = tt
  program_has (has_define {Θ = Θ} {a = a} t b rest) = (Θ, (a, b, rest))
  program_has (has_define_recursive r rest) = (recursive_has P Q r, rest)
  program_has (has_run_unit b rest) = (b, rest)
  program_has (has_run_any {Θ = Θ} {a = a} b rest) = (Θ, (a, b, rest))

-- The values of a block's names in front of others.
abbrev pub IsOnto : Basis → Context → Block → Givens → Givens → Type 0
IsOnto P Γ (tree.last l o) σ τ = τ ≡ σ
IsOnto P Γ (tree.binding x l o b) σ τ = (v : Value) × IsOnto P (bind x (type_of P Γ o) Γ) b (given (symbol_of x) v ∷ σ) τ
IsOnto P Γ (tree.recursive g p y b c) σ τ = (v : Value) × IsOnto P (bind g (P.template p) Γ) c (given (symbol_of g) v ∷ σ) τ

-- at the end of a block: values for its names too, and the value of its last operation
pub record Given (P : Basis) (S : Scene) (by : Variables) (Γ : Context) (b : Block) (W : Table) (σ : Givens) (k : ℕ) (v : Value) (u : World) : Type 0 where
  pub givens : Givens
  pub onto : IsOnto P Γ b σ givens
  pub table : Table
  pub extends : Extends W table
  pub meets : Meets S by k table (last_context P Γ b) givens
  pub fits : Inhabits S k table (shut givens by.types (last_type P Γ b)) v
  pub agrees : Agrees S k table u
  pub same : Agree (names_in Γ) givens σ

module _ (forms : Forms) (P : Basis) (A : Assignment) (O : Objects) (is : IsScene (scene_of P A O)) (lengths : KnowsLengths O) (Q : Points) (are : AreTemplates P Q) (simple : GiveSimpleTypes P Q) (by : Variables) where
  -- a recursive function's body
  pub recursive_runs : (Δ : Types) (Γ : Context) (g p y : ℕ) (b : Block) → Fits Δ Γ → RecursiveHas P Q Δ g p y b → Against P A (recursive_context P Γ g p y) b (recursive_type P p y) → IsScopedRecursive P A O Γ g p y b → (G V : Symbols) → Allows by G V Γ → BlockUsesOnly G (with_symbol (with_symbol V (symbol_of g)) (symbol_of y)) b → RunsTo (scene_of P A O) by (recursive_context P Γ g p y) (block_core b) (recursive_type P p y)
  recursive_runs Δ Γ g p y b f e q s G V al k =
      let S = scene_of P A O in
      let T = P.template p in
      let shape : erased T ≡ ml.arrow e.0 e.1 = are.templates p ∙ e.2 in
      block_runs forms P A O is lengths Q are simple by b ((y, e.0) ∷ (g, Q.point p) ∷ Δ) (recursive_context P Γ g p y) (recursive_type P p y) e.1 (fits_bind (argument_erased forms P A O is lengths Q are simple by T e.0 e.1 shape) (fits_bind {x = g} (are.templates p) f)) (closed_bind S (symbol_of y) (argument_of T) (bind g T Γ) s.3) e.3 (body_erased forms P A O is lengths Q are simple by y T e.0 e.1 shape) q s.0 G (with_symbol (with_symbol V (symbol_of g)) (symbol_of y)) (allows_bind by G (with_symbol V (symbol_of g)) (bind g T Γ) (symbol_of y) (argument_of T) s.3.1 (allows_bind by G V Γ (symbol_of g) T s.2.1 al)) k

  pub given_runs : (b : Block) (Δ : Types) (Γ : Context) (Θ : Types) (a : MlType) → Fits Δ Γ → IsClosed (scene_of P A O) Γ → HasEnd P Q Δ b Θ a → Gives P A Γ b → IsScopedGiven P A O Γ b → (G V : Symbols) → Allows by G V Γ → BlockUsesOnly G V b → (n : ℕ) (W : Table) (σ : Givens) (w : World) → Meets (scene_of P A O) by (suc n) W Γ σ → Agrees (scene_of P A O) n W w → RunsWell n (close (pairs σ) (block_core b)) w (Given P (scene_of P A O) by Γ b W σ)
  given_runs (tree.last l o) Δ Γ Θ a f c h r s G V al k n W σ w m ag =
      let S = scene_of P A O in
      let t = type_of P Γ o in
      let e = end_has P Q h in
      let runs = bound_ok forms P A O is lengths Q are simple by (tree.passes_on o) Γ (operation_core l o) t (operation_runs forms P A O is lengths Q are simple by o l Δ Γ t a f c (operation_has P Q e.1) (λ z. simple.operations Δ Γ o a f e.1 e.2) (obeys_parts P A (gives_parts P A r)) s G V al k) in
      runs_map n (close (pairs σ) (operation_core l o)) w (LandsIn S W (shut σ by.types t)) (Given P S by Γ (tree.last l o) W σ) (λ j v u le q.
      record { givens = σ; onto = refl; table = q.0; extends = q.1; meets = meets_less forms.law S by (suc n) j W q.0 Γ σ (omega (numbers, le)) q.1 m; fits = q.2; agrees = q.3; same = λ y z. refl }) (runs n W σ w m ag)
  given_runs (tree.binding x l o b) Δ Γ Θ a f c h r s G V al k n W σ w m ag =
      let S = scene_of P A O in
      let t = type_of P Γ o in
      let e = end_has P Q h in
      let g = gives_parts P A r in
      let runs = bound_ok forms P A O is lengths Q are simple by (tree.passes_on o) Γ (operation_core l o) t (operation_runs forms P A O is lengths Q are simple by o l Δ Γ t e.0 f c (operation_has P Q e.1) (λ z. simple.operations Δ Γ o e.0 f e.1 e.2) (obeys_parts P A g.0) s.0 G V al k.0) in
      let ps = pairs σ in
      let B = close (without (x ∷ []) ps) (block_core b) in
      let R = Given P S by Γ (tree.binding x l o b) W σ in
      runs_in forms.law (in_let (variable x) B) tt n (close ps (operation_core l o)) w (LandsIn S W (shut σ by.types t)) R (runs n W σ w m ag) (λ j d v z le at q.
      let go : step (let_in (variable x) d B) z ≡ Some (goes (close ((x, v) ∷ []) B) z) = rw at in
      runs_step j (let_in (variable x) d B) (close ((x, v) ∷ ps) (block_core b)) z z R refl (go ∙ ap (λ y. Some (goes y z)) (forms.law.behind (x ∷ []) ((x, v) ∷ []) ps (block_core b) (forms.law.one x v))) (λ i eq.
      runs_map i (close ((x, v) ∷ ps) (block_core b)) z (Given P S by (bind x t Γ) b q.0 (given (symbol_of x) v ∷ σ)) R (λ y a2 u le2 p.
      record { givens = p.givens; onto = (v, p.onto); table = p.table; extends = extends_on W q.0 p.table q.1 p.extends; meets = p.meets; fits = p.fits; agrees = p.agrees; same = λ s2 z2. p.same s2 (within_with (names_in Γ) (symbol_of x) s2 z2) ∙ agree_new Γ (symbol_of x) v σ s.1.1 s2 z2 }) (given_runs b ((x, e.0) ∷ Δ) (bind x t Γ) Θ a (fits_bind (simple.operations Δ Γ o e.0 f e.1 e.2) f) (closed_bind S (symbol_of x) t Γ s.1) e.3 g.1 s.2 G (with_symbol V (symbol_of x)) (allows_bind by G V Γ (symbol_of x) t s.1.1 al) k.1 i q.0 (given (symbol_of x) v ∷ σ) z (meets_bind forms.law S is by (suc n) (suc i) W q.0 Γ σ (symbol_of x) t v (omega (numbers, le, eq)) q.1 s.1 m (forms.law.smaller S j (suc i) q.0 (shut σ by.types t) v (omega (numbers, eq)) q.2)) (forms.law.stores S j i q.0 z (omega (numbers, eq)) q.3))))
  given_runs (tree.recursive g p y b d) Δ Γ Θ a f c h r s G V al k n W σ w m ag =
      let S = scene_of P A O in
      let T = P.template p in
      let e = end_has P Q h in
      let q = gives_parts P A r in
      let inner = fits_bind {x = g} (are.templates p) f in
      let ps = pairs σ in
      let B = block_core b in
      let D = block_core d in
      let v = v_rec g (variable y) (close (without (g ∷ y ∷ []) ps) B) in
      let R = Given P S by Γ (tree.recursive g p y b d) W σ in
      let fit : Inhabits S (suc n) W (shut σ by.types T) v = recursion_fits forms P A O is lengths Q are simple by Γ g y B T s.0.1 s.0.2 s.0.3 s.0.4 (recursive_runs Δ Γ g p y b f e.0 q.0 s.0 G V al k.0) (suc n) W σ m in
      runs_step n (close ps (let_rec g (variable y) B D)) (close ((g, v) ∷ ps) D) w w R refl (ap (λ z. Some (goes z w)) (forms.law.behind (g ∷ []) ((g, v) ∷ []) ps D (forms.law.one g v))) (λ i eq.
      runs_map i (close ((g, v) ∷ ps) D) w (Given P S by (bind g T Γ) d W (given (symbol_of g) v ∷ σ)) R (λ j a2 u le z.
      record { givens = z.givens; onto = (v, z.onto); table = z.table; extends = z.extends; meets = z.meets; fits = z.fits; agrees = z.agrees; same = λ s2 z2. z.same s2 (within_with (names_in Γ) (symbol_of g) s2 z2) ∙ agree_new Γ (symbol_of g) v σ s.0.2.1 s2 z2 }) (given_runs d ((g, Q.point p) ∷ Δ) (bind g T Γ) Θ a inner (closed_bind S (symbol_of g) T Γ s.0.2) e.1 q.1 s.1 G (with_symbol V (symbol_of g)) (allows_bind by G V Γ (symbol_of g) T s.0.2.1 al) k.1 i W (given (symbol_of g) v ∷ σ) w (meets_bind forms.law S is by (suc n) (suc i) W W Γ σ (symbol_of g) T v (omega (numbers, eq)) (extends_self W) s.0.2 m (forms.law.smaller S (suc n) (suc i) W (shut σ by.types T) v (omega (numbers, eq)) fit)) (forms.law.stores S n i W w (omega (numbers, eq)) ag)))

  -- the simple types at a block's end
  pub end_fits : (b : Block) (Δ : Types) (Γ : Context) (Θ : Types) (a : MlType) → Fits Δ Γ → HasEnd P Q Δ b Θ a → Fits Θ (last_context P Γ b) × (erased (last_type P Γ b) ≡ a)
  end_fits (tree.last l o) Δ Γ Θ a f h = let e = end_has P Q h in (subst (λ z. Fits z Γ) e.0 f, simple.operations Δ Γ o a f e.1 e.2)
  end_fits (tree.binding x l o b) Δ Γ Θ a f h =
      let e = end_has P Q h in
      end_fits b ((x, e.0) ∷ Δ) (bind x (type_of P Γ o) Γ) Θ a (fits_bind (simple.operations Δ Γ o e.0 f e.1 e.2) f) e.3
  end_fits (tree.recursive g p y b d) Δ Γ Θ a f h =
      end_fits d ((g, Q.point p) ∷ Δ) (bind g (P.template p) Γ) Θ a (fits_bind {x = g} (are.templates p) f) (end_has P Q h).1
