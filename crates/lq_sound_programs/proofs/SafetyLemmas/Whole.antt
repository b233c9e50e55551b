-- Item by item: names that are visible have their types at every instance.
use Rattle.std.proofs.Common.{◌≡◌, ◌⊎◌, inl, inr, ℕ, zero, suc, ◌≤◌, Bool, true, false, not, cond, ◌||◌, ◌&&◌, ◌==◌, if◌then◌else◌, List, [], ◌∷◌, ◌++◌, length, append-nil, Some, refl, sym, ap, ◌∙◌, subst, arith as numbers}
use Rattle.lq_logic_predicates.specs.declared.symbol.Symbol.{Symbol}
use Rattle.lq_logic_predicates.specs.Sum.{same_symbol}
use Rattle.lq_base_names.specs.declared.place.Place.{Place}
use Rattle.lq_refined_types.specs.Parts.Assignment.{Assignment}
use Rattle.lq_text_tree.specs.MlType as ml
use Rattle.lq_text_tree.specs.MlType.{MlType}
use Rattle.lq_refined_types.specs.Types.Context.{Context, name, guard}
use Rattle.lq_refined_types.specs.Types.Operations.{symbol_of}
use Rattle.lq_refined_types.specs.Types.Refined.{Refined, unit_type}
use Rattle.lq_meaning_steps.specs.Model.Core.{variable, ignored, empty, let_in, v_rec, Value, Pairs, value_in, without, close}
use Rattle.lq_meaning_steps.specs.Model.Operations.{World}
use Rattle.lq_meaning_steps.specs.Model.Laws.{ItemsCloseByNone, ItemsCloseBehind}
use Rattle.lq_meaning_steps.specs.Model.Program.{Item, close_items, IsSafe}
use Rattle.lq_meaning_steps.specs.Model.Step.{goes, in_let}
use Rattle.lq_meaning_steps.specs.Model.StepFunction.{step}
use Rattle.lq_refined_rules.specs.Checks.Basis.{Basis}
use Rattle.lq_refined_rules.specs.Checks.Checks.{Gives, Obeys, Checks}
use Rattle.lq_refined_rules.specs.Checks.Fitting.{Fits, fits_none, fits_bind, GiveSimpleTypes}
use Rattle.lq_refined_rules.specs.Checks.Operation.{type_of, bind, last_context, last_type}
use Rattle.lq_refined_rules.specs.Checks.Tree as tree
use Rattle.lq_refined_rules.specs.Checks.Tree.{Operation, Block, Program}
use Rattle.lq_refined_rules.specs.Checks.Typing.{Points, AreTemplates, Types, IsPointed, HasOperation, HasEnd, HasProgram}
use Rattle.lq_sound_values.specs.Inhabitants.Truth.{Givens, given, value_at, Objects, Scene}
use Rattle.lq_sound_values.specs.Inhabitants.Shut.{Shut, shut, Shuts, no_shuts}
use Rattle.lq_sound_values.specs.Inhabitants.Inhabits.{Table, Extends, Inhabits, Agrees}
use Rattle.lq_sound_values.specs.Inhabitants.Runs.{RunsWell, LandsIn}
use Rattle.lq_sound_values.proofs.InhabitantsLemmas.Running.{runs_map, runs_step}
use Rattle.lq_sound_values.specs.Inclusion.Laws.{IsScene}
use Rattle.lq_sound_values.specs.Inclusion.Symbols.{Symbols, with_symbol, Agree}
use Rattle.lq_sound_values.proofs.InclusionLemmas.Truths.{same_symbol-refl, decide}
use Rattle.lq_sound_values.specs.Instantiation.Instances.{HasNoVariables}
use Rattle.lq_sound_values.specs.Instantiation.Laws.{ClosedTypesFit}
use Rattle.lq_sound_forms.specs.Quiet.Quiet.{IsValueOperation, IsValueBlock}
use Rattle.lq_sound_forms.proofs.QuietLemmas.Agreeing.{all_agree}
use Rattle.lq_sound_forms.proofs.QuietLemmas.Keeping.{keeps_world}
use Rattle.lq_sound_forms.proofs.QuietLemmas.Closing.{close_quiet}
use Rattle.lq_sound_forms.proofs.QuietLemmas.Blocks.{operation_quiet}
use Rattle.lq_sound_values.specs.Runs.Closed.{names_in, IsClosed, Binds}
use Rattle.lq_sound_values.specs.Runs.Meets.{pairs, Variables, HasInstances, Named, Meets}
use Rattle.lq_sound_values.proofs.RunsLemmas.Closing.{or_left, or_right, or_parts, within_with, new_name, agree_new, closed_bind}
use Rattle.lq_sound_values.proofs.RunsLemmas.Framing.{runs_in}
use Rattle.lq_sound_values.proofs.RunsLemmas.Meeting.{extends_self, named_at, meets_less, meets_bind, meets_named}
use Rattle.lq_sound_forms.specs.Pures.Cores.{operation_core, block_core, items_core}
use Rattle.lq_sound_forms.specs.Pures.Pures.{KnowsLengths, scene_of}
use Rattle.lq_sound_forms.proofs.PuresLemmas.Pures.{value_of_pair}
use Rattle.lq_sound_programs.specs.Safety.Programs.{UsesOnly, BlockUsesOnly, Allows, IsScopedGiven, IsScopedProgram, no_symbols}
use Rattle.lq_sound_programs.specs.Safety.Scoped.{IsScoped}
use Rattle.lq_sound_programs.proofs.SafetyLemmas.Allowing.{new_outside, not_left, allows_bind}
use Rattle.lq_sound_programs.proofs.SafetyLemmas.Blocks.{Forms, recursion_fits, operation_runs, bound_ok, block_runs}
use Rattle.lq_sound_programs.proofs.SafetyLemmas.Items.{IsCalmFrom, item_calm}
use Rattle.lq_sound_programs.proofs.SafetyLemmas.Parts.{operation_has, obeys_parts}
use Rattle.lq_sound_programs.proofs.SafetyLemmas.Programs.{gives_parts, checks_parts, end_has, program_has, IsOnto, Given, recursive_runs, given_runs, end_fits}
use Rattle.lq_sound_programs.proofs.SafetyLemmas.Uses.{SameOn, same_without_two, block_same}

-- ---- names that are visible, and others

-- at an item: visible names are general, and all others hidden
abbrev pub at_item : Symbols → Context → Shuts → Variables
at_item V Γ to = record { types = to; general = V; hidden = λ y. names_in Γ y && not (V y) }

abbrev pub Inside : Symbols → Context → Type 0
Inside V Γ = (y : Symbol) → V y ≡ true → names_in Γ y ≡ true

false_left : (a b : Bool) → a ≡ false → a && b ≡ false
false_left true b h = absurd (cc)
false_left false b h = refl

not_right : (a b : Bool) → b ≡ true → a && not b ≡ false
not_right true true h = refl
not_right false true h = refl
not_right a false h = absurd (cc)

both_true : (a b : Bool) → a ≡ true → b ≡ false → a && not b ≡ true
both_true true true h k = absurd (cc)
both_true true false h k = refl
both_true false b h k = absurd (cc)

-- so it is shown where it is of the environment and not hidden
then_shown : (a b : Bool) → a ≡ true → a && not b ≡ false → b ≡ true
then_shown true true h k = refl
then_shown true false h k = absurd (cc)
then_shown false b h k = absurd (cc)

outside_shown : (V : Symbols) (Γ : Context) → Inside V Γ → (y : Symbol) → names_in Γ y ≡ false → V y ≡ false
outside_shown V Γ f y h = decide (V y ≡ false) (V y) (λ e. absurd (clash (names_in Γ y) h (f y e))) (λ e. e)
  where
    clash : (b : Bool) → b ≡ false → b ≡ true → ⊥
    clash true p q = cc
    clash false p q = cc

pub item_within : (V : Symbols) (Γ : Context) (to : Shuts) → Inside V Γ → (y : Symbol) → names_in Γ y ≡ false → ((at_item V Γ to).general y ≡ false) × ((at_item V Γ to).hidden y ≡ false)
item_within V Γ to f y h = (outside_shown V Γ f y h, false_left (names_in Γ y) (not (V y)) h)

pub item_allows : (V : Symbols) (Γ : Context) (to : Shuts) → Inside V Γ → Allows (at_item V Γ to) V V Γ
item_allows V Γ to f = record { within = item_within V Γ to f; shown = λ y h. not_right (names_in Γ y) (V y) h; general = λ y h. h }

-- ---- entries under other variables

-- the environment of a block's end has the names of its beginning
grows : (P : Basis) (b : Block) (Γ : Context) (y : Symbol) → names_in Γ y ≡ true → names_in (last_context P Γ b) y ≡ true
grows P (tree.last l o) Γ y h = h
grows P (tree.binding x l o b) Γ y h = grows P b (bind x (type_of P Γ o) Γ) y (within_with (names_in Γ) (symbol_of x) y h)
grows P (tree.recursive g p z b d) Γ y h = grows P d (bind g (P.template p) Γ) y (within_with (names_in Γ) (symbol_of g) y h)

own_name : (Γ : Context) (y : Symbol) → names_in Γ y || same_symbol y y ≡ true
own_name Γ y = or_right (names_in Γ y) (same_symbol y y) (same_symbol-refl y)

module _ (S : Scene) where
  instances_as : (one two : Variables) (n : ℕ) (W : Table) (ρ : Givens) (x : Symbol) (t : Refined) (v : Value) → two.types ≡ one.types → (two.hidden x ≡ false → one.hidden x ≡ false) → (two.general x ≡ true → one.general x ≡ true) → HasInstances S one n W ρ x t v → HasInstances S two n W ρ x t v
  instances_as one two n W ρ x t v same f g h =
      record { some = h.some; fits = h.fits; own = λ i. subst (λ to. Inhabits S n W (shut ρ to t) v) (sym same) (h.own (f i)); each = λ i to. h.each (g i) to }

  named_as : (one two : Variables) (n : ℕ) (W : Table) (ρ : Givens) → two.types ≡ one.types → (Γ : Context) (σ : Givens) → ((x : Symbol) → names_in Γ x ≡ true → two.hidden x ≡ false → one.hidden x ≡ false) → ((x : Symbol) → names_in Γ x ≡ true → two.general x ≡ true → one.general x ≡ true) → Named S one n W ρ Γ σ → Named S two n W ρ Γ σ
  named_as one two n W ρ same [] [] f g h = tt
  named_as one two n W ρ same [] (e ∷ σ) f g h = absurd h
  named_as one two n W ρ same (name x t ∷ Γ) [] f g h = absurd h
  named_as one two n W ρ same (name x t ∷ Γ) (e ∷ σ) f g h =
      (h.0, instances_as one two n W ρ x t e.value same (f x (own_name Γ x)) (g x (own_name Γ x)) h.1, named_as one two n W ρ same Γ σ (λ y i. f y (within_with (names_in Γ) x y i)) (λ y i. g y (within_with (names_in Γ) x y i)) h.2)
  named_as one two n W ρ same (guard p ∷ Γ) σ f g h = named_as one two n W ρ same Γ σ f g h

  -- a hidden name that isn't general
  only_some : (one two : Variables) (n : ℕ) (W : Table) (ρ : Givens) (x : Symbol) (t : Refined) (v : Value) → two.hidden x ≡ true → two.general x ≡ false → HasInstances S one n W ρ x t v → HasInstances S two n W ρ x t v
  only_some one two n W ρ x t v f g h =
      record { some = h.some; fits = h.fits; own = λ i. absurd (clash (two.hidden x) i f); each = λ i to. absurd (clash (two.general x) g i) }
    where
      clash : (b : Bool) → b ≡ false → b ≡ true → ⊥
      clash true p q = cc
      clash false p q = cc

  module _ (P : Basis) (A : Assignment) (O : Objects) where
    -- what is in front of a block's names
    front : (by : Variables) (n : ℕ) (W : Table) (ρ : Givens) (b : Block) (Γ : Context) (σ τ : Givens) → IsOnto P Γ b σ τ → Named S by n W ρ (last_context P Γ b) τ → Named S by n W ρ Γ σ
    front by n W ρ (tree.last l o) Γ σ τ e h = subst (Named S by n W ρ Γ) e h
    front by n W ρ (tree.binding x l o b) Γ σ τ e h = (front by n W ρ b (bind x (type_of P Γ o) Γ) (given (symbol_of x) e.0 ∷ σ) τ e.1 h).2
    front by n W ρ (tree.recursive g p y b c) Γ σ τ e h = (front by n W ρ c (bind g (P.template p) Γ) (given (symbol_of g) e.0 ∷ σ) τ e.1 h).2

    -- the block's own names keep some instance, and those in front have others
    merged : (one two : Variables) (n : ℕ) (W : Table) (ρ : Givens) (b : Block) (Γ : Context) (σ τ : Givens) → IsOnto P Γ b σ τ → IsScopedGiven P A O Γ b → ((y : Symbol) → names_in Γ y ≡ false → names_in (last_context P Γ b) y ≡ true → (two.hidden y ≡ true) × (two.general y ≡ false)) → Named S one n W ρ (last_context P Γ b) τ → Named S two n W ρ Γ σ → Named S two n W ρ (last_context P Γ b) τ
    merged one two n W ρ (tree.last l o) Γ σ τ e s f h k = subst (Named S two n W ρ Γ) (sym e) k
    merged one two n W ρ (tree.binding x l o b) Γ σ τ e s f h k =
        let t = type_of P Γ o in
        let own = (front one n W ρ b (bind x t Γ) (given (symbol_of x) e.0 ∷ σ) τ e.1 h).1 in
        let z = f (symbol_of x) (new_outside Γ (symbol_of x) s.1.1) (grows P b (bind x t Γ) (symbol_of x) (own_name Γ (symbol_of x))) in
        merged one two n W ρ b (bind x t Γ) (given (symbol_of x) e.0 ∷ σ) τ e.1 s.2 (λ y i. f y (not_left (names_in Γ y) (same_symbol (symbol_of x) y) i)) h (refl, only_some one two n W ρ (symbol_of x) t e.0 z.0 z.1 own, k)
    merged one two n W ρ (tree.recursive g p y b c) Γ σ τ e s f h k =
        let t = P.template p in
        let own = (front one n W ρ c (bind g t Γ) (given (symbol_of g) e.0 ∷ σ) τ e.1 h).1 in
        let z = f (symbol_of g) (new_outside Γ (symbol_of g) s.0.2.1) (grows P c (bind g t Γ) (symbol_of g) (own_name Γ (symbol_of g))) in
        merged one two n W ρ c (bind g t Γ) (given (symbol_of g) e.0 ∷ σ) τ e.1 s.1 (λ q i. f q (not_left (names_in Γ q) (same_symbol (symbol_of g) q) i)) h (refl, only_some one two n W ρ (symbol_of g) t e.0 z.0 z.1 own, k)

-- ---- values

-- a table that extends another to as many slots is it
same_table : (W V : Table) → Extends W V → length V ≡ length W → V ≡ W
same_table W V e h = by e.0 e.1 h
  where
    grown_length : (W : Table) (more : Table) → length (W ++ more) ≡ length W → more ≡ []
    grown_length [] [] h = refl
    grown_length [] (k ∷ more) h = absurd (cc)
    grown_length (k ∷ W) more h = grown_length W more (omega (numbers, h))

    by : (more : Table) → V ≡ W ++ more → length V ≡ length W → V ≡ W
    by more same h = same ∙ ap (λ l. W ++ l) (grown_length W more (sym (ap length same) ∙ h)) ∙ append-nil W

-- what lands in a world that is as it was lands under the table that there was
lands_here : (S : Scene) (k : ℕ) (W : Table) (T : Shut) (v : Value) (w u : World) → length W ≡ length w.arrays → u ≡ w → LandsIn S W T k v u → Inhabits S k W T v × Agrees S k W u
lands_here S k W T v w u sized same q =
    let e : q.0 ≡ W = same_table W q.0 q.1 (q.3.0.0 ∙ ap (λ z. length z.arrays) same ∙ sym sized) in
    (subst (λ V. Inhabits S k V T v) e q.2, subst (λ V. Agrees S k V u) e q.3)

-- at the end of a block whose value is the same at all instances
pub record GivenAll (P : Basis) (S : Scene) (at : Shuts → Variables) (Γ : Context) (b : Block) (W : Table) (σ : Givens) (w : World) (k : ℕ) (v : Value) (u : World) : Type 0 where
  pub givens : Givens
  pub onto : IsOnto P Γ b σ givens
  pub meets : (to : Shuts) → Meets S (at to) k W (last_context P Γ b) givens
  pub fits : (to : Shuts) → Inhabits S k W (shut givens (at to).types (last_type P Γ b)) v
  pub agrees : Agrees S k W u
  pub same : Agree (names_in Γ) givens σ
  pub world : u ≡ w

module _ (forms : Forms) (closed_fit : ClosedTypesFit) (P : Basis) (A : Assignment) (O : Objects) (is : IsScene (scene_of P A O)) (lengths : KnowsLengths O) (Q : Points) (are : AreTemplates P Q) (simple : GiveSimpleTypes P Q) where
  -- an operation that is a value has one value, at whatever instance
  values_run : (at : Shuts → Variables) (o : Operation) (l : Place) (Δ : Types) (Γ : Context) (a : MlType) → Fits Δ Γ → IsClosed (scene_of P A O) Γ → HasOperation P Q Δ o a → IsPointed Q o a → Obeys P A Γ o (type_of P Γ o) → IsScoped P A O Γ o (type_of P Γ o) → (G V : Symbols) → ((to : Shuts) → Allows (at to) G V Γ) → UsesOnly G V o → IsValueOperation o → (n : ℕ) (W : Table) (σ : Givens) (w : World) → ((to : Shuts) → Meets (scene_of P A O) (at to) (suc n) W Γ σ) → Agrees (scene_of P A O) n W w → RunsWell n (close (pairs σ) (operation_core l o)) w (λ k v u. ((to : Shuts) → LandsIn (scene_of P A O) W (shut σ (at to).types (type_of P Γ o)) k v u) × (u ≡ w))
  values_run at o l Δ Γ a f c h i r s G V al k quiet n W σ w m ag =
      let S = scene_of P A O in
      let t = type_of P Γ o in
      let e = close (pairs σ) (operation_core l o) in
      let Q1 = λ (to : Shuts). LandsIn S W (shut σ (at to).types t) in
      let runs : (to : Shuts) → RunsWell n e w (Q1 to) = λ to. bound_ok forms P A O is lengths Q are simple (at to) (tree.passes_on o) Γ (operation_core l o) t (operation_runs forms P A O is lengths Q are simple (at to) o l Δ Γ t a f c (operation_has P Q h) (λ z. simple.operations Δ Γ o a f h i) (obeys_parts P A r) s G V (al to) k) n W σ w (m to) ag in
      keeps_world (λ k v u. (to : Shuts) → Q1 to k v u) n e w (close_quiet (pairs σ) (operation_core l o) (operation_quiet l o quiet)) (all_agree Shuts no_shuts Q1 n e w runs)

  given_all : (at : Shuts → Variables) (b : Block) (Δ : Types) (Γ : Context) (Θ : Types) (a : MlType) → Fits Δ Γ → IsClosed (scene_of P A O) Γ → HasEnd P Q Δ b Θ a → Gives P A Γ b → IsScopedGiven P A O Γ b → (G V : Symbols) → ((to : Shuts) → Allows (at to) G V Γ) → BlockUsesOnly G V b → IsValueBlock b → (n : ℕ) (W : Table) (σ : Givens) (w : World) → ((to : Shuts) → Meets (scene_of P A O) (at to) (suc n) W Γ σ) → Agrees (scene_of P A O) n W w → RunsWell n (close (pairs σ) (block_core b)) w (GivenAll P (scene_of P A O) at Γ b W σ w)
  given_all at (tree.last l o) Δ Γ Θ a f c h r s G V al k quiet n W σ w m ag =
      let S = scene_of P A O in
      let t = type_of P Γ o in
      let e = end_has P Q h in
      runs_map n (close (pairs σ) (operation_core l o)) w (λ k v u. ((to : Shuts) → LandsIn S W (shut σ (at to).types t) k v u) × (u ≡ w)) (GivenAll P S at Γ (tree.last l o) W σ w) (λ j v u le q.
      let here = λ (to : Shuts). lands_here S j W (shut σ (at to).types t) v w u ag.0.0 q.1 (q.0 to) in
      record { givens = σ; onto = refl; meets = λ to. meets_less forms.law S (at to) (suc n) j W W Γ σ (omega (numbers, le)) (extends_self W) (m to); fits = λ to. (here to).0; agrees = (here no_shuts).1; same = λ y z. refl; world = q.1 }) (values_run at o l Δ Γ a f c e.1 e.2 (gives_parts P A r) s G V al k quiet n W σ w m ag)
  given_all at (tree.binding x l o b) Δ Γ Θ a f c h r s G V al k quiet n W σ w m ag =
      let S = scene_of P A O in
      let t = type_of P Γ o in
      let e = end_has P Q h in
      let g = gives_parts P A r in
      let ps = pairs σ in
      let B = close (without (x ∷ []) ps) (block_core b) in
      let R = GivenAll P S at Γ (tree.binding x l o b) W σ w in
      let Q1 = λ (k : ℕ) (v : Value) (u : World). ((to : Shuts) → LandsIn S W (shut σ (at to).types t) k v u) × (u ≡ w) in
      runs_in forms.law (in_let (variable x) B) tt n (close ps (operation_core l o)) w Q1 R (values_run at o l Δ Γ e.0 f c e.1 e.2 g.0 s.0 G V al k.0 quiet.0 n W σ w m ag) (λ j d v z le is2 q.
      let go : step (let_in (variable x) d B) z ≡ Some (goes (close ((x, v) ∷ []) B) z) = rw is2 in
      let here = λ (to : Shuts). lands_here S j W (shut σ (at to).types t) v w z ag.0.0 q.1 (q.0 to) in
      runs_step j (let_in (variable x) d B) (close ((x, v) ∷ ps) (block_core b)) z z R refl (go ∙ ap (λ y. Some (goes y z)) (forms.law.behind (x ∷ []) ((x, v) ∷ []) ps (block_core b) (forms.law.one x v))) (λ i eq.
      runs_map i (close ((x, v) ∷ ps) (block_core b)) z (GivenAll P S at (bind x t Γ) b W (given (symbol_of x) v ∷ σ) z) R (λ y a2 u le2 p.
      record { givens = p.givens; onto = (v, p.onto); meets = p.meets; fits = p.fits; agrees = p.agrees; same = λ s2 z2. p.same s2 (within_with (names_in Γ) (symbol_of x) s2 z2) ∙ agree_new Γ (symbol_of x) v σ s.1.1 s2 z2; world = p.world ∙ q.1 }) (given_all at b ((x, e.0) ∷ Δ) (bind x t Γ) Θ a (fits_bind (simple.operations Δ Γ o e.0 f e.1 e.2) f) (closed_bind S (symbol_of x) t Γ s.1) e.3 g.1 s.2 G (with_symbol V (symbol_of x)) (λ to. allows_bind (at to) G V Γ (symbol_of x) t s.1.1 (al to)) k.1 quiet.1 i W (given (symbol_of x) v ∷ σ) z (λ to. meets_bind forms.law S is (at to) (suc n) (suc i) W W Γ σ (symbol_of x) t v (omega (numbers, le, eq)) (extends_self W) s.1 (m to) (forms.law.smaller S j (suc i) W (shut σ (at to).types t) v (omega (numbers, eq)) (here to).0)) (forms.law.stores S j i W z (omega (numbers, eq)) (here no_shuts).1))))
  given_all at (tree.recursive g p y b d) Δ Γ Θ a f c h r s G V al k quiet n W σ w m ag = absurd quiet

  module _ (by_none : ItemsCloseByNone) (behind : ItemsCloseBehind) where
    -- where a definition binds no variable
    kept_items : (ps : Pairs) (items : List Item) → close_items (without [] ps) items ≡ close_items ps items
    kept_items ps items = sym (by_none (close_items (without [] ps) items)) ∙ behind [] [] ps items (λ x. refl)

    abbrev Visible : Symbols → Context → Pairs → Givens → Type 0
    Visible V Γ ps σ = (x : ℕ) → V (symbol_of x) ≡ true → (names_in Γ (symbol_of x) ≡ true) × (value_in ps x ≡ value_at σ (symbol_of x))

    same_on : (V : Symbols) (Γ : Context) (ps : Pairs) (σ : Givens) → Visible V Γ ps σ → SameOn V ps (pairs σ)
    same_on V Γ ps σ f x h = (f x h).1 ∙ sym (value_of_pair σ x)

    -- one more visible name
    visible_more : (V : Symbols) (Γ Λ : Context) (x : ℕ) (t : Refined) (v : Value) (ps : Pairs) (σ τ : Givens) → Visible V Γ ps σ → Agree (names_in Γ) τ σ → ((y : Symbol) → names_in Γ y ≡ true → names_in Λ y ≡ true) → Visible (with_symbol V (symbol_of x)) (bind x t Λ) ((x, v) ∷ ps) (given (symbol_of x) v ∷ τ)
    visible_more V Γ Λ x t v ps σ τ vis same more y h = at (x == y) (V (symbol_of y)) h (λ z. let i = vis y z in (more (symbol_of y) i.0, i.1 ∙ sym (same (symbol_of y) i.0)))
      where
        at : (b z : Bool) → z || b ≡ true → (z ≡ true → (names_in Λ (symbol_of y) ≡ true) × (value_in ps y ≡ value_at τ (symbol_of y))) → (names_in Λ (symbol_of y) || b ≡ true) × ((if b then Some v else value_in ps y) ≡ cond b (Some v) (value_at τ (symbol_of y)))
        at true z q g = (or_right (names_in Λ (symbol_of y)) true refl, refl)
        at false true q g = let i = g refl in (or_left (names_in Λ (symbol_of y)) false i.0, i.1)
        at false false q g = absurd (cc)

    -- names whose values are good at every instance
    abbrev Good : ℕ → Table → Symbols → Context → Givens → Type 0
    Good n W V Γ σ = (to : Shuts) → Meets (scene_of P A O) (at_item V Γ to) n W Γ σ

    good_less : (n m : ℕ) (W X : Table) (V : Symbols) (Γ : Context) (σ : Givens) → m ≤ n → Extends W X → Good n W V Γ σ → Good m X V Γ σ
    good_less n m W X V Γ σ le e h to = meets_less forms.law (scene_of P A O) (at_item V Γ to) n m W X Γ σ le e (h to)

    inside_more : (V : Symbols) (Γ Λ : Context) (x : Symbol) (t : Refined) → Inside V Γ → ((y : Symbol) → names_in Γ y ≡ true → names_in Λ y ≡ true) → Inside (with_symbol V x) (name x t ∷ Λ)
    inside_more V Γ Λ x t f g y h =
        or_parts (names_in Λ y || same_symbol x y ≡ true) (V y) (same_symbol x y) h (λ i. or_left (names_in Λ y) (same_symbol x y) (g y (f y i))) (λ e. or_right (names_in Λ y) (same_symbol x y) e)

    -- what is visible behind a definition is its name, or was before
    visible_or : (V : Symbols) (x y : Symbol) → same_symbol x y ≡ false → V y || same_symbol x y ≡ true → V y ≡ true
    visible_or V x y off h = or_parts (V y ≡ true) (V y) (same_symbol x y) h (λ i. i) (λ e. absurd (clash (same_symbol x y) off e))
      where
        clash : (b : Bool) → b ≡ false → b ≡ true → ⊥
        clash true p q = cc
        clash false p q = cc

    not_visible : (V : Symbols) (x y : Symbol) → V y ≡ false → same_symbol x y ≡ false → V y || same_symbol x y ≡ false
    not_visible V x y h k = both (V y) (same_symbol x y) h k
      where
        both : (a b : Bool) → a ≡ false → b ≡ false → a || b ≡ false
        both true b p q = absurd (cc)
        both false b p q = q

    -- one more definition, whose value is good at every instance; the names of its block are hidden
    defined_good : (b : Block) (V : Symbols) (Γ : Context) (x : ℕ) (σ τ : Givens) (v : Value) (n : ℕ) (W : Table) → Inside V Γ → IsScopedGiven P A O Γ b → Binds (scene_of P A O) (symbol_of x) (last_type P Γ b) (last_context P Γ b) → IsClosed (scene_of P A O) Γ → IsOnto P Γ b σ τ → Agree (names_in Γ) τ σ → (one : Variables) → Meets (scene_of P A O) one n W (last_context P Γ b) τ → Good n W V Γ σ → ((to : Shuts) → Inhabits (scene_of P A O) n W (shut τ to (last_type P Γ b)) v) → Good n W (with_symbol V (symbol_of x)) (bind x (last_type P Γ b) (last_context P Γ b)) (given (symbol_of x) v ∷ τ)
    defined_good b V Γ x σ τ v n W inside s new c onto same one own good fits to =
        let S = scene_of P A O in
        let Λ = last_context P Γ b in
        let t = last_type P Γ b in
        let z = symbol_of x in
        let U = with_symbol V z in
        let two = at_item U (bind x t Λ) to in
        let before : Named S (at_item V Γ to) n W τ Γ σ = named_at forms.law S is (at_item V Γ to) n W (names_in Γ) σ τ (λ y i. sym (same y i)) Γ σ (λ y i. i) c (good to).named in
        let off : (y : Symbol) → names_in Λ y ≡ true → same_symbol z y ≡ false = λ y i. new_name Λ z y new.1 i in
        let changed : Named S two n W τ Γ σ = named_as S (at_item V Γ to) two n W τ refl Γ σ (λ y i k. not_right (names_in Γ y) (V y) (visible_or V z y (off y (grows P b Γ y i)) (then_shown (names_in Λ y || same_symbol z y) (V y || same_symbol z y) (or_left (names_in Λ y) (same_symbol z y) (grows P b Γ y i)) k))) (λ y i k. visible_or V z y (off y (grows P b Γ y i)) k) before in
        let whole : Named S two n W τ Λ τ = merged S P A O one two n W τ b Γ σ τ onto s (λ y i k.
        let hid : V y || same_symbol z y ≡ false = not_visible V z y (outside_shown V Γ inside y i) (off y k) in
        (both_true (names_in Λ y || same_symbol z y) (V y || same_symbol z y) (or_left (names_in Λ y) (same_symbol z y) k) hid, hid)) own.named changed in
        meets_named forms.law S is two n W Λ τ z t v new own.known whole record { some = no_shuts; fits = fits no_shuts; own = λ i. fits to; each = λ i other. fits other } (item_within U (bind x t Λ) to (inside_more V Γ Λ z t inside (grows P b Γ)))

    -- from here on the items come to no fault
    abbrev Calm : Program → Type 0
    Calm p =
        (V : Symbols) (Δ : Types) (Γ : Context) (ps : Pairs) (σ : Givens) (n : ℕ) (W : Table) (w : World) → Fits Δ Γ → IsClosed (scene_of P A O) Γ → HasProgram P Q Δ p → Checks P A Γ p → IsScopedProgram P A O V Γ p → Inside V Γ → Visible V Γ ps σ → Good (suc n) W V Γ σ → Agrees (scene_of P A O) n W w → IsCalmFrom n (close_items ps (items_core p)) w

    define_calm : (x : ℕ) (l : Place) (z : ℕ) (b : Block) (rest : Program) → Calm rest → (V : Symbols) (Δ : Types) (Γ : Context) (ps : Pairs) (σ : Givens) (n : ℕ) (W : Table) (w : World) → Fits Δ Γ → IsClosed (scene_of P A O) Γ → HasProgram P Q Δ (tree.define x l z b rest) → Checks P A Γ (tree.define x l z b rest) → IsScopedProgram P A O V Γ (tree.define x l z b rest) → Inside V Γ → Visible V Γ ps σ → Good (suc n) W V Γ σ → Agrees (scene_of P A O) n W w → IsValueBlock b ⊎ HasNoVariables (last_type P Γ b) → IsCalmFrom n (close_items ps (items_core (tree.define x l z b rest))) w
    define_calm x l z b rest later V Δ Γ ps σ n W w f c h r s inside vis m ag (inl value) =
        let i = program_has P Q h in
        let g = checks_parts P A r in
        let Q1 = GivenAll P (scene_of P A O) (at_item V Γ) Γ b W σ w in
        let same = block_same b V V ps (pairs σ) (same_on V Γ ps σ vis) s.0 in
        let ends = end_fits forms P A O is lengths Q are simple (at_item V Γ no_shuts) b Δ Γ i.0 i.1.0 f i.1.1 in
        item_calm n (variable x) (close ps (block_core b)) (close_items (without (x ∷ []) ps) (items_core rest)) w Q1 (subst (λ e. RunsWell n e w Q1) (sym same) (given_all (at_item V Γ) b Δ Γ i.0 i.1.0 f c i.1.1 g.0 s.1 V V (λ to. item_allows V Γ to inside) s.0 value n W σ w m ag)) (λ j v u le q.
        subst (λ is2. IsCalmFrom j is2 u) (sym (behind (x ∷ []) ((x, v) ∷ []) ps (items_core rest) (forms.law.one x v))) (later (with_symbol V (symbol_of x)) ((x, i.1.0) ∷ i.0) (bind x (last_type P Γ b) (last_context P Γ b)) ((x, v) ∷ ps) (given (symbol_of x) v ∷ q.givens) j W u (fits_bind ends.1 ends.0) (closed_bind (scene_of P A O) (symbol_of x) (last_type P Γ b) (last_context P Γ b) s.2) i.1.2 g.1 s.4 (inside_more V Γ (last_context P Γ b) (symbol_of x) (last_type P Γ b) inside (grows P b Γ)) (visible_more V Γ (last_context P Γ b) x (last_type P Γ b) v ps σ q.givens vis q.same (grows P b Γ)) (defined_good b V Γ x σ q.givens v (suc j) W inside s.1 s.2 c q.onto q.same (at_item V Γ no_shuts) (q.meets no_shuts) (good_less (suc n) (suc j) W W V Γ σ (omega (numbers, le)) (extends_self W) m) q.fits) (forms.law.stores (scene_of P A O) (suc j) j W u (omega numbers) q.agrees)))
    define_calm x l z b rest later V Δ Γ ps σ n W w f c h r s inside vis m ag (inr closed_type) =
        let i = program_has P Q h in
        let g = checks_parts P A r in
        let one = at_item V Γ no_shuts in
        let Q1 = Given P (scene_of P A O) one Γ b W σ in
        let same = block_same b V V ps (pairs σ) (same_on V Γ ps σ vis) s.0 in
        let ends = end_fits forms P A O is lengths Q are simple one b Δ Γ i.0 i.1.0 f i.1.1 in
        item_calm n (variable x) (close ps (block_core b)) (close_items (without (x ∷ []) ps) (items_core rest)) w Q1 (subst (λ e. RunsWell n e w Q1) (sym same) (given_runs forms P A O is lengths Q are simple one b Δ Γ i.0 i.1.0 f c i.1.1 g.0 s.1 V V (item_allows V Γ no_shuts inside) s.0 n W σ w (m no_shuts) ag)) (λ j v u le q.
        subst (λ is2. IsCalmFrom j is2 u) (sym (behind (x ∷ []) ((x, v) ∷ []) ps (items_core rest) (forms.law.one x v))) (later (with_symbol V (symbol_of x)) ((x, i.1.0) ∷ i.0) (bind x (last_type P Γ b) (last_context P Γ b)) ((x, v) ∷ ps) (given (symbol_of x) v ∷ q.givens) j q.table u (fits_bind ends.1 ends.0) (closed_bind (scene_of P A O) (symbol_of x) (last_type P Γ b) (last_context P Γ b) s.2) i.1.2 g.1 s.4 (inside_more V Γ (last_context P Γ b) (symbol_of x) (last_type P Γ b) inside (grows P b Γ)) (visible_more V Γ (last_context P Γ b) x (last_type P Γ b) v ps σ q.givens vis q.same (grows P b Γ)) (defined_good b V Γ x σ q.givens v (suc j) q.table inside s.1 s.2 c q.onto q.same one q.meets (good_less (suc n) (suc j) W q.table V Γ σ (omega (numbers, le)) q.extends m) (λ to. closed_fit (scene_of P A O) is (last_type P Γ b) closed_type q.givens no_shuts to (suc j) q.table v q.fits)) (forms.law.stores (scene_of P A O) (suc j) j q.table u (omega numbers) q.agrees)))

    program_calm : (p : Program) → Calm p
    program_calm tree.no_items V Δ Γ ps σ zero W w f c h r s inside vis m ag = tt
    program_calm tree.no_items V Δ Γ ps σ (suc n) W w f c h r s inside vis m ag = tt
    program_calm (tree.run_unit b rest) V Δ Γ ps σ n W w f c h r s inside vis m ag =
        let S = scene_of P A O in
        let i = program_has P Q h in
        let g = checks_parts P A r in
        let Q1 = LandsIn S W (shut σ no_shuts unit_type) in
        let same = block_same b V V ps (pairs σ) (same_on V Γ ps σ vis) s.0 in
        item_calm n empty (close ps (block_core b)) (close_items (without [] ps) (items_core rest)) w Q1 (subst (λ e. RunsWell n e w Q1) (sym same) (block_runs forms P A O is lengths Q are simple (at_item V Γ no_shuts) b Δ Γ unit_type ml.unit f c i.0 refl g.0 s.1 V V (item_allows V Γ no_shuts inside) s.0 n W σ w (m no_shuts) ag)) (λ j v u le q.
        subst (λ is2. IsCalmFrom j is2 u) (sym (kept_items ps (items_core rest))) (program_calm rest V Δ Γ ps σ j q.0 u f c i.1 g.1 s.2 inside vis (good_less (suc n) (suc j) W q.0 V Γ σ (omega (numbers, le)) q.1 m) (forms.law.stores S (suc j) j q.0 u (omega numbers) q.3)))
    program_calm (tree.run_any b rest) V Δ Γ ps σ n W w f c h r s inside vis m ag =
        let S = scene_of P A O in
        let i = program_has P Q h in
        let g = checks_parts P A r in
        let one = at_item V Γ no_shuts in
        let Q1 = Given P S one Γ b W σ in
        let same = block_same b V V ps (pairs σ) (same_on V Γ ps σ vis) s.0 in
        item_calm n ignored (close ps (block_core b)) (close_items (without [] ps) (items_core rest)) w Q1 (subst (λ e. RunsWell n e w Q1) (sym same) (given_runs forms P A O is lengths Q are simple one b Δ Γ i.0 i.1.0 f c i.1.1 g.0 s.1 V V (item_allows V Γ no_shuts inside) s.0 n W σ w (m no_shuts) ag)) (λ j v u le q.
        subst (λ is2. IsCalmFrom j is2 u) (sym (kept_items ps (items_core rest))) (program_calm rest V Δ Γ ps σ j q.table u f c i.1.2 g.1 s.2 inside vis (good_less (suc n) (suc j) W q.table V Γ σ (omega (numbers, le)) q.extends m) (forms.law.stores S (suc j) j q.table u (omega numbers) q.agrees)))
    program_calm (tree.define x l z b rest) V Δ Γ ps σ n W w f c h r s inside vis m ag =
        define_calm x l z b rest (program_calm rest) V Δ Γ ps σ n W w f c h r s inside vis m ag s.3
    program_calm (tree.define_recursive g p y b rest) V Δ Γ ps σ zero W w f c h r s inside vis m ag = tt
    program_calm (tree.define_recursive g p y b rest) V Δ Γ ps σ (suc n) W w f c h r s inside vis m ag =
        let S = scene_of P A O in
        let T = P.template p in
        let i = program_has P Q h in
        let q = checks_parts P A r in
        let B = block_core b in
        let z = symbol_of g in
        let U = with_symbol V z in
        let v = v_rec g (variable y) (close (without (g ∷ y ∷ []) (pairs σ)) B) in
        let same : v_rec g (variable y) (close (without (g ∷ y ∷ []) ps) B) ≡ v = ap (v_rec g (variable y)) (block_same b V (with_symbol (with_symbol V (symbol_of g)) (symbol_of y)) (without (g ∷ y ∷ []) ps) (without (g ∷ y ∷ []) (pairs σ)) (same_without_two V ps (pairs σ) g y (same_on V Γ ps σ vis)) s.0) in
        let fit : (to : Shuts) → Inhabits S (suc n) W (shut σ to T) v = λ to. forms.law.smaller S (suc (suc n)) (suc n) W (shut σ to T) v (omega numbers) (recursion_fits forms P A O is lengths Q are simple (at_item V Γ to) Γ g y B T s.1.1 s.1.2 s.1.3 s.1.4 (recursive_runs forms P A O is lengths Q are simple (at_item V Γ to) Δ Γ g p y b f i.0 q.0 s.1 V V (item_allows V Γ to inside) s.0) (suc (suc n)) W σ (m to)) in
        let off : (x : Symbol) → names_in Γ x ≡ true → same_symbol z x ≡ false = λ x e. new_name Γ z x s.1.2.1 e in
        let more : Good (suc n) W U (bind g T Γ) (given z v ∷ σ) = λ to.
        let two = at_item U (bind g T Γ) to in
        let before = good_less (suc (suc n)) (suc n) W W V Γ σ (omega numbers) (extends_self W) m to in
        meets_named forms.law S is two (suc n) W Γ σ z T v s.1.2 before.known (named_as S (at_item V Γ to) two (suc n) W σ refl Γ σ (λ x e k. not_right (names_in Γ x) (V x) (visible_or V z x (off x e) (then_shown (names_in Γ x || same_symbol z x) (V x || same_symbol z x) (or_left (names_in Γ x) (same_symbol z x) e) k))) (λ x e k. visible_or V z x (off x e) k) before.named) record { some = no_shuts; fits = fit no_shuts; own = λ e. fit to; each = λ e other. fit other } (item_within U (bind g T Γ) to (inside_more V Γ Γ z T inside (λ x e. e))) in
        let later = program_calm rest U ((g, Q.point p) ∷ Δ) (bind g T Γ) ((g, v) ∷ ps) (given z v ∷ σ) n W w (fits_bind {x = g} (are.templates p) f) (closed_bind S z T Γ s.1.2) i.1 q.1 s.2 (inside_more V Γ Γ z T inside (λ x e. e)) (visible_more V Γ Γ g T v ps σ σ vis (λ x e. refl) (λ x e. e)) more (forms.law.stores S (suc n) n W w (omega numbers) ag) in
        subst (λ x. IsCalmFrom n (close_items ((g, x) ∷ []) (close_items (without (g ∷ []) ps) (items_core rest))) w) (sym same) (subst (λ is2. IsCalmFrom n is2 w) (sym (behind (g ∷ []) ((g, v) ∷ []) ps (items_core rest) (forms.law.one g v))) later)

  pub safe_by : ItemsCloseByNone → ItemsCloseBehind → (p : Program) → HasProgram P Q [] p → Checks P A [] p → IsScopedProgram P A O no_symbols [] p → IsSafe (items_core p)
  safe_by by_none behind p h r s input n =
      let S = scene_of P A O in
      let w : World = record { arrays = []; input = input; output = [] } in
      subst (λ is2. IsCalmFrom n is2 w) (by_none (items_core p)) (program_calm by_none behind p no_symbols [] [] [] [] n [] w fits_none tt h r s (λ y e. absurd (cc)) (λ x z. absurd (cc)) (λ to. record { known = record { true_facts = tt; no_value = refl; lacks_value = tt }; named = tt; within = λ x e. (refl, refl) }) ((refl, λ r K e. absurd (cc)), (forms.law.elements S n [] w).1 (λ m lt r j K row v e. absurd (cc))))
