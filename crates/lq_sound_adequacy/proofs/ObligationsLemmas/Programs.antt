-- What programs are asked for is well sorted: definition by definition.
use Rattle.std.proofs.Common.{◌≡◌, ◌∙◌, ℕ, Bool, true, false, ◌||◌, ◌==◌, cond, List, [], ◌∷◌, ◌++◌, Option, Some, None, refl, ap, subst}
use Rattle.std.specs.List.{All}
use Rattle.std.proofs.lemmas.Bool.{eqb-true}
use Rattle.std.proofs.lemmas.List.Elements.{All-nil, All-append}
use Rattle.lq_refined_rules.specs.Checks.Basis.{Basis}
use Rattle.lq_refined_rules.specs.Checks.Fitting.{Fits, fits_none, fits_bind, GiveSimpleTypes, SimpleTypesAreGiven}
use Rattle.lq_refined_rules.specs.Checks.Listing.{from}
use Rattle.lq_refined_rules.specs.Checks.Operation.{bind, last_context, last_type}
use Rattle.lq_refined_rules.specs.Checks.Ready.{IsReady}
use Rattle.lq_refined_rules.specs.Checks.Tree.{has_template, Use, Program, no_items, define, define_recursive, run_unit, run_any}
use Rattle.lq_refined_rules.specs.Checks.Typing.{AreTemplates, Points, Types, HasProgram}
use Rattle.lq_sound_values.specs.Inclusion.Symbols.{Symbols, with_symbol}
use Rattle.lq_refined_rules.specs.Obligations.Obligation.{Obligation}
use Rattle.lq_refined_rules.specs.Obligations.Obligations.{obligations_of, of_block, of_definition, of_given, of_recursive, subtyping}
use Rattle.lq_refined_types.specs.Types.Context.{Context}
use Rattle.lq_refined_types.specs.Types.Operations.{symbol_of}
use Rattle.lq_refined_types.specs.Types.Refined.{Refined, int_with, bool_with, unit_type, function, tuple_of, array_with, data_with, map_with, type_variable, erased}
use Rattle.lq_sound_programs.specs.Safety.Programs.{IsUseOf}
use Rattle.lq_sound_scope.specs.Scalars.Uses.{IsUseBefore, ProgramUsesBefore}
use Rattle.lq_sound_scope.specs.Scalars.Written.{AreItemsWritten, HasNamelessArguments}
use Rattle.lq_sound_scope.proofs.ScalarsLemmas.Forms.{block_before}
use Rattle.lq_sound_scope.proofs.ScalarsLemmas.Typings.{any_typing, define_recursive_typing, define_typing, unit_typing}
use Rattle.lq_refined_types.specs.Subtyping.Implication.{of_flow, Origin}
use Rattle.lq_refined_templates.specs.Templates.Scopes.{Unknown, symbols_in}
use Rattle.lq_text_tree.specs.MlType as ml
use Rattle.lq_text_tree.specs.MlType.{MlType}
use Rattle.lq_sound_scope.specs.Sorts.Equations.{AreEquationsWellSorted}
use Rattle.lq_sound_scope.specs.Sorts.Types.{TypeSorted, TypesSorted}
use Rattle.lq_sound_adequacy.specs.Obligations.Kinds.{DefinitionsFixed, NameKind, ProgramKinds, is_variable}
use Rattle.lq_sound_adequacy.specs.Obligations.Laws.{ObligationsAreSorted}
use Rattle.lq_sound_adequacy.specs.Obligations.Sorted.{IsSortedObligation, TwinsAlike}
use Rattle.lq_sound_adequacy.proofs.ObligationsLemmas.Blocks.{block_asked, given_asked, recursive_by, subtyping_sorted}
use Rattle.lq_sound_adequacy.proofs.ObligationsLemmas.Pures as pures
use Rattle.lq_sound_adequacy.proofs.ObligationsLemmas.Pures.{IsFixed, Sorted, bind_sorted}

-- a function's type is no variable
arrow_fixed : (t : Refined) (u v : MlType) → erased t ≡ ml.arrow u v → is_variable t ≡ false
arrow_fixed (function x a b) u v e = refl
arrow_fixed (int_with p) u v e = cc
arrow_fixed (bool_with p) u v e = cc
arrow_fixed unit_type u v e = cc
arrow_fixed (tuple_of ts) u v e = cc
arrow_fixed (array_with a p) u v e = cc
arrow_fixed (data_with d ts m p) u v e = cc
arrow_fixed (map_with a p) u v e = cc
arrow_fixed (type_variable i) u v e = cc

module _ (P : Basis) (unknowns : ℕ → Unknown) (K : ℕ → NameKind) (twins : TwinsAlike K)
    (arguments : (i : ℕ) → TypesSorted P.setting.constructors unknowns (pures.N P unknowns K) (P.type_arguments i))
    (agree : (u : ℕ) → P.setting.scopes u ≡ symbols_in (unknowns u).0) (Q : Points) (templates : AreTemplates P Q) (give : GiveSimpleTypes P Q)
    (sorted : (k : ℕ) → TypeSorted P.setting.constructors unknowns (pures.N P unknowns K) (P.template k)) (equations : AreEquationsWellSorted P)
    (only : (c : ℕ) → P.setting.constructors c ≡ None → P.equations c ≡ []) where
  abbrev C : Use → Type 0
  C = HasNamelessArguments P

  -- what earlier definitions defined has no variable's type
  abbrev AreFixed : Symbols → Type 0
  AreFixed G = (x : ℕ) → G (symbol_of x) ≡ true → (K x).1 ≡ false

  abbrev Known : Symbols → Use → Type 0
  Known G u = C u × IsUseBefore G u

  use_fixed : (G : Symbols) → AreFixed G → (u : Use) → Known G u → IsFixed P unknowns K u
  use_fixed G f u w = by u.type_arguments w.1
    where
      by : (a : Option ℕ) → IsUseOf G u.name a → pures.IsFixedAt P unknowns K a u.name
      by None h = tt
      by (Some i) h = f u.name h

  fixed_more : (G : Symbols) → AreFixed G → (x : ℕ) → (K x).1 ≡ false → AreFixed (with_symbol G (symbol_of x))
  fixed_more G f x e y h = by (G (symbol_of y)) (x == y) h (f y) (λ q. subst (λ (z : ℕ). (K z).1 ≡ false) (eqb-true x y q) e)
    where
      by : (a b : Bool) → (a || b) ≡ true → (a ≡ true → (K y).1 ≡ false) → (b ≡ true → (K y).1 ≡ false) → (K y).1 ≡ false
      by true b h f g = f refl
      by false b h f g = g h

  abbrev AllSorted : List Obligation → Type 0
  AllSorted os = All (IsSortedObligation P unknowns (pures.N P unknowns K)) os

  both : (os ps : List Obligation) → AllSorted os → AllSorted ps → AllSorted (os ++ ps)
  both os ps a b = All-append (IsSortedObligation P unknowns (pures.N P unknowns K)) os ps a b

  -- of a definition's own template
  definition_asked : (G : Symbols) (f : AreFixed G) (Γ : Context) → Sorted P unknowns K Γ → (T : Refined) → TypeSorted P.setting.constructors unknowns (pures.N P unknowns K) T
      → (k : ℕ) (o : Origin) (b : Bool) → AllSorted (cond b (subtyping P Γ T (P.template k) o) [])
  definition_asked G f Γ good T h k o true =
      subtyping_sorted P unknowns K twins arguments agree Q templates give sorted equations only (Known G) (use_fixed G f) Γ good T (P.template k) o h (sorted k)
  definition_asked G f Γ good T h k o false =
      All-nil (IsSortedObligation P unknowns (pures.N P unknowns K))

  program_asked : (p : Program) (G : Symbols) → AreFixed G → (Γ : Context) → Sorted P unknowns K Γ → AreItemsWritten P C p → ProgramUsesBefore G p
      → IsReady P Γ p → ProgramKinds P K Γ p → DefinitionsFixed K p → (Δ : Types) → Fits Δ Γ → HasProgram P Q Δ p → AllSorted (obligations_of P Γ p)
  program_asked no_items G f Γ good written before ready kinds fixed Δ fits typed =
      All-nil (IsSortedObligation P unknowns (pures.N P unknowns K))
  program_asked (define x l k b rest) G f Γ good written before ready kinds fixed Δ fits typed =
      let T = last_type P Γ b in
      let Θ = last_context P Γ b in
      let d = define_typing P Q typed in
      let r = given_asked P unknowns K twins arguments agree Q templates give sorted equations only (Known G) (use_fixed G f) b Γ good
      (block_before P C G false b written.0 before.0) ready.0 kinds.0 Δ d.0 d.1.0 fits d.1.1.0 in
      both (of_given P Γ b) (of_definition P Γ l k b ++ obligations_of P (bind x T Θ) rest) r.asked
      (both (of_definition P Γ l k b) (obligations_of P (bind x T Θ) rest) (definition_asked G f Θ r.good T r.own k (from l of_flow) (has_template b))
      (program_asked rest (with_symbol G (symbol_of x)) (fixed_more G f x fixed.0) (bind x T Θ) (bind_sorted P unknowns K Θ r.good x T kinds.1 r.own) written.2
      before.1 ready.3 kinds.2 fixed.1 ((x, d.1.0) ∷ d.0) (fits_bind r.typed r.fits) d.1.1.1))
  program_asked (define_recursive g p y b rest) G f Γ good written before ready kinds fixed Δ fits typed =
      let T = P.template p in
      let d = define_recursive_typing P Q typed in
      let q = recursive_by P unknowns K twins arguments agree Q templates give sorted equations only (Known G) (use_fixed G f) b
      (block_asked P unknowns K twins arguments agree Q templates give sorted equations only (Known G) (use_fixed G f) b) Γ good g p y
      (block_before P C G true b written.1 before.0) ready.0.2 kinds.0 kinds.1 kinds.2 Δ fits d.0 in
      let e : (K g).1 ≡ false =
      ap (λ (k : NameKind). k.1) kinds.0 ∙ arrow_fixed T d.0.0 d.0.1.0 (templates.templates p ∙ d.0.1.1.1) in
      both (of_recursive P Γ g p y b) (obligations_of P (bind g T Γ) rest) q.0
      (program_asked rest (with_symbol G (symbol_of g)) (fixed_more G f g e) (bind g T Γ) q.1 written.2 before.1 ready.1 kinds.3 fixed ((g, Q.point p) ∷ Δ)
      (fits_bind (templates.templates p) fits) d.1)
  program_asked (run_unit b rest) G f Γ good written before ready kinds fixed Δ fits typed =
      let d = unit_typing P Q typed in
      both (of_block P Γ b unit_type) (obligations_of P Γ rest)
      (block_asked P unknowns K twins arguments agree Q templates give sorted equations only (Known G) (use_fixed G f) b Γ good unit_type
      (block_before P C G true b written.0 before.0) ready.0 kinds.0 (tt, tt) Δ fits d.0)
      (program_asked rest G f Γ good written.1 before.1 ready.1 kinds.1 fixed Δ fits d.1)
  program_asked (run_any b rest) G f Γ good written before ready kinds fixed Δ fits typed =
      let d = any_typing P Q typed in
      let r = given_asked P unknowns K twins arguments agree Q templates give sorted equations only (Known G) (use_fixed G f) b Γ good
      (block_before P C G false b written.0 before.0) ready.0 kinds.0 Δ d.0 d.1.0 fits d.1.1.0 in
      both (of_given P Γ b) (obligations_of P Γ rest) r.asked (program_asked rest G f Γ good written.1 before.1 ready.1 kinds.1 fixed Δ fits d.1.1.1)

pub obligations_sorted : SimpleTypesAreGiven → ObligationsAreSorted
obligations_sorted given P unknowns Q p posed K s =
    program_asked P unknowns K s.twins s.arguments posed.scopes Q posed.templates (given P Q posed.templates) s.templates s.equations posed.others p
    (λ y. false) (λ x h. cc) [] (tt, tt) posed.written posed.before posed.ready s.names s.fixed [] fits_none posed.typed
