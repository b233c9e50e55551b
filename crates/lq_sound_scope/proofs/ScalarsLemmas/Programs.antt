-- Programs whose forms are scalar, and whose templates are written so, are plain: definition by definition.
use Rattle.std.proofs.Common.{◌≡◌, ◌∙◌, ℕ, ◌==◌, Bool, true, false, ◌||◌, cond, List, [], ◌∷◌, ◌++◌, Some, None, refl, sym}
use Rattle.lq_refined_rules.specs.Checks.Basis.{Basis}
use Rattle.lq_refined_rules.specs.Checks.Binders.{AllDiffer, operation_binders, block_binders, binders}
use Rattle.lq_refined_rules.specs.Checks.Fitting.{Fits, fits_none, fits_bind, SimpleTypesAreGiven}
use Rattle.lq_refined_rules.specs.Checks.Operation.{bind, last_context, last_type, recursive_context, recursive_type}
use Rattle.lq_refined_rules.specs.Checks.Ready.{IsReady}
use Rattle.lq_refined_rules.specs.Checks.Tree.{last_operation, Use, Program, no_items, define, define_recursive, run_unit, run_any}
use Rattle.lq_refined_rules.specs.Checks.Typing.{Points, AreTemplates, Types, HasProgram}
use Rattle.lq_sound_values.specs.Inclusion.Symbols.{Symbols, with_symbol}
use Rattle.lq_sound_scope.specs.Scopes.InScope.{InScope, no_names, with_names}
use Rattle.lq_sound_scope.specs.Scopes.Laws.{TypesAreOver}
use Rattle.lq_sound_scope.specs.Scopes.Over.{AreSorted, IsWithin}
use Rattle.lq_sound_values.specs.Inhabitants.Truth.{Objects}
use Rattle.lq_sound_values.specs.Instantiation.Instances.{NamesOutside}
use Rattle.lq_sound_scope.specs.Operations.Laws.{KeepNames, NamesAreKept}
use Rattle.lq_refined_types.specs.Parts.Assignment.{Assignment}
use Rattle.lq_sound_programs.specs.Plain.Plain.{IsPlainProgram}
use Rattle.lq_sound_scope.specs.Environments.Laws.{RecursionsAreOver}
use Rattle.lq_refined_types.specs.Types.Context.{Context, type_in}
use Rattle.lq_refined_types.specs.Types.Operations.{symbol_of}
use Rattle.lq_refined_types.specs.Types.Refined.{Refined, Refineds, none, more, int_with, bool_with, unit_type, function, tuple_of, array_with, data_with, map_with, type_variable}
use Rattle.lq_sound_values.specs.Runs.Closed.{names_in}
use Rattle.lq_sound_values.proofs.RunsLemmas.Closing.{or_parts, with_within, within_with}
use Rattle.lq_sound_scope.specs.Matrices.Laws.{ArgumentsLackFields, MatricesAreSorted}
use Rattle.lq_refined_templates.specs.Templates.Scopes.{Unknown, symbols_in}
use Rattle.lq_sound_scope.specs.Scalars.Data.{HasDatatypes}
use Rattle.lq_sound_scope.specs.Scalars.Laws.{ScalarProgramsArePlain}
use Rattle.lq_sound_scope.specs.Scalars.Scalar.{HaveTwins}
use Rattle.lq_sound_scope.specs.Scalars.Uses.{ProgramUsesBefore}
use Rattle.lq_sound_scope.specs.Scalars.Written.{AreItemsWritten, HasNamelessArguments}
use Rattle.lq_sound_scope.proofs.ScalarsLemmas.Contexts as contexts
use Rattle.lq_sound_scope.proofs.ScalarsLemmas.Contexts.{IsKnown, fine_known, good_bind}
use Rattle.lq_sound_scope.proofs.ScalarsLemmas.Forms.{block_before, block_uses, nameless_block, twins_back, twins_front}
use Rattle.lq_sound_scope.proofs.ScalarsLemmas.Instances.{outside_less}
use Rattle.lq_sound_scope.proofs.ScalarsLemmas.Items.{all_back, all_front, all_own, differ_back, differ_front, end_differ, end_none, last_names, names_behind, names_joined, names_own, names_small, names_wider, none_back, none_before, none_behind, none_front, none_less, none_one}
use Rattle.lq_sound_scope.proofs.ScalarsLemmas.NameKinds.{Agree, block_kinds, block_names, binders_agree, given_kinds, given_names, KindsAre, kinds_back, kinds_front, kind_in, name_kind, NameKind, names_bound, Naming, NoneIn, program_kinds}
use Rattle.lq_sound_scope.proofs.ScalarsLemmas.Outside.{function_outside}
use Rattle.lq_sound_scope.proofs.ScalarsLemmas.Plain.{block_plain, given_plain, recursive_by, settled}
use Rattle.lq_sound_scope.proofs.ScalarsLemmas.Twins.{AreSmall}
use Rattle.lq_sound_scope.proofs.ScalarsLemmas.Types.{AreNamed, IsNamed}
use Rattle.lq_sound_scope.proofs.ScalarsLemmas.Typings.{any_typing, define_recursive_typing, define_typing, unit_typing}
use Rattle.lq_sound_scope.proofs.ScalarsLemmas.Uses.{IsKnownUse}

-- ---- from one definition to the next

-- Fewer names are left, at the same kinds.
module _ (m n : Naming) (same : (z : ℕ) → n.kinds z ≡ m.kinds z) (less : IsWithin n.all m.all) where
  mutual
    named_less : (t : Refined) → IsNamed m t → IsNamed n t
    named_less (int_with p) h = tt
    named_less (bool_with p) h = tt
    named_less unit_type h = tt
    named_less (function None a b) h = named_less b h
    named_less (function (Some x) a b) h = ((λ e. same x ∙ h.0 (less (symbol_of x) e)), named_less b h.1)
    named_less (tuple_of ts) h = all_named_less ts h
    named_less (array_with e p) h = tt
    named_less (data_with d ts k p) h = tt
    named_less (map_with e p) h = tt
    named_less (type_variable i) h = tt

    all_named_less : (ts : Refineds) → AreNamed m ts → AreNamed n ts
    all_named_less none h = tt
    all_named_less (more t ts) h = (named_less t h.0, all_named_less ts h.1)

  module _ (P : Basis) (unknowns : ℕ → Unknown) (keep : KeepNames P.setting.constructors unknowns P.setting.scopes) where
    known_next : (N : Symbols) (t : Refined) → IsKnown P unknowns keep m N t → IsKnown P unknowns keep n N t
    known_next N t k =
        record { scalar = k.scalar; own = k.own; within = k.within; over = k.over; apart = k.apart; named = named_less t k.named }

    pub good_next : (Γ : Context) → IsWithin (names_in Γ) n.all → contexts.IsGood P unknowns keep m Γ
        → ((z : ℕ) → n.general (symbol_of z) ≡ true → NamesOutside n.all (type_in Γ (symbol_of z))) → contexts.IsGood P unknowns keep n Γ
    good_next Γ w good general =
        record {
          kinds = λ z h. let k = good.kinds z h in (k.0, k.1 ∙ sym (same z), w (symbol_of z) h);
          clean = good.clean;
          types = λ z h. known_next (names_in Γ) (type_in Γ (symbol_of z)) (good.types z h);
          general = general;
          entries = good.entries;
        }

    -- and one more is defined
    pub general_next : (N : Symbols) (Γ : Context) → ((z : ℕ) → N (symbol_of z) ≡ true → NamesOutside m.all (type_in Γ (symbol_of z)))
        → (x : ℕ) (T : Refined)
        → NamesOutside n.all T → (z : ℕ) → with_symbol N (symbol_of x) (symbol_of z) ≡ true → NamesOutside n.all (type_in (bind x T Γ) (symbol_of z))
    general_next N Γ general x T o z h = by (x == z) h
      where
        by : (b : Bool) → (N (symbol_of z) || b) ≡ true → NamesOutside n.all (cond b T (type_in Γ (symbol_of z)))
        by true h = o
        by false h =
            or_parts (NamesOutside n.all (type_in Γ (symbol_of z))) (N (symbol_of z)) false h
            (λ k. outside_less n.all m.all (λ y e. less (symbol_of y) e) (type_in Γ (symbol_of z)) (general z k)) (λ k. absurd (no k))
          where
            no : false ≡ true → ⊥
            no k = cc

-- What is known of names where these are bound from here on, and these are what earlier definitions defined.
abbrev pub naming : (ℕ → NameKind) → (M : Symbols) → AreSmall M → Symbols → Naming
naming k M small N = record { kinds = k; all = M; general = N; small = small }

module _ (over : TypesAreOver) (kept : NamesAreKept) (recursions : RecursionsAreOver) (given : SimpleTypesAreGiven) (matrices : MatricesAreSorted)
    (lack : ArgumentsLackFields) (P : Basis) (unknowns : ℕ → Unknown) (A : Assignment) (O : Objects) (sorted : AreSorted unknowns A)
    (agree : (u : ℕ) → P.setting.scopes u ≡ symbols_in (unknowns u).0) (datatypes : HasDatatypes P O) (Q : Points) (templates : AreTemplates P Q)
    (kinds_of : ℕ → NameKind) where
  abbrev keep : KeepNames P.setting.constructors unknowns P.setting.scopes
  keep = kept P.setting.constructors unknowns P.setting.scopes agree

  abbrev Good : Naming → Context → Type 0
  Good m Γ = contexts.IsGood P unknowns keep m Γ

  abbrev C : Use → Type 0
  C = HasNamelessArguments P

  abbrev ProgramPlain : Program → Type 0
  ProgramPlain p =
      (N : Symbols) (Γ : Context) → IsWithin N (names_in Γ) → (small : AreSmall (with_names (names_in Γ) (binders p)))
      → Good (naming kinds_of (with_names (names_in Γ) (binders p)) small N) Γ → InScope P unknowns N p → AreItemsWritten P C p
      → ProgramUsesBefore N p
      → IsReady P Γ p → HaveTwins (binders p) → AllDiffer (binders p) → NoneIn (names_in Γ) (binders p) → KindsAre kinds_of (program_kinds P Γ p)
      → (Δ : Types) → Fits Δ Γ → HasProgram P Q Δ p → IsPlainProgram P A O N Γ p

  program_plain : (p : Program) → ProgramPlain p
  program_plain no_items N Γ w small good scoped written before ready twins differ new kinds Δ fits typing = tt
  program_plain (define x l k b rest) N Γ w small good scoped written before ready twins differ new kinds Δ fits typing =
      let T = last_type P Γ b in
      let Θ = last_context P Γ b in
      let B = block_binders b in
      let R = binders rest in
      let V = names_in Γ in
      let m : Naming = naming kinds_of (with_names V (B ++ x ∷ R)) small N in
      let after = (x, name_kind T) ∷ program_kinds P (bind x T Θ) rest in
      let tb = twins_back B (x ∷ R) twins in
      let kb = kinds_back kinds_of (given_kinds P Γ b) after kinds in
      let there = all_own V (B ++ x ∷ R) in
      let free = none_less N V w (B ++ x ∷ R) new in
      let own : Agree m (given_kinds P Γ b) =
      names_bound m (given_kinds P Γ b) B (given_names P Γ b) (kinds_front kinds_of (given_kinds P Γ b) after kinds) (all_front m.all B (x ∷ R) there)
      (none_front N B (x ∷ R) free) in
      let d = define_typing P Q typing in
      let known = block_before P C N false b written.0 before.0 in
      let r = given_plain over kept recursions given matrices lack P unknowns A O sorted agree datatypes Q templates m b N Γ w good scoped.0 known ready.0
      (twins_front B (x ∷ R) twins) own Δ d.0 d.1.0 fits d.1.1.0 in
      let D = differ_back B (x ∷ R) differ in
      let newer = none_less (names_in Θ) (with_names V B) (last_names P b Γ) (x ∷ R) (none_behind V B (x ∷ R) differ (none_back V B (x ∷ R) new)) in
      let L = with_names (names_in Θ) (x ∷ R) in
      let less : IsWithin L m.all = λ y h. names_joined V B (x ∷ R) y (names_wider (names_in Θ) (with_names V B) (last_names P b Γ) (x ∷ R) y h) in
      let low : AreSmall L = λ z h. small z (less (symbol_of z) h) in
      let outer = r.outside L low
      (none_before (names_in Θ) (operation_binders (last_operation b)) (x ∷ R) (end_differ P b (x ∷ R) differ)
      (end_none P b Γ (differ_front B (x ∷ R) differ) (none_front V B (x ∷ R) new))) in
      let n : Naming = naming kinds_of L low (with_symbol N (symbol_of x)) in
      let bound = good_bind P unknowns keep m Θ r.good x T tb.0
      (kb.0, (all_back m.all B (x ∷ R) there).0, (none_back N B (x ∷ R) free).0) (fine_known P unknowns keep m (names_in Θ) T r.fine) in
      let next = good_next m n (λ z. refl) less P unknowns keep (bind x T Θ) (names_own (names_in (bind x T Θ)) R) bound
      (general_next m n (λ z. refl) less P unknowns keep N Θ r.good.general x T outer) in (
        block_uses P unknowns N (IsKnownUse P unknowns keep m) (λ u c. c.1) false N b scoped.0 known,
        r.plain,
        settled over kept recursions given matrices lack P unknowns A O sorted agree datatypes Q templates m b k T d.1.0 d.1.1.2 r.typed written.1,
        program_plain rest (with_symbol N (symbol_of x)) (bind x T Θ) (with_within N (names_in Θ) (symbol_of x) (λ y h. r.within y (w y h))) low next
            scoped.2 written.2 before.1 ready.3 tb.1 D.1 (none_one (names_in Θ) x R D.0 newer.1) kb.1 ((x, d.1.0) ∷ d.0)
            (fits_bind r.typed r.fits) d.1.1.1,
      )
  program_plain (define_recursive g p y b rest) N Γ w small good scoped written before ready twins differ new kinds Δ fits typing =
      let T = P.template p in
      let B = block_binders b in
      let R = binders rest in
      let V = names_in Γ in
      let m : Naming = naming kinds_of (with_names V (g ∷ y ∷ (B ++ R))) small N in
      let Kb = block_kinds P (recursive_context P Γ g p y) b (recursive_type P p y) in
      let Kc = program_kinds P (bind g T Γ) rest in
      let there = all_own V (g ∷ y ∷ (B ++ R)) in
      let free = none_less N V w (g ∷ y ∷ (B ++ R)) new in
      let own : Agree m Kb =
      names_bound m Kb B (block_names P (recursive_context P Γ g p y) b (recursive_type P p y)) (kinds_front kinds_of Kb Kc kinds.1.1)
      (all_front m.all B R there.1.1) (none_front N B R free.1.1) in
      let d = define_recursive_typing P Q typing in
      let known = block_before P C N true b written.1 before.0 in
      let q = recursive_by over kept recursions given matrices lack P unknowns A O sorted agree datatypes Q templates m b
      (block_plain over kept recursions given matrices lack P unknowns A O sorted agree datatypes Q templates m b) N Γ w good g p y scoped.0 scoped.1 scoped.2
      written.0 known ready.0.1 ready.0.2 (twins.0, (twins.1.0, twins_front B R twins.1.1))
      ((kinds.0, there.0, free.0), ((kinds.1.0, there.1.0, free.1.0), own)) Δ fits d.0 in
      let G = with_symbol V (symbol_of g) in
      let newer = none_one V g (y ∷ (B ++ R)) differ.0 new.1 in
      let L = with_names G R in
      let less : IsWithin L m.all = λ z h.
      let H = with_symbol G (symbol_of y) in
      names_behind H B R z (names_wider G H (within_with G (symbol_of y)) R z h) in
      let low : AreSmall L = λ z h. small z (less (symbol_of z) h) in
      let outer = function_outside L low y b (none_before G (y ∷ B) R differ.1 (none_front G (y ∷ B) R newer)) T written.0 in
      let n : Naming = naming kinds_of L low (with_symbol N (symbol_of g)) in
      let next = good_next m n (λ z. refl) less P unknowns keep (bind g T Γ) (names_own G R) q.1
      (general_next m n (λ z. refl) less P unknowns keep N Γ good.general g T outer) in (
        block_uses P unknowns N (IsKnownUse P unknowns keep m) (λ u c. c.1) true
            (with_symbol (with_symbol N (symbol_of g)) (symbol_of y)) b scoped.2 known,
        q.0.0,
        q.0.1,
        program_plain rest (with_symbol N (symbol_of g)) (bind g T Γ) (with_within N V (symbol_of g) w) low next scoped.3 written.2 before.1 ready.1
            (twins_back B R twins.1.1) (differ_back B R differ.1.1) (none_back G (y ∷ B) R newer) (kinds_back kinds_of Kb Kc kinds.1.1)
            ((g, Q.point p) ∷ Δ) (fits_bind (templates.templates p) fits) d.1,
      )
  program_plain (run_unit b rest) N Γ w small good scoped written before ready twins differ new kinds Δ fits typing =
      let B = block_binders b in
      let R = binders rest in
      let V = names_in Γ in
      let m : Naming = naming kinds_of (with_names V (B ++ R)) small N in
      let Kb = block_kinds P Γ b unit_type in
      let Kc = program_kinds P Γ rest in
      let own : Agree m Kb =
      names_bound m Kb B (block_names P Γ b unit_type) (kinds_front kinds_of Kb Kc kinds) (all_front m.all B R (all_own V (B ++ R)))
      (none_front N B R (none_less N V w (B ++ R) new)) in
      let d = unit_typing P Q typing in
      let known = block_before P C N true b written.0 before.0 in
      let L = with_names V R in
      let less : IsWithin L m.all = names_behind V B R in
      let low : AreSmall L = λ z h. small z (less (symbol_of z) h) in
      let n : Naming = naming kinds_of L low N in
      let next = good_next m n (λ z. refl) less P unknowns keep Γ (names_own V R) good
      (λ z h. outside_less L m.all (λ y e. less (symbol_of y) e) (type_in Γ (symbol_of z)) (good.general z h)) in (
        block_uses P unknowns N (IsKnownUse P unknowns keep m) (λ u c. c.1) true N b scoped.0 known,
        block_plain over kept recursions given matrices lack P unknowns A O sorted agree datatypes Q templates m b N Γ w good unit_type scoped.0 known
            ready.0 (twins_front B R twins) own (nameless_block b unit_type (tt, tt)) (tt, tt) Δ fits d.0,
        program_plain rest N Γ w low next scoped.1 written.1 before.1 ready.1 (twins_back B R twins) (differ_back B R differ) (none_back V B R new)
            (kinds_back kinds_of Kb Kc kinds) Δ fits d.1,
      )
  program_plain (run_any b rest) N Γ w small good scoped written before ready twins differ new kinds Δ fits typing =
      let B = block_binders b in
      let R = binders rest in
      let V = names_in Γ in
      let m : Naming = naming kinds_of (with_names V (B ++ R)) small N in
      let Kb = given_kinds P Γ b in
      let Kc = program_kinds P Γ rest in
      let own : Agree m Kb =
      names_bound m Kb B (given_names P Γ b) (kinds_front kinds_of Kb Kc kinds) (all_front m.all B R (all_own V (B ++ R)))
      (none_front N B R (none_less N V w (B ++ R) new)) in
      let d = any_typing P Q typing in
      let known = block_before P C N false b written.0 before.0 in
      let r = given_plain over kept recursions given matrices lack P unknowns A O sorted agree datatypes Q templates m b N Γ w good scoped.0 known ready.0
      (twins_front B R twins) own Δ d.0 d.1.0 fits d.1.1.0 in
      let L = with_names V R in
      let less : IsWithin L m.all = names_behind V B R in
      let low : AreSmall L = λ z h. small z (less (symbol_of z) h) in
      let n : Naming = naming kinds_of L low N in
      let next = good_next m n (λ z. refl) less P unknowns keep Γ (names_own V R) good
      (λ z h. outside_less L m.all (λ y e. less (symbol_of y) e) (type_in Γ (symbol_of z)) (good.general z h)) in (
        block_uses P unknowns N (IsKnownUse P unknowns keep m) (λ u c. c.1) false N b scoped.0 known,
        r.plain,
        program_plain rest N Γ w low next scoped.1 written.1 before.1 ready.1 (twins_back B R twins) (differ_back B R differ) (none_back V B R new)
            (kinds_back kinds_of Kb Kc kinds) Δ fits d.1.1.1,
      )

pub not_true : false ≡ true → ⊥
not_true h = cc

pub none_there : (xs : List ℕ) → NoneIn no_names xs
none_there [] = tt
none_there (x ∷ xs) = (refl, none_there xs)

pub scalar_plain : TypesAreOver → NamesAreKept → RecursionsAreOver → SimpleTypesAreGiven → MatricesAreSorted → ArgumentsLackFields
    → ScalarProgramsArePlain
scalar_plain over kept recursions given matrices lack P unknowns A O sorted agree datatypes Q templates p typing ready scoped differ twins written before =
    let k = kind_in (program_kinds P [] p) in
    let small = names_small no_names (binders p) (λ z h. absurd (not_true h)) twins in
    program_plain over kept recursions given matrices lack P unknowns A O sorted agree datatypes Q templates k p no_names []
    (λ y h. absurd (not_true h))
    small
    (record { kinds = λ z h. absurd (not_true h); clean = λ k. refl; types = λ z h. absurd (not_true h); general = λ z h. absurd (not_true h); entries = tt }) scoped written
    before ready twins differ (none_there (binders p)) (binders_agree P p differ) [] fits_none typing
