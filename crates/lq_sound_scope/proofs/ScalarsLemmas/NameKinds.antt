-- The kinds of the names that a program binds.
use Rattle.std.proofs.Common.{◌≡◌, ℕ, ◌==◌, Bool, true, false, cond, List, [], ◌∷◌, ◌++◌, refl, sym, ap, ap₂, subst, ◌∙◌}
use Rattle.std.proofs.lemmas.Bool.{eqb-true, eq-eqb}
use Rattle.lq_refined_rules.specs.Checks.Basis.{Basis}
use Rattle.lq_refined_rules.specs.Checks.Binders.{AllDiffer, IsNotIn, arms_binders, operation_binders, block_binders, binders}
use Rattle.lq_refined_rules.specs.Checks.Operation.{type_of, body_context, body_type, recursive_context, recursive_type, bind, last_context, last_type}
use Rattle.lq_refined_rules.specs.Checks.Match.{fields_by, in_arm, names_for}
use Rattle.lq_refined_rules.specs.Checks.Pure.{formula_of, type_of_use, variable_type}
use Rattle.lq_refined_rules.specs.Checks.Tree.{names_of, Use, Pattern, pattern_any, pattern_name, pattern_unit, pattern_tuple, pattern_build, Arms, no_arms, arm, Operation, pure, fun, if_else, match_on, call, tuple, build, make, fetch, store, divide, remainder, assert, assert_false, read, print, map_empty, map_add, map_find, Block, last, binding, recursive, Program, no_items, define, define_recursive, run_unit, run_any}
use Rattle.lq_refined_types.specs.Parts.Part.{known}
use Rattle.lq_logic_predicates.specs.Formula.{negation}
use Rattle.lq_sound_values.specs.Inclusion.Symbols.{Symbols}
use Rattle.lq_refined_types.specs.Types.Context.{Context, guard}
use Rattle.lq_refined_types.specs.Types.Operations.{symbol_of}
use Rattle.lq_refined_types.specs.Types.Refined.{Refined, Refineds, type_variable, Kind, other, kind, argument_of, components_of, unit_type}
use Rattle.lq_refined_types.specs.Subtyping.Splitting.{first_of, rest_of}
use Rattle.lq_sound_scope.proofs.ScalarsLemmas.Twins.{AreSmall, clash, false_unless}

-- the type is a variable
abbrev pub is_variable : Refined → Bool
is_variable (type_variable i) = true
is_variable _ = false

-- what is known of a name by its type: the type's kind, and whether it is a variable
abbrev pub NameKind : Type 0
NameKind = Kind × Bool

abbrev pub name_kind : Refined → NameKind
name_kind t = (kind t, is_variable t)

-- names with their kinds
abbrev pub Kinds : Type 0
Kinds = List (ℕ × NameKind)

abbrev pub names_of_kinds : Kinds → List ℕ
names_of_kinds [] = []
names_of_kinds (e ∷ es) = e.0 ∷ names_of_kinds es

-- each of these names has its kind
abbrev pub KindsAre : (ℕ → NameKind) → Kinds → Type 0
KindsAre m [] = Unit {0}
KindsAre m (e ∷ es) = (m e.0 ≡ e.1) × KindsAre m es

pub kinds_front : (m : ℕ → NameKind) (es fs : Kinds) → KindsAre m (es ++ fs) → KindsAre m es
kinds_front m [] fs h = tt
kinds_front m (e ∷ es) fs h = (h.0, kinds_front m es fs h.1)

pub kinds_back : (m : ℕ → NameKind) (es fs : Kinds) → KindsAre m (es ++ fs) → KindsAre m fs
kinds_back m [] fs h = h
kinds_back m (e ∷ es) fs h = kinds_back m es fs h.1

-- What is known of names within one definition: their kinds, which there are in it and behind it, and which of them earlier definitions defined.
pub record Naming : Type 0 where
  pub kinds : ℕ → NameKind
  pub all : Symbols
  pub general : Symbols
  pub small : AreSmall all

-- a name that is bound: it has its kind, it is among all, and no earlier definition defined it
abbrev pub IsBound : Naming → ℕ → NameKind → Type 0
IsBound m x k = (m.kinds x ≡ k) × (m.all (symbol_of x) ≡ true) × (m.general (symbol_of x) ≡ false)

abbrev pub Agree : Naming → Kinds → Type 0
Agree m [] = Unit {0}
Agree m (e ∷ es) = IsBound m e.0 e.1 × Agree m es

pub agree_front : (m : Naming) (es fs : Kinds) → Agree m (es ++ fs) → Agree m es
agree_front m [] fs h = tt
agree_front m (e ∷ es) fs h = (h.0, agree_front m es fs h.1)

pub agree_back : (m : Naming) (es fs : Kinds) → Agree m (es ++ fs) → Agree m fs
agree_back m [] fs h = h
agree_back m (e ∷ es) fs h = agree_back m es fs h.1

-- each name is of these, or none is
abbrev pub AllIn : Symbols → List ℕ → Type 0
AllIn N [] = Unit {0}
AllIn N (x ∷ xs) = (N (symbol_of x) ≡ true) × AllIn N xs

abbrev pub NoneIn : Symbols → List ℕ → Type 0
NoneIn N [] = Unit {0}
NoneIn N (x ∷ xs) = (N (symbol_of x) ≡ false) × NoneIn N xs

bound_by : (m : Naming) (es : Kinds) → KindsAre m.kinds es → AllIn m.all (names_of_kinds es) → NoneIn m.general (names_of_kinds es) → Agree m es
bound_by m [] k a g = tt
bound_by m (e ∷ es) k a g = ((k.0, a.0, g.0), bound_by m es k.1 a.1 g.1)

pub names_bound : (m : Naming) (es : Kinds) (xs : List ℕ) → names_of_kinds es ≡ xs → KindsAre m.kinds es → AllIn m.all xs → NoneIn m.general xs
    → Agree m es
names_bound m es xs e k a g =
    bound_by m es k (subst (λ ys. AllIn m.all ys) (sym e) a) (subst (λ ys. NoneIn m.general ys) (sym e) g)

names_joined : (es fs : Kinds) → names_of_kinds (es ++ fs) ≡ names_of_kinds es ++ names_of_kinds fs
names_joined [] fs = refl
names_joined (e ∷ es) fs = ap (λ xs. e.0 ∷ xs) (names_joined es fs)

-- ---- names that differ have kinds

abbrev pub kind_in : Kinds → ℕ → NameKind
kind_in [] x = (other, false)
kind_in (e ∷ es) x = cond (e.0 == x) e.1 (kind_in es x)

-- the first one hides no other
others_agree : (e : ℕ × NameKind) (m : ℕ → NameKind) (es : Kinds) → IsNotIn (names_of_kinds es) e.0 → KindsAre m es
    → KindsAre (λ x. cond (e.0 == x) e.1 (m x)) es
others_agree e m [] n h = tt
others_agree e m (f ∷ es) n h =
    let apart : (e.0 == f.0) ≡ false =
    false_unless (e.0 == f.0) (λ k. clash (f.0 == e.0) (eq-eqb f.0 e.0 (sym (eqb-true e.0 f.0 k))) n.0) in
    (ap (λ b. cond b e.1 (m f.0)) apart ∙ h.0, others_agree e m es n.1 h.1)

differing_agree : (es : Kinds) → AllDiffer (names_of_kinds es) → KindsAre (kind_in es) es
differing_agree [] h = tt
differing_agree (e ∷ es) h =
    (ap (λ b. cond b e.1 (kind_in es e.0)) (eq-eqb e.0 e.0 refl), others_agree e (kind_in es) es h.0 (differing_agree es h.1))

-- ---- of programs

-- of components
abbrev pub component_kinds : List ℕ → Refineds → Kinds
component_kinds [] ts = []
component_kinds (x ∷ xs) ts = (x, name_kind (first_of ts)) ∷ component_kinds xs (rest_of ts)

module _ (P : Basis) where
  abbrev pub pattern_kinds : Context → Use → Pattern → Kinds
  pattern_kinds Γ u pattern_any = []
  pattern_kinds Γ u (pattern_name x) = (x, name_kind (variable_type P.setting.scopes u.name (type_of_use P Γ u))) ∷ []
  pattern_kinds Γ u pattern_unit = []
  pattern_kinds Γ u (pattern_tuple xs) = component_kinds xs (components_of (type_of_use P Γ u))
  pattern_kinds Γ u (pattern_build c xs) =
      let t = type_of_use P Γ u in
      component_kinds xs (fields_by P Γ u.name t c (names_for 0 xs (fields_by P Γ u.name t c [])))

  abbrev mutual
    pub operation_kinds : Context → Operation → Refined → Kinds
    operation_kinds Γ (fun p y b) t = (y, name_kind (argument_of t)) ∷ block_kinds (body_context Γ y t) b (body_type P.setting.scopes y t)
    operation_kinds Γ (if_else p c a b) t =
        block_kinds (guard (known (formula_of c)) ∷ Γ) a t ++ block_kinds (guard (known (negation (formula_of c))) ∷ Γ) b t
    operation_kinds Γ (match_on p u arms) t = arms_kinds Γ u arms t
    operation_kinds Γ _ t = []

    pub block_kinds : Context → Block → Refined → Kinds
    block_kinds Γ (last l o) t = operation_kinds Γ o t
    block_kinds Γ (binding x l o b) t =
        operation_kinds Γ o (type_of P Γ o) ++ (x, name_kind (type_of P Γ o)) ∷ block_kinds (bind x (type_of P Γ o) Γ) b t
    block_kinds Γ (recursive g p y b c) t =
        (g, name_kind (P.template p)) ∷ (y, name_kind (argument_of (P.template p)))
        ∷ (block_kinds (recursive_context P Γ g p y) b (recursive_type P p y) ++ block_kinds (bind g (P.template p) Γ) c t)

    pub arms_kinds : Context → Use → Arms → Refined → Kinds
    arms_kinds Γ u no_arms t = []
    arms_kinds Γ u (arm q b arms) t = (pattern_kinds Γ u q ++ block_kinds (in_arm P Γ u q) b t) ++ arms_kinds Γ u arms t

  abbrev pub given_kinds : Context → Block → Kinds
  given_kinds Γ (last l o) = operation_kinds Γ o (type_of P Γ o)
  given_kinds Γ (binding x l o b) =
      operation_kinds Γ o (type_of P Γ o) ++ (x, name_kind (type_of P Γ o)) ∷ given_kinds (bind x (type_of P Γ o) Γ) b
  given_kinds Γ (recursive g p y b c) =
      (g, name_kind (P.template p)) ∷ (y, name_kind (argument_of (P.template p)))
      ∷ (block_kinds (recursive_context P Γ g p y) b (recursive_type P p y) ++ given_kinds (bind g (P.template p) Γ) c)

  abbrev pub program_kinds : Context → Program → Kinds
  program_kinds Γ no_items = []
  program_kinds Γ (define x l k b rest) =
      given_kinds Γ b ++ (x, name_kind (last_type P Γ b)) ∷ program_kinds (bind x (last_type P Γ b) (last_context P Γ b)) rest
  program_kinds Γ (define_recursive g p y b rest) =
      (g, name_kind (P.template p)) ∷ (y, name_kind (argument_of (P.template p)))
      ∷ (block_kinds (recursive_context P Γ g p y) b (recursive_type P p y) ++ program_kinds (bind g (P.template p) Γ) rest)
  program_kinds Γ (run_unit b rest) = block_kinds Γ b unit_type ++ program_kinds Γ rest
  program_kinds Γ (run_any b rest) = given_kinds Γ b ++ program_kinds Γ rest

  -- ---- these are the program's binders

  joined : (es fs : Kinds) (xs ys : List ℕ) → names_of_kinds es ≡ xs → names_of_kinds fs ≡ ys → names_of_kinds (es ++ fs) ≡ xs ++ ys
  joined es fs xs ys h k = names_joined es fs ∙ ap₂ (λ us vs. us ++ vs) h k

  components_names : (xs : List ℕ) (ts : Refineds) → names_of_kinds (component_kinds xs ts) ≡ xs
  components_names [] ts = refl
  components_names (x ∷ xs) ts = ap (λ ys. x ∷ ys) (components_names xs (rest_of ts))

  pattern_names : (Γ : Context) (u : Use) (q : Pattern) → names_of_kinds (pattern_kinds Γ u q) ≡ names_of q
  pattern_names Γ u pattern_any = refl
  pattern_names Γ u (pattern_name x) = refl
  pattern_names Γ u pattern_unit = refl
  pattern_names Γ u (pattern_tuple xs) = components_names xs (components_of (type_of_use P Γ u))
  pattern_names Γ u (pattern_build c xs) =
      let t = type_of_use P Γ u in
      components_names xs (fields_by P Γ u.name t c (names_for 0 xs (fields_by P Γ u.name t c [])))

  mutual
    operation_names : (Γ : Context) (o : Operation) (t : Refined) → names_of_kinds (operation_kinds Γ o t) ≡ operation_binders o
    operation_names Γ (fun p y b) t = ap (λ xs. y ∷ xs) (block_names (body_context Γ y t) b (body_type P.setting.scopes y t))
    operation_names Γ (if_else p c a b) t =
        joined (block_kinds (guard (known (formula_of c)) ∷ Γ) a t) (block_kinds (guard (known (negation (formula_of c))) ∷ Γ) b t) (block_binders a)
        (block_binders b) (block_names (guard (known (formula_of c)) ∷ Γ) a t)
        (block_names (guard (known (negation (formula_of c))) ∷ Γ) b t)
    operation_names Γ (pure e) t = refl
    operation_names Γ (match_on p u arms) t = arms_names Γ u arms t
    operation_names Γ (call g a) t = refl
    operation_names Γ (tuple es) t = refl
    operation_names Γ (build p c es) t = refl
    operation_names Γ (make p n e) t = refl
    operation_names Γ (fetch u i) t = refl
    operation_names Γ (store u i e) t = refl
    operation_names Γ (divide x y) t = refl
    operation_names Γ (remainder x y) t = refl
    operation_names Γ (assert e) t = refl
    operation_names Γ (assert_false p) t = refl
    operation_names Γ (read e) t = refl
    operation_names Γ (print e) t = refl
    operation_names Γ (map_empty p) t = refl
    operation_names Γ (map_add p k e m) t = refl
    operation_names Γ (map_find k m) t = refl

    pub block_names : (Γ : Context) (b : Block) (t : Refined) → names_of_kinds (block_kinds Γ b t) ≡ block_binders b
    block_names Γ (last l o) t = operation_names Γ o t
    block_names Γ (binding x l o b) t =
        joined (operation_kinds Γ o (type_of P Γ o)) ((x, name_kind (type_of P Γ o)) ∷ block_kinds (bind x (type_of P Γ o) Γ) b t)
        (operation_binders o)
        (x ∷ block_binders b) (operation_names Γ o (type_of P Γ o))
        (ap (λ xs. x ∷ xs) (block_names (bind x (type_of P Γ o) Γ) b t))
    block_names Γ (recursive f p y b c) t =
        ap (λ xs. f ∷ y ∷ xs)
        (joined (block_kinds (recursive_context P Γ f p y) b (recursive_type P p y)) (block_kinds (bind f (P.template p) Γ) c t) (block_binders b)
        (block_binders c) (block_names (recursive_context P Γ f p y) b (recursive_type P p y))
        (block_names (bind f (P.template p) Γ) c t))

    arms_names : (Γ : Context) (u : Use) (arms : Arms) (t : Refined) → names_of_kinds (arms_kinds Γ u arms t) ≡ arms_binders arms
    arms_names Γ u no_arms t = refl
    arms_names Γ u (arm q b arms) t =
        joined (pattern_kinds Γ u q ++ block_kinds (in_arm P Γ u q) b t) (arms_kinds Γ u arms t) (names_of q ++ block_binders b) (arms_binders arms)
        (joined (pattern_kinds Γ u q) (block_kinds (in_arm P Γ u q) b t) (names_of q) (block_binders b) (pattern_names Γ u q)
        (block_names (in_arm P Γ u q) b t))
        (arms_names Γ u arms t)

  pub given_names : (Γ : Context) (b : Block) → names_of_kinds (given_kinds Γ b) ≡ block_binders b
  given_names Γ (last l o) = operation_names Γ o (type_of P Γ o)
  given_names Γ (binding x l o b) =
      joined (operation_kinds Γ o (type_of P Γ o)) ((x, name_kind (type_of P Γ o)) ∷ given_kinds (bind x (type_of P Γ o) Γ) b) (operation_binders o)
      (x ∷ block_binders b) (operation_names Γ o (type_of P Γ o))
      (ap (λ xs. x ∷ xs) (given_names (bind x (type_of P Γ o) Γ) b))
  given_names Γ (recursive f p y b c) =
      ap (λ xs. f ∷ y ∷ xs)
      (joined (block_kinds (recursive_context P Γ f p y) b (recursive_type P p y)) (given_kinds (bind f (P.template p) Γ) c) (block_binders b)
      (block_binders c) (block_names (recursive_context P Γ f p y) b (recursive_type P p y))
      (given_names (bind f (P.template p) Γ) c))

  program_names : (Γ : Context) (p : Program) → names_of_kinds (program_kinds Γ p) ≡ binders p
  program_names Γ no_items = refl
  program_names Γ (define x l k b rest) =
      joined (given_kinds Γ b) ((x, name_kind (last_type P Γ b)) ∷ program_kinds (bind x (last_type P Γ b) (last_context P Γ b)) rest)
      (block_binders b)
      (x ∷ binders rest) (given_names Γ b)
      (ap (λ xs. x ∷ xs) (program_names (bind x (last_type P Γ b) (last_context P Γ b)) rest))
  program_names Γ (define_recursive g p y b rest) =
      ap (λ xs. g ∷ y ∷ xs)
      (joined (block_kinds (recursive_context P Γ g p y) b (recursive_type P p y)) (program_kinds (bind g (P.template p) Γ) rest) (block_binders b)
      (binders rest) (block_names (recursive_context P Γ g p y) b (recursive_type P p y))
      (program_names (bind g (P.template p) Γ) rest))
  program_names Γ (run_unit b rest) =
      joined (block_kinds Γ b unit_type) (program_kinds Γ rest) (block_binders b) (binders rest) (block_names Γ b unit_type) (program_names Γ rest)
  program_names Γ (run_any b rest) =
      joined (given_kinds Γ b) (program_kinds Γ rest) (block_binders b) (binders rest) (given_names Γ b) (program_names Γ rest)

  -- so where they differ there are kinds for them
  pub binders_agree : (p : Program) → AllDiffer (binders p) → KindsAre (kind_in (program_kinds [] p)) (program_kinds [] p)
  binders_agree p d = differing_agree (program_kinds [] p) (subst AllDiffer (sym (program_names [] p)) d)
