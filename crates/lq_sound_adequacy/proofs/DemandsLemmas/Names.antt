-- Names in scope are bound in the environments of arms, and pure expressions speak of names in scope.
use Rattle.std.proofs.Common.{ℕ, suc, true, false, List, [], ◌∷◌}
use Rattle.lq_refined_types.specs.Parts.Part.{Parts, Scopes, parts_by}
use Rattle.lq_refined_types.specs.Parts.Substitution.{Subst}
use Rattle.lq_refined_types.specs.Types.Context.{Context, guard}
use Rattle.lq_refined_types.specs.Types.Operations.{symbol_of}
use Rattle.lq_refined_types.specs.Types.Refined.{Refined, Refineds, components_of, top, with_top}
use Rattle.lq_refined_types.specs.Subtyping.Splitting.{first_of, rest_of}
use Rattle.lq_refined_types.specs.Subtyping.Subtype.{with_guards}
use Rattle.lq_refined_templates.specs.Templates.Scopes.{Unknown}
use Rattle.lq_sound_values.specs.Inclusion.Symbols.{Symbols, FormulaOn, SumOn}
use Rattle.lq_sound_values.specs.Runs.Closed.{names_in}
use Rattle.lq_refined_rules.specs.Checks.Basis.{Basis}
use Rattle.lq_refined_rules.specs.Checks.Match.{arm_context, bind_all, bind_components, fields_by, in_arm, name_for, names_for, value_as}
use Rattle.lq_refined_rules.specs.Checks.Operation.{bind, equations_by, type_of, last_context}
use Rattle.lq_refined_rules.specs.Checks.Pure.{formula_of, sum_of, type_of_use, variable_type}
use Rattle.lq_refined_rules.specs.Checks.Tree as t
use Rattle.lq_refined_rules.specs.Checks.Tree.{Use, Pure, names_of, Pattern, pattern_any, pattern_name, pattern_unit, pattern_tuple, pattern_build, Block}
use Rattle.lq_sound_scope.specs.Scopes.InScope.{PureInScope, with_name, with_names}
use Rattle.lq_sound_scope.specs.Scopes.Over.{IsWithin}
use Rattle.lq_sound_scope.proofs.ScopesLemmas.Assigned.{wider}
use Rattle.lq_sound_scope.proofs.ScopesLemmas.Symbols.{within_one}

-- names in scope are bound
abbrev pub Binds : Symbols → Context → Type 0
Binds N Γ = IsWithin N (names_in Γ)

pub binds_one : (N : Symbols) (Γ : Context) (x : ℕ) (t : Refined) → Binds N Γ → Binds (with_name N x) (bind x t Γ)
binds_one N Γ x t w = wider N (names_in Γ) (symbol_of x) w

-- one more that isn't in scope
binds_more : (N : Symbols) (Γ : Context) (x : ℕ) (t : Refined) → Binds N Γ → Binds N (bind x t Γ)
binds_more N Γ x t w y h = within_one (names_in Γ) (symbol_of x) y (w y h)

guards_bind : (N : Symbols) (qs : Parts) (Γ : Context) → Binds N Γ → Binds N (with_guards qs Γ)
guards_bind N [] Γ w = w
guards_bind N (q ∷ qs) Γ w = guards_bind N qs (guard q ∷ Γ) w

all_bind : (N : Symbols) (xs : List ℕ) (ts : Refineds) (Γ : Context) → Binds N Γ → Binds (with_names N xs) (bind_all xs ts Γ)
all_bind N [] ts Γ w = w
all_bind N (x ∷ xs) ts Γ w = all_bind (with_name N x) xs (rest_of ts) (bind x (first_of ts) Γ) (binds_one N Γ x (first_of ts) w)

components_bind : (N : Symbols) (scopes : Scopes) (θ : Subst) (j : ℕ) (xs : List ℕ) (ts : Refineds) (Γ : Context) → Binds N Γ
    → Binds (with_names N xs) (bind_components scopes θ j xs ts Γ)
components_bind N scopes θ j [] ts Γ w = w
components_bind N scopes θ j (x ∷ xs) ts Γ w =
    let t : Refined = first_of ts in
    let u : Refined = with_top (parts_by scopes θ (top t)) t in
    components_bind (with_name N x) scopes (name_for j x t ∷ θ) (suc j) xs (rest_of ts) (bind x u Γ) (binds_one N Γ x u w)

arm_binds : (P : Basis) (N : Symbols) (Γ : Context) (x : ℕ) (t : Refined) (q : Pattern) → Binds N Γ → Binds (with_names N (names_of q)) (arm_context P Γ x t q)
arm_binds P N Γ x t pattern_any w = w
arm_binds P N Γ x t (pattern_name y) w = binds_one N Γ y (variable_type P.setting.scopes x t) w
arm_binds P N Γ x t pattern_unit w = w
arm_binds P N Γ x t (pattern_tuple ys) w = components_bind N P.setting.scopes [] 0 ys (components_of t) Γ w
arm_binds P N Γ x t (pattern_build c ys) w =
    let θ : Subst = names_for 0 ys (fields_by P Γ x t c []) in
    guards_bind (with_names N ys) (equations_by P c (value_as x ∷ θ)) (bind_all ys (fields_by P Γ x t c θ) Γ) (all_bind N ys (fields_by P Γ x t c θ) Γ w)

pub in_arm_binds : (P : Basis) (N : Symbols) (Γ : Context) (u : Use) (q : Pattern) → Binds N Γ → Binds (with_names N (names_of q)) (in_arm P Γ u q)
in_arm_binds P N Γ u q w = arm_binds P N Γ u.name (type_of_use P Γ u) q w

-- at the end of a block
pub last_binds : (P : Basis) (N : Symbols) (Γ : Context) (b : Block) → Binds N Γ → Binds N (last_context P Γ b)
last_binds P N Γ (t.last l o) w = w
last_binds P N Γ (t.binding x l o b) w = last_binds P N (bind x (type_of P Γ o) Γ) b (binds_more N Γ x (type_of P Γ o) w)
last_binds P N Γ (t.recursive g p y b c) w = last_binds P N (bind g (P.template p) Γ) c (binds_more N Γ g (P.template p) w)

-- ---- pure expressions

module _ (P : Basis) (unknowns : ℕ → Unknown) (N M : Symbols) (w : IsWithin N M) where
  pub sum_bound : (e : Pure) → PureInScope P unknowns N e → SumOn M (sum_of e)
  sum_bound (t.whole n) h = tt
  sum_bound (t.flag b) h = tt
  sum_bound t.unit h = tt
  sum_bound (t.use_of u) h = w (symbol_of u.name) h.0
  sum_bound (t.negated a) h = sum_bound a h
  sum_bound (t.add a b) h = (sum_bound a h.0, sum_bound b h.1)
  sum_bound (t.subtract a b) h = (sum_bound a h.0, sum_bound b h.1)
  sum_bound (t.multiply a b) h = (sum_bound a h.0, sum_bound b h.1)
  sum_bound (t.length_of a) h = sum_bound a h
  sum_bound (t.compare o a b) h = tt
  sum_bound (t.not_of a) h = tt
  sum_bound (t.and_of a b) h = tt
  sum_bound (t.or_of a b) h = tt

  pub formula_bound : (e : Pure) → PureInScope P unknowns N e → FormulaOn M (formula_of e)
  formula_bound (t.whole n) h = tt
  formula_bound (t.flag true) h = tt
  formula_bound (t.flag false) h = tt
  formula_bound t.unit h = tt
  formula_bound (t.use_of u) h = w (symbol_of u.name) h.0
  formula_bound (t.negated a) h = tt
  formula_bound (t.add a b) h = tt
  formula_bound (t.subtract a b) h = tt
  formula_bound (t.multiply a b) h = tt
  formula_bound (t.length_of a) h = tt
  formula_bound (t.compare o a b) h = (sum_bound a h.0, sum_bound b h.1)
  formula_bound (t.not_of a) h = formula_bound a h
  formula_bound (t.and_of a b) h = (formula_bound a h.0, formula_bound b h.1)
  formula_bound (t.or_of a b) h = (formula_bound a h.0, formula_bound b h.1)
