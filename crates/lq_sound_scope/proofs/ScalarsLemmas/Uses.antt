-- Uses of names, at scalar types for the variables of what earlier definitions defined.
use Rattle.std.proofs.Common.{◌≡◌, ◌∙◌, ℕ, List, [], ◌∷◌, Option, None, Some, ap}
use Rattle.lq_refined_rules.specs.Checks.Basis.{Basis}
use Rattle.lq_refined_rules.specs.Checks.Fitting.{Fits}
use Rattle.lq_refined_rules.specs.Checks.Pure.{instance_of, type_of_use}
use Rattle.lq_refined_rules.specs.Checks.Tree as tree
use Rattle.lq_refined_rules.specs.Checks.Tree.{Use, Pure}
use Rattle.lq_refined_rules.specs.Checks.Typing as typing
use Rattle.lq_refined_rules.specs.Checks.Typing.{AreTemplates, Points, Types, simple_type_in}
use Rattle.lq_sound_values.specs.Inclusion.Symbols.{Symbols}
use Rattle.lq_sound_scope.specs.Scopes.InScope.{ArgumentsOver, PureInScope, PuresInScope, UseInScope}
use Rattle.lq_sound_scope.specs.Scopes.Over.{IsWithin, TypesOver, of_any_sort}
use Rattle.lq_sound_scope.specs.Operations.Laws.{KeepNames}
use Rattle.lq_sound_forms.specs.Pures.Pures.{EachUse, IsOf}
use Rattle.lq_sound_forms.proofs.PuresLemmas.Pures.{each_use, type_fits}
use Rattle.lq_refined_types.specs.Types.Context.{Context, type_in}
use Rattle.lq_refined_types.specs.Types.Operations.{symbol_of}
use Rattle.lq_refined_types.specs.Types.Refined.{Refineds, data_with, erased}
use Rattle.lq_refined_types.proofs.TypesLemmas.Erasing.{instantiated-erased}
use Rattle.lq_refined_templates.specs.Templates.Scopes.{Unknown}
use Rattle.lq_text_tree.specs.Types as types
use Rattle.lq_sound_scope.specs.Scalars.Uses.{IsUseBefore}
use Rattle.lq_sound_scope.specs.Scalars.Written.{EachUseIn, HasNamelessArguments}
use Rattle.lq_sound_scope.proofs.ScalarsLemmas.NameKinds.{Naming}

module _ (P : Basis) (unknowns : ℕ → Unknown) (keep : KeepNames P.setting.constructors unknowns P.setting.scopes) (m : Naming) where
  -- a use as it is written: it puts scalar types without names for variables, of what an earlier definition defined
  abbrev pub IsKnownUse : Use → Type 0
  IsKnownUse u = HasNamelessArguments P u × IsUseBefore m.general u

  -- that is of one of these names, and puts types over them
  abbrev pub UseOf : Symbols → Use → Type 0
  UseOf N u = IsOf N u × ArgumentsOver P unknowns N u.type_arguments × IsKnownUse u

  abbrev pub PureOf : Symbols → Pure → Type 0
  PureOf N e = EachUse (UseOf N) e

  abbrev pub PuresOf : Symbols → List Pure → Type 0
  PuresOf N es = EachUseIn (UseOf N) es

  -- its names
  pub names_of_pure : (N : Symbols) (e : Pure) → PureOf N e → EachUse (IsOf N) e
  names_of_pure N e o = each_use (UseOf N) (IsOf N) (λ u h. h.0) e o

  pub names_of_pures : (N : Symbols) (es : List Pure) → PuresOf N es → EachUseIn (IsOf N) es
  names_of_pures N [] o = tt
  names_of_pures N (e ∷ es) o = (names_of_pure N e o.0, names_of_pures N es o.1)

  pub pure_uses : (N : Symbols) (e : Pure) → PureInScope P unknowns N e → EachUse IsKnownUse e → PureOf N e
  pure_uses N (tree.whole n) h w = tt
  pure_uses N (tree.flag b) h w = tt
  pure_uses N tree.unit h w = tt
  pure_uses N (tree.use_of u) h w = (h.0, h.1, w)
  pure_uses N (tree.negated a) h w = pure_uses N a h w
  pure_uses N (tree.add a b) h w = (pure_uses N a h.0 w.0, pure_uses N b h.1 w.1)
  pure_uses N (tree.subtract a b) h w = (pure_uses N a h.0 w.0, pure_uses N b h.1 w.1)
  pure_uses N (tree.multiply a b) h w = (pure_uses N a h.0 w.0, pure_uses N b h.1 w.1)
  pure_uses N (tree.length_of a) h w = pure_uses N a h w
  pure_uses N (tree.compare c a b) h w = (pure_uses N a h.0 w.0, pure_uses N b h.1 w.1)
  pure_uses N (tree.not_of a) h w = pure_uses N a h w
  pure_uses N (tree.and_of a b) h w = (pure_uses N a h.0 w.0, pure_uses N b h.1 w.1)
  pure_uses N (tree.or_of a b) h w = (pure_uses N a h.0 w.0, pure_uses N b h.1 w.1)

  pub pures_uses : (N : Symbols) (es : List Pure) → PuresInScope P unknowns N es → EachUseIn IsKnownUse es → PuresOf N es
  pures_uses N [] h w = tt
  pures_uses N (e ∷ es) h w = (pure_uses N e h.0 w.0, pures_uses N es h.1 w.1)

  -- among more names
  types_more : (N M : Symbols) → IsWithin N M → (ts : Refineds) → TypesOver P.setting.constructors unknowns (of_any_sort N) ts
      → TypesOver P.setting.constructors unknowns (of_any_sort M) ts
  types_more N M w ts h = (keep.widening (of_any_sort N) (of_any_sort M) (record { terms = w; flags = w }) (data_with 0 ts [] []) ((h, tt), tt)).0.0

  arguments_more : (N M : Symbols) → IsWithin N M → (a : Option ℕ) → ArgumentsOver P unknowns N a → ArgumentsOver P unknowns M a
  arguments_more N M w None h = tt
  arguments_more N M w (Some i) h = types_more N M w (P.type_arguments i) h

  more : (N M : Symbols) → IsWithin N M → (u : Use) → UseOf N u → UseOf M u
  more N M w u o = (w (symbol_of u.name) o.0, arguments_more N M w u.type_arguments o.1, o.2)

  pub use_more : (N M : Symbols) → IsWithin N M → (u : Use) → UseInScope P unknowns N u → IsKnownUse u → UseOf M u
  use_more N M w u h k = more N M w u (h.0, h.1, k)

  pub pure_more : (N M : Symbols) → IsWithin N M → (e : Pure) → PureOf N e → PureOf M e
  pure_more N M w e o = each_use (UseOf N) (UseOf M) (more N M w) e o

  pub pures_more : (N M : Symbols) → IsWithin N M → (es : List Pure) → PuresOf N es → PuresOf M es
  pures_more N M w [] o = tt
  pures_more N M w (e ∷ es) o = (pure_more N M w e o.0, pures_more N M w es o.1)

-- a use has the simple type of its name, at the simple types that it puts for variables
pub use_erased : (P : Basis) (Q : Points) → AreTemplates P Q → (Δ : Types) (Γ : Context) → Fits Δ Γ → (u : Use)
    → erased (type_of_use P Γ u) ≡ typing.type_of_use Q Δ u
use_erased P Q are Δ Γ f u = at u.type_arguments
  where
    at : (o : Option ℕ) → erased (instance_of P Γ o (type_in Γ (symbol_of u.name))) ≡ typing.instance_of Q o (simple_type_in Δ u.name)
    at None = type_fits Δ Γ f u.name
    at (Some i) =
        instantiated-erased (P.type_arguments i) (type_in Γ (symbol_of u.name))
        ∙ ap (λ ts. types.put (types.type_at ts) (erased (type_in Γ (symbol_of u.name)))) (are.type_arguments i)
        ∙ ap (types.put (types.type_at (Q.type_arguments i))) (type_fits Δ Γ f u.name)
