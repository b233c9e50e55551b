-- The laws of inclusion.
use Rattle.std.specs.Prelude.{◌∷◌}
use Rattle.lq_logic_predicates.specs.declared.symbol.Symbol.{Symbol}
use Rattle.lq_logic_predicates.specs.declared.symbol.Symbol.TheVariants as symbol
use Rattle.lq_meaning_steps.specs.Model.Core.{Value}
use Rattle.lq_refined_types.specs.Parts.Assignment.{IsScoped}
use Rattle.lq_refined_types.specs.Parts.Substitution.{Subst}
use Rattle.lq_refined_types.specs.Types.Context.{Context, name}
use Rattle.lq_refined_types.specs.Types.Operations.{type_by}
use Rattle.lq_refined_types.specs.Types.Refined.{Refined, top}
use Rattle.lq_refined_types.specs.Subtyping.Subtype.{IsSubtype}
use Rattle.lq_sound_values.specs.Inhabitants.Truth.{Givens, given, Scene, AreTrue}
use Rattle.lq_sound_values.specs.Inhabitants.Shut.{shut, Shuts}
use Rattle.lq_sound_values.specs.Inhabitants.Below.{Below}
use Rattle.lq_sound_values.specs.Inhabitants.Datatypes.{TypeHas, AreCovariant}
use Rattle.lq_sound_values.specs.Inclusion.Apart.{IsKnown, MayBind, Apart}
use Rattle.lq_sound_values.specs.Inclusion.Like.{TopGives, Like}
use Rattle.lq_sound_values.specs.Inclusion.Putting.{Stands, Leaves}
use Rattle.lq_sound_values.specs.Inclusion.Symbols.{Symbols, TypeOn, Agree}

-- in no type definition a parameter stands left of an arrow or under `array`, and instances speak of names of their unknown's scope alone
pub record IsScene (S : Scene) : Type 0 where
  pub covariant : AreCovariant S.setting.constructors
  pub scoped : IsScoped S.setting.scopes S.assignment

-- what inhabits a type inhabits its supertypes, where the values make the hypotheses true
abbrev pub SubtypesFit : Type 0
SubtypesFit =
    (S : Scene) → IsScene S → (Γ : Context) (L R : Refined) (d : IsSubtype S.setting S.assignment Γ L R) → Apart S d → (σ : Givens) (by : Shuts)
    → IsKnown S Γ σ → Below S (shut σ by L) (shut σ by R)

-- a name gets a value that has the type's top
abbrev pub NamesAreBound : Type 0
NamesAreBound =
    (S : Scene) → IsScene S → (Γ : Context) (σ : Givens) (x : Symbol) (T : Refined) (v : Value) → MayBind S x T Γ → IsKnown S Γ σ → TypeHas T v
    → AreTrue S (given symbol.Value v ∷ σ) (top T) → IsKnown S (name x T ∷ Γ) (given x v ∷ σ)

-- what inhabits the one of two types whose parts follow from one another inhabits the other
abbrev pub LikeTypesFit : Type 0
LikeTypesFit =
    (S : Scene) → IsScene S → (σ τ : Givens) (by to : Shuts) (T U : Refined) → Like S σ τ by to T U → TopGives S σ τ T U
    → Below S (shut σ by T) (shut τ to U)

-- what inhabits a type inhabits it at any values that agree on what it speaks of
abbrev pub TypesThin : Type 0
TypesThin =
    (S : Scene) → IsScene S → (T : Refined) (P : Symbols) → TypeOn S.assignment T P → (σ τ : Givens) (by : Shuts) → Agree P σ τ
    → Below S (shut σ by T) (shut τ by T)

-- A type with something put for names has the inhabitants of the type where the names have the values of that.
abbrev pub PutTypesFit : Type 0
PutTypesFit =
    (S : Scene) → IsScene S → (θ : Subst) (T : Refined) → Leaves θ T → (σ τ : Givens) (by : Shuts) → Stands S.objects θ σ τ
    → Below S (shut σ by (type_by S.setting.scopes θ T)) (shut τ by T) × Below S (shut τ by T) (shut σ by (type_by S.setting.scopes θ T))
