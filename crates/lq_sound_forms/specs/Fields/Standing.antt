-- What is put for symbols stands for what they have among other values.
use Rattle.std.specs.Prelude.{◌≡◌, ◌↔◌, true}
use Rattle.lq_logic_predicates.specs.declared.symbol.Symbol.{Symbol}
use Rattle.lq_logic_predicates.specs.Truth.{object_of, term_value, truth_of}
use Rattle.lq_refined_types.specs.Parts.Assignment.{IsScoped, parts_under}
use Rattle.lq_refined_types.specs.Parts.Part.{Parts, parts_by}
use Rattle.lq_refined_types.specs.Parts.Substitution.{Subst, sum_at, flag_at}
use Rattle.lq_sound_values.specs.Inhabitants.Truth.{Givens, value_at, as_number, as_flag, as_object, Objects, meaning_of, Scene, AreTrue}
use Rattle.lq_sound_values.specs.Inclusion.Symbols.{Symbols}
use Rattle.lq_sound_values.specs.Runs.Closed.{EachSorted}

-- The substitution puts, under the one values, for each of the first symbols a term of the number and the object that it has among the
-- others, and for each of the second ones a predicate of its truth value.
pub record StandsOn (O : Objects) (θ : Subst) (P Q : Symbols) (σ τ : Givens) : Type 0 where
  pub number : (y : Symbol) → P y ≡ true → term_value (meaning_of O σ) (sum_at θ y) ≡ as_number (value_at τ y)
  pub object : (y : Symbol) → P y ≡ true → object_of (meaning_of O σ) (sum_at θ y) ≡ as_object O (value_at τ y)
  pub holds : (y : Symbol) → Q y ≡ true → truth_of (meaning_of O σ) (flag_at θ y) ≡ as_flag (value_at τ y)

-- Parts that speak of these symbols alone are true with what is put for them exactly where they are true at the values of that.
abbrev pub PutPartsAreTrue : Type 0
PutPartsAreTrue =
    (S : Scene) → IsScoped S.setting.scopes S.assignment → (θ : Subst) (P Q : Symbols) (σ τ : Givens) → StandsOn S.objects θ P Q σ τ → (ps : Parts)
    → EachSorted P Q (parts_under S.assignment ps) → AreTrue S σ (parts_by S.setting.scopes θ ps) ↔ AreTrue S τ ps
