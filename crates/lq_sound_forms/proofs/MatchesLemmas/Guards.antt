-- Environments with guards, and values for positions.
use Rattle.std.proofs.Common.{◌≡◌, ℕ, suc, Bool, true, false, cond, [], ◌∷◌, ◌++◌, Some, refl, sym, ap, ◌∙◌, arith as numbers}
use Rattle.lq_logic_predicates.specs.declared.symbol.Symbol.{Symbol}
use Rattle.lq_logic_predicates.specs.declared.symbol.Symbol.TheVariants as symbol
use Rattle.lq_logic_predicates.specs.Sum.{same_symbol}
use Rattle.lq_meaning_steps.specs.Model.Core.{Values, no_values, more_values}
use Rattle.lq_refined_types.specs.Parts.Part.{Parts}
use Rattle.lq_refined_types.specs.Types.Context.{Context, guard}
use Rattle.lq_refined_types.specs.Types.Refined.{Refineds, none, more, Kind, number, truth_value, object, other, kind, count}
use Rattle.lq_refined_types.specs.Subtyping.Subtype.{with_guards, facts}
use Rattle.lq_sound_values.specs.Inhabitants.Truth.{Givens, value_at, Objects, Scene, AreTrue}
use Rattle.lq_sound_values.specs.Inhabitants.Shut.{field_values}
use Rattle.lq_sound_values.specs.Inhabitants.Inhabits.{Table}
use Rattle.lq_sound_values.specs.Inclusion.Laws.{IsScene}
use Rattle.lq_sound_values.specs.Inclusion.Symbols.{Symbols, Agree}
use Rattle.lq_sound_values.proofs.InclusionLemmas.Truths.{parts_append, parts_first, parts_rest, decide, at_but}
use Rattle.lq_sound_values.specs.Runs.Closed.{IsClosed}
use Rattle.lq_sound_values.specs.Runs.Meets.{Variables, Meets}
use Rattle.lq_sound_values.proofs.RunsLemmas.Closing.{or_parts, lacks_value}
use Rattle.lq_sound_values.proofs.RunsLemmas.Lower.{Lower}
use Rattle.lq_sound_forms.specs.Fields.Fields.{with_term, with_flag, terms_from, flags_from}
use Rattle.lq_sound_forms.specs.Fields.Standing.{StandsOn}
use Rattle.lq_sound_forms.proofs.FieldsLemmas.Stands.{stands_agree}
use Rattle.lq_sound_forms.proofs.TuplesLemmas.Binding.{count_values}

pub closed_without : (S : Scene) (gs : Parts) (Γ : Context) → IsClosed S (with_guards gs Γ) → IsClosed S Γ
closed_without S [] Γ c = c
closed_without S (q ∷ qs) Γ c = (closed_without S qs (guard q ∷ Γ) c).1

pub guards_true : (S : Scene) (ρ : Givens) (qs : Parts) (Γ : Context) → AreTrue S ρ (facts S.setting Γ) → AreTrue S ρ qs → AreTrue S ρ (facts S.setting (with_guards qs Γ))
guards_true S ρ [] Γ h k = h
guards_true S ρ (q ∷ qs) Γ h k =
    guards_true S ρ qs (guard q ∷ Γ) (parts_append S ρ (facts S.setting Γ) (q ∷ []) h (parts_first S ρ q qs k)) (parts_rest S ρ q qs k)

-- values that are good for an environment are good with guards that are true of them
pub meets_guards : Lower → (S : Scene) → IsScene S → (by : Variables) (n : ℕ) (W : Table) (gs : Parts) (Γ : Context) (σ : Givens) → IsClosed S (with_guards gs Γ) → Meets S by n W Γ σ → AreTrue S σ gs → Meets S by n W (with_guards gs Γ) σ
meets_guards law S is by n W [] Γ σ c m h = m
meets_guards law S is by n W (q ∷ qs) Γ σ c m h =
    meets_guards law S is by n W qs (guard q ∷ Γ) σ c record { known = record { true_facts = parts_append S σ (facts S.setting Γ) (q ∷ []) m.known.true_facts (parts_first S σ q qs h); no_value = m.known.no_value; lacks_value = lacks_value law S is (guard q ∷ Γ) (closed_without S qs (guard q ∷ Γ) c) }; named = m.named; within = m.within } (parts_rest S σ q qs h)

-- ---- fields in front of other values

clash : (b : Bool) → b ≡ false → b ≡ true → ⊥
clash true p q = cc
clash false p q = cc

-- where no position is among the symbols, fields don't count
pub fields_apart : (N : Symbols) → ((k : ℕ) → N (symbol.Position k) ≡ false) → (vs : Values) (j : ℕ) (σ : Givens) → Agree N σ (field_values j vs ++ σ)
fields_apart N f no_values j σ y h = refl
fields_apart N f (more_values v vs) j σ y h =
    fields_apart N f vs (suc j) σ y h ∙ sym (at_but (field_values (suc j) vs ++ σ) (symbol.Position (suc j)) y v (apart y h))
  where
    apart : (y : Symbol) → N y ≡ true → same_symbol (symbol.Position (suc j)) y ≡ false
    apart symbol.Value e = refl
    apart (symbol.Bound b) e = refl
    apart (symbol.Position i) e = absurd (clash (N (symbol.Position i)) (f i) e)

is_term : (k : Kind) (R : Symbols) (x y : Symbol) → with_term k R x y ≡ true → same_symbol x y ≡ false → R y ≡ true
is_term number R x y h e = or_parts (R y ≡ true) (R y) (same_symbol x y) h (λ p. p) (λ q. absurd (clash (same_symbol x y) e q))
is_term truth_value R x y h e = h
is_term object R x y h e = or_parts (R y ≡ true) (R y) (same_symbol x y) h (λ p. p) (λ q. absurd (clash (same_symbol x y) e q))
is_term other R x y h e = or_parts (R y ≡ true) (R y) (same_symbol x y) h (λ p. p) (λ q. absurd (clash (same_symbol x y) e q))

is_flag : (k : Kind) (R : Symbols) (x y : Symbol) → with_flag k R x y ≡ true → same_symbol x y ≡ false → R y ≡ true
is_flag truth_value R x y h e = or_parts (R y ≡ true) (R y) (same_symbol x y) h (λ p. p) (λ q. absurd (clash (same_symbol x y) e q))
is_flag number R x y h e = h
is_flag object R x y h e = h
is_flag other R x y h e = h

module _ (σ : Givens) where
  term_there : (ts : Refineds) (vs : Values) (j : ℕ) → count ts ≡ count_values vs → (y : Symbol) → terms_from j ts y ≡ true → value_at (field_values j vs ++ σ) y ≡ value_at (field_values j vs) y
  term_there none vs j e y h = absurd (cc)
  term_there (more t ts) no_values j e y h = absurd (omega (numbers, e))
  term_there (more t ts) (more_values v vs) j e y h =
      let x = symbol.Position (suc j) in
      decide _ (same_symbol x y) (λ i. ap (λ b. cond b (Some v) (value_at (field_values (suc j) vs ++ σ) y)) i ∙ sym (ap (λ b. cond b (Some v) (value_at (field_values (suc j) vs) y)) i)) (λ i.
      at_but (field_values (suc j) vs ++ σ) x y v i ∙ term_there ts vs (suc j) (omega (numbers, e)) y (is_term (kind t) (terms_from (suc j) ts) x y h i) ∙ sym (at_but (field_values (suc j) vs) x y v i))

  flag_there : (ts : Refineds) (vs : Values) (j : ℕ) → count ts ≡ count_values vs → (y : Symbol) → flags_from j ts y ≡ true → value_at (field_values j vs ++ σ) y ≡ value_at (field_values j vs) y
  flag_there none vs j e y h = absurd (cc)
  flag_there (more t ts) no_values j e y h = absurd (omega (numbers, e))
  flag_there (more t ts) (more_values v vs) j e y h =
      let x = symbol.Position (suc j) in
      decide _ (same_symbol x y) (λ i. ap (λ b. cond b (Some v) (value_at (field_values (suc j) vs ++ σ) y)) i ∙ sym (ap (λ b. cond b (Some v) (value_at (field_values (suc j) vs) y)) i)) (λ i.
      at_but (field_values (suc j) vs ++ σ) x y v i ∙ flag_there ts vs (suc j) (omega (numbers, e)) y (is_flag (kind t) (flags_from (suc j) ts) x y h i) ∙ sym (at_but (field_values (suc j) vs) x y v i))

  -- with nothing put for them the fields stand for themselves
  pub fields_here : (O : Objects) (ts : Refineds) (vs : Values) → count ts ≡ count_values vs → StandsOn O [] (terms_from 0 ts) (flags_from 0 ts) (field_values 0 vs ++ σ) (field_values 0 vs)
  fields_here O ts vs e =
      stands_agree O (terms_from 0 ts) (flags_from 0 ts) (field_values 0 vs ++ σ) (field_values 0 vs) (λ y h. term_there ts vs 0 e y h) (λ y h. flag_there ts vs 0 e y h)

  -- a name has the value that it has
  pub name_behind : (x : ℕ) (vs : Values) (j : ℕ) → value_at (field_values j vs ++ σ) (symbol.Bound record { 0 = x }) ≡ value_at σ (symbol.Bound record { 0 = x })
  name_behind x no_values j = refl
  name_behind x (more_values v vs) j = name_behind x vs (suc j)
