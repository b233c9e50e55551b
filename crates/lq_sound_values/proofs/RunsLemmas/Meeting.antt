-- Values for names: fewer steps and longer tables, one more name, a guard, and the value of a name.
use Rattle.std.proofs.Common.{◌≡◌, ◌||◌, ℕ, ◌≤◌, Bool, true, false, cond, [], ◌∷◌, ◌++◌, append_assoc, append-nil, length, slice_get, Option, Some, refl, sym, ap, ◌∙◌, subst}
use Rattle.lq_logic_predicates.specs.declared.symbol.Symbol.{Symbol}
use Rattle.lq_logic_predicates.specs.Formula.{Formula}
use Rattle.lq_logic_predicates.specs.Sum.{same_symbol}
use Rattle.lq_logic_predicates.specs.Truth.{truth_of}
use Rattle.lq_refined_types.specs.Parts.Part.{known}
use Rattle.lq_refined_types.specs.Types.Context.{Context, name, guard, IsNew, type_in}
use Rattle.lq_refined_types.specs.Types.Refined.{Refined}
use Rattle.lq_refined_types.specs.Subtyping.Subtype.{facts}
use Rattle.lq_meaning_steps.specs.Model.Core.{Value}
use Rattle.lq_meaning_steps.specs.Model.Operations.{World}
use Rattle.lq_sound_values.specs.Inhabitants.Truth.{Givens, given, value_at, meaning_of, Scene}
use Rattle.lq_sound_values.specs.Inhabitants.Shut.{shut, Shuts}
use Rattle.lq_sound_values.specs.Inhabitants.Inhabits.{Table, Extends, CallsBelow, SameBelow, Inhabits, Agrees}
use Rattle.lq_sound_values.specs.Inhabitants.Below.{Below}
use Rattle.lq_sound_values.proofs.InhabitantsLemmas.Topped.{type_has, top_true}
use Rattle.lq_sound_values.specs.Inclusion.Symbols.{Symbols, TypeOn, Agree}
use Rattle.lq_sound_values.specs.Inclusion.Apart.{IsKnown}
use Rattle.lq_sound_values.specs.Inclusion.Laws.{IsScene}
use Rattle.lq_sound_values.proofs.InclusionLemmas.Truths.{parts_append, same_symbol-is, same_symbol-refl, decide}
use Rattle.lq_sound_values.specs.Runs.Closed.{names_in, IsClosedIn, IsClosed, Binds}
use Rattle.lq_sound_values.specs.Runs.Meets.{Variables, HasInstances, Named, Meets}
use Rattle.lq_sound_values.proofs.RunsLemmas.Closing.{Within, within_with, top_more, new_name, agree_new, may_bind, lacks_value}
use Rattle.lq_sound_values.proofs.RunsLemmas.Lower.{Lower}

-- ---- tables

pub extends_self : (W : Table) → Extends W W
extends_self W = ([], sym (append-nil W))

pub extends_on : (U V W : Table) → Extends U V → Extends V W → Extends U W
extends_on U V W e f = (e.0 ++ f.0, f.1 ∙ ap (λ l. l ++ f.0) e.1 ∙ append_assoc U e.0 f.0)

module _ (law : Lower) (S : Scene) where
  -- another world with the same arrays
  pub agrees_as : (n : ℕ) (W : Table) (w u : World) → w.arrays ≡ u.arrays → Agrees S n W w → Agrees S n W u
  agrees_as n W w u e ag =
      ((ag.0.0 ∙ ap length e, λ r K is. let s = ag.0.1 r K is in (s.0, ap (λ l. slice_get l r) (sym e) ∙ s.1, s.2)), (law.elements S n W u).1 (λ m lt r j K row v is is2 is3. (law.elements S n W w).0 ag.1 m lt r j K row v is (ap (λ l. slice_get l r) e ∙ is2) is3))

  -- ---- environments

  instances_less : (by : Variables) (n m : ℕ) (W V : Table) (ρ : Givens) (x : Symbol) (t : Refined) (v : Value) → m ≤ n → Extends W V → HasInstances S by n W ρ x t v → HasInstances S by m V ρ x t v
  instances_less by n m W V ρ x t v le e h = record { some = h.some; fits = less h.some h.fits; own = λ i. less by.types (h.own i); each = λ i to. less to (h.each i to) }
    where
      less : (to : Shuts) → Inhabits S n W (shut ρ to t) v → Inhabits S m V (shut ρ to t) v
      less to k = law.extended S m W V (shut ρ to t) v e (law.smaller S n m W (shut ρ to t) v le k)

  named_less : (by : Variables) (n m : ℕ) (W V : Table) (ρ : Givens) (Γ : Context) (σ : Givens) → m ≤ n → Extends W V → Named S by n W ρ Γ σ → Named S by m V ρ Γ σ
  named_less by n m W V ρ [] [] le e h = tt
  named_less by n m W V ρ [] (g ∷ σ) le e h = absurd h
  named_less by n m W V ρ (name x t ∷ Γ) [] le e h = absurd h
  named_less by n m W V ρ (name x t ∷ Γ) (g ∷ σ) le e h =
      (h.0, instances_less by n m W V ρ x t g.value le e h.1, named_less by n m W V ρ Γ σ le e h.2)
  named_less by n m W V ρ (guard p ∷ Γ) σ le e h = named_less by n m W V ρ Γ σ le e h

  pub meets_less : (by : Variables) (n m : ℕ) (W V : Table) (Γ : Context) (σ : Givens) → m ≤ n → Extends W V → Meets S by n W Γ σ → Meets S by m V Γ σ
  meets_less by n m W V Γ σ le e h = record { known = h.known; named = named_less by n m W V σ Γ σ le e h.named; within = h.within }

  -- the types may be read at other values that agree on what they speak of
  pub instances_at : IsScene S → (by : Variables) (n : ℕ) (W : Table) (N : Symbols) (ρ τ : Givens) → Agree N ρ τ → (x : Symbol) (t : Refined) → TypeOn S.assignment t N → (v : Value) → HasInstances S by n W ρ x t v → HasInstances S by n W τ x t v
  instances_at is by n W N ρ τ agree x t on v h = record { some = h.some; fits = at h.some h.fits; own = λ i. at by.types (h.own i); each = λ i to. at to (h.each i to) }
    where
      at : (to : Shuts) → Inhabits S n W (shut ρ to t) v → Inhabits S n W (shut τ to t) v
      at to k = law.thin S is t N on ρ τ to agree n W v k

  pub named_at : IsScene S → (by : Variables) (n : ℕ) (W : Table) (N : Symbols) (ρ τ : Givens) → Agree N ρ τ → (Γ : Context) (σ : Givens) → Within (names_in Γ) N → IsClosedIn S N Γ → Named S by n W ρ Γ σ → Named S by n W τ Γ σ
  named_at is by n W N ρ τ agree [] [] f c h = tt
  named_at is by n W N ρ τ agree [] (g ∷ σ) f c h = absurd h
  named_at is by n W N ρ τ agree (name x t ∷ Γ) [] f c h = absurd h
  named_at is by n W N ρ τ agree (name x t ∷ Γ) (g ∷ σ) f c h =
      let earlier : Within (names_in Γ) N = λ y i. f y (within_with (names_in Γ) x y i) in
      (h.0, instances_at is by n W N ρ τ agree x t (c.2.0.0, top_more S.assignment t (names_in Γ) N earlier c.2.0.1) g.value h.1, named_at is by n W N ρ τ agree Γ σ earlier c.3 h.2)
  named_at is by n W N ρ τ agree (guard p ∷ Γ) σ f c h = named_at is by n W N ρ τ agree Γ σ f c.1 h

  -- what is no name isn't general, and neither is it hidden, with one more name
  not_left : (a b : Bool) → a || b ≡ false → a ≡ false
  not_left true b h = absurd (cc)
  not_left false b h = refl

  pub within_bind : (Γ : Context) (x : Symbol) (t : Refined) (by : Variables) → ((y : Symbol) → names_in Γ y ≡ false → (by.general y ≡ false) × (by.hidden y ≡ false)) → (y : Symbol) → names_in (name x t ∷ Γ) y ≡ false → (by.general y ≡ false) × (by.hidden y ≡ false)
  within_bind Γ x t by f y h = f y (not_left (names_in Γ y) (same_symbol x y) h)

  -- one more name, with its instances, by which it may be general
  pub meets_named : IsScene S → (by : Variables) (n : ℕ) (W : Table) (Γ : Context) (σ : Givens) (x : Symbol) (t : Refined) (v : Value) → Binds S x t Γ → IsKnown S Γ σ → Named S by n W σ Γ σ → HasInstances S by n W σ x t v → ((y : Symbol) → names_in (name x t ∷ Γ) y ≡ false → (by.general y ≡ false) × (by.hidden y ≡ false)) → Meets S by n W (name x t ∷ Γ) (given x v ∷ σ)
  meets_named is by n W Γ σ x t v c facts_known named fit within =
      let τ = given x v ∷ σ in
      let agree : Agree (names_in Γ) σ τ = λ y i. sym (agree_new Γ x v σ c.1 y i) in
      record {
        known = law.bound S is Γ σ x t v (may_bind law S is Γ x t c) facts_known (type_has S (CallsBelow S n) (SameBelow S n) W σ σ fit.some t v fit.fits) (top_true S (CallsBelow S n) (SameBelow S n) W σ σ fit.some t v fit.fits);
        named = (refl, instances_at is by n W (names_in Γ) σ τ agree x t c.2.0 v fit, named_at is by n W (names_in Γ) σ τ agree Γ σ (λ y i. i) c.3 named);
        within = within;
      }

  pub meets_with : IsScene S → (by : Variables) (n m : ℕ) (W V : Table) (Γ : Context) (σ : Givens) (x : Symbol) (t : Refined) (v : Value) → m ≤ n → Extends W V → Binds S x t Γ → Meets S by n W Γ σ → HasInstances S by m V σ x t v → Meets S by m V (name x t ∷ Γ) (given x v ∷ σ)
  meets_with is by n m W V Γ σ x t v le e c h fit =
      meets_named is by m V Γ σ x t v c h.known (named_less by n m W V σ Γ σ le e h.named) fit (within_bind Γ x t by h.within)

  -- and with the one that is put, where the name isn't general
  pub only_own : (by : Variables) (n : ℕ) (W : Table) (ρ : Givens) (x : Symbol) (t : Refined) (v : Value) → by.general x ≡ false → Inhabits S n W (shut ρ by.types t) v → HasInstances S by n W ρ x t v
  only_own by n W ρ x t v isnt h = record { some = by.types; fits = h; own = λ i. h; each = λ i to. absurd (clash (by.general x) isnt i) }
    where
      clash : (b : Bool) → b ≡ false → b ≡ true → ⊥
      clash true p q = cc
      clash false p q = cc

  pub new_outside : (Γ : Context) (x : Symbol) → IsNew x Γ → names_in Γ x ≡ false
  new_outside Γ x new = decide (names_in Γ x ≡ false) (names_in Γ x) (λ i. absurd (clash (same_symbol x x) (new_name Γ x x new i) (same_symbol-refl x))) (λ i. i)
    where
      clash : (b : Bool) → b ≡ false → b ≡ true → ⊥
      clash true p q = cc
      clash false p q = cc

  pub meets_bind : IsScene S → (by : Variables) (n m : ℕ) (W V : Table) (Γ : Context) (σ : Givens) (x : Symbol) (t : Refined) (v : Value) → m ≤ n → Extends W V → Binds S x t Γ → Meets S by n W Γ σ → Inhabits S m V (shut σ by.types t) v → Meets S by m V (name x t ∷ Γ) (given x v ∷ σ)
  meets_bind is by n m W V Γ σ x t v le e c h fit =
      meets_with is by n m W V Γ σ x t v le e c h (only_own by m V σ x t v (h.within x (new_outside Γ x c.1)).0 fit)

  pub meets_guard : IsScene S → (by : Variables) (n : ℕ) (W : Table) (Γ : Context) (σ : Givens) (p : Formula) → IsClosed S (guard (known p) ∷ Γ) → truth_of (meaning_of S.objects σ) p ≡ true → Meets S by n W Γ σ → Meets S by n W (guard (known p) ∷ Γ) σ
  meets_guard is by n W Γ σ p c holds h =
      record { known = record { true_facts = parts_append S σ (facts S.setting Γ) (known p ∷ []) h.known.true_facts (holds, tt); no_value = h.known.no_value; lacks_value = lacks_value law S is (guard (known p) ∷ Γ) c }; named = h.named; within = h.within }

  -- what a type that speaks of earlier names has as its inhabitants, one more name doesn't change
  pub thin_new : IsScene S → (Γ : Context) (x : Symbol) (v : Value) (σ : Givens) (by : Shuts) (t u : Refined) → Binds S x u Γ → TypeOn S.assignment t (names_in Γ) → Below S (shut (given x v ∷ σ) by t) (shut σ by t)
  thin_new is Γ x v σ by t u c o = law.thin S is t (names_in Γ) o (given x v ∷ σ) σ by (agree_new Γ x v σ c.1)

  pub thick_new : IsScene S → (Γ : Context) (x : Symbol) (v : Value) (σ : Givens) (by : Shuts) (t u : Refined) → Binds S x u Γ → TypeOn S.assignment t (names_in Γ) → Below S (shut σ by t) (shut (given x v ∷ σ) by t)
  thick_new is Γ x v σ by t u c o = law.thin S is t (names_in Γ) o σ (given x v ∷ σ) by (λ y h. sym (agree_new Γ x v σ c.1 y h))

-- ---- the value of a name

-- the value that a name has, and that inhabits its type
pub record Looked (S : Scene) (by : Variables) (n : ℕ) (W : Table) (ρ : Givens) (N : Symbols) (Γ : Context) (σ : Givens) (x : Symbol) : Type 0 where
  pub value : Value
  pub is : value_at σ x ≡ Some value
  pub over : TypeOn S.assignment (type_in Γ x) N
  pub fits : HasInstances S by n W ρ x (type_in Γ x) value

module _ (S : Scene) (by : Variables) (n : ℕ) (W : Table) (ρ : Givens) (N : Symbols) where
  look_in : (Γ : Context) (σ : Givens) → Within (names_in Γ) N → IsClosedIn S N Γ → Named S by n W ρ Γ σ → (x : Symbol) → names_in Γ x ≡ true → Looked S by n W ρ N Γ σ x
  look_in [] [] f c h x i = absurd (cc)
  look_in [] (g ∷ σ) f c h x i = absurd h
  look_in (name y t ∷ Γ) [] f c h x i = absurd h
  look_in (name y t ∷ Γ) (g ∷ σ) f c h x i =
      decide (Looked S by n W ρ N (name y t ∷ Γ) (g ∷ σ) x) (same_symbol y x) (λ s.
      here s (subst (λ z. z ≡ x) (sym h.0) (same_symbol-is y x s))) (λ s.
      there s (ap (λ z. same_symbol z x) h.0 ∙ s) (look_in Γ σ (λ z j. f z (within_with (names_in Γ) y z j)) c.3 h.2 x (other (names_in Γ x) (same_symbol y x) i s)))
    where
      other : (a b : Bool) → a || b ≡ true → b ≡ false → a ≡ true
      other true b p q = refl
      other false true p q = absurd (cc)
      other false false p q = p

      first : (b : Bool) (v : Value) (o : Option Value) → b ≡ true → cond b (Some v) o ≡ Some v
      first true v o e = refl
      first false v o e = absurd (cc)

      later : (b : Bool) (v : Value) (o : Option Value) → b ≡ false → cond b (Some v) o ≡ o
      later true v o e = absurd (cc)
      later false v o e = refl

      chosen : (b : Bool) (t u : Refined) → b ≡ true → cond b t u ≡ t
      chosen true t u e = refl
      chosen false t u e = absurd (cc)

      left : (b : Bool) (t u : Refined) → b ≡ false → cond b t u ≡ u
      left true t u e = absurd (cc)
      left false t u e = refl

      here : same_symbol y x ≡ true → g.symbol ≡ x → Looked S by n W ρ N (name y t ∷ Γ) (g ∷ σ) x
      here s e =
          let T : type_in (name y t ∷ Γ) x ≡ t = chosen (same_symbol y x) t (type_in Γ x) s in
          record {
            value = g.value;
            is = first (same_symbol g.symbol x) g.value (value_at σ x) (ap (λ z. same_symbol z x) e ∙ same_symbol-refl x);
            over = subst (λ z. TypeOn S.assignment z N) (sym T) (c.2.0.0, top_more S.assignment t (names_in Γ) N (λ z j. f z (within_with (names_in Γ) y z j)) c.2.0.1);
            fits = subst (λ z. HasInstances S by n W ρ x z g.value) (sym T) (subst (λ z. HasInstances S by n W ρ z t g.value) (same_symbol-is y x s) h.1);
          }

      there : same_symbol y x ≡ false → same_symbol g.symbol x ≡ false → Looked S by n W ρ N Γ σ x → Looked S by n W ρ N (name y t ∷ Γ) (g ∷ σ) x
      there s d r =
          let T : type_in (name y t ∷ Γ) x ≡ type_in Γ x = left (same_symbol y x) t (type_in Γ x) s in
          record { value = r.value; is = later (same_symbol g.symbol x) g.value (value_at σ x) d ∙ r.is; over = subst (λ z. TypeOn S.assignment z N) (sym T) r.over; fits = subst (λ z. HasInstances S by n W ρ x z r.value) (sym T) r.fits }
  look_in (guard p ∷ Γ) σ f c h x i =
      let r = look_in Γ σ f c.1 h x i in
      record { value = r.value; is = r.is; over = r.over; fits = r.fits }

pub look : (S : Scene) (by : Variables) (n : ℕ) (W : Table) (Γ : Context) (σ : Givens) → IsClosed S Γ → Named S by n W σ Γ σ → (x : Symbol) → names_in Γ x ≡ true → Looked S by n W σ (names_in Γ) Γ σ x
look S by n W Γ σ c h x i = look_in S by n W σ (names_in Γ) Γ σ (λ y j. j) c h x i
