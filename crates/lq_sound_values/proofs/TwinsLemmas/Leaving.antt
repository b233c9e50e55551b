-- The names of a twin, which an atom for a name leaves alone.
use Rattle.std.proofs.Common.{◌≡◌, Bool, true, false, ◌||◌, cond, ◌==◌, [], ◌∷◌, Some, None, refl, sym, subst}
use Rattle.lq_logic_predicates.specs.declared.symbol.Symbol.{Symbol}
use Rattle.lq_logic_predicates.specs.Sum.{same_symbol}
use Rattle.lq_refined_types.specs.Parts.Assignment.{Assignment}
use Rattle.lq_refined_types.specs.Parts.Part.{Scopes}
use Rattle.lq_refined_types.specs.Parts.Substitution.{Atom, of_sum, of_formula, Subst, swap}
use Rattle.lq_refined_types.specs.Types.Operations.{symbol_of, type_by, types_by, atom_of, twin_of, twin, twins}
use Rattle.lq_refined_types.specs.Types.Refined.{Refined, Refineds, int_with, bool_with, unit_type, function, tuple_of, array_with, data_with, map_with, type_variable, none, more, kind}
use Rattle.lq_sound_values.specs.Inclusion.Symbols.{Symbols, other_than, with_symbol}
use Rattle.lq_sound_values.specs.Inclusion.Putting.{LeavesAlone, LeavesNames, LeaveNames}
use Rattle.lq_sound_values.proofs.InclusionLemmas.Truths.{same_symbol-is, decide, false_not}
use Rattle.lq_sound_values.specs.Twins.Names.{AtomOn, with_twins, NamesApart, AllNamesApart, TwinsOutside, AllTwinsOutside}
use Rattle.lq_sound_values.proofs.TwinsLemmas.Standing.{leaves_alone}
use Rattle.lq_sound_values.proofs.TwinsLemmas.Widening.{Within, sum_more, formula_more}

-- ---- sets

pub atom_more : (P Q : Symbols) → Within P Q → (a : Atom) → AtomOn P a → AtomOn Q a
atom_more P Q f (of_sum t) h = sum_more P Q f t h
atom_more P Q f (of_formula p) h = formula_more P Q f p h

-- a symbol of the set isn't one outside it
pub apart_from : (P : Symbols) (y z : Symbol) → P y ≡ true → P z ≡ false → same_symbol y z ≡ false
apart_from P y z h k =
    decide (same_symbol y z ≡ false) (same_symbol y z) (λ e. absurd (clash (P z) k (subst (λ s. P s ≡ true) (same_symbol-is y z e) h))) (λ e. e)
  where
    clash : (b : Bool) → b ≡ false → b ≡ true → ⊥
    clash true p q = cc
    clash false p q = cc

pub outside : (P : Symbols) (z : Symbol) → P z ≡ false → Within P (other_than z)
outside P z k y h = false_not (same_symbol z y) (turned (same_symbol z y) refl)
  where
    turned : (b : Bool) → same_symbol z y ≡ b → b ≡ false
    turned false e = refl
    turned true e = absurd (clash (P z) k (subst (λ s. P s ≡ true) (sym (same_symbol-is z y e)) h))
      where
        clash : (b : Bool) → b ≡ false → b ≡ true → ⊥
        clash true p q = cc
        clash false p q = cc

-- a name outside a set, and an atom over the set for a name of the set
pub leaves_outside : (P : Symbols) (x z : Symbol) (a : Atom) → P x ≡ true → AtomOn P a → P z ≡ false → LeavesAlone (swap x a ∷ []) z
leaves_outside P x z a h o k = leaves_alone x z a (apart_from P x z h k) (atom_more P (other_than z) (outside P z k) a o)

-- ---- names stay where something is put

module _ (scopes : Scopes) (θ η : Subst) where
  mutual
    pub names_by : (t : Refined) → LeavesNames θ t → LeavesNames θ (type_by scopes η t)
    names_by (int_with p) h = tt
    names_by (bool_with p) h = tt
    names_by unit_type h = tt
    names_by (function x a b) h = (h.0, names_by a h.1, names_by b h.2)
    names_by (tuple_of ts) h = all_names_by ts h
    names_by (array_with e p) h = names_by e h
    names_by (data_with d ts m p) h = all_names_by ts h
    names_by (map_with e p) h = tt
    names_by (type_variable i) h = tt

    all_names_by : (ts : Refineds) → LeaveNames θ ts → LeaveNames θ (types_by scopes η ts)
    all_names_by none h = tt
    all_names_by (more t ts) h = (names_by t h.0, all_names_by ts h.1)

pub names_if : (scopes : Scopes) (θ : Subst) (b : Bool) (t : Refined) (η : Subst) → LeavesNames θ t → LeavesNames θ (cond b t (type_by scopes η t))
names_if scopes θ true t η h = h
names_if scopes θ false t η h = names_by scopes θ η t h

-- the names of a twin are outside where twins are
module _ (scopes : Scopes) (P : Symbols) (x : Symbol) (a : Atom) (h : P x ≡ true) (o : AtomOn P a) where
  mutual
    pub twin_leaves : (t : Refined) → TwinsOutside P t → LeavesNames (swap x a ∷ []) (twin scopes t)
    twin_leaves (int_with p) k = tt
    twin_leaves (bool_with p) k = tt
    twin_leaves unit_type k = tt
    twin_leaves (function None b c) k = (tt, twin_leaves b k.0, twin_leaves c k.1)
    twin_leaves (function (Some z) b c) k =
        (leaves_outside P x (symbol_of (twin_of z)) a h o k.0, twin_leaves b k.1, names_if scopes (swap x a ∷ []) (z == twin_of z) (twin scopes c) (swap (symbol_of z) (atom_of (kind b) (symbol_of (twin_of z))) ∷ []) (twin_leaves c k.2))
    twin_leaves (tuple_of ts) k = twins_leave ts k
    twin_leaves (array_with e p) k = twin_leaves e k
    twin_leaves (data_with d ts m p) k = twins_leave ts k
    twin_leaves (map_with e p) k = tt
    twin_leaves (type_variable i) k = tt

    twins_leave : (ts : Refineds) → AllTwinsOutside P ts → LeaveNames (swap x a ∷ []) (twins scopes ts)
    twins_leave none k = tt
    twins_leave (more t ts) k = (twin_leaves t k.0, twins_leave ts k.1)

pub or_false : (a b : Bool) → a || b ≡ false → a ≡ false
or_false true b h = h
or_false false b h = refl

pub or_second : (a b : Bool) → a || b ≡ false → b ≡ false
or_second true b h = absurd (cc)
or_second false b h = h

pub or_none : (a b : Bool) → a ≡ false → b ≡ false → a || b ≡ false
or_none true b h k = h
or_none false b h k = k

module _ (P Q : Symbols) (f : (y : Symbol) → Q y ≡ false → P y ≡ false) where
  mutual
    pub outside_less : (t : Refined) → TwinsOutside Q t → TwinsOutside P t
    outside_less (int_with p) h = tt
    outside_less (bool_with p) h = tt
    outside_less unit_type h = tt
    outside_less (function None a b) h = (outside_less a h.0, outside_less b h.1)
    outside_less (function (Some x) a b) h = (f (symbol_of (twin_of x)) h.0, outside_less a h.1, outside_less b h.2)
    outside_less (tuple_of ts) h = all_outside_less ts h
    outside_less (array_with e p) h = outside_less e h
    outside_less (data_with d ts m p) h = all_outside_less ts h
    outside_less (map_with e p) h = tt
    outside_less (type_variable i) h = tt

    all_outside_less : (ts : Refineds) → AllTwinsOutside Q ts → AllTwinsOutside P ts
    all_outside_less none h = tt
    all_outside_less (more t ts) h = (outside_less t h.0, all_outside_less ts h.1)

-- where names and twins are apart from symbols, twins are outside
mutual
  pub apart_outside : (A : Assignment) (P : Symbols) (t : Refined) → NamesApart A P t → TwinsOutside P t
  apart_outside A P (int_with p) h = tt
  apart_outside A P (bool_with p) h = tt
  apart_outside A P unit_type h = tt
  apart_outside A P (function None a b) h = (apart_outside A P a h.0, apart_outside A P b h.1)
  apart_outside A P (function (Some x) a b) h = (h.1, apart_outside A P a h.3, outside_less P (with_twins P x) (λ y e. or_false (P y) (same_symbol (symbol_of x) y) (or_false (with_symbol P (symbol_of x) y) (same_symbol (symbol_of (twin_of x)) y) e)) b (apart_outside A (with_twins P x) b h.4))
  apart_outside A P (tuple_of ts) h = all_apart_outside A P ts h
  apart_outside A P (array_with e p) h = apart_outside A P e h
  apart_outside A P (data_with d ts m p) h = all_apart_outside A P ts h
  apart_outside A P (map_with e p) h = tt
  apart_outside A P (type_variable i) h = tt

  all_apart_outside : (A : Assignment) (P : Symbols) (ts : Refineds) → AllNamesApart A P ts → AllTwinsOutside P ts
  all_apart_outside A P none h = tt
  all_apart_outside A P (more t ts) h = (apart_outside A P t h.0, all_apart_outside A P ts h.1)
