-- Types in environments: over names at their sorts, with those that they give to their functions' arguments.
use Rattle.std.proofs.Common.{◌≡◌, inl, inr, ℕ, suc, ◌<◌, Bool, true, false, ◌&&◌, ◌||◌, [], ◌∷◌, Option, Some, None, refl, sym, subst, arith}
use Rattle.lq_sound_scope.specs.Scopes.Over as over
use Rattle.lq_sound_scope.specs.Scopes.Over.{Names, kind_of, with_sort}
use Rattle.lq_sound_scope.proofs.ScopesLemmas.Symbols.{or_left, or_right, same_is}
use Rattle.lq_sound_values.specs.Inclusion.Symbols.{SumOn}
use Rattle.lq_refined_instances.specs.Scopes.{Scope}
use Rattle.lq_sound_values.proofs.NewNamesLemmas.Fields.{less_apart}
use Rattle.lq_refined_types.specs.Parts.Part.{Part, known, unknown, Parts}
use Rattle.lq_refined_types.specs.Parts.Substitution.{Subst, flag_at, sum_at}
use Rattle.lq_logic_predicates.specs.Formula.{Formula, truth, falsity, flag, compare, objects, negation, conjunction, disjunction, equivalence}
use Rattle.lq_logic_predicates.specs.Sum.{Sum, whole, var, neg, add, sub, mul, div, rem, len, measure, same_symbol}
use Rattle.lq_logic_predicates.specs.declared.symbol.Symbol.{Symbol}
use Rattle.lq_logic_predicates.specs.declared.symbol.Symbol.TheVariants.{Value, Position}
use Rattle.lq_refined_types.specs.Types.Operations.{symbol_of}
use Rattle.lq_refined_types.specs.Types.Refined.{Refined, int_with, bool_with, unit_type, function, tuple_of, array_with, data_with, map_with, type_variable, Refineds, none, more, Kind, number, truth_value, object, other, kind, top, all_erased}
use Rattle.lq_sound_values.specs.Runs.Closed.{SortedOn}
use Rattle.lq_sound_scope.proofs.ScalarsLemmas.Twins.{false_unless}
use Rattle.lq_text_qualifiers.specs.Faults.Shapes.{Shape, int, bool, array, data_of}
use Rattle.lq_text_qualifiers.specs.Faults.Shapes as shape
use Rattle.lq_refined_templates.specs.Templates.Scopes.{Unknown}
use Rattle.lq_text_tree.specs.Types.{Signature}
use Rattle.lq_sound_scope.specs.Sorts.Sorts.{HasName, IsNumber, IsObject, IsWellSorted, IsWithin, ScopeStands, Sorts, StandsAt, is_one, with_kind}
use Rattle.lq_sound_scope.specs.Sorts.Types.{CellsSorted, ComponentsSorted, InsideSorted, PartSorted, PartsSorted, TopSorted, TypeSorted, TypesSorted}
use Rattle.lq_sound_scope.proofs.SortsLemmas.Basics.{wider_kind, within_kind}
use Rattle.lq_sound_scope.proofs.SortsLemmas.Types.{AreNames, top_within}

-- with a function's name of its argument, where it has one
abbrev pub with_argument : Sorts → Option ℕ → Kind → Sorts
with_argument N None k = N
with_argument N (Some x) k = with_kind N k (symbol_of x)

module _ (g : Signature) (unknowns : ℕ → Unknown) where
  abbrev mutual
    pub InsideIn : Sorts → Refined → Type 0
    InsideIn N (int_with p) = Unit {0}
    InsideIn N (bool_with p) = Unit {0}
    InsideIn N unit_type = Unit {0}
    InsideIn N (function x a b) =
        InsideIn N a × TopSorted unknowns N a × InsideIn (with_argument N x (kind a)) b × TopSorted unknowns (with_argument N x (kind a)) b
    InsideIn N (tuple_of ts) = ComponentsIn N N 0 ts
    InsideIn N (array_with e p) = InsideIn N e × TopSorted unknowns N e
    InsideIn N (data_with d ts m p) = TypesIn N ts × CellsSorted g unknowns d (all_erased ts) m
    InsideIn N (map_with e p) = InsideIn N e × TopSorted unknowns (with_kind N number (Position 0)) e
    InsideIn N (type_variable i) = Unit {0}

    pub TypesIn : Sorts → Refineds → Type 0
    TypesIn N none = Unit {0}
    TypesIn N (more t ts) = InsideIn N t × TopSorted unknowns N t × TypesIn N ts

    pub ComponentsIn : Sorts → Sorts → ℕ → Refineds → Type 0
    ComponentsIn N M k none = Unit {0}
    ComponentsIn N M k (more t ts) = InsideIn N t × TopSorted unknowns M t × ComponentsIn N (with_kind M (kind t) (Position (suc k))) (suc k) ts

  abbrev pub TypeIn : Sorts → Refined → Type 0
  TypeIn N t = InsideIn N t × TopSorted unknowns N t

  -- ---- over more sorts

  argument_within : (N M : Sorts) → IsWithin N M → (x : Option ℕ) (k : Kind) → IsWithin (with_argument N x k) (with_argument M x k)
  argument_within N M w None k = w
  argument_within N M w (Some x) k = wider_kind N M w k (symbol_of x)

  mutual
    pub inside_more : (N M : Sorts) → IsWithin N M → (t : Refined) → InsideIn N t → InsideIn M t
    inside_more N M w (int_with p) h = tt
    inside_more N M w (bool_with p) h = tt
    inside_more N M w unit_type h = tt
    inside_more N M w (function x a b) h =
        let V = with_argument N x (kind a) in
        let W = with_argument M x (kind a) in
        let v = argument_within N M w x (kind a) in
        (inside_more N M w a h.0, top_within unknowns N M w a h.1, inside_more V W v b h.2, top_within unknowns V W v b h.3)
    inside_more N M w (tuple_of ts) h = components_more N M N M w w 0 ts h
    inside_more N M w (array_with e p) h = (inside_more N M w e h.0, top_within unknowns N M w e h.1)
    inside_more N M w (data_with d ts m p) h = (types_more N M w ts h.0, h.1)
    inside_more N M w (map_with e p) h =
        (inside_more N M w e h.0, top_within unknowns (with_kind N number (Position 0)) (with_kind M number (Position 0)) (wider_kind N M w number (Position 0)) e h.1)
    inside_more N M w (type_variable i) h = tt

    types_more : (N M : Sorts) → IsWithin N M → (ts : Refineds) → TypesIn N ts → TypesIn M ts
    types_more N M w none h = tt
    types_more N M w (more t ts) h = (inside_more N M w t h.0, top_within unknowns N M w t h.1, types_more N M w ts h.2)

    components_more : (N M U V : Sorts) → IsWithin N M → IsWithin U V → (k : ℕ) (ts : Refineds) → ComponentsIn N U k ts → ComponentsIn M V k ts
    components_more N M U V w v k none h = tt
    components_more N M U V w v k (more t ts) h = (
      inside_more N M w t h.0,
      top_within unknowns U V v t h.1,
      components_more N M (with_kind U (kind t) (Position (suc k))) (with_kind V (kind t) (Position (suc k))) w (wider_kind U V v (kind t) (Position (suc k))) (suc k) ts h.2,
    )

  pub type_more : (N M : Sorts) → IsWithin N M → (t : Refined) → TypeIn N t → TypeIn M t
  type_more N M w t h = (inside_more N M w t h.0, top_within unknowns N M w t h.1)

-- ---- what is well sorted and speaks of names

-- the sorts have each symbol that both have: a number or an object among terms, a truth value among flags
pub record AreBoth (N : Sorts) (M : Names) (L : Sorts) : Type 0 where
  pub numbers : (x : Symbol) → N number x ≡ true → M.terms x ≡ true → L number x ≡ true
  pub flags : (x : Symbol) → N truth_value x ≡ true → M.flags x ≡ true → L truth_value x ≡ true
  pub objects : (x : Symbol) → N object x ≡ true → M.terms x ≡ true → L object x ≡ true

module _ (N : Sorts) (M : Names) (L : Sorts) (w : AreBoth N M L) where
  object_both : (t : Sum) → IsObject N t → SumOn M.terms t → IsObject L t
  object_both (whole n) h o = h
  object_both (var x) h o = w.objects x h o
  object_both (neg a) h o = h
  object_both (add a b) h o = h
  object_both (sub a b) h o = h
  object_both (mul a b) h o = h
  object_both (div a b) h o = h
  object_both (rem a b) h o = h
  object_both (len a) h o = h
  object_both (measure f a) h o = h

  number_both : (t : Sum) → IsNumber N t → SumOn M.terms t → IsNumber L t
  number_both (whole n) h o = tt
  number_both (var x) h o = w.numbers x h o
  number_both (neg a) h o = number_both a h o
  number_both (add a b) h o = (number_both a h.0 o.0, number_both b h.1 o.1)
  number_both (sub a b) h o = (number_both a h.0 o.0, number_both b h.1 o.1)
  number_both (mul a b) h o = (number_both a h.0 o.0, number_both b h.1 o.1)
  number_both (div a b) h o = (number_both a h.0 o.0, number_both b h.1 o.1)
  number_both (rem a b) h o = (number_both a h.0 o.0, number_both b h.1 o.1)
  number_both (len a) h o = object_both a h o
  number_both (measure f a) h o = object_both a h o

  pub formula_both : (p : Formula) → IsWellSorted N p → SortedOn M.terms M.flags p → IsWellSorted L p
  formula_both truth h o = tt
  formula_both falsity h o = tt
  formula_both (flag x) h o = w.flags x h o
  formula_both (compare c a b) h o = (number_both a h.0 o.0, number_both b h.1 o.1)
  formula_both (objects a b) h o = (object_both a h.0 o.0, object_both b h.1 o.1)
  formula_both (negation p) h o = formula_both p h o
  formula_both (conjunction p q) h o = (formula_both p h.0 o.0, formula_both q h.1 o.1)
  formula_both (disjunction p q) h o = (formula_both p h.0 o.0, formula_both q h.1 o.1)
  formula_both (equivalence p q) h o = (formula_both p h.0 o.0, formula_both q h.1 o.1)

  symbol_both : (θ : Subst) (s : Shape) (x : Symbol) → StandsAt N θ (kind_of s) x → over.SymbolOver M θ s x → StandsAt L θ (kind_of s) x
  symbol_both θ int x h o = number_both (sum_at θ x) h o
  symbol_both θ bool x h o = formula_both (flag_at θ x) h o
  symbol_both θ array x h o = object_both (sum_at θ x) h o
  symbol_both θ (data_of d) x h o = object_both (sum_at θ x) h o
  symbol_both θ shape.other x h o = tt

  scope_both : (θ : Subst) (Γ : Scope) → ScopeStands N θ Γ → over.ScopeOver M θ Γ → ScopeStands L θ Γ
  scope_both θ [] h o = tt
  scope_both θ (e ∷ Γ) h o = (symbol_both θ e.1 e.0 h.0 o.0, scope_both θ Γ h.1 o.1)

  module _ (unknowns : ℕ → Unknown) where
    part_both : (q : Part) → PartSorted unknowns N q → over.PartOver unknowns M q → PartSorted unknowns L q
    part_both (known p) h o = formula_both p h o
    part_both (unknown u θ) h o = (symbol_both θ (unknowns u).1 Value h.0 o.0, scope_both θ (unknowns u).0 h.1 o.1)

    pub parts_both : (qs : Parts) → PartsSorted unknowns N qs → over.PartsOver unknowns M qs → PartsSorted unknowns L qs
    parts_both [] h o = tt
    parts_both (q ∷ qs) h o = (part_both q h.0 o.0, parts_both qs h.1 o.1)

-- ---- with one more symbol

-- a number isn't an object, nor the other way round
abbrev pub IsApart : Sorts → Kind → Symbol → Type 0
IsApart N number x = N object x ≡ false
IsApart N truth_value x = Unit {0}
IsApart N object x = N number x ≡ false
IsApart N other x = Unit {0}

clash : (a : Bool) → a ≡ true → a ≡ false → ⊥
clash true h w = cc
clash false h w = cc

-- of the second names with one more, an old one or the new one
or_else : (a b : Bool) (A : Type 0) → (a || b) ≡ true → (a ≡ true → A) → (b ≡ true → A) → A
or_else true b A h f g = f refl
or_else false b A h f g = g h

old : (a b : Bool) → (a || (false && b)) ≡ true → a ≡ true
old true b h = refl
old false b h = cc

module _ (N : Sorts) (M : Names) (L : Sorts) (w : AreBoth N M L) (x : Symbol) where
  -- a new one that is apart
  with_both : (k : Kind) → IsApart N k x → AreBoth (with_kind N k x) (with_sort M k x) (with_kind L k x)
  with_both number a =
      record {
        numbers = λ y h o.
            or_else (M.terms y) (same_symbol x y) (with_kind L number x number y ≡ true) o
            (λ e. or_else (N number y) (same_symbol x y) (with_kind L number x number y ≡ true) h (λ f. or_left (L number y) (same_symbol x y) (w.numbers y f e))
            (λ f. or_right (L number y) (same_symbol x y) f)) (λ e. or_right (L number y) (same_symbol x y) e);
        flags = λ y h o. within_kind L number x truth_value y (w.flags y (old (N truth_value y) (same_symbol x y) h) o);
        objects = λ y h o.
            let f = old (N object y) (same_symbol x y) h in
            or_else (M.terms y) (same_symbol x y) (with_kind L number x object y ≡ true) o (λ e. within_kind L number x object y (w.objects y f e))
            (λ e. absurd (clash (N object x) (subst (λ (z : Symbol). N object z ≡ true) (sym (same_is x y e)) f) a));
      }
  with_both truth_value a =
      record {
        numbers = λ y h o. within_kind L truth_value x number y (w.numbers y (old (N number y) (same_symbol x y) h) o);
        flags = λ y h o.
            or_else (M.flags y) (same_symbol x y) (with_kind L truth_value x truth_value y ≡ true) o
            (λ e. or_else (N truth_value y) (same_symbol x y) (with_kind L truth_value x truth_value y ≡ true) h
            (λ f. or_left (L truth_value y) (same_symbol x y) (w.flags y f e)) (λ f. or_right (L truth_value y) (same_symbol x y) f))
            (λ e. or_right (L truth_value y) (same_symbol x y) e);
        objects = λ y h o. within_kind L truth_value x object y (w.objects y (old (N object y) (same_symbol x y) h) o);
      }
  with_both object a =
      record {
        numbers = λ y h o.
            let f = old (N number y) (same_symbol x y) h in
            or_else (M.terms y) (same_symbol x y) (with_kind L object x number y ≡ true) o (λ e. within_kind L object x number y (w.numbers y f e))
            (λ e. absurd (clash (N number x) (subst (λ (z : Symbol). N number z ≡ true) (sym (same_is x y e)) f) a));
        flags = λ y h o. within_kind L object x truth_value y (w.flags y (old (N truth_value y) (same_symbol x y) h) o);
        objects = λ y h o.
            or_else (M.terms y) (same_symbol x y) (with_kind L object x object y ≡ true) o
            (λ e. or_else (N object y) (same_symbol x y) (with_kind L object x object y ≡ true) h (λ f. or_left (L object y) (same_symbol x y) (w.objects y f e))
            (λ f. or_right (L object y) (same_symbol x y) f)) (λ e. or_right (L object y) (same_symbol x y) e);
      }
  with_both other a =
      record {
        numbers = λ y h o. within_kind L other x number y (w.numbers y (old (N number y) (same_symbol x y) h) o);
        flags = λ y h o. within_kind L other x truth_value y (w.flags y (old (N truth_value y) (same_symbol x y) h) o);
        objects = λ y h o. within_kind L other x object y (w.objects y (old (N object y) (same_symbol x y) h) o);
      }

  -- one that has its kind among the sorts already
  named_both : (k : Kind) → IsApart N k x → AreBoth N (with_sort M k x) (with_kind L k x)
  named_both k a =
      let b = with_both k a in
      record {
        numbers = λ y h o. b.numbers y (within_kind N k x number y h) o;
        flags = λ y h o. b.flags y (within_kind N k x truth_value y h) o;
        objects = λ y h o. b.objects y (within_kind N k x object y h) o;
      }

-- ---- types

-- neither v nor a position behind the first j is of these sorts
pub record AreFree (N : Sorts) (j : ℕ) : Type 0 where
  pub value : (k : Kind) → N k Value ≡ false
  pub positions : (k : Kind) (l : ℕ) → j < l → N k (Position l) ≡ false

free_apart : (N : Sorts) (x : Symbol) → ((k : Kind) → N k x ≡ false) → (k : Kind) → IsApart N k x
free_apart N x f number = f object
free_apart N x f truth_value = tt
free_apart N x f object = f number
free_apart N x f other = tt

none_more : (a b c : Bool) → a ≡ false → c ≡ false → (a || (b && c)) ≡ false
none_more false true c e f = f
none_more false false c e f = refl
none_more true b c e f = cc

free_more : (N : Sorts) (j : ℕ) → AreFree N j → (k : Kind) → AreFree (with_kind N k (Position (suc j))) (suc j)
free_more N j f k =
    record {
      value = λ i. none_more (N i Value) (is_one k i) false (f.value i) refl;
      positions = λ i l h.
          none_more (N i (Position l)) (is_one k i) (same_symbol (Position (suc j)) (Position l)) (f.positions i l (omega (arith, h)))
          (less_apart (suc j) l h);
    }

module _ (g : Signature) (unknowns : ℕ → Unknown) (N : Sorts) (names : AreNames g unknowns N) (none_free : AreFree N 0) (key : (k : Kind) → N k (Position 0) ≡ false) where
  name_apart : (k : Kind) (x : ℕ) → HasName N k x → IsApart N k (symbol_of x)
  name_apart number x h = false_unless (N object (symbol_of x)) (λ e. by h e)
    where
      by : HasName N number x → N object (symbol_of x) ≡ true → ⊥
      by (inl h) e = let q = names.one number object x h e in cc
      by (inr h) e = let q = names.one other object x h e in cc
  name_apart truth_value x h = tt
  name_apart object x h = false_unless (N number (symbol_of x)) (λ e. by h e)
    where
      by : HasName N object x → N number (symbol_of x) ≡ true → ⊥
      by (inl h) e = let q = names.one object number x h e in cc
      by (inr h) e = let q = names.one other number x h e in cc
  name_apart other x h = tt

  top_both : (U : Sorts) → ((k : Kind) → U k Value ≡ false) → (M : Names) (L : Sorts) → AreBoth U M L → (t : Refined) → TopSorted unknowns U t
      → over.TopOver unknowns M t → TopSorted unknowns L t
  top_both U free M L w t h o =
      parts_both (with_kind U (kind t) Value) (with_sort M (kind t) Value) (with_kind L (kind t) Value) (with_both U M L w Value (kind t) (free_apart U Value free (kind t)))
      unknowns (top t) h o

  mutual
    inside_both : (M : Names) (L : Sorts) → AreBoth N M L → (t : Refined) → InsideSorted g unknowns N t → over.InsideOver g unknowns M t → InsideIn g unknowns L t
    inside_both M L w (int_with p) h o = tt
    inside_both M L w (bool_with p) h o = tt
    inside_both M L w unit_type h o = tt
    inside_both M L w (function None a b) h o = (
      inside_both M L w a h.0 o.0,
      top_both N none_free.value M L w a h.1 o.1,
      inside_both M L w b h.2 o.2,
      top_both N none_free.value M L w b h.3 o.3,
    )
    inside_both M L w (function (Some x) a b) h o =
        let v = named_both N M L w (symbol_of x) (kind a) (name_apart (kind a) x h.0) in
        let V = with_sort M (kind a) (symbol_of x) in
        let W = with_kind L (kind a) (symbol_of x) in (
          inside_both M L w a h.1 o.0,
          top_both N none_free.value M L w a h.2 o.1,
          inside_both V W v b h.3 o.2,
          top_both N none_free.value V W v b h.4 o.3,
        )
    inside_both M L w (tuple_of ts) h o = components_both M L w N M L w 0 none_free ts h o
    inside_both M L w (array_with e p) h o = (inside_both M L w e h.0 o.0, top_both N none_free.value M L w e h.1 o.1)
    inside_both M L w (data_with d ts m p) h o = (types_both M L w ts h.0 o.0, h.1)
    inside_both M L w (map_with e p) h o =
        let x = Position 0 in (
          inside_both M L w e h.0 o.0,
          top_both (with_kind N number x) (λ k. none_more (N k Value) (is_one number k) false (none_free.value k) refl) (with_sort M number x) (with_kind L number x)
              (with_both N M L w x number (free_apart N x key number)) e h.1 o.1,
        )
    inside_both M L w (type_variable i) h o = tt

    types_both : (M : Names) (L : Sorts) → AreBoth N M L → (ts : Refineds) → TypesSorted g unknowns N ts → over.TypesOver g unknowns M ts → TypesIn g unknowns L ts
    types_both M L w none h o = tt
    types_both M L w (more t ts) h o = (inside_both M L w t h.0 o.0, top_both N none_free.value M L w t h.1 o.1, types_both M L w ts h.2 o.2)

    components_both : (M : Names) (L : Sorts) → AreBoth N M L → (U : Sorts) (V : Names) (W : Sorts) → AreBoth U V W → (j : ℕ) → AreFree U j → (ts : Refineds)
        → ComponentsSorted g unknowns N U j ts → over.ComponentsOver g unknowns M V j ts → ComponentsIn g unknowns L W j ts
    components_both M L w U V W v j free none h o = tt
    components_both M L w U V W v j free (more t ts) h o =
        let x = Position (suc j) in
        let k = kind t in (
          inside_both M L w t h.0 o.0,
          top_both U free.value V W v t h.1 o.1,
          components_both M L w (with_kind U k x) (with_sort V k x) (with_kind W k x)
              (with_both U V W v x k (free_apart U x (λ i. free.positions i (suc j) (omega arith)) k)) (suc j) (free_more U j free k) ts h.2 o.2,
        )

  pub type_both : (M : Names) (L : Sorts) → AreBoth N M L → (t : Refined) → TypeSorted g unknowns N t → over.TypeOver g unknowns M t → TypeIn g unknowns L t
  type_both M L w t h o = (inside_both M L w t h.0 o.0, top_both N none_free.value M L w t h.1 o.1)
