-- Each implication of a program is well sorted, as each of its obligations is, and speaks of bound names.
use Rattle.std.proofs.Common.{◌≡◌, ◌∙◌, inl, inr, ℕ, suc, Bool, true, false, ◌||◌, ◌&&◌, List, [], ◌∷◌, refl, sym, subst}
use Rattle.std.specs.List.{All}
use Rattle.std.proofs.lemmas.List.Elements.{All-nil, All-cons, All-head, All-tail}
use Rattle.lq_sound_scope.specs.Splits.Bound.{HypothesesAreOver, is_position, names_of, with_positions}
use Rattle.lq_sound_adequacy.specs.Subtypings.Bound.{IsAskedOver, IsBoundObligation}
use Rattle.lq_sound_adequacy.specs.Subtypings.Laws.{ObligationsAreBound}
use Rattle.lq_refined_rules.specs.Checks.Basis.{Basis}
use Rattle.lq_sound_scope.specs.Scopes.Over.{PartsOver, of_any_sort}
use Rattle.lq_sound_scope.specs.Scopes.Over as over
use Rattle.lq_sound_scope.proofs.ScopesLemmas.Symbols.{or_left, or_right, same_is}
use Rattle.lq_sound_values.specs.Inclusion.Symbols.{Symbols}
use Rattle.lq_refined_rules.specs.Obligations.Laws.{ObligationsAreImplications, ObligationsAreShaped}
use Rattle.lq_refined_rules.specs.Obligations.Obligation.{Asked, holds, fits, IsShaped, IsShapedAsked, Obligation, implications_by}
use Rattle.lq_refined_rules.specs.Obligations.Obligations.{obligations_of}
use Rattle.lq_refined_types.specs.Parts.Part.{Parts, known, parts_by}
use Rattle.lq_refined_types.specs.Parts.Substitution.{swap}
use Rattle.lq_logic_predicates.specs.Formula.{Formula, falsity}
use Rattle.lq_logic_predicates.specs.Sum.{same_symbol}
use Rattle.lq_logic_predicates.specs.declared.symbol.Symbol.{Symbol}
use Rattle.lq_logic_predicates.specs.declared.symbol.Symbol.TheVariants.{Value, Bound, Position}
use Rattle.lq_refined_types.specs.Types.Context.{Context, guard, name}
use Rattle.lq_refined_types.specs.Types.Operations.{atom_of}
use Rattle.lq_refined_types.specs.Types.Refined.{Refined, Kind, number, truth_value, object, other, kind, top}
use Rattle.lq_sound_values.specs.Runs.Closed.{names_in}
use Rattle.lq_text_qualifiers.specs.Faults.Shapes.{shape_of}
use Rattle.lq_refined_types.specs.Subtyping.Implication.{of_case, Implication, Origin}
use Rattle.lq_refined_types.specs.Subtyping.Subtype.{facts, fields_of, with_guards}
use Rattle.lq_refined_templates.specs.Templates.Scopes.{Unknown, symbols_in}
use Rattle.lq_text_tree.specs.MlType.{MlTypes, no_types, more_types}
use Rattle.lq_sound_scope.specs.Sorts.Equations.{with_fields}
use Rattle.lq_sound_scope.specs.Sorts.Sorts.{IsAtomOf, IsWellSorted, IsWithin, Sorts, is_one, with_kind}
use Rattle.lq_sound_scope.specs.Sorts.Types.{PartsSorted, TypeSorted}
use Rattle.lq_sound_scope.proofs.SortsLemmas.Basics.{both_within, formula_within, one_stands, within_kind}
use Rattle.lq_sound_scope.proofs.SortsLemmas.Parts.{parts_joined, parts_put, parts_within}
use Rattle.lq_sound_scope.proofs.SortsLemmas.Types.{AreNames, name_atom}
use Rattle.lq_sound_adequacy.specs.Obligations.Kinds.{NameKind}
use Rattle.lq_sound_adequacy.specs.Obligations.Laws.{ObligationsAreSorted}
use Rattle.lq_sound_adequacy.specs.Obligations.Sorted.{AskedSorted, ContextSorted, IsSortedObligation, TwinsAlike, sorts_by}
use Rattle.lq_sound_adequacy.proofs.ObligationsLemmas.Pures.{are_names, kind_same}
use Rattle.lq_sound_adequacy.specs.Implications.Laws.{ImplicationsAreSorted}
use Rattle.lq_sound_adequacy.specs.Implications.Sorted.{AreImplicationsSorted, IsSortedOf, sorts_and_value, sorts_of}
use Rattle.lq_sound_adequacy.proofs.ImplicationsLemmas.Parts.{LacksValue, guards_facts, lacks_more}
use Rattle.lq_sound_adequacy.proofs.ImplicationsLemmas.Splits.{split_sorted}
use Rattle.lq_sound_adequacy.proofs.ImplicationsLemmas.Types.{AreBoth, AreFree, formula_both, parts_both, type_both}

-- guards bring no names
guards_names : (qs : Parts) (Γ : Context) → names_in (with_guards qs Γ) ≡ names_in Γ
guards_names [] Γ = refl
guards_names (q ∷ qs) Γ = guards_names qs (guard q ∷ Γ)

guards_sorts : (qs : Parts) (Γ : Context) → sorts_of (with_guards qs Γ) ≡ sorts_of Γ
guards_sorts [] Γ = refl
guards_sorts (q ∷ qs) Γ = guards_sorts qs (guard q ∷ Γ)

-- one more on both sides
more_both : (a b c : Bool) → (a || c) ≡ true → (a ≡ true → b ≡ true) → (b || c) ≡ true
more_both true b c h f = or_left b c (f refl)
more_both false b c h f = or_right b c h

or_else : (a b : Bool) (A : Type 0) → (a || b) ≡ true → (a ≡ true → A) → (b ≡ true → A) → A
or_else true b A h f g = f refl
or_else false b A h f g = g h

one_both : (N : Sorts) (M : over.Names) (L : Sorts) → AreBoth N M L → (k : Kind) (x : Symbol) → AreBoth (with_kind N k x) M (with_kind L k x)
one_both N M L w k x =
    record {
      numbers = λ y h o. more_both (N number y) (L number y) (is_one k number && same_symbol x y) h (λ e. w.numbers y e o);
      flags = λ y h o. more_both (N truth_value y) (L truth_value y) (is_one k truth_value && same_symbol x y) h (λ e. w.flags y e o);
      objects = λ y h o. more_both (N object y) (L object y) (is_one k object && same_symbol x y) h (λ e. w.objects y e o);
    }

fields_both : (N : Sorts) (M : over.Names) (L : Sorts) → AreBoth N M L → (j : ℕ) (fs : MlTypes) → AreBoth (with_fields N j fs) M (with_fields L j fs)
fields_both N M L w j no_types = w
fields_both N M L w j (more_types f fs) =
    one_both (with_fields N (suc j) fs) M (with_fields L (suc j) fs) (fields_both N M L w (suc j) fs)
    (over.kind_of (shape_of f)) (Position (suc j))

fields_within : (N L : Sorts) → IsWithin N L → (j : ℕ) (fs : MlTypes) → IsWithin N (with_fields L j fs)
fields_within N L w j no_types = w
fields_within N L w j (more_types f fs) =
    let V = with_fields L (suc j) fs in
    both_within N V (with_fields L j (more_types f fs)) (fields_within N L w (suc j) fs)
    (within_kind V (over.kind_of (shape_of f)) (Position (suc j)))

module _ (P : Basis) (unknowns : ℕ → Unknown) (agree : (u : ℕ) → P.setting.scopes u ≡ symbols_in (unknowns u).0) (K : ℕ → NameKind) (twins : TwinsAlike K) where
  abbrev N : Sorts
  N = sorts_by K

  abbrev Sorted : Context → Type 0
  Sorted Γ = ContextSorted P unknowns N Γ

  -- ---- environments

  one_kind : (x : Symbol) (j k : Kind) → N j x ≡ true → N k x ≡ true → j ≡ k
  one_kind Value j k h w = cc
  one_kind (Bound x) j k h w = sym (kind_same (K x.0).0 j h) ∙ kind_same (K x.0).0 k w
  one_kind (Position i) j k h w = cc

  own_has : (L : Sorts) (j k : Kind) (x y : Symbol) → N k x ≡ true → N j y ≡ true → same_symbol x y ≡ true → is_one j j ≡ true → with_kind L k x j y ≡ true
  own_has L j k x y h w e s =
      let is : x ≡ y = same_is x y e in
      let same : j ≡ k = one_kind x j k (subst (λ (z : Symbol). N j z ≡ true) (sym is) w) h in
      subst (λ (i : Kind). with_kind L i x j y ≡ true) same (or_right (L j y) (is_one j j && same_symbol x y) (both (is_one j j) (same_symbol x y) s e))
    where
      both : (a b : Bool) → a ≡ true → b ≡ true → (a && b) ≡ true
      both true b h w = w
      both false b h w = cc

  -- a name of an environment has its sort there
  has_sort : (Γ : Context) → Sorted Γ → (j : Kind) → is_one j j ≡ true → (y : Symbol) → N j y ≡ true → names_in Γ y ≡ true → sorts_of Γ j y ≡ true
  has_sort [] s j k y h o = cc
  has_sort (guard p ∷ Γ) s j k y h o = has_sort Γ s.1 j k y h o
  has_sort (name x t ∷ Γ) s j k y h o =
      let L = sorts_of Γ in
      or_else (names_in Γ y) (same_symbol x y) (with_kind L (kind t) x j y ≡ true) o (λ e. within_kind L (kind t) x j y (has_sort Γ s.2 j k y h e))
      (λ e. own_has L j (kind t) x y s.0 h e k)

  no_position : (j : Kind) (y : Symbol) → N j y ≡ true → is_position y ≡ false
  no_position j Value h = refl
  no_position j (Bound x) h = refl
  no_position j (Position i) h = cc

  named : (Γ : Context) (j : Kind) (y : Symbol) → N j y ≡ true → with_positions (names_in Γ) y ≡ true → names_in Γ y ≡ true
  named Γ j y h o = by (names_in Γ y) (is_position y) o (no_position j y h)
    where
      by : (a b : Bool) → (a || b) ≡ true → b ≡ false → a ≡ true
      by true b o e = refl
      by false true o e = cc
      by false false o e = cc

  names_both : (Γ : Context) → Sorted Γ → AreBoth N (of_any_sort (with_positions (names_in Γ))) (sorts_of Γ)
  names_both Γ s =
      record {
        numbers = λ y h o. has_sort Γ s number refl y h (named Γ number y h o);
        flags = λ y h o. has_sort Γ s truth_value refl y h (named Γ truth_value y h o);
        objects = λ y h o. has_sort Γ s object refl y h (named Γ object y h o);
      }

  fewer_both : (A L : Sorts) (V : Symbols) → AreBoth A (of_any_sort (with_positions V)) L → AreBoth A (of_any_sort V) L
  fewer_both A L V w =
      record {
        numbers = λ y h o. w.numbers y h (or_left (V y) (is_position y) o);
        flags = λ y h o. w.flags y h (or_left (V y) (is_position y) o);
        objects = λ y h o. w.objects y h (or_left (V y) (is_position y) o);
      }

  apart_value : (k : Kind) (x : Symbol) → N k x ≡ true → same_symbol x Value ≡ false
  apart_value k Value h = cc
  apart_value k (Bound x) h = refl
  apart_value k (Position i) h = refl

  lacks : (Γ : Context) → Sorted Γ → LacksValue (sorts_of Γ)
  lacks [] s k = refl
  lacks (guard p ∷ Γ) s k = lacks Γ s.1 k
  lacks (name x t ∷ Γ) s k = lacks_more (sorts_of Γ) (lacks Γ s.2) (kind t) x (apart_value (kind t) x s.0) k

  -- the hypotheses over names of kinds
  facts_sorted : (Γ : Context) → Sorted Γ → PartsSorted unknowns N (facts P.setting Γ)
  facts_sorted [] s = tt
  facts_sorted (guard p ∷ Γ) s = parts_joined unknowns N (facts P.setting Γ) (p ∷ []) (facts_sorted Γ s.1) (s.0, tt)
  facts_sorted (name x t ∷ Γ) s =
      let a = atom_of (kind t) x in
      parts_joined unknowns N (facts P.setting Γ) (parts_by P.setting.scopes (swap Value a ∷ []) (top t)) (facts_sorted Γ s.2)
      (parts_put unknowns P.setting.scopes agree N (with_kind N (kind t) Value) (swap Value a ∷ [])
      (one_stands N (kind t) Value a (λ j e. none j e) (name_atom P.setting.constructors unknowns N (kind t) x s.0)) (top t) s.1.1)
    where
      none : (j : Kind) → N j Value ≡ true → IsAtomOf N j (atom_of (kind t) x)
      none j e = cc

  -- ---- obligations

  abbrev Asking : Context → Asked → Origin → Type 0
  Asking Γ a o = All (IsSortedOf P.setting unknowns Γ a) (implications_by P Γ o a)

  demanded : (Γ : Context) (o : Origin) (p : Formula) → PartsSorted unknowns (sorts_of Γ) (facts P.setting Γ) → IsWellSorted (sorts_of Γ) p
      → Asking Γ (holds p) o
  demanded Γ o p known_there h =
      let L = sorts_of Γ in
      let V = sorts_and_value Γ other in
      let own : Implication = record { hypotheses = facts P.setting Γ; left = []; goal = known p; origin = o } in
      All-cons (IsSortedOf P.setting unknowns Γ (holds p)) own []
      (inl
      (record {
        are = refl;
        hypotheses = parts_within unknowns L V (within_kind L other Value) (facts P.setting Γ) known_there;
        left = tt;
        goal = formula_within L V (within_kind L other Value) p h;
      }))
      (All-nil (IsSortedOf P.setting unknowns Γ (holds p)))

  names : AreNames P.setting.constructors unknowns N
  names = are_names P unknowns K twins

  free : AreFree N 0
  free = record { value = λ k. refl; positions = λ k l h. refl }

  asked_sorted : (Γ : Context) → Sorted Γ → PartsSorted unknowns (sorts_of Γ) (facts P.setting Γ) → (o : Origin) (a : Asked) → AskedSorted P unknowns N a
      → IsAskedOver P unknowns (names_of Γ) a → IsShapedAsked a → Asking Γ a o
  asked_sorted Γ s known_there o (holds p) h b same =
      demanded Γ o p known_there
      (formula_both N (names_of Γ) (sorts_of Γ) (fewer_both N (sorts_of Γ) (names_in Γ) (names_both Γ s)) p h b)
  asked_sorted Γ s known_there o (fits l r) h b same =
      let w = fewer_both N (sorts_of Γ) (names_in Γ) (names_both Γ s) in
      let in_type = λ (t : Refined) (k : TypeSorted P.setting.constructors unknowns N t) (n : over.TypeOver P.setting.constructors unknowns (names_of Γ) t).
      type_both P.setting.constructors unknowns N names free (λ k. refl) (names_of Γ) (sorts_of Γ) w t k n in
      split_sorted P.setting unknowns agree o Γ l r known_there (lacks Γ s) (in_type l h.0 b.0) (in_type r h.1 b.1) same (inr b.2)

  -- that there is no value of a constructor
  case_sorted : (Δ : Context) (qs : Parts) (c : ℕ) (o : Origin) → o.reason ≡ of_case → Sorted Δ
      → PartsSorted unknowns (with_fields N 0 (fields_of (P.setting.constructors c))) qs
      → PartsOver unknowns (of_any_sort (with_positions (names_in Δ))) (facts P.setting (with_guards qs Δ)) → Asking (with_guards qs Δ) (holds falsity) o
  case_sorted Δ qs c o e s h b =
      let Γ = with_guards qs Δ in
      let fs = fields_of (P.setting.constructors c) in
      let V = with_fields N 0 fs in
      let L = with_fields (sorts_of Δ) 0 fs in
      let M = of_any_sort (with_positions (names_in Δ)) in
      let all = guards_facts P.setting unknowns agree V qs Δ
      (parts_within unknowns N V (fields_within N N (λ k x z. z) 0 fs) (facts P.setting Δ) (facts_sorted Δ s)) h in
      let own : Implication = record { hypotheses = facts P.setting Γ; left = []; goal = known falsity; origin = o } in
      All-cons (IsSortedOf P.setting unknowns Γ (holds falsity)) own []
      (inr
      (record {
        reason = e;
        are = refl;
        before = Δ;
        equations = qs;
        is = refl;
        constructor = c;
        hypotheses = parts_both V M L (fields_both N M (sorts_of Δ) (names_both Δ s) 0 fs) unknowns (facts P.setting Γ) all b;
        left = refl;
        goal = refl;
      }))
      (All-nil (IsSortedOf P.setting unknowns Γ (holds falsity)))

  module _ (bounds : HypothesesAreOver) where
    -- the hypotheses of an obligation speak of names and positions
    hypotheses_bound : (o : Obligation) → IsBoundObligation P unknowns o
        → PartsOver unknowns (of_any_sort (with_positions (names_in o.context))) (facts P.setting o.context)
    hypotheses_bound o (inl h) =
        bounds P.setting unknowns agree (with_positions (names_in o.context)) o.context [] (λ y k. or_left (names_in o.context y) _ k) h.environment tt
    hypotheses_bound o (inr h) =
        let Γ = with_guards h.equations h.before in
        let V = with_positions (names_in h.before) in
        let b = bounds P.setting unknowns agree V h.before h.equations (λ y k. or_left (names_in h.before y) _ k) h.environment h.over in
        subst (λ (Δ : Context). PartsOver unknowns (of_any_sort (with_positions (names_in Δ))) (facts P.setting Δ)) (sym h.are)
        (subst (λ (Q : Symbols). PartsOver unknowns (of_any_sort (with_positions Q)) (facts P.setting Γ)) (sym (guards_names h.equations h.before)) b)

    obligation_sorted : (o : Obligation) → IsBoundObligation P unknowns o → IsSortedObligation P unknowns N o → IsShaped o → AreImplicationsSorted P unknowns o
    obligation_sorted o b (inl h) same =
        let Γ = o.context in
        let known_there = parts_both N (of_any_sort (with_positions (names_in Γ))) (sorts_of Γ) (names_both Γ h.environment) unknowns (facts P.setting Γ)
        (facts_sorted Γ h.environment) (hypotheses_bound o b) in
        by b known_there
      where
        by : IsBoundObligation P unknowns o → PartsSorted unknowns (sorts_of o.context) (facts P.setting o.context) → AreImplicationsSorted P unknowns o
        by (inl n) known_there = asked_sorted o.context h.environment known_there o.origin o.asked h.asked n.asked same
        by (inr n) known_there = subst (λ (a : Asked). Asking o.context a o.origin) (sym n.asked) (demanded o.context o.origin falsity known_there tt)
    obligation_sorted o b (inr h) same =
        let Γ = with_guards h.equations h.before in
        let n = subst (λ (Δ : Context). PartsOver unknowns (of_any_sort (with_positions (names_in Δ))) (facts P.setting Δ)) h.are (hypotheses_bound o b) in
        let m = subst (λ (Q : Symbols). PartsOver unknowns (of_any_sort (with_positions Q)) (facts P.setting Γ)) (guards_names h.equations h.before) n in
        subst (λ (Δ : Context). Asking Δ o.asked o.origin) (sym h.are)
        (subst (λ (a : Asked). Asking Γ a o.origin) (sym h.asked) (case_sorted h.before h.equations h.constructor o.origin h.reason h.environment h.sorted m))

    all_sorted : (os : List Obligation) → All (IsBoundObligation P unknowns) os → All (IsSortedObligation P unknowns N) os → All IsShaped os
        → All (AreImplicationsSorted P unknowns) os
    all_sorted [] b h s = All-nil (AreImplicationsSorted P unknowns)
    all_sorted (o ∷ os) b h s =
        All-cons (AreImplicationsSorted P unknowns) o os
        (obligation_sorted o (All-head (IsBoundObligation P unknowns) o os b) (All-head (IsSortedObligation P unknowns N) o os h) (All-head IsShaped o os s))
        (all_sorted os (All-tail (IsBoundObligation P unknowns) o os b) (All-tail (IsSortedObligation P unknowns N) o os h) (All-tail IsShaped o os s))

pub implications_sorted : HypothesesAreOver → ObligationsAreBound → ObligationsAreSorted → ObligationsAreImplications → ObligationsAreShaped
    → ImplicationsAreSorted
implications_sorted bounds bound sorted are shaped P unknowns Q p posed K s = (
  are P [] p,
  all_sorted P unknowns posed.scopes K s.twins bounds (obligations_of P [] p) (bound P unknowns Q p posed) (sorted P unknowns Q p posed K s)
      (shaped P [] p posed.ready),
)
