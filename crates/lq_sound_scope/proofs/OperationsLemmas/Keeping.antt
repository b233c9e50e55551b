-- Operations on types keep of which names types speak.
use Rattle.std.proofs.Common.{◌≡◌, ◌∙◌, ℕ, suc, Bool, true, false, cond, ◌==◌, [], ◌∷◌, Option, Some, None, refl, sym, ap₂, subst}
use Rattle.std.proofs.lemmas.Bool.{eqb-true}
use Rattle.lq_logic_predicates.specs.declared.symbol.Symbol.{Symbol}
use Rattle.lq_logic_predicates.specs.declared.symbol.Symbol.TheVariants.{Value, Position}
use Rattle.lq_logic_predicates.specs.Sum.{Sum, var, same_symbol}
use Rattle.lq_logic_predicates.specs.Formula.{Formula, flag}
use Rattle.lq_refined_types.specs.Parts.Part.{known, Parts, Scopes}
use Rattle.lq_refined_types.specs.Parts.Substitution.{Atom, of_sum, of_formula, swap, sum_at, flag_at}
use Rattle.lq_refined_types.specs.Types.Operations.{applied, atom_of, is_atom, renamed, self_by, self_type, symbol_of, twin, twins, twin_of}
use Rattle.lq_refined_types.specs.Types.Refined.{Refined, int_with, bool_with, unit_type, function, tuple_of, array_with, data_with, map_with, type_variable, Refineds, none, more, Kind, number, truth_value, object, other, kind, top, all_erased, with_top}
use Rattle.lq_refined_types.proofs.TypesLemmas.Erasing.{twin-erased}
use Rattle.lq_text_tree.specs.MlType as ml
use Rattle.lq_text_tree.specs.Types.{Signature}
use Rattle.lq_sound_values.specs.Inclusion.Symbols.{Symbols, with_symbol, SumOn}
use Rattle.lq_sound_values.specs.Runs.Closed.{SortedOn}
use Rattle.lq_refined_templates.specs.Templates.Scopes.{Unknown, symbols_in}
use Rattle.lq_sound_scope.specs.Scopes.Over.{AreWithin, IsWithin, Names, of_any_sort, with_sort, with_argument, PartsOver, TopOver, InsideOver, TypesOver, ComponentsOver, TypeOver}
use Rattle.lq_sound_scope.proofs.ScopesLemmas.Assigned.{or_cases, sorted_within, sum_within, wider}
use Rattle.lq_sound_scope.proofs.ScopesLemmas.Made.{inside_with}
use Rattle.lq_sound_scope.proofs.ScopesLemmas.Symbols.{own_one, within_one, within_sort}
use Rattle.lq_sound_scope.specs.Operations.Laws.{KeepNames}
use Rattle.lq_sound_scope.specs.Operations.Puts.{AllNamesAway, AtomOver, HasKind, NamesAway, Puts}
use Rattle.lq_sound_scope.proofs.OperationsLemmas.Putting.{cells_same, same_kind, type_more, type_put, within_both}
use Rattle.lq_sound_scope.proofs.OperationsLemmas.Skipping.{NamesNot, Without, clash, not_twin, type_stays}

-- ---- one thing for one name

module _ (N : Names) (x : Symbol) where
  at_sum : (t : Sum) (P : Sum → Type 0) (y : Symbol) → P t → P (var y) → P (sum_at (swap x (of_sum t) ∷ []) y)
  at_sum t P y h w = by (same_symbol x y)
    where
      by : (b : Bool) → P (cond b t (var y))
      by true = h
      by false = w

  at_flag : (p : Formula) (P : Formula → Type 0) (y : Symbol) → P p → P (flag y) → P (flag_at (swap x (of_formula p) ∷ []) y)
  at_flag p P y h w = by (same_symbol x y)
    where
      by : (b : Bool) → P (cond b p (flag y))
      by true = h
      by false = w

  -- where the name is the one
  own_sum : (t : Sum) (y : Symbol) → SumOn N.terms t → with_symbol N.terms x y ≡ true → SumOn N.terms (sum_at (swap x (of_sum t) ∷ []) y)
  own_sum t y h e = by (same_symbol x y) refl
    where
      by : (b : Bool) → same_symbol x y ≡ b → SumOn N.terms (cond b t (var y))
      by true f = h
      by false f = or_cases (N.terms y) (same_symbol x y) (N.terms y ≡ true) e (λ k. k) (λ k. absurd (no (sym f ∙ k)))
        where
          no : false ≡ true → ⊥
          no z = cc

  own_flag : (p : Formula) (y : Symbol) → SortedOn N.terms N.flags p → with_symbol N.flags x y ≡ true → SortedOn N.terms N.flags (flag_at (swap x (of_formula p) ∷ []) y)
  own_flag p y h e = by (same_symbol x y) refl
    where
      by : (b : Bool) → same_symbol x y ≡ b → SortedOn N.terms N.flags (cond b p (flag y))
      by true f = h
      by false f = or_cases (N.flags y) (same_symbol x y) (N.flags y ≡ true) e (λ k. k) (λ k. absurd (no (sym f ∙ k)))
        where
          no : false ≡ true → ⊥
          no z = cc

  put_sum : (t : Sum) → SumOn N.terms t → Puts N (swap x (of_sum t) ∷ []) (record { terms = with_symbol N.terms x; flags = N.flags })
  put_sum t h =
      record {
        terms = λ y e. own_sum t y h e;
        flags = λ y e. e;
        any_term = λ y. at_sum t (λ s. SumOn (with_symbol N.terms y) s) y (sum_within N.terms (with_symbol N.terms y) (within_one N.terms y) t h) (own_one N.terms y);
        any_flag = λ y. own_one N.flags y;
      }

  put_formula : (p : Formula) → SortedOn N.terms N.flags p → Puts N (swap x (of_formula p) ∷ []) (record { terms = N.terms; flags = with_symbol N.flags x })
  put_formula p h =
      record {
        terms = λ y e. e;
        flags = λ y e. own_flag p y h e;
        any_term = λ y. own_one N.terms y;
        any_flag = λ y. at_flag p (λ q. SortedOn N.terms (with_symbol N.flags y) q) y
            (sorted_within N.terms N.flags N.terms (with_symbol N.flags y) (λ z e. e) (within_one N.flags y) p h) (own_one N.flags y);
      }

  pub put_one : (k : Kind) (a : Atom) → AtomOver N a → HasKind k a → Puts N (swap x a ∷ []) (with_sort N k x)
  put_one number (of_sum t) h w = put_sum t h
  put_one number (of_formula p) h w = absurd w
  put_one truth_value (of_sum t) h w = absurd w
  put_one truth_value (of_formula p) h w = put_formula p h
  put_one object (of_sum t) h w = put_sum t h
  put_one object (of_formula p) h w = absurd w
  put_one other (of_sum t) h w =
      let p = put_sum t h in
      record {
        terms = λ y e. p.terms y (within_one N.terms x y e);
        flags = λ y e. p.flags y e;
        any_term = λ y. p.any_term y;
        any_flag = λ y. p.any_flag y;
      }
  put_one other (of_formula p) h w = absurd w

-- ---- types

module _ (g : Signature) (unknowns : ℕ → Unknown) (scopes : Scopes) (agree : (u : ℕ) → scopes u ≡ symbols_in (unknowns u).0) where
  abbrev Over : Names → Refined → Type 0
  Over = TypeOver g unknowns

  applied_over : (N : Names) (x : Option ℕ) (k : Kind) (a : Atom) → AtomOver N a → HasKind k a → (t : Refined) → Over (with_argument N x k) t
      → Over N (applied scopes x a t)
  applied_over N None k a h w t o = o
  applied_over N (Some x) k a h w t o =
      type_put g unknowns scopes agree N (with_sort N k (symbol_of x)) (swap (symbol_of x) a ∷ []) (put_one N (symbol_of x) k a h w) t o

  -- ---- other names

  -- a name as an atom of its kind, of which predicates speak
  abbrev IsSpoken : Kind → Type 0
  IsSpoken number = Unit {0}
  IsSpoken truth_value = Unit {0}
  IsSpoken object = Unit {0}
  IsSpoken other = ⊥

  named_kind : (k : Kind) (x : Symbol) → HasKind k (atom_of k x)
  named_kind number x = tt
  named_kind truth_value x = tt
  named_kind object x = tt
  named_kind other x = tt

  named_over : (N : Names) (k : Kind) (x : Symbol) → IsSpoken k → AtomOver (with_sort N k x) (atom_of k x)
  named_over N number x s = own_one N.terms x
  named_over N truth_value x s = own_one N.flags x
  named_over N object x s = own_one N.terms x
  named_over N other x s = absurd s

  renamed_over : (N : Names) (x z : ℕ) (k : Kind) → IsSpoken k → (t : Refined) → Over (with_sort N k (symbol_of x)) t
      → Over (with_sort N k (symbol_of z)) (renamed scopes (Some x) (Some z) k t)
  renamed_over N x z k s t o = by (x == z) refl
    where
      by : (b : Bool) → (x == z) ≡ b
          → Over (with_sort N k (symbol_of z)) (cond b t (applied scopes (Some x) (atom_of k (symbol_of z)) t))
      by true e = subst (λ (y : ℕ). Over (with_sort N k (symbol_of y)) t) (eqb-true x z e) o
      by false e =
          applied_over (with_sort N k (symbol_of z)) (Some x) k (atom_of k (symbol_of z)) (named_over N k (symbol_of z) s) (named_kind k (symbol_of z)) t
          (type_more g unknowns (with_sort N k (symbol_of x)) (with_sort (with_sort N k (symbol_of z)) k (symbol_of x))
          (within_both N (with_sort N k (symbol_of z)) (within_sort N k (symbol_of z)) k (symbol_of x)) t o)

  -- a name of which nothing speaks
  unspoken_over : (N : Names) (x z : ℕ) → Without x (var (symbol_of z)) N → (t : Refined) → NamesNot x t → Over N t
      → Over N (renamed scopes (Some x) (Some z) other t)
  unspoken_over N x z w t n o = by (x == z)
    where
      by : (b : Bool) → Over N (cond b t (applied scopes (Some x) (atom_of other (symbol_of z)) t))
      by true = o
      by false = type_stays x (var (symbol_of z)) g unknowns scopes agree N w t n o

  -- ---- the types of atoms

  topped_over : (N : Names) (k : Kind) (q : Parts) (t : Refined) → kind t ≡ k → PartsOver unknowns (with_sort N k Value) q → Over N t → Over N (with_top q t)
  topped_over N k q t e h o = (inside_with g unknowns N q t o.0, at t (subst (λ (z : Kind). PartsOver unknowns (with_sort N z Value) q) (sym e) h))
    where
      at : (t : Refined) → PartsOver unknowns (with_sort N (kind t) Value) q → TopOver unknowns N (with_top q t)
      at (int_with p) h = h
      at (bool_with p) h = h
      at unit_type h = tt
      at (function x a b) h = tt
      at (tuple_of ts) h = tt
      at (array_with e p) h = h
      at (data_with d ts m p) h = h
      at (map_with e p) h = h
      at (type_variable i) h = tt

  self_over : (N : Names) (a : Atom) → AtomOver N a → (t : Refined) → Over N t → Over N (self_type t a)
  self_over N a h t o = by (kind t) refl a h
    where
      by : (k : Kind) → kind t ≡ k → (a : Atom) → AtomOver N a → Over N (self_by k a t)
      by number e (of_sum s) h =
          topped_over N number (known (is_atom number (of_sum s)) ∷ []) t e
          ((own_one N.terms Value, sum_within N.terms (with_symbol N.terms Value) (within_one N.terms Value) s h), tt) o
      by number e (of_formula p) h = topped_over N number (known (is_atom number (of_formula p)) ∷ []) t e (tt, tt) o
      by truth_value e (of_sum s) h = topped_over N truth_value (known (is_atom truth_value (of_sum s)) ∷ []) t e (tt, tt) o
      by truth_value e (of_formula p) h =
          topped_over N truth_value (known (is_atom truth_value (of_formula p)) ∷ []) t e
          ((own_one N.flags Value, sorted_within N.terms N.flags N.terms (with_symbol N.flags Value) (λ z w. w) (within_one N.flags Value) p h), tt) o
      by object e (of_sum s) h =
          topped_over N object (known (is_atom object (of_sum s)) ∷ []) t e
          ((own_one N.terms Value, sum_within N.terms (with_symbol N.terms Value) (within_one N.terms Value) s h), tt) o
      by object e (of_formula p) h = topped_over N object (known (is_atom object (of_formula p)) ∷ []) t e (tt, tt) o
      by other e a h = o

  -- ---- twins

  twins_erased : (ts : Refineds) → all_erased ts ≡ all_erased (twins scopes ts)
  twins_erased none = refl
  twins_erased (more t ts) = ap₂ ml.more_types (sym (twin-erased scopes t)) (twins_erased ts)

  kind_twin : (t : Refined) → kind (twin scopes t) ≡ kind t
  kind_twin t = same_kind (twin scopes t) t (twin-erased scopes t)

  top_twin : (t : Refined) → top (twin scopes t) ≡ top t
  top_twin (int_with p) = refl
  top_twin (bool_with p) = refl
  top_twin unit_type = refl
  top_twin (function x a b) = refl
  top_twin (tuple_of ts) = refl
  top_twin (array_with e p) = refl
  top_twin (data_with d ts m p) = refl
  top_twin (map_with e p) = refl
  top_twin (type_variable i) = refl

  twin_top : (N : Names) (t : Refined) → TopOver unknowns N t → TopOver unknowns N (twin scopes t)
  twin_top N t h =
      subst (λ (k : Kind). PartsOver unknowns (with_sort N k Value) (top (twin scopes t))) (sym (kind_twin t))
      (subst (λ (qs : Parts). PartsOver unknowns (with_sort N (kind t) Value) qs) (sym (top_twin t)) h)

  -- a result with the twin of a function's name of its argument
  twin_result : (N : Names) (x : ℕ) (k : Kind) (t : Refined) → (N.terms (symbol_of x) ≡ false) × (N.flags (symbol_of x) ≡ false) → NamesNot x t
      → Over (with_sort N k (symbol_of x)) t → Over (with_sort N k (symbol_of (twin_of x))) (renamed scopes (Some x) (Some (twin_of x)) k t)
  twin_result N x number t e n o = renamed_over N x (twin_of x) number tt t o
  twin_result N x truth_value t e n o = renamed_over N x (twin_of x) truth_value tt t o
  twin_result N x object t e n o = renamed_over N x (twin_of x) object tt t o
  twin_result N x other t e n o = unspoken_over N x (twin_of x) (record { terms = e.0; flags = e.1 }) t n o

  -- symbols that have the names don't lack one
  none_there : (N Q : Symbols) → IsWithin N Q → (x : Symbol) → Q x ≡ false → N x ≡ false
  none_there N Q w x h = by (N x) refl
    where
      by : (b : Bool) → N x ≡ b → b ≡ false
      by true e = absurd (clash (Q x) (w x e) h)
      by false e = refl

  abbrev AreOf : Names → Symbols → Type 0
  AreOf N Q = AreWithin N (of_any_sort Q)

  more_of : (N : Names) (Q : Symbols) → AreOf N Q → (x : Symbol) → AreOf N (with_symbol Q x)
  more_of N Q w x = record { terms = λ y e. within_one Q x y (w.terms y e); flags = λ y e. within_one Q x y (w.flags y e) }

  one_of : (N : Names) (Q : Symbols) → AreOf N Q → (k : Kind) (x : Symbol) → AreOf (with_sort N k x) (with_symbol Q x)
  one_of N Q w number x = record { terms = wider N.terms Q x w.terms; flags = λ y e. within_one Q x y (w.flags y e) }
  one_of N Q w truth_value x = record { terms = λ y e. within_one Q x y (w.terms y e); flags = wider N.flags Q x w.flags }
  one_of N Q w object x = record { terms = wider N.terms Q x w.terms; flags = λ y e. within_one Q x y (w.flags y e) }
  one_of N Q w other x = more_of N Q w x

  mutual
    twin_inside : (N : Names) (Q : Symbols) → AreOf N Q → (t : Refined) → NamesAway Q t → InsideOver g unknowns N t
        → InsideOver g unknowns N (twin scopes t)
    twin_inside N Q w (int_with p) n h = tt
    twin_inside N Q w (bool_with p) n h = tt
    twin_inside N Q w unit_type n h = tt
    twin_inside N Q w (function None a b) n h =
        (twin_inside N Q w a n.0 h.0, twin_top N a h.1, twin_inside N Q w b n.1 h.2, twin_top N b h.3)
    twin_inside N Q w (function (Some x) a b) n h =
        let V : Names = with_sort N (kind a) (symbol_of x) in
        let M = with_symbol Q (symbol_of x) in
        let R = with_symbol M (symbol_of (twin_of x)) in
        let v = more_of V M (one_of N Q w (kind a) (symbol_of x)) (symbol_of (twin_of x)) in
        let q : R (symbol_of x) ≡ true = within_one M (symbol_of (twin_of x)) (symbol_of x) (own_one Q (symbol_of x)) in
        let c : Refined = renamed scopes (Some x) (Some (twin_of x)) (kind a) (twin scopes b) in
        let r : Over (with_sort N (kind a) (symbol_of (twin_of x))) c =
        twin_result N x (kind a) (twin scopes b)
        (none_there N.terms Q w.terms (symbol_of x) n.0, none_there N.flags Q w.flags (symbol_of x) n.0) (not_twin scopes x R q b n.3)
        (twin_inside V R v b n.3 h.2, twin_top V b h.3) in
        let z : Over (with_sort N (kind (twin scopes a)) (symbol_of (twin_of x))) c =
        subst (λ (k : Kind). Over (with_sort N k (symbol_of (twin_of x))) c) (sym (kind_twin a)) r in
        (twin_inside N Q w a n.2 h.0, twin_top N a h.1, z.0, z.1)
    twin_inside N Q w (tuple_of ts) n h = twin_components N N Q w 0 ts n h
    twin_inside N Q w (array_with e p) n h = (twin_inside N Q w e n h.0, twin_top N e h.1)
    twin_inside N Q w (data_with d ts m p) n h =
        (twin_types N Q w ts n h.0, cells_same g unknowns d ts (twins scopes ts) m (twins_erased ts) h.1)
    twin_inside N Q w (map_with e p) n h = (twin_inside N Q w e n h.0, twin_top (with_sort N number (Position 0)) e h.1)
    twin_inside N Q w (type_variable i) n h = tt

    twin_types : (N : Names) (Q : Symbols) → AreOf N Q → (ts : Refineds) → AllNamesAway Q ts → TypesOver g unknowns N ts
        → TypesOver g unknowns N (twins scopes ts)
    twin_types N Q w none n h = tt
    twin_types N Q w (more t ts) n h = (twin_inside N Q w t n.0 h.0, twin_top N t h.1, twin_types N Q w ts n.1 h.2)

    twin_components : (N M : Names) (Q : Symbols) → AreOf N Q → (k : ℕ) (ts : Refineds) → AllNamesAway Q ts → ComponentsOver g unknowns N M k ts
        → ComponentsOver g unknowns N M k (twins scopes ts)
    twin_components N M Q w k none n h = tt
    twin_components N M Q w k (more t ts) n h = (
      twin_inside N Q w t n.0 h.0,
      twin_top M t h.1,
      subst (λ (z : Kind). ComponentsOver g unknowns N (with_sort M z (Position (suc k))) (suc k) (twins scopes ts)) (sym (kind_twin t))
          (twin_components N (with_sort M (kind t) (Position (suc k))) Q w (suc k) ts n.1 h.2),
    )

  twin_over : (N : Names) (Q : Symbols) → AreOf N Q → (t : Refined) → NamesAway Q t → Over N t → Over N (twin scopes t)
  twin_over N Q w t n h = (twin_inside N Q w t n h.0, twin_top N t h.1)

  pub kept : KeepNames g unknowns scopes
  kept = record {
    widening = λ N M w t h. type_more g unknowns N M w t h;
    putting = λ N M θ p t h. type_put g unknowns scopes agree N M θ p t h;
    one = λ N x k a h w. put_one N x k a h w;
    applying = applied_over;
    naming = self_over;
    twinning = twin_over;
  }
