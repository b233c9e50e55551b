-- Parts over more names, hypotheses of environments, and lists of implications.
use Rattle.std.proofs.Common.{◌≡◌, ℕ, Bool, true, false, cond, List, [], ◌∷◌, ◌++◌, refl, subst}
use Rattle.std.specs.List.{All}
use Rattle.std.proofs.lemmas.List.Elements.{All-nil, All-cons}
use Rattle.lq_refined_types.specs.Parts.Part.{Parts, is_truth, parts_by}
use Rattle.lq_refined_types.specs.Parts.Substitution.{swap}
use Rattle.lq_logic_predicates.specs.declared.symbol.Symbol.{Symbol}
use Rattle.lq_logic_predicates.specs.declared.symbol.Symbol.TheVariants.{Value}
use Rattle.lq_refined_types.specs.Types.Context.{Context, guard, name}
use Rattle.lq_refined_types.specs.Types.Operations.{atom_of}
use Rattle.lq_refined_types.specs.Types.Refined.{Refined, unit_type, map_with, Kind, number, truth_value, object, other, kind, top}
use Rattle.lq_sound_values.specs.Inclusion.Symbols.{Symbols, with_symbol}
use Rattle.lq_sound_values.specs.Runs.Closed.{names_in}
use Rattle.lq_refined_types.specs.Subtyping.Implication.{Implication, Origin, goals}
use Rattle.lq_refined_types.specs.Subtyping.Splitting.{tops}
use Rattle.lq_refined_types.specs.Subtyping.Subtype.{Setting, facts, with_guards}
use Rattle.lq_refined_templates.specs.Templates.Scopes.{Unknown}
use Rattle.lq_sound_scope.specs.Scopes.Over.{AreWithin, IsWithin, Names, PartsOver, TopOver, of_any_sort, with_sort}
use Rattle.lq_sound_scope.proofs.ScopesLemmas.Assigned.{wider}
use Rattle.lq_sound_scope.proofs.ScopesLemmas.Symbols.{own_one, within_one, within_sort}
use Rattle.lq_sound_scope.specs.Operations.Laws.{KeepNames}
use Rattle.lq_sound_scope.specs.Operations.Puts.{AtomOver, HasKind}
use Rattle.lq_sound_scope.specs.Splits.Bound.{EntriesOver, Extends, one_guard, one_name, IsBoundFrom, names_and_value, names_of}

-- ---- names

pub both_within : (N M V : Names) → AreWithin N M → AreWithin M V → AreWithin N V
both_within N M V w v = record { terms = λ x e. v.terms x (w.terms x e); flags = λ x e. v.flags x (w.flags x e) }

pub any_within : (N M : Symbols) → IsWithin N M → AreWithin (of_any_sort N) (of_any_sort M)
any_within N M w = record { terms = w; flags = w }

pub sort_more : (N M : Names) → AreWithin N M → (k : Kind) (x : Symbol) → AreWithin (with_sort N k x) (with_sort M k x)
sort_more N M w number x = record { terms = wider N.terms M.terms x w.terms; flags = w.flags }
sort_more N M w truth_value x = record { terms = w.terms; flags = wider N.flags M.flags x w.flags }
sort_more N M w object x = record { terms = wider N.terms M.terms x w.terms; flags = w.flags }
sort_more N M w other x = w

-- one more at its sort is one more of any sort
pub sort_any : (N : Symbols) (k : Kind) (x : Symbol) → AreWithin (with_sort (of_any_sort N) k x) (of_any_sort (with_symbol N x))
sort_any N number x = record { terms = λ y e. e; flags = within_one N x }
sort_any N truth_value x = record { terms = within_one N x; flags = λ y e. e }
sort_any N object x = record { terms = λ y e. e; flags = within_one N x }
sort_any N other x = record { terms = within_one N x; flags = within_one N x }

-- a name as what stands for a value of a kind
atom_there : (N : Symbols) (k : Kind) (x : Symbol) → N x ≡ true → AtomOver (of_any_sort N) (atom_of k x)
atom_there N number x h = h
atom_there N truth_value x h = h
atom_there N object x h = h
atom_there N other x h = h

atom_has : (k : Kind) (x : Symbol) → HasKind k (atom_of k x)
atom_has number x = tt
atom_has truth_value x = tt
atom_has object x = tt
atom_has other x = tt

pub name_within : (Γ : Context) (x : Symbol) (t : Refined) → IsWithin (names_in Γ) (names_in (name x t ∷ Γ))
name_within Γ x t y h = within_one (names_in Γ) x y h

pub own_name : (Γ : Context) (x : Symbol) (t : Refined) → names_in (name x t ∷ Γ) x ≡ true
own_name Γ x t = own_one (names_in Γ) x

module _ (P : Setting) (unknowns : ℕ → Unknown) (keep : KeepNames P.constructors unknowns P.scopes) where
  -- ---- parts

  pub parts_wide : (N M : Names) → AreWithin N M → (qs : Parts) → PartsOver unknowns N qs → PartsOver unknowns M qs
  parts_wide N M w qs h = (keep.widening N M w (map_with unit_type qs) ((tt, tt), h)).1

  pub parts_joined : (N : Names) (ps qs : Parts) → PartsOver unknowns N ps → PartsOver unknowns N qs → PartsOver unknowns N (ps ++ qs)
  parts_joined N [] qs h w = w
  parts_joined N (p ∷ ps) qs h w = (h.0, parts_joined N ps qs h.1 w)

  -- a name for v
  pub parts_value : (N : Symbols) (k : Kind) (x : Symbol) → N x ≡ true → (qs : Parts) → PartsOver unknowns (with_sort (of_any_sort N) k Value) qs
      → PartsOver unknowns (of_any_sort N) (parts_by P.scopes (swap Value (atom_of k x) ∷ []) qs)
  parts_value N k x e qs h =
      let put = keep.one (of_any_sort N) Value k (atom_of k x) (atom_there N k x e) (atom_has k x) in
      (keep.putting (of_any_sort N) (with_sort (of_any_sort N) k Value) (swap Value (atom_of k x) ∷ []) put (map_with unit_type qs) ((tt, tt), h)).1

  pub top_wide : (N M : Names) → AreWithin N M → (t : Refined) → TopOver unknowns N t → TopOver unknowns M t
  top_wide N M w t h = parts_wide (with_sort N (kind t) Value) (with_sort M (kind t) Value) (sort_more N M w (kind t) Value) (top t) h

  -- ---- environments

  -- the hypotheses of one over its names speak of these
  pub entries_facts : (N : Names) (Γ : Context) → EntriesOver P unknowns N Γ → PartsOver unknowns (names_of Γ) (facts P Γ)
  entries_facts N [] h = tt
  entries_facts N (name x t ∷ Γ) h =
      let M = names_in (name x t ∷ Γ) in
      let more = any_within (names_in Γ) M (name_within Γ x t) in
      parts_joined (of_any_sort M) (facts P Γ) (parts_by P.scopes (swap Value (atom_of (kind t) x) ∷ []) (top t))
      (parts_wide (names_of Γ) (of_any_sort M) more (facts P Γ) (entries_facts N Γ h.2))
      (parts_value M (kind t) x (own_name Γ x t) (top t) (top_wide (names_of Γ) (of_any_sort M) more t h.1))
  entries_facts N (guard p ∷ Γ) h =
      parts_wide (names_of Γ) (names_of (guard p ∷ Γ)) (any_within (names_in Γ) (names_in (guard p ∷ Γ)) (λ y k. k)) (facts P (guard p ∷ Γ))
      (parts_joined (names_of Γ) (facts P Γ) (p ∷ []) (entries_facts N Γ h.1) (h.0, tt))

  -- guards, which may speak of more names
  pub guards_facts : (N : Names) (qs : Parts) (Γ : Context) → PartsOver unknowns N (facts P Γ) → PartsOver unknowns N qs
      → PartsOver unknowns N (facts P (with_guards qs Γ))
  guards_facts N [] Γ h w = h
  guards_facts N (q ∷ qs) Γ h w = guards_facts N qs (guard q ∷ Γ) (parts_joined N (facts P Γ) (q ∷ []) h (w.0, tt)) w.1

  -- Environments with more entries than one, for names of these.
  module _ (X : Symbols) (start : Context) where
    -- one whose hypotheses speak of its names
    abbrev pub IsEnvironment : Context → Type 0
    IsEnvironment Γ = Extends X start Γ × PartsOver unknowns (names_of Γ) (facts P Γ)

    -- one more name
    pub with_name : (Γ : Context) (x : Symbol) (t : Refined) → IsEnvironment Γ → X x ≡ true → TopOver unknowns (names_of Γ) t
        → IsEnvironment (name x t ∷ Γ)
    with_name Γ x t h e w =
        let M = names_in (name x t ∷ Γ) in
        let more = any_within (names_in Γ) M (name_within Γ x t) in (
          one_name e h.0,
          parts_joined (of_any_sort M) (facts P Γ) (parts_by P.scopes (swap Value (atom_of (kind t) x) ∷ []) (top t))
              (parts_wide (names_of Γ) (of_any_sort M) more (facts P Γ) h.1)
              (parts_value M (kind t) x (own_name Γ x t) (top t) (top_wide (names_of Γ) (of_any_sort M) more t w)),
        )

    pub guards_extend : (qs : Parts) (Γ : Context) → Extends X start Γ → Extends X start (with_guards qs Γ)
    guards_extend [] Γ h = h
    guards_extend (q ∷ qs) Γ h = guards_extend qs (guard q ∷ Γ) (one_guard h)

    -- ---- lists of implications

    abbrev IsB : Implication → Type 0
    IsB = IsBoundFrom P unknowns X start

    abbrev pub AllBound : List Implication → Type 0
    AllBound is = All IsB is

    pub goals_bound : (Γ : Context) (k : Kind) (o : Origin) (ls qs : Parts) → Extends X start Γ
        → PartsOver unknowns (names_and_value Γ k) (facts P Γ)
        → PartsOver unknowns (names_and_value Γ k) ls → PartsOver unknowns (names_and_value Γ k) qs → AllBound (goals (facts P Γ) ls qs o)
    goals_bound Γ k o ls [] e h l g = All-nil IsB
    goals_bound Γ k o ls (q ∷ qs) e h l g = by (is_truth q) (goals_bound Γ k o ls qs e h l g.1)
      where
        own : Implication
        own = record { hypotheses = facts P Γ; left = ls; goal = q; origin = o }

        by : (b : Bool) → AllBound (goals (facts P Γ) ls qs o) → AllBound (cond b (goals (facts P Γ) ls qs o) (own ∷ goals (facts P Γ) ls qs o))
        by true rest = rest
        by false rest =
            All-cons IsB own (goals (facts P Γ) ls qs o) (Γ, (k, e, record { are = refl; hypotheses = h; left = l; goal = g.0 })) rest

    -- of the tops of two types
    pub tops_bound : (Γ : Context) (o : Origin) (l r : Refined) → IsEnvironment Γ → TopOver unknowns (names_of Γ) l
        → TopOver unknowns (names_of Γ) r → kind r ≡ kind l → AllBound (tops P o Γ l r)
    tops_bound Γ o l r h w v e =
        goals_bound Γ (kind l) o (top l) (top r) h.0
        (parts_wide (names_of Γ) (names_and_value Γ (kind l)) (within_sort (names_of Γ) (kind l) Value) (facts P Γ) h.1) w
        (subst (λ (k : Kind). PartsOver unknowns (names_and_value Γ k) (top r)) e v)
