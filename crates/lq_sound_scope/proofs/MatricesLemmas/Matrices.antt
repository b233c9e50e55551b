-- Entries of matrices and tops of arguments, under an assignment.
use Rattle.std.proofs.Common.{◌≡◌, ◌∙◌, ℕ, zero, suc, Bool, true, false, not, ◌&&◌, ◌==◌, cond, [], ◌∷◌, refl, sym, ap, subst}
use Rattle.std.proofs.lemmas.Bool.{eqb-true}
use Rattle.lq_refined_instances.specs.Scopes.{Scope}
use Rattle.lq_logic_predicates.specs.declared.symbol.Symbol.{Symbol}
use Rattle.lq_logic_predicates.specs.declared.symbol.Symbol.TheVariants.{Value, Position}
use Rattle.lq_logic_predicates.specs.Sum.{same_symbol}
use Rattle.lq_refined_types.specs.Parts.Assignment.{parts_under}
use Rattle.lq_refined_types.specs.Types.Refined.{Matrix, Refined, Refineds, none, more, Kind, number, truth_value, object, other, kind, top, type_at, all_erased}
use Rattle.lq_refined_types.specs.Types.Unfolding.{cell, is_again, unfolded_from}
use Rattle.lq_refined_types.proofs.TypesLemmas.Erasing.{unfolded-erased}
use Rattle.lq_text_qualifiers.specs.Faults.Shapes.{Shape, int, bool, array, data_of, shape_of}
use Rattle.lq_text_qualifiers.specs.Faults.Shapes as shape
use Rattle.lq_refined_types.specs.Subtyping.Splitting.{first_of}
use Rattle.lq_refined_types.specs.Subtyping.Subtype.{fields_of}
use Rattle.lq_text_tree.specs.MlType as ml
use Rattle.lq_text_tree.specs.MlType.{MlType, MlTypes}
use Rattle.lq_text_tree.specs.Types.{Signature, count_types, put}
use Rattle.lq_text_tree.specs.Types as types
use Rattle.lq_sound_values.specs.Inhabitants.Truth.{Scene}
use Rattle.lq_sound_values.specs.Inclusion.Symbols.{Symbols, with_symbol, other_than}
use Rattle.lq_sound_values.specs.Runs.Closed.{EachSorted, with_value}
use Rattle.lq_sound_forms.specs.Fields.Fields.{flags_from, terms_from, with_flag, with_term}
use Rattle.lq_refined_templates.specs.Templates.Cells.{field_scope}
use Rattle.lq_refined_templates.specs.Templates.Scopes.{Unknown, with_position}
use Rattle.lq_sound_scope.specs.Scopes.Over.{AreSorted, AreWithin, CellsOver, IsWithin, Names, PartsOver, kind_of, of_any_sort, scope_names, with_sort}
use Rattle.lq_sound_scope.proofs.ScopesLemmas.Assigned.{each_on, each_within, or_cases, parts_over, wider}
use Rattle.lq_sound_scope.proofs.ScopesLemmas.Made.{own_kind}
use Rattle.lq_sound_scope.proofs.ScopesLemmas.Symbols.{IsIn, ScopeIn, in_sort, in_within, same_is, scope_with, within_one, within_sort}
use Rattle.lq_sound_scope.specs.Matrices.Laws.{ArgumentsLackFields, MatricesAreSorted}

-- ---- scopes and fields

-- names that have the symbols of a scope have those of its names
added : (T U : Symbols) (x : Symbol) → IsWithin T U → U x ≡ true → IsWithin (with_symbol T x) U
added T U x w h y e = or_cases (T y) (same_symbol x y) (U y ≡ true) e (w y) (λ k. subst (λ (z : Symbol). U z ≡ true) (same_is x y k) h)

one_within : (N M : Names) → AreWithin N M → (s : Shape) (x : Symbol) → IsIn M s x → AreWithin (with_sort N (kind_of s) x) M
one_within N M w int x h = record { terms = added N.terms M.terms x w.terms h; flags = w.flags }
one_within N M w bool x h = record { terms = w.terms; flags = added N.flags M.flags x w.flags h }
one_within N M w array x h = record { terms = added N.terms M.terms x w.terms h; flags = w.flags }
one_within N M w (data_of d) x h = record { terms = added N.terms M.terms x w.terms h; flags = w.flags }
one_within N M w shape.other x h = w

scope_within : (M : Names) (Γ : Scope) → ScopeIn M Γ → AreWithin (scope_names Γ) M
scope_within M [] h = record { terms = λ x e. absurd (no e); flags = λ x e. absurd (no e) }
  where
    no : false ≡ true → ⊥
    no z = cc
scope_within M (e ∷ Γ) h = one_within (scope_names Γ) M (scope_within M Γ h.1) e.1 e.0 h.0

both_within : (N M V : Names) → AreWithin N M → AreWithin M V → AreWithin N V
both_within N M V w v = record { terms = λ x e. v.terms x (w.terms x e); flags = λ x e. v.flags x (w.flags x e) }

-- the positions of the fields from the j-th on, at their sorts
abbrev FieldsIn : Names → ℕ → MlTypes → ℕ → MlTypes → Type 0
FieldsIn M d us j ml.no_types = Unit {0}
FieldsIn M d us j (ml.more_types f fs) = IsIn M (shape_of (put (types.type_at us) f)) (Position (suc j)) × FieldsIn M d us (suc j) fs

fields_scope : (M : Names) (d : ℕ) (us : MlTypes) (j : ℕ) (fs : MlTypes) (Γ : Scope) → FieldsIn M d us j fs → ScopeIn M Γ → ScopeIn M (field_scope d us j fs Γ)
fields_scope M d us j ml.no_types Γ h w = w
fields_scope M d us j (ml.more_types f fs) Γ h w =
    fields_scope M d us (suc j) fs (cond (is_again d (count_types us) f) Γ (with_position j (shape_of (put (types.type_at us) f)) Γ)) h.1 (by (is_again d (count_types us) f))
  where
    by : (b : Bool) → ScopeIn M (cond b Γ (with_position j (shape_of (put (types.type_at us) f)) Γ))
    by true = w
    by false = scope_with M (Position (suc j)) (shape_of (put (types.type_at us) f)) Γ w h.0

-- the fields' names from the j-th on
abbrev names_from : ℕ → Refineds → Names
names_from j ts = record { terms = terms_from j ts; flags = flags_from j ts }

-- one more field
abbrev one_more : Kind → Names → Symbol → Names
one_more k N x = record { terms = with_term k N.terms x; flags = with_flag k N.flags x }

more_within : (k : Kind) (N : Names) (x : Symbol) → AreWithin N (one_more k N x)
more_within number N x = within_sort N number x
more_within truth_value N x = within_sort N truth_value x
more_within object N x = within_sort N object x
more_within other N x = record { terms = within_one N.terms x; flags = λ y e. e }

more_in : (s : Shape) (N : Names) (x : Symbol) → IsIn (one_more (kind_of s) N x) s x
more_in int N x = in_sort N int x
more_in bool N x = in_sort N bool x
more_in array N x = in_sort N array x
more_in (data_of d) N x = in_sort N (data_of d) x
more_in shape.other N x = tt

first_in : (j : ℕ) (t : Refined) (ts : Refineds) (s : Shape) → kind t ≡ kind_of s → IsIn (names_from j (more t ts)) s (Position (suc j))
first_in j t ts s e = subst (λ (k : Kind). IsIn (one_more k (names_from (suc j) ts) (Position (suc j))) s (Position (suc j))) (sym e) (more_in s (names_from (suc j) ts) (Position (suc j)))

abbrev first_type : MlTypes → MlType
first_type ml.no_types = ml.unit
first_type (ml.more_types t ts) = t

module _ (S : Scene) (d : ℕ) (ts : Refineds) (m : Matrix) (c : ℕ) where
  abbrev fields : ℕ → MlTypes → Refineds
  fields j fs = unfolded_from S.setting.scopes [] d ts m c j fs

  field_kind : (j : ℕ) (f : MlType) → kind (first_of (fields j (ml.more_types f ml.no_types))) ≡ kind_of (shape_of (put (types.type_at (all_erased ts)) f))
  field_kind j f =
      let t : Refined = first_of (fields j (ml.more_types f ml.no_types)) in
      own_kind t ∙ ap (λ (vs : MlTypes). kind_of (shape_of (first_type vs))) (unfolded-erased S.setting.scopes [] d ts m c j (ml.more_types f ml.no_types))

  fields_in : (M : Names) (j : ℕ) (fs : MlTypes) → AreWithin (names_from j (fields j fs)) M → FieldsIn M d (all_erased ts) j fs
  fields_in M j ml.no_types w = tt
  fields_in M j (ml.more_types f fs) w =
      let t : Refined = first_of (fields j (ml.more_types f ml.no_types)) in
      let s : Shape = shape_of (put (types.type_at (all_erased ts)) f) in
      let rest : Refineds = fields (suc j) fs in (
        in_within (names_from j (more t rest)) M w s (Position (suc j)) (first_in j t rest s (field_kind j f)),
        fields_in M (suc j) fs (both_within (names_from (suc j) rest) (names_from j (more t rest)) M (more_within (kind t) (names_from (suc j) rest) (Position (suc j))) w),
      )

  -- the names of an entry's scope are those of the fields
  own_within : (fs : MlTypes) → AreWithin (scope_names (field_scope d (all_erased ts) 0 fs [])) (names_from 0 (fields 0 fs))
  own_within fs =
      let M : Names = names_from 0 (fields 0 fs) in
      scope_within M (field_scope d (all_erased ts) 0 fs [])
      (fields_scope M d (all_erased ts) 0 fs [] (fields_in M 0 fs (record { terms = λ x e. e; flags = λ x e. e })) tt)

-- with v at any sort
value_within : (N M : Names) → AreWithin N M → (k : Kind) → AreWithin (with_sort N k Value) (record { terms = with_value M.terms; flags = with_value M.flags })
value_within N M w number = record { terms = wider N.terms M.terms Value w.terms; flags = λ y e. within_one M.flags Value y (w.flags y e) }
value_within N M w truth_value = record { terms = λ y e. within_one M.terms Value y (w.terms y e); flags = wider N.flags M.flags Value w.flags }
value_within N M w object = record { terms = wider N.terms M.terms Value w.terms; flags = λ y e. within_one M.flags Value y (w.flags y e) }
value_within N M w other = record { terms = λ y e. within_one M.terms Value y (w.terms y e); flags = λ y e. within_one M.flags Value y (w.flags y e) }

and_first : (a b : Bool) → (a && b) ≡ true → a ≡ true
and_first true b h = refl
and_first false b h = h

module _ (unknowns : ℕ → Unknown) (S : Scene) (sorted : AreSorted unknowns S.assignment) where
  entries_of : (d : ℕ) (ts : Refineds) (all m : Matrix) → CellsOver S.setting.constructors unknowns d ts m → (c j i : ℕ)
      → let fs = unfolded_from S.setting.scopes [] d ts all c 0 (fields_of (S.setting.constructors c)) in
      EachSorted (with_value (terms_from 0 fs)) (with_value (flags_from 0 fs)) (parts_under S.assignment (cell m c j i))
  entries_of d ts all [] h c j i = tt
  entries_of d ts all (e ∷ m) h c j i = by (e.constructor == c && (e.field == j && e.parameter == i)) refl (entries_of d ts all m h.1 c j i)
    where
      by : (b : Bool) → (e.constructor == c && (e.field == j && e.parameter == i)) ≡ b
          → EachSorted (with_value (terms_from 0 (unfolded_from S.setting.scopes [] d ts all c 0 (fields_of (S.setting.constructors c)))))
          (with_value (flags_from 0 (unfolded_from S.setting.scopes [] d ts all c 0 (fields_of (S.setting.constructors c)))))
          (parts_under S.assignment (cell m c j i))
          → EachSorted (with_value (terms_from 0 (unfolded_from S.setting.scopes [] d ts all c 0 (fields_of (S.setting.constructors c)))))
          (with_value (flags_from 0 (unfolded_from S.setting.scopes [] d ts all c 0 (fields_of (S.setting.constructors c)))))
          (parts_under S.assignment (cond b e.parts (cell m c j i)))
      by false f k = k
      by true f k =
          let own : Names = scope_names (field_scope d (all_erased ts) 0 (fields_of (S.setting.constructors c)) []) in
          let q : Kind = kind (type_at ts e.parameter) in
          let N : Names = with_sort own q Value in
          let M : Names = names_from 0 (unfolded_from S.setting.scopes [] d ts all c 0 (fields_of (S.setting.constructors c))) in
          let w : AreWithin N (record { terms = with_value M.terms; flags = with_value M.flags }) =
          value_within own M (own_within S d ts all c (fields_of (S.setting.constructors c))) q in
          let o : PartsOver unknowns N e.parts =
          subst (λ (z : ℕ). PartsOver unknowns (with_sort (scope_names (field_scope d (all_erased ts) 0 (fields_of (S.setting.constructors z)) [])) (kind (type_at ts e.parameter)) Value) e.parts)
          (eqb-true e.constructor c (and_first (e.constructor == c) (e.field == j && e.parameter == i) f)) h.0 in
          each_within N.terms N.flags (with_value M.terms) (with_value M.flags) w.terms w.flags (parts_under S.assignment e.parts)
          (parts_over unknowns S.assignment sorted N e.parts o)

pub entries_sorted : MatricesAreSorted
entries_sorted unknowns S sorted d ts m h c j i = entries_of unknowns S sorted d ts m m h c j i

-- ---- arguments

-- names that aren't this one
apart_from : (N : Symbols) (x : Symbol) → N x ≡ false → IsWithin N (other_than x)
apart_from N x h y e = by (same_symbol x y) refl
  where
    by : (b : Bool) → same_symbol x y ≡ b → not b ≡ true
    by false f = refl
    by true f = absurd (no (sym h ∙ ap N (same_is x y f) ∙ e))
      where
        no : false ≡ true → ⊥
        no z = cc

with_value_apart : (N : Symbols) (j : ℕ) → N (Position (suc j)) ≡ false → IsWithin (with_symbol N Value) (other_than (Position (suc j)))
with_value_apart N j h = added N (other_than (Position (suc j))) Value (apart_from N (Position (suc j)) h) refl

sort_apart : (N : Symbols) (j : ℕ) → N (Position (suc j)) ≡ false → (k : Kind)
    → IsWithin (with_sort (of_any_sort N) k Value).terms (other_than (Position (suc j))) × IsWithin (with_sort (of_any_sort N) k Value).flags (other_than (Position (suc j)))
sort_apart N j h number = (with_value_apart N j h, apart_from N (Position (suc j)) h)
sort_apart N j h truth_value = (apart_from N (Position (suc j)) h, with_value_apart N j h)
sort_apart N j h object = (with_value_apart N j h, apart_from N (Position (suc j)) h)
sort_apart N j h other = (apart_from N (Position (suc j)) h, apart_from N (Position (suc j)) h)

pub arguments_lack : ArgumentsLackFields
arguments_lack g unknowns S sorted N apart none h i j = tt
arguments_lack g unknowns S sorted N apart (more t ts) h zero j =
    let M : Names = with_sort (of_any_sort N) (kind t) Value in
    let w : IsWithin M.terms (other_than (Position (suc j))) × IsWithin M.flags (other_than (Position (suc j))) = sort_apart N j (apart j) (kind t) in
    each_on M.terms M.flags (other_than (Position (suc j))) w.0 w.1 (parts_under S.assignment (top t)) (parts_over unknowns S.assignment sorted M (top t) h.1)
arguments_lack g unknowns S sorted N apart (more t ts) h (suc i) j = arguments_lack g unknowns S sorted N apart ts h.2 i j
