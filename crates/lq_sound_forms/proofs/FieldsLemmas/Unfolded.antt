-- The fields of a constructor's value, with the matrix pushed into recursive ones.
use Rattle.std.proofs.Common.{◌≡◌, ◌↔◌, ℕ, suc, Bool, true, false, cond, [], ◌∷◌, ◌++◌, refl, sym, ap, subst}
use Rattle.lq_logic_predicates.specs.ClosedImplication.{EachTrueIn}
use Rattle.lq_logic_predicates.specs.declared.symbol.Symbol.TheVariants as symbol
use Rattle.lq_meaning_steps.specs.Model.Core.{Value, Values, no_values, more_values}
use Rattle.lq_refined_types.specs.Parts.Assignment.{parts_under}
use Rattle.lq_refined_types.specs.Parts.Part.{Parts, Scopes, parts_by}
use Rattle.lq_refined_types.specs.Parts.Substitution.{Subst}
use Rattle.lq_text_tree.specs.MlType as ml
use Rattle.lq_text_tree.specs.MlType.{MlType, MlTypes}
use Rattle.lq_text_tree.specs.Types.{count_types}
use Rattle.lq_refined_types.specs.Types.Refined.{Matrix, Refined, Refineds, int_with, bool_with, unit_type, function, tuple_of, array_with, data_with, map_with, type_variable, none, more, count, strengthened}
use Rattle.lq_refined_types.specs.Types.Unfolding.{bare, is_again, cell, unfolded_from}
use Rattle.lq_refined_types.specs.Types.Unfolding as open_types
use Rattle.lq_sound_values.specs.Inhabitants.Truth.{Givens, given, meaning_of, Scene, AreTrue}
use Rattle.lq_sound_values.specs.Inhabitants.Shut.{closed, shut, also, Shuts, shut_all, count_shuts, form, tops, pushed, field_by, unfolded}
use Rattle.lq_sound_values.specs.Inhabitants.Inhabits.{Table}
use Rattle.lq_sound_values.specs.Inhabitants.Below.{Below, AllBelow}
use Rattle.lq_sound_values.specs.Inhabitants.Datatypes.{AreCovariant, DatatypesFit}
use Rattle.lq_sound_values.proofs.InhabitantsLemmas.Topped.{tops_append, tops_first, for_top_true}
use Rattle.lq_sound_values.proofs.InhabitantsLemmas.Keeping.{AllFit}
use Rattle.lq_sound_values.proofs.InclusionLemmas.Truths.{each_first, each_second, under-append, parts_append}
use Rattle.lq_sound_forms.specs.Fields.Fields.{HasNoEntry, HaveNoEntries, IsMatrixFor}
use Rattle.lq_sound_forms.proofs.FieldsLemmas.Bare.{moves_self, bare_forth, bare_back}

parts_left : (S : Scene) (σ : Givens) (ps qs : Parts) → AreTrue S σ (ps ++ qs) → AreTrue S σ ps
parts_left S σ ps qs h =
    each_first (meaning_of S.objects σ) (parts_under S.assignment ps) (parts_under S.assignment qs) (subst (EachTrueIn (meaning_of S.objects σ)) (under-append S.assignment ps qs) h)

parts_right : (S : Scene) (σ : Givens) (ps qs : Parts) → AreTrue S σ (ps ++ qs) → AreTrue S σ qs
parts_right S σ ps qs h =
    each_second (meaning_of S.objects σ) (parts_under S.assignment ps) (parts_under S.assignment qs) (subst (EachTrueIn (meaning_of S.objects σ)) (under-append S.assignment ps qs) h)

-- ---- an argument with more parts

module _ (S : Scene) (κ σ : Givens) (by : Shuts) (q r : Parts) where
  also_forth : (T : Refined) → ((u : Value) → AreTrue S (given symbol.Value u ∷ κ) q → AreTrue S (given symbol.Value u ∷ σ) r) → Below S (also (shut σ by T) (closed κ q ∷ [])) (shut σ by (strengthened r T))
  also_forth (int_with p) f n W v h = (h.0, (parts_append S (given symbol.Value v ∷ σ) p r h.1.0 (f v h.1.1.0), tt))
  also_forth (bool_with p) f n W v h = (h.0, (parts_append S (given symbol.Value v ∷ σ) p r h.1.0 (f v h.1.1.0), tt))
  also_forth unit_type f n W v h = (h.0, tt)
  also_forth (function x a b) f n W v h = (h.0, tt)
  also_forth (tuple_of ts) f n W v h = (h.0, tt)
  also_forth (array_with e p) f n W v h = (h.0, (parts_append S (given symbol.Value v ∷ σ) p r h.1.0 (f v h.1.1.0), tt))
  also_forth (data_with d ts m p) f n W v h = (h.0, (parts_append S (given symbol.Value v ∷ σ) p r h.1.0 (f v h.1.1.0), tt))
  also_forth (map_with e p) f n W v h = (h.0, tt)
  also_forth (type_variable a) f n W v h = (h.0, tops_first S v (tops (shut σ by (type_variable a))) _ h.1)

  -- the parts of a variable's type are none
  abbrev NoneAt : Refined → Type 0
  NoneAt (type_variable a) = q ≡ []
  NoneAt _ = Unit {0}

  also_back : (T : Refined) → NoneAt T → ((u : Value) → AreTrue S (given symbol.Value u ∷ σ) r → AreTrue S (given symbol.Value u ∷ κ) q) → Below S (shut σ by (strengthened r T)) (also (shut σ by T) (closed κ q ∷ []))
  also_back (int_with p) e f n W v h =
      (h.0, (parts_left S (given symbol.Value v ∷ σ) p r h.1.0, (f v (parts_right S (given symbol.Value v ∷ σ) p r h.1.0), tt)))
  also_back (bool_with p) e f n W v h =
      (h.0, (parts_left S (given symbol.Value v ∷ σ) p r h.1.0, (f v (parts_right S (given symbol.Value v ∷ σ) p r h.1.0), tt)))
  also_back unit_type e f n W v h = (h.0, tt)
  also_back (function x a b) e f n W v h = (h.0, tt)
  also_back (tuple_of ts) e f n W v h = (h.0, tt)
  also_back (array_with c p) e f n W v h =
      (h.0, (parts_left S (given symbol.Value v ∷ σ) p r h.1.0, (f v (parts_right S (given symbol.Value v ∷ σ) p r h.1.0), tt)))
  also_back (data_with d ts m p) e f n W v h =
      (h.0, (parts_left S (given symbol.Value v ∷ σ) p r h.1.0, (f v (parts_right S (given symbol.Value v ∷ σ) p r h.1.0), tt)))
  also_back (map_with c p) e f n W v h = (h.0, tt)
  also_back (type_variable a) e f n W v h =
      (h.0, tops_append S v (tops (shut σ by (type_variable a))) _ h.1 (for_top_true S v (form (shut σ by (type_variable a))) (closed κ q ∷ []) (empty q e, tt)))
    where
      empty : (p : Parts) → p ≡ [] → AreTrue S (given symbol.Value v ∷ κ) p
      empty p is = subst (AreTrue S (given symbol.Value v ∷ κ)) (sym is) tt

-- ---- all arguments, and the fields

module _ (fit : DatatypesFit) (S : Scene) (cov : AreCovariant S.setting.constructors) (d : ℕ) (Ts : Refineds) (M : Matrix) (c : ℕ) (θ : Subst) (σ κ : Givens) (by : Shuts) where
  -- an entry is true with what is put for fields where it is at the fields' values
  abbrev Entry : ℕ → ℕ → Type 0
  Entry j i =
      (u : Value) → (AreTrue S (given symbol.Value u ∷ κ) (cell M c j i) → AreTrue S (given symbol.Value u ∷ σ) (parts_by S.setting.scopes θ (cell M c j i))) × (AreTrue S (given symbol.Value u ∷ σ) (parts_by S.setting.scopes θ (cell M c j i)) → AreTrue S (given symbol.Value u ∷ κ) (cell M c j i))

  none_at : (j i : ℕ) (T : Refined) → HasNoEntry S d Ts M c j i T → NoneAt S κ σ by (cell M c j i) (parts_by S.setting.scopes θ (cell M c j i)) T
  none_at j i (type_variable a) h = h
  none_at j i (int_with p) h = tt
  none_at j i (bool_with p) h = tt
  none_at j i unit_type h = tt
  none_at j i (function x a b) h = tt
  none_at j i (tuple_of ts) h = tt
  none_at j i (array_with e p) h = tt
  none_at j i (data_with b ts m p) h = tt
  none_at j i (map_with e p) h = tt

  pushed_forth : (j i : ℕ) (Us : Refineds) → ((k : ℕ) → Entry j k) → AllBelow S (pushed κ M c j i (shut_all σ by Us)) (shut_all σ by (open_types.pushed S.setting.scopes θ M c j i Us))
  pushed_forth j i none f = tt
  pushed_forth j i (more U Us) f =
      (also_forth S κ σ by (cell M c j i) (parts_by S.setting.scopes θ (cell M c j i)) U (λ u. (f i u).0), pushed_forth j (suc i) Us f)

  pushed_back : (j i : ℕ) (Us : Refineds) → HaveNoEntries S d Ts M c j i Us → ((k : ℕ) → Entry j k) → AllBelow S (shut_all σ by (open_types.pushed S.setting.scopes θ M c j i Us)) (pushed κ M c j i (shut_all σ by Us))
  pushed_back j i none e f = tt
  pushed_back j i (more U Us) e f =
      (also_back S κ σ by (cell M c j i) (parts_by S.setting.scopes θ (cell M c j i)) U (none_at j i U e.0) (λ u. (f i u).1), pushed_back j (suc i) Us e.1 f)

  count-shut : (Us : Refineds) → count_shuts (shut_all σ by Us) ≡ count Us
  count-shut none = refl
  count-shut (more U Us) = ap suc (count-shut Us)

  module _ (fs : MlTypes) (m : IsMatrixFor S d Ts M c fs) (entries : (j k : ℕ) → Entry j k) where
    abbrev As : Shuts
    As = shut_all σ by Ts

    abbrev opened : ℕ → MlType → Bool → Refined
    opened j f b = cond b (data_with d (open_types.pushed S.setting.scopes θ M c j 0 Ts) M []) (bare Ts f)

    field_forth : (j : ℕ) (f : MlType) → (x y : Bool) → x ≡ y → Below S (field_by x κ d As M c j f) (shut σ by (opened j f y))
    field_forth j f true true e n W v h =
        let r = fit S cov d (pushed κ M c j 0 As) (shut_all σ by (open_types.pushed S.setting.scopes θ M c j 0 Ts)) M M (λ b k vs is tops a i u arg x. x) (pushed_forth j 0 Ts (entries j)) n W v h in
        (r.0, (tt, tt))
    field_forth j f false false e n W v h = bare_forth fit S cov σ by Ts m.tops f [] σ (moves_self fit S cov σ by Ts m.tops) n W v h
    field_forth j f true false e n W v h = absurd (cc)
    field_forth j f false true e n W v h = absurd (cc)

    field_back : (j : ℕ) (f : MlType) → (x y : Bool) → x ≡ y → Below S (shut σ by (opened j f y)) (field_by x κ d As M c j f)
    field_back j f true true e n W v h =
        let r = fit S cov d (shut_all σ by (open_types.pushed S.setting.scopes θ M c j 0 Ts)) (pushed κ M c j 0 As) M M (λ b k vs is tops a i u arg x. x) (pushed_back j 0 Ts (m.variables j) (entries j)) n W v (h.0, tt) in
        (r.0, tt)
    field_back j f false false e n W v h = bare_back fit S cov σ by Ts m.tops f [] σ (moves_self fit S cov σ by Ts m.tops) n W v h
    field_back j f true false e n W v h = absurd (cc)
    field_back j f false true e n W v h = absurd (cc)

    same_test : (f : MlType) → is_again d (count_shuts As) f ≡ is_again d (count Ts) f
    same_test f = ap (λ k. is_again d k f) (count-shut Ts)

    rows_forth : (gs : MlTypes) → (j n : ℕ) (W : Table) (ws : Values) → AllFit S n W (unfolded κ d As M c j gs) ws → AllFit S n W (shut_all σ by (unfolded_from S.setting.scopes θ d Ts M c j gs)) ws
    rows_forth ml.no_types j n W no_values h = h
    rows_forth ml.no_types j n W (more_values v vs) h = h
    rows_forth (ml.more_types f gs) j n W no_values h = absurd h
    rows_forth (ml.more_types f gs) j n W (more_values v vs) h =
        (field_forth j f (is_again d (count_shuts As) f) (is_again d (count Ts) f) (same_test f) n W v h.0, rows_forth gs (suc j) n W vs h.1)

    rows_back : (gs : MlTypes) → (j n : ℕ) (W : Table) (ws : Values) → AllFit S n W (shut_all σ by (unfolded_from S.setting.scopes θ d Ts M c j gs)) ws → AllFit S n W (unfolded κ d As M c j gs) ws
    rows_back ml.no_types j n W no_values h = h
    rows_back ml.no_types j n W (more_values v vs) h = h
    rows_back (ml.more_types f gs) j n W no_values h = absurd h
    rows_back (ml.more_types f gs) j n W (more_values v vs) h =
        (field_back j f (is_again d (count_shuts As) f) (is_again d (count Ts) f) (same_test f) n W v h.0, rows_back gs (suc j) n W vs h.1)

    pub fields_fit : (n : ℕ) (W : Table) (vs : Values) → AllFit S n W (unfolded κ d As M c 0 fs) vs ↔ AllFit S n W (shut_all σ by (open_types.unfolded S.setting.scopes θ d Ts M c fs)) vs
    fields_fit n W vs = (rows_forth fs 0 n W vs, rows_back fs 0 n W vs)

-- ---- as many fields as types

pub count-unfolded : (scopes : Scopes) (θ : Subst) (d : ℕ) (Ts : Refineds) (M : Matrix) (c j : ℕ) (fs : MlTypes) → count (unfolded_from scopes θ d Ts M c j fs) ≡ count_types fs
count-unfolded scopes θ d Ts M c j ml.no_types = refl
count-unfolded scopes θ d Ts M c j (ml.more_types f fs) = ap suc (count-unfolded scopes θ d Ts M c (suc j) fs)
