-- The simple types of forms, of renamed types and of rows.
use Rattle.std.proofs.Common.{◌≡◌, ℕ, zero, suc, ◌<◌, Bool, true, false, cond, ◌==◌, List, [], ◌∷◌, Option, Some, None, get_or, length, refl, ap, ap₂, arith}
use Rattle.lq_refined_types.specs.Parts.Part.{Parts, Scopes}
use Rattle.lq_refined_types.specs.Parts.Substitution.{swap, Subst}
use Rattle.lq_text_tree.specs.MlType.{MlTypes, more_types}
use Rattle.lq_text_tree.specs.MlType as ml
use Rattle.lq_refined_types.specs.Types.Operations.{atom_of, symbol_of, type_by, types_by, renamed}
use Rattle.lq_refined_types.specs.Types.Refined.{Refined, int_with, bool_with, unit_type, function, tuple_of, array_with, data_with, map_with, type_variable, Refineds, none, more, Kind, erased, all_erased}
use Rattle.lq_refined_subtyping.specs.declared.table.forms.Form.{Form}
use Rattle.lq_refined_subtyping.specs.declared.table.forms.Form.TheVariants as form
use Rattle.lq_refined_subtyping.specs.Table.Forms.{at, each, form_type}

pub erased-top : (all : List Refined) (f : Form) (p q : Parts) → erased (form_type all f p) ≡ erased (form_type all f q)
erased-top all form.Int p q = refl
erased-top all form.Bool p q = refl
erased-top all form.Unit p q = refl
erased-top all (form.Function x a b) p q = refl
erased-top all (form.Tuple ts) p q = refl
erased-top all (form.Array e) p q = refl
erased-top all (form.Data d ts m) p q = refl
erased-top all (form.Map e) p q = refl
erased-top all (form.Variable i) p q = refl

pub same-name : (d e : ℕ) (ss us : MlTypes) → ml.named d ss ≡ ml.named e us → d ≡ e
same-name d e ss us h = cc

module _ (scopes : Scopes) where
  mutual
    erased-by : (θ : Subst) (t : Refined) → erased (type_by scopes θ t) ≡ erased t
    erased-by θ (int_with p) = refl
    erased-by θ (bool_with p) = refl
    erased-by θ unit_type = refl
    erased-by θ (function x a b) = ap₂ ml.arrow (erased-by θ a) (erased-by θ b)
    erased-by θ (tuple_of ts) = ap ml.tuple (all_erased-by θ ts)
    erased-by θ (array_with e p) = ap ml.array (erased-by θ e)
    erased-by θ (data_with d ts m p) = ap (ml.named d) (all_erased-by θ ts)
    erased-by θ (map_with e p) = ap ml.map_of (erased-by θ e)
    erased-by θ (type_variable i) = refl

    all_erased-by : (θ : Subst) (ts : Refineds) → all_erased (types_by scopes θ ts) ≡ all_erased ts
    all_erased-by θ none = refl
    all_erased-by θ (more t ts) = ap₂ more_types (erased-by θ t) (all_erased-by θ ts)

  erased-either : (b : Bool) (t u : Refined) → erased u ≡ erased t → erased (cond b t u) ≡ erased t
  erased-either true t u e = refl
  erased-either false t u e = e

  pub erased-renamed : (x z : Option ℕ) (k : Kind) (t : Refined) → erased (renamed scopes x z k t) ≡ erased t
  erased-renamed None z k t = refl
  erased-renamed (Some x) None k t = refl
  erased-renamed (Some x) (Some z) k t =
      let θ : Subst = swap (symbol_of x) (atom_of k (symbol_of z)) ∷ [] in erased-either (x == z) t (type_by scopes θ t) (erased-by θ t)

-- ---- rows of types of the same simple types

pub same-length : (all : List Refined) (ls rs : List ℕ) → all_erased (each all ls) ≡ all_erased (each all rs) → length ls ≡ length rs
same-length all [] [] e = refl
same-length all [] (r ∷ rs) e = absurd (cc)
same-length all (l ∷ ls) [] e = absurd (cc)
same-length all (l ∷ ls) (r ∷ rs) e = let h : all_erased (each all ls) ≡ all_erased (each all rs) = cc in ap suc (same-length all ls rs h)

pub same-at : (all : List Refined) (ls rs : List ℕ) (i d : ℕ) → all_erased (each all ls) ≡ all_erased (each all rs) → i < length ls
    → erased (at all (get_or ls i d)) ≡ erased (at all (get_or rs i d))
same-at all [] rs i d e h = absurd (omega arith)
same-at all (l ∷ ls) [] i d e h = absurd (cc)
same-at all (l ∷ ls) (r ∷ rs) zero d e h = cc
same-at all (l ∷ ls) (r ∷ rs) (suc i) d e h =
    let k : all_erased (each all ls) ≡ all_erased (each all rs) = cc in same-at all ls rs i d k (omega arith)
