-- Simple types as trees of numbers, from which they can be told: so two of them are equal in at most one way.
use Rattle.std.proofs.Common.{◌≡◌, ◌∙◌, ℕ, zero, suc, refl, sym, ap, ap₂}
use Rattle.std.specs.Coded.{Coded, Coded-set}
use base.Stored.{Gv, gnil, gnum, gcons}
use Rattle.lq_text_tree.specs.MlType.{MlType, int, bool, unit, var, arrow, tuple, array, named, map_of, MlTypes, no_types, more_types}

abbrev mutual
  code : MlType → Gv
  code int = gnum 0
  code bool = gnum 1
  code unit = gnil
  code (var i) = gcons (gnum 0) (gnum i)
  code (arrow a b) = gcons (gnum 1) (gcons (code a) (code b))
  code (tuple ts) = gcons (gnum 2) (codes ts)
  code (array a) = gcons (gnum 3) (code a)
  code (named d ts) = gcons (gnum 4) (gcons (gnum d) (codes ts))
  code (map_of a) = gcons (gnum 5) (code a)

  codes : MlTypes → Gv
  codes no_types = gnil
  codes (more_types t ts) = gcons (code t) (codes ts)

abbrev number : Gv → ℕ
number (gnum n) = n
number _ = 0

abbrev mutual
  decoded : Gv → MlType
  decoded (gnum zero) = int
  decoded (gnum (suc n)) = bool
  decoded (gcons (gnum zero) i) = var (number i)
  decoded (gcons (gnum (suc zero)) (gcons a b)) = arrow (decoded a) (decoded b)
  decoded (gcons (gnum (suc (suc zero))) ts) = tuple (decoded_all ts)
  decoded (gcons (gnum (suc (suc (suc zero)))) a) = array (decoded a)
  decoded (gcons (gnum (suc (suc (suc (suc zero))))) (gcons d ts)) = named (number d) (decoded_all ts)
  decoded (gcons (gnum (suc (suc (suc (suc (suc n)))))) a) = map_of (decoded a)
  decoded _ = unit

  decoded_all : Gv → MlTypes
  decoded_all (gcons t ts) = more_types (decoded t) (decoded_all ts)
  decoded_all _ = no_types

mutual
  back : (a : MlType) → decoded (code a) ≡ a
  back int = refl
  back bool = refl
  back unit = refl
  back (var i) = refl
  back (arrow a b) = ap₂ arrow (back a) (back b)
  back (tuple ts) = ap tuple (back_all ts)
  back (array a) = ap array (back a)
  back (named d ts) = ap (named d) (back_all ts)
  back (map_of a) = ap map_of (back a)

  back_all : (ts : MlTypes) → decoded_all (codes ts) ≡ ts
  back_all no_types = refl
  back_all (more_types t ts) = ap₂ more_types (back t) (back_all ts)

pub coded_type : Coded MlType
coded_type = record { code = code; inj = λ x y p. sym (back x) ∙ (ap decoded p ∙ back y) }

pub coded_types : Coded MlTypes
coded_types = record { code = codes; inj = λ x y p. sym (back_all x) ∙ (ap decoded_all p ∙ back_all y) }

pub type_set : IsSet MlType
type_set = Coded-set coded_type
