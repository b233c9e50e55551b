-- Readings speak of the flags of their scope alone.
use Rattle.std.proofs.Common.{◌≡◌, true, inl, inr, sym, ap₂, ◌∙◌, ◌==◌}
use Rattle.lq_logic_rows.specs.Row.{Row, Valuation}
use Rattle.lq_logic_predicates.specs.Points.{Point}
use Rattle.lq_logic_predicates.specs.Reading.{Reading, yes, no, row, flag_is, objects_are, all_of, any_of, Readings, none, more}
use Rattle.lq_logic_predicates.specs.RowMeaning.{MeetsAllRows, MeetsAnyRow, MeetsRows}
use Rattle.lq_logic_predicates.specs.Sum.{Sum}
use Rattle.lq_logic_predicates.specs.declared.symbol.Symbol.{Symbol}
use Rattle.lq_prover_search.specs.Search.Scope.{AreWithin, IsWithin, Scope, has_flag}

-- two points have the same flags of a scope, and the same classes
pub record AreAlike (s : Scope) (p q : Point) : Type 0 where
  pub flags : (x : Symbol) → has_flag s.flags x ≡ true → p.holds x ≡ q.holds x
  pub classes : (a : Sum) → p.class_of a ≡ q.class_of a

mutual
  pub met_alike : (s : Scope) (v : Valuation) (p q : Point) → AreAlike s p q → (r : Reading Row) → IsWithin s r → MeetsRows v p r → MeetsRows v q r
  met_alike s v p q h yes w m = tt
  met_alike s v p q h no w m = m
  met_alike s v p q h (row r) w m = m
  met_alike s v p q h (flag_is x sign) w m = sym (h.flags x w) ∙ m
  met_alike s v p q h (objects_are a b sign) w m = ap₂ (λ x y. x == y) (sym (h.classes a)) (sym (h.classes b)) ∙ m
  met_alike s v p q h (all_of rs) w m = all_met_alike s v p q h rs w m
  met_alike s v p q h (any_of rs) w m = any_met_alike s v p q h rs w m

  all_met_alike : (s : Scope) (v : Valuation) (p q : Point) → AreAlike s p q → (rs : Readings Row) → AreWithin s rs → MeetsAllRows v p rs → MeetsAllRows v q rs
  all_met_alike s v p q h none w m = tt
  all_met_alike s v p q h (more r rs) w m = (met_alike s v p q h r w.0 m.0, all_met_alike s v p q h rs w.1 m.1)

  any_met_alike : (s : Scope) (v : Valuation) (p q : Point) → AreAlike s p q → (rs : Readings Row) → AreWithin s rs → MeetsAnyRow v p rs → MeetsAnyRow v q rs
  any_met_alike s v p q h none w m = m
  any_met_alike s v p q h (more r rs) w (inl m) = inl (met_alike s v p q h r w.0 m)
  any_met_alike s v p q h (more r rs) w (inr m) = inr (any_met_alike s v p q h rs w.1 m)
