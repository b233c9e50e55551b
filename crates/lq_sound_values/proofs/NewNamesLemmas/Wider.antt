-- More symbols, and names that are new.
use Rattle.std.proofs.Common.{◌≡◌, ◌||◌, Bool, true, false, List, [], ◌∷◌, refl}
use Rattle.lq_logic_predicates.specs.declared.symbol.Symbol.{Symbol}
use Rattle.lq_logic_predicates.specs.declared.symbol.Symbol.TheVariants as symbol
use Rattle.lq_logic_predicates.specs.Formula.{Formula, truth, falsity, flag, compare, objects, negation, conjunction, disjunction, equivalence}
use Rattle.lq_logic_predicates.specs.Sum.{same_symbol}
use Rattle.lq_refined_types.specs.Parts.Assignment.{Assignment, parts_under}
use Rattle.lq_refined_types.specs.Parts.Part.{Parts}
use Rattle.lq_refined_types.specs.Types.Context.{Context, name, guard, IsNew}
use Rattle.lq_refined_types.specs.Types.Refined.{Refined, Kind, number, truth_value, object, other, kind, top}
use Rattle.lq_sound_values.specs.Inhabitants.Truth.{Scene}
use Rattle.lq_sound_values.specs.Inclusion.Symbols.{Symbols}
use Rattle.lq_sound_values.specs.Runs.Closed.{names_in, with_value, SortedOn, EachSorted, PartsSorted, IsTypeOver}
use Rattle.lq_sound_values.proofs.RunsLemmas.Closing.{Within, with_within, sum_more, type_more}

sorted_more : (P Q R T : Symbols) → Within P Q → Within R T → (p : Formula) → SortedOn P R p → SortedOn Q T p
sorted_more P Q R T f g truth h = tt
sorted_more P Q R T f g falsity h = tt
sorted_more P Q R T f g (flag x) h = g x h
sorted_more P Q R T f g (compare o a b) h = (sum_more P Q f a h.0, sum_more P Q f b h.1)
sorted_more P Q R T f g (objects a b) h = (sum_more P Q f a h.0, sum_more P Q f b h.1)
sorted_more P Q R T f g (negation p) h = sorted_more P Q R T f g p h
sorted_more P Q R T f g (conjunction p q) h = (sorted_more P Q R T f g p h.0, sorted_more P Q R T f g q h.1)
sorted_more P Q R T f g (disjunction p q) h = (sorted_more P Q R T f g p h.0, sorted_more P Q R T f g q h.1)
sorted_more P Q R T f g (equivalence p q) h = (sorted_more P Q R T f g p h.0, sorted_more P Q R T f g q h.1)

each_more : (P Q R T : Symbols) → Within P Q → Within R T → (ps : List Formula) → EachSorted P R ps → EachSorted Q T ps
each_more P Q R T f g [] h = tt
each_more P Q R T f g (p ∷ ps) h = (sorted_more P Q R T f g p h.0, each_more P Q R T f g ps h.1)

parts_more : (A : Assignment) (k : Kind) (P Q : Symbols) → Within P Q → (ps : Parts) → PartsSorted A k P ps → PartsSorted A k Q ps
parts_more A number P Q f ps h = each_more (with_value P) (with_value Q) P Q (with_within P Q symbol.Value f) f (parts_under A ps) h
parts_more A truth_value P Q f ps h = each_more P Q (with_value P) (with_value Q) f (with_within P Q symbol.Value f) (parts_under A ps) h
parts_more A object P Q f ps h = each_more (with_value P) (with_value Q) P Q (with_within P Q symbol.Value f) f (parts_under A ps) h
parts_more A other P Q f ps h = each_more (with_value P) (with_value Q) P Q (with_within P Q symbol.Value f) f (parts_under A ps) h

pub over_more : (S : Scene) (P Q : Symbols) → Within P Q → (t : Refined) → IsTypeOver S P t → IsTypeOver S Q t
over_more S P Q f t h = (type_more S.assignment t P Q f h.0, parts_more S.assignment (kind t) P Q f (top t) h.1)

-- what is none of the names is new
pub new_of : (Γ : Context) (x : Symbol) → names_in Γ x ≡ false → IsNew x Γ
new_of [] x h = tt
new_of (name y t ∷ Γ) x h = (second (names_in Γ x) (same_symbol y x) h, new_of Γ x (first (names_in Γ x) (same_symbol y x) h))
  where
    first : (a b : Bool) → a || b ≡ false → a ≡ false
    first true b h = h
    first false b h = refl

    second : (a b : Bool) → a || b ≡ false → b ≡ false
    second true b h = absurd (cc)
    second false b h = h
new_of (guard p ∷ Γ) x h = new_of Γ x h
