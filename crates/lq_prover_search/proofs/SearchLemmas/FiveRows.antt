-- Ways of the code as readings.
use Rattle.std.proofs.Common.{◌≡◌, List, [], ◌∷◌, map, sym, ap, ap₂, subst, ◌∙◌, rules}
use Rattle.lq_prover_proof_tree.specs.Trees.Proves.{five_ways}
use Rattle.lq_logic_rows.specs.Row.{Row}
use Rattle.lq_logic_predicates.specs.Comparison.{Comparison}
use Rattle.lq_logic_predicates.specs.Literals.{below_row}
use Rattle.lq_logic_predicates.specs.NnfView.{nnf_view, nnfs_view, nnf_items, readings_of}
use Rattle.lq_logic_predicates.specs.Reading.{Reading, all_of, none, more}
use Rattle.lq_logic_predicates.specs.Sum.{Sum}
use Rattle.lq_logic_predicates.specs.declared.nnf.Nnf as Nnf
use Rattle.lq_logic_predicates.specs.declared.nnf.Nnf.{Nnf as NnfOfCode, the_lemmas}
use Rattle.lq_logic_predicates.specs.declared.nnf.Nnfs.{Nnfs}
use Rattle.lq_prover_search.specs.Search.Pairs.{AreWays, IsRowReading, IsWay, equal_rows}

pub view_items : (nnfs : Nnfs) → nnfs_view nnfs ≡ readings_of (map nnf_view (nnf_items nnfs))
view_items nnfs = search (rules, the_lemmas)

all_seen : (nnfs : Nnfs) → nnf_view (Nnf.All nnfs) ≡ all_of (nnfs_view nnfs)
all_seen nnfs = search (rules, the_lemmas)

-- three rows that were pushed
pub three_rows : (terms : List Sum) (a b c : Comparison) (x y z : NnfOfCode) (nnfs : Nnfs) → nnf_items nnfs ≡ x ∷ y ∷ z ∷ []
    → IsRowReading terms a (nnf_view x) → IsRowReading terms b (nnf_view y) → IsRowReading terms c (nnf_view z) → IsWay terms (a ∷ b ∷ c ∷ []) (nnf_view (Nnf.All nnfs))
three_rows terms a b c x y z nnfs e i j k = record {
  rows = i.line ∷ j.line ∷ k.line ∷ [];
  is = all_seen nnfs ∙ ap all_of (view_items nnfs) ∙ ap (λ l. all_of (readings_of (map nnf_view l))) e
      ∙ ap₂ (λ u l. all_of (more u l)) i.is (ap₂ (λ v l. more v l) j.is (ap (λ w. more w none) k.is));
  are = (i.are, (j.are, (k.are, tt)));
}

one_row : (terms : List Sum) (c : Comparison) (r : Reading Row) → IsRowReading terms c r → IsWay terms (c ∷ []) r
one_row terms c r i = record { rows = i.line ∷ []; is = i.is; are = (i.are, tt) }

five : (terms : List Sum) (s a b t c d : Sum) (v w x y z : Reading Row) → IsWay terms (equal_rows s a b t c d) v → IsRowReading terms (below_row a c) w
    → IsRowReading terms (below_row c a) x → IsRowReading terms (below_row b d) y → IsRowReading terms (below_row d b) z
    → AreWays terms (five_ways s a b t c d) (more v (more w (more x (more y (more z none)))))
five terms s a b t c d v w x y z i j k l m = (i, (one_row terms (below_row a c) w j, (one_row terms (below_row c a) x k, (one_row terms (below_row b d) y l, (one_row terms (below_row d b) z m, tt)))))

pub five_rows : (terms : List Sum) (s a b t c d : Sum) (v w x y z : NnfOfCode) (nnfs : Nnfs) → nnf_items nnfs ≡ v ∷ w ∷ x ∷ y ∷ z ∷ []
    → IsWay terms (equal_rows s a b t c d) (nnf_view v) → IsRowReading terms (below_row a c) (nnf_view w)
    → IsRowReading terms (below_row c a) (nnf_view x) → IsRowReading terms (below_row b d) (nnf_view y) → IsRowReading terms (below_row d b) (nnf_view z)
    → AreWays terms (five_ways s a b t c d) (nnfs_view nnfs)
five_rows terms s a b t c d v w x y z nnfs e i j k l m =
    subst (AreWays terms (five_ways s a b t c d)) (sym (view_items nnfs ∙ ap (λ q. readings_of (map nnf_view q)) e))
    (five terms s a b t c d (nnf_view v) (nnf_view w) (nnf_view x) (nnf_view y) (nnf_view z) i j k l m)
