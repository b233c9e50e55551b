-- Tables of refined types that grow: what is there stays.
use Rattle.std.proofs.Common.{◌≡◌, ℕ, ◌+◌, ◌<◌, ◌≤◌, List, [], ◌∷◌, ◌++◌, Bool, true, false, if◌then◌else◌, length, map, slice_index_or, refl, sym, ap, ◌∙◌, append_assoc, arith}
use Rattle.std.proofs.lemmas.List.{append-nil, get_or_append_left, length-append, length-map, map-append}
use Rattle.lq_refined_types.specs.Parts.Part.{Scopes}
use Rattle.lq_refined_types.specs.Types.Refined.{Refined, unit_type}
use Rattle.lq_refined_subtyping.specs.declared.table.table.Row.{Row}
use Rattle.lq_refined_subtyping.specs.Table.Forms.{at}
use Rattle.lq_refined_subtyping.specs.Table.Rows.{row_type, grown, is_node, Extends, HasNode}

pub Extends-refl : (rs : List Row) → Extends rs rs
Extends-refl rs = record { added = []; is = sym (append-nil rs) }

pub Extends-trans : (a b c : List Row) → Extends a b → Extends b c → Extends a c
Extends-trans a b c p q = record { added = p.added ++ q.added; is = q.is ∙ ap (λ l. l ++ q.added) p.is ∙ append_assoc a p.added q.added }

-- one row more, where there was memory for it
pub Extends-pushed : (b : Bool) (a c : List Row) (r : Row) → c ≡ (if b then a ++ r ∷ [] else a) → Extends a c
Extends-pushed true a c r e = record { added = r ∷ []; is = e }
Extends-pushed false a c r e = record { added = []; is = e ∙ sym (append-nil a) }

pub ruleset growing = (Extends-refl, Extends-trans, Extends-pushed)

module _ (scopes : Scopes) where
  pub length-grown : (all : List Refined) (rs : List Row) → length (grown scopes all rs) ≡ length all + length rs
  length-grown all [] = omega arith
  length-grown all (r ∷ rs) =
      let new = row_type scopes all r in
      let h = length-grown (all ++ new ∷ []) rs in
      let k = length-append all (new ∷ []) in omega arith

  pub grown-append : (all : List Refined) (rs more : List Row) → grown scopes all (rs ++ more) ≡ grown scopes (grown scopes all rs) more
  grown-append all [] more = refl
  grown-append all (r ∷ rs) more = grown-append (all ++ row_type scopes all r ∷ []) rs more

  -- what stands before further rows stays
  pub grown-keeps : (all : List Refined) (rs : List Row) (i : ℕ) → i < length all → at (grown scopes all rs) i ≡ at all i
  grown-keeps all [] i h = refl
  grown-keeps all (r ∷ rs) i h =
      let new = row_type scopes all r in
      let k = length-append all (new ∷ []) in grown-keeps (all ++ new ∷ []) rs i (omega arith) ∙ get_or_append_left all (new ∷ []) unit_type i h

  -- an old type stays where the table grows
  pub extends-at : (old new : List Row) (i : ℕ) → Extends old new → i < length old → at (grown scopes [] new) i ≡ at (grown scopes [] old) i
  extends-at old new i e h =
      let n = length-grown [] old in
      ap (λ l. at (grown scopes [] l) i) e.is ∙ ap (λ l. at l i) (grown-append [] old e.added)
      ∙ grown-keeps (grown scopes [] old) e.added i (omega arith)

pub extends-count : (old new : List Row) → Extends old new → length old ≤ length new
extends-count old new e = let k = length-append old e.added in let n : length new ≡ length (old ++ e.added) = ap length e.is in omega arith

pub extends-there : (old new : List Row) (i : ℕ) → Extends old new → i < length old → i < length new
extends-there old new i e h = let k = extends-count old new e in omega arith
