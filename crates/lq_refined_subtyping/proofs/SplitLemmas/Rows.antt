-- Rows of types in a table that grows.
use Rattle.std.proofs.Common.{◌≡◌, ℕ, zero, suc, ◌<◌, ◌≤◌, List, [], ◌∷◌, ◌++◌, All, get_or, length, take, refl, sym, ap, ap₂, ◌∙◌, arith}
use Rattle.std.proofs.Math.Seq.{take-append_seam}
use Rattle.std.proofs.lemmas.List.{append-nil}
use Rattle.std.proofs.lemmas.List.Elements.{All-head, All-tail}
use Rattle.lq_refined_types.specs.Parts.Part.{Scopes}
use Rattle.lq_text_tree.specs.Types.{Signature}
use Rattle.lq_refined_types.specs.Types.Refined.{Refined, unit_type, more, type_at}
use Rattle.lq_refined_subtyping.specs.declared.table.table.Row.{Row}
use Rattle.lq_refined_subtyping.specs.Table.Forms.{at, each}
use Rattle.lq_refined_subtyping.specs.Table.Growing.{extends-at}
use Rattle.lq_refined_subtyping.specs.Table.Rows.{grown, Extends}
use Rattle.lq_refined_subtyping.specs.declared.split.fields.ConstructorFields.{ConstructorFields}
use Rattle.lq_refined_subtyping.specs.Split.Fields.{fields_at, AreThere, KnowsFields}

pub each-grown : (scopes : Scopes) (old new : List Row) (is : List ℕ) → Extends old new → All (λ p. p < length old) is
    → each (grown scopes [] new) is ≡ each (grown scopes [] old) is
each-grown scopes old new [] e h = refl
each-grown scopes old new (i ∷ is) e h =
    ap₂ more (extends-at scopes old new i e (All-head (λ p. p < length old) i is h))
    (each-grown scopes old new is e (All-tail (λ p. p < length old) i is h))

pub knows-grown : (scopes : Scopes) (old new : List Row) (f : ConstructorFields) (g : Signature) → Extends old new → AreThere (length old) f
    → KnowsFields (grown scopes [] old) f g → KnowsFields (grown scopes [] new) f g
knows-grown scopes old new f g e h k = record { are = λ c. each-grown scopes old new (fields_at f c) e (h c) ∙ k.are c }

-- the type at a place of a row
pub type_at-each : (all : List Refined) (is : List ℕ) (i d : ℕ) → i < length is → type_at (each all is) i ≡ at all (get_or is i d)
type_at-each all [] i d h = absurd (omega arith)
type_at-each all (x ∷ is) zero d h = refl
type_at-each all (x ∷ is) (suc i) d h = type_at-each all is i d (omega arith)

pub type_at-end : (all : List Refined) (is : List ℕ) (i : ℕ) → length is ≤ i → type_at (each all is) i ≡ unit_type
type_at-end all [] i h = refl
type_at-end all (x ∷ is) zero h = absurd (omega arith)
type_at-end all (x ∷ is) (suc i) h = type_at-end all is i (omega arith)

-- ---- tables that are cut back

pub prefix-back : {X : Type 0} (a b m x y : List X) → m ≡ a ++ x → m ≡ b ++ y → length b ≡ length a → b ≡ a
prefix-back a b m x y e f h =
    sym (take-append_seam b y) ∙ ap (λ n. take n (b ++ y)) h ∙ ap (take (length a)) (sym f ∙ e) ∙ take-append_seam a x

pub extends-back : (a b m : List Row) → Extends a m → Extends b m → length b ≡ length a → Extends a b
extends-back a b m e f h = record { added = []; is = prefix-back a b m e.added f.added e.is f.is h ∙ sym (append-nil a) }
