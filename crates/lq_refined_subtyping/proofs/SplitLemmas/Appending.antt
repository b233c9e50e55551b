-- Implications that are added behind others, one list after another.
use Rattle.std.proofs.Common.{Result, Ok, Err, OnOk, ◌≡◌, ℕ, zero, suc, ◌+◌, ◌-◌, ◌^◌, ◌<◌, min, List, [], ◌∷◌, ◌++◌, length, take, refl, sym, ap, ap₂, subst, ◌∙◌, append_assoc, arith}
use Rattle.std.proofs.lemmas.List.{append-nil, length-append, length-map, take_all}
use Rattle.lq_refined_types.specs.Parts.Part.{Parts}
use Rattle.lq_refined_types.specs.Subtyping.Implication.{Implication, Origin, goals}
use Rattle.lq_refined_substitution.specs.declared.implications.list.Implications.{Implications}
use Rattle.lq_refined_substitution.specs.Implications.Views.{count_of, implications_of}
use Rattle.lq_refined_subtyping.specs.Split.Appending.{IsMore, Appends}

kept-twice : {X : Type 0} (n : ℕ) (xs ys : List X) → take n (take n xs ++ ys) ≡ take n (xs ++ ys)
kept-twice zero xs ys = refl
kept-twice (suc n) [] ys = refl
kept-twice (suc n) (x ∷ xs) ys = ap (λ l. x ∷ l) (kept-twice n xs ys)

count-after : (m a b c d e : ℕ) → c ≡ min (a + b) m → d ≡ min (c + e) m → d ≡ min (a + (b + e)) m
count-after m a b c d e h k = omega arith

-- first these, then those, where nothing was added between them
pub more-both : (a b c d : List Implication) (m n k l : ℕ) (xs ys : List Implication) → IsMore a b m n xs → c ≡ b → k ≡ n → IsMore c d k l ys → IsMore a d m l (xs ++ ys)
more-both a b c d m n k l xs ys p e f q = record {
  kept = q.kept ∙ ap (λ z. take 262144 (z ++ ys)) (e ∙ p.kept) ∙ kept-twice 262144 (a ++ xs) ys ∙ ap (take 262144) (append_assoc a xs ys);
  counted = let s = length-append xs ys in
      count-after (2 ^ 64 - 1) m (length xs) k l (length ys) (f ∙ p.counted) q.counted ∙ ap (λ z. min (m + z) (2 ^ 64 - 1)) (sym s);
}

-- first these, then those, where nothing was added behind them
pub more-then : (a b c d : List Implication) (m n k l : ℕ) (xs ys : List Implication) → IsMore a b m n xs → IsMore b c n k ys → d ≡ c → l ≡ k → IsMore a d m l (xs ++ ys)
more-then a b c d m n k l xs ys p q e f =
    let both = more-both a b b c m n n k xs ys p refl refl q in record { kept = e ∙ both.kept; counted = f ∙ both.counted }

pub appends-none : (list : Implications) → Appends list list []
appends-none list =
    let n : length (implications_of list) ≡ length list.items.items = length-map list.items.items _ in
    let k : length list.items.items ≡ min (count_of list) 262144 = list.counted in
    let m : count_of list < 2 ^ 64 = list.small in
    record {
      kept = sym (ap (take 262144) (append-nil (implications_of list)) ∙ take_all 262144 (implications_of list) (omega arith));
      counted = omega arith;
    }

-- the implications of parts, where hypotheses and parts are those of the code
pub goals-more : (before now after : List Implication) (m n k : ℕ) (hs hs' ls ls' qs qs' : Parts) (o : Origin) → now ≡ before → n ≡ m → hs' ≡ hs → ls' ≡ ls → qs' ≡ qs
    → after ≡ take 262144 (now ++ goals hs' ls' qs' o) → k ≡ min (n + length (goals hs' ls' qs' o)) (2 ^ 64 - 1) → IsMore before after m k (goals hs ls qs o)
goals-more before now after m n k hs hs' ls ls' qs qs' o e f h l q a c =
    let same : goals hs' ls' qs' o ≡ goals hs ls qs o = ap₂ (λ x y. goals x y qs' o) h l ∙ ap (λ z. goals hs ls z o) q in record {
      kept = a ∙ ap₂ (λ x y. take 262144 (x ++ y)) e same;
      counted = c ∙ ap₂ (λ x y. min (x + length y) (2 ^ 64 - 1)) f same;
    }

pub more-same : (before after : List Implication) (m k : ℕ) (xs ys : List Implication) → xs ≡ ys → IsMore before after m k xs → IsMore before after m k ys
more-same before after m k xs ys e h = subst (IsMore before after m k) e h

-- what two clauses on a result give together
pub on-ok-both : {T E P Q R : Type 0} (r : Result T E) → OnOk r P → OnOk r Q → (P → Q → R) → OnOk r R
on-ok-both (Ok x) p q f = f p q
on-ok-both (Err e) p q f = tt
