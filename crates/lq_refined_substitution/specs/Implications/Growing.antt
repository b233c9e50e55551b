-- Lists of implications that grow: what is there stays.
use Rattle.std.proofs.Common.{◌≡◌, ℕ, ◌+◌, ◌-◌, ◌^◌, ◌<◌, ◌≤◌, List, [], ◌++◌, length, min, take, Result, Ok, Err, OnOk, OnErr, sym, ap, ◌∙◌, append_assoc, arith}
use Rattle.std.proofs.Math.Seq.{take-append-add}
use Rattle.std.proofs.lemmas.List.{append-nil, length-map}
use Rattle.lq_refined_types.specs.Subtyping.Implication.{Implication}
use Rattle.lq_refined_substitution.specs.Implications.Views.{count_of, implications_of}
use Rattle.lq_refined_substitution.specs.declared.implications.list.Implications.{Implications}

-- all implications that there were stand in front, in their order, and those that were counted still are
pub record Continues (old new : Implications) : Type 0 where
  pub added : List Implication
  pub is : implications_of new ≡ implications_of old ++ added
  pub counted : count_of old ≤ count_of new

pub Continues-refl : (a : Implications) → Continues a a
Continues-refl a = record { added = []; is = sym (append-nil (implications_of a)); counted = omega arith }

pub Continues-same : (a b : Implications) → implications_of b ≡ implications_of a → count_of b ≡ count_of a → Continues a b
Continues-same a b e n = record { added = []; is = e ∙ sym (append-nil (implications_of a)); counted = omega arith }

pub Continues-trans : (a b c : Implications) → Continues a b → Continues b c → Continues a c
Continues-trans a b c p q = record {
  added = p.added ++ q.added;
  is = q.is ∙ ap (λ l. l ++ q.added) p.is ∙ append_assoc (implications_of a) p.added q.added;
  counted = let m = p.counted in let n = q.counted in omega arith;
}

-- no more than the limit are kept, and all are counted
pub Continues-more : (a b : Implications) (more : List Implication) (n : ℕ) → implications_of b ≡ take 262144 (implications_of a ++ more)
    → count_of b ≡ min (count_of a + n) (2 ^ 64 - 1) → Continues a b
Continues-more a b more n e c =
    let len : length (implications_of a) ≡ length a.items.items = length-map a.items.items _ in
    let most : length a.items.items ≡ min (count_of a) 262144 = a.counted in
    let small : count_of a < 2 ^ 64 = a.small in
    let left = 262144 - length (implications_of a) in
    let all : 262144 ≡ length (implications_of a) + left = omega arith in
    record {
      added = take left more;
      is = e ∙ ap (λ k. take k (implications_of a ++ more)) all ∙ take-append-add (implications_of a) more left;
      counted = omega arith;
    }

-- whether there was memory for them or not
pub Continues-either : {T E : Type 0} (r : Result T E) (a b : Implications) (more : List Implication) (n : ℕ)
    → OnOk r (implications_of b ≡ take 262144 (implications_of a ++ more)) → OnOk r (count_of b ≡ min (count_of a + n) (2 ^ 64 - 1))
    → OnErr r (implications_of b ≡ implications_of a) → OnErr r (count_of b ≡ count_of a) → Continues a b
Continues-either (Ok v) a b more n e c f d = Continues-more a b more n e c
Continues-either (Err x) a b more n e c f d = Continues-same a b f d

pub ruleset continuing = (Continues-refl, Continues-same, Continues-trans)
