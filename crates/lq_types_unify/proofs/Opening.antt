-- The open ones of the classes that are reached.
use Rattle.std.proofs.Common.{◌≡◌, ℕ, zero, suc, ◌+◌, ◌-◌, ◌<◌, inl, inr, true, false, List, [], ◌∷◌, ◌++◌, Option, Some, None, IsSome, All, length, get_or, nat_lt, take, refl, sym, ap, subst, ◌∙◌, arith, below_more, length-append, length-take-le, get_or-take}
use Rattle.std.proofs.lemmas.Bool.{cases_lt, lt-ltb, le-ltb}
use Rattle.std.proofs.lemmas.List.{get_or_append_left, get_or_default}
use Rattle.std.proofs.lemmas.List.Elements.{All-append}
use Rattle.std.proofs.Math.Seq.{get_or-append_seam}
use Rattle.lq_types_unify.specs.Simple.{Simple}
use Rattle.lq_types_unify.specs.Nodes.{Form}
use Rattle.lq_types_unify.specs.Variables.{Each}
use Rattle.lq_types_unify.specs.Classes.{up, root}
use Rattle.lq_types_unify.specs.Value.{parts_of, built, value}
use Rattle.lq_types_unify.specs.Reaching.{IsMet, IsReached}
use Rattle.lq_types_unify.specs.Opens.{IsIn, IsOpenClass, AreOpenOf, AreOpens}
use Rattle.lq_types_unify.proofs.Beginning.{All_taken}
use Rattle.lq_types_unify.proofs.Copied.{each_in}

pub is_none : (o : Option Form) → (IsSome o → ⊥) → o ≡ None
is_none None h = refl
is_none (Some f) h = absurd (h refl)

pub not_none : (o : Option Form) → IsSome o → o ≡ None → ⊥
not_none None h e = cc
not_none (Some f) h e = cc

-- a fact of the classes before, and of this one
upto : (P : ℕ → Type 0) (classes : List ℕ) (at : ℕ) → at < length classes → ((k : ℕ) → k < length (take at classes) → P (get_or (take at classes) k 0)) → P (get_or classes at 0)
    → (k : ℕ) → k < length (take (at + 1) classes) → P (get_or (take (at + 1) classes) k 0)
upto P classes at h a p k l = below_more (λ k. P (get_or (take (at + 1) classes) k 0)) at
    (λ k m. subst P (get_or-take at classes k 0 m ∙ sym (get_or-take (at + 1) classes k 0 (omega arith))) (a k (let c = length-take-le at classes (omega arith) in omega arith)))
    (subst P (sym (get_or-take (at + 1) classes at 0 (omega arith))) p) k (let c = length-take-le (at + 1) classes (omega arith) in omega arith)

one : (P : ℕ → Type 0) (x : ℕ) → P x → All P (x ∷ [])
one P x p zero d h = p
one P x p (suc k) d h = absurd (omega arith)

pub closed_more : (forms : ℕ → Option Form) (shapes classes all : List ℕ) (at : ℕ) → AreOpenOf forms shapes (take at classes) all → at < length classes → IsSome (forms (up shapes (get_or classes at 0)))
    → AreOpenOf forms shapes (take (at + 1) classes) all
closed_more forms shapes classes all at o h s = record {
  are_open = o.are_open;
  all_ = upto (λ r. IsOpenClass forms shapes r → IsIn all r) classes at h o.all_ (λ e. absurd (not_none (forms (up shapes (get_or classes at 0))) s e));
  only = λ seen a. o.only seen (All_taken (λ r. seen r ≡ true) classes at (at + 1) (omega arith) (omega arith) a);
}

pub open_more : (forms : ℕ → Option Form) (shapes classes all : List ℕ) (at : ℕ) → AreOpenOf forms shapes (take at classes) all → at < length classes → (IsSome (forms (up shapes (get_or classes at 0))) → ⊥)
    → AreOpenOf forms shapes (take (at + 1) classes) (all ++ get_or classes at 0 ∷ [])
open_more forms shapes classes all at o h s = record {
  are_open = All-append (IsOpenClass forms shapes) all (r ∷ []) o.are_open (one (IsOpenClass forms shapes) r (is_none (forms (up shapes r)) s));
  all_ = upto (λ r. IsOpenClass forms shapes r → IsIn (all ++ get_or classes at 0 ∷ []) r) classes at h (λ k l e. wider (get_or (take at classes) k 0) (o.all_ k l e))
      (λ e. (length all, (let c = length-append all (r ∷ []) in omega arith), get_or-append_seam all r [] 0));
  only = λ seen a. All-append (λ r. seen r ≡ true) all (r ∷ []) (o.only seen (All_taken (λ r. seen r ≡ true) classes at (at + 1) (omega arith) (omega arith) a))
      (one (λ r. seen r ≡ true) r (ap seen (sym (get_or-take (at + 1) classes at 0 (omega arith))) ∙ a at 0 (let c = length-take-le (at + 1) classes (omega arith) in omega arith)));
}
  where
    r : ℕ
    r = get_or classes at 0

    wider : (x : ℕ) → IsIn all x → IsIn (all ++ get_or classes at 0 ∷ []) x
    wider x (k, l, e) = (k, (let c = length-append all (get_or classes at 0 ∷ []) in omega arith), get_or_append_left all (get_or classes at 0 ∷ []) 0 k l ∙ e)

-- ---- all that nodes reach

listed_in : (forms : ℕ → Option Form) (n : ℕ) (parents shapes copies classes nodes all : List ℕ) → IsReached forms n parents shapes [] copies classes nodes → (r : ℕ) → IsMet forms n shapes [] copies r
    → (k : ℕ) × (k < length classes) × (get_or classes k 0 ≡ r)
listed_in forms n parents shapes copies classes nodes all q r (inl f) = absurd (no f.0)
  where
    no : false ≡ true → ⊥
    no e = cc
listed_in forms n parents shapes copies classes nodes all q r (inr (h, m)) =
    let b = q.listed.back r h m in (up copies r - n, (let b0 : up copies r < n + length classes = b.0 in omega arith), b.1)

in_open : (forms : ℕ → Option Form) (n : ℕ) (parents shapes copies classes nodes all : List ℕ) → IsReached forms n parents shapes [] copies classes nodes → AreOpenOf forms shapes classes all → (r : ℕ)
    → IsMet forms n shapes [] copies r → IsOpenClass forms shapes r → IsIn all r
in_open forms n parents shapes copies classes nodes all q o r m e =
    let k = listed_in forms n parents shapes copies classes nodes all q r m in
    subst (IsIn all) k.2 (o.all_ k.0 k.1 (subst (IsOpenClass forms shapes) (sym k.2) e))

level_in : (forms : ℕ → Option Form) (n : ℕ) (parents shapes copies classes nodes all : List ℕ) → IsReached forms n parents shapes [] copies classes nodes → AreOpenOf forms shapes classes all
    → (types : ℕ → Simple) (r : ℕ) (o : Option Form) → forms (up shapes r) ≡ o → IsMet forms n shapes [] copies r
    → All (λ p. IsMet forms n shapes [] copies (root parents p) → Each (λ v. IsOpenClass forms shapes v → IsIn all v) (types p)) (parts_of o)
    → Each (λ v. IsOpenClass forms shapes v → IsIn all v) (built types r o)
level_in forms n parents shapes copies classes nodes all q o types r None e m rest = in_open forms n parents shapes copies classes nodes all q o r m
level_in forms n parents shapes copies classes nodes all q o types r (Some g) e m rest =
    let k = listed_in forms n parents shapes copies classes nodes all q r m in
    let met = subst (λ x. All (λ p. IsMet forms n shapes [] copies (root parents p)) (parts_of x)) (ap (λ (j : ℕ). forms (up shapes j)) k.2 ∙ e) (q.goes_on k.0 0 k.1) in
    each_in (λ v. IsOpenClass forms shapes v → IsIn all v) types g.parts (λ j d l. rest j d l (met j d l))

all_in : (forms : ℕ → Option Form) (n : ℕ) (parents shapes copies classes nodes all : List ℕ) → IsReached forms n parents shapes [] copies classes nodes → AreOpenOf forms shapes classes all
    → (levels i : ℕ) → IsMet forms n shapes [] copies (root parents i) → Each (λ v. IsOpenClass forms shapes v → IsIn all v) (value levels forms parents shapes i)
all_in forms n parents shapes copies classes nodes all q o zero i m = in_open forms n parents shapes copies classes nodes all q o (root parents i) m
all_in forms n parents shapes copies classes nodes all q o (suc levels) i m =
    level_in forms n parents shapes copies classes nodes all q o (value levels forms parents shapes) (root parents i) (forms (up shapes (root parents i))) refl m
    (λ k d l t. all_in forms n parents shapes copies classes nodes all q o levels (get_or (parts_of (forms (up shapes (root parents i)))) k d) t)

pub opens : (forms : ℕ → Option Form) (n : ℕ) (parents shapes copies classes nodes all : List ℕ) → IsReached forms n parents shapes [] copies classes nodes → AreOpenOf forms shapes classes all
    → AreOpens forms parents shapes nodes all
opens forms n parents shapes copies classes nodes all q o = record {
  are_open = o.are_open;
  every = λ k d h levels. all_in forms n parents shapes copies classes nodes all q o levels (get_or nodes k d) (q.begins k d h);
  only = λ seen inherited a. o.only seen (q.only seen inherited a);
}

below : (a b : ℕ) → nat_lt a b ≡ true → a < b
below a b e = elim (cases_lt a b) [
  | inl h ↦ h
  | inr h ↦ absurd (let f = le-ltb a b h in let g : false ≡ true = sym f ∙ e in cc)
]

-- the open ones are nodes
pub opens_in : (forms : ℕ → Option Form) (n : ℕ) (shapes classes all : List ℕ) → AreOpenOf forms shapes classes all → ((k : ℕ) → k < length classes → get_or classes k 0 < n) → All (λ r. r < n) all
opens_in forms n shapes classes all o h k d l = below (get_or all k d) n (o.only (λ r. nat_lt r n) (λ j e m. lt-ltb (get_or classes j e) n (subst (λ (r : ℕ). r < n) (get_or_default classes j 0 e m) (h j m))) k d l)
