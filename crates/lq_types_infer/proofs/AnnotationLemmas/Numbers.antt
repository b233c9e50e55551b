-- Numbers that are given one after another number the variables of each item, where no variable is of two.
use Rattle.std.specs.Prelude.{slice_index_or}
use Rattle.std.proofs.Common.{◌≡◌, ℕ, zero, suc, ◌+◌, ◌<◌, ◌≤◌, List, [], ◌∷◌, ◌++◌, length, map, set, drop, Option, Some, None, ◌⊎◌, inl, inr, refl, sym, ap, subst, ◌∙◌, arith}
use Rattle.std.proofs.lemmas.Bool.{cases_eq}
use Rattle.std.proofs.lemmas.List.{length-set, length_push, get_or-set_same, get_or-set_other, get_or_append_left, get_or_push}
use Rattle.std.proofs.lemmas.Option.{none-some, same_Some}
use Rattle.lq_text_tree.specs.Items.{ItemTree}
use Rattle.lq_text_tree.specs.MlType.{MlType}
use Rattle.lq_types_rules.specs.Typings.Principal.{AreNumbered, variables_of, variables_at}
use Rattle.lq_types_infer.specs.Annotation.Naming.{item_variables, NumbersItem}
use Rattle.lq_types_infer.specs.Annotation.Numbering.{Numbers, number_in, numbered_by, with_number, with_numbers, behind_items}
use Rattle.lq_types_infer.proofs.AnnotationLemmas.Types.{AllOf, to_all}

-- a number stays
abbrev pub Stays : List (Option ℕ) → List (Option ℕ) → Type 0
Stays old new = (v k : ℕ) → number_in old v ≡ Some k → number_in new v ≡ Some k

module _ (P : ℕ → Type 0) where
  -- the variables of an item that have a number, in the order of these
  record Going (n : Numbers) (known : List ℕ) : Type 0 where
    long : length known ≡ n.next
    back : (v k : ℕ) → P v → number_in n.names v ≡ Some k → (k < n.next) × (slice_index_or known k 0 ≡ v)
    bound : (v : ℕ) → P v → v < length n.names

  -- one more variable
  record One (n : Numbers) (x : ℕ) (e : Numbers) : Type 0 where
    known : List ℕ
    going : Going e known
    stays : Stays n.names e.names
    size : length e.names ≡ length n.names
    others : (v : ℕ) → (P v → ⊥) → number_in e.names v ≡ number_in n.names v
    number : ℕ
    given : number_in e.names x ≡ Some number
    first : (y : ℕ) (rest : List ℕ) → y ≡ number → AreNumbered e.next rest → AreNumbered n.next (y ∷ rest)

  back_one : (n : Numbers) (known : List ℕ) (x v k : ℕ) → P x → P v → Going n known → number_in (set n.names x (Some n.next)) v ≡ Some k
      → (v ≡ x) ⊎ (v ≡ x → ⊥)
      → (k < suc n.next) × (slice_index_or (known ++ x ∷ []) k 0 ≡ v)
  back_one n known x v k own also g is (inl e) =
      let at_x : number_in (set n.names x (Some n.next)) x ≡ Some n.next = get_or-set_same n.names x (Some n.next) None (g.bound x own) in
      let is_next : k ≡ n.next = same_Some k n.next (sym is ∙ ap (number_in (set n.names x (Some n.next))) e ∙ at_x) in
      (omega (arith, is_next), get_or_push known x 0 k (g.long ∙ sym is_next) ∙ sym e)
  back_one n known x v k own also g is (inr other) =
      let old = g.back v k also (sym (get_or-set_other n.names x v (Some n.next) None other) ∙ is) in
      let less = old.0 in
      let long = g.long in
      let in_known : k < length known = omega (arith, less, long) in
      (omega (arith, less), get_or_append_left known (x ∷ []) 0 k in_known ∙ old.1)

  stays_one : (n : Numbers) (x v k : ℕ) → number_in n.names x ≡ None → number_in n.names v ≡ Some k → (v ≡ x) ⊎ (v ≡ x → ⊥)
      → number_in (set n.names x (Some n.next)) v ≡ Some k
  stays_one n x v k none is (inl e) = absurd (none-some k (sym none ∙ ap (number_in n.names) (sym e) ∙ is))
  stays_one n x v k none is (inr other) = get_or-set_other n.names x v (Some n.next) None other ∙ is

  one : (n : Numbers) (known : List ℕ) (x : ℕ) → P x → Going n known → (o : Option ℕ) → number_in n.names x ≡ o → One n x (numbered_by o n x)
  one n known x own g (Some k) is =
      let less = (g.back x k own is).0 in
      record {
        known = known;
        going = g;
        stays = λ v j h. h;
        size = refl;
        others = λ v not_own. refl;
        number = k;
        given = is;
        first = λ y rest e h. inl (omega (arith, e, less), h);
      }
  one n known x own g None is =
      let long = g.long in
      record {
        known = known ++ x ∷ [];
        going = record {
          long = length_push known x ∙ ap (λ (m : ℕ). m + 1) long ∙ (let e : n.next + 1 ≡ suc n.next = omega arith in e);
          back = λ v k also h. back_one n known x v k own also g h (cases_eq v x);
          bound = λ v also. subst (λ m. v < m) (sym (length-set n.names x (Some n.next))) (g.bound v also);
        };
        stays = λ v k h. stays_one n x v k is h (cases_eq v x);
        size = length-set n.names x (Some n.next);
        others = λ v not_own. get_or-set_other n.names x v (Some n.next) None (λ e. not_own (subst P (sym e) own));
        number = n.next;
        given = get_or-set_same n.names x (Some n.next) None (g.bound x own);
        first = λ y rest e h. inr (e, h);
      }

  -- variables one after another
  record Run (n : Numbers) (xs : List ℕ) (e : Numbers) : Type 0 where
    known : List ℕ
    going : Going e known
    stays : Stays n.names e.names
    size : length e.names ≡ length n.names
    others : (v : ℕ) → (P v → ⊥) → number_in e.names v ≡ number_in n.names v
    given : AllOf (λ x. (k : ℕ) × (number_in e.names x ≡ Some k)) xs
    numbered : (f : ℕ → ℕ) → ((v k : ℕ) → number_in e.names v ≡ Some k → f v ≡ k) → AreNumbered n.next (map f xs)

  run : (n : Numbers) (known : List ℕ) (xs : List ℕ) → AllOf P xs → Going n known → Run n xs (with_numbers n xs)
  run n known [] own g =
      record { known = known; going = g; stays = λ v k h. h; size = refl; others = λ v not_own. refl; given = tt; numbered = λ f h. tt }
  run n known (x ∷ xs) own g =
      let o = one n known x own.0 g (number_in n.names x) refl in
      let r = run (with_number n x) o.known xs own.1 o.going in
      record {
        known = r.known;
        going = r.going;
        stays = λ v k h. r.stays v k (o.stays v k h);
        size = r.size ∙ o.size;
        others = λ v not_own. r.others v not_own ∙ o.others v not_own;
        given = ((o.number, r.stays x o.number o.given), r.given);
        numbered = λ f h. o.first (f x) (map f xs) (h x o.number (r.stays x o.number o.given)) (r.numbered f h);
      }

-- ---- items

-- the variables of each item are of it, where items are numbered from this one on
abbrev pub AreOf : (ℕ → ℕ → Type 0) → ℕ → (ℕ → MlType) → ℕ → List ItemTree → Type 0
AreOf Of nodes types n [] = Unit {0}
AreOf Of nodes types n (i ∷ is) = AllOf (Of n) (item_variables nodes types i) × AreOf Of nodes types (suc n) is

module _ (Of : ℕ → ℕ → Type 0) (nodes : ℕ) (types : ℕ → MlType) (apart : (n m v : ℕ) → Of n v → Of m v → n ≡ m) where
  -- no variable of the items from this one on has a number
  pub record Ready (n : ℕ) (names : List (Option ℕ)) : Type 0 where
    pub none : (m v : ℕ) → n ≤ m → Of m v → number_in names v ≡ None
    pub bound : (m v : ℕ) → Of m v → v < length names

  begin : (n : ℕ) (names : List (Option ℕ)) → Ready n names → Going (Of n) (record { names = names; next = 0 }) []
  begin n names r = record {
    long = refl;
    back = λ v k own is. absurd (none-some k (sym (r.none n v (omega arith) own) ∙ is));
    bound = r.bound n;
  }

  -- what has a number has it by these names
  abbrev pub HasNumbers : (ℕ → ℕ) → List (Option ℕ) → Type 0
  HasNumbers f final = (v k : ℕ) → number_in final v ≡ Some k → f v ≡ k

  pub record Done (names : List (Option ℕ)) (is : List ItemTree) (final : List (Option ℕ)) : Type 0 where
    stays : Stays names final
    pub numbers : (f : ℕ → ℕ) → HasNumbers f final → AllOf (NumbersItem nodes types f) is

  undone : (f : ℕ → ℕ) (known : List ℕ) (e : Numbers) (P : ℕ → Type 0) → Going P e known → HasNumbers f e.names → (xs : List ℕ) → AllOf P xs
      → AllOf (λ x. (k : ℕ) × (number_in e.names x ≡ Some k)) xs → AllOf (λ v. slice_index_or known (f v) 0 ≡ v) xs
  undone f known e P g has [] own given = tt
  undone f known e P g has (x ∷ xs) own given =
      let k = given.0.0 in (
        ap (λ (j : ℕ). slice_index_or known j 0) (has x k given.0.1) ∙ (g.back x k own.0 given.0.1).1,
        undone f known e P g has xs own.1 given.1,
      )

  pub items : (n : ℕ) (is : List ItemTree) (names : List (Option ℕ)) → Ready n names → AreOf Of nodes types n is
      → Done names is (behind_items nodes types names is)
  items n [] names ready own = record { stays = λ v k h. h; numbers = λ f has. tt }
  items n (i ∷ is) names ready own =
      let first : Numbers = record { names = names; next = 0 } in
      let xs = item_variables nodes types i in
      let r = run (Of n) first [] xs own.0 (begin n names ready) in
      let e = with_numbers first xs in
      let later : Ready (suc n) e.names = record {
        none = λ m v low of_m.
            r.others v (λ of_n. let same = apart n m v of_n of_m in let l = low in omega (arith, same, l)) ∙ ready.none m v
            (let l = low in omega (arith, l)) of_m;
        bound = λ m v of_m. subst (λ l. v < l) (sym r.size) (ready.bound m v of_m);
      } in
      let d = items (suc n) is e.names later own.1 in
      record {
        stays = λ v k h. d.stays v k (r.stays v k h);
        numbers = λ f has.
            let mine : HasNumbers f e.names = λ v k h. has v k (d.stays v k h) in (
              record {
                numbered = r.numbered f mine;
                original = λ j. slice_index_or r.known j 0;
                undone = to_all (λ v. slice_index_or r.known (f v) 0 ≡ v) xs (undone f r.known e (Of n) r.going mine xs own.0 r.given);
              },
              d.numbers f has,
            );
      }

-- ---- slots of an item, one after another

drop_next : (ks : List ℕ) (i d : ℕ) → i < length ks → drop i ks ≡ slice_index_or ks i d ∷ drop (i + 1) ks
drop_next [] i d low = absurd (omega (arith, low))
drop_next (k ∷ ks) zero d low = refl
drop_next (k ∷ ks) (suc i) d low =
    let e : suc i + 1 ≡ suc (i + 1) = omega arith in
    drop_next ks i d (omega (arith, low)) ∙ ap (λ (j : ℕ). slice_index_or ks i d ∷ drop j (k ∷ ks)) (sym e)

appended : (n : Numbers) (xs ys : List ℕ) → with_numbers n (xs ++ ys) ≡ with_numbers (with_numbers n xs) ys
appended n [] ys = refl
appended n (x ∷ xs) ys = appended (with_number n x) xs ys

pub slot_next : (types : ℕ → MlType) (now next whole : Numbers) (ks : List ℕ) (i d : ℕ) → i < length ks
    → next ≡ with_numbers now (variables_of (types (slice_index_or ks i d)))
    → with_numbers now (variables_at types (drop i ks)) ≡ whole
    → with_numbers next (variables_at types (drop (i + 1) ks)) ≡ whole
slot_next types now next whole ks i d low is goes =
    let k = slice_index_or ks i d in
    let rest = drop (i + 1) ks in
    ap (λ (n : Numbers). with_numbers n (variables_at types rest)) is
    ∙ sym (appended now (variables_of (types k)) (variables_at types rest))
    ∙ ap (λ (l : List ℕ). with_numbers now (variables_at types l)) (sym (drop_next ks i d low)) ∙ goes
