-- Numbers that are given to the variables of types.
use Rattle.std.specs.Prelude.{◌||◌, All, reverse, slice_index_or}
use Rattle.std.proofs.Common.{◌≡◌, ℕ, zero, suc, ◌+◌, ◌<◌, Bool, true, false, List, [], ◌∷◌, ◌++◌, length, map, set, Option, Some, None, ◌⊎◌, inl, inr, refl, sym, ap, ap₂, subst, ◌∙◌, arith, append_assoc}
use Rattle.std.proofs.lemmas.Bool.{cases_eq, false≢true}
use Rattle.std.proofs.lemmas.List.{append-nil, reverse-append, length-set, get_or-set_same, get_or-set_other}
use Rattle.std.proofs.lemmas.Option.{none-some}
use Rattle.lq_text_tree.specs.MlType as ml
use Rattle.lq_text_tree.specs.MlType.{MlType, MlTypes}
use Rattle.lq_types_rules.specs.Constructors.Tasks.{size_of}
use Rattle.lq_types_table.specs.declared.type_node.TypeHead.{TypeHead}
use Rattle.lq_types_table.specs.declared.type_node.TypeHead.TheVariants as head
use Rattle.lq_types_table.specs.Heads.{made, each, IsRight}
use Rattle.lq_types_table.specs.Nodes.{at}
use Rattle.lq_types_table.specs.Seen.{IsOver}
use Rattle.lq_types_rules.specs.Typings.Principal.{is_open, some_open, variables_of, variables_in, variables_at}
use Rattle.lq_types_rules.specs.Typings.Uses.{Each, EachIn}
use Rattle.lq_types_infer.specs.Annotation.Measuring.{total}
use Rattle.lq_types_infer.specs.Annotation.Numbering.{Numbers, number_in, numbered_by, with_number, with_numbers, coming, work, variable_in, HasNumber, AreDone}
use Rattle.lq_types_infer.proofs.AnnotationLemmas.Measuring.{size_over}
use Rattle.lq_types_infer.proofs.AnnotationLemmas.Types.{AllOf, from_all, to_all, all_both, left_part, right_part}

-- ---- lists of what is to be walked

pub reverse_push : (xs : List ℕ) (x : ℕ) → reverse (xs ++ x ∷ []) ≡ x ∷ reverse xs
reverse_push xs x = reverse-append xs (x ∷ [])

-- ---- one level of a type

module _ (types : ℕ → MlType) where
  variables_are : (parts : List ℕ) → variables_in (each types parts) ≡ variables_at types parts
  variables_are [] = refl
  variables_are (p ∷ ps) = ap (λ (xs : List ℕ). variables_of (types p) ++ xs) (variables_are ps)

  -- a head over the parts that it takes
  record Made (h : TypeHead) (parts : List ℕ) : Type 1 where
    variables : variables_of (made h (each types parts)) ≡ variables_in (each types parts)
    all_of : (P : ℕ → Type 0) → EachIn P (each types parts) → Each P (made h (each types parts))

  none_of : (p : ℕ) (ps : List ℕ) → length (p ∷ ps) ≡ 0 → ⊥
  none_of p ps h = omega (arith, h)

  no_parts : (h : TypeHead) → Made h [] → (parts : List ℕ) → length parts ≡ 0 → Made h parts
  no_parts h o [] e = o
  no_parts h o (p ∷ ps) e = absurd (none_of p ps e)

  one_part : (h : TypeHead) → ((p : ℕ) → Made h (p ∷ [])) → (parts : List ℕ) → length parts ≡ 1 → Made h parts
  one_part h o (p ∷ []) e = o p
  one_part h o [] e = absurd (omega (arith, e))
  one_part h o (p ∷ q ∷ ps) e = absurd (omega (arith, e))

  two_parts : (h : TypeHead) → ((p q : ℕ) → Made h (p ∷ q ∷ [])) → (parts : List ℕ) → length parts ≡ 2 → Made h parts
  two_parts h o (p ∷ q ∷ []) e = o p q
  two_parts h o [] e = absurd (omega (arith, e))
  two_parts h o (p ∷ []) e = absurd (omega (arith, e))
  two_parts h o (p ∷ q ∷ r ∷ ps) e = absurd (omega (arith, e))

  made_over : (h : TypeHead) (parts : List ℕ) → IsRight h (length parts) → Made h parts
  made_over head.Int parts right = no_parts head.Int (record { variables = refl; all_of = λ P e. tt }) parts (right 0 refl)
  made_over head.Bool parts right = no_parts head.Bool (record { variables = refl; all_of = λ P e. tt }) parts (right 0 refl)
  made_over head.Unit parts right = no_parts head.Unit (record { variables = refl; all_of = λ P e. tt }) parts (right 0 refl)
  made_over head.Arrow parts right =
      two_parts head.Arrow
      (λ p q. record {
        variables = ap (λ (xs : List ℕ). variables_of (types p) ++ xs) (sym (append-nil (variables_of (types q))));
        all_of = λ P e. (e.0, e.1.0);
      }) parts (right 2 refl)
  made_over head.Tuple parts right = record { variables = refl; all_of = λ P e. e }
  made_over head.Array parts right =
      one_part head.Array (λ p. record { variables = sym (append-nil (variables_of (types p))); all_of = λ P e. e.0 }) parts (right 1 refl)
  made_over head.Map parts right =
      one_part head.Map (λ p. record { variables = sym (append-nil (variables_of (types p))); all_of = λ P e. e.0 }) parts (right 1 refl)
  made_over (head.Named d) parts right = record { variables = refl; all_of = λ P e. e }

  not_variable : (h : TypeHead) (ts : MlTypes) → variable_in (made h ts) ≡ None
  not_variable head.Int ts = refl
  not_variable head.Bool ts = refl
  not_variable head.Unit ts = refl
  not_variable head.Arrow ts = refl
  not_variable head.Tuple ts = refl
  not_variable head.Array ts = refl
  not_variable head.Map ts = refl
  not_variable (head.Named d) ts = refl

  each_part : (P : ℕ → Type 0) (parts : List ℕ) → AllOf (λ p. Each P (types p)) parts → EachIn P (each types parts)
  each_part P [] h = tt
  each_part P (p ∷ ps) h = (h.0, each_part P ps h.1)

-- the variables of a type that is none, from those of its parts
pub variables_over : (all : List MlType) (i : ℕ) (parts : List ℕ) → IsOver all i parts → variable_in (at all i) ≡ None
    → variables_of (at all i) ≡ variables_at (at all) parts
variables_over all i parts (inl (v, is, none)) no_var = absurd (none-some v (sym no_var ∙ ap variable_in is))
variables_over all i parts (inr (h, is, right)) no_var =
    ap variables_of is ∙ (made_over (at all) h parts right).variables ∙ variables_are (at all) parts

-- what holds of each variable, from the parts and from the variable that it is
pub each_over : (P : ℕ → Type 0) (all : List MlType) (i : ℕ) (parts : List ℕ) → IsOver all i parts → All (λ p. p < i) parts
    → ((r : ℕ) → r < i → Each P (at all r)) → ((v : ℕ) → variable_in (at all i) ≡ Some v → P v) → Each P (at all i)
each_over P all i parts (inl (v, is, none)) earlier before own = subst (Each P) (sym is) (own v (ap variable_in is))
each_over P all i parts (inr (h, is, right)) earlier before own =
    let parts_are : AllOf (λ p. Each P (at all p)) parts = each_before parts (from_all (λ p. p < i) parts earlier) in
    subst (Each P) (sym is) ((made_over (at all) h parts right).all_of P (each_part (at all) P parts parts_are))
  where
    each_before : (ps : List ℕ) → AllOf (λ p. p < i) ps → AllOf (λ p. Each P (at all p)) ps
    each_before [] h = tt
    each_before (p ∷ ps) h = (before p h.0, each_before ps h.1)

module _ (P Q : ℕ → Type 0) (f : (v : ℕ) → P v → Q v) where
  mutual
    pub each_weaker : (a : MlType) → Each P a → Each Q a
    each_weaker ml.int h = tt
    each_weaker ml.bool h = tt
    each_weaker ml.unit h = tt
    each_weaker (ml.var i) h = f i h
    each_weaker (ml.arrow a b) h = (each_weaker a h.0, each_weaker b h.1)
    each_weaker (ml.tuple ts) h = each_weaker_in ts h
    each_weaker (ml.array a) h = each_weaker a h
    each_weaker (ml.named d ts) h = each_weaker_in ts h
    each_weaker (ml.map_of a) h = each_weaker a h

    each_weaker_in : (ts : MlTypes) → EachIn P ts → EachIn Q ts
    each_weaker_in ml.no_types h = tt
    each_weaker_in (ml.more_types t ts) h = (each_weaker t h.0, each_weaker_in ts h.1)

-- what holds of each variable, from the list of them
module _ (P : ℕ → Type 0) where
  mutual
    pub from_list : (a : MlType) → AllOf P (variables_of a) → Each P a
    from_list ml.int h = tt
    from_list ml.bool h = tt
    from_list ml.unit h = tt
    from_list (ml.var i) h = h.0
    from_list (ml.arrow a b) h =
        (from_list a (left_part P (variables_of a) (variables_of b) h), from_list b (right_part P (variables_of a) (variables_of b) h))
    from_list (ml.tuple ts) h = from_lists ts h
    from_list (ml.array a) h = from_list a h
    from_list (ml.named d ts) h = from_lists ts h
    from_list (ml.map_of a) h = from_list a h

    from_lists : (ts : MlTypes) → AllOf P (variables_in ts) → EachIn P ts
    from_lists ml.no_types h = tt
    from_lists (ml.more_types t ts) h =
        (from_list t (left_part P (variables_of t) (variables_in ts) h), from_lists ts (right_part P (variables_of t) (variables_in ts) h))

-- a type without a variable
or_parts : (a b : Bool) → (a || b) ≡ false → (a ≡ false) × (b ≡ false)
or_parts false b h = (refl, h)
or_parts true b h = absurd (false≢true (sym h))

both_empty : (xs ys : List ℕ) → xs ≡ [] → ys ≡ [] → xs ++ ys ≡ []
both_empty xs ys e r = ap₂ (λ (s : List ℕ) (t : List ℕ). s ++ t) e r

mutual
  pub closed_none : (a : MlType) → is_open a ≡ false → variables_of a ≡ []
  closed_none ml.int h = refl
  closed_none ml.bool h = refl
  closed_none ml.unit h = refl
  closed_none (ml.var i) h = absurd (false≢true (sym h))
  closed_none (ml.arrow a b) h =
      let both = or_parts (is_open a) (is_open b) h in both_empty (variables_of a) (variables_of b) (closed_none a both.0) (closed_none b both.1)
  closed_none (ml.tuple ts) h = closed_nones ts h
  closed_none (ml.array a) h = closed_none a h
  closed_none (ml.named d ts) h = closed_nones ts h
  closed_none (ml.map_of a) h = closed_none a h

  closed_nones : (ts : MlTypes) → some_open ts ≡ false → variables_in ts ≡ []
  closed_nones ml.no_types h = refl
  closed_nones (ml.more_types t ts) h =
      let both = or_parts (is_open t) (some_open ts) h in
      both_empty (variables_of t) (variables_in ts) (closed_none t both.0) (closed_nones ts both.1)

-- ---- numbers

pub with_append : (n : Numbers) (xs ys : List ℕ) → with_numbers n (xs ++ ys) ≡ with_numbers (with_numbers n xs) ys
with_append n [] ys = refl
with_append n (x ∷ xs) ys = with_append (with_number n x) xs ys

pub variables_append : (types : ℕ → MlType) (xs ys : List ℕ) → variables_at types (xs ++ ys) ≡ variables_at types xs ++ variables_at types ys
variables_append types [] ys = refl
variables_append types (x ∷ xs) ys =
    ap (λ (l : List ℕ). variables_of (types x) ++ l) (variables_append types xs ys)
    ∙ sym (append_assoc (variables_of (types x)) (variables_at types xs) (variables_at types ys))

-- a number that is there stays as it is
pub number_there : (n : Numbers) (v k : ℕ) → number_in n.names v ≡ Some k → with_number n v ≡ n
number_there n v k is = ap (λ (o : Option ℕ). numbered_by o n v) is

pub all_there : (n : Numbers) (xs : List ℕ) → AllOf (HasNumber n.names) xs → with_numbers n xs ≡ n
all_there n [] h = refl
all_there n (x ∷ xs) h = ap (λ (m : Numbers). with_numbers m xs) (number_there n x h.0.0 h.0.1) ∙ all_there n xs h.1

same_length_by : (o : Option ℕ) (n : Numbers) (v : ℕ) → length (numbered_by o n v).names ≡ length n.names
same_length_by (Some k) n v = refl
same_length_by None n v = length-set n.names v (Some n.next)

pub same_length : (n : Numbers) (xs : List ℕ) → length (with_numbers n xs).names ≡ length n.names
same_length n [] = refl
same_length n (x ∷ xs) = same_length (with_number n x) xs ∙ same_length_by (number_in n.names x) n x

stays_by : (o : Option ℕ) (n : Numbers) (v w : ℕ) → number_in n.names v ≡ o → (w ≡ v) ⊎ (w ≡ v → ⊥) → HasNumber n.names w
    → HasNumber (numbered_by o n v).names w
stays_by (Some k) n v w is e h = h
stays_by None n v w is (inl e) h = absurd (none-some h.0 (sym is ∙ ap (number_in n.names) (sym e) ∙ h.1))
stays_by None n v w is (inr other) h = (h.0, get_or-set_other n.names v w (Some n.next) None other ∙ h.1)

pub stays : (n : Numbers) (xs : List ℕ) (w : ℕ) → HasNumber n.names w → HasNumber (with_numbers n xs).names w
stays n [] w h = h
stays n (x ∷ xs) w h = stays (with_number n x) xs w (stays_by (number_in n.names x) n x w refl (cases_eq w x) h)

given_by : (o : Option ℕ) (n : Numbers) (v : ℕ) → number_in n.names v ≡ o → v < length n.names → HasNumber (numbered_by o n v).names v
given_by (Some k) n v is low = (k, is)
given_by None n v is low = (n.next, get_or-set_same n.names v (Some n.next) None low)

-- what is walked has numbers
pub given : (n : Numbers) (xs : List ℕ) → AllOf (λ v. v < length n.names) xs → AllOf (HasNumber (with_numbers n xs).names) xs
given n [] h = tt
given n (x ∷ xs) h =
    let first = given_by (number_in n.names x) n x refl h.0 in
    let long = same_length_by (number_in n.names x) n x in
    (stays (with_number n x) xs x first, given (with_number n x) xs (subst (λ l. AllOf (λ v. v < l) xs) (sym long) h.1))

-- ---- a step of the walk

-- parts come first
pub step_parts : (all : List MlType) (i : ℕ) (parts old new : List ℕ) (n : Numbers) → IsOver all i parts → variable_in (at all i) ≡ None
    → reverse new ≡ parts ++ reverse old → with_numbers n (coming all new) ≡ with_numbers n (variables_of (at all i) ++ coming all old)
step_parts all i parts old new n over_it no_var is =
    ap (λ (xs : List ℕ). with_numbers n (variables_at (at all) xs)) is
    ∙ ap (with_numbers n) (variables_append (at all) parts (reverse old))
    ∙ ap (λ (xs : List ℕ). with_numbers n (xs ++ coming all old)) (sym (variables_over all i parts over_it no_var))

total_append : (f : ℕ → ℕ) (xs ys : List ℕ) → total f (xs ++ ys) ≡ total f xs + total f ys
total_append f [] ys = omega arith
total_append f (x ∷ xs) ys = let e = total_append f xs ys in omega (arith, e)

pub less_parts : (all : List MlType) (i : ℕ) (parts old new : List ℕ) → IsOver all i parts → reverse new ≡ parts ++ reverse old
    → work all new < size_of (at all i) + work all old
less_parts all i parts old new over_it is =
    let f : ℕ → ℕ = λ p. size_of (at all p) in
    let size = size_over all i parts over_it in
    let sum : work all new ≡ total f parts + work all old = ap (total f) is ∙ total_append f parts (reverse old) in
    omega (arith, size, sum)

pub inside_parts : (all : List MlType) (i : ℕ) (parts old new : List ℕ) → i < length all → All (λ p. p < i) parts
    → All (λ p. p < length all) (reverse old) → reverse new ≡ parts ++ reverse old → All (λ p. p < length all) (reverse new)
inside_parts all i parts old new low earlier inside is =
    let Low : ℕ → Type 0 = λ p. p < length all in
    subst (All Low) (sym is)
    (to_all Low (parts ++ reverse old) (all_both Low parts (reverse old) (lower parts (from_all (λ p. p < i) parts earlier))
    (from_all Low (reverse old) inside)))
  where
    lower : (ps : List ℕ) → AllOf (λ p. p < i) ps → AllOf (λ p. p < length all) ps
    lower [] h = tt
    lower (p ∷ ps) h = ((let l = h.0 in omega (arith, l, low)), lower ps h.1)

-- ---- the next one is taken

pub pop_rest : (pending rest : List ℕ) (next : ℕ) → pending ≡ rest ++ next ∷ [] → reverse pending ≡ next ∷ reverse rest
pop_rest pending rest next is = ap reverse is ∙ reverse_push rest next

pub pop_inside : (all : List MlType) (pending rest : List ℕ) (next : ℕ) → pending ≡ rest ++ next ∷ [] → All (λ p. p < length all) (reverse pending)
    → All (λ p. p < length all) (reverse rest)
pop_inside all pending rest next is inside =
    let Low : ℕ → Type 0 = λ p. p < length all in
    to_all Low (reverse rest) (from_all Low (next ∷ reverse rest) (subst (All Low) (pop_rest pending rest next is) inside)).1

-- ---- slots

opened_at : (all : List MlType) (i : ℕ) → i < length all → slice_index_or (map is_open all) i false ≡ is_open (at all i)
opened_at [] i low = absurd (omega (arith, low))
opened_at (a ∷ as_) zero low = refl
opened_at (a ∷ as_) (suc i) low = opened_at as_ i (omega (arith, low))

pub closed_slot : (all : List MlType) (open_ : List Bool) (i : ℕ) (n : Numbers) → i < length all → open_ ≡ map is_open all
    → slice_index_or open_ i false ≡ false → n ≡ with_numbers n (variables_of (at all i))
closed_slot all open_ i n low are is =
    sym (ap (with_numbers n) (closed_none (at all i)
    (sym (opened_at all i low) ∙ ap (λ (bs : List Bool). slice_index_or bs i false) (sym are) ∙ is)))

module _ (P : ℕ → Type 0) where
  mutual
    to_list : (a : MlType) → Each P a → AllOf P (variables_of a)
    to_list ml.int h = tt
    to_list ml.bool h = tt
    to_list ml.unit h = tt
    to_list (ml.var i) h = (h, tt)
    to_list (ml.arrow a b) h = all_both P (variables_of a) (variables_of b) (to_list a h.0) (to_list b h.1)
    to_list (ml.tuple ts) h = to_lists ts h
    to_list (ml.array a) h = to_list a h
    to_list (ml.named d ts) h = to_lists ts h
    to_list (ml.map_of a) h = to_list a h

    to_lists : (ts : MlTypes) → EachIn P ts → AllOf P (variables_in ts)
    to_lists ml.no_types h = tt
    to_lists (ml.more_types t ts) h = all_both P (variables_of t) (variables_in ts) (to_list t h.0) (to_lists ts h.1)

pub done_slot : (a : MlType) (n : Numbers) → Each (HasNumber n.names) a → n ≡ with_numbers n (variables_of a)
done_slot a n h = sym (all_there n (variables_of a) (to_list (HasNumber n.names) a h))

pub done_next : (all : List MlType) (old new : Numbers) (done : List Bool) (i : ℕ) → i < length done
    → Each (λ v. v < length old.names) (at all i) → AreDone all done old.names → new ≡ with_numbers old (variables_of (at all i))
    → AreDone all (set done i true) new.names
done_next all old new done i low room before is r h = by_cases (cases_eq r i)
  where
    xs : List ℕ
    xs = variables_of (at all i)

    by_cases : (r ≡ i) ⊎ (r ≡ i → ⊥) → Each (HasNumber new.names) (at all r)
    by_cases (inl e) =
        subst (λ j. Each (HasNumber new.names) (at all j)) (sym e)
        (subst (λ (n : Numbers). Each (HasNumber n.names) (at all i)) (sym is)
        (from_list (HasNumber (with_numbers old xs).names) (at all i) (given old xs (to_list (λ v. v < length old.names) (at all i) room))))
    by_cases (inr other) =
        subst (λ (n : Numbers). Each (HasNumber n.names) (at all r)) (sym is)
        (each_weaker (HasNumber old.names) (HasNumber (with_numbers old xs).names) (stays old xs) (at all r)
        (before r (sym (get_or-set_other done i r true false other) ∙ h)))

pub room_next : (all : List MlType) (old new : Numbers) (xs : List ℕ) → new ≡ with_numbers old xs
    → ((r : ℕ) → r < length all → Each (λ v. v < length old.names) (at all r))
    → (r : ℕ) → r < length all → Each (λ v. v < length new.names) (at all r)
room_next all old new xs is room r low =
    let long : length new.names ≡ length old.names = ap (λ (n : Numbers). length n.names) is ∙ same_length old xs in
    subst (λ (k : ℕ). Each (λ v. v < k) (at all r)) (sym long) (room r low)
