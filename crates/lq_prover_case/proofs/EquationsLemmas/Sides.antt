-- Objects that are there, as more come.
use Rattle.std.proofs.Common.{Result, Ok, Err, IfErr, OnErr, OnOk, ◌≡◌, ℕ, zero, suc, ◌+◌, ◌<◌, List, [], ◌∷◌, ◌++◌, Bool, true, false, Some, if◌then◌else◌, length, map, take, get_or, slice_get, refl, sym, ap, subst, ◌∙◌, arith}
use Rattle.std.proofs.lemmas.List.{map-append, take_more}
use Rattle.lq_prover_proof_tree.specs.Trees.Path.{Fact, row_fact, flag_fact, objects_fact, never}
use Rattle.lq_logic_predicates.specs.Numbering.{has_term-append, has_term-with_term}
use Rattle.lq_logic_predicates.specs.Sum.{Sum, whole, var, neg, add, sub, mul, div, rem, len, measure}
use Rattle.lq_logic_predicates.specs.Table.{has_term, with_term}
use Rattle.lq_prover_case.specs.Equations.Naming.{HasSides, HasArgument, HasAllSides, HasAllArguments, Keeps}

pub keeps_with : (os : List Sum) (a : Sum) → Keeps os (with_term os a)
keeps_with os a = λ t h. by t h (has_term os a)
  where
    by : (t : Sum) → has_term os t ≡ true → (b : Bool) → has_term (if b then os else os ++ a ∷ []) t ≡ true
    by t h true = h
    by t h false = has_term-append os (a ∷ []) t h

pub keeps_new : (os new : List Sum) (a : Sum) → new ≡ with_term os a → Keeps os new × (has_term new a ≡ true)
keeps_new os new a e = (subst (Keeps os) (sym e) (keeps_with os a), subst (λ l. has_term l a ≡ true) (sym e) (has_term-with_term os a))

pub keeps_same : (old new : List Sum) → new ≡ old → Keeps old new
keeps_same old new e = subst (Keeps old) (sym e) (λ t h. h)

pub keeps_then : (a b c : List Sum) → Keeps a b → Keeps b c → Keeps a c
keeps_then a b c f g = λ t h. g t (f t h)

-- whether there was memory for it or not
pub keeps_either : {T E : Type 0} (r : Result T E) (old new : List Sum) (a : Sum) → OnOk r (new ≡ with_term old a) → OnErr r (new ≡ old) → Keeps old new
keeps_either (Ok x) old new a e f = (keeps_new old new a e).0
keeps_either (Err x) old new a e f = keeps_same old new f

pub ruleset keeping = (keeps_same, keeps_then)

pub sides_keep : (old new : List Sum) (f : Fact) → Keeps old new → HasSides old f → HasSides new f
sides_keep old new (objects_fact a b one) k h = (k a h.0, k b h.1)
sides_keep old new (row_fact r) k h = tt
sides_keep old new (flag_fact x value) k h = tt
sides_keep old new never k h = tt

pub argument_keeps : (old new : List Sum) (t : Sum) → Keeps old new → HasArgument old t → HasArgument new t
argument_keeps old new (len a) k h = k a h
argument_keeps old new (measure f a) k h = k a h
argument_keeps old new (whole n) k h = tt
argument_keeps old new (var x) k h = tt
argument_keeps old new (neg a) k h = tt
argument_keeps old new (add a b) k h = tt
argument_keeps old new (sub a b) k h = tt
argument_keeps old new (mul a b) k h = tt
argument_keeps old new (div a b) k h = tt
argument_keeps old new (rem a b) k h = tt

-- what holds of each item of a list holds of each where one is added
pub push_each : {X : Type 0} (P : X → Type 0) (xs : List X) (x y : X) (k : ℕ) → ((j : ℕ) (z : X) → slice_get xs j ≡ Some z → P z) → P x → slice_get (xs ++ x ∷ []) k ≡ Some y → P y
push_each {X} P [] x y zero h p e = let w : x ≡ y = cc in subst P w p
push_each {X} P [] x y (suc k) h p e = absurd (cc)
push_each {X} P (z ∷ xs) x y zero h p e = h zero y e
push_each {X} P (z ∷ xs) x y (suc k) h p e = push_each P xs x y k (λ j. h (suc j)) p e

pub all_sides_push : (old new : List Sum) (fs : List Fact) (f : Fact) → HasAllSides old fs → Keeps old new → HasSides new f → HasAllSides new (fs ++ f ∷ [])
all_sides_push old new fs f h k n = λ i g e. push_each (HasSides new) fs f g i (λ j z q. sides_keep old new z k (h j z q)) n e

pub all_arguments_push : (old new : List Sum) (ts : List Sum) (t : Sum) → HasAllArguments old ts → Keeps old new → HasArgument new t → HasAllArguments new (ts ++ t ∷ [])
all_arguments_push old new ts t h k n = λ i g e. push_each (HasArgument new) ts t g i (λ j z q. argument_keeps old new z k (h j z q)) n e

pub seen-more : {X Y : Type 0} (view : X → Y) (xs : List X) (i : ℕ) (x d : X) → i < length xs → x ≡ get_or xs i d → map view (take (i + 1) xs) ≡ map view (take i xs) ++ view x ∷ []
seen-more {X} {Y} view xs i x d less is =
    ap (map view) (take_more xs i d less) ∙ map-append view (take i xs) (get_or xs i d ∷ []) ∙ ap (λ (y : X). map view (take i xs) ++ view y ∷ []) (sym is)

pub take_next : (ts : List Sum) (i : ℕ) (t : Sum) → slice_get ts i ≡ Some t → take (i + 1) ts ≡ take i ts ++ t ∷ []
take_next [] i t e = cc
take_next (u ∷ ts) zero t e = let same_one : u ≡ t = cc in ap (λ x. x ∷ []) same_one
take_next (u ∷ ts) (suc i) t e =
    let k : suc i + 1 ≡ suc (i + 1) = omega arith in ap (λ n. take n (u ∷ ts)) k ∙ ap (λ l. u ∷ l) (take_next ts i t e)

-- an item that is read is an item of the list that is seen
pub seen_at : {X Y : Type 0} (view : X → Y) (xs : List X) (i : ℕ) (x d : X) → i < length xs → x ≡ get_or xs i d → slice_get (map view xs) i ≡ Some (view x)
seen_at {X} {Y} view [] i x d less is = absurd (omega (arith, less))
seen_at {X} {Y} view (y ∷ xs) zero x d less is = ap (λ z. Some (view z)) (sym is)
seen_at {X} {Y} view (y ∷ xs) (suc i) x d less is = seen_at view xs i x d (omega (arith, less)) is

-- the first items and the others
pub parted : {X : Type 0} (n : ℕ) (xs : List X) → (rest : List X) × (xs ≡ take n xs ++ rest)
parted {X} zero xs = (xs, refl)
parted {X} (suc n) [] = ([], refl)
parted {X} (suc n) (x ∷ xs) = let p = parted n xs in (p.0, ap (λ l. x ∷ l) p.1)

pub on_ok : {X E : Type 0} {P Q : Type 0} (r : Result X E) → (P → Q) → OnOk r P → OnOk r Q
on_ok {X} {E} {P} {Q} (Ok x) f h = f h
on_ok {X} {E} {P} {Q} (Err e) f h = tt

pub if_err : {X E : Type 0} {P Q : E → Type 0} (r : Result X E) → ((e : E) → P e → Q e) → IfErr r P → IfErr r Q
if_err {X} {E} {P} {Q} (Ok x) f h = tt
if_err {X} {E} {P} {Q} (Err e) f h = f e h
