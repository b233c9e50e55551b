-- Lengths and measures of objects of one class are equal, one application after the other.
use Rattle.std.proofs.Common.{◌≡◌, ℕ, zero, suc, ◌+◌, ◌<◌, ◌≤◌, ◌⊎◌, inl, inr, List, [], ◌∷◌, Bool, true, false, Option, Some, None, length, refl, sym, ap, subst, ◌∙◌, arith, if◌then◌else◌, slice_get, slice_index}
use Rattle.std.proofs.lemmas.Option.{slice_get_within}
use Rattle.lq_prover_proof_tree.specs.Trees.Path.{Fact}
use Rattle.lq_prover_proof_tree.specs.Trees.Proves.{rows_among}
use Rattle.lq_logic_rows.specs.Contradiction.{Solves}
use Rattle.lq_logic_rows.specs.Row.{Valuation}
use Rattle.lq_prover_proof_tree.specs.Literals.Parts.{is_application, places_from}
use Rattle.lq_base_names.specs.declared.name.Name.{Name}
use Rattle.lq_prover_case.specs.Objects.Joined.{AreOne}
use Rattle.lq_prover_case.specs.declared.objects.fact.ObjectFact.{ObjectFact}
use Rattle.lq_logic_predicates.specs.Numbering.{index_of-slice_get}
use Rattle.lq_logic_predicates.specs.Sum.{Sum, whole, var, neg, add, sub, mul, div, rem, len, measure}
use Rattle.lq_logic_predicates.specs.Table.{all_differ}
use Rattle.lq_prover_case.specs.Equations.Equating.{AreEquated, EachEquated, IsApplication, IsEquated, KeepsFirsts, applied, first_at}
use Rattle.lq_prover_case.specs.declared.equations.application.Application.{Application}
use Rattle.lq_prover_case.specs.declared.equations.application.FunctionAt.{FunctionAt}

-- ---- one more application

pub fewer : (k n : ℕ) → k < suc n → (k < n) ⊎ (k ≡ n)
fewer zero zero h = inr refl
fewer zero (suc n) h = inl (omega arith)
fewer (suc k) zero h = absurd (omega (arith, h))
fewer (suc k) (suc n) h = by (fewer k n (omega (arith, h)))
  where
    by : (k < n) ⊎ (k ≡ n) → (suc k < suc n) ⊎ (suc k ≡ suc n)
    by (inl l) = inl (omega (arith, l))
    by (inr e) = inr (ap suc e)

-- what is found stays where entries and equations are added
equated_still : (objects : List Sum) (classes : List ℕ) (es new : List (FunctionAt × Application)) (facts more : List Fact) (m : Option Name) (a : Sum) (p : ℕ) → KeepsFirsts es new
    → ((v : Valuation) → Solves v (rows_among more) → Solves v (rows_among facts)) → IsEquated objects classes es facts m a p → IsEquated objects classes new more m a p
equated_still objects classes es new facts more m a p k s x = record {
  object = x.object;
  is = x.is;
  first = x.first;
  found = k (record { measure = m; class = slice_index classes x.object }) x.first x.found;
  equal = λ v h. x.equal v (s v h);
}

object_of : Sum → Sum
object_of (whole n) = whole n
object_of (var x) = var x
object_of (neg a) = neg a
object_of (add a b) = add a b
object_of (sub a b) = sub a b
object_of (mul a b) = mul a b
object_of (div a b) = div a b
object_of (rem a b) = rem a b
object_of (len a) = a
object_of (measure f a) = a

function_of : Sum → Option Name
function_of (whole n) = None
function_of (var x) = None
function_of (neg a) = None
function_of (add a b) = None
function_of (sub a b) = None
function_of (mul a b) = None
function_of (div a b) = None
function_of (rem a b) = None
function_of (len a) = None
function_of (measure f a) = Some f

object_of-applied : (m : Option Name) (a : Sum) → object_of (applied m a) ≡ a
unfolding object_of
object_of-applied None a = refl
object_of-applied (Some f) a = refl

function_of-applied : (m : Option Name) (a : Sum) → function_of (applied m a) ≡ m
unfolding function_of
function_of-applied None a = refl
function_of-applied (Some f) a = refl

same_object : (m n : Option Name) (a b : Sum) → applied m a ≡ applied n b → a ≡ b
same_object m n a b e = sym (object_of-applied m a) ∙ ap object_of e ∙ object_of-applied n b

same_function : (m n : Option Name) (a b : Sum) → applied m a ≡ applied n b → m ≡ n
same_function m n a b e = sym (function_of-applied m a) ∙ ap function_of e ∙ function_of-applied n b

some_same : {X : Type 0} (x y : X) → Some x ≡ Some y → x ≡ y
some_same {X} x y e = cc

pub each_next : (objects terms : List Sum) (classes : List ℕ) (n : ℕ) (es new : List (FunctionAt × Application)) (facts more : List Fact) (later first : Application)
    → KeepsFirsts es new → ((v : Valuation) → Solves v (rows_among more) → Solves v (rows_among facts)) → IsApplication objects terms later → later.index ≡ n
    → first_at new (record { measure = later.measure; class = slice_index classes later.object }) ≡ Some first
    → ((v : Valuation) → Solves v (rows_among more) → v first.term ≡ v later.term) → EachEquated objects terms classes n es facts
    → EachEquated objects terms classes (suc n) new more
each_next objects terms classes n es new facts more later first keeps solves is at found equal h k p m a l e g = by (fewer k n l)
  where
    by : (k < n) ⊎ (k ≡ n) → IsEquated objects classes new more m a p
    by (inl less) = equated_still objects classes es new facts more m a p keeps solves (h k p m a less e g)
    by (inr last) =
        let place : later.term ≡ p = some_same later.term p (sym is.place ∙ ap (slice_get (places_from 0 terms)) (at ∙ sym last) ∙ e) in
        let term : applied later.measure is.argument ≡ applied m a = some_same (applied later.measure is.argument) (applied m a) (sym is.term ∙ ap (slice_get terms) place ∙ g) in
        let object : is.argument ≡ a = same_object later.measure m is.argument a term in
        let function : later.measure ≡ m = same_function later.measure m is.argument a term in record {
          object = later.object;
          is = is.object ∙ ap Some object;
          first = first;
          found = subst (λ f. first_at new (record { measure = f; class = slice_index classes later.object }) ≡ Some first) function found;
          equal = λ v s. equal v s ∙ ap v place;
        }

pub each_none : (objects terms : List Sum) (classes : List ℕ) (es : List (FunctionAt × Application)) (facts : List Fact) → EachEquated objects terms classes 0 es facts
each_none objects terms classes es facts k p m a l e g = absurd (omega (arith, l))

-- an application that is neither a length nor a measure
pub each_skip : (objects terms : List Sum) (classes : List ℕ) (n t : ℕ) (es : List (FunctionAt × Application)) (facts : List Fact) → slice_get (places_from 0 terms) n ≡ Some t
    → ((m : Option Name) (a : Sum) → slice_get terms t ≡ Some (applied m a) → ⊥) → EachEquated objects terms classes n es facts → EachEquated objects terms classes (suc n) es facts
each_skip objects terms classes n t es facts place none h k p m a l e g = by (fewer k n l)
  where
    by : (k < n) ⊎ (k ≡ n) → IsEquated objects classes es facts m a p
    by (inl less) = h k p m a less e g
    by (inr last) =
        let same_place : p ≡ t = some_same p t (sym e ∙ ap (slice_get (places_from 0 terms)) last ∙ place) in
        absurd (none m a (ap (slice_get terms) (sym same_place) ∙ g))

pub each_same : (objects terms : List Sum) (classes : List ℕ) (n m : ℕ) (es : List (FunctionAt × Application)) (facts : List Fact) → n ≡ m → EachEquated objects terms classes n es facts
    → EachEquated objects terms classes m es facts
each_same objects terms classes n m es facts e h = subst (λ k. EachEquated objects terms classes k es facts) e h

-- ---- all applications

-- a term that is an application has a place among them, where the first term has the number n
record HasPlace (n : ℕ) (ts : List Sum) (p : ℕ) : Type 0 where
  index : ℕ
  is : slice_get (places_from n ts) index ≡ Some (n + p)

has_place : (n : ℕ) (ts : List Sum) (p : ℕ) (t : Sum) → slice_get ts p ≡ Some t → is_application t ≡ true → HasPlace n ts p
has_place n [] p t e a = cc
has_place n (u ∷ ts) zero t e a =
    let same_one : u ≡ t = some_same u t e in
    let k : n ≡ n + zero = omega arith in
    record { index = 0; is = ap (λ b. slice_get (if b then n ∷ places_from (suc n) ts else places_from (suc n) ts) 0) (ap is_application same_one ∙ a) ∙ ap Some k }
has_place n (u ∷ ts) (suc p) t e a = by (is_application u) refl (has_place (suc n) ts p t e a)
  where
    k : suc n + p ≡ n + suc p
    k = omega arith

    by : (b : Bool) → is_application u ≡ b → HasPlace (suc n) ts p → HasPlace n (u ∷ ts) (suc p)
    by true c r = record { index = suc r.index; is = ap (λ b. slice_get (if b then n ∷ places_from (suc n) ts else places_from (suc n) ts) (suc r.index)) c ∙ r.is ∙ ap Some k }
    by false c r = record { index = r.index; is = ap (λ b. slice_get (if b then n ∷ places_from (suc n) ts else places_from (suc n) ts) r.index) c ∙ r.is ∙ ap Some k }

is_applied : (m : Option Name) (a : Sum) → is_application (applied m a) ≡ true
is_applied None a = refl
is_applied (Some f) a = refl

equated_at : (objects terms : List Sum) (classes : List ℕ) (n p : ℕ) (es : List (FunctionAt × Application)) (facts : List Fact) (m : Option Name) (a : Sum)
    → length (places_from 0 terms) ≤ n → EachEquated objects terms classes n es facts → slice_get terms p ≡ Some (applied m a) → IsEquated objects classes es facts m a p
equated_at objects terms classes n p es facts m a l h e =
    let r = has_place 0 terms p (applied m a) e (is_applied m a) in
    let zero_more : 0 + p ≡ p = omega arith in
    let is : slice_get (places_from 0 terms) r.index ≡ Some p = r.is ∙ ap Some zero_more in
    let w = slice_get_within (places_from 0 terms) r.index p is in
    h r.index p m a (omega (arith, w, l)) is e

same_number : (objects : List Sum) (i j : ℕ) (a : Sum) → all_differ objects ≡ true → slice_get objects i ≡ Some a → slice_get objects j ≡ Some a → i ≡ j
same_number objects i j a d e f = sym (index_of-slice_get objects i a d e) ∙ index_of-slice_get objects j a d f

pub each_all : (objects terms : List Sum) (classes : List ℕ) (about : List ObjectFact) (n : ℕ) (es : List (FunctionAt × Application)) (facts : List Fact) → all_differ objects ≡ true
    → length (places_from 0 terms) ≤ n → ((i j : ℕ) → i < length objects → j < length objects → AreOne about i j → slice_index classes i ≡ slice_index classes j)
    → EachEquated objects terms classes n es facts → AreEquated objects terms about facts
each_all objects terms classes about n es facts d l one h p q i j m a b e f g k o v s =
    let x = equated_at objects terms classes n p es facts m a l h e in
    let y = equated_at objects terms classes n q es facts m b l h f in
    let xi : x.object ≡ i = same_number objects x.object i a d x.is g in
    let yj : y.object ≡ j = same_number objects y.object j b d y.is k in
    let class : slice_index classes x.object ≡ slice_index classes y.object =
    ap (slice_index classes) xi ∙ one i j (slice_get_within objects i a g) (slice_get_within objects j b k) o ∙ ap (slice_index classes) (sym yj) in
    let first : x.first ≡ y.first = some_same x.first y.first (sym x.found ∙ ap (λ c. first_at es (record { measure = m; class = c })) class ∙ y.found) in
    sym (x.equal v s) ∙ ap (λ (z : Application). v z.term) first ∙ y.equal v s
