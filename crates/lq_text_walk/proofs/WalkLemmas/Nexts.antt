-- A step of a walk: what comes next, and what is left.
use Rattle.std.proofs.Common.{◌≡◌, ℕ, ◌<◌, ◌≤◌, ◌-◌, ◌+◌, List, [], ◌∷◌, ◌++◌, map, take, reverse, length, slice_set, set, slice_index_or, get_or, Bor, refl, sym, ap, ◌∙◌, arith}
use Rattle.std.proofs.lemmas.List.{append_assoc, append-nil, reverse-append, reverse-reverse, take_at, take_more, take_all, map-append, length-map, length-take-le}
use Rattle.lq_text_tree.specs.Items.{ItemTree}
use Rattle.lq_text_tree.specs.declared.expr.Expr.{Expr}
use Rattle.lq_text_tree.specs.declared.item.Item.{Item}
use Rattle.lq_text_tree.specs.Pattern.{Pattern}
use Rattle.lq_text_tree.specs.Tree.{Tree, tree}
use Rattle.lq_text_walk.specs.Walk.Parts.{inside, with_behind}
use Rattle.lq_text_walk.specs.Walk.Pending.{spread, spread_all, visit_view}
use Rattle.lq_text_walk.specs.declared.walk.walk.Visit as memory
use Rattle.lq_text_walk.specs.declared.walk.walk.Visit.TheVariants as of
use Rattle.lq_text_walk.specs.Walk.Visits as plain
use Rattle.lq_text_walk.specs.Walk.Visits.{Visit, visits_of, visits_of_item, visits_of_items}
use Rattle.lq_text_walk.proofs.WalkLemmas.Spreads.{spread_append, spreads, item_spreads}

-- what a list stands for whose last is this
last_first : (front : List Visit) (v : Visit) → spread_all (reverse (front ++ v ∷ [])) ≡ spread v ++ spread_all (reverse front)
last_first front v = ap spread_all (reverse-append front (v ∷ []))

-- parts behind a visit
parts_first : (front ps : List Visit) (w : Visit) → spread_all (reverse ((front ++ w ∷ []) ++ reverse ps)) ≡ spread_all ps ++ (spread w ++ spread_all (reverse front))
parts_first front ps w =
    ap spread_all (reverse-append (front ++ w ∷ []) (reverse ps) ∙ ap (λ (l : List Visit). l ++ reverse (front ++ w ∷ [])) (reverse-reverse ps))
    ∙ spread_append ps (reverse (front ++ w ∷ [])) ∙ ap (λ (l : List Visit). spread_all ps ++ l) (last_first front w)

replaced : (front ps : List Visit) (v w : Visit) → slice_set ((front ++ v ∷ []) ++ ps) (length front) w ≡ (front ++ w ∷ []) ++ ps
replaced [] ps v w = refl
replaced (u ∷ front) ps v w = ap (λ (l : List Visit). u ∷ l) (replaced front ps v w)

-- where what is entered gives way to its parts and to what leaves it
entered : (front ps : List Visit) (v w : Visit) → spread v ≡ v ∷ (spread_all ps ++ w ∷ []) → spread w ≡ w ∷ []
    → spread_all (reverse (front ++ v ∷ [])) ≡ v ∷ spread_all (reverse (slice_set ((front ++ v ∷ []) ++ reverse ps) (length front) w))
entered front ps v w opens leaves =
    last_first front v ∙ ap (λ (l : List Visit). l ++ spread_all (reverse front)) opens
    ∙ ap (λ (l : List Visit). v ∷ l) (append_assoc (spread_all ps) (w ∷ []) (spread_all (reverse front))
    ∙ ap (λ (l : List Visit). spread_all ps ++ (l ++ spread_all (reverse front))) (sym leaves)
    ∙ sym (parts_first front ps w)
    ∙ ap (λ (l : List Visit). spread_all (reverse l)) (sym (replaced front (reverse ps) v w)))

-- where a visit without an inside goes
gone : (front : List Visit) (v : Visit) → spread v ≡ v ∷ [] → spread_all (reverse (front ++ v ∷ [])) ≡ v ∷ spread_all (reverse (take (length front) ((front ++ v ∷ []) ++ [])))
gone front v alone =
    last_first front v ∙ ap (λ (l : List Visit). l ++ spread_all (reverse front)) alone
    ∙ ap (λ (l : List Visit). v ∷ spread_all (reverse l)) (sym (ap (take (length front)) (append-nil (front ++ v ∷ [])) ∙ take_at front (v ∷ []) (length front) refl))

abbrev Next : List Visit → Visit → Type 0
Next front v = spread_all (reverse (front ++ v ∷ [])) ≡ v ∷ spread_all (reverse (with_behind v (length front) ((front ++ v ∷ []) ++ reverse (inside v))))

pub next_of : (front : List Visit) (v : Visit) → Next front v
next_of front (plain.enter_item i) = entered front (inside (plain.enter_item i)) (plain.enter_item i) (plain.leave_item i) (item_spreads i) refl
next_of front (plain.leave_item i) = gone front (plain.leave_item i) refl
next_of front (plain.enter (tree i p f)) = entered front (inside (plain.enter (tree i p f))) (plain.enter (tree i p f)) (plain.leave (tree i p f)) (spreads i p f) refl
next_of front (plain.leave t) = gone front (plain.leave t) refl
next_of front (plain.leave_function r) = gone front (plain.leave_function r) refl
next_of front (plain.declare q) = gone front (plain.declare q) refl
next_of front (plain.show q) = gone front (plain.show q) refl
next_of front (plain.hide q) = gone front (plain.hide q) refl
next_of front (plain.show_name x) = gone front (plain.show_name x) refl
next_of front (plain.hide_name x) = gone front (plain.hide_name x) refl

-- a list ends with its last
ends_with : {X : Type 0} (xs : List X) (x : X) → 0 < length xs → slice_index_or xs (length xs - 1) x ≡ x → xs ≡ take (length xs - 1) xs ++ x ∷ []
ends_with {X} xs x some is =
    let more = take_more xs (length xs - 1) x (omega (arith, some)) in
    let whole : length xs - 1 + 1 ≡ length xs = omega (arith, some) in
    sym (take_all (length xs) xs (omega arith)) ∙ ap (λ (n : ℕ). take n xs) (sym whole) ∙ more ∙ ap (λ (y : X). take (length xs - 1) xs ++ y ∷ []) is

pub next_in : {X : Type 0} (f : X → Visit) (old : List X) (x : X) (parts new : List Visit) (height : ℕ) → height ≡ length old → (height ≡ 0 → ⊥) → x ≡ slice_index_or old (height - 1) x
    → parts ≡ inside (f x) → new ≡ with_behind (f x) (height - 1) (map f old ++ reverse parts) → spread_all (reverse (map f old)) ≡ f x ∷ spread_all (reverse new)
next_in {X} f old x parts new height is some last are now =
    let tall : 0 < length old = omega (arith, is, some) in
    let same : height - 1 ≡ length old - 1 = omega (arith, is) in
    let split : old ≡ take (length old - 1) old ++ x ∷ [] = ends_with old x tall (ap (λ (n : ℕ). slice_index_or old n x) (sym same) ∙ sym last) in
    let front : List Visit = map f (take (length old - 1) old) in
    let seen : map f old ≡ front ++ f x ∷ [] = ap (map f) split ∙ map-append f (take (length old - 1) old) (x ∷ []) in
    let high : length front ≡ height - 1 = length-map (take (length old - 1) old) f ∙ length-take-le (length old - 1) old (omega arith) ∙ sym same in
    ap (λ (l : List Visit). spread_all (reverse l)) seen ∙ next_of front (f x)
    ∙ ap (λ (l : List Visit). f x ∷ spread_all (reverse l)) (sym (now ∙ ap (λ (l : List Visit). with_behind (f x) (height - 1) (map f old ++ reverse l)) are
    ∙ ap (λ (l : List Visit). with_behind (f x) (height - 1) (l ++ reverse (inside (f x)))) seen
    ∙ ap (λ (n : ℕ). with_behind (f x) n ((front ++ f x ∷ []) ++ reverse (inside (f x)))) (sym high)))

-- a visit that isn't entered leaves nothing in its place
pub leaves_nothing : (B : Type 0) (number : B → ℕ) (v : memory.Visit B) (at : ℕ) (vs : List Visit) → ((x : Bor (Item B)) → v ≡ of.EnterItem x → ⊥) → ((x : Bor (Expr B)) → v ≡ of.Enter x → ⊥)
    → take at vs ≡ with_behind (visit_view B number v) at vs
leaves_nothing B number (of.EnterItem x) at vs item node = absurd (item x refl)
leaves_nothing B number (of.LeaveItem x) at vs item node = refl
leaves_nothing B number (of.Enter x) at vs item node = absurd (node x refl)
leaves_nothing B number (of.Leave x) at vs item node = refl
leaves_nothing B number (of.LeaveFunction x) at vs item node = refl
leaves_nothing B number (of.Declare x) at vs item node = refl
leaves_nothing B number (of.Show x) at vs item node = refl
leaves_nothing B number (of.Hide x) at vs item node = refl
leaves_nothing B number (of.ShowName x) at vs item node = refl
leaves_nothing B number (of.HideName x) at vs item node = refl

pub map_reverse : {X Y : Type 0} (f : X → Y) (xs : List X) → map f (reverse xs) ≡ reverse (map f xs)
map_reverse f [] = refl
map_reverse f (x ∷ xs) =
    ap (map f) (reverse-append (x ∷ []) xs) ∙ map-append f (reverse xs) (x ∷ []) ∙ ap (λ l. l ++ f x ∷ []) (map_reverse f xs) ∙ sym (reverse-append (f x ∷ []) (map f xs))

-- what was extended by parts, seen
pub extended : {X : Type 0} (f : X → Visit) (old parts turned new : List X) → turned ≡ reverse parts → new ≡ old ++ turned → map f new ≡ map f old ++ reverse (map f parts)
extended f old parts turned new turns is =
    ap (map f) (is ∙ ap (λ l. old ++ l) turns) ∙ map-append f old (reverse parts) ∙ ap (λ l. map f old ++ l) (map_reverse f parts)

-- the items of a program, the first last
pub items_of_all : (is : List ItemTree) → spread_all (map plain.enter_item is) ≡ visits_of_items is
items_of_all [] = refl
items_of_all (i ∷ is) = ap (λ (l : List Visit). visits_of_item i ++ l) (items_of_all is)

pub items_more : {X : Type 0} (f : X → ItemTree) (xs : List X) (at : ℕ) (x : X) (old new : List Visit) → at < length xs → x ≡ get_or xs at x → old ≡ map plain.enter_item (map f (take at xs))
    → new ≡ old ++ plain.enter_item (f x) ∷ [] → new ≡ map plain.enter_item (map f (take (at + 1) xs))
items_more {X} f xs at x old new within is before pushed =
    let longer : take (at + 1) xs ≡ take at xs ++ x ∷ [] = take_more xs at x within ∙ ap (λ (y : X). take at xs ++ y ∷ []) (sym is) in
    pushed ∙ ap (λ (l : List Visit). l ++ plain.enter_item (f x) ∷ []) before
    ∙ sym (ap (λ (l : List X). map plain.enter_item (map f l)) longer ∙ ap (map plain.enter_item) (map-append f (take at xs) (x ∷ [])) ∙ map-append plain.enter_item (map f (take at xs)) (f x ∷ []))

pub items_whole : {X : Type 0} (f : X → ItemTree) (xs : List X) (at : ℕ) (seen turned : List Visit) → length xs ≤ at → seen ≡ map plain.enter_item (map f (take at xs)) → turned ≡ reverse seen
    → spread_all (reverse turned) ≡ visits_of_items (map f xs)
items_whole {X} f xs at seen turned far before turns =
    ap (λ (l : List Visit). spread_all (reverse l)) turns ∙ ap spread_all (reverse-reverse seen ∙ before ∙ ap (λ (l : List X). map plain.enter_item (map f l)) (take_all at xs far))
    ∙ items_of_all (map f xs)
