-- Parts, their roots and their types.
use Rattle.std.proofs.Common.{◌≡◌, ℕ, zero, suc, ◌+◌, ◌<◌, ◌≤◌, List, [], ◌∷◌, ◌++◌, Option, Some, None, All, length, get_or, take, drop, map, refl, sym, ap, ap₂, subst, ◌∙◌, arith, length-take-le, length-drop, get_or-take, get_or-drop, append_assoc}
use Rattle.std.proofs.lemmas.List.{get_or_read, take-append-le, take_more}
use Rattle.lq_types_unify.specs.declared.arena.Head.{Head}
use Rattle.lq_types_unify.specs.declared.arena.Equation.{Equation}
use Rattle.lq_types_unify.specs.Simple.{Simple, made, Simples, more, each}
use Rattle.std.specs.Option.{option_map}
use Rattle.lq_types_unify.specs.declared.arena.Node.{Node}
use Rattle.lq_types_unify.specs.declared.arena.Node.TheVariants.{Open, Made}
use Rattle.lq_types_unify.specs.declared.arena.Arena.{Arena}
use Rattle.lq_types_unify.specs.Nodes.{Form, renamed, form_of, form_at, FitsIn, IsArena}
use Rattle.lq_types_unify.specs.Solution.{Fits}
use Rattle.lq_types_unify.specs.Classes.{root, rooted, Grows, AreShared, AreFollowed}
use Rattle.lq_types_unify.proofs.Linking.{All_push}
use Rattle.lq_types_unify.proofs.Roots.{at_root}

-- ---- two rows of parts

pub map_same : (f : ℕ → ℕ) (xs ys : List ℕ) → length xs ≡ length ys → ((k : ℕ) → k < length xs → f (get_or xs k 0) ≡ f (get_or ys k 0)) → map f xs ≡ map f ys
map_same f [] [] e h = refl
map_same f [] (y ∷ ys) e h = absurd (cc)
map_same f (x ∷ xs) [] e h = absurd (cc)
map_same f (x ∷ xs) (y ∷ ys) e h = ap₂ (λ a b. a ∷ b) (h 0 (omega arith)) (map_same f xs ys (cc) (λ k l. h (suc k) (omega arith)))

pub each_length : (types : ℕ → Simple) (xs ys : List ℕ) → each types xs ≡ each types ys → length xs ≡ length ys
each_length types [] [] e = refl
each_length types [] (y ∷ ys) e = absurd (cc)
each_length types (x ∷ xs) [] e = absurd (cc)
each_length types (x ∷ xs) (y ∷ ys) e = ap suc (each_length types xs ys (cc))

pub each_at : (types : ℕ → Simple) (xs ys : List ℕ) → each types xs ≡ each types ys → (k : ℕ) → k < length xs → types (get_or xs k 0) ≡ types (get_or ys k 0)
each_at types [] ys e k h = absurd (omega arith)
each_at types (x ∷ xs) [] e k h = absurd (cc)
each_at types (x ∷ xs) (y ∷ ys) e zero h = cc
each_at types (x ∷ xs) (y ∷ ys) e (suc k) h = each_at types xs ys (cc) k (omega arith)

pub each_same : (f g : ℕ → Simple) (xs ys : List ℕ) → length xs ≡ length ys → ((k : ℕ) → k < length xs → f (get_or xs k 0) ≡ g (get_or ys k 0)) → each f xs ≡ each g ys
each_same f g [] [] e h = refl
each_same f g [] (y ∷ ys) e h = absurd (cc)
each_same f g (x ∷ xs) [] e h = absurd (cc)
each_same f g (x ∷ xs) (y ∷ ys) e h = ap₂ more (h 0 (omega arith)) (each_same f g xs ys (cc) (λ k l. h (suc k) (omega arith)))

pub row_length : (xs : List ℕ) (first count : ℕ) → first + count ≤ length xs → length (take count (drop first xs)) ≡ count
row_length xs first count h = length-take-le count (drop first xs) (omega (arith, length-drop first xs))

pub row_at : (xs : List ℕ) (first count k : ℕ) → k < count → get_or (take count (drop first xs)) k 0 ≡ get_or xs (first + k) 0
row_at xs first count k h = get_or-take count (drop first xs) k 0 h ∙ get_or-drop first xs k 0

pub rows_map : (f : ℕ → ℕ) (xs : List ℕ) (first start count : ℕ) → first + count ≤ length xs → start + count ≤ length xs
    → ((k : ℕ) → k < count → f (get_or xs (first + k) 0) ≡ f (get_or xs (start + k) 0)) → map f (take count (drop first xs)) ≡ map f (take count (drop start xs))
rows_map f xs first start count h i same = map_same f (take count (drop first xs)) (take count (drop start xs)) (row_length xs first count h ∙ sym (row_length xs start count i))
    (λ k l. let m : k < count = omega (arith, row_length xs first count h) in
    ap f (row_at xs first count k m) ∙ same k m ∙ ap f (sym (row_at xs start count k m)))

pub rows_types : (types : ℕ → Simple) (xs : List ℕ) (first start count : ℕ) → first + count ≤ length xs
    → each types (take count (drop first xs)) ≡ each types (take count (drop start xs)) → (k : ℕ) → k < count → types (get_or xs (first + k) 0) ≡ types (get_or xs (start + k) 0)
rows_types types xs first start count h e k l =
    ap types (sym (row_at xs first count k l)) ∙ each_at types (take count (drop first xs)) (take count (drop start xs)) e k (omega (arith, row_length xs first count h)) ∙ ap types (row_at xs start count k l)

pub made_head : (h i : Head) (ts us : Simples) → made h ts ≡ made i us → h ≡ i
made_head h i ts us e = cc

pub made_parts : (h i : Head) (ts us : Simples) → made h ts ≡ made i us → ts ≡ us
made_parts h i ts us e = cc

-- ---- what stays

pub grows_then : (a b c : List ℕ) (f g h : List Equation) → Grows a b f g → Grows b c g h → Grows a c f h
grows_then a b c f g h s t = record {
  coarser = λ i. sym (t.coarser (root a i)) ∙ ap (root c) (s.coarser i) ∙ t.coarser i;
  added = s.added ++ t.added;
  after_is = t.after_is ∙ ap (λ l. l ++ t.added) s.after_is ∙ append_assoc f s.added t.added;
  room = let r = s.room in let q = t.room in omega arith;
}

map_later : (f g : ℕ → ℕ) → ((i : ℕ) → g (f i) ≡ g i) → (xs : List ℕ) → map g (map f xs) ≡ map g xs
map_later f g h [] = refl
map_later f g h (x ∷ xs) = ap₂ (λ a b. a ∷ b) (h x) (map_later f g h xs)

-- ---- what is read of two nodes

pub form_read : (a : Arena) (i : ℕ) (x : Node) (h : Head) (first count : ℕ) → i < length a.nodes.items → x ≡ get_or a.nodes.items i x → x ≡ Made h first count
    → form_at a i ≡ Some (record { head = h; parts = take count (drop first a.parts.items) })
form_read a i x h first count l e m = ap (form_of a.parts.items) (sym (get_or_read a.nodes.items i x l e Open) ∙ m)

pub fits_read : (a : Arena) → IsArena a → (i : ℕ) (x : Node) (h : Head) (first count : ℕ) → i < length a.nodes.items → x ≡ get_or a.nodes.items i x → x ≡ Made h first count
    → first + count ≤ length a.parts.items
fits_read a w i x h first count l e m = subst (FitsIn a.parts.items) (sym (get_or_read a.nodes.items i x l e Open) ∙ m) (w.fits i)

pub pair_types : (ps : List ℕ) (types : ℕ → Simple) (x y : ℕ) → AreShared ps types → root ps x ≡ root ps y → types x ≡ types y
pair_types ps types x y h e = at_root types ps h x ∙ ap types e ∙ sym (at_root types ps h y)

pub same_made : (forms : ℕ → Option Form) (types : ℕ → Simple) (x y : ℕ) (f g : Form) → Fits forms types → forms x ≡ Some f → forms y ≡ Some g → types x ≡ types y
    → made f.head (each types f.parts) ≡ made g.head (each types g.parts)
same_made forms types x y f g h e d s = sym (h x f e) ∙ s ∙ h y g d

pub rooted_at : (forms : ℕ → Option Form) (ps : List ℕ) (x y : ℕ) (f g : Form) → forms x ≡ Some f → forms y ≡ Some g → f.head ≡ g.head → map (root ps) f.parts ≡ map (root ps) g.parts
    → rooted forms ps x ≡ rooted forms ps y
rooted_at forms ps x y f g e d h p =
    ap (option_map (renamed (root ps))) e
    ∙ ap₂ (λ (a : Head) (b : List ℕ). Some (make a b)) h p
    ∙ sym (ap (option_map (renamed (root ps))) d)
  where
    make : Head → List ℕ → Form
    make a b = record { head = a; parts = b }

rooted_again : (f g : ℕ → ℕ) → ((i : ℕ) → g (f i) ≡ g i) → (o : Option Form) → option_map (renamed g) (option_map (renamed f) o) ≡ option_map (renamed g) o
rooted_again f g h None = refl
rooted_again f g h (Some k) = ap (λ (b : List ℕ). Some (make b)) (map_later f g h k.parts)
  where
    make : List ℕ → Form
    make b = record { head = k.head; parts = b }

-- what is the same up to classes is so up to larger ones
pub rooted_later : (forms : ℕ → Option Form) (old new : List ℕ) (x y : ℕ) → ((i : ℕ) → root new (root old i) ≡ root new i) → rooted forms old x ≡ rooted forms old y → rooted forms new x ≡ rooted forms new y
rooted_later forms old new x y h e =
    sym (rooted_again (root old) (root new) h (forms x)) ∙ ap (option_map (renamed (root new))) e ∙ rooted_again (root old) (root new) h (forms y)

pub followed_later : (forms : ℕ → Option Form) (old new : List ℕ) (found : List Equation) → ((i : ℕ) → root new (root old i) ≡ root new i) → AreFollowed forms old found → AreFollowed forms new found
followed_later forms old new found h a k d l = rooted_later forms old new _ _ h (a k d l)

pub one_more : {X : Type 0} (P : X → Type 0) (before after added : List X) (at : ℕ) (pair : X) → after ≡ before ++ added → at < length before → pair ≡ get_or before at pair
    → All P (take at before) → P pair → All P (take (at + 1) after)
one_more P before after added at pair e l f a p =
    subst (All P) (sym (ap (take (at + 1)) e ∙ take-append-le (at + 1) before added (omega arith) ∙ take_more before at pair l ∙ ap (λ q. take at before ++ q ∷ []) (sym f)))
    (All_push P (take at before) pair a p)
