-- Types of more nodes.
use Rattle.std.proofs.Common.{◌≡◌, inl, inr, ℕ, suc, ◌+◌, ◌<◌, ◌≤◌, List, [], ◌∷◌, ◌++◌, Option, Some, None, All, length, get_or, take, drop, refl, sym, ap, ap₂, subst, ◌∙◌, arith, length-append, append_assoc, append-nil, length-take-le, length-drop}
use Rattle.std.proofs.lemmas.Bool.{cases_lt}
use Rattle.std.proofs.lemmas.List.{get_or-take, get_or-drop, get_or_past, get_or_append_left}
use Rattle.lq_text_tree.specs.MlType as ml
use Rattle.lq_text_tree.specs.MlType.{MlType, MlTypes}
use Rattle.lq_types_unify.specs.declared.arena.Arena.{Arena}
use Rattle.lq_types_unify.specs.declared.arena.Equation.{Equation}
use Rattle.lq_types_unify.specs.declared.arena.Node.{Node}
use Rattle.lq_types_unify.specs.declared.arena.Node.TheVariants.{Open, Made}
use Rattle.lq_types_unify.specs.Nodes.{Form, form_of, node_at, form_at, FitsIn, IsArena}
use Rattle.lq_types_unify.specs.Solution.{AreNodes}
use Rattle.lq_types_rules.specs.declared.equations.system.System.{System}
use Rattle.lq_types_rules.specs.Equations.Solutions.{each, Fits, Meets}
use Rattle.lq_types_rules.specs.Equations.Adding.{IsSystem, Agree, Grows, count_of, forms_of}

-- ---- facts of each of a list

pub all_left : {X : Type 0} (P : X → Type 0) (xs ys : List X) → All P (xs ++ ys) → All P xs
all_left P xs ys a k d l = subst P (get_or_append_left xs ys d k l) (a k d (omega (arith, length-append xs ys)))

pub all_right : {X : Type 0} (P : X → Type 0) (xs ys : List X) → All P (xs ++ ys) → All P ys
all_right P [] ys a = a
all_right P (x ∷ xs) ys a = all_right P xs ys (λ k d l. a (suc k) d (omega arith))

pub all_none : {X : Type 0} (P : X → Type 0) → All P []
all_none P k d l = absurd (omega arith)

-- ---- the types of a row

pub each_alike : (types later : ℕ → MlType) (ps : List ℕ) → All (λ p. later p ≡ types p) ps → each later ps ≡ each types ps
each_alike types later [] h = refl
each_alike types later (p ∷ ps) h = ap₂ ml.more_types (h 0 0 (omega arith)) (each_alike types later ps (λ k d l. h (suc k) d (omega arith)))

pub agree_each : (n : ℕ) (types later : ℕ → MlType) → Agree n types later → (ps : List ℕ) → All (λ p. p < n) ps → each later ps ≡ each types ps
agree_each n types later a ps h = each_alike types later ps (λ k d l. a (get_or ps k d) (h k d l))

pub agree_after : (n m : ℕ) (types mid later : ℕ → MlType) → n ≤ m → Agree n types mid → Agree m mid later → Agree n types later
agree_after n m types mid later le a b i h = b i (omega arith) ∙ a i h

pub meets_later : (n : ℕ) (es : List Equation) (types later : ℕ → MlType) → AreNodes n es → Agree n types later → Meets types es → Meets later es
meets_later n es types later nodes a m k d l = a (get_or es k d).left (nodes k d l).0 ∙ m k d l ∙ sym (a (get_or es k d).right (nodes k d l).1)

-- ---- the forms of nodes

pub some_inside : (a : Arena) (i : ℕ) (f : Form) → form_at a i ≡ Some f → i < length a.nodes.items
some_inside a i f e = elim (cases_lt i (length a.nodes.items)) [ inl h ↦ h | inr h ↦ absurd (past (get_or_past a.nodes.items i Open h)) ]
  where
    past : node_at a.nodes.items i ≡ Open → ⊥
    past p = let q : form_at a i ≡ None = ap (form_of a.parts.items) p in cc

row_inside : (n : ℕ) (xs : List ℕ) (first count : ℕ) → first + count ≤ length xs → All (λ p. p < n) xs → All (λ p. p < n) (take count (drop first xs))
row_inside n xs first count h a k d l =
    let long : length (take count (drop first xs)) ≡ count = length-take-le count (drop first xs) (omega (arith, length-drop first xs)) in
    subst (λ (p : ℕ). p < n) (sym (get_or-take count (drop first xs) k d (omega arith) ∙ get_or-drop first xs k d)) (a (first + k) d (omega arith))

parts_in : Option Form → ℕ → Type 0
parts_in None n = Unit {0}
parts_in (Some f) n = All (λ p. p < n) f.parts

form_in : (n : ℕ) (parts : List ℕ) (y : Node) → FitsIn parts y → All (λ p. p < n) parts → parts_in (form_of parts y) n
unfolding parts_in
form_in n parts Open h a = tt
form_in n parts (Made k first count) h a = row_inside n parts first count h a

pub parts_inside : (a : Arena) → IsArena a → (i : ℕ) (f : Form) → form_at a i ≡ Some f → All (λ p. p < length a.nodes.items) f.parts
unfolding parts_in
parts_inside a s i f e = subst (λ o. parts_in o (length a.nodes.items)) e (form_in (length a.nodes.items) a.parts.items (node_at a.nodes.items i) (s.fits i) s.inside)

-- ---- growing

pub fits_before : (old new : System) (more : List Equation) → Grows old new more → (types : ℕ → MlType) → Fits (forms_of new) types → Fits (forms_of old) types
fits_before old new more g types f i form e = f i form (g.kept i (some_inside old.arena i form e) ∙ e)

pub more_nodes : (old new : System) (more : List Equation) → Grows old new more → AreNodes (count_of new) more
more_nodes old new more g =
    let P : Equation → Type 0 = λ e. (e.left < count_of new) × (e.right < count_of new) in
    all_right P old.equations.items more (subst (λ es. All P es) g.equations_are g.system.nodes)

pub grows_after : (old mid new : System) (before since : List Equation) → Grows old mid before → Grows mid new since → Grows old new (before ++ since)
grows_after old mid new before since a b = record {
  system = b.system;
  longer = let x = a.longer in let y = b.longer in omega arith;
  kept = λ i h. b.kept i (let x = a.longer in omega arith) ∙ a.kept i h;
  equations_are = b.equations_are ∙ ap (λ es. es ++ since) a.equations_are ∙ append_assoc old.equations.items before since;
  free = λ types f.
      let x = a.free types f in
      let y = b.free x.0 x.2 in
      (y.0, agree_after (count_of old) (count_of mid) types x.0 y.0 a.longer x.1 y.1, y.2);
}

pub grows_none : (s : System) → IsSystem s → Grows s s []
grows_none s h = record {
  system = h;
  longer = omega arith;
  kept = λ i l. refl;
  equations_are = sym (append-nil s.equations.items);
  free = λ types f. (types, λ i l. refl, f);
}
