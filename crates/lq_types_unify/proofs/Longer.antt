-- Classes of an arena that got more nodes.
use Rattle.std.proofs.Common.{◌≡◌, inl, inr, ℕ, ◌<◌, ◌≤◌, List, [], ◌∷◌, map, Option, Some, None, IsSome, get_or, refl, sym, ap, ap₂, subst, ◌∙◌, arith}
use Rattle.std.specs.Option.{option_map}
use Rattle.std.proofs.lemmas.Bool.{cases_lt}
use Rattle.lq_types_unify.specs.declared.arena.Equation.{Equation}
use Rattle.lq_types_unify.specs.Simple.{Simple}
use Rattle.lq_types_unify.specs.Nodes.{Form, renamed}
use Rattle.lq_types_unify.specs.Solution.{Fits}
use Rattle.lq_types_unify.specs.Classes.{up, root, rooted, IsDown, IsState, IsFound}
use Rattle.lq_types_unify.proofs.Roots.{only, root_up, root_self, root_low, up_past}
use Rattle.lq_types_unify.specs.Growing.{KnownClassesGrow}

map_by : (f g : ℕ → ℕ) → ((i : ℕ) → f i ≡ g i) → (xs : List ℕ) → map f xs ≡ map g xs
map_by f g h [] = refl
map_by f g h (x ∷ xs) = ap₂ (λ a b. a ∷ b) (h x) (map_by f g h xs)

pub renamed_by : (f g : ℕ → ℕ) → ((i : ℕ) → f i ≡ g i) → (o : Option Form) → option_map (renamed f) o ≡ option_map (renamed g) o
renamed_by f g h None = refl
renamed_by f g h (Some x) = ap (λ (b : List ℕ). Some (make b)) (map_by f g h x.parts)
  where
    make : List ℕ → Form
    make b = record { head = x.head; parts = b }

pub known : KnownClassesGrow
known old new m n parents shapes grown kept found equations g k = record {
  state = record {
    parents_length = g.parents_length;
    shapes_length = g.shapes_length;
    down = down;
    inside = λ i h. subst (λ (j : ℕ). j < n) (sym (g.shapes_same i)) (inside i h);
    own = λ i e. roots (up kept i) ∙ ap (root parents) (g.shapes_same i) ∙ s.own i (sym (g.parents_same i) ∙ e);
    formed = λ i f. elim (cases_lt i m) [
      | inl h ↦ subst (λ j. IsSome (new j)) (sym (shape i)) (subst IsSome (sym (g.same (up shapes (root parents i)) (low i h))) (s.formed i (subst IsSome (g.same i h) f)))
      | inr h ↦ subst (λ j. IsSome (new j)) (sym (shape i ∙ alone i h)) f
    ];
    keyed = λ key a i f. elim (cases_lt i m) [
      | inl h ↦ s.keyed key a i (subst IsSome (g.same i h) f) ∙ ap key (sym (shape i))
      | inr h ↦ ap key (sym (shape i ∙ alone i h))
    ];
    pairs = λ j d l. pair (get_or found j d) (s.pairs j d l);
  };
  followed = λ j d l. let p = s.pairs j d l in followed_at (get_or found j d).left p.left_in ∙ k.followed j d l ∙ sym (followed_at (get_or found j d).right p.right_in);
  met = λ j d l. roots _ ∙ k.met j d l ∙ sym (roots _);
  follows = λ types t i. k.follows types (record { fits = fits types t.fits; meets = t.meets }) i ∙ ap types (sym (g.parents_same i));
}
  where
    s : IsState old m parents shapes found
    s = k.state

    down : IsDown grown
    down i = subst (λ (j : ℕ). j ≤ i) (sym (g.parents_same i)) (k.state.down i)

    roots : (i : ℕ) → root grown i ≡ root parents i
    roots i = sym (only grown (λ j. subst (λ (l : ℕ). l ≤ j) (sym (g.parents_same j)) (k.state.down j)) (root parents)
        (λ j. root_up parents k.state.down j ∙ ap (root parents) (sym (g.parents_same j))) (λ j e. root_self parents j (sym (g.parents_same j) ∙ e)) i)

    shape : (i : ℕ) → up kept (root grown i) ≡ up shapes (root parents i)
    shape i = g.shapes_same (root grown i) ∙ ap (up shapes) (roots i)

    -- a new node is its own root and shape
    alone : (i : ℕ) → m ≤ i → up shapes (root parents i) ≡ i
    alone i h = ap (up shapes) (root_self parents i (up_past parents i (let e = k.state.parents_length in omega arith))) ∙ up_past shapes i (let e = k.state.shapes_length in omega arith)

    low : (i : ℕ) → i < m → up shapes (root parents i) < m
    low i h = k.state.inside (root parents i) (let l : root parents i ≤ i = root_low parents k.state.down i in omega arith)

    inside : (i : ℕ) → i < n → up shapes i < n
    inside i h = elim (cases_lt i m) [
      | inl l ↦ let a : up shapes i < m = k.state.inside i l in let b : m ≤ n = g.more in omega arith
      | inr l ↦ subst (λ (j : ℕ). j < n) (sym (up_past shapes i (let e = k.state.shapes_length in omega arith))) h
    ]

    pair : (e : Equation) → IsFound old m parents e → IsFound new n grown e
    pair e p = record {
      left_in = let a : e.left < m = p.left_in in let b : m ≤ n = g.more in omega arith;
      right_in = let a : e.right < m = p.right_in in let b : m ≤ n = g.more in omega arith;
      left_made = subst IsSome (sym (g.same e.left p.left_in)) p.left_made;
      right_made = subst IsSome (sym (g.same e.right p.right_in)) p.right_made;
      same = roots e.left ∙ p.same ∙ sym (roots e.right);
    }

    followed_at : (i : ℕ) → i < m → rooted new grown i ≡ rooted old parents i
    followed_at i h = ap (option_map (renamed (root grown))) (g.same i h) ∙ renamed_by (root grown) (root parents) roots (old i)

    fits : (types : ℕ → Simple) → Fits new types → Fits old types
    fits types f i x e = elim (cases_lt i m) [
      | inl h ↦ f i x (g.same i h ∙ e)
      | inr h ↦ absurd (none_some (sym (g.past i h) ∙ e))
    ]
      where
        none_some : {y : Form} → None ≡ Some y → ⊥
        none_some e = cc
