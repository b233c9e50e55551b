-- The same classes, told by other parents.
use Rattle.std.proofs.Common.{ℕ, List, [], Option, IsSome, refl, sym, ap, subst, ◌∙◌, arith, append-nil}
use Rattle.lq_types_unify.specs.declared.arena.Equation.{Equation}
use Rattle.lq_types_unify.specs.Simple.{Simple}
use Rattle.lq_types_unify.specs.Nodes.{Form}
use Rattle.lq_types_unify.specs.Classes.{up, root, IsDown, IsSame, IsState, IsFound, Grows, AreShared}
use Rattle.lq_types_unify.proofs.Roots.{at_root, root_up, root_of_root}

pub same_self : (ps : List ℕ) → IsDown ps → IsSame ps ps
same_self ps d = record { long = refl; down = d; roots = λ i. refl; selves = λ i. ((λ e. e), (λ e. e)); count = refl }

pub same_then : (a b c : List ℕ) → IsSame a b → IsSame b c → IsSame a c
same_then a b c s t = record {
  long = t.long ∙ s.long;
  down = t.down;
  roots = λ i. t.roots i ∙ s.roots i;
  selves = λ i. ((λ e. (s.selves i).0 ((t.selves i).0 e)), (λ e. (t.selves i).1 ((s.selves i).1 e)));
  count = t.count ∙ s.count;
}

pub same_shared : (old new : List ℕ) (types : ℕ → Simple) → IsSame old new → AreShared old types → AreShared new types
same_shared old new types s h i =
    at_root types old h i ∙ ap types (sym (s.roots i) ∙ root_up new s.down i ∙ s.roots (up new i)) ∙ sym (at_root types old h (up new i))

found_same : (forms : ℕ → Option Form) (n : ℕ) (old new : List ℕ) → IsSame old new → (e : Equation) → IsFound forms n old e → IsFound forms n new e
found_same forms n old new s e f = record {
  left_in = f.left_in;
  right_in = f.right_in;
  left_made = f.left_made;
  right_made = f.right_made;
  same = s.roots e.left ∙ f.same ∙ sym (s.roots e.right);
}

pub same_state : (forms : ℕ → Option Form) (n : ℕ) (old new shapes : List ℕ) (found : List Equation) → IsSame old new → IsState forms n old shapes found → IsState forms n new shapes found
same_state forms n old new shapes found s t = record {
  parents_length = s.long ∙ t.parents_length;
  shapes_length = t.shapes_length;
  down = s.down;
  inside = t.inside;
  own = λ i e. s.roots (up shapes i) ∙ t.own i ((s.selves i).0 e);
  formed = λ i m. subst (λ j. IsSome (forms (up shapes j))) (sym (s.roots i)) (t.formed i m);
  keyed = λ key a i m. t.keyed key a i m ∙ ap (λ j. key (up shapes j)) (sym (s.roots i));
  pairs = λ k d h. found_same forms n old new s _ (t.pairs k d h);
}

pub same_grows : (old new : List ℕ) (before : List Equation) → IsDown old → IsSame old new → Grows old new before before
same_grows old new before d s = record {
  coarser = λ i. s.roots (root old i) ∙ root_of_root old d i ∙ sym (s.roots i);
  added = [];
  after_is = sym (append-nil before);
  room = let c = s.count in omega arith;
}

pub grows_later : (old mid new : List ℕ) (before after : List Equation) → IsSame old mid → Grows mid new before after → Grows old new before after
grows_later old mid new before after s g = record {
  coarser = λ i. ap (root new) (sym (s.roots i)) ∙ g.coarser i;
  added = g.added;
  after_is = g.after_is;
  room = let r = g.room in let c = s.count in omega arith;
}
