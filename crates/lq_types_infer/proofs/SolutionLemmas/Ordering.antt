-- One class more, in the order of a solution, and one slot more.
use Rattle.std.proofs.Common.{◌≡◌, ℕ, ◌+◌, ◌<◌, ◌≤◌, List, [], ◌∷◌, ◌++◌, All, length, get_or, set, sym, ap, subst, ◌∙◌, arith, below_more}
use Rattle.std.proofs.lemmas.List.{get_or_read, get_or_append_left, get_or_push, length_push}
use Rattle.lq_text_tree.specs.MlType.{MlType}
use Rattle.lq_types_unify.specs.declared.solver.Solution.{Solution}
use Rattle.lq_types_unify.specs.Classes.{root}
use Rattle.lq_types_unify.specs.Value.{inner}
use Rattle.lq_types_unify.specs.Solved.{HasOrder}
use Rattle.lq_types_unify.proofs.Linking.{All_push}
use Rattle.lq_types_unify.proofs.Roots.{root_self, root_fixed, root_low}
use Rattle.lq_types_rules.specs.declared.equations.system.System.{System}
use Rattle.lq_types_rules.specs.Equations.Adding.{count_of, forms_of}
use Rattle.lq_types_rules.specs.Equations.Solved.{types_in}
use Rattle.lq_types_table.specs.Nodes.{at}
use Rattle.lq_types_infer.specs.Solution.Slots.{IsPlaced, AreTypesOf}
use Rattle.lq_types_infer.proofs.SolutionLemmas.Placing.{placed_more, placed_new, type_root}

-- the classes before a place of the order have their numbers
abbrev pub ArePlaced : List MlType → List ℕ → (ℕ → MlType) → List ℕ → ℕ → Type 0
ArePlaced all rows types order k = (j : ℕ) → j < k → IsPlaced all rows types (get_or order j 0)

pub parts_placed : (s : System) (found : Solution) (all : List MlType) (rows slice items : List ℕ) (k : ℕ) → HasOrder s.arena found
    → items ≡ found.order.items → slice ≡ rows → k < length items
    → ArePlaced all rows (types_in s found) found.order.items k
    → All (λ p. IsPlaced all slice (types_in s found) (root found.parents.items p)) (inner (forms_of s) found.shapes.items (get_or items k 0))
parts_placed s found all rows slice items k o e f h placed =
    subst (λ l. All (λ p. IsPlaced all slice (types_in s found) (root found.parents.items p))
    (inner (forms_of s) found.shapes.items (get_or l k 0))) (sym e)
    (λ n d l.
    let a = o.listed.parts_first k (subst (λ l. k < length l) e h) n d l in
    subst (λ l. IsPlaced all l (types_in s found)
    (root found.parents.items (get_or (inner (forms_of s) found.shapes.items (get_or found.order.items k 0)) n d))) (sym f)
    (subst (IsPlaced all rows (types_in s found)) a.2 (placed a.0 a.1)))

pub class_more : (s : System) (found : Solution) (all more : List MlType) (rows items : List ℕ) (k row : ℕ) → HasOrder s.arena found
    → items ≡ found.order.items → length rows ≡ count_of s → k < length items
    → more ≡ all ++ types_in s found (get_or items k 0) ∷ [] → row ≡ length all → ArePlaced all rows (types_in s found) found.order.items k
    → ArePlaced more (set rows (get_or items k 0) row) (types_in s found) found.order.items (k + 1)
class_more s found all more rows items k row o e long h m n placed =
    below_more (λ j. IsPlaced more (set rows (get_or items k 0) row) (types_in s found) (get_or found.order.items j 0)) k
    (λ j l. placed_more all more rows (types_in s found) (get_or items k 0) (get_or found.order.items j 0) row inside m n (placed j l))
    (subst (λ l. IsPlaced more (set rows (get_or items k 0) row) (types_in s found) (get_or l k 0)) e
    (placed_new all more rows (types_in s found) (get_or items k 0) row inside m n))
  where
    inside : get_or items k 0 < length rows
    inside =
        let i = o.listed.inside k (subst (λ l. k < length l) e h) in
        let c : get_or items k 0 ≡ get_or found.order.items k 0 = ap (λ l. get_or l k 0) e in omega arith

pub all_placed : (s : System) (found : Solution) (all : List MlType) (rows items : List ℕ) (k : ℕ) → HasOrder s.arena found
    → items ≡ found.order.items → length items ≤ k
    → ArePlaced all rows (types_in s found) found.order.items k → (i : ℕ) → i < count_of s
    → IsPlaced all rows (types_in s found) (root found.parents.items i)
all_placed s found all rows items k o e past placed i h =
    let a = o.all i h in
    let l : length items ≡ length found.order.items = ap length e in
    let j : a.0 < length found.order.items = a.1 in
    subst (IsPlaced all rows (types_in s found)) a.2 (placed a.0 (omega arith))

-- ---- slots

parent_root : (s : System) (found : Solution) (slot i : ℕ) → HasOrder s.arena found → slot < count_of s → i ≡ get_or found.parents.items slot i
    → i ≡ root found.parents.items slot
parent_root s found slot i o h e = get_or_read found.parents.items slot i (let l = o.table.parents_length in omega arith) e slot ∙ o.table.flat slot

pub parent_in : (s : System) (found : Solution) (slot i n : ℕ) (rows : List ℕ) → HasOrder s.arena found → slot < count_of s
    → i ≡ get_or found.parents.items slot i → n ≡ length rows → length rows ≡ count_of s → i < n
parent_in s found slot i n rows o h e long count =
    let r : i ≡ root found.parents.items slot = parent_root s found slot i o h e in
    let low : root found.parents.items slot ≤ slot = root_low found.parents.items o.table.down slot in omega arith

pub slot_more : (s : System) (found : Solution) (all : List MlType) (rows classes longer : List ℕ) (slot i v : ℕ) → HasOrder s.arena found
    → slot < count_of s → length classes ≡ count_of s
    → ((j : ℕ) → j < count_of s → IsPlaced all classes (types_in s found) (root found.parents.items j)) → i ≡ get_or found.parents.items slot i
    → v ≡ get_or classes i v → longer ≡ rows ++ v ∷ []
    → AreTypesOf all rows slot (types_in s found) → AreTypesOf all longer (slot + 1) (types_in s found)
slot_more s found all rows classes longer slot i v o h count placed ie ve le t =
    subst (λ l. AreTypesOf all l (slot + 1) (types_in s found)) (sym le) (record {
      long = let l = t.long in omega (arith, length_push rows v);
      inside = All_push (λ r. r < length all) rows v t.inside (subst (λ (k : ℕ). k < length all) (sym is) (placed slot h).0);
      same = below_more (λ j. at all (get_or (rows ++ v ∷ []) j 0) ≡ types_in s found j) slot
          (λ j l. ap (at all) (get_or_append_left rows (v ∷ []) 0 j (let n = t.long in omega arith)) ∙ t.same j l)
          (ap (at all) (get_or_push rows v 0 slot t.long ∙ is) ∙ (placed slot h).1 ∙ same);
    })
  where
    here : i ≡ root found.parents.items slot
    here = parent_root s found slot i o h ie

    is : v ≡ get_or classes (root found.parents.items slot) 0
    is =
        let low : root found.parents.items slot ≤ slot = root_low found.parents.items o.table.down slot in
        let r : i ≡ root found.parents.items slot = here in
        get_or_read classes i v (omega arith) ve 0 ∙ ap (λ k. get_or classes k 0) here

    same : types_in s found (root found.parents.items slot) ≡ types_in s found slot
    same = type_root s found (root found.parents.items slot) slot
        (root_self found.parents.items (root found.parents.items slot) (root_fixed found.parents.items o.table.down slot))
