-- Why a copy of what is known of a definition is enough.
use Rattle.std.proofs.Common.{◌≡◌, ℕ, zero, suc, ◌<◌, ◌≤◌, inl, inr, Bool, true, false, not, List, [], ◌∷◌, Option, Some, None, All, get_or, map, slice_index_or, refl, sym, ap, subst, ◌∙◌, arith}
use Rattle.std.specs.Option.{option_map}
use Rattle.std.proofs.lemmas.Bool.{cases_lt}
use Rattle.lq_types_unify.specs.declared.arena.Equation.{Equation}
use Rattle.lq_types_unify.specs.declared.arena.Head.{Head}
use Rattle.lq_types_unify.specs.Simple.{Simple, variable, made, each, replaced}
use Rattle.lq_types_unify.specs.Nodes.{Form, renamed}
use Rattle.lq_types_unify.specs.Solution.{Fits}
use Rattle.lq_types_unify.specs.Variables.{Each, EachIn}
use Rattle.lq_types_unify.specs.Classes.{up, root, IsDown, IsState, AreShared}
use Rattle.lq_types_unify.specs.Value.{parts_of, built, value, IsRanked}
use Rattle.lq_types_unify.specs.Later.{IsPublic}
use Rattle.lq_types_unify.specs.Copies.{GoesTo, AreCopies, IsExtended}
use Rattle.lq_types_unify.specs.Reaching.{IsFixed}
use Rattle.lq_types_unify.specs.Copying.{Stands, IsCopy}
use Rattle.lq_types_unify.specs.Using.{is_general, CopiesAreInstances, CopiesArePublic, TypesExtendToUses}
use Rattle.lq_types_unify.proofs.Roots.{at_root, root_fixed, root_of_root, root_low}
use Rattle.lq_types_unify.proofs.Replacing.{replaced_alike, replaced_same, each_map}
use Rattle.lq_types_unify.proofs.Extending.{each_copied, extends}
use Rattle.lq_types_unify.proofs.Seating.{All_map}

no_some : {X : Type 0} (o : Option X) (x : X) → o ≡ None → o ≡ Some x → ⊥
no_some o x e f = cc

some_renamed : (to : ℕ → ℕ) (o : Option Form) (f : Form) → option_map (renamed to) o ≡ Some f → (g : Form) × (o ≡ Some g) × (f.head ≡ g.head) × (f.parts ≡ map to g.parts)
some_renamed to None f e = absurd (cc)
some_renamed to (Some g) f e = (g, refl, sym (ap head_of e), sym (ap row_of e))
  where
    head_of : Option Form → Head
    head_of None = g.head
    head_of (Some x) = x.head

    row_of : Option Form → List ℕ
    row_of None = []
    row_of (Some x) = x.parts

-- the copy of a class with a form has that form, over what stands for the parts
formed : (old new : ℕ → Option Form) (count total : ℕ) (parents shapes : List ℕ) (weak : List Bool) (definition used : ℕ) → (c : IsCopy old new count total parents shapes weak definition used)
    → (r : ℕ) (g : Form) → Stands old count total shapes weak c.origin c.goes r → old (up shapes r) ≡ Some g
    → (new (c.goes r) ≡ Some (renamed (λ p. c.goes (root parents p)) g)) × All (λ p. Stands old count total shapes weak c.origin c.goes (root parents p)) g.parts
formed old new count total parents shapes weak definition used c r g (inl s) e = absurd (no_some (old (up shapes r)) g s.0.1 e)
formed old new count total parents shapes weak definition used c r g (inr s) e =
    let is : old (up shapes (c.origin (c.goes r))) ≡ Some g = ap (λ (x : ℕ). old (up shapes x)) s.3 ∙ e in (
      c.copied (c.goes r) s.1 s.2 ∙ ap (option_map (renamed (λ p. c.goes (root parents p)))) is,
      subst (λ o. All (λ p. Stands old count total shapes weak c.origin c.goes (root parents p)) (parts_of o)) is (c.parts (c.goes r) s.1 s.2),
    )

-- one level of a copied type
copied_level : (old new : ℕ → Option Form) (count total : ℕ) (parents shapes : List ℕ) (weak : List Bool) (definition used : ℕ) → (c : IsCopy old new count total parents shapes weak definition used)
    → (last inner : ℕ → Simple) → Fits new last → (r : ℕ) (o : Option Form) → old (up shapes r) ≡ o → Stands old count total shapes weak c.origin c.goes r
    → ((p : ℕ) → Stands old count total shapes weak c.origin c.goes (root parents p) → last (c.goes (root parents p)) ≡ replaced (λ v. last (c.goes v)) (inner p))
    → last (c.goes r) ≡ replaced (λ v. last (c.goes v)) (built inner r o)
copied_level old new count total parents shapes weak definition used c last inner fits r None e s rest = refl
copied_level old new count total parents shapes weak definition used c last inner fits r (Some g) e s rest =
    let h = formed old new count total parents shapes weak definition used c r g s e in
    fits (c.goes r) (renamed (λ p. c.goes (root parents p)) g) h.0
    ∙ ap (made g.head) (each_copied last inner (λ v. last (c.goes v)) (λ p. c.goes (root parents p)) g.parts (λ k d l. rest (get_or g.parts k d) (h.1 k d l)))

copied_type : (old new : ℕ → Option Form) (count total : ℕ) (parents shapes : List ℕ) (weak : List Bool) (definition used : ℕ) → (c : IsCopy old new count total parents shapes weak definition used)
    → (last : ℕ → Simple) → Fits new last → (m i : ℕ) → Stands old count total shapes weak c.origin c.goes (root parents i)
    → last (c.goes (root parents i)) ≡ replaced (λ v. last (c.goes v)) (value m old parents shapes i)
copied_type old new count total parents shapes weak definition used c last fits zero i s = refl
copied_type old new count total parents shapes weak definition used c last fits (suc m) i s =
    copied_level old new count total parents shapes weak definition used c last (value m old parents shapes) fits (root parents i) (old (up shapes (root parents i))) refl s
    (λ p t. copied_type old new count total parents shapes weak definition used c last fits m p t)

-- an open root is a variable
open_value : (forms : ℕ → Option Form) (parents shapes : List ℕ) (n v : ℕ) → root parents v ≡ v → forms (up shapes v) ≡ None → value n forms parents shapes v ≡ variable v
open_value forms parents shapes zero v e f = ap variable e
open_value forms parents shapes (suc n) v e f = ap (λ r. built (value n forms parents shapes) r (forms (up shapes r))) e ∙ ap (built (value n forms parents shapes) v) f

pub each_in : (P : ℕ → Type 0) (f : ℕ → Simple) (ps : List ℕ) → All (λ p. Each P (f p)) ps → EachIn P (each f ps)
each_in P f [] a = tt
each_in P f (p ∷ ps) a = (a 0 p (omega arith), each_in P f ps (λ k d l. a (suc k) d (omega arith)))

-- what is known of a variable of the definition
abbrev IsOpen : (ℕ → Option Form) → List ℕ → List ℕ → (ℕ → Type 0) → ℕ → Type 0
IsOpen forms parents shapes S v = (forms (up shapes v) ≡ None) × (root parents v ≡ v) × S v

level_open : (old new : ℕ → Option Form) (count total : ℕ) (parents shapes : List ℕ) (weak : List Bool) (definition used : ℕ) → (c : IsCopy old new count total parents shapes weak definition used)
    → (inner : ℕ → Simple) (r : ℕ) (o : Option Form) → old (up shapes r) ≡ o → root parents r ≡ r → Stands old count total shapes weak c.origin c.goes r
    → All (λ p. Stands old count total shapes weak c.origin c.goes (root parents p) → Each (IsOpen old parents shapes (Stands old count total shapes weak c.origin c.goes)) (inner p)) (parts_of o)
    → Each (IsOpen old parents shapes (Stands old count total shapes weak c.origin c.goes)) (built inner r o)
level_open old new count total parents shapes weak definition used c inner r None e f s rest = (e, f, s)
level_open old new count total parents shapes weak definition used c inner r (Some g) e f s rest =
    let h = formed old new count total parents shapes weak definition used c r g s e in
    each_in (IsOpen old parents shapes (Stands old count total shapes weak c.origin c.goes)) inner g.parts (λ k d l. rest k d l (h.1 k d l))

all_open : (old new : ℕ → Option Form) (count total : ℕ) (parents shapes : List ℕ) (weak : List Bool) (definition used bound : ℕ) → (c : IsCopy old new count total parents shapes weak definition used)
    → IsDown parents → (q : IsRanked old parents shapes bound) → (n i : ℕ) → q.rank (root parents i) < n → Stands old count total shapes weak c.origin c.goes (root parents i)
    → Each (IsOpen old parents shapes (Stands old count total shapes weak c.origin c.goes)) (value n old parents shapes i)
all_open old new count total parents shapes weak definition used bound c d q zero i l s = absurd (omega arith)
all_open old new count total parents shapes weak definition used bound c d q (suc n) i l s =
    level_open old new count total parents shapes weak definition used c (value n old parents shapes) (root parents i) (old (up shapes (root parents i))) refl (root_of_root parents d i) s
    (λ k e m t. let low = q.falls (root parents i) (root_fixed parents d i) k e m in
    all_open old new count total parents shapes weak definition used bound c d q n (get_or (parts_of (old (up shapes (root parents i)))) k e) (omega arith) t)

not_general : (weak : List Bool) (v : ℕ) → is_general weak v ≡ false → slice_index_or weak v false ≡ true
not_general weak v e = flip (slice_index_or weak v false) e
  where
    flip : (b : Bool) → not b ≡ false → b ≡ true
    flip true e = refl
    flip false e = sym e

pub instances : CopiesAreInstances
instances old new count total parents shapes weak definition used bound last c d q fits = record {
  by = λ v. last (c.goes v);
  node = λ v. v;
  copied = ap last c.used_is ∙ copied_type old new count total parents shapes weak definition used c last fits bound definition c.begins;
  shared = each_map (IsOpen old parents shapes (Stands old count total shapes weak c.origin c.goes))
      (λ v. is_general weak v ≡ false → (value bound old parents shapes v ≡ variable v) × (last (c.goes v) ≡ last v)) (value bound old parents shapes definition) one
      (all_open old new count total parents shapes weak definition used bound c d q bound definition (q.below (root parents definition)) c.begins);
}
  where
    itself : (v : ℕ) → Stands old count total shapes weak c.origin c.goes v → IsFixed old shapes weak v → c.goes v ≡ v
    itself v (inl s) f = s.1
    itself v (inr s) f = absurd (s.0 f)

    one : (v : ℕ) → IsOpen old parents shapes (Stands old count total shapes weak c.origin c.goes) v → is_general weak v ≡ false → (value bound old parents shapes v ≡ variable v) × (last (c.goes v) ≡ last v)
    one v o g = (open_value old parents shapes bound v o.1 o.0, ap last (itself v o.2 (not_general weak v g, o.0)))

-- what stands for a class is public
stands_public : (old : ℕ → Option Form) (count total : ℕ) (parents shapes : List ℕ) (weak : List Bool) (origin goes : ℕ → ℕ) (bound r : ℕ) → root parents r ≡ r → Stands old count total shapes weak origin goes r
    → IsPublic count (is_general weak) (value bound old parents shapes) (goes r)
stands_public old count total parents shapes weak origin goes bound r e (inl s) =
    subst (IsPublic count (is_general weak) (value bound old parents shapes)) (sym s.1)
    (λ h. subst (Each (λ v. is_general weak v ≡ false)) (sym (open_value old parents shapes bound r e s.0.1)) (ap not s.0.0))
stands_public old count total parents shapes weak origin goes bound r e (inr s) = λ h. absurd (let l : count ≤ goes r = s.1 in omega arith)

pub public : CopiesArePublic
public old new count total parents shapes weak definition used bound c d = (
  parts,
  subst (IsPublic count (is_general weak) (value bound old parents shapes)) (sym c.used_is)
      (stands_public old count total parents shapes weak c.origin c.goes bound (root parents definition) (root_of_root parents d definition) c.begins),
)
  where
    copied : (q : ℕ) (f : Form) → count ≤ q → q < total → new q ≡ Some f → All (IsPublic count (is_general weak) (value bound old parents shapes)) f.parts
    copied q f h l e =
        let g = some_renamed (λ p. c.goes (root parents p)) (old (up shapes (c.origin q))) f (sym (c.copied q h l) ∙ e) in
        let all = subst (λ o. All (λ p. Stands old count total shapes weak c.origin c.goes (root parents p)) (parts_of o)) g.1 (c.parts q h l) in
        subst (All (IsPublic count (is_general weak) (value bound old parents shapes))) (sym g.3)
        (All_map (IsPublic count (is_general weak) (value bound old parents shapes)) (λ p. c.goes (root parents p)) g.0.parts
        (λ k x m. stands_public old count total parents shapes weak c.origin c.goes bound (root parents (get_or g.0.parts k x)) (root_of_root parents d (get_or g.0.parts k x)) (all k x m)))

    parts : (q : ℕ) (f : Form) → count ≤ q → new q ≡ Some f → All (IsPublic count (is_general weak) (value bound old parents shapes)) f.parts
    parts q f h e = elim (cases_lt q total) [
      | inl l ↦ copied q f h l e
      | inr l ↦ absurd (no_some (new q) f (c.past q l) e)
    ]

-- ---- types of a copy

shape_type : (forms : ℕ → Option Form) (n : ℕ) (parents shapes : List ℕ) (found : List Equation) (types : ℕ → Simple) → IsState forms n parents shapes found → AreShared parents types
    → (i : ℕ) → types (up shapes (root parents i)) ≡ types i
shape_type forms n parents shapes found types s shared i =
    at_root types parents shared (up shapes (root parents i)) ∙ ap types (s.own (root parents i) (root_fixed parents s.down i)) ∙ sym (at_root types parents shared i)

goes_to : (old : ℕ → Option Form) (count total : ℕ) (parents shapes : List ℕ) (found : List Equation) (weak : List Bool) (origin goes : ℕ → ℕ) (types by : ℕ → Simple) → IsState old count parents shapes found
    → AreShared parents types → ((r : ℕ) → IsFixed old shapes weak r → Each (λ v. by v ≡ variable v) (types r)) → (p : ℕ) → p < count
    → Stands old count total shapes weak origin goes (root parents p) → GoesTo count types by (λ q. up shapes (origin q)) p (goes (root parents p))
goes_to old count total parents shapes found weak origin goes types by s shared stay p h (inl t) =
    let low : root parents p ≤ p = root_low parents s.down p in
    let same : types (root parents p) ≡ types p = sym (at_root types parents shared p) in
    inr (subst (λ (x : ℕ). x < count) (sym t.1) (omega arith), ap types t.1 ∙ same, subst (Each (λ v. by v ≡ variable v)) same (stay (root parents p) t.0))
goes_to old count total parents shapes found weak origin goes types by s shared stay p h (inr t) =
    inl (t.1, ap (λ (x : ℕ). types (up shapes x)) t.3 ∙ shape_type old count parents shapes found types s shared p)

are_copies : (old new : ℕ → Option Form) (count total : ℕ) (parents shapes : List ℕ) (found : List Equation) (weak : List Bool) (definition used : ℕ) (types by : ℕ → Simple)
    → IsCopy old new count total parents shapes weak definition used → IsState old count parents shapes found → AreShared parents types
    → ((i : ℕ) (f : Form) → old i ≡ Some f → All (λ p. p < count) f.parts) → ((r : ℕ) → IsFixed old shapes weak r → Each (λ v. by v ≡ variable v) (types r)) → AreCopies old new count types by
are_copies old new count total parents shapes found weak definition used types by c s shared inside stay = record {
  origin = λ q. up shapes (c.origin q);
  goes = λ q p. c.goes (root parents p);
  kept = c.kept;
  inside = inside;
  copied = λ q f h e. elim (cases_lt q total) [
    | inl l ↦ copied q f h l e
    | inr l ↦ absurd (no_some (new q) f (c.past q l) e)
  ];
}
  where
    copied : (q : ℕ) (f : Form) → count ≤ q → q < total → new q ≡ Some f
        → (g : Form) × (old (up shapes (c.origin q)) ≡ Some g) × (f.head ≡ g.head) × (f.parts ≡ map (λ p. c.goes (root parents p)) g.parts)
        × All (λ p. GoesTo count types by (λ q. up shapes (c.origin q)) p (c.goes (root parents p))) g.parts
    copied q f h l e =
        let g = some_renamed (λ p. c.goes (root parents p)) (old (up shapes (c.origin q))) f (sym (c.copied q h l) ∙ e) in
        let all = subst (λ o. All (λ p. Stands old count total shapes weak c.origin c.goes (root parents p)) (parts_of o)) g.1 (c.parts q h l) in
        (g.0, g.1, g.2, g.3, λ k x m. goes_to old count total parents shapes found weak c.origin c.goes types by s shared stay (get_or g.0.parts k x) (inside (up shapes (c.origin q)) g.0 g.1 k x m) (all k x m))

pub extend : TypesExtendToUses
unfolding are_copies
extend old new count total parents shapes found equations weak definition used types by c k solves d inside stay =
    let shared = k.follows types solves in
    let copies = are_copies old new count total parents shapes found weak definition used types by c k.state shared inside stay in
    let x : IsExtended new count types by (λ q. up shapes (c.origin q)) = extends old new count types by copies solves.fits in
    record {
      more = x.more;
      fits = x.fits;
      same = x.same;
      used_as = ap x.more c.used_is ∙ at_use x (goes_to old count total parents shapes found weak c.origin c.goes types by k.state shared stay definition d c.begins);
    }
  where
    at_use : (x : IsExtended new count types by (λ q. up shapes (c.origin q))) → GoesTo count types by (λ q. up shapes (c.origin q)) definition (c.goes (root parents definition))
        → x.more (c.goes (root parents definition)) ≡ replaced by (types definition)
    at_use x (inl g) = x.copies (c.goes (root parents definition)) g.0 ∙ ap (replaced by) g.1
    at_use x (inr g) = x.same (c.goes (root parents definition)) g.0 ∙ g.1 ∙ sym (replaced_alike by variable (types definition) g.2 ∙ replaced_same (types definition))
