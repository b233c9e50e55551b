-- Classes that are listed one after another.
use Rattle.std.proofs.Common.{◌≡◌, ◌≢◌, ℕ, zero, suc, ◌+◌, ◌-◌, ◌<◌, ◌≤◌, inl, inr, Bool, true, if◌then◌else◌, nat_lt, List, [], ◌∷◌, ◌++◌, Option, All, length, get_or, set, take, drop, refl, sym, ap, subst, ◌∙◌, arith, append-nil, append_assoc, length-append, length-set, below_more}
use Rattle.std.proofs.lemmas.Bool.{cases_eq, lt-ltb, le-ltb}
use Rattle.std.proofs.lemmas.List.{get_or_append_left}
use Rattle.std.proofs.lemmas.List.Elements.{All-append}
use Rattle.std.proofs.Math.Seq.{get_or-append_seam}
use Rattle.lq_types_unify.specs.declared.arena.Arena.{Arena}
use Rattle.lq_types_unify.specs.declared.arena.Head.{Head}
use Rattle.lq_types_unify.specs.declared.arena.Node.{Node}
use Rattle.lq_types_unify.specs.declared.arena.Node.TheVariants.{Made}
use Rattle.lq_types_unify.specs.Nodes.{Form, form_at}
use Rattle.lq_types_unify.specs.Value.{inner, parts_of}
use Rattle.lq_types_unify.proofs.Rows.{form_read}
use Rattle.lq_types_unify.specs.Classes.{up, root, IsDown, IsSame}
use Rattle.lq_types_unify.specs.Reaching.{IsFixed, IsListed, IsMet, unlisted, Lists, AreAmong}
use Rattle.lq_types_unify.proofs.Roots.{up_set_same, up_set_other, read_up, root_low, root_fixed}

-- ---- how many are not listed

unlisted_set : (n : ℕ) (qs : List ℕ) (j v d : ℕ) → j < length qs
    → unlisted n (set qs j v) + (if nat_lt (get_or qs j d) n then 1 else 0) ≡ unlisted n qs + (if nat_lt v n then 1 else 0)
unlisted_set n [] j v d h = absurd (omega arith)
unlisted_set n (q ∷ qs) zero v d h = omega arith
unlisted_set n (q ∷ qs) (suc j) v d h = let i = unlisted_set n qs j v d (omega arith) in omega arith

test_low : (n q : ℕ) → q < n → (if nat_lt q n then 1 else 0) ≡ suc zero
test_low n q h = ap (λ (b : Bool). if b then suc zero else zero) (lt-ltb q n h)

test_high : (n q : ℕ) → n ≤ q → (if nat_lt q n then 1 else 0) ≡ zero
test_high n q h = ap (λ (b : Bool). if b then suc zero else zero) (le-ltb q n h)

unlisted_less : (n : ℕ) (qs : List ℕ) (j v : ℕ) → j < length qs → up qs j < n → n ≤ v → unlisted n (set qs j v) + 1 ≡ unlisted n qs
unlisted_less n qs j v h l m = omega (arith, unlisted_set n qs j v j h, test_low n (up qs j) l, test_high n v m)

-- ---- the same roots by other parents

pub listed_same : (forms : ℕ → Option Form) (n : ℕ) (old new shapes : List ℕ) (weak : List Bool) (copies classes : List ℕ) → IsSame old new → IsListed forms n old shapes weak copies classes
    → IsListed forms n new shapes weak copies classes
listed_same forms n old new shapes weak copies classes s l = record {
  long = l.long;
  inside = l.inside;
  are_roots = λ k h. (s.selves (get_or classes k 0)).1 (l.are_roots k h);
  free = l.free;
  forth = l.forth;
  back = l.back;
}

-- ---- nothing more is listed

pub lists_then : (forms : ℕ → Option Form) (n : ℕ) (shapes : List ℕ) (weak : List Bool) (a b c x y z : List ℕ) → Lists forms n shapes weak a b x y → Lists forms n shapes weak b c y z
    → Lists forms n shapes weak a c x z
lists_then forms n shapes weak a b c x y z s t = record {
  added = s.added ++ t.added;
  longer_is = t.longer_is ∙ ap (λ l. l ++ t.added) s.longer_is ∙ append_assoc x s.added t.added;
  still = λ r m. t.still r (s.still r m);
  room = t.room ∙ s.room;
}

-- ---- one class more

pub listed_more : (forms : ℕ → Option Form) (n : ℕ) (parents shapes : List ℕ) (weak : List Bool) (copies classes : List ℕ) (r : ℕ) → IsListed forms n parents shapes weak copies classes
    → r < n → up parents r ≡ r → (IsFixed forms shapes weak r → ⊥) → up copies r < n → IsListed forms n parents shapes weak (set copies r (n + length classes)) (classes ++ r ∷ [])
listed_more forms n parents shapes weak copies classes r l inside own free low = record {
  long = length-set copies r (n + length classes) ∙ l.long;
  inside = each (λ x. x < n) l.inside inside;
  are_roots = each (λ x. up parents x ≡ x) l.are_roots own;
  free = each (λ x. IsFixed forms shapes weak x → ⊥) l.free free;
  forth = λ k h. below_more (λ k. up (set copies r (n + length classes)) (get_or (classes ++ r ∷ []) k 0) ≡ n + k) (length classes)
      (λ k h. ap (up (set copies r (n + length classes))) (get_or_append_left classes (r ∷ []) 0 k h) ∙ up_set_other copies r (n + length classes) (get_or classes k 0) (other k h) ∙ l.forth k h)
      (ap (up (set copies r (n + length classes))) (get_or-append_seam classes r [] 0) ∙ here) k (subst (λ m. k < m) count h);
  back = λ x h m. elim (cases_eq x r) [
    | inl e ↦ let v : up (set copies r (n + length classes)) x ≡ n + length classes = ap (up (set copies r (n + length classes))) e ∙ here in (
      let c = count in omega arith,
      ap (λ j. get_or (classes ++ r ∷ []) j 0) (omega arith) ∙ get_or-append_seam classes r [] 0 ∙ sym e,
    )
    | inr e ↦ let v : up (set copies r (n + length classes)) x ≡ up copies x = up_set_other copies r (n + length classes) x e in
        let b = l.back x h (omega arith) in
        let b0 : up copies x < n + length classes = b.0 in (
          let c = count in omega arith,
          ap (λ j. get_or (classes ++ r ∷ []) (j - n) 0) v ∙ get_or_append_left classes (r ∷ []) 0 (up copies x - n) (let b1 : n ≤ up copies x = omega arith in omega arith) ∙ b.1,
        )
  ];
}
  where
    count : length (classes ++ r ∷ []) ≡ length classes + 1
    count = length-append classes (r ∷ [])

    here : up (set copies r (n + length classes)) r ≡ n + length classes
    here = up_set_same copies r (n + length classes) (let e = l.long in omega arith)

    other : (k : ℕ) → k < length classes → get_or classes k 0 ≢ r
    other k h e = let a : up copies (get_or classes k 0) ≡ n + k = l.forth k h in let b : up copies (get_or classes k 0) ≡ up copies r = ap (up copies) e in omega arith

    each : (P : ℕ → Type 0) → ((k : ℕ) → k < length classes → P (get_or classes k 0)) → P r → (k : ℕ) → k < length (classes ++ r ∷ []) → P (get_or (classes ++ r ∷ []) k 0)
    each P a p k h = below_more (λ k. P (get_or (classes ++ r ∷ []) k 0)) (length classes)
        (λ k h. subst P (sym (get_or_append_left classes (r ∷ []) 0 k h)) (a k h)) (subst P (sym (get_or-append_seam classes r [] 0)) p) k (subst (λ m. k < m) count h)

pub lists_more : (forms : ℕ → Option Form) (n : ℕ) (shapes : List ℕ) (weak : List Bool) (copies classes : List ℕ) (r v : ℕ) → r < length copies → up copies r < n → n ≤ v
    → Lists forms n shapes weak copies (set copies r v) classes (classes ++ r ∷ [])
lists_more forms n shapes weak copies classes r v h low high = record {
  added = r ∷ [];
  longer_is = refl;
  still = λ x m. elim m [
    | inl f ↦ inl f
    | inr f ↦ inr (f.0, subst (λ q. n ≤ q) (sym (up_set_other copies r v x (λ e. let a : up copies x ≡ up copies r = ap (up copies) e in let b : n ≤ up copies x = f.1 in omega arith))) f.1)
  ];
  room = let u = unlisted_less n copies r v h low high in let c = length-append classes (r ∷ []) in omega arith;
}

pub among_more : (parents classes : List ℕ) (node r : ℕ) → r ≡ root parents node → AreAmong parents classes (classes ++ r ∷ []) (node ∷ [])
among_more parents classes node r e seen a b = All-append (λ x. seen x ≡ true) classes (r ∷ []) a (one (λ x. seen x ≡ true) r (subst (λ x. seen x ≡ true) (sym e) (b 0 0 (omega arith))))
  where
    one : (P : ℕ → Type 0) (x : ℕ) → P x → All P (x ∷ [])
    one P x p zero d h = p
    one P x p (suc k) d h = absurd (omega arith)

-- what `meet` owes where a class is listed
pub record IsOne (forms : ℕ → Option Form) (n : ℕ) (old new shapes : List ℕ) (weak : List Bool) (copies classes more longer : List ℕ) (node : ℕ) : Type 0 where
  pub listed : IsListed forms n new shapes weak more longer
  pub lists : Lists forms n shapes weak copies more classes longer
  pub met : IsMet forms n shapes weak more (root old node)
  pub among : AreAmong old classes longer (node ∷ [])

pub one_listed : (forms : ℕ → Option Form) (n : ℕ) (old new shapes : List ℕ) (weak : List Bool) (copies classes longer : List ℕ) (node r v : ℕ) → IsDown old → IsSame old new → IsListed forms n old shapes weak copies classes
    → node < n → r ≡ root old node → v ≡ n + length classes → longer ≡ classes ++ r ∷ [] → (IsFixed forms shapes weak r → ⊥) → get_or copies r 0 < n
    → IsOne forms n old new shapes weak copies classes (set copies r v) longer node
one_listed forms n old new shapes weak copies classes longer node r v d s l h e f g free low =
    let inside : r < n = let b : root old node ≤ node = root_low old d node in omega arith in
    let own : up old r ≡ r = subst (λ x. up old x ≡ x) (sym e) (root_fixed old d node) in
    let long = l.long in
    let under : up copies r < n = subst (λ x. x < n) (read_up copies r (omega arith)) low in
    subst (λ x. IsOne forms n old new shapes weak copies classes (set copies r x) longer node) (sym f)
    (subst (λ x. IsOne forms n old new shapes weak copies classes (set copies r (n + length classes)) x node) (sym g)
    (record {
      listed = listed_same forms n old new shapes weak (set copies r (n + length classes)) (classes ++ r ∷ []) s (listed_more forms n old shapes weak copies classes r l inside own free under);
      lists = lists_more forms n shapes weak copies classes r (n + length classes) (omega arith) under (omega arith);
      met = inr (subst (λ x. (x < n) × (n ≤ up (set copies r (n + length classes)) x)) e (inside, let u = up_set_same copies r (n + length classes) (omega arith) in omega arith));
      among = among_more old classes node r e;
    }))

-- ---- several nodes

-- a fact of the roots, told by other parents
pub met_by : (forms : ℕ → Option Form) (n : ℕ) (old new shapes : List ℕ) (weak : List Bool) (copies nodes : List ℕ) → IsSame old new → All (λ i. IsMet forms n shapes weak copies (root new i)) nodes
    → All (λ i. IsMet forms n shapes weak copies (root old i)) nodes
met_by forms n old new shapes weak copies nodes s a k d h = subst (IsMet forms n shapes weak copies) (s.roots (get_or nodes k d)) (a k d h)

pub met_still : (forms : ℕ → Option Form) (n : ℕ) (parents shapes : List ℕ) (weak : List Bool) (copies more classes longer nodes : List ℕ) → Lists forms n shapes weak copies more classes longer
    → All (λ i. IsMet forms n shapes weak copies (root parents i)) nodes → All (λ i. IsMet forms n shapes weak more (root parents i)) nodes
met_still forms n parents shapes weak copies more classes longer nodes l a k d h = l.still (root parents (get_or nodes k d)) (a k d h)

pub seen_by : (old new nodes : List ℕ) (seen : ℕ → Bool) → IsSame old new → All (λ i. seen (root old i) ≡ true) nodes → All (λ i. seen (root new i) ≡ true) nodes
seen_by old new nodes seen s a k d h = ap seen (s.roots (get_or nodes k d)) ∙ a k d h

pub among_one : (old new classes longer nodes : List ℕ) (at node : ℕ) (seen : ℕ → Bool) → IsSame old new → AreAmong new classes longer (node ∷ []) → node ≡ get_or nodes at 0 → at < length nodes
    → All (λ r. seen r ≡ true) classes → All (λ i. seen (root old i) ≡ true) nodes → All (λ r. seen r ≡ true) longer
among_one old new classes longer nodes at node seen s a e h before all =
    a seen before (one node (ap seen (s.roots node) ∙ ap (λ i. seen (root old i)) e ∙ all at 0 h))
  where
    one : (x : ℕ) → seen (root new x) ≡ true → All (λ i. seen (root new i) ≡ true) (x ∷ [])
    one x p zero d l = p
    one x p (suc k) d l = absurd (omega arith)

-- ---- parts of a node

pub slice_parts : (parts read : List ℕ) (first count : ℕ) → read ≡ parts → take (first + count - first) (drop first read) ≡ take count (drop first parts)
slice_parts parts read first count e = ap (λ l. take (first + count - first) (drop first l)) e ∙ ap (λ (m : ℕ). take m (drop first parts)) (omega arith)

-- what is read of a node with a form is its row of parts
pub row_read : (a : Arena) (i : ℕ) (x : Node) (h : Head) (first count : ℕ) (read : List ℕ) → i < length a.nodes.items → x ≡ get_or a.nodes.items i x → x ≡ Made h first count → read ≡ a.parts.items
    → take (first + count - first) (drop first read) ≡ parts_of (form_at a i)
row_read a i x h first count read l e m r = slice_parts a.parts.items read first count r ∙ sym (ap parts_of (form_read a i x h first count l e m))

-- ---- all that is reached

pub listed_none : (forms : ℕ → Option Form) (n : ℕ) (parents shapes : List ℕ) (weak : List Bool) (copies classes : List ℕ) → classes ≡ [] → length copies ≡ n → ((i : ℕ) → i < n → up copies i < n)
    → IsListed forms n parents shapes weak copies classes
listed_none forms n parents shapes weak copies classes e long low = subst (IsListed forms n parents shapes weak copies) (sym e) (record {
  long = long;
  inside = λ k h. absurd (omega arith);
  are_roots = λ k h. absurd (omega arith);
  free = λ k h. absurd (omega arith);
  forth = λ k h. absurd (omega arith);
  back = λ r h m. absurd (let l = low r h in omega arith);
})

pub listed_back : (forms : ℕ → Option Form) (n : ℕ) (old new shapes : List ℕ) (weak : List Bool) (copies classes : List ℕ) → IsSame old new → IsListed forms n new shapes weak copies classes
    → IsListed forms n old shapes weak copies classes
listed_back forms n old new shapes weak copies classes s l = record {
  long = l.long;
  inside = l.inside;
  are_roots = λ k h. (s.selves (get_or classes k 0)).0 (l.are_roots k h);
  free = l.free;
  forth = l.forth;
  back = l.back;
}

pub on_still : (forms : ℕ → Option Form) (n : ℕ) (parents shapes : List ℕ) (weak : List Bool) (copies more classes longer these : List ℕ) → Lists forms n shapes weak copies more classes longer
    → All (λ r. All (λ p. IsMet forms n shapes weak copies (root parents p)) (inner forms shapes r)) these → All (λ r. All (λ p. IsMet forms n shapes weak more (root parents p)) (inner forms shapes r)) these
on_still forms n parents shapes weak copies more classes longer these l a k d h i e m = l.still _ (a k d h i e m)

pub seen_none : (classes : List ℕ) (seen : ℕ → Bool) → classes ≡ [] → All (λ r. seen r ≡ true) classes
seen_none classes seen e k d h = absurd (let f : length classes ≡ 0 = ap length e in omega arith)
