-- Copies of classes, node by node.
use Rattle.std.proofs.Common.{◌≡◌, ℕ, zero, suc, ◌+◌, ◌-◌, ◌<◌, ◌≤◌, inl, inr, Bool, if◌then◌else◌, List, [], ◌∷◌, Option, Some, None, All, length, get_or, map, take, drop, refl, sym, ap, subst, ◌∙◌, arith, below_more, length-take-le, length-drop, get_or-take, get_or-drop}
use Rattle.std.specs.Option.{option_map}
use Rattle.std.proofs.lemmas.Bool.{cases_eq, cases_lt, lt-ltb, le-ltb}
use Rattle.std.proofs.lemmas.List.{length-take, get_or_default}
use Rattle.lq_types_unify.specs.declared.arena.Arena.{Arena}
use Rattle.lq_types_unify.specs.declared.arena.Head.{Head}
use Rattle.lq_types_unify.specs.declared.arena.Node.{Node}
use Rattle.lq_types_unify.specs.declared.arena.Node.TheVariants.{Open, Made}
use Rattle.lq_types_unify.specs.Nodes.{Form, renamed, form_of, node_at, form_at, IsArena, HasAdded, HasFilled}
use Rattle.lq_types_unify.specs.Classes.{up, root, IsDown, IsSame}
use Rattle.lq_types_unify.specs.Value.{parts_of}
use Rattle.lq_types_unify.specs.Copying.{seat, Stands, seated, AreOpened, AreFilled, ArePlaced, IsPlaced}
use Rattle.lq_types_unify.specs.Reaching.{IsFixed, IsListed, IsMet, IsReached}
use Rattle.lq_types_unify.proofs.Longer.{renamed_by}
use Rattle.lq_types_unify.proofs.Roots.{up_past, root_low}
use Rattle.lq_types_unify.proofs.Knowing.{no_form}
use Rattle.lq_types_unify.proofs.Rows.{form_read}
use Rattle.lq_types_unify.proofs.Listing.{slice_parts}

pub seat_low : (n : ℕ) (copies : List ℕ) (r : ℕ) → up copies r < n → seat n copies r ≡ r
seat_low n copies r h = ap (λ (b : Bool). if b then r else up copies r) (lt-ltb (up copies r) n h)

pub seat_high : (n : ℕ) (copies : List ℕ) (r : ℕ) → n ≤ up copies r → seat n copies r ≡ up copies r
seat_high n copies r h = ap (λ (b : Bool). if b then r else up copies r) (le-ltb (up copies r) n h)

pub All_map : (P : ℕ → Type 0) (f : ℕ → ℕ) (xs : List ℕ) → All (λ x. P (f x)) xs → All P (map f xs)
All_map P f [] a k d h = absurd (omega arith)
All_map P f (x ∷ xs) a zero d h = a 0 x (omega arith)
All_map P f (x ∷ xs) a (suc k) d h = All_map P f xs (λ j e l. a (suc j) e (omega arith)) k d (omega arith)

-- the form of a copy, with what stands for the parts that were read
pub seated_read : (a : Arena) (base : ℕ) (parents copies : List ℕ) (i : ℕ) (x : Node) (h : Head) (first count : ℕ) (read now : List ℕ) → i < length a.nodes.items → x ≡ get_or a.nodes.items i x → x ≡ Made h first count → read ≡ a.parts.items
    → now ≡ map (λ p. seat base copies (root parents p)) (take (first + count - first) (drop first read)) → Some (record { head = h; parts = now }) ≡ seated a base parents copies i
seated_read a base parents copies i x h first count read now l e m r s =
    ap (λ (ps : List ℕ). Some (record { head = h; parts = ps })) (s ∙ ap (map (λ p. seat base copies (root parents p))) (slice_parts a.parts.items read first count r))
    ∙ sym (ap (option_map (renamed (λ p. seat base copies (root parents p)))) (form_read a i x h first count l e m))

-- a node is placed by other parents and in another arena
pub placed_by : (old new : Arena) (base : ℕ) (ps qs copies : List ℕ) (i j : ℕ) → i ≡ j → form_at new j ≡ form_at old j → length new.nodes.items ≡ length old.nodes.items → IsSame ps qs → ArePlaced old base ps copies j → ArePlaced new base qs copies i
placed_by old new base ps qs copies i j e f l s a =
    subst (ArePlaced new base qs copies) (sym e)
    (subst (λ o. All (λ p. (p < base) × (seat base copies (root qs p) < length new.nodes.items)) (parts_of o)) (sym f)
    (λ k d h. let x = a k d h in (x.0, let y = ap (seat base copies) (s.roots (get_or (parts_of (form_at old j)) k d)) in let z = x.1 in omega arith)))

pub filled_more : (old mid new : Arena) (base : ℕ) (ps qs shapes copies classes : List ℕ) (at s : ℕ) → AreFilled old mid base ps shapes copies (take at classes) → IsSame ps qs → at < length classes
    → s ≡ up shapes (get_or classes at 0) → s < base → HasFilled mid new (base + at) (seated mid base qs copies s) → AreFilled old new base ps shapes copies (take (at + 1) classes)
filled_more old mid new base ps qs shapes copies classes at s f same here e low h = record {
  arena = h.arena;
  long = h.count ∙ f.long;
  kept = λ i l. h.others i (λ x. omega arith) ∙ f.kept i l;
  filled = λ k l. below_more (λ k. form_at new (base + k) ≡ seated old base ps copies (up shapes (get_or (take (at + 1) classes) k 0))) at
      (λ k m. h.others (base + k) (λ x. omega arith) ∙ f.filled k (let c = length-take-le at classes (omega arith) in omega arith)
      ∙ ap (λ (r : ℕ). seated old base ps copies (up shapes r)) (get_or-take at classes k 0 m ∙ sym (get_or-take (at + 1) classes k 0 (omega arith))))
      (h.formed ∙ renamed_by (λ p. seat base copies (root qs p)) (λ p. seat base copies (root ps p)) (λ p. ap (seat base copies) (same.roots p)) (form_at mid s)
      ∙ ap (option_map (renamed (λ p. seat base copies (root ps p)))) (f.kept s low)
      ∙ ap (seated old base ps copies) e ∙ ap (λ (r : ℕ). seated old base ps copies (up shapes r)) (sym (get_or-take (at + 1) classes at 0 (omega arith))))
      k (let c = length-take-le (at + 1) classes (omega arith) in omega arith);
}

-- ---- the whole copy

pub opened_none : (a : Arena) → IsArena a → AreOpened a a 0
opened_none a w = record { arena = w; long = omega arith; kept = λ i h. refl; rest = λ i h. no_form a i h }

pub opened_more : (old mid new : Arena) (count node : ℕ) → AreOpened old mid count → HasAdded mid new node None → AreOpened old new (count + 1)
opened_more old mid new count node o h = record {
  arena = h.arena;
  long = let a = h.next in let b = h.count in let c = o.long in omega arith;
  kept = λ i l. h.others i (let a = h.next in let c = o.long in omega arith) ∙ o.kept i l;
  rest = λ i l. elim (cases_lt i node) [
    | inl m ↦ h.others i m ∙ o.rest i l
    | inr m ↦ elim (cases_eq i node) [
      | inl e ↦ ap (form_at new) e ∙ h.formed
      | inr e ↦ no_form new i (let b = h.count in omega arith)
    ]
  ];
}

-- the parts of a node are nodes
pub parts_in : (a : Arena) → IsArena a → (i : ℕ) → All (λ p. p < length a.nodes.items) (parts_of (form_at a i))
parts_in a w i = row (node_at a.nodes.items i)
  where
    row : (x : Node) → All (λ p. p < length a.nodes.items) (parts_of (form_of a.parts.items x))
    row Open k d h = absurd (omega arith)
    row (Made t first count) k d h =
        let long = length-take count (drop first a.parts.items) in
        let less = length-drop first a.parts.items in
        let k_in : k < count = omega arith in
        subst (λ (p : ℕ). p < length a.nodes.items) (sym (get_or-take count (drop first a.parts.items) k d k_in ∙ get_or-drop first a.parts.items k d))
        (w.inside (first + k) d (omega arith))

-- what stands for a class is a node
pub seat_in : (forms : ℕ → Option Form) (n : ℕ) (parents shapes : List ℕ) (weak : List Bool) (copies classes : List ℕ) (r : ℕ) → IsListed forms n parents shapes weak copies classes → r < n
    → seat n copies r < n + length classes
seat_in forms n parents shapes weak copies classes r l h = elim (cases_lt (up copies r) n) [
  | inl m ↦ let e = seat_low n copies r m in omega arith
  | inr m ↦ let e = seat_high n copies r m in let b : up copies r < n + length classes = (l.back r h m).0 in omega arith
]

pub stands : (forms : ℕ → Option Form) (n total : ℕ) (parents shapes : List ℕ) (weak : List Bool) (copies classes : List ℕ) (r : ℕ) → total ≡ n + length classes
    → IsListed forms n parents shapes weak copies classes → IsMet forms n shapes weak copies r → Stands forms n total shapes weak (λ q. get_or classes (q - n) 0) (seat n copies) r
stands forms n total parents shapes weak copies classes r t l (inl f) = inl (f, itself)
  where
    itself : seat n copies r ≡ r
    itself = elim (cases_lt (up copies r) n) [
      | inl m ↦ seat_low n copies r m
      | inr m ↦ elim (cases_lt r n) [
        | inl h ↦ let b = l.back r h m in
            absurd (l.free (up copies r - n) (let b0 : up copies r < n + length classes = b.0 in omega arith) (subst (IsFixed forms shapes weak) (sym b.1) f))
        | inr h ↦ seat_high n copies r m ∙ up_past copies r (let e = l.long in omega arith)
      ]
    ]
stands forms n total parents shapes weak copies classes r t l (inr (h, m)) =
    let b = l.back r h m in
    let e = seat_high n copies r m in
    let b0 : up copies r < n + length classes = b.0 in
    inr (
      (λ f. l.free (up copies r - n) (omega arith) (subst (IsFixed forms shapes weak) (sym b.1) f)),
      subst (λ (q : ℕ). n ≤ q) (sym e) m,
      omega arith,
      ap (λ (q : ℕ). get_or classes (q - n) 0) e ∙ b.1,
    )

pub placed : (old mid new : Arena) (parents after_ shapes : List ℕ) (weak : List Bool) (copies classes : List ℕ) (node used : ℕ) → IsArena old → length parents ≡ length old.nodes.items → IsDown parents → node < length old.nodes.items
    → ((i : ℕ) → i < length old.nodes.items → up shapes i < length old.nodes.items) → IsSame parents after_
    → IsReached (form_at old) (length old.nodes.items) parents shapes weak copies classes (node ∷ []) → AreOpened old mid (length classes)
    → AreFilled mid new (length old.nodes.items) after_ shapes copies classes → used ≡ seat (length old.nodes.items) copies (root parents node) → IsPlaced old new parents shapes weak copies node used
placed old mid new parents after_ shapes weak copies classes node used w long down node_in inside same reached opened filled e = record {
  arena = filled.arena;
  longer = record { more = omega arith; same = kept };
  copy = record {
    origin = λ q. get_or classes (q - n) 0;
    goes = seat n copies;
    kept = kept;
    past = λ i h. no_form new i h;
    copied = λ q h l. ap (form_at new) (omega arith) ∙ filled.filled (q - n) (omega arith) ∙ seated_old (up shapes (get_or classes (q - n) 0)) (inside (get_or classes (q - n) 0) (reached.listed.inside (q - n) (omega arith)));
    parts = λ q h l k d m. stands (form_at old) n (length new.nodes.items) parents shapes weak copies classes _ total reached.listed (reached.goes_on (q - n) 0 (omega arith) k d m);
    begins = stands (form_at old) n (length new.nodes.items) parents shapes weak copies classes (root parents node) total reached.listed (reached.begins 0 0 (omega arith));
    used_is = e;
  };
  inside = let l : root parents node ≤ node = root_low parents down node in
      let s = seat_in (form_at old) n parents shapes weak copies classes (root parents node) reached.listed (omega arith) in omega arith;
  low = λ i h. elim (cases_lt (up copies i) n) [
    | inl m ↦ omega arith
    | inr m ↦ let b : up copies i < n + length classes = (reached.listed.back i h m).0 in omega arith
  ];
}
  where
    n : ℕ
    n = length old.nodes.items

    total : length new.nodes.items ≡ length old.nodes.items + length classes
    total = filled.long ∙ opened.long

    kept : (i : ℕ) → i < length old.nodes.items → form_at new i ≡ form_at old i
    kept i h = filled.kept i h ∙ opened.kept i h

    seated_old : (i : ℕ) → i < length old.nodes.items → seated mid (length old.nodes.items) after_ copies i ≡ seated old (length old.nodes.items) parents copies i
    seated_old i h = renamed_by (λ p. seat n copies (root after_ p)) (λ p. seat n copies (root parents p)) (λ p. ap (seat n copies) (same.roots p)) (form_at mid i)
        ∙ ap (option_map (renamed (λ p. seat n copies (root parents p)))) (opened.kept i h)

pub all_placed : (old mid : Arena) (n count : ℕ) (parents after_ shapes : List ℕ) (weak : List Bool) (copies classes these : List ℕ) → n ≡ length old.nodes.items → count ≡ length classes → these ≡ classes → IsArena old
    → length parents ≡ length old.nodes.items → IsDown parents → ((i : ℕ) → i < length old.nodes.items → up shapes i < length old.nodes.items) → IsSame parents after_
    → IsListed (form_at old) (length old.nodes.items) parents shapes weak copies classes → AreOpened old mid count → All (λ r. ArePlaced mid n after_ copies (up shapes r)) these
all_placed old mid n count parents after_ shapes weak copies classes these en ec et w long down inside same l o =
    subst (All (λ r. ArePlaced mid n after_ copies (up shapes r))) (sym et) (λ k d h.
    let r = get_or classes k d in
    let low : get_or classes k d < length old.nodes.items = subst (λ (j : ℕ). j < length old.nodes.items) (get_or_default classes k 0 d h) (l.inside k h) in
    let s = inside (get_or classes k d) low in
    subst (λ q. All (λ p. (p < n) × (seat n copies (root after_ p) < length mid.nodes.items)) (parts_of q)) (sym (o.kept (up shapes (get_or classes k d)) s))
    (λ i e m. let p_in = parts_in old w (up shapes (get_or classes k d)) i e m in each (get_or (parts_of (form_at old (up shapes (get_or classes k d)))) i e) p_in))
  where
    each : (p : ℕ) → p < length old.nodes.items → (p < n) × (seat n copies (root after_ p) < length mid.nodes.items)
    each p h =
        let down_p : root parents p ≤ p = root_low parents down p in
        let s : seat (length old.nodes.items) copies (root parents p) < length old.nodes.items + length classes = seat_in (form_at old) (length old.nodes.items) parents shapes weak copies classes (root parents p) l (omega arith) in
        let e : seat n copies (root after_ p) ≡ seat (length old.nodes.items) copies (root parents p) = ap (λ (m : ℕ). seat m copies (root after_ p)) en ∙ ap (seat (length old.nodes.items) copies) (same.roots p) in
        let f = o.long in
        (omega arith, omega arith)
