-- A named tree is clear for flattening.
use Rattle.std.proofs.Common.{◌≡◌, ℕ, ◌+◌, ◌<◌, ◌≤◌, Bool, true, false, ◌&&◌, ◌||◌, ◌==◌, if◌then◌else◌, List, [], ◌∷◌, ◌++◌, ◌⊎◌, inl, inr, refl, sym, ap, subst, ◌∙◌, arith}
use Rattle.std.proofs.lemmas.List.{append-nil}
use Rattle.std.proofs.lemmas.List.Folds.{list_any-append}
use Rattle.std.proofs.lemmas.Bool.{eqb-true}
use Rattle.lq_base_names.specs.declared.place.Place.{Place}
use Rattle.lq_text_tree.specs.Pattern.{Pattern, pattern, any, bind, nothing, tuple_of, build_of, bound_in}
use Rattle.lq_text_tree.specs.Tree as form
use Rattle.lq_text_tree.specs.Tree.{Tree, tree, Form, Trees, no_trees, more_trees, Cases, no_cases, more_cases}
use Rattle.lq_meaning_normal_form.specs.Outcomes.Naming.{is_pure, is_pure_operator, id_of, place_of, Block, Binding, wrap, closed, plain, made, operand, scrutinee, Row, no_row, more_row, listed, named_pattern, parameter, behind, under, block, block_of, operands, items, chained, cases}
use Rattle.lq_meaning_normal_form.specs.Outcomes.Named.{from, Avoids, AvoidsForm, AvoidsAll, AvoidsCases}
use Rattle.lq_meaning_normal_form.specs.Outcomes.Flattening.{Let, let_one, flat, let_names}
use Rattle.lq_meaning_normal_form.specs.Outcomes.Flattened.{also, none, Clear, ClearForm, ClearAll, ClearCases}
use Rattle.lq_meaning_normal_form.specs.Outcomes.Apart.{is_in, lets, lets_all, TwoApart, Apart, ApartForm, ApartAll, ApartCases}
use Rattle.lq_meaning_normal_form.proofs.OutcomesLemmas.Patterns.{is_from, is_before, pattern_later, behind_later}
use Rattle.lq_meaning_normal_form.proofs.OutcomesLemmas.Flat.{or_left, or_right, or_cases}
use Rattle.lq_meaning_normal_form.proofs.OutcomesLemmas.FlatKeeps.{names_append}
use Rattle.lq_meaning_normal_form.proofs.OutcomesLemmas.Avoiding.{avoids_by, all_by, cases_by, pure_clear, lets_low, all_low}

not_true : (b : Bool) → (b ≡ true → ⊥) → b ≡ false
not_true false h = refl
not_true true h = absurd (h refl)

no_both : (b : Bool) → b ≡ true → b ≡ false → ⊥
no_both b h k = cc (h, k)

-- ---- hidden names

-- where a name comes from: it was made, or it is that of a let of the source
data Origin (L : ℕ → Bool) (k n x : ℕ) : Type 0 where
  a_made : k ≤ x → x < n → Origin L k n x
  a_let : L x ≡ true → Origin L k n x

abbrev Low : ℕ → (ℕ → Bool) → Type 0
Low base L = (x : ℕ) → L x ≡ true → x < base

abbrev OkFrom : ℕ → (ℕ → Bool) → Type 0
OkFrom k H = (x : ℕ) → k ≤ x → H x ≡ false

abbrev Grown : ℕ → ℕ → (ℕ → Bool) → (ℕ → Bool) → (ℕ → Bool) → Type 0
Grown k n L H K = (x : ℕ) → K x ≡ true → (H x ≡ true) ⊎ Origin L k n x

wider_origin : (L M : ℕ → Bool) (k n i j x : ℕ) → Origin L k n x → i ≤ k → n ≤ j → (L x ≡ true → M x ≡ true) → Origin M i j x
wider_origin L M k n i j x (a_made a b) le more h = a_made (omega arith) (omega arith)
wider_origin L M k n i j x (a_let l) le more h = a_let (h l)

ok_later : (k n : ℕ) (H : ℕ → Bool) → k ≤ n → OkFrom k H → OkFrom n H
ok_later k n H le ok x more = ok x (omega arith)

module _ (base : ℕ) where
  grown_ok : (k n : ℕ) (L H K : ℕ → Bool) → base ≤ k → k ≤ n → Low base L → OkFrom k H → Grown k n L H K → OkFrom n K
  grown_ok k n L H K le later low ok grown x more = not_true (K x) (λ h. by (grown x h))
    where
      by : (H x ≡ true) ⊎ Origin L k n x → ⊥
      by (inl i) = no_both (H x) i (ok x (omega arith))
      by (inr (a_made a b)) = omega arith
      by (inr (a_let l)) = let lt = low x l in omega arith

  grown_avoids : (k n : ℕ) (L H K : ℕ → Bool) → base ≤ k → Grown k n L H K → (x : ℕ) → H x ≡ false → from base x ≡ false → L x ≡ false → K x ≡ false
  grown_avoids k n L H K le grown x h f l = not_true (K x) (λ i. by (grown x i))
    where
      by : (H x ≡ true) ⊎ Origin L k n x → ⊥
      by (inl i) = no_both (H x) i h
      by (inr (a_made a b)) = no_both (from base x) (is_from base x (omega arith)) f
      by (inr (a_let m)) = no_both (L x) m l

  grown_then : (k m n : ℕ) (L M H K J : ℕ → Bool) → k ≤ m → m ≤ n → Grown k m L H K → Grown m n M K J → Grown k n (λ x. L x || M x) H J
  grown_then k m n L M H K J le more first second x h = by (second x h)
    where
      to : (H x ≡ true) ⊎ Origin L k m x → (H x ≡ true) ⊎ Origin (λ y. L y || M y) k n x
      to (inl i) = inl i
      to (inr o) = inr (wider_origin L (λ y. L y || M y) k m k n x o (omega arith) more (λ l. or_left (L x) (M x) l))

      by : (K x ≡ true) ⊎ Origin M m n x → (H x ≡ true) ⊎ Origin (λ y. L y || M y) k n x
      by (inl i) = to (first x i)
      by (inr o) = inr (wider_origin M (λ y. L y || M y) m n k n x o le (omega arith) (λ l. or_right (L x) (M x) l))

  -- ---- blocks

  -- the block as a tree is clear, and the names of its lets are made here or those of the source's lets
  record ClearBlock (k : ℕ) (B : Block) (t : Tree) : Type 0 where
    later : k ≤ B.next
    clear : (H : ℕ → Bool) → OkFrom k H → Avoids H t → Clear H (closed B)
    names : (x : ℕ) → is_in (let_names (flat (closed B)).lets) x ≡ true → Origin (lets t) k B.next x

  -- what stands for it is clear as long as nothing of it is hidden
  abbrev StaysClear : Block → Tree → (ℕ → Bool) → Type 0
  StaysClear O t K =
      (L J : ℕ → Bool) → Avoids L t → Low base L → ((x : ℕ) → x < O.next → J x ≡ true → (K x ≡ true) ⊎ (L x ≡ true)) → Clear J O.last

  -- the bindings of the block are clear, whatever follows
  record ClearOperand (k : ℕ) (O : Block) (t : Tree) : Type 0 where
    later : k ≤ O.next
    clear : (H : ℕ → Bool) → OkFrom k H → Avoids H t → (c : Tree) → ((K : ℕ → Bool) → Grown k O.next (lets t) H K → StaysClear O t K → Clear K c) → Clear H (wrap O.bindings c)
    names : (c : Tree) (x : ℕ) → is_in (let_names (flat (wrap O.bindings c)).lets) x ≡ true → Origin (lets t) k O.next x ⊎ (is_in (let_names (flat c).lets) x ≡ true)

  record ClearRow (k : ℕ) (R : Row) (es : Trees) : Type 0 where
    later : k ≤ R.next
    clear : (H : ℕ → Bool) → OkFrom k H → AvoidsAll H es → (c : Tree)
        → ((K : ℕ → Bool) → Grown k R.next (lets_all es) H K
        → ((L J : ℕ → Bool) → AvoidsAll L es → Low base L → ((x : ℕ) → x < R.next → J x ≡ true → (K x ≡ true) ⊎ (L x ≡ true)) → ClearAll J R.atoms) → Clear K c)
        → Clear H (wrap R.bindings c)
    names : (c : Tree) (x : ℕ) → is_in (let_names (flat (wrap R.bindings c)).lets) x ≡ true → Origin (lets_all es) k R.next x ⊎ (is_in (let_names (flat c).lets) x ≡ true)

  -- a name of lets, a let and lets
  let_cases : (ls ms : List Let) (i : ℕ) (p : Place) (q : Pattern) (e : Tree) (x : ℕ) (P : Type 0) → is_in (let_names (ls ++ let_one i p q e ∷ ms)) x ≡ true
      → (is_in (let_names ls) x ≡ true → P) → (is_in (bound_in q) x ≡ true → P) → (is_in (let_names ms) x ≡ true → P) → P
  let_cases ls ms i p q e x P h f g l =
      let rest = bound_in q ++ let_names ms in
      let one = ap (λ xs. is_in xs x) (names_append ls (let_one i p q e ∷ ms)) ∙ list_any-append (λ y. y == x) (let_names ls) rest in
      or_cases (is_in (let_names ls) x) (is_in rest x) P (sym one ∙ h) f (λ m.
      or_cases (is_in (bound_in q) x) (is_in (let_names ms) x) P (sym (list_any-append (λ y. y == x) (bound_in q) (let_names ms)) ∙ m) g l)

  is_one : (j x : ℕ) → is_in (j ∷ []) x ≡ true → j ≡ x
  is_one j x h = or_cases (j == x) false (j ≡ x) h (λ e. eqb-true j x e) (λ e. cc)

  made_clear : (i : ℕ) (p : Place) (k : ℕ) (B : Block) (t : Tree) → base ≤ k → Low base (lets t) → ClearBlock k B t → ClearOperand k (made i p B) t
  made_clear i p k B t le low K =
      let later = K.later in
      record {
        later = omega (arith, later);
        clear = λ H ok av c go.
            let ns = let_names (flat (closed B)).lets in (
              K.clear H ok av,
              go (also ns H) (λ x h. or_cases (is_in ns x) (H x) ((H x ≡ true) ⊎ Origin (lets t) k (B.next + 1) x) h
                  (λ i. inr (wider_origin (lets t) (lets t) k B.next k (B.next + 1) x (K.names x i) (omega arith) (omega arith) (λ l. l))) (λ i. inl i)) (λ L J avl lowl f.
                  let o : B.next < B.next + 1 = omega arith in
                  not_true (J B.next) (λ h. hidden_not H ok L lowl (f B.next o h))),
            );
        names = λ c x h.
            let_cases (flat (closed B)).lets (flat c).lets _ _ (pattern _ (bind B.next)) _ x (Origin (lets t) k (B.next + 1) x ⊎ (is_in (let_names (flat c).lets) x ≡ true)) h
            (λ i. inl (wider_origin (lets t) (lets t) k B.next k (B.next + 1) x (K.names x i) (omega arith) (omega arith) (λ l. l)))
            (λ i. let e = is_one B.next x i in inl (a_made (omega (arith, later)) (omega arith))) (λ i. inr i);
      }
    where
      not_there : Origin (lets t) k B.next B.next → ⊥
      not_there (a_made a b) = omega arith
      not_there (a_let l) = let lt = low B.next l in let later = K.later in omega arith

      hidden_not : (H : ℕ → Bool) → OkFrom k H → (L : ℕ → Bool) → Low base L → (also (let_names (flat (closed B)).lets) H B.next ≡ true) ⊎ (L B.next ≡ true) → ⊥
      hidden_not H ok L lowl (inl h) =
          or_cases (is_in (let_names (flat (closed B)).lets) B.next) (H B.next) ⊥ h (λ i. not_there (K.names B.next i)) (λ i. no_both (H B.next) i (ok B.next K.later))
      hidden_not H ok L lowl (inr l) = let lt = lowl B.next l in let later = K.later in omega arith

  -- what is pure as it is written
  pure_operand : (k : ℕ) (t : Tree) → base ≤ k → is_pure t ≡ true → Avoids (from base) t → ClearOperand k (plain k t) t
  pure_operand k t le is av = record {
    later = omega arith;
    clear = λ H ok avh c go.
        go H (λ x h. inl h) (λ L J avl low f.
        pure_clear t J is (avoids_by H L (from base) J (λ x h l b. not_true (J x) (λ i. by H L J f x h l b i)) t avh avl av));
    names = λ c x h. inr h;
  }
    where
      or_both : (H L : ℕ → Bool) (x : ℕ) → H x ≡ false → L x ≡ false → (H x ≡ true) ⊎ (L x ≡ true) → ⊥
      or_both H L x h l (inl i) = no_both (H x) i h
      or_both H L x h l (inr i) = no_both (L x) i l

      under_base : (x : ℕ) → from base x ≡ false → x < k → ⊥ → ⊥
      under_base x b lt h = h

      by : (H L J : ℕ → Bool) → ((x : ℕ) → x < k → J x ≡ true → (H x ≡ true) ⊎ (L x ≡ true)) → (x : ℕ) → H x ≡ false → L x ≡ false → from base x ≡ false → J x ≡ true → ⊥
      by H L J f x h l b i = let lt = is_before base x b in or_both H L x h l (f x (omega (arith, lt, le)) i)

  -- ---- rows

  nil_row : (k : ℕ) → ClearRow k (no_row k) no_trees
  nil_row k = record { later = omega arith; clear = λ H ok av c go. go H (λ x h. inl h) (λ L J avl low f. tt); names = λ c x h. inr h }

  wrap_append : (as_ bs : List Binding) (c : Tree) → wrap (as_ ++ bs) c ≡ wrap as_ (wrap bs c)
  wrap_append [] bs c = refl
  wrap_append (a ∷ as_) bs c = ap (λ t. wrap (a ∷ []) t) (wrap_append as_ bs c)

  cons_row : (k : ℕ) (F : Block) (Q : Row) (e : Tree) (es : Trees) → base ≤ k → Low base (lets e) → Low base (lets_all es) → Avoids (from base) e → AvoidsAll (from base) es → AvoidsAll (lets e) es → Avoids (lets_all es) e
      → ClearOperand k F e → ClearRow F.next Q es → ClearRow k (more_row F Q) (more_trees e es)
  cons_row k F Q e es le low lows av avs forward backward K M =
      let first = K.later in let second = M.later in
      record {
        later = omega (arith, first, second);
        clear = λ H ok avh c go.
            subst (Clear H) (sym (wrap_append F.bindings Q.bindings c))
            (K.clear H ok avh.0 (wrap Q.bindings c) (λ H1 grown stays.
            M.clear H1 (grown_ok k F.next (lets e) H H1 le first low ok grown) (all_by H (from base) (lets e) H1 (grown_avoids k F.next (lets e) H H1 le grown) es avh.1 avs forward) c (λ H2 grown2 stays2.
            go H2 (grown_then k F.next Q.next (lets e) (lets_all es) H H1 H2 first second grown grown2) (λ L J avl lowl f. (
              stays (λ x. L x || lets_all es x) J (avoids_by L (lets_all es) L (λ x. L x || lets_all es x) (λ x a b c2. or_none (L x) (lets_all es x) a b) e avl.0 backward avl.0) (λ x h. or_cases (L x) (lets_all es x) (x < base) h (lowl x) (lows x))
                  (λ x lt h. back H1 H2 L x lt (grown2 x) (f x (omega (arith, second, lt)) h)),
              stays2 L J avl.1 lowl f,
            )))));
        names = λ c x h. by c x (K.names (wrap Q.bindings c) x (subst (λ t. is_in (let_names (flat t).lets) x ≡ true) (wrap_append F.bindings Q.bindings c) h));
      }
    where
      or_none : (a b : Bool) → a ≡ false → b ≡ false → (a || b) ≡ false
      or_none true b h k2 = cc
      or_none false b h k2 = k2

      back2 : (H1 L : ℕ → Bool) (x : ℕ) → x < F.next → (H1 x ≡ true) ⊎ Origin (lets_all es) F.next Q.next x → (H1 x ≡ true) ⊎ ((L x || lets_all es x) ≡ true)
      back2 H1 L x lt (inl i) = inl i
      back2 H1 L x lt (inr (a_made a b)) = absurd (omega arith)
      back2 H1 L x lt (inr (a_let l)) = inr (or_right (L x) (lets_all es x) l)

      back : (H1 H2 L : ℕ → Bool) (x : ℕ) → x < F.next → (H2 x ≡ true → (H1 x ≡ true) ⊎ Origin (lets_all es) F.next Q.next x) → (H2 x ≡ true) ⊎ (L x ≡ true) → (H1 x ≡ true) ⊎ ((L x || lets_all es x) ≡ true)
      back H1 H2 L x lt grown (inl i) = back2 H1 L x lt (grown i)
      back H1 H2 L x lt grown (inr l) = inr (or_left (L x) (lets_all es x) l)

      late : (c : Tree) (x : ℕ) → Origin (lets_all es) F.next Q.next x ⊎ (is_in (let_names (flat c).lets) x ≡ true) → Origin (λ y. lets e y || lets_all es y) k Q.next x ⊎ (is_in (let_names (flat c).lets) x ≡ true)
      late c x (inl o) = let first = K.later in inl (wider_origin (lets_all es) (λ y. lets e y || lets_all es y) F.next Q.next k Q.next x o first (omega arith) (λ l. or_right (lets e x) (lets_all es x) l))
      late c x (inr h) = inr h

      by : (c : Tree) (x : ℕ) → Origin (lets e) k F.next x ⊎ (is_in (let_names (flat (wrap Q.bindings c)).lets) x ≡ true) → Origin (λ y. lets e y || lets_all es y) k Q.next x ⊎ (is_in (let_names (flat c).lets) x ≡ true)
      by c x (inl o) = inl (wider_origin (lets e) (λ y. lets e y || lets_all es y) k F.next k Q.next x o (omega arith) M.later (λ l. or_left (lets e x) (lets_all es x) l))
      by c x (inr h) = late c x (M.names c x h)

  -- a form over a row
  finish : (k : ℕ) (R : Row) (es : Trees) (t last : Tree) (n : ℕ) → base ≤ k → ClearRow k R es → Low base (lets_all es) → AvoidsAll (from base) es → R.next ≤ n → ((x : ℕ) → lets_all es x ≡ true → lets t x ≡ true) → ((H : ℕ → Bool) → Avoids H t → AvoidsAll H es)
      → ((H J : ℕ → Bool) → OkFrom R.next J → Avoids H t → Grown k R.next (lets_all es) H J → ClearAll J R.atoms → Clear J last) → ((x : ℕ) → is_in (let_names (flat last).lets) x ≡ true → ⊥)
      → ClearBlock k (record { bindings = R.bindings; last = last; next = n }) t
  finish k R es t last n le row low avs more inside avoids clears nones =
      let later = row.later in
      record {
        later = omega (arith, later, more);
        clear = λ H ok av.
            row.clear H ok (avoids H av) last (λ J grown stays.
            clears H J (grown_ok k R.next (lets_all es) H J le later low ok grown) av grown
            (stays none J (all_by (from base) (from base) (from base) none (λ x a b c. refl) es avs avs avs) (λ x h. cc) (λ x lt h. inl h)));
        names = λ x h. by x (row.names last x h);
      }
    where
      by : (x : ℕ) → Origin (lets_all es) k R.next x ⊎ (is_in (let_names (flat last).lets) x ≡ true) → Origin (lets t) k n x
      by x (inl o) = wider_origin (lets_all es) (lets t) k R.next k n x o (omega arith) more (inside x)
      by x (inr h) = absurd (nones x h)

  -- a pure form over a row
  finish_operand : (k : ℕ) (R : Row) (es : Trees) (t last : Tree) → ClearRow k R es → ((x : ℕ) → lets_all es x ≡ true → lets t x ≡ true) → ((H : ℕ → Bool) → Avoids H t → AvoidsAll H es)
      → ((J : ℕ → Bool) → ClearAll J R.atoms → Clear J last)
      → ClearOperand k (record { bindings = R.bindings; last = last; next = R.next }) t
  finish_operand k R es t last row inside avoids clears = record {
    later = row.later;
    clear = λ H ok av c go.
        row.clear H ok (avoids H av) c (λ J grown stays.
        go J (λ x h. by H x (grown x h)) (λ L I avl low f. clears I (stays L I (avoids L avl) low f)));
    names = λ c x h. to c x (row.names c x h);
  }
    where
      by : (H : ℕ → Bool) (x : ℕ) → (H x ≡ true) ⊎ Origin (lets_all es) k R.next x → (H x ≡ true) ⊎ Origin (lets t) k R.next x
      by H x (inl i) = inl i
      by H x (inr o) = inr (wider_origin (lets_all es) (lets t) k R.next k R.next x o (omega arith) (omega arith) (inside x))

      to : (c : Tree) (x : ℕ) → Origin (lets_all es) k R.next x ⊎ (is_in (let_names (flat c).lets) x ≡ true) → Origin (lets t) k R.next x ⊎ (is_in (let_names (flat c).lets) x ≡ true)
      to c x (inl o) = inl (wider_origin (lets_all es) (lets t) k R.next k R.next x o (omega arith) (omega arith) (inside x))
      to c x (inr h) = inr h

  record ClearsOf (k : ℕ) (B O : Block) (t : Tree) : Type 0 where
    block : ClearBlock k B t
    operand : ClearOperand k O t

  bound_clears : (i : ℕ) (p : Place) (k : ℕ) (B : Block) (t : Tree) → base ≤ k → Low base (lets t) → ClearBlock k B t → ClearsOf k B (made i p B) t
  bound_clears i p k B t le low K = record { block = K; operand = made_clear i p k B t le low K }

  -- nothing in it but what is no use
  leaf : (k i : ℕ) (p : Place) (f : Form) → base ≤ k → ((H : ℕ → Bool) → ClearForm H f) → ((x : ℕ) → is_in (let_names (flat (tree i p f)).lets) x ≡ true → ⊥) → Low base (lets (tree i p f))
      → ClearsOf k (plain k (tree i p f)) (made i p (plain k (tree i p f))) (tree i p f)
  leaf k i p f le clears nones low =
      bound_clears i p k (plain k (tree i p f)) (tree i p f) le low (record { later = omega arith; clear = λ H ok av. clears H; names = λ x h. absurd (nones x h) })

  -- what avoids the names of a row of one or two
  or_false : (a : Bool) → a ≡ false → (a || false) ≡ false
  or_false true h = cc
  or_false false h = refl

  or_two : (a b : Bool) → a ≡ false → b ≡ false → (a || (b || false)) ≡ false
  or_two true b h k = cc
  or_two false b h k = or_false b k

  true_one : (a : Bool) → (a || false) ≡ true → a ≡ true
  true_one true h = refl
  true_one false h = h

  true_two : (a b : Bool) → (a || (b || false)) ≡ true → (a || b) ≡ true
  true_two true b h = refl
  true_two false b h = true_one b h

  true_three : (a b c : Bool) → (a || (b || (c || false))) ≡ true → (a || (b || c)) ≡ true
  true_three true b c h = refl
  true_three false b c h = true_two b c h

  avoids_one : (a t : Tree) → Avoids (lets a) t → Avoids (lets_all (more_trees a no_trees)) t
  avoids_one a t h = avoids_by (lets a) (lets a) (lets a) (lets_all (more_trees a no_trees)) (λ x i j l. or_false (lets a x) i) t h h h

  avoids_two : (a b t : Tree) → Avoids (lets a) t → Avoids (lets b) t → Avoids (lets_all (more_trees a (more_trees b no_trees))) t
  avoids_two a b t h k = avoids_by (lets a) (lets b) (lets b) (lets_all (more_trees a (more_trees b no_trees))) (λ x i j l. or_two (lets a x) (lets b x) i j) t h k k

  low_one : (a : Tree) → Low base (lets a) → Low base (lets_all (more_trees a no_trees))
  low_one a low x h = low x (true_one (lets a x) h)

  low_two : (a b : Tree) → Low base (lets a) → Low base (lets b) → Low base (lets_all (more_trees a (more_trees b no_trees)))
  low_two a b low lowb x h = or_cases (lets a x) (lets b x) (x < base) (true_two (lets a x) (lets b x) h) (low x) (lowb x)

  avoids_none : (t : Tree) → Avoids (from base) t → Avoids (lets_all no_trees) t
  avoids_none t av = avoids_by (from base) (from base) (from base) (lets_all no_trees) (λ x a b c. refl) t av av av

  row_one : (k : ℕ) (F : Block) (a : Tree) → base ≤ k → Low base (lets a) → Avoids (from base) a → ClearOperand k F a
      → ClearRow k (record { bindings = F.bindings; atoms = more_trees F.last no_trees; next = F.next }) (more_trees a no_trees)
  row_one k F a le low av K =
      subst (λ bs. ClearRow k (record { bindings = bs; atoms = more_trees F.last no_trees; next = F.next }) (more_trees a no_trees)) (append-nil F.bindings)
      (cons_row k F (no_row F.next) a no_trees le low (λ x h. cc) av tt tt (avoids_none a av) K (nil_row F.next))

  row_two : (k : ℕ) (F B : Block) (a b : Tree) → base ≤ k → Low base (lets a) → Low base (lets b) → Avoids (from base) a → Avoids (from base) b → TwoApart a b → ClearOperand k F a → ClearOperand F.next B b
      → ClearRow k (record { bindings = F.bindings ++ B.bindings; atoms = more_trees F.last (more_trees B.last no_trees); next = B.next }) (more_trees a (more_trees b no_trees))
  row_two k F B a b le low lowb av bv two K M =
      let first = K.later in
      let le2 : base ≤ F.next = omega (arith, le, first) in
      cons_row k F (record { bindings = B.bindings; atoms = more_trees B.last no_trees; next = B.next }) a (more_trees b no_trees) le low (low_one b lowb) av (bv, tt) (two.0, tt) (avoids_one b a two.1) K
      (row_one F.next B b le2 lowb bv M)

  row_three : (k : ℕ) (F B C : Block) (a b c : Tree) → base ≤ k → Low base (lets a) → Low base (lets b) → Low base (lets c) → Avoids (from base) a → Avoids (from base) b → Avoids (from base) c → TwoApart a b → TwoApart a c → TwoApart b c
      → ClearOperand k F a → ClearOperand F.next B b → ClearOperand B.next C c
      → ClearRow k (record { bindings = F.bindings ++ (B.bindings ++ C.bindings); atoms = more_trees F.last (more_trees B.last (more_trees C.last no_trees)); next = C.next }) (more_trees a (more_trees b (more_trees c no_trees)))
  row_three k F B C a b c le low lowb lowc av bv cv ab ac bc K M N =
      let first = K.later in
      let le2 : base ≤ F.next = omega (arith, le, first) in
      cons_row k F (record { bindings = B.bindings ++ C.bindings; atoms = more_trees B.last (more_trees C.last no_trees); next = C.next }) a (more_trees b (more_trees c no_trees)) le low (low_two b c lowb lowc) av (bv, (cv, tt)) (ab.0, (ac.0, tt)) (avoids_two b c a ab.1 ac.1) K
      (row_two F.next B C b c le2 lowb lowc bv cv bc M N)

  one_clears : (i : ℕ) (p : Place) (k : ℕ) (F : Block) (a t last : Tree) → base ≤ k → Low base (lets a) → Avoids (from base) a → ClearOperand k F a → ((x : ℕ) → lets a x ≡ true → lets t x ≡ true) → ((H : ℕ → Bool) → Avoids H t → Avoids H a)
      → ((J : ℕ → Bool) → Clear J F.last → Clear J last) → ((x : ℕ) → is_in (let_names (flat last).lets) x ≡ true → ⊥)
      → (c : Bool) → Low base (lets t) → ClearsOf k (record { bindings = F.bindings; last = last; next = F.next }) (if c then record { bindings = F.bindings; last = last; next = F.next } else made i p (record { bindings = F.bindings; last = last; next = F.next })) t
  one_clears i p k F a t last le low av K inside avoids clears nones c lowt =
      let R : Row = record { bindings = F.bindings; atoms = more_trees F.last no_trees; next = F.next } in
      let row = row_one k F a le low av K in
      let within = λ (x : ℕ) (h : lets_all (more_trees a no_trees) x ≡ true). inside x (true_one (lets a x) h) in
      let B = finish k R (more_trees a no_trees) t last F.next le row (low_one a low) (av, tt) (omega arith) within (λ H h. (avoids H h, tt)) (λ H J ok av2 grown all. clears J all.0) nones in
      pick c k (record { bindings = F.bindings; last = last; next = F.next }) t le lowt B (finish_operand k R (more_trees a no_trees) t last row within (λ H h. (avoids H h, tt)) (λ J all. clears J all.0))
    where
      pick : (c : Bool) (k : ℕ) (B : Block) (t : Tree) → base ≤ k → Low base (lets t) → ClearBlock k B t → ClearOperand k B t → ClearsOf k B (if c then B else made i p B) t
      pick true k B t le low h l = record { block = h; operand = l }
      pick false k B t le low h l = bound_clears i p k B t le low h

  two_clears : (i : ℕ) (p : Place) (k : ℕ) (F B : Block) (a b t last : Tree) → base ≤ k → Low base (lets a) → Low base (lets b) → Avoids (from base) a → Avoids (from base) b → TwoApart a b → ClearOperand k F a → ClearOperand F.next B b
      → ((x : ℕ) → (lets a x || lets b x) ≡ true → lets t x ≡ true) → ((H : ℕ → Bool) → Avoids H t → Avoids H a × Avoids H b)
      → ((J : ℕ → Bool) → Clear J F.last → Clear J B.last → Clear J last) → ((x : ℕ) → is_in (let_names (flat last).lets) x ≡ true → ⊥)
      → (c : Bool) → Low base (lets t) → (let X : Block = record { bindings = F.bindings ++ B.bindings; last = last; next = B.next } in ClearsOf k X (if c then X else made i p X) t)
  two_clears i p k F B a b t last le low lowb av bv two K M inside avoids clears nones c lowt =
      let R : Row = record { bindings = F.bindings ++ B.bindings; atoms = more_trees F.last (more_trees B.last no_trees); next = B.next } in
      let es = more_trees a (more_trees b no_trees) in
      let row = row_two k F B a b le low lowb av bv two K M in
      let within = λ (x : ℕ) (h : lets_all es x ≡ true). inside x (true_two (lets a x) (lets b x) h) in
      let X = finish k R es t last B.next le row (low_two a b low lowb) (av, (bv, tt)) (omega arith) within (λ H h. let p = avoids H h in (p.0, (p.1, tt))) (λ H J ok av2 grown all. clears J all.0 all.1.0) nones in
      pick c k (record { bindings = F.bindings ++ B.bindings; last = last; next = B.next }) t le lowt X (finish_operand k R es t last row within (λ H h. let p = avoids H h in (p.0, (p.1, tt))) (λ J all. clears J all.0 all.1.0))
    where
      pick : (c : Bool) (k : ℕ) (B : Block) (t : Tree) → base ≤ k → Low base (lets t) → ClearBlock k B t → ClearOperand k B t → ClearsOf k B (if c then B else made i p B) t
      pick true k B t le low h l = record { block = h; operand = l }
      pick false k B t le low h l = bound_clears i p k B t le low h

  -- what stands where it is pure, and else a block that is bound
  either_clears : (i : ℕ) (p : Place) (c : Bool) (k : ℕ) (t : Tree) (Y : Block) → base ≤ k → Low base (lets t) → (c ≡ true → ClearOperand k (plain k t) t) → (c ≡ true → (H : ℕ → Bool) → Avoids H t → Clear H t) → ((x : ℕ) → is_in (let_names (flat t).lets) x ≡ true → ⊥)
      → ClearBlock k Y t → ClearsOf k (if c then plain k t else Y) (if c then (if c then plain k t else Y) else made i p (if c then plain k t else Y)) t
  either_clears i p true k t Y le low h clears nones l =
      record { block = record { later = omega arith; clear = λ H ok av. clears refl H av; names = λ x i. absurd (nones x i) }; operand = h refl }
  either_clears i p false k t Y le low h clears nones l = bound_clears i p k Y t le low l

  scrutinee_clear : (t : Tree) (k : ℕ) → base ≤ k → Low base (lets t) → ClearsOf k (block k t) (operand t (block k t)) t → ClearOperand k (scrutinee t (block k t)) t
  scrutinee_clear (tree i p (form.use_of x)) k le low K = K.operand
  scrutinee_clear (tree i p f) k le low K = made_clear i p k (block k (tree i p f)) (tree i p f) le low K.block

  pub under_clear : (q : Pattern) (k : ℕ) (c : Tree) (H : ℕ → Bool) → H k ≡ false → Clear H c → Clear H (under k q c)
  under_clear (pattern p any) k c H h l = l
  under_clear (pattern p (bind x)) k c H h l = l
  under_clear (pattern p nothing) k c H h l = l
  under_clear (pattern p (tuple_of qs)) k c H h l = (h, (l, tt))
  under_clear (pattern p (build_of m n qs)) k c H h l = (h, (l, tt))

  under_names : (q : Pattern) (k : ℕ) (c : Tree) (x : ℕ) → is_in (let_names (flat (under k q c)).lets) x ≡ true → is_in (let_names (flat c).lets) x ≡ true
  under_names (pattern p any) k c x h = h
  under_names (pattern p (bind y)) k c x h = h
  under_names (pattern p nothing) k c x h = h
  under_names (pattern p (tuple_of qs)) k c x h = cc
  under_names (pattern p (build_of m n qs)) k c x h = cc

  -- the variable of a parameter
  parameter_name : (q : Pattern) (k x : ℕ) → is_in (bound_in (parameter k q)) x ≡ true → ((k ≡ x) × (k < behind k q)) ⊎ (is_in (bound_in q) x ≡ true)
  parameter_name (pattern p any) k x h = inl (is_one k x h, omega arith)
  parameter_name (pattern p nothing) k x h = inl (is_one k x h, omega arith)
  parameter_name (pattern p (bind y)) k x h = inr h
  parameter_name (pattern p (tuple_of qs)) k x h = inl (is_one k x h, let a = pattern_later (pattern p (tuple_of qs)) (k + 1) in omega (arith, a))
  parameter_name (pattern p (build_of c n qs)) k x h = inl (is_one k x h, let a = pattern_later (pattern p (build_of c n qs)) (k + 1) in omega (arith, a))

  -- the constructs of a list
  listed_more : (i : ℕ) (p : Place) (k : ℕ) (xs : Trees) → k ≤ (listed i p k xs).next
  listed_more i p k no_trees = omega arith
  listed_more i p k (more_trees x xs) = let h = listed_more i p k xs in omega (arith, h)

  listed_names : (xs : Trees) (i : ℕ) (p : Place) (k x : ℕ) → is_in (let_names (flat (closed (listed i p k xs))).lets) x ≡ true → (k ≤ x) × (x < (listed i p k xs).next)
  listed_names no_trees i p k x h = cc
  listed_names (more_trees y xs) i p k x h =
      let L = listed i p k xs in
      let later = listed_more i p k xs in
      let_cases (flat (closed L)).lets [] _ _ (pattern _ (bind L.next)) _ x ((k ≤ x) × (x < L.next + 1)) h
      (λ l. let r = listed_names xs i p k x l in let a = r.0 in let b = r.1 in (a, omega (arith, b))) (λ l. let e = is_one L.next x l in (omega (arith, later, e), omega (arith, e))) (λ l. cc)

  listed_clear : (xs : Trees) (i : ℕ) (p : Place) (k : ℕ) (H : ℕ → Bool) → OkFrom k H → ((J : ℕ → Bool) → ((x : ℕ) → x < k → J x ≡ true → H x ≡ true) → ClearAll J xs) → Clear H (closed (listed i p k xs))
  listed_clear no_trees i p k H ok all = tt
  listed_clear (more_trees y xs) i p k H ok all =
      let L = listed i p k xs in
      let ns = let_names (flat (closed L)).lets in
      let J = also ns H in
      let before = λ (x : ℕ) (lt : x < k) (h : J x ≡ true). or_cases (is_in ns x) (H x) (H x ≡ true) h (λ l. let r = listed_names xs i p k x l in let a = r.0 in absurd (omega (arith, a, lt))) (λ l. l) in
      (listed_clear xs i p k H ok (λ I f. (all I f).1), ((all J before).0, (not_true (J L.next) (λ h. or_cases (is_in ns L.next) (H L.next) ⊥ h (λ l. let r = listed_names xs i p k L.next l in let b = r.1 in omega (arith, b)) (λ l. no_both (H L.next) l (ok L.next (listed_more i p k xs)))), tt)))

  further_on : (k n : ℕ) → base ≤ k → k ≤ n → base ≤ n
  further_on k n le later = omega arith

  pure_clears : (k : ℕ) (t : Tree) → base ≤ k → is_pure t ≡ true → Avoids (from base) t → ((x : ℕ) → is_in (let_names (flat t).lets) x ≡ true → ⊥) → Low base (lets t) → ClearsOf k (plain k t) (plain k t) t
  pure_clears k t le is av nones low =
      record { block = record { later = omega arith; clear = λ H ok avh. pure_clear t H is avh; names = λ x h. absurd (nones x h) }; operand = pure_operand k t le is av }

  record CasesClear (k : ℕ) (cs : Cases) : Type 0 where
    later : k ≤ (cases k cs).next
    clear : (H : ℕ → Bool) → OkFrom k H → AvoidsCases H cs → ClearCases H (cases k cs).cases

  -- what is left of a chain behind its first part
  record ChainClear (k : ℕ) (X : Block) (t : Tree) (es : Trees) : Type 0 where
    later : k ≤ X.next
    clear : (H : ℕ → Bool) → OkFrom k H → Avoids H t → AvoidsAll H es → Clear H (closed X)
    names : (x : ℕ) → is_in (let_names (flat (closed X)).lets) x ≡ true → Origin (λ y. lets t y || lets_all es y) k X.next x

  list_names : (es : Trees) (i : ℕ) (p : Place) (k x : ℕ) → k ≤ (items k es).next → (let Q = items k es in let L = listed i p Q.next Q.atoms in
      Origin (lets_all es) k Q.next x ⊎ (is_in (let_names (flat (closed L)).lets) x ≡ true) → Origin (lets_all es) k L.next x)
  list_names es i p k x first (inl o) =
      let Q = items k es in
      let more = listed_more i p Q.next Q.atoms in
      wider_origin (lets_all es) (lets_all es) k Q.next k (listed i p Q.next Q.atoms).next x o (omega arith) more (λ l. l)
  list_names es i p k x first (inr h) =
      let Q = items k es in
      let r = listed_names Q.atoms i p Q.next x h in let a = r.0 in let b = r.1 in a_made (omega (arith, a, first)) b

  name_origin : (q : Pattern) (L : ℕ → Bool) (k m n x : ℕ) → k ≤ m → behind m q ≤ n → (is_in (bound_in q) x ≡ true → L x ≡ true) → ((m ≡ x) × (m < behind m q)) ⊎ (is_in (bound_in q) x ≡ true) → Origin L k n x
  name_origin q L k m n x le more h (inl e) = let same = e.0 in let lt = e.1 in a_made (omega (arith, le, same)) (omega (arith, same, lt, more))
  name_origin q L k m n x le more h (inr i) = a_let (h i)

  mutual
    tree_clear : (t : Tree) → Avoids (from base) t → Apart base t → (k : ℕ) → base ≤ k → ClearsOf k (block k t) (operand t (block k t)) t
    tree_clear (tree i p f) av ap_ k le = form_clear f i p av ap_ k le

    form_clear : (f : Form) (i : ℕ) (p : Place) → AvoidsForm (from base) f → ApartForm base f → (k : ℕ) → base ≤ k → ClearsOf k (block_of k i p f) (operand (tree i p f) (block_of k i p f)) (tree i p f)
    form_clear (form.whole n) i p av ap_ k le = pure_clears k (tree i p (form.whole n)) le refl av (λ x h. cc) (λ x h. cc)
    form_clear (form.flag b) i p av ap_ k le = pure_clears k (tree i p (form.flag b)) le refl av (λ x h. cc) (λ x h. cc)
    form_clear form.unit i p av ap_ k le = pure_clears k (tree i p form.unit) le refl av (λ x h. cc) (λ x h. cc)
    form_clear (form.use_of x) i p av ap_ k le = pure_clears k (tree i p (form.use_of x)) le refl av (λ x h. cc) (λ x h. cc)
    form_clear (form.qualified m x) i p av ap_ k le = leaf k i p (form.qualified m x) le (λ H. tt) (λ x h. cc) (λ x h. cc)
    form_clear form.map_empty i p av ap_ k le = leaf k i p form.map_empty le (λ H. tt) (λ x h. cc) (λ x h. cc)
    form_clear (form.map_add x y z) i p av ap_ k le = leaf k i p (form.map_add x y z) le (λ H. tt) (λ x h. cc) (λ x h. cc)
    form_clear (form.map_find x y) i p av ap_ k le = leaf k i p (form.map_find x y) le (λ H. tt) (λ x h. cc) (λ x h. cc)
    form_clear form.assert_false i p av ap_ k le = leaf k i p form.assert_false le (λ H. tt) (λ x h. cc) (λ x h. cc)
    form_clear (form.chain no_trees) i p av ap_ k le = leaf k i p (form.chain no_trees) le (λ H. tt) (λ x h. cc) (λ x h. cc)
    form_clear (form.negated e) i p av ap_ k le =
        let F = operand e (block k e) in
        one_clears i p k F e (tree i p (form.negated e)) (tree i p (form.negated F.last)) le (lets_low e base ap_) av (tree_clear e av ap_ k le).operand (λ x h. h) (λ H h. h) (λ J h. h) (λ x h. cc) true (lets_low e base ap_)
    form_clear (form.not_of e) i p av ap_ k le =
        let F = operand e (block k e) in
        one_clears i p k F e (tree i p (form.not_of e)) (tree i p (form.not_of F.last)) le (lets_low e base ap_) av (tree_clear e av ap_ k le).operand (λ x h. h) (λ H h. h) (λ J h. h) (λ x h. cc) true (lets_low e base ap_)
    form_clear (form.length_of e) i p av ap_ k le =
        let F = operand e (block k e) in
        one_clears i p k F e (tree i p (form.length_of e)) (tree i p (form.length_of F.last)) le (lets_low e base ap_) av (tree_clear e av ap_ k le).operand (λ x h. h) (λ H h. h) (λ J h. h) (λ x h. cc) true (lets_low e base ap_)
    form_clear (form.assert e) i p av ap_ k le =
        let F = operand e (block k e) in
        one_clears i p k F e (tree i p (form.assert e)) (tree i p (form.assert F.last)) le (lets_low e base ap_) av (tree_clear e av ap_ k le).operand (λ x h. h) (λ H h. h) (λ J h. h) (λ x h. cc) false (lets_low e base ap_)
    form_clear (form.print e) i p av ap_ k le =
        let F = operand e (block k e) in
        one_clears i p k F e (tree i p (form.print e)) (tree i p (form.print F.last)) le (lets_low e base ap_) av (tree_clear e av ap_ k le).operand (λ x h. h) (λ H h. h) (λ J h. h) (λ x h. cc) false (lets_low e base ap_)
    form_clear (form.read e) i p av ap_ k le =
        let F = operand e (block k e) in
        one_clears i p k F e (tree i p (form.read e)) (tree i p (form.read F.last)) le (lets_low e base ap_) av (tree_clear e av ap_ k le).operand (λ x h. h) (λ H h. h) (λ J h. h) (λ x h. cc) false (lets_low e base ap_)
    form_clear (form.call a b) i p av ap_ k le =
        let F = operand a (block k a) in
        let K = (tree_clear a av.0 ap_.0 k le).operand in
        let le2 = further_on k F.next le K.later in
        let B = operand b (block F.next b) in
        two_clears i p k F B a b (tree i p (form.call a b)) (tree i p (form.call F.last B.last)) le (lets_low a base ap_.0) (lets_low b base ap_.2) av.0 av.1 ap_.1 K (tree_clear b av.1 ap_.2 F.next le2).operand
        (λ x h. h) (λ H h. h) (λ J h l. (h, l)) (λ x h. cc) false (lets_low (tree i p (form.call a b)) base ap_)
    form_clear (form.arithmetic o a b) i p av ap_ k le =
        let F = operand a (block k a) in
        let K = (tree_clear a av.0 ap_.0 k le).operand in
        let le2 = further_on k F.next le K.later in
        let B = operand b (block F.next b) in
        two_clears i p k F B a b (tree i p (form.arithmetic o a b)) (tree i p (form.arithmetic o F.last B.last)) le (lets_low a base ap_.0) (lets_low b base ap_.2) av.0 av.1 ap_.1 K (tree_clear b av.1 ap_.2 F.next le2).operand
        (λ x h. h) (λ H h. h) (λ J h l. (h, l)) (λ x h. cc) (is_pure_operator o) (lets_low (tree i p (form.arithmetic o a b)) base ap_)
    form_clear (form.compare o a b) i p av ap_ k le =
        let F = operand a (block k a) in
        let K = (tree_clear a av.0 ap_.0 k le).operand in
        let le2 = further_on k F.next le K.later in
        let B = operand b (block F.next b) in
        two_clears i p k F B a b (tree i p (form.compare o a b)) (tree i p (form.compare o F.last B.last)) le (lets_low a base ap_.0) (lets_low b base ap_.2) av.0 av.1 ap_.1 K (tree_clear b av.1 ap_.2 F.next le2).operand
        (λ x h. h) (λ H h. h) (λ J h l. (h, l)) (λ x h. cc) true (lets_low (tree i p (form.compare o a b)) base ap_)
    form_clear (form.make a b) i p av ap_ k le =
        let F = operand a (block k a) in
        let K = (tree_clear a av.0 ap_.0 k le).operand in
        let le2 = further_on k F.next le K.later in
        let B = operand b (block F.next b) in
        two_clears i p k F B a b (tree i p (form.make a b)) (tree i p (form.make F.last B.last)) le (lets_low a base ap_.0) (lets_low b base ap_.2) av.0 av.1 ap_.1 K (tree_clear b av.1 ap_.2 F.next le2).operand
        (λ x h. h) (λ H h. h) (λ J h l. (h, l)) (λ x h. cc) false (lets_low (tree i p (form.make a b)) base ap_)
    form_clear (form.fetch a b) i p av ap_ k le =
        let F = operand a (block k a) in
        let K = (tree_clear a av.0 ap_.0 k le).operand in
        let le2 = further_on k F.next le K.later in
        let B = operand b (block F.next b) in
        two_clears i p k F B a b (tree i p (form.fetch a b)) (tree i p (form.fetch F.last B.last)) le (lets_low a base ap_.0) (lets_low b base ap_.2) av.0 av.1 ap_.1 K (tree_clear b av.1 ap_.2 F.next le2).operand
        (λ x h. h) (λ H h. h) (λ J h l. (h, l)) (λ x h. cc) false (lets_low (tree i p (form.fetch a b)) base ap_)
    form_clear (form.and_of a b) i p av ap_ k le =
        let t = tree i p (form.and_of a b) in
        let F = operand a (block k a) in
        let K = (tree_clear a av.0 ap_.0 k le).operand in
        let le2 = further_on k F.next le K.later in
        let M = (tree_clear b av.1 ap_.2 F.next le2).block in
        let B = block F.next b in
        let c = tree i p (form.flag false) in
        let es = more_trees a no_trees in
        let low = lets_low a base ap_.0 in
        let R : Row = record { bindings = F.bindings; atoms = more_trees F.last no_trees; next = F.next } in
        let last = tree i p (form.if_else F.last (closed B) c) in
        let Y : Block = record { bindings = F.bindings; last = last; next = B.next } in
        either_clears i p (is_pure a && is_pure b) k t Y le low (λ is. pure_operand k t le is av) (λ is H h. pure_clear t H is h) (λ x h. cc)
        (finish k R es t last B.next le (row_one k F a le low av.0 K) (low_one a low) (av.0, tt) M.later (λ x h. true_one (lets a x) h) (λ H h. (h.0, tt))
        (λ H J ok avh grown all.
        let inner = M.clear J ok (avoids_by H (from base) (lets_all es) J (grown_avoids k F.next (lets_all es) H J le grown) b avh.1 av.1 (avoids_one a b ap_.1)) in
        (all.0, inner, tt)) (λ x h. cc))
    form_clear (form.or_of a b) i p av ap_ k le =
        let t = tree i p (form.or_of a b) in
        let F = operand a (block k a) in
        let K = (tree_clear a av.0 ap_.0 k le).operand in
        let le2 = further_on k F.next le K.later in
        let M = (tree_clear b av.1 ap_.2 F.next le2).block in
        let B = block F.next b in
        let c = tree i p (form.flag true) in
        let es = more_trees a no_trees in
        let low = lets_low a base ap_.0 in
        let R : Row = record { bindings = F.bindings; atoms = more_trees F.last no_trees; next = F.next } in
        let last = tree i p (form.if_else F.last c (closed B)) in
        let Y : Block = record { bindings = F.bindings; last = last; next = B.next } in
        either_clears i p (is_pure a && is_pure b) k t Y le low (λ is. pure_operand k t le is av) (λ is H h. pure_clear t H is h) (λ x h. cc)
        (finish k R es t last B.next le (row_one k F a le low av.0 K) (low_one a low) (av.0, tt) M.later (λ x h. true_one (lets a x) h) (λ H h. (h.0, tt))
        (λ H J ok avh grown all.
        let inner = M.clear J ok (avoids_by H (from base) (lets_all es) J (grown_avoids k F.next (lets_all es) H J le grown) b avh.1 av.1 (avoids_one a b ap_.1)) in
        (all.0, tt, inner)) (λ x h. cc))
    form_clear (form.tuple es) i p av ap_ k le =
        let t = tree i p (form.tuple es) in
        let Q = operands k es in
        let K = operands_clear es av ap_ k le in
        bound_clears i p k (block k t) t le (all_low es base ap_)
        (finish k Q es t (tree i p (form.tuple Q.atoms)) Q.next le K (all_low es base ap_) av (omega arith) (λ x h. h) (λ H h. h) (λ H J ok avh grown all. all) (λ x h. cc))
    form_clear (form.build c w es) i p av ap_ k le =
        let t = tree i p (form.build c w es) in
        let Q = operands k es in
        let K = operands_clear es av ap_ k le in
        bound_clears i p k (block k t) t le (all_low es base ap_)
        (finish k Q es t (tree i p (form.build c w Q.atoms)) Q.next le K (all_low es base ap_) av (omega arith) (λ x h. h) (λ H h. h) (λ H J ok avh grown all. all) (λ x h. cc))
    form_clear (form.store a b c) i p av ap_ k le =
        let t = tree i p (form.store a b c) in
        let F = operand a (block k a) in
        let K = (tree_clear a av.0 ap_.0 k le).operand in
        let le2 = further_on k F.next le K.later in
        let B = operand b (block F.next b) in
        let M = (tree_clear b av.1 ap_.3 F.next le2).operand in
        let le3 = further_on F.next B.next le2 M.later in
        let C = operand c (block B.next c) in
        let N = (tree_clear c av.2 ap_.5 B.next le3).operand in
        let es = more_trees a (more_trees b (more_trees c no_trees)) in
        let R : Row = record { bindings = F.bindings ++ (B.bindings ++ C.bindings); atoms = more_trees F.last (more_trees B.last (more_trees C.last no_trees)); next = C.next } in
        let low = lets_low t base ap_ in
        bound_clears i p k (block k t) t le low
        (finish k R es t (tree i p (form.store F.last B.last C.last)) C.next le
        (row_three k F B C a b c le (lets_low a base ap_.0) (lets_low b base ap_.3) (lets_low c base ap_.5) av.0 av.1 av.2 ap_.1 ap_.2 ap_.4 K M N) (λ x h. low x (true_three (lets a x) (lets b x) (lets c x) h)) (av.0, (av.1, (av.2, tt))) (omega arith)
        (λ x h. true_three (lets a x) (lets b x) (lets c x) h) (λ H h. (h.0, (h.1, (h.2, tt)))) (λ H J ok avh grown all. (all.0, all.1.0, all.1.1.0)) (λ x h. cc))
    form_clear (form.list_of es) i p av ap_ k le =
        let t = tree i p (form.list_of es) in
        let Q = items k es in
        let L = listed i p Q.next Q.atoms in
        let K = items_clear es av ap_ k le in
        let low = all_low es base ap_ in
        let first = K.later in let second = listed_more i p Q.next Q.atoms in
        bound_clears i p k (block k t) t le low (record {
          later = omega (arith, first, second);
          clear = λ H ok avh.
              subst (Clear H) (sym (wrap_append Q.bindings L.bindings L.last))
              (K.clear H ok avh (closed L) (λ J grown stays.
              listed_clear Q.atoms i p Q.next J (grown_ok k Q.next (lets_all es) H J le first low ok grown) (λ I f.
              stays none I (all_by (from base) (from base) (from base) none (λ x a b c. refl) es av av av) (λ x h. cc) (λ x lt h. inl (f x lt h)))));
          names = λ x h. list_names es i p k x first (K.names (closed L) x (subst (λ c. is_in (let_names (flat c).lets) x ≡ true) (wrap_append Q.bindings L.bindings L.last) h));
        })
    form_clear (form.if_else c a b) i p av ap_ k le =
        let t = tree i p (form.if_else c a b) in
        let C = operand c (block k c) in
        let K = (tree_clear c av.0 ap_.0 k le).operand in
        let le2 = further_on k C.next le K.later in
        let M = (tree_clear a av.1 ap_.3 C.next le2).block in
        let X = block C.next a in
        let le3 = further_on C.next X.next le2 M.later in
        let N = (tree_clear b av.2 ap_.4 X.next le3).block in
        let Y = block X.next b in
        let es = more_trees c no_trees in
        let low = lets_low c base ap_.0 in
        let R : Row = record { bindings = C.bindings; atoms = more_trees C.last no_trees; next = C.next } in
        let first = M.later in let second = N.later in
        bound_clears i p k (block k t) t le low
        (finish k R es t (tree i p (form.if_else C.last (closed X) (closed Y))) Y.next le (row_one k C c le low av.0 K) (low_one c low) (av.0, tt) (omega (arith, first, second)) (λ x h. true_one (lets c x) h) (λ H h. (h.0, tt))
        (λ H J ok avh grown all. (
          all.0,
          M.clear J ok (avoids_by H (from base) (lets_all es) J (grown_avoids k C.next (lets_all es) H J le grown) a avh.1 av.1 (avoids_one c a ap_.1)),
          N.clear J (ok_later C.next X.next J first ok) (avoids_by H (from base) (lets_all es) J (grown_avoids k C.next (lets_all es) H J le grown) b avh.2 av.2 (avoids_one c b ap_.2)),
        )) (λ x h. cc))
    form_clear (form.match_on e cs) i p av ap_ k le =
        let t = tree i p (form.match_on e cs) in
        let low = lets_low e base ap_.0 in
        let S = scrutinee e (block k e) in
        let K = scrutinee_clear e k le low (tree_clear e av.0 ap_.0 k le) in
        let le2 = further_on k S.next le K.later in
        let N = cases_clear cs av.1 ap_.2 S.next le2 in
        let C = cases S.next cs in
        let es = more_trees e no_trees in
        let R : Row = record { bindings = S.bindings; atoms = more_trees S.last no_trees; next = S.next } in
        bound_clears i p k (block k t) t le low
        (finish k R es t (tree i p (form.match_on S.last C.cases)) C.next le (row_one k S e le low av.0 K) (low_one e low) (av.0, tt) N.later (λ x h. true_one (lets e x) h) (λ H h. (h.0, tt))
        (λ H J ok avh grown all. (
          all.0,
          N.clear J ok (cases_by H (from base) (lets_all es) J (grown_avoids k S.next (lets_all es) H J le grown) cs avh.1 av.1 (cases_by (lets e) (lets e) (lets e) (lets_all es) (λ x a b c. or_false (lets e x) a) cs ap_.1 ap_.1 ap_.1)),
        )) (λ x h. cc))
    form_clear (form.fun q b) i p av ap_ k le =
        let t = tree i p (form.fun q b) in
        let n = behind k q in
        let first = behind_later q k in
        let K = (tree_clear b av ap_ n (further_on k n le first)).block in
        let later = K.later in
        bound_clears i p k (block k t) t le (λ x h. cc) (record {
          later = omega (arith, first, later);
          clear = λ H ok avh. under_clear q k (closed (block n b)) H (ok k (omega arith)) (K.clear H (ok_later k n H first ok) avh);
          names = λ x h. cc;
        })
    form_clear (form.let_rec f j m q b e) i p av ap_ k le =
        let t = tree i p (form.let_rec f j m q b e) in
        let n = behind k q in
        let first = behind_later q k in
        let le2 = further_on k n le first in
        let K = (tree_clear b av.0 ap_.1 n le2).block in
        let B = block n b in
        let second = K.later in
        let le3 : base ≤ B.next = omega (arith, le2, second) in
        let M = (tree_clear e av.1 ap_.2 B.next le3).block in
        let E = block B.next e in
        let third = M.later in
        let more : k ≤ B.next = omega (arith, first, second) in
        bound_clears i p k (block k t) t le (lets_low t base ap_) (record {
          later = omega (arith, more, third);
          clear = λ H ok avh. (under_clear q k (closed B) H (ok k (omega arith)) (K.clear H (ok_later k n H first ok) avh.0), M.clear H (ok_later k B.next H more ok) avh.1);
          names = λ x h.
              or_cases (f == x) (is_in (let_names (flat (closed E)).lets) x) (Origin (lets t) k E.next x) h (λ l. a_let (or_left (f == x) (lets e x) l))
              (λ l. wider_origin (lets e) (lets t) B.next E.next k E.next x (M.names x l) more (omega arith) (λ y. or_right (f == x) (lets e x) y));
        })
    form_clear (form.let_in q e b) i p av ap_ k le =
        let t = tree i p (form.let_in q e b) in
        let E = block k e in
        let K = (tree_clear e av.0 ap_.1 k le).block in
        let m = E.next in
        let first = K.later in
        let le2 = further_on k m le first in
        let n = behind m q in
        let second = behind_later q m in
        let M = (tree_clear b av.1 ap_.3 n (further_on m n le2 second)).block in
        let B = block n b in
        let third = M.later in
        let ns = let_names (flat (closed E)).lets in
        let more : k ≤ n = omega (arith, first, second) in
        bound_clears i p k (block k t) t le (lets_low t base ap_) (record {
          later = omega (arith, first, second, third);
          clear = λ H ok avh.
              let J = also ns H in
              let grown = λ (x : ℕ) (h : J x ≡ true). or_cases (is_in ns x) (H x) ((H x ≡ true) ⊎ Origin (lets e) k m x) h (λ l. inr (K.names x l)) (λ l. inl l) in
              let okj = grown_ok k m (lets e) H J le first (lets_low e base ap_.1) ok grown in
              (K.clear H ok avh.0, under_clear q m (closed B) J (okj m (omega arith)) (M.clear J (ok_later m n J second okj) (avoids_by H (from base) (lets e) J (grown_avoids k m (lets e) H J le grown) b avh.1 av.1 ap_.2)));
          names = λ x h.
              let_cases (flat (closed E)).lets (flat (under m q (closed B))).lets i p (parameter m q) (flat (closed E)).last x (Origin (lets t) k B.next x) h
              (λ l. wider_origin (lets e) (lets t) k m k B.next x (K.names x l) (omega arith) (omega (arith, second, third)) (λ y. or_right (is_in (bound_in q) x) (lets e x || lets b x) (or_left (lets e x) (lets b x) y)))
              (λ l. name_origin q (λ y. is_in (bound_in q) y || (lets e y || lets b y)) k m B.next x first third (λ y. or_left (is_in (bound_in q) x) (lets e x || lets b x) y) (parameter_name q m x l))
              (λ l. wider_origin (lets b) (lets t) n B.next k B.next x (M.names x (under_names q m (closed B) x l)) more (omega arith) (λ y. or_right (is_in (bound_in q) x) (lets e x || lets b x) (or_right (lets e x) (lets b x) y)));
        })
    form_clear (form.chain (more_trees e es)) i p av ap_ k le =
        let t = tree i p (form.chain (more_trees e es)) in
        let K = (tree_clear e av.0 ap_.0 k le).block in
        let C = chained_clear es av.1 e av.0 ap_ i p (block k e) k le K in
        bound_clears i p k (block k t) t le (lets_low t base ap_) (record { later = C.later; clear = λ H ok avh. C.clear H ok avh.0 avh.1; names = C.names })

    operands_clear : (es : Trees) → AvoidsAll (from base) es → ApartAll base es → (k : ℕ) → base ≤ k → ClearRow k (operands k es) es
    operands_clear no_trees av ap_ k le = nil_row k
    operands_clear (more_trees e es) av ap_ k le =
        let F = operand e (block k e) in
        let K = (tree_clear e av.0 ap_.0 k le).operand in
        cons_row k F (operands F.next es) e es le (lets_low e base ap_.0) (all_low es base ap_.3) av.0 av.1 ap_.1 ap_.2 K (operands_clear es av.1 ap_.3 F.next (further_on k F.next le K.later))

    items_clear : (es : Trees) → AvoidsAll (from base) es → ApartAll base es → (k : ℕ) → base ≤ k → ClearRow k (items k es) es
    items_clear no_trees av ap_ k le = nil_row k
    items_clear (more_trees e es) av ap_ k le =
        let F = made (id_of e) (place_of e) (block k e) in
        let K = made_clear (id_of e) (place_of e) k (block k e) e le (lets_low e base ap_.0) (tree_clear e av.0 ap_.0 k le).block in
        cons_row k F (items F.next es) e es le (lets_low e base ap_.0) (all_low es base ap_.3) av.0 av.1 ap_.1 ap_.2 K (items_clear es av.1 ap_.3 F.next (further_on k F.next le K.later))

    chained_clear : (es : Trees) → AvoidsAll (from base) es → (t : Tree) → Avoids (from base) t → ApartAll base (more_trees t es) → (i : ℕ) (p : Place) (E : Block) (k : ℕ) → base ≤ k → ClearBlock k E t → ChainClear k (chained i p E es) t es
    chained_clear no_trees avs t av ap_ i p E k le K =
        record { later = K.later; clear = λ H ok a b. K.clear H ok a; names = λ x h. wider_origin (lets t) (λ y. lets t y || false) k E.next k E.next x (K.names x h) (omega arith) (omega arith) (λ l. or_left (lets t x) false l) }
    chained_clear (more_trees e es) avs t av ap_ i p E k le K =
        let n = E.next + 1 in
        let first = K.later in
        let le2 : base ≤ n = omega (arith, le, first) in
        let M = (tree_clear e avs.0 ap_.3.0 n le2).block in
        let X = chained i p (block n e) es in
        let C = chained_clear es avs.1 e avs.0 ap_.3 i p (block n e) n le2 M in
        let second = C.later in
        let ns = let_names (flat (closed E)).lets in
        let all = λ (y : ℕ). lets t y || (lets e y || lets_all es y) in
        record {
          later = omega (arith, first, second);
          clear = λ H ok a b.
              let J = also ns H in
              let grown = λ (x : ℕ) (h : J x ≡ true). or_cases (is_in ns x) (H x) ((H x ≡ true) ⊎ Origin (lets t) k E.next x) h (λ l. inr (K.names x l)) (λ l. inl l) in
              let okj = grown_ok k E.next (lets t) H J le first (lets_low t base ap_.0) ok grown in
              let point = grown_avoids k E.next (lets t) H J le grown in
              (K.clear H ok a, C.clear J (ok_later E.next n J (omega arith) okj) (avoids_by H (from base) (lets t) J point e b.0 avs.0 ap_.1.0) (all_by H (from base) (lets t) J point es b.1 avs.1 ap_.1.1));
          names = λ x h.
              let_cases (flat (closed E)).lets (flat (closed X)).lets i p (pattern p (bind E.next)) (flat (closed E)).last x (Origin all k X.next x) h
              (λ l. wider_origin (lets t) all k E.next k X.next x (K.names x l) (omega arith) (omega (arith, second)) (λ y. or_left (lets t x) (lets e x || lets_all es x) y))
              (λ l. let same = is_one E.next x l in a_made (omega (arith, first, same)) (omega (arith, second, same)))
              (λ l. wider_origin (λ y. lets e y || lets_all es y) all n X.next k X.next x (C.names x l) (omega (arith, first)) (omega arith) (λ y. or_right (lets t x) (lets e x || lets_all es x) y));
        }

    cases_clear : (cs : Cases) → AvoidsCases (from base) cs → ApartCases base cs → (k : ℕ) → base ≤ k → CasesClear k cs
    cases_clear no_cases av ap_ k le = record { later = omega arith; clear = λ H ok avh. tt }
    cases_clear (more_cases q b cs) av ap_ k le =
        let Q = named_pattern k q in
        let first = pattern_later q k in
        let le2 = further_on k Q.next le first in
        let M = (tree_clear b av.0 ap_.0 Q.next le2).block in
        let B = block Q.next b in
        let second = M.later in
        let more : k ≤ B.next = omega (arith, first, second) in
        let N = cases_clear cs av.1 ap_.1 B.next (further_on Q.next B.next le2 second) in
        let third = N.later in
        record { later = omega (arith, more, third); clear = λ H ok avh. (M.clear H (ok_later k Q.next H first ok) avh.0, N.clear H (ok_later k B.next H more ok) avh.1) }

  pub named_clear : (t : Tree) → Avoids (from base) t → Apart base t → (k : ℕ) → base ≤ k → (k ≤ (block k t).next) × Clear none (closed (block k t))
  named_clear t av ap_ k le =
      let K = (tree_clear t av ap_ k le).block in
      (K.later, K.clear none (λ x h. refl) (avoids_by (from base) (from base) (from base) none (λ x a b c. refl) t av av av))
