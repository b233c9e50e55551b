-- What has a type has it under a later table too, and the store.
use Rattle.std.proofs.Common.{◌≡◌, ℕ, zero, suc, List, [], ◌∷◌, ◌++◌, length, slice_get, slice_set, Some, refl, subst}
use Rattle.lq_text_tree.specs.MlType as ml
use Rattle.lq_text_tree.specs.MlType.{MlType, MlTypes}
use Rattle.lq_meaning_steps.specs.Model.Core.{Core, val, use_of, fun, row, let_in, let_rec, call, one, two, three, and_of, or_of, if_else, match_on, seq, assert_false, Cores, none, more, Arms, no_arms, more_arms, Value, v_whole, v_flag, v_unit, v_fun, v_rec, v_tuple, v_build, v_array, Values, no_values, more_values}
use Rattle.lq_text_tree.specs.Types.{Signature, plain, Names}
use Rattle.lq_meaning_steps.specs.Progress.Typing.{Table, Has, AllHave, ArmsHave, ValueHas, ValuesHave, EachHas, AreStored, Extends}

pub extends_refl : (t : Table) → Extends t t
extends_refl t r a h = h

pub extends_append : (t us : List MlType) → Extends t (t ++ us)
extends_append [] us r a h = cc
extends_append (b ∷ t) us zero a h = h
extends_append (b ∷ t) us (suc r) a h = extends_append t us r a h

module _ (g : Signature) (t u : Table) (k : Extends t u) where
  mutual
    pub grows : (e : Core) (ns : Names) (a : MlType) → Has g t ns e a → Has g u ns e a
    grows (val v) ns a h = value_grows v a h
    grows (use_of x) ns a h = h
    grows (fun q b) ns a h = (h.0, h.1, h.2, h.3, h.4, grows b (h.2 ++ ns) h.1 h.5)
    grows (row r es) ns a h = (h.0, all_grow es ns h.0 h.1, h.2)
    grows (let_in q e b) ns a h = (h.0, h.1, grows e ns h.0 h.2, h.3, grows b (h.1 ++ ns) a h.4)
    grows (let_rec f q b e) ns a h =
        (h.0, h.1, h.2, h.3, grows b (h.2 ++ (f, plain (ml.arrow h.0 h.1)) ∷ ns) h.1 h.4, grows e ((f, plain (ml.arrow h.0 h.1)) ∷ ns) a h.5)
    grows (call f e) ns a h = (h.0, grows f ns (ml.arrow h.0 a) h.1, grows e ns h.0 h.2)
    grows (one o e) ns a h = (h.0, grows e ns h.0 h.1, h.2)
    grows (two o d e) ns a h = (h.0, h.1, grows d ns h.0 h.2, grows e ns h.1 h.3, h.4)
    grows (three o c d e) ns a h = (h.0, h.1, h.2, grows c ns h.0 h.3, grows d ns h.1 h.4, grows e ns h.2 h.5, h.6)
    grows (and_of d e) ns a h = (grows d ns ml.bool h.0, grows e ns ml.bool h.1, h.2)
    grows (or_of d e) ns a h = (grows d ns ml.bool h.0, grows e ns ml.bool h.1, h.2)
    grows (if_else c d e) ns a h = (grows c ns ml.bool h.0, grows d ns a h.1, grows e ns a h.2)
    grows (match_on p e cs) ns a h = (h.0, grows e ns h.0 h.1, arms_grow cs ns h.0 a h.2)
    grows (seq d e) ns a h = (h.0, grows d ns h.0 h.1, grows e ns a h.2)
    grows (assert_false p) ns a h = h

    pub all_grow : (es : Cores) (ns : Names) (ts : MlTypes) → AllHave g t ns es ts → AllHave g u ns es ts
    all_grow none ns ts h = h
    all_grow (more e es) ns ts h = (h.0, h.1, h.2, grows e ns h.0 h.3, all_grow es ns h.1 h.4)

    pub arms_grow : (cs : Arms) (ns : Names) (from a : MlType) → ArmsHave g t ns cs from a → ArmsHave g u ns cs from a
    arms_grow no_arms ns from a h = h
    arms_grow (more_arms q e cs) ns from a h = (h.0, h.1, grows e (h.0 ++ ns) a h.2, arms_grow cs ns from a h.3)

    pub value_grows : (v : Value) (a : MlType) → ValueHas g t v a → ValueHas g u v a
    value_grows (v_whole n) a h = h
    value_grows (v_flag b) a h = h
    value_grows v_unit a h = h
    value_grows (v_fun q b) a h = (h.0, h.1, h.2, h.3, h.4, grows b (h.2 ++ []) h.1 h.5)
    value_grows (v_rec f q b) a h = (h.0, h.1, h.2, h.3, h.4, grows b (h.2 ++ (f, plain (ml.arrow h.0 h.1)) ∷ []) h.1 h.5)
    value_grows (v_tuple vs) a h = (h.0, values_grow vs h.0 h.1, h.2)
    value_grows (v_build c vs) a h = (h.0, values_grow vs h.0 h.1, h.2)
    value_grows (v_array r n) a h = (h.0, h.1, k r h.0 h.2)

    pub values_grow : (vs : Values) (ts : MlTypes) → ValuesHave g t vs ts → ValuesHave g u vs ts
    values_grow no_values ts h = h
    values_grow (more_values v vs) ts h = (h.0, h.1, h.2, value_grows v h.0 h.3, values_grow vs h.1 h.4)

  pub each_grows : (a : MlType) (vs : List Value) → EachHas g t a vs → EachHas g u a vs
  each_grows a [] h = h
  each_grows a (v ∷ vs) h = (value_grows v a h.0, each_grows a vs h.1)

  pub stored_grow : (ts : List MlType) (arrays : List (List Value)) → AreStored g t ts arrays → AreStored g u ts arrays
  stored_grow [] [] h = h
  stored_grow [] (vs ∷ arrays) h = h
  stored_grow (a ∷ ts) [] h = h
  stored_grow (a ∷ ts) (vs ∷ arrays) h = (each_grows a vs h.0, stored_grow ts arrays h.1)

-- ---- the store

module _ (g : Signature) (u : Table) where
  -- one array more
  pub stored_push : (ts : List MlType) (arrays : List (List Value)) (a : MlType) (vs : List Value) → AreStored g u ts arrays → EachHas g u a vs → AreStored g u (ts ++ a ∷ []) (arrays ++ vs ∷ [])
  stored_push [] [] a vs h k = (k, tt)
  stored_push [] (us ∷ arrays) a vs h k = absurd h
  stored_push (b ∷ ts) [] a vs h k = absurd h
  stored_push (b ∷ ts) (us ∷ arrays) a vs h k = (h.0, stored_push ts arrays a vs h.1 k)

  -- its type stands at its number
  pub type_pushed : (ts : List MlType) (arrays : List (List Value)) (a : MlType) → AreStored g u ts arrays → slice_get (ts ++ a ∷ []) (length arrays) ≡ Some a
  type_pushed [] [] a h = refl
  type_pushed [] (us ∷ arrays) a h = absurd h
  type_pushed (b ∷ ts) [] a h = absurd h
  type_pushed (b ∷ ts) (us ∷ arrays) a h = type_pushed ts arrays a h.1

  -- an array of the table is in the store
  pub stored_at : (ts : List MlType) (arrays : List (List Value)) (r : ℕ) (a : MlType) → AreStored g u ts arrays → slice_get ts r ≡ Some a
      → (vs : List Value) × (slice_get arrays r ≡ Some vs) × EachHas g u a vs
  stored_at [] arrays r a h e = cc
  stored_at (b ∷ ts) [] r a h e = absurd h
  stored_at (b ∷ ts) (vs ∷ arrays) zero a h e = let same : b ≡ a = cc in (vs, refl, subst (λ x. EachHas g u x vs) same h.0)
  stored_at (b ∷ ts) (vs ∷ arrays) (suc r) a h e = stored_at ts arrays r a h.1 e

  -- other elements of the same type
  pub stored_set : (ts : List MlType) (arrays : List (List Value)) (r : ℕ) (a : MlType) (vs : List Value) → AreStored g u ts arrays → slice_get ts r ≡ Some a → EachHas g u a vs
      → AreStored g u ts (slice_set arrays r vs)
  stored_set [] arrays r a vs h e k = cc
  stored_set (b ∷ ts) [] r a vs h e k = absurd h
  stored_set (b ∷ ts) (us ∷ arrays) zero a vs h e k = let same : a ≡ b = cc in (subst (λ x. EachHas g u x vs) same k, h.1)
  stored_set (b ∷ ts) (us ∷ arrays) (suc r) a vs h e k = (h.0, stored_set ts arrays r a vs h.1 e k)

  pub each_at : (a : MlType) (vs : List Value) (i : ℕ) (v : Value) → EachHas g u a vs → slice_get vs i ≡ Some v → ValueHas g u v a
  each_at a [] i v h e = cc
  each_at a (w ∷ vs) zero v h e = let same : w ≡ v = cc in subst (λ x. ValueHas g u x a) same h.0
  each_at a (w ∷ vs) (suc i) v h e = each_at a vs i v h.1 e

  pub each_set : (a : MlType) (vs : List Value) (i : ℕ) (v : Value) → EachHas g u a vs → ValueHas g u v a → EachHas g u a (slice_set vs i v)
  each_set a [] i v h k = tt
  each_set a (w ∷ vs) zero v h k = (k, h.1)
  each_set a (w ∷ vs) (suc i) v h k = (h.0, each_set a vs i v h.1 k)
