-- Constructors under their names.
use Rattle.std.proofs.Common.{◌≡◌, ◌≢◌, ◌==◌, ℕ, ◌<◌, Bool, true, false, if◌then◌else◌, List, [], ◌∷◌, ◌++◌, ◌+◌, Option, Some, None, append-nil, map, take, length, get_or, refl, sym, ap, subst, ◌∙◌, inl, inr}
use Rattle.std.proofs.lemmas.Bool.{cases_eq, eq-eqb, ne_eqb}
use Rattle.std.proofs.lemmas.List.{map-append, take_more}
use Rattle.lq_text_walk.specs.Scoped.Signature.{constructors_in, signed}
use Rattle.lq_text_walk.specs.Scoped.Views.{data_view}
use Rattle.lq_text_walk.specs.declared.scoped.datatype.DataType.{DataType}
use Rattle.lq_types_rules.proofs.ConstructorsLemmas.Agreed.{joined}
use Rattle.lq_text_tree.specs.Signatures.{constructor_in, predeclared}
use Rattle.lq_text_tree.specs.Types.{Constructor, list_type}
use Rattle.lq_text_tree.specs.MlType as ml
use Rattle.lq_text_tree.specs.MlType.{MlTypes}
use Rattle.lq_types_rules.specs.declared.equations.template.Template.{Template}
use Rattle.lq_types_rules.specs.declared.equations.template.Constructors.{Constructors}
use Rattle.lq_types_rules.specs.Equations.Templates.{IsEntry, IsTemplate, IsWhole, entry}
use Rattle.lq_types_rules.specs.Constructors.Holding.{Holds}

-- what is found where one more stands behind the others: what was found among these, or else this one
found_on : (b : Bool) (x : Constructor) (old new : Option Constructor) → ((j : Constructor) → old ≡ Some j → new ≡ Some j) → (j : Constructor) → (if b then Some x else old) ≡ Some j → (if b then Some x else new) ≡ Some j
found_on true x old new h j e = e
found_on false x old new h j e = h j e

found : (ks : List (ℕ × Constructor)) (n : ℕ) (k : Constructor) (c : ℕ) (j : Constructor) → constructor_in ks c ≡ Some j → constructor_in (ks ++ (n, k) ∷ []) c ≡ Some j
found [] n k c j e = absurd (cc)
found (i ∷ ks) n k c j e = found_on (i.0 == c) i.1 (constructor_in ks c) (constructor_in (ks ++ (n, k) ∷ []) c) (found ks n k c) j e

last_on : (b : Bool) (x k : Constructor) (old new : Option Constructor) → (old ≡ None → new ≡ Some k) → (if b then Some x else old) ≡ None → (if b then Some x else new) ≡ Some k
last_on true x k old new h e = absurd (cc)
last_on false x k old new h e = h e

found_last : (ks : List (ℕ × Constructor)) (n : ℕ) (k : Constructor) → constructor_in ks n ≡ None → constructor_in (ks ++ (n, k) ∷ []) n ≡ Some k
found_last [] n k e = ap (λ (b : Bool). if b then Some k else None) (eq-eqb n n refl)
found_last (i ∷ ks) n k e = last_on (i.0 == n) i.1 k (constructor_in ks n) (constructor_in (ks ++ (n, k) ∷ []) n) (found_last ks n k) e

same_on : (b : Bool) (x : Constructor) (old new : Option Constructor) → new ≡ old → (if b then Some x else new) ≡ (if b then Some x else old)
same_on b x old new e = ap (λ o. if b then Some x else o) e

found_other : (ks : List (ℕ × Constructor)) (n : ℕ) (k : Constructor) (c : ℕ) → n ≢ c → constructor_in (ks ++ (n, k) ∷ []) c ≡ constructor_in ks c
found_other [] n k c h = ap (λ (b : Bool). if b then Some k else None) (ne_eqb n c h)
found_other (i ∷ ks) n k c h = same_on (i.0 == c) i.1 (constructor_in ks c) (constructor_in (ks ++ (n, k) ∷ []) c) (found_other ks n k c h)

-- what no entry stands for is none
none_of : (o : Option Constructor) → IsEntry None o → o ≡ None
none_of None h = refl
none_of (Some k) h = absurd h

some_of : (e : Option Template) (o : Option Constructor) → (e ≡ None → ⊥) → IsEntry e o → (j : Constructor) × (o ≡ Some j)
some_of None o n h = absurd (n refl)
some_of (Some t) None n h = absurd h
some_of (Some t) (Some j) n h = (j, refl)

same_template : (e : Option Template) (a b : Template) → e ≡ Some a → e ≡ Some b → b ≡ a
same_template e a b f g = cc

-- a constructor at a free place
pub put_free : (old new : Constructors) (ks : List (ℕ × Constructor)) (n : ℕ) (k : Constructor) (t : Template) → IsWhole t → IsTemplate t k → ((i : ℕ) → i ≢ n → entry new i ≡ entry old i) → entry new n ≡ Some t → entry old n ≡ None
    → Holds old ks → Holds new (ks ++ (n, k) ∷ [])
put_free old new ks n k t w is other here free h = record {
  whole = λ c u e. elim (cases_eq c n) [
    | inl q ↦ subst IsWhole (sym (same_template (entry new n) t u here (ap (entry new) (sym q) ∙ e))) w
    | inr q ↦ h.whole c u (sym (other c q) ∙ e)
  ];
  has = λ c. elim (cases_eq c n) [
    | inl q ↦ subst (λ x. IsEntry (entry new x) (constructor_in (ks ++ (n, k) ∷ []) x)) (sym q)
        (subst (λ e. IsEntry e (constructor_in (ks ++ (n, k) ∷ []) n)) (sym here)
        (subst (IsEntry (Some t)) (sym (found_last ks n k (none_of (constructor_in ks n) (subst (λ e. IsEntry e (constructor_in ks n)) free (h.has n))))) is))
    | inr q ↦ subst (λ e. IsEntry e (constructor_in (ks ++ (n, k) ∷ []) c)) (sym (other c q)) (subst (IsEntry (entry old c)) (sym (found_other ks n k c (λ e. q (sym e)))) (h.has c))
  ];
}

-- a constructor of whose name there is one
pub put_taken : (old new : Constructors) (ks : List (ℕ × Constructor)) (n : ℕ) (k : Constructor) → ((i : ℕ) → entry new i ≡ entry old i) → (entry old n ≡ None → ⊥) → Holds old ks → Holds new (ks ++ (n, k) ∷ [])
put_taken old new ks n k same taken h = record {
  whole = λ c u e. h.whole c u (sym (same c) ∙ e);
  has = λ c. subst (λ e. IsEntry e (constructor_in (ks ++ (n, k) ∷ []) c)) (sym (same c)) (elim (cases_eq c n) [
    | inl q ↦ subst (λ x. IsEntry (entry old x) (constructor_in (ks ++ (n, k) ∷ []) x)) (sym q) (here (some_of (entry old n) (constructor_in ks n) taken (h.has n)))
    | inr q ↦ subst (IsEntry (entry old c)) (sym (found_other ks n k c (λ e. q (sym e)))) (h.has c)
  ]);
}
  where
    here : (j : Constructor) × (constructor_in ks n ≡ Some j) → IsEntry (entry old n) (constructor_in (ks ++ (n, k) ∷ []) n)
    here (j, e) = subst (IsEntry (entry old n)) (e ∙ sym (found ks n k n j e)) (h.has n)

-- no constructors
pub none_held : (cs : Constructors) → cs.entries.items ≡ [] → Holds cs []
none_held cs e = record {
  whole = λ c t h. absurd (no_some (entry cs c) t (free c) h);
  has = λ c. subst (λ o. IsEntry o None) (sym (free c)) tt;
}
  where
    no_some : (o : Option Template) (t : Template) → o ≡ None → o ≡ Some t → ⊥
    no_some o t f g = cc

    free : (c : ℕ) → entry cs c ≡ None
    free c = ap (λ es. get_or es c None) e

-- ---- rows

pub one_longer : {X Y Z : Type 0} (f : Y → Z) (g : X → Y) (xs : List X) (i : ℕ) (x : X) → x ≡ get_or xs i x → i < length xs → map f (map g (take (i + 1) xs)) ≡ map f (map g (take i xs)) ++ f (g x) ∷ []
one_longer f g xs i x e h = ap (λ l. map f (map g l)) (take_more xs i x h ∙ ap (λ y. take i xs ++ y ∷ []) (sym e)) ∙ ap (map f) (map-append g (take i xs) (x ∷ [])) ∙ map-append f (map g (take i xs)) (g x ∷ [])

pub datatypes_longer : (xs : List DataType) (i : ℕ) (x : DataType) → x ≡ get_or xs i x → i < length xs
    → constructors_in (map data_view (take (i + 1) xs)) ≡ constructors_in (map data_view (take i xs)) ++ map (signed (data_view x)) (data_view x).constructors
datatypes_longer xs i x e h =
    ap (λ l. constructors_in (map data_view l)) (take_more xs i x h ∙ ap (λ y. take i xs ++ y ∷ []) (sym e))
    ∙ ap constructors_in (map-append data_view (take i xs) (x ∷ [])) ∙ joined (map data_view (take i xs)) (data_view x ∷ [])
    ∙ ap (λ ks. constructors_in (map data_view (take i xs)) ++ ks) (append-nil (map (signed (data_view x)) (data_view x).constructors))

-- ---- the predeclared ones

abbrev pub four : MlTypes → MlTypes → MlTypes → MlTypes → List (ℕ × Constructor)
four a b c d =
    (7, record { datatype = 4; parameters = 1; fields = a }) ∷ (8, record { datatype = 4; parameters = 1; fields = b })
    ∷ (9, record { datatype = 5; parameters = 1; fields = c }) ∷ (10, record { datatype = 5; parameters = 1; fields = d }) ∷ []

pub four_held : (t : Constructors) (a b c d : MlTypes) → a ≡ ml.no_types → b ≡ ml.more_types (ml.var 0) (ml.more_types (list_type (ml.var 0)) ml.no_types) → c ≡ ml.no_types → d ≡ ml.more_types (ml.var 0) ml.no_types
    → Holds t (four a b c d) → Holds t predeclared
four_held t a b c d p q r s h = subst (Holds t) (ap (λ (u : MlTypes). four u b c d) p ∙ ap (λ (u : MlTypes). four ml.no_types u c d) q
    ∙ ap (λ (u : MlTypes). four ml.no_types (ml.more_types (ml.var 0) (ml.more_types (list_type (ml.var 0)) ml.no_types)) u d) r
    ∙ ap (λ (u : MlTypes). four ml.no_types (ml.more_types (ml.var 0) (ml.more_types (list_type (ml.var 0)) ml.no_types)) ml.no_types u) s) h
