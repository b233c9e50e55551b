-- One equation more, one node more, and nodes of which nothing is known.
use Rattle.std.proofs.Common.{◌≡◌, inl, inr, ℕ, zero, suc, ◌<◌, ◌≤◌, List, [], ◌∷◌, ◌++◌, Some, All, length, refl, sym, ap, subst, ◌∙◌, arith}
use Rattle.std.proofs.lemmas.Bool.{cases_lt}
use Rattle.std.proofs.lemmas.List.Elements.{All-append}
use Rattle.lq_text_tree.specs.MlType.{MlType}
use Rattle.lq_types_unify.specs.declared.arena.Equation.{Equation}
use Rattle.lq_types_unify.specs.declared.arena.Head.{Head}
use Rattle.lq_types_unify.specs.Nodes.{Form, form_at, IsArena, HasAdded}
use Rattle.lq_types_unify.specs.Solution.{AreNodes}
use Rattle.lq_types_rules.specs.declared.equations.system.System.{System}
use Rattle.lq_types_rules.specs.Equations.Solutions.{made, each, Fits, Meets}
use Rattle.lq_types_rules.specs.Equations.Adding.{IsRight, IsSystem, Agree, Adds, count_of, forms_of}
use Rattle.lq_types_rules.proofs.EquationsLemmas.Growing.{agree_each, some_inside, parts_inside}

one_in : (n : ℕ) (e : Equation) → e.left < n → e.right < n → AreNodes n (e ∷ [])
one_in n e l r zero d h = (l, r)
one_in n e l r (suc k) d h = absurd (omega arith)

meets_one : (types : ℕ → MlType) (e : Equation) → types e.left ≡ types e.right → Meets types (e ∷ [])
meets_one types e h zero d l = h
meets_one types e h (suc k) d l = absurd (omega arith)

-- ---- an equation

pub same_adds : (old new : System) (e : Equation) → IsSystem old → e.left < count_of old → e.right < count_of old → new.arena ≡ old.arena
    → new.equations.items ≡ old.equations.items ++ e ∷ [] → Adds old new (λ t. t e.left ≡ t e.right)
same_adds old new e s l r a q =
    let P : Equation → Type 0 = λ e. (e.left < count_of old) × (e.right < count_of old) in
    record {
      more = e ∷ [];
      grows = record {
        system = record {
          arena = subst IsArena (sym a) s.arena;
          nodes = subst (λ b. AreNodes (length b.nodes.items) new.equations.items) (sym a) (subst (λ es. All P es) (sym q) (All-append P old.equations.items (e ∷ []) s.nodes (one_in (count_of old) e l r)));
          right = λ i f h. s.right i f (ap (λ b. form_at b i) (sym a) ∙ h);
        };
        longer = let z : count_of new ≡ count_of old = ap (λ b. length b.nodes.items) a in omega arith;
        kept = λ i h. ap (λ b. form_at b i) a;
        equations_are = q;
        free = λ types f. (types, λ i h. refl, λ i form h. f i form (ap (λ b. form_at b i) (sym a) ∙ h));
      };
      says = λ t f m. m 0 e (omega arith);
      said = λ t f p. record { later = t; agree = λ i h. refl; fits = λ i form h. f i form (ap (λ b. form_at b i) (sym a) ∙ h); meets = meets_one t e p; roots_are = refl };
    }

-- ---- a node with a form

-- the types, with this one for the node n and those behind it
extended : ℕ → MlType → (ℕ → MlType) → ℕ → MlType
extended n a types i = elim (cases_lt i n) [ inl h ↦ types i | inr h ↦ a ]

extended_before : (n : ℕ) (a : MlType) (types : ℕ → MlType) → Agree n types (extended n a types)
unfolding extended
extended_before n a types i h = elim (cases_lt i n) as (λ c. elim c as (λ d. MlType) [ inl k ↦ types i | inr k ↦ a ] ≡ types i) [ inl k ↦ refl | inr k ↦ absurd (omega arith) ]

extended_here : (n : ℕ) (a : MlType) (types : ℕ → MlType) → extended n a types n ≡ a
unfolding extended
extended_here n a types = elim (cases_lt n n) as (λ c. elim c as (λ d. MlType) [ inl k ↦ types n | inr k ↦ a ] ≡ a) [ inl k ↦ absurd (omega arith) | inr k ↦ refl ]

node_fits : (old new : System) (node : ℕ) (h : Head) (ps : List ℕ) → IsSystem old → HasAdded old.arena new.arena node (Some (record { head = h; parts = ps })) → All (λ p. p < count_of old) ps
    → (types : ℕ → MlType) → Fits (forms_of old) types → Fits (forms_of new) (extended node (made h (each types ps)) types)
node_fits old new node h ps s a inside types f i form e = elim (cases_lt i node) [
  | inl l ↦
      let before : forms_of old i ≡ Some form = sym (a.others i l) ∙ e in
      let same = agree_each node types later (extended_before node top types) form.parts (subst (λ n. All (λ p. p < n) form.parts) (sym a.next) (parts_inside old.arena s.arena i form before)) in
      extended_before node top types i l ∙ f i form before ∙ ap (made form.head) (sym same)
  | inr l ↦
      let last : i ≡ node = let z = some_inside new.arena i form e in let y = a.count in omega arith in
      let is : record { head = h; parts = ps } ≡ form = let y = a.formed in let x : forms_of new node ≡ Some form = ap (forms_of new) (sym last) ∙ e in cc in
      let same = agree_each node types later (extended_before node top types) ps (subst (λ n. All (λ p. p < n) ps) (sym a.next) inside) in
      ap later last ∙ extended_here node top types ∙ ap (made h) (sym same) ∙ ap (λ (g : Form). made g.head (each later g.parts)) is
]
  where
    top : MlType
    top = made h (each types ps)

    later : ℕ → MlType
    later = extended node top types

node_right : (old new : System) (node : ℕ) (h : Head) (ps : List ℕ) → IsSystem old → HasAdded old.arena new.arena node (Some (record { head = h; parts = ps })) → IsRight h (length ps)
    → (i : ℕ) (f : Form) → forms_of new i ≡ Some f → IsRight f.head (length f.parts)
node_right old new node h ps s a r i form e = elim (cases_lt i node) [
  | inl l ↦ s.right i form (sym (a.others i l) ∙ e)
  | inr l ↦
      let last : i ≡ node = let z = some_inside new.arena i form e in let y = a.count in omega arith in
      let is : record { head = h; parts = ps } ≡ form = let y = a.formed in let x : forms_of new node ≡ Some form = ap (forms_of new) (sym last) ∙ e in cc in
      subst (λ (g : Form). IsRight g.head (length g.parts)) is r
]

further : (n m : ℕ) (es : List Equation) → n ≤ m → AreNodes n es → AreNodes m es
further n m es le a k d l = (let x = (a k d l).0 in omega arith, let x = (a k d l).1 in omega arith)

pub is_adds : (old new : System) (slot node : ℕ) (h : Head) (ps : List ℕ) → IsSystem old → HasAdded old.arena new.arena node (Some (record { head = h; parts = ps }))
    → slot < count_of old → All (λ p. p < count_of old) ps → IsRight h (length ps) → new.equations.items ≡ old.equations.items ++ (record { left = slot; right = node }) ∷ []
    → Adds old new (λ t. t slot ≡ made h (each t ps))
is_adds old new slot node h ps s a lt inside r q = record {
  more = e ∷ [];
  grows = record {
    system = record {
      arena = a.arena;
      nodes = subst (λ es. AreNodes (count_of new) es) (sym q) (All-append (λ (e : Equation). (e.left < count_of new) × (e.right < count_of new)) old.equations.items (e ∷ [])
          (further (count_of old) (count_of new) old.equations.items (let x = a.count in let y = a.next in omega arith) s.nodes)
          (one_in (count_of new) e (let x = a.count in let y = a.next in omega arith) (let x = a.count in omega arith)));
      right = node_right old new node h ps s a r;
    };
    longer = let x = a.count in let y = a.next in omega arith;
    kept = λ i l. a.others i (let y = a.next in omega arith);
    equations_are = q;
    free = λ types f. (extended node (made h (each types ps)) types, agree types, node_fits old new node h ps s a inside types f);
  };
  says = λ t f m. m 0 e (omega arith) ∙ f node (record { head = h; parts = ps }) a.formed;
  said = λ t f p. record {
    later = extended node (made h (each t ps)) t;
    agree = agree t;
    fits = node_fits old new node h ps s a inside t f;
    meets = meets_one (extended node (made h (each t ps)) t) e (agree t slot lt ∙ p ∙ sym (extended_here node (made h (each t ps)) t));
    roots_are = refl;
  };
}
  where
    e : Equation
    e = record { left = slot; right = node }

    agree : (types : ℕ → MlType) → Agree (count_of old) types (extended node (made h (each types ps)) types)
    agree types i l = extended_before node (made h (each types ps)) types i (let y = a.next in omega arith)
