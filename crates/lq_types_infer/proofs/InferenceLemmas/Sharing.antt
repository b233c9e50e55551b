-- A use that has the definition's own type, which those of the fixed slots determine.
use Rattle.std.proofs.Common.{◌≡◌, ◌==◌, inl, inr, ℕ, zero, suc, ◌<◌, ◌≤◌, Bool, true, false, List, [], ◌∷◌, Option, Some, All, length, get_or, refl, sym, ap, subst, ◌∙◌, arith}
use Rattle.std.proofs.lemmas.Bool.{cases_eq, ne_eqb}
use Rattle.std.proofs.lemmas.List.Elements.{All-append}
use Rattle.lq_text_tree.specs.MlType as ml
use Rattle.lq_text_tree.specs.MlType.{MlType, MlTypes}
use Rattle.lq_text_tree.specs.Types.{put, put_all}
use Rattle.lq_types_unify.specs.declared.arena.Arena.{Arena}
use Rattle.lq_types_unify.specs.declared.arena.Equation.{Equation}
use Rattle.lq_types_unify.specs.Simple.{Simple, replaced}
use Rattle.lq_types_unify.specs.Nodes.{Form, form_at, IsArena}
use Rattle.lq_types_unify.specs.Solution.{IsSolution}
use Rattle.lq_types_unify.specs.Variables as simply
use Rattle.lq_types_unify.specs.Classes.{IsKnown}
use Rattle.lq_types_unify.specs.Opens.{IsIn, IsOpenClass, AreOpens}
use Rattle.lq_types_unify.proofs.Replacing.{replaced_alike, alike_from, each_map, each_both}
use Rattle.lq_types_rules.specs.declared.equations.system.System.{System}
use Rattle.lq_types_rules.specs.Equations.Solutions.{made, each, Fits, Meets}
use Rattle.lq_types_rules.specs.Equations.Adding.{IsSystem, IsRight, Agree, count_of, forms_of}
use Rattle.lq_types_rules.specs.Equations.Solved.{read, written, Solves}
use Rattle.lq_types_rules.proofs.EquationsLemmas.Growing.{some_inside, parts_inside}
use Rattle.lq_types_rules.specs.Typings.Uses.{Leaves}
use Rattle.lq_types_infer.specs.Inference.Copying.{AreMarked, IsDetermined, AddsSame}
use Rattle.lq_types_infer.proofs.InferenceLemmas.Naming.{all_left, all_right}
use Rattle.lq_types_infer.proofs.InferenceLemmas.Reading.{read_written, made_put, leaves_put, writes}
use Rattle.lq_types_infer.proofs.InferenceLemmas.Standing as values
use Rattle.lq_types_infer.proofs.InferenceLemmas.Opens.{opens_hold}

-- ---- other types for the variables solve the same equations

each_put : (by types : ℕ → MlType) (ps : List ℕ) → each (λ i. put by (types i)) ps ≡ put_all by (each types ps)
each_put by types [] = refl
each_put by types (p ∷ ps) = ap (ml.more_types (put by (types p))) (each_put by types ps)

put_solves : (s : System) (es : List Equation) (by types : ℕ → MlType) → Solves s es types → Solves s es (λ i. put by (types i))
put_solves s es by types h = record {
  fits = λ i f e. ap (put by) (h.fits i f e) ∙ sym (made_put by f.head (each types f.parts)) ∙ ap (made f.head) (sym (each_put by types f.parts));
  meets = λ k d l. ap (put by) (h.meets k d l);
}

-- ---- the equation more

module _ (old new : System) (fixed : List ℕ) (definition node : ℕ) (c : AddsSame old new fixed definition node) where
  forms_are : forms_of new ≡ forms_of old
  forms_are = ap (λ (a : Arena). form_at a) c.arena_is

  pub same_longer : count_of old ≤ count_of new
  same_longer = let e : count_of new ≡ count_of old = ap (λ (a : Arena). length a.nodes.items) c.arena_is in omega arith

  pub same_system : IsSystem old → IsSystem new
  same_system s = record {
    arena = subst (λ (a : Arena). IsArena a) (sym c.arena_is) s.arena;
    nodes = subst (All (λ (q : Equation). (q.left < count_of new) × (q.right < count_of new))) (sym c.equations_are)
        (All-append (λ (q : Equation). (q.left < count_of new) × (q.right < count_of new)) old.equations.items _
        (λ k d m. let x = s.nodes k d m in let y = x.0 in let z = x.1 in let l = same_longer in (omega arith, omega arith)) one);
    right = subst (λ (f : ℕ → Option Form). (i : ℕ) (g : Form) → f i ≡ Some g → IsRight g.head (length g.parts)) (sym forms_are) s.right;
  }
    where
      one : All (λ (q : Equation). (q.left < count_of new) × (q.right < count_of new)) (record { left = node; right = definition } ∷ [])
      one zero d m = let l = same_longer in let x = c.node_in in let y = c.definition_in in (omega arith, omega arith)
      one (suc k) d m = absurd (omega arith)

  pub same_keeps : (types : ℕ → MlType) → Solves new new.equations.items types → Solves old old.equations.items types
  same_keeps types h = record {
    fits = subst (λ (f : ℕ → Option Form). Fits f types) forms_are h.fits;
    meets = all_left (λ (e : Equation). types e.left ≡ types e.right) old.equations.items _ (subst (Meets types) c.equations_are h.meets);
  }

  as_definition : (types : ℕ → MlType) → Solves new new.equations.items types → types node ≡ types definition
  as_definition types h =
      let e : Equation = record { left = node; right = definition } in
      all_right (λ (q : Equation). types q.left ≡ types q.right) old.equations.items (e ∷ []) (subst (Meets types) c.equations_are h.meets) 0 e (omega arith)

  goes : (types : ℕ → MlType) → Solves old old.equations.items types → types node ≡ types definition → Solves new new.equations.items types
  goes types s e = record {
    fits = subst (λ (f : ℕ → Option Form). Fits f types) (sym forms_are) s.fits;
    meets = subst (Meets types) (sym c.equations_are) (All-append (λ (q : Equation). types q.left ≡ types q.right) old.equations.items _ s.meets one);
  }
    where
      one : All (λ (q : Equation). types q.left ≡ types q.right) (record { left = node; right = definition } ∷ [])
      one zero d m = e
      one (suc k) d m = absurd (omega arith)

  -- other types of the old nodes solve it, where the node and the fixed slots have the same types
  pub same_local : (types t : ℕ → MlType) → Solves new new.equations.items types → Solves old old.equations.items t → t node ≡ types node → All (λ i. t i ≡ types i) fixed
      → (later : ℕ → MlType) × Agree (count_of old) t later × Solves new new.equations.items later
  same_local types t h s n a = (t, (λ i l. refl), goes t s (n ∙ as_definition types h ∙ sym (c.determined t types s (same_keeps types h) a)))

  -- the definition has the type of the use
  pub same_free : (types : ℕ → MlType) → Solves new new.equations.items types
      → (t : ℕ → MlType) × Solves old old.equations.items t × (t definition ≡ types node) × All (λ i. t i ≡ types i) fixed
  same_free types h = (types, same_keeps types h, sym (as_definition types h), λ k d l. refl)

  -- other types for the variables that aren't fixed leave the definition's type
  pub same_said : (later by : ℕ → MlType) → Solves old old.equations.items later → All (λ i. Leaves by (later i)) fixed → later node ≡ put by (later definition)
      → (types : ℕ → MlType) × Agree (count_of old) later types × Solves new new.equations.items types
  same_said later by s leaves e = (
    later,
    (λ i l. refl),
    goes later s (e ∙ c.determined (λ i. put by (later i)) later (put_solves old old.equations.items by later s) s (λ k d l. leaves_put by (later (get_or fixed k d)) (leaves k d l))),
  )

-- ---- types that are the same of all open classes that a node reaches are the same of the node

module _ (s : System) (sound : IsSystem s) (types others : ℕ → MlType) (a : Solves s s.equations.items types) (b : Solves s s.equations.items others)
    (parents shapes : List ℕ) (found : List Equation) (known : IsKnown (forms_of s) (count_of s) parents shapes found s.equations.items) where
  abbrev n : ℕ
  n = count_of s

  abbrev one : ℕ → Simple
  one i = written (types i)

  abbrev other : ℕ → Simple
  other i = written (others i)

  inside : (i : ℕ) (f : Form) → forms_of s i ≡ Some f → (i < n) × All (λ p. p < n) f.parts
  inside i f e = (some_inside s.arena i f e, parts_inside s.arena sound.arena i f e)

  one_solves : IsSolution (forms_of s) s.equations.items one
  one_solves = writes s s.equations.items types sound a

  other_solves : IsSolution (forms_of s) s.equations.items other
  other_solves = writes s s.equations.items others sound b

  abbrev st : ℕ → Simple
  st = values.stands (forms_of s) n parents shapes found s.equations.items known inside one one_solves

  one_as : (i : ℕ) → one i ≡ replaced one (st i)
  one_as i = values.as_stands (forms_of s) n parents shapes found s.equations.items known inside one one_solves one one_solves i

  other_as : (i : ℕ) → other i ≡ replaced other (st i)
  other_as i = values.as_stands (forms_of s) n parents shapes found s.equations.items known inside one one_solves other other_solves i

  as_read : (i : ℕ) → one i ≡ other i → types i ≡ others i
  as_read i e = sym (read_written (types i)) ∙ ap read e ∙ read_written (others i)

  pub fixed_same : (fixed open_ : List ℕ) → AreOpens (forms_of s) parents shapes fixed open_ → All (λ i. types i ≡ others i) fixed → All (λ v. types v ≡ others v) open_
  fixed_same fixed open_ o e =
      opens_hold (forms_of s) n parents shapes found s.equations.items known inside one one_solves (λ v. types v ≡ others v) fixed open_ o
      (λ k d l.
      let i = get_or fixed k d in
      each_map (λ v. one v ≡ other v) (λ v. types v ≡ others v) (st i) as_read
      (alike_from one other (st i) (sym (one_as i) ∙ ap written (e k d l) ∙ other_as i)))

  pub reached_same : (i : ℕ) (reached : List ℕ) → AreOpens (forms_of s) parents shapes (i ∷ []) reached → All (λ v. types v ≡ others v) reached → types i ≡ others i
  reached_same i reached o e =
      let level = values.level (forms_of s) n parents shapes found s.equations.items known inside one in
      let open_ = values.each_open (forms_of s) n parents shapes found s.equations.items known inside one one_solves i in
      let in_ : simply.Each (λ v. IsOpenClass (forms_of s) shapes v → IsIn reached v) (st i) = o.every 0 i (omega arith) level in
      let same : simply.Each (λ v. one v ≡ other v) (st i) =
      each_map (λ v. values.IsOpenRoot (forms_of s) n parents shapes found s.equations.items known inside one one_solves v × (IsOpenClass (forms_of s) shapes v → IsIn reached v)) (λ v. one v ≡ other v) (st i)
      (λ v p. let q = p.1 p.0.1 in ap written (subst (λ (x : ℕ). types x ≡ others x) q.2 (e q.0 0 q.1)))
      (each_both (values.IsOpenRoot (forms_of s) n parents shapes found s.equations.items known inside one one_solves) (λ v. IsOpenClass (forms_of s) shapes v → IsIn reached v) (st i) open_ in_) in
      as_read i (one_as i ∙ replaced_alike one other (st i) same ∙ sym (other_as i))

-- a list that its test says to be empty
pub none_from : (b : Bool) (count n : ℕ) → b ≡ (count == 0) → b ≡ true → count ≡ n → n ≡ 0
none_from b count n e f same = elim (cases_eq count 0) [ inl z ↦ omega arith | inr z ↦ absurd (let g = ne_eqb count 0 z in cc) ]

-- ---- where a definition's open classes are among those of the fixed slots, these determine its type

module _ (s : System) (sound : IsSystem s) (fixed : List ℕ) (definition : ℕ)
    (parents shapes : List ℕ) (found : List Equation) (known : IsKnown (forms_of s) (count_of s) parents shapes found s.equations.items) (reached : List ℕ)
    (reaches : AreOpens (forms_of s) parents shapes (definition ∷ []) reached) where
  pub none_determined : length reached ≡ 0 → IsDetermined s fixed definition
  none_determined e types others a b h = reached_same s sound types others a b parents shapes found known definition reached reaches (λ k d l. absurd (omega arith))

  -- the classes when it was asked what the fixed slots reach
  pub marked_determined : (parents' shapes' : List ℕ) (found' : List Equation) → IsKnown (forms_of s) (count_of s) parents' shapes' found' s.equations.items → (open_ : List ℕ)
      → AreOpens (forms_of s) parents' shapes' fixed open_ → (weak : List Bool) → AreMarked weak open_ → All (λ r. get_or weak r false ≡ true) reached → IsDetermined s fixed definition
  marked_determined parents' shapes' found' known' open_ o weak marked all_ types others a b h =
      let same = fixed_same s sound types others a b parents' shapes' found' known' fixed open_ o h in
      reached_same s sound types others a b parents shapes found known definition reached reaches
      (λ k d l. let i = marked.only (get_or reached k d) (all_ k d l) in subst (λ (v : ℕ). types v ≡ others v) i.2 (same i.0 0 i.1))

-- what some of the fixed slots determine they all do
pub among_determined : (s : System) (asked fixed : List ℕ) (i : ℕ) → All (IsIn fixed) asked → IsDetermined s asked i → IsDetermined s fixed i
among_determined s asked fixed i among d types others a b h = d types others a b (λ k e l. let q = among k e l in subst (λ (j : ℕ). types j ≡ others j) q.2 (h q.0 0 q.1))
