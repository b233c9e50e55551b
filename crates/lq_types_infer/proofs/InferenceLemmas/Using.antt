-- What the copy of a definition's type for a use does to the types that solve the equations.
use Rattle.std.proofs.Common.{◌≡◌, inl, inr, ℕ, zero, suc, ◌<◌, ◌≤◌, Bool, true, false, not, nat_lt, List, [], ◌∷◌, map, Option, Some, None, All, get_or, refl, sym, ap, ap₂, subst, ◌∙◌, arith}
use Rattle.std.specs.Option.{option_map}
use Rattle.std.proofs.lemmas.Bool.{cases_lt, lt-ltb, le-ltb}
use Rattle.std.proofs.lemmas.List.Elements.{All-append}
use Rattle.lq_text_tree.specs.MlType as ml
use Rattle.lq_text_tree.specs.MlType.{MlType, MlTypes}
use Rattle.lq_text_tree.specs.Types.{put, put_all}
use Rattle.lq_types_unify.specs.declared.arena.Equation.{Equation}
use Rattle.lq_types_unify.specs.Simple as simple
use Rattle.lq_types_unify.specs.Simple.{Simple, variable, replaced}
use Rattle.lq_types_unify.specs.Nodes.{Form, renamed}
use Rattle.lq_types_unify.specs.Solution as solution
use Rattle.lq_types_unify.specs.Variables as simply
use Rattle.lq_types_unify.specs.Classes.{up, root}
use Rattle.lq_types_unify.specs.Value.{parts_of}
use Rattle.lq_types_unify.specs.Opens.{IsIn, IsOpenClass}
use Rattle.lq_types_unify.specs.Reaching.{IsFixed}
use Rattle.lq_types_unify.specs.Copying.{Stands}
use Rattle.lq_types_unify.specs.Later.{IsCopied}
use Rattle.lq_types_unify.specs.Using.{is_general, IsUsed}
use Rattle.lq_types_unify.proofs.Replacing.{replaced_alike, alike_from, each_is}
use Rattle.lq_types_unify.proofs.Replacing as replacing
use Rattle.lq_types_unify.proofs.Copied.{instances, extend}
use Rattle.lq_types_rules.specs.declared.equations.system.System.{System}
use Rattle.lq_types_rules.specs.Equations.Solutions.{made, each, Fits, Meets}
use Rattle.lq_types_rules.specs.Equations.Adding.{IsSystem, Agree, count_of, forms_of}
use Rattle.lq_types_rules.specs.Equations.Solved.{read, written, Solves}
use Rattle.lq_types_rules.proofs.EquationsLemmas.Growing.{some_inside, parts_inside}
use Rattle.lq_types_rules.specs.Typings.Uses.{Leaves}
use Rattle.lq_types_infer.specs.Inference.Copying.{AddsCopy}
use Rattle.lq_types_infer.proofs.InferenceLemmas.Naming.{all_left, all_right}
use Rattle.lq_types_infer.proofs.InferenceLemmas.Reading.{read_written, read_replaced, reads, writes, each_map, each_written}
use Rattle.lq_types_infer.proofs.InferenceLemmas.Standing as values
use Rattle.lq_types_infer.proofs.InferenceLemmas.Opens.{opens_hold, same_stands}

-- ---- two choices

chosen : {X : Type 0} → Bool → X → X → X
chosen true x y = x
chosen false x y = y

parted : {X : Type 0} → ℕ → (ℕ → X) → (ℕ → X) → ℕ → X
parted count f g i = chosen (nat_lt i count) (f i) (g i)

parted_old : {X : Type 0} (count : ℕ) (f g : ℕ → X) (i : ℕ) → i < count → parted count f g i ≡ f i
unfolding parted chosen
parted_old count f g i h = ap (λ b. chosen b (f i) (g i)) (lt-ltb i count h)

parted_new : {X : Type 0} (count : ℕ) (f g : ℕ → X) (i : ℕ) → count ≤ i → parted count f g i ≡ g i
unfolding parted chosen
parted_new count f g i h = ap (λ b. chosen b (f i) (g i)) (le-ltb i count h)

mutual
  put_alike : (f g : ℕ → MlType) (t : MlType) → ((v : ℕ) → f v ≡ g v) → put f t ≡ put g t
  put_alike f g ml.int h = refl
  put_alike f g ml.bool h = refl
  put_alike f g ml.unit h = refl
  put_alike f g (ml.var i) h = h i
  put_alike f g (ml.arrow a b) h = ap₂ ml.arrow (put_alike f g a h) (put_alike f g b h)
  put_alike f g (ml.tuple ts) h = ap ml.tuple (put_all_alike f g ts h)
  put_alike f g (ml.array a) h = ap ml.array (put_alike f g a h)
  put_alike f g (ml.named d ts) h = ap (ml.named d) (put_all_alike f g ts h)
  put_alike f g (ml.map_of a) h = ap ml.map_of (put_alike f g a h)

  put_all_alike : (f g : ℕ → MlType) (ts : MlTypes) → ((v : ℕ) → f v ≡ g v) → put_all f ts ≡ put_all g ts
  put_all_alike f g ml.no_types h = refl
  put_all_alike f g (ml.more_types t ts) h = ap₂ ml.more_types (put_alike f g t h) (put_all_alike f g ts h)

each_alike : (f g : ℕ → MlType) (ps : List ℕ) → All (λ p. f p ≡ g p) ps → each f ps ≡ each g ps
each_alike f g [] h = refl
each_alike f g (p ∷ ps) h = ap₂ ml.more_types (h 0 0 (omega arith)) (each_alike f g ps (λ k d l. h (suc k) d (omega arith)))

all_map : (P Q : ℕ → Type 0) (xs : List ℕ) → ((x : ℕ) → P x → Q x) → All P xs → All Q xs
all_map P Q xs f h k d l = f (get_or xs k d) (h k d l)

mapped : (P Q : ℕ → Type 0) (f : ℕ → ℕ) (ps : List ℕ) → All P ps → ((p : ℕ) → P p → Q (f p)) → All Q (map f ps)
mapped P Q f [] h q k d l = absurd (omega arith)
mapped P Q f (p ∷ ps) h q zero d l = q p (h 0 p (omega arith))
mapped P Q f (p ∷ ps) h q (suc k) d l = mapped P Q f ps (λ j e i. h (suc j) e (omega arith)) q k d (omega arith)

made_apart : (o p : Option Form) (f : Form) (to : ℕ → ℕ) → o ≡ Some f → o ≡ option_map (renamed to) p → (g : Form) × (p ≡ Some g) × (f.parts ≡ map to g.parts)
made_apart o None f to e q = absurd (cc)
made_apart o (Some g) f to e q = (g, refl, parts (sym e ∙ q))
  where
    row : Option Form → List ℕ
    row None = []
    row (Some x) = x.parts

    parts : Some f ≡ Some (renamed to g) → f.parts ≡ map to g.parts
    parts r = ap row r

equal_bool : (b : Bool) {P : Type 0} → (b ≡ true → P) → (b ≡ false → P) → P
equal_bool true f g = f refl
equal_bool false f g = g refl

module _ (old new : System) (fixed : List ℕ) (definition node : ℕ) (sound : IsSystem old) (c : AddsCopy old new fixed definition node)
    (definition_in : definition < count_of old) (node_in : node < count_of old) (fixed_in : All (λ i. i < count_of old) fixed) where
  abbrev n : ℕ
  n = count_of old

  inside : (i : ℕ) (f : Form) → forms_of old i ≡ Some f → (i < n) × All (λ p. p < n) f.parts
  inside i f e = (some_inside old.arena i f e, parts_inside old.arena sound.arena i f e)

  pub keeps : (types : ℕ → MlType) → Solves new new.equations.items types → Solves old old.equations.items types
  keeps types h = record {
    fits = λ i f e. h.fits i f (c.copy.kept i (some_inside old.arena i f e) ∙ e);
    meets = all_left (λ (e : Equation). types e.left ≡ types e.right) old.equations.items _ (subst (Meets types) c.equations_are h.meets);
  }

  as_used : (types : ℕ → MlType) → Solves new new.equations.items types → types node ≡ types c.used
  as_used types h =
      let e : Equation = record { left = node; right = c.used } in
      all_right (λ (q : Equation). types q.left ≡ types q.right) old.equations.items (e ∷ []) (subst (Meets types) c.equations_are h.meets) 0 e (omega arith)

  weak : ℕ → Bool
  weak v = get_or c.weak v false

  -- types of the old nodes, written
  solved : (types : ℕ → MlType) → Solves old old.equations.items types → solution.IsSolution (forms_of old) old.equations.items (λ i. written (types i))
  solved types h = writes old old.equations.items types sound h

  module _ (types : ℕ → MlType) (solves : Solves old old.equations.items types) where
    abbrev w : ℕ → Simple
    w i = written (types i)

    abbrev before : ℕ → Simple
    before = values.stands (forms_of old) n c.parents_before c.shapes_before c.found_before old.equations.items c.known_before inside w (solved types solves)

    abbrev now : ℕ → Simple
    now = values.stands (forms_of old) n c.parents c.shapes c.found old.equations.items c.known inside w (solved types solves)

    as_before : (others : ℕ → MlType) → Solves old old.equations.items others → (i : ℕ) → written (others i) ≡ replaced (λ v. written (others v)) (before i)
    as_before others h i = values.as_stands (forms_of old) n c.parents_before c.shapes_before c.found_before old.equations.items c.known_before inside w (solved types solves) (λ v. written (others v)) (solved others h) i

    as_now : (others : ℕ → MlType) → Solves old old.equations.items others → (i : ℕ) → written (others i) ≡ replaced (λ v. written (others v)) (now i)
    as_now others h i = values.as_stands (forms_of old) n c.parents c.shapes c.found old.equations.items c.known inside w (solved types solves) (λ v. written (others v)) (solved others h) i

    alike : (i : ℕ) → before i ≡ now i
    alike i = same_stands (forms_of old) n old.equations.items inside w (solved types solves) c.parents_before c.shapes_before c.found_before c.known_before c.parents c.shapes c.found c.known i

    -- what holds of each variable of the fixed slots' types holds of what is weak
    weak_hold : (P : ℕ → Type 0) → All (λ i. simply.Each P (before i)) fixed → (v : ℕ) → weak v ≡ true → P v
    unfolding weak
    weak_hold P h v e =
        let a = opens_hold (forms_of old) n c.parents_before c.shapes_before c.found_before old.equations.items c.known_before inside w (solved types solves) P c.asked c.open_ c.opens
        (λ j d l. let q = c.among j d l in subst (λ (i : ℕ). simply.Each P (before i)) q.2 (h q.0 0 q.1)) in
        let k = c.marked.only v e in
        subst P k.2 (a k.0 0 k.1)

    -- each variable of the type of a slot that was asked is weak
    are_weak : All (λ i. simply.Each (λ v. weak v ≡ true) (before i)) c.asked
    unfolding weak
    are_weak k d l =
        let i = get_or c.asked k d in
        let o = values.each_open (forms_of old) n c.parents_before c.shapes_before c.found_before old.equations.items c.known_before inside w (solved types solves) i in
        let e = c.opens.every k d l (values.level (forms_of old) n c.parents_before c.shapes_before c.found_before old.equations.items c.known_before inside w) in
        replacing.each_map (λ v. values.IsOpenRoot (forms_of old) n c.parents_before c.shapes_before c.found_before old.equations.items c.known_before inside w (solved types solves) v
        × (IsOpenClass (forms_of old) c.shapes_before v → IsIn c.open_ v)) (λ v. get_or c.weak v false ≡ true) (before i)
        (λ v p. let k = p.1 p.0.1 in subst (λ (r : ℕ). get_or c.weak r false ≡ true) k.2 (c.marked.all_ k.0 0 k.1))
        (replacing.each_both (values.IsOpenRoot (forms_of old) n c.parents_before c.shapes_before c.found_before old.equations.items c.known_before inside w (solved types solves))
        (λ v. IsOpenClass (forms_of old) c.shapes_before v → IsIn c.open_ v) (before i) o e)

  -- ---- other types of the old nodes

  module _ (types t : ℕ → MlType) (h : Solves new new.equations.items types) (s : Solves old old.equations.items t)
      (node_is : t node ≡ types node) (fixed_is : All (λ i. t i ≡ types i) fixed) where
    abbrev both : ℕ → MlType
    both = parted n t types

    weak_same : (v : ℕ) → weak v ≡ true → t v ≡ types v
    weak_same v e = weak_hold types (keeps types h) (λ x. t x ≡ types x)
        (λ k d l.
        let i = get_or fixed k d in
        replacing.each_map (λ x. written (t x) ≡ written (types x)) (λ x. t x ≡ types x) (before types (keeps types h) i)
        (λ x q. sym (read_written (t x)) ∙ ap read q ∙ read_written (types x))
        (alike_from (λ x. written (t x)) (λ x. written (types x)) (before types (keeps types h) i)
        (sym (as_before types (keeps types h) t s i) ∙ ap written (fixed_is k d l) ∙ as_before types (keeps types h) types (keeps types h) i)))
        v e

    both_at : (q : ℕ) → (q < n → t q ≡ types q) → parted n t types q ≡ types q
    both_at q f = elim (cases_lt q n) [ inl l ↦ parted_old n t types q l ∙ f l | inr l ↦ parted_new n t types q l ]

    both_stand : (r : ℕ) → Stands (forms_of old) n (count_of new) c.shapes c.weak c.copy.origin c.copy.goes r → parted n t types (c.copy.goes r) ≡ types (c.copy.goes r)
    unfolding weak
    both_stand r (inl x) = both_at (c.copy.goes r) (λ l. ap t x.1 ∙ weak_same r x.0.0 ∙ sym (ap types x.1))
    both_stand r (inr x) = both_at (c.copy.goes r) (λ l. absurd (let m = x.1 in omega arith))

    both_fits_new : (i : ℕ) (f : Form) → n ≤ i → forms_of new i ≡ Some f → parted n t types i ≡ made f.head (each (parted n t types) f.parts)
    both_fits_new i f l e = elim (cases_lt i (count_of new)) [
      | inl m ↦
          let to : ℕ → ℕ = λ p. c.copy.goes (root c.parents p) in
          let g = made_apart (forms_of new i) (forms_of old (up c.shapes (c.copy.origin i))) f to e (c.copy.copied i l m) in
          let st = c.copy.parts i l m in
          let all_ : All (λ p. Stands (forms_of old) n (count_of new) c.shapes c.weak c.copy.origin c.copy.goes (root c.parents p)) g.0.parts =
          subst (λ o. All (λ p. Stands (forms_of old) n (count_of new) c.shapes c.weak c.copy.origin c.copy.goes (root c.parents p)) (parts_of o)) g.1 st in
          let same : All (λ q. parted n t types q ≡ types q) (map to g.0.parts) =
          mapped (λ p. Stands (forms_of old) n (count_of new) c.shapes c.weak c.copy.origin c.copy.goes (root c.parents p)) (λ q. parted n t types q ≡ types q) to g.0.parts all_ (λ p x. both_stand (root c.parents p) x) in
          parted_new n t types i l ∙ h.fits i f e
          ∙ ap (made f.head) (sym (each_alike (parted n t types) types f.parts (subst (All (λ q. parted n t types q ≡ types q)) (sym g.2) same)))
      | inr m ↦ absurd (let x = c.copy.past i m in cc)
    ]

    both_fits : Fits (forms_of new) (parted n t types)
    both_fits i f e = elim (cases_lt i n) [
      | inl l ↦
          let was : forms_of old i ≡ Some f = sym (c.copy.kept i l) ∙ e in
          parted_old n t types i l ∙ s.fits i f was
          ∙ ap (made f.head) (sym (each_alike (parted n t types) t f.parts (λ k d m. parted_old n t types (get_or f.parts k d) ((inside i f was).1 k d m))))
      | inr l ↦ both_fits_new i f l e
    ]

    both_meets : Meets (parted n t types) new.equations.items
    both_meets = subst (Meets (parted n t types)) (sym c.equations_are)
        (All-append (λ (e : Equation). parted n t types e.left ≡ parted n t types e.right) old.equations.items _ (λ k d l. old_met k d l) one)
      where
        old_met : Meets (parted n t types) old.equations.items
        old_met k d l =
            let e = get_or old.equations.items k d in
            let i = sound.nodes k d l in
            parted_old n t types e.left i.0 ∙ s.meets k d l ∙ sym (parted_old n t types e.right i.1)

        used_is : parted n t types c.used ≡ types c.used
        used_is = ap (parted n t types) c.copy.used_is ∙ both_stand (root c.parents definition) c.copy.begins ∙ sym (ap types c.copy.used_is)

        one : Meets (parted n t types) (record { left = node; right = c.used } ∷ [])
        one zero d l = parted_old n t types node node_in ∙ node_is ∙ as_used types h ∙ sym used_is
        one (suc k) d l = absurd (omega arith)

    -- they go on to the copy
    pub copy_local : (later : ℕ → MlType) × Agree n t later × Solves new new.equations.items later
    copy_local = (parted n t types, (λ i l. parted_old n t types i l), record { fits = both_fits; meets = both_meets })

  -- ---- the type of the use is one that the definition could have

  module _ (types : ℕ → MlType) (h : Solves new new.equations.items types) where
    abbrev old_solves : Solves old old.equations.items types
    old_solves = keeps types h

    -- the types of the classes before the copy
    abbrev st : ℕ → Simple
    st = now types (keeps types h)

    new_fits : IsSystem new → solution.Fits (forms_of new) (λ i. written (types i))
    new_fits sys = (writes new new.equations.items types sys h).fits

    copied : IsCopied (now types (keeps types h)) (λ i. written (types i)) (is_general c.weak) definition c.used
    copied = instances (forms_of old) (forms_of new) n (count_of new) c.parents c.shapes c.weak definition c.used
        (values.level (forms_of old) n c.parents c.shapes c.found old.equations.items c.known inside (λ i. written (types i))) (λ i. written (types i)) c.copy c.known.state.down
        (values.rank_is (forms_of old) n c.parents c.shapes c.found old.equations.items c.known inside (λ i. written (types i)) (solved types (keeps types h))) (new_fits c.system)

    by : ℕ → Simple
    by v = chosen (weak v) (written (types v)) (copied.by v)

    by_weak : (v : ℕ) → weak v ≡ true → by v ≡ written (types v)
    unfolding by chosen
    by_weak v e = ap (λ b. chosen b (written (types v)) (copied.by v)) e

    by_free : (v : ℕ) → weak v ≡ false → by v ≡ copied.by v
    unfolding by chosen
    by_free v e = ap (λ b. chosen b (written (types v)) (copied.by v)) e

    definition_by : simply.Each (λ v. by v ≡ copied.by v) (now types (keeps types h) definition)
    unfolding weak
    definition_by = replacing.each_map (λ v. is_general c.weak v ≡ false → (now types (keeps types h) (copied.node v) ≡ variable v) × (copied.by v ≡ written (types (copied.node v)))) (λ v. by v ≡ copied.by v)
        (now types (keeps types h) definition)
        (λ v p. equal_bool (weak v)
        (λ e. let q = p (ap not e) in by_weak v e ∙ sym (q.1 ∙ as_now types (keeps types h) types (keeps types h) (copied.node v) ∙ ap (replaced (λ x. written (types x))) q.0))
        (λ e. by_free v e))
        copied.shared

    free : ℕ → MlType
    free i = read (replaced by (now types (keeps types h) i))

    free_solves : Solves old old.equations.items free
    unfolding free
    free_solves = reads old old.equations.items (λ i. replaced by (now types (keeps types h) i)) (record {
      fits = λ i f e. ap (replaced by) (m.solves.fits i f e) ∙ ap (simple.made f.head) (sym (each_is (λ j. replaced by (now types (keeps types h) j)) (now types (keeps types h)) by f.parts (λ k d l. refl)));
      meets = λ k d l. ap (replaced by) (m.solves.meets k d l);
    })
      where
        m : solution.IsPrincipal (forms_of old) old.equations.items (now types (keeps types h))
        m = values.most_general (forms_of old) n c.parents c.shapes c.found old.equations.items c.known inside (λ i. written (types i)) (solved types (keeps types h))

    free_definition : free definition ≡ types node
    unfolding free
    free_definition = ap read (replaced_alike by copied.by (now types (keeps types h) definition) definition_by ∙ sym copied.copied) ∙ read_written (types c.used) ∙ sym (as_used types h)

    free_asked : All (λ i. free i ≡ types i) c.asked
    unfolding free
    free_asked k d l =
        let i = get_or c.asked k d in
        let weak_here : simply.Each (λ v. weak v ≡ true) (now types (keeps types h) i) = subst (simply.Each (λ v. weak v ≡ true)) (alike types (keeps types h) i) (are_weak types (keeps types h) k d l) in
        ap read (replaced_alike by (λ v. written (types v)) (now types (keeps types h) i) (replacing.each_map (λ v. weak v ≡ true) (λ v. by v ≡ written (types v)) (now types (keeps types h) i) by_weak weak_here)
        ∙ sym (as_now types (keeps types h) types (keeps types h) i)) ∙ read_written (types i)

    free_fixed : All (λ i. free i ≡ types i) fixed
    free_fixed k d l = elim (c.others k d l) [
      | inl q ↦ subst (λ (i : ℕ). free i ≡ types i) q.2 (free_asked q.0 0 q.1)
      | inr closed ↦ closed free types free_solves (keeps types h) (λ j e m. absurd (omega arith))
    ]

    -- types of the old nodes by which the definition has the type of the use, and the fixed slots have theirs
    pub copy_free : (t : ℕ → MlType) × Solves old old.equations.items t × (t definition ≡ types node) × All (λ i. t i ≡ types i) fixed
    copy_free = (free, free_solves, free_definition, free_fixed)

  -- ---- a use with other types for the variables that aren't fixed

  module _ (later by : ℕ → MlType) (s : Solves old old.equations.items later) (leaves : All (λ i. Leaves by (later i)) fixed) (node_is : later node ≡ put by (later definition)) where
    weak_left : (r : ℕ) → IsFixed (forms_of old) c.shapes c.weak r → simply.Each (λ v. written (by v) ≡ variable v) (written (later r))
    unfolding weak
    weak_left r x = weak_hold later s (λ v. simply.Each (λ u. written (by u) ≡ variable u) (written (later v)))
        (λ k d l.
        let i = get_or fixed k d in
        replacing.each_replaced (λ u. written (by u) ≡ variable u) (λ v. written (later v)) (before later s i)
        (subst (simply.Each (λ u. written (by u) ≡ variable u)) (as_before later s later s i)
        (each_written (λ u. written (by u) ≡ variable u) (later i) (each_map (λ u. by u ≡ ml.var u) (λ u. written (by u) ≡ variable u) (later i) (λ u e. ap written e) (leaves k d l)))))
        r x.0

    used : IsUsed (forms_of new) n (λ i. written (later i)) (λ v. written (by v)) definition c.used
    used = extend (forms_of old) (forms_of new) n (count_of new) c.parents c.shapes c.found old.equations.items c.weak definition c.used (λ i. written (later i)) (λ v. written (by v)) c.copy c.known
        (solved later s) definition_in (λ i f e. (inside i f e).1) weak_left

    abbrev more : ℕ → MlType
    more i = read (used.more i)

    more_same : (i : ℕ) → i < n → read (used.more i) ≡ later i
    more_same i l = ap read (used.same i l) ∙ read_written (later i)

    more_used : read (used.more c.used) ≡ later node
    more_used = ap read used.used_as ∙ read_replaced (λ v. written (by v)) (written (later definition)) ∙ ap (put (λ v. read (written (by v)))) (read_written (later definition))
        ∙ put_alike (λ v. read (written (by v))) by (later definition) (λ v. read_written (by v)) ∙ sym node_is

    more_fits : Fits (forms_of new) (λ i. read (used.more i))
    more_fits = (reads new [] used.more (record { fits = used.fits; meets = λ k d l. absurd (omega arith) })).fits

    more_meets : Meets (λ i. read (used.more i)) new.equations.items
    more_meets = subst (Meets (λ i. read (used.more i))) (sym c.equations_are)
        (All-append (λ (e : Equation). read (used.more e.left) ≡ read (used.more e.right)) old.equations.items _ (λ k d l. old_met k d l) one)
      where
        old_met : Meets (λ i. read (used.more i)) old.equations.items
        old_met k d l =
            let e = get_or old.equations.items k d in
            let i = sound.nodes k d l in
            more_same e.left i.0 ∙ s.meets k d l ∙ sym (more_same e.right i.1)

        one : Meets (λ i. read (used.more i)) (record { left = node; right = c.used } ∷ [])
        one zero d l = more_same node node_in ∙ sym more_used
        one (suc k) d l = absurd (omega arith)

    pub copy_said : (types : ℕ → MlType) × Agree n later types × Solves new new.equations.items types
    copy_said = ((λ i. read (used.more i)), more_same, record { fits = more_fits; meets = more_meets })
