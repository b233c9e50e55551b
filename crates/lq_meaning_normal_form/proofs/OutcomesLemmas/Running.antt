-- Bindings before a last expression, in the meaning.
use Rattle.std.proofs.Common.{◌≡◌, ℕ, ◌+◌, ◌<◌, ◌≤◌, Bool, if◌then◌else◌, List, [], ◌∷◌, ◌++◌, Some, refl, sym, ap, subst, ◌∙◌, arith}
use Rattle.lq_base_names.specs.declared.place.Place.{Place}
use Rattle.lq_text_tree.specs.Tree.{Tree, Trees, no_trees, more_trees}
use Rattle.lq_meaning_steps.specs.Model.Core.{Core, Cores, Value, Values, no_values, more_values, Pairs, value_in}
use Rattle.lq_meaning_steps.specs.Model.Operations.{World}
use Rattle.lq_meaning_steps.specs.Model.Meaning.{Answer, comes, and_then, looked_up, eval, eval_all}
use Rattle.lq_meaning_steps.specs.Model.FromTree.{core_of, cores_of}
use Rattle.lq_meaning_normal_form.specs.Outcomes.Naming.{Binding, Block, wrap, closed, made, Row, no_row, more_row}
use Rattle.lq_meaning_normal_form.specs.Outcomes.Alike.{Alike, AllAlike, none_alike, more_alike, AlikePairs, one_has, AlikeWorlds, alike_answers}
use Rattle.lq_meaning_normal_form.specs.Outcomes.Named.{from, IsNamed}
use Rattle.lq_meaning_normal_form.proofs.OutcomesLemmas.Alikes.{then_self, after, then_alike}
use Rattle.lq_meaning_normal_form.proofs.OutcomesLemmas.Patterns.{self_is, not_same, is_from}

-- the same values for the names before k
abbrev pub Agree : ℕ → Pairs → Pairs → Type 0
Agree k g h = (x : ℕ) → x < k → value_in h x ≡ value_in g x

pub agree_self : (k : ℕ) (g : Pairs) → Agree k g g
agree_self k g x h = refl

pub agree_then : (k n : ℕ) (a b c : Pairs) → k ≤ n → Agree k a b → Agree n b c → Agree k a c
agree_then k n a b c le f h x lt = h x (omega (arith, le, lt)) ∙ f x lt

pub agree_more : (k m : ℕ) (v : Value) (g : Pairs) → k ≤ m → Agree k g ((m, v) ∷ g)
agree_more k m v g le x lt =
    let o : x < m = omega (arith, le, lt) in ap (λ (b : Bool). if b then Some v else value_in g x) (not_same m x o)

pub found_self : (m : ℕ) (v : Value) (g : Pairs) → value_in ((m, v) ∷ g) m ≡ Some v
found_self m v g = ap (λ (b : Bool). if b then Some v else value_in g m) (self_is m)

module _ (base : ℕ) (called : Value → Value → World → Answer) where
  abbrev pub A : Value → Value → Type 0
  A = Alike (IsNamed base)

  abbrev pub W : World → World → Type 0
  W = AlikeWorlds (IsNamed base)

  abbrev pub P : Pairs → Pairs → Type 0
  P = AlikePairs (IsNamed base) (from base)

  abbrev pub R : Answer → Answer → Type 0
  R = alike_answers (IsNamed base)

  -- the bindings in order, and what follows
  abbrev pub bind_all : List Binding → Pairs → World → (Pairs → World → Answer) → Answer
  bind_all [] env w next = next env w
  bind_all (b ∷ bs) env w next = and_then (eval called (core_of b.bound) env w) (λ v u. bind_all bs ((b.name, v) ∷ env) u next)

  pub wrapped : (bs : List Binding) (t : Tree) (env : Pairs) (w : World) → eval called (core_of (wrap bs t)) env w ≡ bind_all bs env w (λ env1 u. eval called (core_of t) env1 u)
  wrapped [] t env w = refl
  wrapped (b ∷ bs) t env w =
      after (eval called (core_of b.bound) env w) (λ v u. eval called (core_of (wrap bs t)) ((b.name, v) ∷ env) u) (λ v u. bind_all bs ((b.name, v) ∷ env) u (λ env1 s. eval called (core_of t) env1 s))
      (λ v u. wrapped bs t ((b.name, v) ∷ env) u)

  pub appended : (as_ bs : List Binding) (env : Pairs) (w : World) (next : Pairs → World → Answer) → bind_all (as_ ++ bs) env w next ≡ bind_all as_ env w (λ env1 u. bind_all bs env1 u next)
  appended [] bs env w next = refl
  appended (a ∷ as_) bs env w next =
      after (eval called (core_of a.bound) env w) (λ v u. bind_all (as_ ++ bs) ((a.name, v) ∷ env) u next) (λ v u. bind_all as_ ((a.name, v) ∷ env) u (λ env1 s. bind_all bs env1 s next))
      (λ v u. appended as_ bs ((a.name, v) ∷ env) u next)

  -- an expression that comes to this value, whatever is bound from k on, and whatever the world
  abbrev pub Stays : ℕ → Tree → Pairs → Value → Type 0
  Stays k a g u = (h : Pairs) → Agree k g h → (w : World) → eval called (core_of a) h w ≡ comes u w

  pub stays_later : (k n : ℕ) (a : Tree) (g h : Pairs) (u : Value) → k ≤ n → Agree k g h → Stays k a g u → Stays n a h u
  stays_later k n a g h u le agree stays j more w = stays j (agree_then k n g h j le agree more) w

  -- the tree that is named means what the expression does
  abbrev pub NamedKeeps : Block → Core → Pairs → Pairs → Type 0
  NamedKeeps B e d g = (w t : World) → W w t → R (eval called e d w) (eval called (core_of (closed B)) g t)

  -- so does a block whose last expression stays, whatever follows
  abbrev pub OperandKeeps : ℕ → Block → Core → Pairs → Pairs → Type 0
  OperandKeeps k B e d g =
      (w t : World) → W w t → (go : Value → World → Answer) (next : Pairs → World → Answer)
      → ((h : Pairs) (v u : Value) (x y : World) → P d h → Agree k g h → A v u → W x y → Stays B.next B.last h u → R (go v x) (next h y))
      → R (and_then (eval called e d w) go) (bind_all B.bindings g t next)

  pub made_keeps : (i : ℕ) (p : Place) (k : ℕ) (B : Block) (e : Core) (d g : Pairs) → base ≤ k → k ≤ B.next → P d g → NamedKeeps B e d g → OperandKeeps k (made i p B) e d g
  made_keeps i p k B e d g le later rel keeps w t world go next h =
      then_alike (IsNamed base) (eval called e d w) (eval called (core_of (closed B)) g t) go (λ v u. next ((B.next, v) ∷ g) u) (keeps w t world) (λ v u x y a world2.
      h ((B.next, u) ∷ g) v u x y (one_has (from base) B.next u d g (is_from base B.next (omega (arith, le, later))) rel) (agree_more k B.next u g later) a world2
      (λ j agree s. let o : B.next < B.next + 1 = omega arith in ap (λ o. looked_up o s) (agree B.next o ∙ found_self B.next u g)))

  pub from_operand : (k : ℕ) (B : Block) (e : Core) (d g : Pairs) → OperandKeeps k B e d g → NamedKeeps B e d g
  from_operand k B e d g keeps w t world =
      let last = λ (h : Pairs) (s : World). eval called (core_of B.last) h s in
      let by : R (and_then (eval called e d w) comes) (bind_all B.bindings g t last) = keeps w t world comes last (λ h v u x y rel agree a world2 stays.
      subst (R (comes v x)) (sym (stays h (agree_self B.next h) y)) (a, world2)) in
      subst (R (eval called e d w)) (sym (wrapped B.bindings B.last g t)) (subst (λ r. R r (bind_all B.bindings g t last)) (then_self (eval called e d w)) by)

  -- an expression with its block and the block that it has as an operand
  pub record KeepsOf (k : ℕ) (B O : Block) (e : Core) (d g : Pairs) : Type 0 where
    pub later : k ≤ B.next
    pub operand_later : k ≤ O.next
    pub named : NamedKeeps B e d g
    pub operand : OperandKeeps k O e d g

  pub bound : (i : ℕ) (p : Place) (k : ℕ) (B : Block) (e : Core) (d g : Pairs) → base ≤ k → P d g → k ≤ B.next → NamedKeeps B e d g → KeepsOf k B (made i p B) e d g
  bound i p k B e d g le rel later keeps =
      record { later = later; operand_later = omega (arith, later); named = keeps; operand = made_keeps i p k B e d g le later rel keeps }

  pub standing : (k : ℕ) (B : Block) (e : Core) (d g : Pairs) → k ≤ B.next → OperandKeeps k B e d g → KeepsOf k B B e d g
  standing k B e d g later keeps = record { later = later; operand_later = later; named = from_operand k B e d g keeps; operand = keeps }

  -- ---- two and three parts

  pub two_parts : (k : ℕ) (F B : Block) (a b : Core) (d g : Pairs) → k ≤ F.next → F.next ≤ B.next → OperandKeeps k F a d g → ((h : Pairs) → P d h → OperandKeeps F.next B b d h)
      → (w t : World) → W w t → (go : Value → Value → World → Answer) (next : Pairs → World → Answer)
      → ((h : Pairs) (v u x y : Value) (r s : World) → P d h → Agree k g h → A v u → A x y → W r s → Stays B.next F.last h u → Stays B.next B.last h y → R (go v x r) (next h s))
      → R (and_then (eval called a d w) (λ v r. and_then (eval called b d r) (λ x s. go v x s))) (bind_all (F.bindings ++ B.bindings) g t next)
  two_parts k F B a b d g le more first second w t world go next h =
      let by = first w t world (λ v r. and_then (eval called b d r) (λ x s. go v x s)) (λ j r. bind_all B.bindings j r next) (λ j v u r s rel agree av world2 stays.
      second j rel r s world2 (λ x z. go v x z) next (λ l x y m n rel2 agree2 ax world3 stays2.
      h l v u x y m n rel2 (agree_then k F.next g j l le agree agree2) av ax world3 (stays_later F.next B.next F.last j l u more agree2 stays) stays2)) in
      subst (R (and_then (eval called a d w) (λ v r. and_then (eval called b d r) (λ x s. go v x s)))) (sym (appended F.bindings B.bindings g t next)) by

  pub three_parts : (k : ℕ) (F B C : Block) (a b c : Core) (d g : Pairs) → k ≤ F.next → F.next ≤ B.next → B.next ≤ C.next
      → OperandKeeps k F a d g → ((h : Pairs) → P d h → OperandKeeps F.next B b d h) → ((h : Pairs) → P d h → OperandKeeps B.next C c d h)
      → (w t : World) → W w t → (go : Value → Value → Value → World → Answer) (next : Pairs → World → Answer)
      → ((h : Pairs) (v u x y m n : Value) (r s : World) → P d h → A v u → A x y → A m n → W r s → Stays C.next F.last h u → Stays C.next B.last h y → Stays C.next C.last h n → R (go v x m r) (next h s))
      → R (and_then (eval called a d w) (λ v r. and_then (eval called b d r) (λ x s. and_then (eval called c d s) (λ m z. go v x m z)))) (bind_all (F.bindings ++ (B.bindings ++ C.bindings)) g t next)
  three_parts k F B C a b c d g le more most first second third w t world go next h =
      let by = first w t world (λ v r. and_then (eval called b d r) (λ x s. and_then (eval called c d s) (λ m z. go v x m z))) (λ j r. bind_all (B.bindings ++ C.bindings) j r next) (λ j v u r s rel agree av world2 stays.
      two_parts F.next B C b c d j more most (second j rel) third r s world2 (λ x m z. go v x m z) next (λ l x y m n o q rel2 agree2 ax am world3 stays2 stays3.
      let all : F.next ≤ C.next = omega (arith, more, most) in
      h l v u x y m n o q rel2 av ax am world3 (stays_later F.next C.next F.last j l u all agree2 stays) stays2 stays3)) in
      subst (R (and_then (eval called a d w) (λ v r. and_then (eval called b d r) (λ x s. and_then (eval called c d s) (λ m z. go v x m z))))) (sym (appended F.bindings (B.bindings ++ C.bindings) g t next)) by

  -- ---- rows

  abbrev pub AllStay : ℕ → Trees → Pairs → Values → Type 0
  AllStay k no_trees g no_values = Unit {0}
  AllStay k (more_trees a as_) g (more_values u us) = Stays k a g u × AllStay k as_ g us
  AllStay k _ g _ = ⊥

  abbrev pub RowKeeps : ℕ → Row → Cores → Pairs → Pairs → Type 0
  RowKeeps k Q es d g =
      (w t : World) → W w t → (go : Values → World → Answer) (next : Pairs → World → Answer)
      → ((h : Pairs) (vs us : Values) (x y : World) → P d h → Agree k g h → AllAlike (IsNamed base) vs us → W x y → AllStay Q.next Q.atoms h us → R (go vs x) (next h y))
      → R (eval_all called es d w go) (bind_all Q.bindings g t next)

  pub no_row_keeps : (k : ℕ) (d g : Pairs) → P d g → RowKeeps k (no_row k) (cores_of no_trees) d g
  no_row_keeps k d g rel w t world go next h = h g no_values no_values w t rel (agree_self k g) none_alike world tt

  pub more_row_keeps : (k : ℕ) (F : Block) (Q : Row) (e : Tree) (es : Trees) (d g : Pairs) → k ≤ F.next → F.next ≤ Q.next → OperandKeeps k F (core_of e) d g
      → ((h : Pairs) → P d h → RowKeeps F.next Q (cores_of es) d h) → RowKeeps k (more_row F Q) (cores_of (more_trees e es)) d g
  more_row_keeps k F Q e es d g le more first rest w t world go next h =
      let by = first w t world (λ v r. eval_all called (cores_of es) d r (λ vs s. go (more_values v vs) s)) (λ j r. bind_all Q.bindings j r next) (λ j v u r s rel agree av world2 stays.
      rest j rel r s world2 (λ vs z. go (more_values v vs) z) next (λ l vs us m n rel2 agree2 all world3 stay.
      h l (more_values v vs) (more_values u us) m n rel2 (agree_then k F.next g j l le agree agree2) (more_alike v u vs us av all) world3 (stays_later F.next Q.next F.last j l u more agree2 stays, stay))) in
      subst (R (eval_all called (cores_of (more_trees e es)) d w go)) (sym (appended F.bindings Q.bindings g t next)) by

  -- what stays, as it is evaluated
  pub one_eval : (a : Core) (g : Pairs) (t : World) (u : Value) (f : Value → World → Answer) → eval called a g t ≡ comes u t → and_then (eval called a g t) f ≡ f u t
  one_eval a g t u f e = ap (λ r. and_then r f) e

  pub two_eval : (a b : Core) (g : Pairs) (t : World) (u y : Value) (f : Value → Value → World → Answer) → eval called a g t ≡ comes u t → eval called b g t ≡ comes y t
      → and_then (eval called a g t) (λ x s. and_then (eval called b g s) (λ z r. f x z r)) ≡ f u y t
  two_eval a b g t u y f e h = ap (λ r. and_then r (λ x s. and_then (eval called b g s) (λ z r. f x z r))) e ∙ ap (λ r. and_then r (λ z r. f u z r)) h

  pub three_eval : (a b c : Core) (g : Pairs) (t : World) (u y n : Value) (f : Value → Value → Value → World → Answer) → eval called a g t ≡ comes u t → eval called b g t ≡ comes y t → eval called c g t ≡ comes n t
      → and_then (eval called a g t) (λ x s. and_then (eval called b g s) (λ z r. and_then (eval called c g r) (λ m q. f x z m q))) ≡ f u y n t
  three_eval a b c g t u y n f e h i =
      ap (λ r. and_then r (λ x s. and_then (eval called b g s) (λ z r. and_then (eval called c g r) (λ m q. f x z m q)))) e ∙ two_eval b c g t y n (f u) h i

  pub all_eval : (as_ : Trees) (k : ℕ) (g : Pairs) (us : Values) (t : World) (go : Values → World → Answer) → AllStay k as_ g us → eval_all called (cores_of as_) g t go ≡ go us t
  all_eval no_trees k g no_values t go stay = refl
  all_eval (more_trees a as_) k g (more_values u us) t go stay =
      ap (λ r. and_then r (λ v s. eval_all called (cores_of as_) g s (λ vs q. go (more_values v vs) q))) (stay.0 g (agree_self k g) t) ∙ all_eval as_ k g us t (λ vs q. go (more_values u vs) q) stay.1
  all_eval no_trees k g (more_values u us) t go stay = absurd stay
  all_eval (more_trees a as_) k g no_values t go stay = absurd stay
