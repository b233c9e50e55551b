-- Values, environments, worlds and answers that are alike but for code, where `Code hidden q b r c` says that the code c with the parameter
-- r stands for the code b with the parameter q, and that b has no use of a hidden name.
use Rattle.std.specs.Prelude.{◌≡◌, ℕ, ℤ, Bool, true, List, [], ◌∷◌}
use Rattle.lq_meaning_steps.specs.Model.Core.{Parameter, bound_in, Core, Value, v_whole, v_flag, v_unit, v_fun, v_rec, v_tuple, v_build, v_array, Values, no_values, more_values, Pairs, without, close}
use Rattle.lq_meaning_steps.specs.Model.Operations.{World}
use Rattle.lq_meaning_steps.specs.Model.Meaning.{Answer, comes, fails, runs_out, too_deep, gets_stuck}

abbrev pub CodeRelation : Type 1
CodeRelation = (ℕ → Bool) → Parameter → Core → Parameter → Core → Type 0

mutual
  pub data Alike (Code : CodeRelation) : Value → Value → Type 0 where
    alike_whole : (n : ℤ) → Alike Code (v_whole n) (v_whole n)
    alike_flag : (b : Bool) → Alike Code (v_flag b) (v_flag b)
    alike_unit : Alike Code v_unit v_unit
    -- the same array of the store
    alike_array : (r n : ℕ) → Alike Code (v_array r n) (v_array r n)
    alike_tuple : (vs us : Values) → AllAlike Code vs us → Alike Code (v_tuple vs) (v_tuple us)
    alike_build : (c : ℕ) (vs us : Values) → AllAlike Code vs us → Alike Code (v_build c vs) (v_build c us)
    -- code, each closed by an environment
    alike_fun : (hidden : ℕ → Bool) (q r : Parameter) (b c x y : Core) (d g : Pairs) → Code hidden q b r c → AlikePairs Code hidden d g
        → x ≡ close (without (bound_in q) d) b → y ≡ close (without (bound_in r) g) c → Alike Code (v_fun q x) (v_fun r y)
    alike_rec : (hidden : ℕ → Bool) (f : ℕ) (q r : Parameter) (b c x y : Core) (d g : Pairs) → Code hidden q b r c → AlikePairs Code hidden d g
        → x ≡ close (without (f ∷ bound_in q) d) b → y ≡ close (without (f ∷ bound_in r) g) c → Alike Code (v_rec f q x) (v_rec f r y)

  pub data AllAlike (Code : CodeRelation) : Values → Values → Type 0 where
    none_alike : AllAlike Code no_values no_values
    more_alike : (v u : Value) (vs us : Values) → Alike Code v u → AllAlike Code vs us → AllAlike Code (more_values v vs) (more_values u us)

  -- the same variables with values that are alike, and on the right also hidden ones
  pub data AlikePairs (Code : CodeRelation) : (ℕ → Bool) → Pairs → Pairs → Type 0 where
    no_pairs : (hidden : ℕ → Bool) → AlikePairs Code hidden [] []
    both_have : (hidden : ℕ → Bool) (x : ℕ) (v u : Value) (d g : Pairs) → Alike Code v u → AlikePairs Code hidden d g → AlikePairs Code hidden ((x, v) ∷ d) ((x, u) ∷ g)
    one_has : (hidden : ℕ → Bool) (x : ℕ) (u : Value) (d g : Pairs) → hidden x ≡ true → AlikePairs Code hidden d g → AlikePairs Code hidden d ((x, u) ∷ g)

module _ (Code : CodeRelation) where
  -- element by element
  abbrev pub alike_elements : List Value → List Value → Type 0
  alike_elements [] [] = Unit {0}
  alike_elements (v ∷ vs) (u ∷ us) = Alike Code v u × alike_elements vs us
  alike_elements _ _ = ⊥

  abbrev pub alike_arrays : List (List Value) → List (List Value) → Type 0
  alike_arrays [] [] = Unit {0}
  alike_arrays (vs ∷ rows) (us ∷ others) = alike_elements vs us × alike_arrays rows others
  alike_arrays _ _ = ⊥

  -- the same input is left, and the same output is written
  pub record AlikeWorlds (w u : World) : Type 0 where
    pub arrays : alike_arrays w.arrays u.arrays
    pub input : w.input ≡ u.input
    pub output : w.output ≡ u.output

  -- the same kind of answer, with the same fault and place; nothing is said where the first one is stuck
  abbrev pub alike_answers : Answer → Answer → Type 0
  alike_answers (gets_stuck w) b = Unit {0}
  alike_answers (comes v w) (comes u t) = Alike Code v u × AlikeWorlds w t
  alike_answers (fails k p w) (fails l q t) = (k ≡ l) × (p ≡ q) × AlikeWorlds w t
  alike_answers (runs_out p w) (runs_out q t) = (p ≡ q) × AlikeWorlds w t
  alike_answers (too_deep w) (too_deep t) = AlikeWorlds w t
  alike_answers _ _ = ⊥
