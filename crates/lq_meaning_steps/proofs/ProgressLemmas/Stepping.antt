-- An expression of a type is a value of the type, or has a step that keeps the type.
use Rattle.std.proofs.Common.{◌≡◌, ℕ, Bool, true, false, if◌then◌else◌, [], ◌∷◌, ◌++◌, ◌⊎◌, inl, inr, Option, Some, None, refl, sym, ap, subst}
use Rattle.lq_base_names.specs.declared.place.Place.{Place}
use Rattle.lq_text_tree.specs.MlType as ml
use Rattle.lq_text_tree.specs.MlType.{MlType, MlTypes}
use Rattle.lq_meaning_steps.specs.Model.Core.{Row, tuple, build, list_of, Core, val, use_of, fun, row, let_in, let_rec, call, one, two, three, and_of, or_of, if_else, match_on, seq, assert_false, Cores, none, more, Arms, no_arms, more_arms, Value, v_whole, v_flag, v_unit, v_fun, v_rec, v_tuple, v_build, v_array, Values, no_values, more_values, Pairs, as_value, as_values, list_value, row_value, both_values, with_values}
use Rattle.lq_meaning_steps.specs.Model.Operations.{World, unary_act, binary_act, ternary_act, fits}
use Rattle.lq_meaning_steps.specs.Model.Step.{Next, goes, faults, ends, Frame, in_row, in_let, in_function, in_argument, in_one, in_left, in_right, in_start, in_middle, in_end, in_and, in_or, in_condition, in_scrutinee, in_first, placed, plug, applied, body_of, or_later, first_arm, Step}
use Rattle.lq_meaning_steps.specs.Model.StepFunction.{on_value, acted, goes_to, on_flag, with_part, step, step_row}
use Rattle.lq_meaning_steps.specs.Model.Laws.{ValuesRest, IsStepFunction}
use Rattle.lq_text_tree.specs.Types.{both_types, AreAll, Signature, list_type, KnowsLists, plain, Names}
use Rattle.lq_meaning_steps.specs.Progress.Typing.{Table, RowHas, Has, AllHave, ArmsHave, ValueHas, ValuesHave, FitsStore, Extends}
use Rattle.lq_meaning_steps.specs.Model.Adequacy.{Steps, here, onward}
use Rattle.lq_meaning_steps.specs.Progress.Laws.{ClosingKeepsTypes, IsKept, IsKeptBySteps, GoesOn}
use Rattle.lq_meaning_steps.proofs.ProgressLemmas.Look.{looks}
use Rattle.lq_meaning_steps.proofs.ProgressLemmas.Closing.{agrees_more, agrees_none, closes}
use Rattle.lq_meaning_steps.proofs.ProgressLemmas.Growing.{extends_refl, grows, all_grow, arms_grow}
use Rattle.lq_meaning_steps.proofs.ProgressLemmas.Matching.{ArePaired, paired_agree, matches, applies}
use Rattle.lq_meaning_steps.proofs.ProgressLemmas.Acting.{Keeps, Moves, binary_moves, ternary_moves, unary_moves}

-- a value of the type, or a step that keeps it
abbrev pub Fine : Signature → Table → MlType → Option Value → Option Next → Type 0
Fine g t a (Some v) n = ValueHas g t v a
Fine g t a None n = Moves g t a n

-- the same of a row, whose parts have the types where they are values
abbrev FineRow : Signature → Table → MlType → MlTypes → Option Values → Option Next → Type 0
FineRow g t a ts (Some vs) n = ValuesHave g t vs ts
FineRow g t a ts None n = Moves g t a n

append-more : (ts us : MlTypes) (b : MlType) → both_types (both_types ts (ml.more_types b ml.no_types)) us ≡ both_types ts (ml.more_types b us)
append-more ml.no_types us b = refl
append-more (ml.more_types t ts) us b = ap (ml.more_types t) (append-more ts us b)

module _ (g : Signature) (t : Table) where
  -- parts in front of others
  all_placed_at : (es : Cores) (e : Core) (ds : Cores) (ts us : MlTypes) (b : MlType) → AllHave g t [] es ts → Has g t [] e b → AllHave g t [] ds us
      → AllHave g t [] (placed es e ds) (both_types ts (ml.more_types b us))
  all_placed_at none e ds ts us b h k m = subst (λ x. AllHave g t [] (more e ds) (both_types x (ml.more_types b us))) (sym h) (b, us, refl, k, m)
  all_placed_at (more c es) e ds ts us b h k m =
      subst (λ x. AllHave g t [] (more c (placed es e ds)) (both_types x (ml.more_types b us))) (sym h.2)
      (h.0, both_types h.1 (ml.more_types b us), refl, h.3, all_placed_at es e ds h.1 us b h.4 k m)

module _ (g : Signature) (t : Table) where
  all_with : (es : Cores) (e : Core) (ts : MlTypes) (b : MlType) → AllHave g t [] es ts → Has g t [] e b → AllHave g t [] (with_part es e) (both_types ts (ml.more_types b ml.no_types))
  all_with none e ts b h k = subst (λ x. AllHave g t [] (more e none) (both_types x (ml.more_types b ml.no_types))) (sym h) (b, ml.no_types, refl, k, refl)
  all_with (more c es) e ts b h k =
      subst (λ x. AllHave g t [] (more c (with_part es e)) (both_types x (ml.more_types b ml.no_types))) (sym h.2)
      (h.0, both_types h.1 (ml.more_types b ml.no_types), refl, h.3, all_with es e h.1 b h.4 k)

  -- ---- values of rows

  list_has : KnowsLists g → (vs : Values) (ts : MlTypes) (a : MlType) → ValuesHave g t vs ts → AreAll a ts → ValueHas g t (list_value vs) (list_type a)
  list_has k no_values ts a h m =
      (ml.no_types, refl, (record { datatype = 4; parameters = 1; fields = ml.no_types }, ml.more_types a ml.no_types, k.empty, refl, refl, refl))
  list_has k (more_values v vs) ts a h m =
      let all : AreAll a (ml.more_types h.0 h.1) = subst (λ x. AreAll a x) h.2 m in (
        ml.more_types a (ml.more_types (list_type a) ml.no_types),
        (
          a,
          ml.more_types (list_type a) ml.no_types,
          refl,
          subst (λ x. ValueHas g t v x) all.0 h.3,
          (list_type a, ml.no_types, refl, list_has k vs h.1 a h.4 all.1, refl),
        ),
        (record { datatype = 4; parameters = 1; fields = ml.more_types (ml.var 0) (ml.more_types (list_type (ml.var 0)) ml.no_types) }, ml.more_types a ml.no_types, k.filled, refl, refl, refl),
      )

  row_has : KnowsLists g → (r : Row) (vs : Values) (ts : MlTypes) (a : MlType) → ValuesHave g t vs ts → RowHas g r ts a → ValueHas g t (row_value r vs) a
  row_has k tuple vs ts a h m = (ts, h, m)
  row_has k (build c) vs ts a h m = (ts, h, m)
  row_has k list_of vs ts a h m = subst (λ x. ValueHas g t (list_value vs) x) (sym m.1) (list_has k vs ts m.0 h m.2)

  fine_row : KnowsLists g → (r : Row) (ts : MlTypes) (a : MlType) (o : Option Values) (n : Option Next) → RowHas g r ts a → FineRow g t a ts o n → Fine g t a (with_values r o) n
  fine_row k r ts a None n h m = m
  fine_row k r ts a (Some vs) n h m = row_has k r vs ts a m h

  -- ---- a part

  on_part : (f : Frame) (b a : MlType) (o : Option Value) (n : Option Next) (go : Value → Option Next) → Fine g t b o n
      → ((u : Table) (d : Core) → Extends t u → Has g u [] d b → Has g u [] (plug f d) a) → ((v : Value) → ValueHas g t v b → Moves g t a (go v))
      → Moves g t a (on_value o f n go)
  on_part f b a (Some v) n go h r k = k v h
  on_part f b a None None go h r k = absurd h
  on_part f b a None (Some (goes d w)) go h r k = (h.0, h.1, r h.0 d h.1 h.2, h.3)
  on_part f b a None (Some (faults c p)) go h r k = tt
  on_part f b a None (Some (ends p)) go h r k = tt

  part_of_row : (f : Frame) (b a : MlType) (ts : MlTypes) (o : Option Value) (n : Option Next) (os : Option Values) (go : Option Next) → Fine g t b o n
      → ((u : Table) (d : Core) → Extends t u → Has g u [] d b → Has g u [] (plug f d) a) → FineRow g t a ts os go
      → FineRow g t a (ml.more_types b ts) (both_values o os) (on_value o f n (λ v. go))
  part_of_row f b a ts (Some v) n (Some vs) go h r k = (b, ts, refl, h, k)
  part_of_row f b a ts (Some v) n None go h r k = k
  part_of_row f b a ts None n os go h r k = waiting n h
    where
      waiting : (m : Option Next) → Moves g t b m → Moves g t a (on_value None f m (λ v. go))
      waiting None j = absurd j
      waiting (Some (goes d w)) j = (j.0, j.1, r j.0 d j.1 j.2, j.3)
      waiting (Some (faults c p)) j = tt
      waiting (Some (ends p)) j = tt

  flagged : (v : Value) (a : MlType) (go : Bool → Option Next) → ValueHas g t v ml.bool → ((b : Bool) → Moves g t a (go b)) → Moves g t a (on_flag v go)
  flagged v a go h k = let l = looks g t v ml.bool h in subst (λ x. Moves g t a (on_flag x go)) (sym l.1) (k l.0)

  stays : (e : Core) (a : MlType) (w : World) → Has g t [] e a → FitsStore g t w.arrays → Moves g t a (Some (goes e w))
  stays e a w h s = (t, extends_refl t, h, s)

  one_of : (b : Bool) (d e : Core) (a : MlType) → Has g t [] d a → Has g t [] e a → Has g t [] (if b then d else e) a
  one_of true d e a h k = h
  one_of false d e a h k = k

  -- ---- calls and matches

  arrow_parts : (v : Value) (from to a b : MlType) → ml.arrow a b ≡ ml.arrow from to → ValueHas g t v a → ValueHas g t v from
  arrow_parts v from to a b e h = let same : a ≡ from = cc in subst (λ x. ValueHas g t v x) same h

  result_is : (e : Core) (from to a b : MlType) → ml.arrow a b ≡ ml.arrow from to → Has g t [] e to → Has g t [] e b
  result_is e from to a b k h = let same : to ≡ b = cc in subst (λ x. Has g t [] e x) same h

  called : (f v : Value) (a b : MlType) (w : World) → ValueHas g t f (ml.arrow a b) → ValueHas g t v a → FitsStore g t w.arrays → Moves g t b (goes_to w (body_of f v))
  called (v_fun q e) v a b w h k s =
      stays (applied [] q e v) b w
      (result_is (applied [] q e v) h.0 h.1 a b h.3 (applies g t q e v [] [] h.2 h.0 h.1 h.4 h.5 (arrow_parts v h.0 h.1 a b h.3 k) (agrees_none g t []))) s
  called (v_rec f q e) v a b w h k s =
      stays (applied ((f, v_rec f q e) ∷ []) q e v) b w
      (result_is (applied ((f, v_rec f q e) ∷ []) q e v) h.0 h.1 a b h.3
      (applies g t q e v ((f, v_rec f q e) ∷ []) ((f, plain (ml.arrow h.0 h.1)) ∷ []) h.2 h.0 h.1 h.4 h.5 (arrow_parts v h.0 h.1 a b h.3 k)
      (agrees_more g t f (v_rec f q e) (plain (ml.arrow h.0 h.1)) [] [] []
      (λ c i. subst (λ x. ValueHas g t (v_rec f q e) x) (sym i) (h.0, h.1, h.2, refl, h.4, h.5)) (agrees_none g t [])))) s
  called (v_whole n) v a b w h k s = absurd (cc h)
  called (v_flag n) v a b w h k s = absurd (cc h)
  called v_unit v a b w h k s = absurd (cc h)
  called (v_tuple vs) v a b w h k s = absurd (cc h.2)
  called (v_build c vs) v a b w h k s = absurd (cc h.2.3)
  called (v_array r n) v a b w h k s = absurd (cc h.1)

  later_arm : (o : Option Pairs) (e : Core) (w : World) (ms : Names) (a : MlType) (n : Next) → ((ps : Pairs) → o ≡ Some ps → ArePaired g t ps ms) → Has g t (ms ++ []) e a
      → FitsStore g t w.arrays → Keeps g t a n → Keeps g t a (or_later o e w n)
  later_arm None e w ms a n h k s m = m
  later_arm (Some ps) e w ms a n h k s m = (t, extends_refl t, closes g t e ps (ms ++ []) [] a (paired_agree g t ps ms [] (h ps refl)) k, s)

  arm_taken : (cs : Arms) (p : Place) (v : Value) (w : World) (b a : MlType) → ArmsHave g t [] cs b a → ValueHas g t v b → FitsStore g t w.arrays → Keeps g t a (first_arm p cs v w)
  arm_taken no_arms p v w b a h k s = tt
  arm_taken (more_arms q e cs) p v w b a h k s =
      later_arm (fits q v) e w h.0 a (first_arm p cs v w) (λ ps m. matches g t q v b h.0 ps h.1 k m) h.2 s (arm_taken cs p v w b a h.3 k s)

  -- ---- the forms

  module _ (lists : KnowsLists g) (w : World) (s : FitsStore g t w.arrays) where
    mutual
      pub fine : (e : Core) (a : MlType) → Has g t [] e a → Fine g t a (as_value e) (step e w)
      fine (val v) a h = h
      fine (use_of x) a h = absurd h
      fine (fun q b) a h = h
      fine (row r es) a h = fine_row lists r h.0 a (as_values es) (step_row r none es w) h.2 (fine_parts es r none ml.no_types h.0 a refl h.1 h.2)
      fine (let_in q e b) a h =
          on_part (in_let q b) h.0 a (as_value e) (step e w) (λ v. Some (goes (applied [] q b v) w)) (fine e h.0 h.2)
          (λ u d k m. (h.0, h.1, m, h.3, grows g t u k b (h.1 ++ []) a h.4))
          (λ v m. stays (applied [] q b v) a w (applies g t q b v [] [] h.1 h.0 a h.3 h.4 m (agrees_none g t [])) s)
      fine (let_rec f q b e) a h =
          stays _ a w
          (closes g t e ((f, v_rec f q b) ∷ []) ((f, plain (ml.arrow h.0 h.1)) ∷ []) [] a
          (agrees_more g t f (v_rec f q b) (plain (ml.arrow h.0 h.1)) [] [] []
          (λ c i. subst (λ x. ValueHas g t (v_rec f q b) x) (sym i) (h.0, h.1, h.2, refl, h.3, h.4)) (agrees_none g t [])) h.5) s
      fine (call f e) a h =
          on_part (in_function e) (ml.arrow h.0 a) a (as_value f) (step f w) (λ x. on_value (as_value e) (in_argument f) (step e w) (λ v. goes_to w (body_of x v))) (fine f (ml.arrow h.0 a) h.1)
          (λ u d k m. (h.0, m, grows g t u k e [] h.0 h.2))
          (λ x j. on_part (in_argument f) h.0 a (as_value e) (step e w) (λ v. goes_to w (body_of x v)) (fine e h.0 h.2)
          (λ u d k m. (h.0, grows g t u k f [] (ml.arrow h.0 a) h.1, m)) (λ v m. called x v h.0 a w j m s))
      fine (one o e) a h =
          on_part (in_one o) h.0 a (as_value e) (step e w) (λ v. acted (unary_act o v w)) (fine e h.0 h.1) (λ u d k m. (h.0, m, h.2))
          (λ v m. unary_moves g t o v h.0 a w h.2 m s)
      fine (two o d e) a h =
          on_part (in_left o e) h.0 a (as_value d) (step d w) (λ x. on_value (as_value e) (in_right o d) (step e w) (λ y. acted (binary_act o x y w))) (fine d h.0 h.2)
          (λ u c k m. (h.0, h.1, m, grows g t u k e [] h.1 h.3, h.4))
          (λ x j. on_part (in_right o d) h.1 a (as_value e) (step e w) (λ y. acted (binary_act o x y w)) (fine e h.1 h.3)
          (λ u c k m. (h.0, h.1, grows g t u k d [] h.0 h.2, m, h.4)) (λ y m. binary_moves g t o x y h.0 h.1 a w h.4 j m s))
      fine (three o b d e) a h =
          on_part (in_start o d e) h.0 a (as_value b) (step b w)
          (λ x. on_value (as_value d) (in_middle o b e) (step d w) (λ y. on_value (as_value e) (in_end o b d) (step e w) (λ z. acted (ternary_act o x y z w)))) (fine b h.0 h.3)
          (λ u c k m. (h.0, h.1, h.2, m, grows g t u k d [] h.1 h.4, grows g t u k e [] h.2 h.5, h.6))
          (λ x j. on_part (in_middle o b e) h.1 a (as_value d) (step d w) (λ y. on_value (as_value e) (in_end o b d) (step e w) (λ z. acted (ternary_act o x y z w))) (fine d h.1 h.4)
          (λ u c k m. (h.0, h.1, h.2, grows g t u k b [] h.0 h.3, m, grows g t u k e [] h.2 h.5, h.6))
          (λ y l. on_part (in_end o b d) h.2 a (as_value e) (step e w) (λ z. acted (ternary_act o x y z w)) (fine e h.2 h.5)
          (λ u c k m. (h.0, h.1, h.2, grows g t u k b [] h.0 h.3, grows g t u k d [] h.1 h.4, m, h.6))
          (λ z m. ternary_moves g t o x y z h.0 h.1 h.2 a w h.6 j l m s)))
      fine (and_of d e) a h =
          on_part (in_and e) ml.bool a (as_value d) (step d w) (λ v. on_flag v (λ b. Some (goes (if b then e else val (v_flag false)) w))) (fine d ml.bool h.0)
          (λ u c k m. (m, grows g t u k e [] ml.bool h.1, h.2))
          (λ v m. flagged v a (λ b. Some (goes (if b then e else val (v_flag false)) w)) m
          (λ b. stays (if b then e else val (v_flag false)) a w (one_of b e (val (v_flag false)) a (subst (λ x. Has g t [] e x) (sym h.2) h.1) h.2) s))
      fine (or_of d e) a h =
          on_part (in_or e) ml.bool a (as_value d) (step d w) (λ v. on_flag v (λ b. Some (goes (if b then val (v_flag true) else e) w))) (fine d ml.bool h.0)
          (λ u c k m. (m, grows g t u k e [] ml.bool h.1, h.2))
          (λ v m. flagged v a (λ b. Some (goes (if b then val (v_flag true) else e) w)) m
          (λ b. stays (if b then val (v_flag true) else e) a w (one_of b (val (v_flag true)) e a h.2 (subst (λ x. Has g t [] e x) (sym h.2) h.1)) s))
      fine (if_else c d e) a h =
          on_part (in_condition d e) ml.bool a (as_value c) (step c w) (λ v. on_flag v (λ b. Some (goes (if b then d else e) w))) (fine c ml.bool h.0)
          (λ u x k m. (m, grows g t u k d [] a h.1, grows g t u k e [] a h.2))
          (λ v m. flagged v a (λ b. Some (goes (if b then d else e) w)) m (λ b. stays (if b then d else e) a w (one_of b d e a h.1 h.2) s))
      fine (match_on p e cs) a h =
          on_part (in_scrutinee p cs) h.0 a (as_value e) (step e w) (λ v. Some (first_arm p cs v w)) (fine e h.0 h.1)
          (λ u d k m. (h.0, m, arms_grow g t u k cs [] h.0 a h.2)) (λ v m. arm_taken cs p v w h.0 a h.2 m s)
      fine (seq d e) a h =
          on_part (in_first e) h.0 a (as_value d) (step d w) (λ v. Some (goes e w)) (fine d h.0 h.1) (λ u c k m. (h.0, m, grows g t u k e [] a h.2)) (λ v m. stays e a w h.2 s)
      fine (assert_false p) a h = tt

      fine_parts : (es : Cores) (r : Row) (before : Cores) (ts us : MlTypes) (a : MlType) → AllHave g t [] before ts → AllHave g t [] es us → RowHas g r (both_types ts us) a
          → FineRow g t a us (as_values es) (step_row r before es w)
      fine_parts none r before ts us a h k m = k
      fine_parts (more e es) r before ts us a h k m =
          let n : RowHas g r (both_types ts (ml.more_types k.0 k.1)) a = subst (λ x. RowHas g r (both_types ts x) a) k.2 m in
          subst (λ x. FineRow g t a x (as_values (more e es)) (step_row r before (more e es) w)) (sym k.2)
          (part_of_row (in_row r before es) k.0 a k.1 (as_value e) (step e w) (as_values es) (step_row r (with_part before e) es w) (fine e k.0 k.3)
          (λ u d j l. (both_types ts (ml.more_types k.0 k.1), all_placed_at g u before d es ts k.1 k.0 (all_grow g t u j before [] ts h) l (all_grow g t u j es [] k.1 k.4), n))
          (fine_parts es r (with_part before e) (both_types ts (ml.more_types k.0 ml.no_types)) k.1 a (all_with before e ts k.0 h k.3) k.4
          (subst (λ x. RowHas g r x a) (sym (append-more ts k.1 k.0)) n)))

-- ---- the laws

pub closing_keeps : ClosingKeepsTypes
closing_keeps g t ps ns ms e a k h = closes g t e ps ns ms a k h

kept_by : (g : Signature) (t : Table) (a : MlType) (o : Option Value) (n : Option Next) (d : Core) (u : World) → (o ≡ None) → Fine g t a o n → n ≡ Some (goes d u) → Keeps g t a (goes d u)
kept_by g t a (Some v) n d u e h k = cc
kept_by g t a None None d u e h k = cc
kept_by g t a None (Some m) d u e h k = let same : m ≡ goes d u = cc in subst (λ x. Keeps g t a x) same h

-- what has a step is no value
step_waits : ValuesRest → (e : Core) (w : World) (n : Next) → step e w ≡ Some n → as_value e ≡ None
step_waits rest e w n h = by (as_value e) refl
  where
    by : (o : Option Value) → as_value e ≡ o → o ≡ None
    by None k = refl
    by (Some v) k = cc (rest e w v k, h)

pub kept : ValuesRest → IsStepFunction → IsKept
kept rest function g t e d w u a l h s k =
    let e_steps = (function e w (goes d u)).0 k in kept_by g t a (as_value e) (step e w) d u (step_waits rest e w (goes d u) e_steps) (fine g t l w s e a h) e_steps

pub goes_on : IsStepFunction → GoesOn
goes_on function g t e w a l h s = by (as_value e) (step e w) refl refl (fine g t l w s e a h)
  where
    by : (o : Option Value) (n : Option Next) → as_value e ≡ o → step e w ≡ n → Fine g t a o n
        → ((v : Value) × (as_value e ≡ Some v) × ValueHas g t v a) ⊎ ((n : Next) × Step e w n)
    by (Some v) n h k f = inl (v, h, f)
    by None None h k f = absurd f
    by None (Some m) h k f = inr (m, (function e w m).1 k)

many_kept : IsKept → (g : Signature) (l : KnowsLists g) (k : ℕ) (e d : Core) (w u : World) → Steps k e w d u → (t : Table) (a : MlType) → Has g t [] e a → FitsStore g t w.arrays
    → (later : Table) × Extends t later × Has g later [] d a × FitsStore g later u.arrays
many_kept step_kept g l _ _ _ _ _ (here e w) t a h s = (t, extends_refl t, h, s)
many_kept step_kept g l _ _ _ _ _ (onward k e d c w u v first rest) t a h s =
    let one = step_kept g t e d w u a l h s first in
    let more = many_kept step_kept g l k d c u v rest one.0 a one.2 one.3 in
    (more.0, (λ r b i. more.1 r b (one.1 r b i)), more.2, more.3)

pub kept_by_steps : IsKept → IsKeptBySteps
kept_by_steps step_kept g t k e d w u a l h s steps = many_kept step_kept g l k e d w u steps t a h s
