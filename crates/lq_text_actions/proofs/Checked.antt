-- Each alternative of a part takes and gives what the part does: the tables are checked once, by computing.
use Rattle.std.specs.Prelude.{if◌then◌else◌, map, min}
use Rattle.std.specs.List.{list_any, list_all}
use Rattle.std.proofs.Common.{◌≡◌, ℕ, suc, zero, ◌+◌, ◌≤◌, refl, ◌∙◌, Bool, true, false, ◌&&◌, Option, Some, None, List, [], ◌∷◌, ◌++◌, arith}
use Rattle.std.proofs.Math.Dec.{leb}
use Rattle.std.proofs.lemmas.Bool.{eqb-true, leb-true}
use Rattle.lq_text_grammar.specs.declared.kind.Kind.{Kind}
use Rattle.lq_text_grammar.specs.declared.rule.Rule.{Rule}
use Rattle.lq_text_grammar.specs.declared.rule.Rule.TheVariants.{InProgram, InType, InBinding, InExpression, InPattern, InEntry, InPred}
use Rattle.lq_text_grammar.specs.declared.rule.ProgramPart.TheVariants.{Program}
use Rattle.lq_text_grammar.specs.declared.rule.TypePart.TheVariants.{WholeType}
use Rattle.lq_text_grammar.specs.declared.rule.BindingPart.TheVariants.{RecBind}
use Rattle.lq_text_grammar.specs.declared.rule.ExpressionPart.TheVariants.{Seq}
use Rattle.lq_text_grammar.specs.declared.rule.PatternPart.TheVariants.{Pattern}
use Rattle.lq_text_grammar.specs.declared.rule.EntryPart.TheVariants.{Quals}
use Rattle.lq_text_grammar.specs.declared.rule.PredPart.TheVariants.{Predicate}
use Rattle.lq_text_grammar.specs.declared.symbol.Symbol.{Symbol}
use Rattle.lq_text_grammar.specs.declared.symbol.Symbol.TheVariants.{Part}
use Rattle.lq_text_grammar.specs.Grammar.{Alternative, begins, before, otherwise, alternatives}
use Rattle.lq_text_grammar.specs.Kinds as kinds
use Rattle.lq_text_grammar.specs.Kinds.{same_kind}
use Rattle.lq_text_grammar.specs.Levels.{takes, passes, way, depth}
use Rattle.lq_text_actions.proofs.Sorts.{Sort, same_sort, same_sort-eq, Step, beside, below, Signature}
use Rattle.lq_text_actions.proofs.Signatures.{signature}
use Rattle.lq_text_actions.proofs.Flows.{Slot, slot, Last, unknown, last_of, paid, Pulled, lacks, pulled, pull, put, put_pulled, all_needs, part_use, Flow, stuck, ends, flow, Above, FlowsAbove, goes_on-ends, flow-above, flow-append, vaguer-same}

-- A part is checked where it is to give values of the level 1: one level is open around it if it gives values of a level less, or else none.
abbrev base : Step → ℕ
base beside = 0
base below = 1

abbrev fresh : Step → List Sort → List Slot
fresh c = map (λ j. slot j (suc (base c)))

abbrev is_above : List Slot → List Slot → Bool
is_above [] [] = true
is_above (slot i e ∷ s) (slot j f ∷ t) = same_sort i j && (leb e f && is_above s t)
is_above _ _ = false

abbrev ends_above : List Slot → Flow → Bool
ends_above s stuck = false
ends_above s (ends l t) = is_above s t

abbrev body_well : Option Signature → Last → List Symbol → Bool
body_well None l b = true
body_well (Some g) l b = ends_above (put g.gives 1 []) (flow (base g.step) b l (fresh g.step g.needs))

abbrev alternative_well : Option Signature → Alternative → Bool
alternative_well g (begins k b) = body_well g (last_of k) b
alternative_well g (before ks b) = body_well g unknown b
alternative_well g (otherwise b) = body_well g unknown b

checked : (x : Rule) → list_all (alternative_well (signature x)) (alternatives x) ≡ true
checked (InProgram Program) = refl
checked (InProgram _) = refl
checked (InType WholeType) = refl
checked (InType _) = refl
checked (InBinding RecBind) = refl
checked (InBinding _) = refl
checked (InExpression Seq) = refl
checked (InExpression _) = refl
checked (InPattern Pattern) = refl
checked (InPattern _) = refl
checked (InEntry Quals) = refl
checked (InEntry _) = refl
checked (InPred Predicate) = refl
checked (InPred _) = refl

both : (a b : Bool) → (a && b) ≡ true → (a ≡ true) × (b ≡ true)
both true true e = (refl, refl)
both true false e = absurd cc
both false b e = absurd cc

last_of-same : (j k : Kind) → same_kind j k ≡ true → last_of j ≡ last_of k
last_of-same j k e = let same : kinds.code j ≡ kinds.code k = eqb-true (kinds.code j) (kinds.code k) e in rw same refl

-- the alternative that the next token chooses
module _ (g : Option Signature) where
  take_well : (k : Kind) (alts : List Alternative) (b : List Symbol) → way (Some k) alts ≡ takes b → list_all (alternative_well g) alts ≡ true → body_well g (last_of k) b ≡ true
  take_well k [] b e h = absurd cc
  take_well k (otherwise c ∷ alts) b e h = absurd cc
  take_well k (begins j c ∷ alts) b e h = go (same_kind j k) refl e (take_well k alts b)
    where
      p : (body_well g (last_of j) c ≡ true) × (list_all (alternative_well g) alts ≡ true)
      p = both (body_well g (last_of j) c) (list_all (alternative_well g) alts) h

      go : (t : Bool) → same_kind j k ≡ t → (if t then takes c else way (Some k) alts) ≡ takes b → (way (Some k) alts ≡ takes b → list_all (alternative_well g) alts ≡ true → body_well g (last_of k) b ≡ true) → body_well g (last_of k) b ≡ true
      go true is w again = let same : c ≡ b = cc in rw (← last_of-same j k is, ← same) p.0
      go false is w again = again w p.1
  take_well k (before js c ∷ alts) b e h = go (list_any (λ j. same_kind j k) js) e (take_well k alts b)
    where
      p : (body_well g unknown c ≡ true) × (list_all (alternative_well g) alts ≡ true)
      p = both (body_well g unknown c) (list_all (alternative_well g) alts) h

      go : (t : Bool) → (if t then passes c else way (Some k) alts) ≡ takes b → (way (Some k) alts ≡ takes b → list_all (alternative_well g) alts ≡ true → body_well g (last_of k) b ≡ true) → body_well g (last_of k) b ≡ true
      go true w again = absurd cc
      go false w again = again w p.1

  pass_well : (n : Option Kind) (alts : List Alternative) (b : List Symbol) → way n alts ≡ passes b → list_all (alternative_well g) alts ≡ true → body_well g unknown b ≡ true
  pass_well n [] b e h = absurd cc
  pass_well n (otherwise c ∷ alts) b e h = let same : c ≡ b = cc in rw (← same) ((both (body_well g unknown c) (list_all (alternative_well g) alts) h).0)
  pass_well None (begins j c ∷ alts) b e h = pass_well None alts b e ((both (body_well g (last_of j) c) (list_all (alternative_well g) alts) h).1)
  pass_well None (before js c ∷ alts) b e h = pass_well None alts b e ((both (body_well g unknown c) (list_all (alternative_well g) alts) h).1)
  pass_well (Some k) (begins j c ∷ alts) b e h = go (same_kind j k) e (pass_well (Some k) alts b)
    where
      p : (body_well g (last_of j) c ≡ true) × (list_all (alternative_well g) alts ≡ true)
      p = both (body_well g (last_of j) c) (list_all (alternative_well g) alts) h

      go : (t : Bool) → (if t then takes c else way (Some k) alts) ≡ passes b → (way (Some k) alts ≡ passes b → list_all (alternative_well g) alts ≡ true → body_well g unknown b ≡ true) → body_well g unknown b ≡ true
      go true w again = absurd cc
      go false w again = again w p.1
  pass_well (Some k) (before js c ∷ alts) b e h = go (list_any (λ j. same_kind j k) js) e (pass_well (Some k) alts b)
    where
      p : (body_well g unknown c ≡ true) × (list_all (alternative_well g) alts ≡ true)
      p = both (body_well g unknown c) (list_all (alternative_well g) alts) h

      go : (t : Bool) → (if t then passes c else way (Some k) alts) ≡ passes b → (way (Some k) alts ≡ passes b → list_all (alternative_well g) alts ≡ true → body_well g unknown b ≡ true) → body_well g unknown b ≡ true
      go true w again = let same : c ≡ b = cc in rw (← same) p.0
      go false w again = again w p.1

pub takes_well : (x : Rule) (k : Kind) (b : List Symbol) → way (Some k) (alternatives x) ≡ takes b → body_well (signature x) (last_of k) b ≡ true
takes_well x k b e = take_well (signature x) k (alternatives x) b e (checked x)

pub passes_well : (x : Rule) (n : Option Kind) (b : List Symbol) → way n (alternatives x) ≡ passes b → body_well (signature x) unknown b ≡ true
passes_well x n b e = pass_well (signature x) n (alternatives x) b e (checked x)

is_above-holds : (s t : List Slot) → is_above s t ≡ true → Above 0 [] s t
is_above-holds [] [] e = refl
is_above-holds [] (slot j b ∷ t) e = absurd cc
is_above-holds (slot i a ∷ s) [] e = absurd cc
is_above-holds (slot i a ∷ s) (slot j b ∷ t) e =
    let p = both (same_sort i j) (leb a b && is_above s t) e in
    let q = both (leb a b) (is_above s t) p.1 in
    (same_sort-eq i j p.0, omega (arith, leb-true a b q.0), is_above-holds s t q.1)

lifted-slot : (c : Step) (m e : ℕ) → suc m ≤ paid c e → suc (base c) + m ≤ suc e
lifted-slot beside m e h = omega arith
lifted-slot below m e h = omega arith

lifted-depth : (c : Step) (m d : ℕ) → suc m ≤ paid c d → base c + m ≤ d
lifted-depth beside m d h = omega arith
lifted-depth below m d h = omega arith

below_min : (m a b : ℕ) → m ≤ min a b → (m ≤ a) × (m ≤ b)
below_min m a b h = (omega arith, omega arith)

abbrev Entered : Step → List Sort → ℕ → List Slot → ℕ → List Slot → Type 0
Entered c js m0 s m r = (suc m ≤ m0) × Above m r (fresh c js) s

-- what is pulled for a part stands above what its check began with
entered : (c : Step) (js : List Sort) (m0 : ℕ) (s : List Slot) (m : ℕ) (r : List Slot) → pull (all_needs c js) m0 s ≡ pulled (suc m) r → Entered c js m0 s m r
entered c [] m0 s m r q =
    let at : m0 ≡ suc m = cc in
    let is : s ≡ r = cc in
    (rw (← at) (omega arith), is)
entered c (j ∷ js) m0 [] m r q = absurd cc
entered c (j ∷ js) m0 (slot i zero ∷ s) m r q = absurd cc
entered c (j ∷ js) m0 (slot i (suc e) ∷ s) m r q = go (same_sort j i) refl q (entered c js (min m0 (paid c e)) s m r)
  where
    go : (b : Bool) → same_sort j i ≡ b → (if b then pull (all_needs c js) (min m0 (paid c e)) s else lacks) ≡ pulled (suc m) r → (pull (all_needs c js) (min m0 (paid c e)) s ≡ pulled (suc m) r → Entered c js (min m0 (paid c e)) s m r) → Entered c (j ∷ js) m0 (slot i (suc e) ∷ s) m r
    go true is w again =
        let a = again w in
        let l = below_min (suc m) m0 (paid c e) a.0 in
        (l.0, (same_sort-eq j i is, lifted-slot c m e l.1, a.1))
    go false is w again = absurd cc

above-refl : (s : List Slot) → Above 0 [] s s
above-refl [] = refl
above-refl (slot i e ∷ s) = (refl, omega arith, above-refl s)

put-lifted : (gs : List Sort) (e m k : ℕ) (t0 t r : List Slot) → m ≤ e + k → Above 0 [] (put gs e []) t0 → Above k r t0 t → Above 0 [] (put gs m r) t
put-lifted [] e m k [] t r small h g = rw g (above-refl r)
put-lifted [] e m k (slot a x ∷ t0) t r small h g = absurd cc
put-lifted (j ∷ gs) e m k [] t r small h g = absurd h
put-lifted (j ∷ gs) e m k (x ∷ t0) [] r small h g = absurd g
put-lifted (j ∷ gs) e m k (slot a x ∷ t0) (slot b y ∷ t) r small (same, up, h) (same', up', g) = (same ∙ same', omega arith, put-lifted gs e m k t0 t r small h g)

-- the body of a part gives no less than the part
body-flows : (g : Option Signature) (d : ℕ) (l : Last) (b : List Symbol) (s u : List Slot) → body_well g l b ≡ true → part_use g d s ≡ Some u → FlowsAbove 0 [] unknown u (flow d b l s)
body-flows None d l b s u well q = absurd cc
body-flows (Some g) d l b s u well q = go (pull (all_needs g.step g.needs) (paid g.step d) s) refl q (flow (base g.step) b l (fresh g.step g.needs)) refl well
  where
    go : (p : Pulled) → pull (all_needs g.step g.needs) (paid g.step d) s ≡ p → put_pulled g.gives p ≡ Some u → (w : Flow) → flow (base g.step) b l (fresh g.step g.needs) ≡ w → ends_above (put g.gives 1 []) w ≡ true → FlowsAbove 0 [] unknown u (flow d b l s)
    go lacks at is w ran fine = absurd cc
    go (pulled zero r) at is w ran fine = absurd cc
    go (pulled (suc m) r) at is stuck ran fine = absurd cc
    go (pulled (suc m) r) at is (ends l0 t0) ran fine =
        let same : put g.gives (suc m) r ≡ u = cc in
        let n = entered g.step g.needs (paid g.step d) s m r at in
        let f = flow-above b (base g.step) d m l l (fresh g.step g.needs) s r l0 t0 (lifted-depth g.step m d n.0) (vaguer-same l) n.1 ran in
        let all : Above 0 [] (put g.gives (suc m) r) f.1 = put-lifted g.gives 1 (suc m) m t0 f.1 r (omega arith) (is_above-holds (put g.gives 1 []) t0 fine) f.4 in
        (f.0, f.1, f.2, tt, rw (← same) all)

-- in place of a part stands its body
pub part-flows : (x : Rule) (b ss : List Symbol) (l l' : Last) (s : List Slot) (m : Last) (t : List Slot) → body_well (signature x) l' b ≡ true → flow 0 (Part x ∷ ss) l s ≡ ends m t → FlowsAbove 0 [] m t (flow 0 (b ++ ss) l' s)
part-flows x b ss l l' s m t well q =
    let p = goes_on-ends (part_use (signature x) (depth ss + 0) s) (flow 0 ss unknown) m t q in
    let f = body-flows (signature x) (depth ss + 0) l' b s p.0 well p.1 in
    let a = flow-above ss 0 0 0 unknown f.0 p.0 f.1 [] m t (omega arith) f.3 f.4 p.2 in
    rw (flow-append b ss 0 l' s f.0 f.1 f.2) a
