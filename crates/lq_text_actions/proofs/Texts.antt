-- A reading whose levels are within a limit makes one value, which nests no deeper.
use Rattle.std.proofs.Common.{◌≡◌, ℕ, suc, ◌+◌, ◌*◌, ◌≤◌, refl, sym, ◌∙◌, Option, Some, None, List, [], ◌∷◌, ◌++◌, arith, length}
use Rattle.lq_text_grammar.specs.Grammar.{alternatives}
use Rattle.lq_text_grammar.specs.Levels.{takes, passes, way, depth, Within, over, word, takes_one, passes_on, makes, leaves}
use Rattle.lq_text_grammar.specs.Reading.{next}
use Rattle.lq_text_grammar.specs.declared.kind.Kind.{Kind}
use Rattle.lq_text_grammar.specs.declared.rule.Rule.{Rule}
use Rattle.lq_text_grammar.specs.declared.symbol.Action.{Action}
use Rattle.lq_text_grammar.specs.declared.symbol.Event.{Event}
use Rattle.lq_text_grammar.specs.declared.symbol.Event.TheVariants as event
use Rattle.lq_text_grammar.specs.declared.symbol.Symbol.{Symbol}
use Rattle.lq_text_grammar.specs.declared.symbol.Symbol.TheVariants.{Part, Make}
use Rattle.lq_text_actions.specs.Made.{made}
use Rattle.lq_text_actions.specs.Trees.{run, nowhere, nothing_made, FitKinds}
use Rattle.lq_text_actions.specs.Value.{Lexeme, Value}
use Rattle.lq_text_actions.proofs.Sorts.{Sort, sort_of, beside}
use Rattle.lq_text_actions.proofs.Signatures.{action_signature}
use Rattle.lq_text_actions.proofs.Flows.{Slot, slot, Last, unknown, last_of, follows, use_of, ends, goes_on, flow, Above, goes_on-ends, if-ends}
use Rattle.lq_text_actions.proofs.Checked.{takes_well, passes_well, part-flows}
use Rattle.lq_text_actions.proofs.Nesting.{value_nesting}
use Rattle.lq_text_actions.proofs.Runs.{Fit, FitsLast, Knows, knows-any, knows-less, fits-last, acts}

-- lower levels fit as well
fit-lower : (limit : ℕ) (s t : List Slot) (vs : List Value) → Above 0 [] s t → Fit limit t vs → Fit limit s vs
fit-lower limit [] t vs a f = let is : t ≡ [] = a in rw is at f
fit-lower limit (slot i e ∷ s) [] vs a f = absurd a
fit-lower limit (slot i e ∷ s) (slot j g ∷ t) [] a f = absurd cc
fit-lower limit (slot i e ∷ s) (slot j g ∷ t) (v ∷ vs) a f = (f.0 ∙ sym a.0, lower (value_nesting v) e g limit a.1 f.1, fit-lower limit s t vs a.2 f.2)
  where
    lower : (n x y m : ℕ) → x + 0 ≤ y → n + y ≤ suc m → n + x ≤ suc m
    lower n x y m h k = omega arith

above-trans : (s t u : List Slot) → Above 0 [] s t → Above 0 [] t u → Above 0 [] s u
above-trans [] t u a b = let is : t ≡ [] = a in rw is at b
above-trans (slot i e ∷ s) [] u a b = absurd a
above-trans (slot i e ∷ s) (slot j f ∷ t) [] a b = absurd b
above-trans (slot i e ∷ s) (slot j f ∷ t) (slot k g ∷ u) a b = (a.0 ∙ b.0, up e f g a.1 b.1, above-trans s t u a.2 b.2)
  where
    up : (x y z : ℕ) → x + 0 ≤ y → y + 0 ≤ z → x + 0 ≤ z
    up x y z h k = omega arith

-- the steps are done, and what they leave is at least this
abbrev Ended : ℕ → List Slot → List Event → List Lexeme → Lexeme → ℕ → List Value → Type 0
Ended limit goal es ls last n vs = (m : ℕ) × (ws : List Value) × (run es ls last (record { made = n; values = vs }) ≡ Some (record { made = m; values = ws })) × (m ≤ n + 2 * length es) × Fit limit goal ws

taken : (limit : ℕ) (goal : List Slot) (es : List Event) (ls : List Lexeme) (x last : Lexeme) (n : ℕ) (vs : List Value) → Ended limit goal es ls x n vs → Ended limit goal (event.Take ∷ es) (x ∷ ls) last n vs
taken limit goal es ls x last n vs r = (r.0, r.1, r.2, omega (arith, r.3), r.4)

acted : (limit : ℕ) (goal : List Slot) (a : Action) (es : List Event) (ls : List Lexeme) (last : Lexeme) (n m : ℕ) (vs ws : List Value) → made a last (record { made = n; values = vs }) ≡ Some (record { made = m; values = ws }) → m ≤ n + 2 → Ended limit goal es ls last m ws → Ended limit goal (event.Make a ∷ es) ls last n vs
acted limit goal a es ls last n m vs ws done few r = (r.0, r.1, rw done r.2, omega (arith, r.3), r.4)

runs : {limit : ℕ} {ss : List Symbol} {ks : List Kind} {es : List Event} → Within limit ss ks es → (ls : List Lexeme) (last : Lexeme) (n : ℕ) (vs : List Value) (l : Last) (s goal : List Slot) (e : Last) (t : List Slot)
    → FitKinds ks ls → FitsLast l last → Knows limit (depth ss) l → Fit limit s vs → flow 0 ss l s ≡ ends e t → Above 0 [] goal t → Ended limit goal es ls last n vs
runs {limit} over ls last n vs l s goal e t kinds fits knows f q up =
    let is : s ≡ t = cc in
    (n, vs, refl, omega arith, fit-lower limit goal s vs (rw is up) f)
runs {limit} (word k small d) [] last n vs l s goal e t kinds fits knows f q up = absurd kinds
runs {limit} (word {ss = ss} {es = es} k small d) (x ∷ ls) last n vs l s goal e t kinds fits knows f q up =
    taken limit goal es ls x last n vs (runs d ls x n vs (last_of k) s goal e t kinds.1 (fits-last k x kinds.0) (knows-any limit (depth ss) (last_of k) small) f q up)
runs {limit} (takes_one b w small d) [] last n vs l s goal e t kinds fits knows f q up = absurd kinds
runs {limit} (takes_one {x = p} {ss = ss} {k = k} {es = es} b w small d) (x ∷ ls) last n vs l s goal e t kinds fits knows f q up =
    let r = part-flows p b ss l (last_of k) s e t (takes_well p k b w) q in
    taken limit goal es ls x last n vs (runs d ls x n vs (last_of k) s goal r.0 r.1 kinds.1 (fits-last k x kinds.0) (knows-any limit (depth (b ++ ss)) (last_of k) small) f r.2 (above-trans goal t r.1 up r.4))
runs {limit} {ks = ks} (passes_on {x = p} {ss = ss} b w d) ls last n vs l s goal e t kinds fits knows f q up =
    let r = part-flows p b ss l unknown s e t (passes_well p (next ks None) b w) q in
    runs d ls last n vs unknown s goal r.0 r.1 kinds tt tt f r.2 (above-trans goal t r.1 up r.4)
runs {limit} (makes {a = a} {ss = ss} {es = es} d) ls last n vs l s goal e t kinds fits knows f q up =
    let c = if-ends (follows (action_signature a).after l) (goes_on (use_of beside (action_signature a).needs ((action_signature a).gives ∷ []) (depth ss + 0) s) (flow 0 ss l)) e t q in
    let p = goes_on-ends (use_of beside (action_signature a).needs ((action_signature a).gives ∷ []) (depth ss + 0) s) (flow 0 ss l) e t c.1 in
    let w = acts a last l limit (depth ss + 0) n s p.0 vs c.0 fits (knows-less limit (depth ss + 0) (depth ss) l (omega arith) knows) f p.1 in
    acted limit goal a es ls last n w.0 vs w.1 w.2 w.3 (runs d ls last w.0 w.1 l p.0 goal e t kinds fits knows w.4 p.2 up)
runs {limit} (leaves {ss = ss} d) ls last n vs l s goal e t kinds fits knows f q up =
    runs d ls last n vs l s goal e t kinds fits (knows-less limit (depth ss) (depth ss + 1) l (omega arith) knows) f q up

-- the start of a text
un_make : {limit : ℕ} {a : Action} {ss : List Symbol} {ks : List Kind} {es : List Event} → Within limit (Make a ∷ ss) ks es → (fs : List Event) × (es ≡ event.Make a ∷ fs) × Within limit ss ks fs
un_make (makes {es = fs} d) = (fs, refl, d)

un_pass : {limit : ℕ} {x : Rule} {ss : List Symbol} {ks : List Kind} {es : List Event} (b : List Symbol) → ((n : Option Kind) → way n (alternatives x) ≡ passes b) → Within limit (Part x ∷ ss) ks es → Within limit (b ++ ss) ks es
un_pass {ks = ks} b only (passes_on c w d) =
    let is : passes c ≡ passes b = sym w ∙ only (next ks None) in
    let same : c ≡ b = cc in
    rw (← same) d
un_pass b only (takes_one {k = k} c w small d) =
    let is : takes c ≡ passes b = sym w ∙ only (Some k) in
    absurd cc

-- one value, and few nodes
abbrev pub Single : ℕ → Sort → List Event → List Lexeme → Type 0
Single limit j es ls = (w : Value) × (m : ℕ) × (run es ls nowhere nothing_made ≡ Some (record { made = m; values = w ∷ [] })) × (m ≤ 2 * length es) × (sort_of w ≡ j) × (value_nesting w ≤ limit)

within-one : (n limit : ℕ) → n + 1 ≤ suc limit → n ≤ limit
within-one n limit h = omega arith

from_none : (m n : ℕ) → m ≤ 0 + n → m ≤ n
from_none m n h = omega arith

single_left : (limit : ℕ) (j : Sort) (es : List Event) (ls : List Lexeme) (m : ℕ) (ws : List Value) → run es ls nowhere nothing_made ≡ Some (record { made = m; values = ws }) → m ≤ 0 + 2 * length es → Fit limit (slot j 1 ∷ []) ws → Single limit j es ls
single_left limit j es ls m [] q few f = absurd cc
single_left limit j es ls m (w ∷ []) q few f = (w, m, q, from_none m (2 * length es) few, f.0, within-one (value_nesting w) limit f.1)
single_left limit j es ls m (w ∷ v ∷ vs) q few f = absurd cc

module _ (x y : Rule) (a : Action) (v : Value) (limit : ℕ) (ks : List Kind) (ls : List Lexeme) where
  begun : (es : List Event) → made a nowhere nothing_made ≡ Some (record { made = 0; values = v ∷ [] }) → value_nesting v ≡ 0
      → flow 0 (Part y ∷ []) unknown (slot (sort_of v) 1 ∷ []) ≡ ends unknown (slot (sort_of v) 1 ∷ [])
      → FitKinds ks ls → Within limit (Part y ∷ []) ks es → Single limit (sort_of v) (event.Make a ∷ es) ls
  begun es first flat flows kinds d =
      let goal : List Slot = slot (sort_of v) 1 ∷ [] in
      let f : Fit limit goal (v ∷ []) = (refl, rw flat (omega arith), tt) in
      let up : Above 0 [] goal goal = (refl, omega arith, refl) in
      let r = acted limit goal a es ls nowhere 0 0 [] (v ∷ []) first (omega arith) (runs d ls nowhere 0 (v ∷ []) unknown goal goal unknown goal kinds tt tt f flows up) in
      single_left limit (sort_of v) (event.Make a ∷ es) ls r.0 r.1 r.2 r.3 r.4

  pub single : (es : List Event) → ((n : Option Kind) → way n (alternatives x) ≡ passes (Make a ∷ Part y ∷ [])) → made a nowhere nothing_made ≡ Some (record { made = 0; values = v ∷ [] }) → value_nesting v ≡ 0
      → flow 0 (Part y ∷ []) unknown (slot (sort_of v) 1 ∷ []) ≡ ends unknown (slot (sort_of v) 1 ∷ [])
      → FitKinds ks ls → Within limit (Part x ∷ []) ks es → Single limit (sort_of v) es ls
  single es only first flat flows kinds d =
      let u = un_make (un_pass (Make a ∷ Part y ∷ []) only d) in
      started u.0 u.1 (begun u.0 first flat flows kinds u.2)
    where
      started : (fs : List Event) → es ≡ event.Make a ∷ fs → Single limit (sort_of v) (event.Make a ∷ fs) ls → Single limit (sort_of v) es ls
      started fs is r = rw is r
