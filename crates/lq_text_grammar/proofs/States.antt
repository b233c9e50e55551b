-- What the loop keeps.
use Rattle.std.specs.Prelude.{IsTrue, if◌then◌else◌}
use Rattle.std.proofs.Common.{◌≡◌, ℕ, ◌+◌, ◌-◌, ◌*◌, ◌^◌, ◌<◌, ◌≤◌, refl, sym, ap, ◌∙◌, subst, Bool, true, false, ◌&&◌, cond, Option, Some, None, List, [], ◌∷◌, ◌++◌, arith, inl, inr, ◌⊎◌, length, take, get_or, reverse}
use Rattle.std.proofs.Math.Dec.{ltb}
use Rattle.std.proofs.lemmas.Bool.{ltb-true, cases_lt}
use Rattle.std.proofs.lemmas.List.{reverse-append, drop_more, take_more, drop_all, take_all, length-reverse}
use Rattle.lq_text_grammar.specs.declared.kind.Kind.{Kind}
use Rattle.lq_text_grammar.specs.declared.rule.Rule.{Rule}
use Rattle.lq_text_grammar.specs.declared.symbol.Action.{Action}
use Rattle.lq_text_grammar.specs.declared.symbol.Symbol.{Symbol}
use Rattle.lq_text_grammar.specs.declared.symbol.Symbol.TheVariants.{Word, Part, Make, Leave}
use Rattle.lq_text_grammar.specs.declared.symbol.Event.{Event}
use Rattle.lq_text_grammar.specs.declared.symbol.Event.TheVariants as event
use Rattle.lq_text_grammar.specs.Grammar.{Alternative, begins, before, otherwise, alternatives, start_of}
use Rattle.lq_text_grammar.specs.Reading.{IsText, Begins, IsStop}
use Rattle.lq_text_grammar.specs.Levels.{Way, takes, passes, refuses, way, is_token_way, waits, Leads, IsLevel, depth, way_depth, token_depth, kind_at, IsShallow, IsSyntax, IsTooDeep}
use Rattle.lq_base_names.specs.declared.place.TextKind.{TextKind}
use Rattle.lq_base_names.specs.declared.place.TextKind.TheVariants as text
use Rattle.lq_text_grammar.proofs.Facts.{weight, blocks, follow}
use Rattle.lq_text_grammar.proofs.Checked.{first_then, weigh, commits, lighter, among, fine}
use Rattle.lq_text_grammar.proofs.Found.{both, passes_found, takes_found, weigh-append}
use Rattle.lq_text_grammar.proofs.Completes.{Sound, passed, taken}
use Rattle.lq_text_grammar.proofs.Runs.{Reached, reached_start, reached_pass, reached_make, reached_leave, reached_take, reached_word, begins_at, ends_at, no_token, no_end, refused_at, other_word_at, over_at, level_at, level_is}

-- the work that is left
abbrev pub left_over : List Kind → List Symbol → ℕ → ℕ
left_over kinds ss at = 80 * (length kinds - at) + weigh ss + cond (commits ss) 0 40

pub record State (start : Rule) (limit : ℕ) (kinds : List Kind) (ss : List Symbol) (past : List Event) (at level : ℕ) : Type 0 where
  pub within : at ≤ length kinds
  pub reached : Reached start (take at kinds) (kind_at kinds at) ss past
  pub starts : Begins start (take at kinds)
  pub sound : Sound ss
  pub counted : level ≡ depth ss
  pub shallow : IsShallow start limit kinds at
  pub bounded : length past + left_over kinds ss at ≤ 80 * length kinds + 43

pub depth-append : (b ss : List Symbol) → depth (b ++ ss) ≡ depth b + depth ss
depth-append [] ss = omega arith
depth-append (Word k ∷ b) ss = depth-append b ss
depth-append (Part x ∷ b) ss = depth-append b ss
depth-append (Make a ∷ b) ss = depth-append b ss
depth-append (Leave ∷ b) ss = omega (arith, depth-append b ss)

le_cases : (a b : ℕ) → a < b + 1 → (a < b) ⊎ (a ≡ b)
le_cases a b h = elim (cases_lt a b) [ inl x ↦ inl x | inr x ↦ inr (omega arith) ]

pub cond_small : (b : Bool) → cond b 0 40 ≤ 40
cond_small true = omega arith
cond_small false = omega arith

-- the part that is to be read first
abbrev pub opening : List Symbol → Rule
opening (Part x ∷ ss) = x
opening _ = start_of text.Program

-- a text as a whole
pub starts_sound : (text : TextKind) → Sound (Part (start_of text) ∷ [])
starts_sound text.Program = refl
starts_sound text.Quals = refl
starts_sound text.Measures = refl

pub starts_small : (text : TextKind) → weigh (Part (start_of text) ∷ []) ≤ 3
starts_small text.Program = omega arith
starts_small text.Quals = omega arith
starts_small text.Measures = omega arith

pub state_start : (text : TextKind) (limit : ℕ) (kinds : List Kind) → State (start_of text) limit kinds (Part (start_of text) ∷ []) [] 0 0
state_start text limit kinds = record {
  within = omega arith;
  reached = reached_start (start_of text) (kind_at kinds 0);
  starts = begins_at (start_of text) [] (Part (start_of text) ∷ []) [] (reached_start (start_of text)) (starts_sound text);
  sound = starts_sound text;
  counted = refl;
  shallow = λ j k l h is level. absurd (omega arith);
  bounded = omega (arith, starts_small text, cond_small (commits (Part (start_of text) ∷ [])));
}

no_takes : (alts : List Alternative) (b : List Symbol) → way None alts ≡ takes b → ⊥
no_takes [] b e = cc
no_takes (otherwise c ∷ alts) b e = cc
no_takes (begins k c ∷ alts) b e = no_takes alts b e
no_takes (before ks c ∷ alts) b e = no_takes alts b e

pub takes_within : (kinds : List Kind) (at : ℕ) (x : Rule) (b : List Symbol) → way (kind_at kinds at) (alternatives x) ≡ takes b → at < length kinds
takes_within kinds at x b e = elim (cases_lt at (length kinds)) [
  | inl h ↦ h
  | inr h ↦ absurd (no_takes (alternatives x) b (let none : kind_at kinds at ≡ None = rw (drop_all at kinds h) in rw none at e))
]

pub takes_less : (kinds : List Kind) (ss : List Symbol) (at : ℕ) (x : Rule) (b : List Symbol) → at < length kinds → way (kind_at kinds at) (alternatives x) ≡ takes b → Sound (Part x ∷ ss) → left_over kinds (b ++ ss) (at + 1) < left_over kinds (Part x ∷ ss) at
takes_less kinds ss at x b room e s = go (kind_at kinds at) e
  where
    go : (n : Option Kind) → way n (alternatives x) ≡ takes b → left_over kinds (b ++ ss) (at + 1) < left_over kinds (Part x ∷ ss) at
    go None e = absurd (no_takes (alternatives x) b e)
    go (Some k) e =
        let p = both (among (first_then ss None) (follow x)) (fine ss None) s in
        let q = both (fine b (first_then ss None)) (ltb (weigh b) (40 + weight x)) (takes_found x (first_then ss None) k b p.0 e) in
        let light : weigh b < 40 + weight x = ltb-true (weigh b) (40 + weight x) q.1 in
        omega (arith, weigh-append b ss, cond_small (commits (b ++ ss)))

commits-append : (b ss : List Symbol) → commits b ≡ true → commits (b ++ ss) ≡ true
commits-append [] ss h = absurd cc
commits-append (Word k ∷ b) ss h = refl
commits-append (Part y ∷ b) ss h = h
commits-append (Make a ∷ b) ss h = absurd cc
commits-append (Leave ∷ b) ss h = absurd cc

light : (x y z : Bool) (w m : ℕ) → (y ≡ true → z ≡ true) → (if x then y && ltb w m else if y then ltb w (40 + m) else ltb w m) ≡ true → w + cond z 0 40 < m + cond x 0 40
light true true z w m h e = let one : z ≡ true = h refl in rw one (omega (arith, ltb-true w m e))
light true false z w m h e = absurd cc
light false true z w m h e = let one : z ≡ true = h refl in rw one (omega (arith, ltb-true w (40 + m) e))
light false false z w m h e = omega (arith, ltb-true w m e, cond_small z)

pub light_enough : (x : Rule) (b ss : List Symbol) → lighter x b ≡ true → weigh b + cond (commits (b ++ ss)) 0 40 < weight x + cond (blocks x) 0 40
light_enough x b ss h = light (blocks x) (commits b) (commits (b ++ ss)) (weigh b) (weight x) (commits-append b ss) h

pub passes_less : (kinds : List Kind) (ss : List Symbol) (at : ℕ) (x : Rule) (b : List Symbol) → way (kind_at kinds at) (alternatives x) ≡ passes b → Sound (Part x ∷ ss) → left_over kinds (b ++ ss) at < left_over kinds (Part x ∷ ss) at
passes_less kinds ss at x b e s =
    let p = both (among (first_then ss None) (follow x)) (fine ss None) s in
    let q = both (fine b (first_then ss None)) (lighter x b) (passes_found x (first_then ss None) (kind_at kinds at) b p.0 e) in
    omega (arith, weigh-append b ss, light_enough x b ss q.1)

pub word_less : (kinds : List Kind) (ss : List Symbol) (k : Kind) (at : ℕ) → at < length kinds → left_over kinds ss (at + 1) < left_over kinds (Word k ∷ ss) at
word_less kinds ss k at room = omega (arith, cond_small (commits ss))

pub make_less : (kinds : List Kind) (ss : List Symbol) (a : Action) (at : ℕ) → left_over kinds ss at < left_over kinds (Make a ∷ ss) at
make_less kinds ss a at = omega (arith, cond_small (commits ss))

pub leave_less : (kinds : List Kind) (ss : List Symbol) (at : ℕ) → left_over kinds ss at < left_over kinds (Leave ∷ ss) at
leave_less kinds ss at = omega (arith, cond_small (commits ss))

one_longer : (past : List Event) (e : Event) → length (past ++ e ∷ []) ≡ length past + 1
one_longer [] e = refl
one_longer (p ∷ past) e = omega (arith, one_longer past e)

module _ (start : Rule) (limit : ℕ) (kinds : List Kind) (ss : List Symbol) (past : List Event) (at level : ℕ) where
  pub state_make : (a : Action) → State start limit kinds (Make a ∷ ss) past at level → State start limit kinds ss (past ++ event.Make a ∷ []) at level
  state_make a s = record {
    within = s.within;
    reached = reached_make start (take at kinds) (kind_at kinds at) a ss past s.reached;
    starts = s.starts;
    sound = s.sound;
    counted = s.counted;
    shallow = s.shallow;
    bounded = omega (arith, s.bounded, make_less kinds ss a at, one_longer past (event.Make a));
  }

  pub state_leave : State start limit kinds (Leave ∷ ss) past at level → State start limit kinds ss past at (level - 1)
  state_leave s = record {
    within = s.within;
    reached = reached_leave start (take at kinds) (kind_at kinds at) ss past s.reached;
    starts = s.starts;
    sound = s.sound;
    counted = omega (arith, s.counted);
    shallow = s.shallow;
    bounded = omega (arith, s.bounded, leave_less kinds ss at);
  }

  pub state_pass : (x : Rule) (b : List Symbol) → way (kind_at kinds at) (alternatives x) ≡ passes b → State start limit kinds (Part x ∷ ss) past at level → State start limit kinds (b ++ ss) past at (level + depth b)
  state_pass x b e s = record {
    within = s.within;
    reached = reached_pass start (take at kinds) (kind_at kinds at) x ss past b e s.reached;
    starts = s.starts;
    sound = passed x ss b (kind_at kinds at) e s.sound;
    counted = omega (arith, s.counted, depth-append b ss);
    shallow = s.shallow;
    bounded = omega (arith, s.bounded, passes_less kinds ss at x b e s.sound);
  }

  module _ (d : Kind) (room : at < length kinds) where
    -- the next token
    pub kind_there : kind_at kinds at ≡ Some (get_or kinds at d)
    kind_there = rw (drop_more kinds at d room)

    one_more : take (at + 1) kinds ≡ take at kinds ++ get_or kinds at d ∷ []
    one_more = take_more kinds at d room

    -- one more token of a level within the limit
    deeper : (zs : List Symbol) → IsTrue (waits (Some (get_or kinds at d)) zs) → Reached start (take at kinds) (kind_at kinds at) zs past → token_depth (get_or kinds at d) zs ≤ limit → IsShallow start limit kinds at → IsShallow start limit kinds (at + 1)
    deeper zs w r small shallow j k l h is level = go (le_cases j at (omega arith))
      where
        reached : Reached start (take at kinds) (Some (get_or kinds at d)) zs past
        reached = rw kind_there at r

        go : (j < at) ⊎ (j ≡ at) → l ≤ limit
        go (inl lower) = shallow j k l lower is level
        go (inr same) =
            let here : kind_at kinds at ≡ Some k = rw same at is in
            let there : Some (get_or kinds at d) ≡ Some k = sym kind_there ∙ here in
            let same_kinds : get_or kinds at d ≡ k = cc in
            let leveled : IsLevel start (take at kinds) (get_or kinds at d) l = rw same_kinds (rw same at level) in
            let e = level_is start (take at kinds) (get_or kinds at d) zs past l w reached leveled in
            omega arith

    pub state_take : (x : Rule) (b : List Symbol) → way (kind_at kinds at) (alternatives x) ≡ takes b → level + depth b ≤ limit → State start limit kinds (Part x ∷ ss) past at level → State start limit kinds (b ++ ss) (past ++ event.Take ∷ []) (at + 1) (level + depth b)
    state_take x b e small s =
        let t = get_or kinds at d in
        let chosen : way (Some (get_or kinds at d)) (alternatives x) ≡ takes b = rw kind_there at e in
        let reached : Reached start (take at kinds) (Some (get_or kinds at d)) (Part x ∷ ss) past = rw kind_there at s.reached in
        let next_reached : (cur : Option Kind) → Reached start (take (at + 1) kinds) cur (b ++ ss) (past ++ event.Take ∷ []) = λ cur. rw one_more (reached_take start (take at kinds) (get_or kinds at d) x ss past b chosen reached cur) in
        let sound = taken x ss b (get_or kinds at d) chosen s.sound in
        let deep : token_depth (get_or kinds at d) (Part x ∷ ss) ≡ depth (b ++ ss) = ap (λ (w : Way). way_depth w ss) chosen in
        record {
          within = omega arith;
          reached = next_reached (kind_at kinds (at + 1));
          starts = begins_at start (take (at + 1) kinds) (b ++ ss) (past ++ event.Take ∷ []) next_reached sound;
          sound = sound;
          counted = omega (arith, s.counted, depth-append b ss);
          shallow = deeper (Part x ∷ ss) (ap is_token_way chosen) s.reached (omega (arith, s.counted, deep, depth-append b ss)) s.shallow;
          bounded = omega (arith, s.bounded, takes_less kinds ss at x b room e s.sound, one_longer past event.Take);
        }

    pub state_word : (k : Kind) → get_or kinds at d ≡ k → level ≤ limit → State start limit kinds (Word k ∷ ss) past at level → State start limit kinds ss (past ++ event.Take ∷ []) (at + 1) level
    state_word k e small s =
        let here : State start limit kinds (Word (get_or kinds at d) ∷ ss) past at level = rw e s in
        let reached : Reached start (take at kinds) (Some (get_or kinds at d)) (Word (get_or kinds at d) ∷ ss) past = rw kind_there at here.reached in
        let next_reached : (cur : Option Kind) → Reached start (take (at + 1) kinds) cur ss (past ++ event.Take ∷ []) = λ cur. rw one_more (reached_word start (take at kinds) (get_or kinds at d) ss past reached cur) in
        record {
          within = omega arith;
          reached = next_reached (kind_at kinds (at + 1));
          starts = begins_at start (take (at + 1) kinds) ss (past ++ event.Take ∷ []) next_reached s.sound;
          sound = s.sound;
          counted = s.counted;
          shallow = deeper (Word (get_or kinds at d) ∷ ss) refl here.reached (omega (arith, s.counted)) s.shallow;
          bounded = omega (arith, s.bounded, word_less kinds ss k at room, one_longer past event.Take);
        }

    stop_here : (zs : List Symbol) → ((us : List Kind) (fs : List Event) → Leads None zs (get_or kinds at d ∷ us) fs [] → ⊥) → Reached start (take at kinds) (kind_at kinds at) zs past → IsStop start kinds at
    stop_here zs none r =
        let reached : Reached start (take at kinds) (Some (get_or kinds at d)) zs past = rw kind_there at r in
        inl (room, λ begins. no_token start (take at kinds) (get_or kinds at d) zs past none reached (rw one_more at begins))

    -- this token is the first stop
    syntax_at : (zs : List Symbol) → IsTrue (waits (Some (get_or kinds at d)) zs) → ((us : List Kind) (fs : List Event) → Leads None zs (get_or kinds at d ∷ us) fs [] → ⊥) → token_depth (get_or kinds at d) zs ≤ limit → State start limit kinds zs past at level → IsSyntax start limit kinds at
    syntax_at zs w none small s = (s.within, s.starts, stop_here zs none s.reached, deeper zs w s.reached small s.shallow)

    pub syntax_refused : (x : Rule) → way (kind_at kinds at) (alternatives x) ≡ refuses → level ≤ limit → State start limit kinds (Part x ∷ ss) past at level → IsSyntax start limit kinds at
    syntax_refused x e small s =
        let here : way (Some (get_or kinds at d)) (alternatives x) ≡ refuses = rw kind_there at e in
        let same : token_depth (get_or kinds at d) (Part x ∷ ss) ≡ depth ss = ap (λ (w : Way). way_depth w ss) here in
        syntax_at (Part x ∷ ss) (ap is_token_way here) (λ us fs l. refused_at x ss (_ ∷ us) fs here l) (omega (arith, same, s.counted)) s

    pub syntax_word : (k : Kind) → (get_or kinds at d ≡ k → ⊥) → level ≤ limit → State start limit kinds (Word k ∷ ss) past at level → IsSyntax start limit kinds at
    syntax_word k other small s =
        syntax_at (Word k ∷ ss) refl (λ us fs l. other_word_at k ss (_ ∷ us) fs (λ is. other cc) l) (omega (arith, s.counted)) s

    pub syntax_over : State start limit kinds [] past at level → IsSyntax start limit kinds at
    syntax_over s = syntax_at [] refl (λ us fs l. over_at _ us fs l) (omega arith) s

    deep_at : (zs : List Symbol) → IsTrue (waits (Some (get_or kinds at d)) zs) → limit < token_depth (get_or kinds at d) zs → State start limit kinds zs past at level → IsTooDeep start limit kinds at
    deep_at zs w high s =
        let reached : Reached start (take at kinds) (Some (get_or kinds at d)) zs past = rw kind_there at s.reached in
        (s.starts, s.shallow, (get_or kinds at d, token_depth (get_or kinds at d) zs, kind_there, level_at start (take at kinds) (get_or kinds at d) zs past w reached, high))

    pub deep_word : (k : Kind) → limit < level → State start limit kinds (Word k ∷ ss) past at level → IsTooDeep start limit kinds at
    deep_word k high s = deep_at (Word k ∷ ss) refl (omega (arith, s.counted)) s

    pub deep_taken : (x : Rule) (b : List Symbol) → way (kind_at kinds at) (alternatives x) ≡ takes b → limit < level + depth b → State start limit kinds (Part x ∷ ss) past at level → IsTooDeep start limit kinds at
    deep_taken x b e high s =
        let here : way (Some (get_or kinds at d)) (alternatives x) ≡ takes b = rw kind_there at e in
        let same : token_depth (get_or kinds at d) (Part x ∷ ss) ≡ depth (b ++ ss) = ap (λ (w : Way). way_depth w ss) here in
        deep_at (Part x ∷ ss) (ap is_token_way here) (omega (arith, same, s.counted, depth-append b ss)) s

    pub deep_refused : (x : Rule) → way (kind_at kinds at) (alternatives x) ≡ refuses → limit < level → State start limit kinds (Part x ∷ ss) past at level → IsTooDeep start limit kinds at
    deep_refused x e high s =
        let here : way (Some (get_or kinds at d)) (alternatives x) ≡ refuses = rw kind_there at e in
        let same : token_depth (get_or kinds at d) (Part x ∷ ss) ≡ depth ss = ap (λ (w : Way). way_depth w ss) here in
        deep_at (Part x ∷ ss) (ap is_token_way here) (omega (arith, same, s.counted)) s

  module _ (over : at ≡ length kinds) where
    -- there is no next token
    pub none_there : kind_at kinds at ≡ None
    none_there = rw (over, drop_all (length kinds) kinds (omega arith))

    all_taken : take at kinds ≡ kinds
    all_taken = rw over (take_all (length kinds) kinds (omega arith))

    shallow_still : IsShallow start limit kinds at → IsShallow start limit kinds (at + 1)
    shallow_still shallow j k l h is level = elim (le_cases j at (omega arith)) [
      | inl lower ↦ shallow j k l lower is level
      | inr same ↦ let gone : kind_at kinds j ≡ None = rw same none_there in absurd cc
    ]

    syntax_end : (zs : List Symbol) → ((fs : List Event) → Leads None zs [] fs [] → ⊥) → State start limit kinds zs past at level → IsSyntax start limit kinds at
    syntax_end zs none s =
        let reached : Reached start (take at kinds) None zs past = rw none_there at s.reached in
        (s.within, s.starts, inr (over, λ es text. no_end start (take at kinds) zs past none reached es (rw all_taken text)), shallow_still s.shallow)

    pub syntax_end_word : (k : Kind) → State start limit kinds (Word k ∷ ss) past at level → IsSyntax start limit kinds at
    syntax_end_word k s = syntax_end (Word k ∷ ss) (λ fs l. other_word_at k ss [] fs (λ is. absurd cc) l) s

    pub syntax_end_refused : (x : Rule) → way (kind_at kinds at) (alternatives x) ≡ refuses → State start limit kinds (Part x ∷ ss) past at level → IsSyntax start limit kinds at
    syntax_end_refused x e s =
        let here : way None (alternatives x) ≡ refuses = rw none_there at e in
        syntax_end (Part x ∷ ss) (λ fs l. refused_at x ss [] fs here l) s

    pub text_end : State start limit kinds [] past at level → IsText start kinds past
    text_end s =
        let reached : Reached start (take at kinds) None [] past = rw none_there at s.reached in
        rw all_taken at (ends_at start (take at kinds) past reached)

    pub shallow_end : State start limit kinds [] past at level → IsShallow start limit kinds (length kinds)
    shallow_end s = rw over at s.shallow

module _ (start : Rule) (limit : ℕ) (kinds : List Kind) (ss : List Symbol) (past : List Event) (at level : ℕ) where
  -- the next token is this one
  pub state_next : (k : Kind) → kind_at kinds at ≡ Some k → level ≤ limit → State start limit kinds (Word k ∷ ss) past at level → State start limit kinds ss (past ++ event.Take ∷ []) (at + 1) level
  state_next k e small s = elim (cases_lt at (length kinds)) [
    | inl room ↦ let there : Some (get_or kinds at k) ≡ Some k = sym (kind_there start limit kinds ss past at level k room) ∙ e in let same : get_or kinds at k ≡ k = cc in state_word start limit kinds ss past at level k room k same small s
    | inr over ↦ let none : kind_at kinds at ≡ None = rw (drop_all at kinds over) in absurd cc
  ]

  -- the token that is read next is another one
  pub syntax_next : (k : Kind) → ((kind_at kinds at ≡ Some k) × (level ≤ limit) → ⊥) → (at < length kinds → level ≤ limit) → State start limit kinds (Word k ∷ ss) past at level → IsSyntax start limit kinds at
  syntax_next k other small s = elim (cases_lt at (length kinds)) [
    | inl room ↦ syntax_word start limit kinds ss past at level k room k (λ is. other (kind_there start limit kinds ss past at level k room ∙ ap Some is, small room)) (small room) s
    | inr over ↦ syntax_end_word start limit kinds ss past at level (omega (arith, s.within)) k s
  ]

  -- the next token makes nothing of the part
  pub syntax_part : (d : Kind) (x : Rule) → way (kind_at kinds at) (alternatives x) ≡ refuses → (at < length kinds → level ≤ limit) → State start limit kinds (Part x ∷ ss) past at level → IsSyntax start limit kinds at
  syntax_part d x e small s = elim (cases_lt at (length kinds)) [
    | inl room ↦ syntax_refused start limit kinds ss past at level d room x e (small room) s
    | inr over ↦ syntax_end_refused start limit kinds ss past at level (omega (arith, s.within)) x e s
  ]

pub at_syntax : (start : Rule) (limit : ℕ) (kinds : List Kind) (here at : ℕ) → here ≡ at → IsSyntax start limit kinds here → IsSyntax start limit kinds at
at_syntax start limit kinds here at e h = subst (IsSyntax start limit kinds) e h

pub at_too_deep : (start : Rule) (limit : ℕ) (kinds : List Kind) (here at : ℕ) → here ≡ at → IsTooDeep start limit kinds here → IsTooDeep start limit kinds at
at_too_deep start limit kinds here at e h = subst (IsTooDeep start limit kinds) e h

pub popped : (items rest : List Symbol) (s : Symbol) → items ≡ rest ++ s ∷ [] → reverse items ≡ s ∷ reverse rest
popped items rest s e = rw (e, reverse-append)

depth-length : (ss : List Symbol) → depth ss ≤ length ss
depth-length [] = omega arith
depth-length (Word k ∷ b) = omega (arith, depth-length b)
depth-length (Part x ∷ b) = omega (arith, depth-length b)
depth-length (Make a ∷ b) = omega (arith, depth-length b)
depth-length (Leave ∷ b) = omega (arith, depth-length b)

-- the state behind a pop
pub pop_state : (start : Rule) (limit : ℕ) (kinds : List Kind) (items rest : List Symbol) (s r : Symbol) (past : List Event) (at level : ℕ) → items ≡ rest ++ s ∷ [] → s ≡ r → State start limit kinds (reverse items) past at level → State start limit kinds (r ∷ reverse rest) past at level
pop_state start limit kinds items rest s r past at level e is st = rw (popped items rest s e, is) at st

pub same_state : (start : Rule) (limit : ℕ) (kinds : List Kind) (ss zs : List Symbol) (past log : List Event) (at l m : ℕ) → zs ≡ ss → log ≡ past → m ≡ l → State start limit kinds ss past at l → State start limit kinds zs log at m
same_state start limit kinds ss zs past log at l m e f g st = rw (e, f, g) st

pub level_fits : (items b ss : List Symbol) (level add len cap : ℕ) → reverse items ≡ b ++ ss → level ≡ depth ss → add ≡ depth b → len ≡ length items → len ≤ cap → cap < 2 ^ 63 → level + add < 2 ^ 64
level_fits items b ss level add len cap e f g h i j =
    let n : depth (reverse items) ≡ depth b + depth ss = ap depth e ∙ depth-append b ss in
    omega (arith, depth-length (reverse items), length-reverse items)

pub over_smaller : (kinds : List Kind) (items rest : List Symbol) (s r : Symbol) (at : ℕ) (zs : List Symbol) (to : ℕ) → items ≡ rest ++ s ∷ [] → s ≡ r → left_over kinds zs to < left_over kinds (r ∷ reverse rest) at → left_over kinds zs to < left_over kinds (reverse items) at
over_smaller kinds items rest s r at zs to e is h = rw (popped items rest s e, is) h

pub empty : (items : List Symbol) (len : ℕ) → len ≡ 0 → len ≡ length items → [] ≡ reverse items
empty [] len e f = refl
empty (s ∷ ss) len e f = absurd (omega (arith, e, f))
