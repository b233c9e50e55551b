use Rattle.std.proofs.Common.{◌≡◌, ◌∷◌, ◌+◌, ◌<◌, ◌≤◌, [], ◌++◌, refl, reverse, arith, sym, ap, List, length, Some, subst}
use Rattle.lq_text_grammar.specs.declared.symbol.Symbol.{Symbol}
use Rattle.lq_text_grammar.specs.declared.symbol.Symbol.TheVariants.{Word, Part, Make, Leave}
use Rattle.lq_text_grammar.specs.declared.symbol.Event.TheVariants as event
use Rattle.lq_text_grammar.specs.declared.kind.Kind.TheVariants as kind
use Rattle.lq_text_grammar.specs.declared.error.ReadError.TheVariants.{Syntax, TooDeep}
use Rattle.lq_text_grammar.specs.Grammar.{alternatives, start_of}
use Rattle.lq_text_grammar.specs.Levels.{way, takes, passes, refuses, kind_at, depth}
use Rattle.lq_text_grammar.proofs.States.{opening, pop_state, same_state, state_start, state_make, state_leave, state_pass, state_take, state_next, syntax_next, syntax_part, syntax_over, deep_word, deep_taken, deep_refused, text_end, shallow_end, left_over, takes_within, takes_less, passes_less, over_smaller, at_syntax, at_too_deep, level_fits, empty}
use Rattle.lq_text_grammar.proofs.reader.read.Goals as goal

pub loop-symbol-init : goal.loop-symbol-init
loop-symbol-init c =
    let first : opening (reverse c.push.new.self.items) ≡ start_of c.args.text = rw (c.in_ok-push.ensures.items, c.new-stack.ensures.items, c.start_of-start.ensures) refl in let only : reverse c.push.new.self.items ≡ Part (opening (reverse c.push.new.self.items)) ∷ [] = rw (c.in_ok-push.ensures.items, c.new-stack.ensures.items) refl in
    same_state (opening (reverse c.push.new.self.items)) c.args.limit c.args.kinds.now (Part (opening (reverse c.push.new.self.items)) ∷ []) (reverse c.push.new.self.items) [] c.new-events.result.items 0 0 0 only c.new-events.ensures.items refl (rw (← first) at (state_start c.args.text c.args.limit c.args.kinds.now))

pub loop-symbol-preserved-in-Leave : goal.loop-symbol-preserved-in-Leave
loop-symbol-preserved-in-Leave c =
    state_leave (opening (reverse c.push.new.self.items)) c.args.limit c.args.kinds.now (reverse c.pop.new.self.items) c.loop-symbol.events.items c.loop-symbol.at c.loop-symbol.level (pop_state (opening (reverse c.push.new.self.items)) c.args.limit c.args.kinds.now c.loop-symbol.stack.items c.pop.new.self.items c.in-Some.symbol Leave c.loop-symbol.events.items c.loop-symbol.at c.loop-symbol.level c.in-Some.ensures.items c.in-Leave.is c.loop-symbol.invariant)

pub loop-symbol-preserved-in-Continue-branch-2 : goal.loop-symbol-preserved-in-Continue-branch-2
loop-symbol-preserved-in-Continue-branch-2 c =
    same_state (opening (reverse c.push.new.self.items)) c.args.limit c.args.kinds.now (reverse c.pop.new.self.items) (reverse c.pop.new.self.items) (c.loop-symbol.events.items ++ event.Make c.in-Make.action ∷ []) c.push-in-Make.new.self.items c.loop-symbol.at c.loop-symbol.level c.loop-symbol.level refl c.in_ok-push-in-Make.ensures.items refl (state_make (opening (reverse c.push.new.self.items)) c.args.limit c.args.kinds.now (reverse c.pop.new.self.items) c.loop-symbol.events.items c.loop-symbol.at c.loop-symbol.level c.in-Make.action (pop_state (opening (reverse c.push.new.self.items)) c.args.limit c.args.kinds.now c.loop-symbol.stack.items c.pop.new.self.items c.in-Some.symbol (Make c.in-Make.action) c.loop-symbol.events.items c.loop-symbol.at c.loop-symbol.level c.in-Some.ensures.items c.in-Make.is c.loop-symbol.invariant))

pub loop-symbol-preserved-in-Word : goal.loop-symbol-preserved-in-Word
loop-symbol-preserved-in-Word c =
    let s = pop_state (opening (reverse c.push.new.self.items)) c.args.limit c.args.kinds.now c.loop-symbol.stack.items c.pop.new.self.items c.in-Some.symbol (Word c.in-Word.kind) c.loop-symbol.events.items c.loop-symbol.at c.loop-symbol.level c.in-Some.ensures.items c.in-Word.is c.loop-symbol.invariant in
    let next = c.fits.ensures.0 c.if-not-fits.false in
    same_state (opening (reverse c.push.new.self.items)) c.args.limit c.args.kinds.now (reverse c.pop.new.self.items) (reverse c.pop.new.self.items) (c.loop-symbol.events.items ++ event.Take ∷ []) c.push-in-Word.new.self.items (c.loop-symbol.at + 1) c.loop-symbol.level c.loop-symbol.level refl c.in_ok-push-in-Word.ensures.items refl (state_next (opening (reverse c.push.new.self.items)) c.args.limit c.args.kinds.now (reverse c.pop.new.self.items) c.loop-symbol.events.items c.loop-symbol.at c.loop-symbol.level c.in-Word.kind next.0 next.1 s)

pub overflow_add-level : goal.overflow_add-level
overflow_add-level c =
    let s = pop_state (opening (reverse c.push.new.self.items)) c.args.limit c.args.kinds.now c.loop-symbol.stack.items c.pop.new.self.items c.in-Some.symbol (Part c.in-Part.rule) c.loop-symbol.events.items c.loop-symbol.at c.loop-symbol.level c.in-Some.ensures.items c.in-Part.is c.loop-symbol.invariant in
    omega (arith, level_fits c.put.new.stack.items c.in-Takes.body.now (reverse c.pop.new.self.items) c.loop-symbol.level c.levels_in-level.result c.put.new.stack.len c.put.new.stack.cap c.in_ok-put-in-Takes.ensures s.counted c.levels_in-level.ensures.counted c.put.new.stack.ok.0 c.put.new.stack.ok.1 c.put.new.stack.small)

pub overflow_add-level-in-Passes : goal.overflow_add-level-in-Passes
overflow_add-level-in-Passes c =
    let s = pop_state (opening (reverse c.push.new.self.items)) c.args.limit c.args.kinds.now c.loop-symbol.stack.items c.pop.new.self.items c.in-Some.symbol (Part c.in-Part.rule) c.loop-symbol.events.items c.loop-symbol.at c.loop-symbol.level c.in-Some.ensures.items c.in-Part.is c.loop-symbol.invariant in
    omega (arith, level_fits c.put-in-Passes.new.stack.items c.in-Passes.body.now (reverse c.pop.new.self.items) c.loop-symbol.level c.levels_in-level-in-Passes.result c.put-in-Passes.new.stack.len c.put-in-Passes.new.stack.cap c.in_ok-put-in-Passes.ensures s.counted c.levels_in-level-in-Passes.ensures.counted c.put-in-Passes.new.stack.ok.0 c.put-in-Passes.new.stack.ok.1 c.put-in-Passes.new.stack.small)

pub loop-symbol-smaller-in-Takes : goal.loop-symbol-smaller-in-Takes
loop-symbol-smaller-in-Takes c =
    let w : way (kind_at c.args.kinds.now c.loop-symbol.at) (alternatives c.in-Part.rule) ≡ takes c.in-Takes.body.now = rw (← c.kind_of_next.ensures) (sym c.in-Takes.ensures) in let s = pop_state (opening (reverse c.push.new.self.items)) c.args.limit c.args.kinds.now c.loop-symbol.stack.items c.pop.new.self.items c.in-Some.symbol (Part c.in-Part.rule) c.loop-symbol.events.items c.loop-symbol.at c.loop-symbol.level c.in-Some.ensures.items c.in-Part.is c.loop-symbol.invariant in
    subst (λ (zs : List Symbol). left_over c.args.kinds.now zs (c.loop-symbol.at + 1) < left_over c.args.kinds.now (reverse c.loop-symbol.stack.items) c.loop-symbol.at) (sym c.in_ok-put-in-Takes.ensures)
    (over_smaller c.args.kinds.now c.loop-symbol.stack.items c.pop.new.self.items c.in-Some.symbol (Part c.in-Part.rule) c.loop-symbol.at (c.in-Takes.body.now ++ (reverse c.pop.new.self.items)) (c.loop-symbol.at + 1) c.in-Some.ensures.items c.in-Part.is (takes_less c.args.kinds.now (reverse c.pop.new.self.items) c.loop-symbol.at c.in-Part.rule c.in-Takes.body.now (takes_within c.args.kinds.now c.loop-symbol.at c.in-Part.rule c.in-Takes.body.now w) w s.sound))

pub loop-symbol-smaller : goal.loop-symbol-smaller
loop-symbol-smaller c =
    let w : way (kind_at c.args.kinds.now c.loop-symbol.at) (alternatives c.in-Part.rule) ≡ passes c.in-Passes.body.now = rw (← c.kind_of_next.ensures) (sym c.in-Passes.ensures) in let s = pop_state (opening (reverse c.push.new.self.items)) c.args.limit c.args.kinds.now c.loop-symbol.stack.items c.pop.new.self.items c.in-Some.symbol (Part c.in-Part.rule) c.loop-symbol.events.items c.loop-symbol.at c.loop-symbol.level c.in-Some.ensures.items c.in-Part.is c.loop-symbol.invariant in
    subst (λ (zs : List Symbol). left_over c.args.kinds.now zs c.loop-symbol.at < left_over c.args.kinds.now (reverse c.loop-symbol.stack.items) c.loop-symbol.at) (sym c.in_ok-put-in-Passes.ensures)
    (over_smaller c.args.kinds.now c.loop-symbol.stack.items c.pop.new.self.items c.in-Some.symbol (Part c.in-Part.rule) c.loop-symbol.at (c.in-Passes.body.now ++ (reverse c.pop.new.self.items)) c.loop-symbol.at c.in-Some.ensures.items c.in-Part.is (passes_less c.args.kinds.now (reverse c.pop.new.self.items) c.loop-symbol.at c.in-Part.rule c.in-Passes.body.now w s.sound))

pub loop-symbol-preserved-in-Takes : goal.loop-symbol-preserved-in-Takes
loop-symbol-preserved-in-Takes c =
    let w : way (kind_at c.args.kinds.now c.loop-symbol.at) (alternatives c.in-Part.rule) ≡ takes c.in-Takes.body.now = rw (← c.kind_of_next.ensures) (sym c.in-Takes.ensures) in let s = pop_state (opening (reverse c.push.new.self.items)) c.args.limit c.args.kinds.now c.loop-symbol.stack.items c.pop.new.self.items c.in-Some.symbol (Part c.in-Part.rule) c.loop-symbol.events.items c.loop-symbol.at c.loop-symbol.level c.in-Some.ensures.items c.in-Part.is c.loop-symbol.invariant in
    let room = takes_within c.args.kinds.now c.loop-symbol.at c.in-Part.rule c.in-Takes.body.now w in
    let counted = c.levels_in-level.ensures.counted in
    let small : c.loop-symbol.level + depth c.in-Takes.body.now ≤ c.args.limit = omega arith in
    same_state (opening (reverse c.push.new.self.items)) c.args.limit c.args.kinds.now (c.in-Takes.body.now ++ (reverse c.pop.new.self.items)) (reverse c.put.new.stack.items) (c.loop-symbol.events.items ++ event.Take ∷ []) c.push-in-Takes.new.self.items (c.loop-symbol.at + 1) (c.loop-symbol.level + depth c.in-Takes.body.now) (c.loop-symbol.level + c.levels_in-level.result) c.in_ok-put-in-Takes.ensures c.in_ok-push-in-Takes.ensures.items (ap (λ n. c.loop-symbol.level + n) counted) (state_take (opening (reverse c.push.new.self.items)) c.args.limit c.args.kinds.now (reverse c.pop.new.self.items) c.loop-symbol.events.items c.loop-symbol.at c.loop-symbol.level kind.Assert room c.in-Part.rule c.in-Takes.body.now w small s)

pub loop-symbol-preserved : goal.loop-symbol-preserved
loop-symbol-preserved c =
    let w : way (kind_at c.args.kinds.now c.loop-symbol.at) (alternatives c.in-Part.rule) ≡ passes c.in-Passes.body.now = rw (← c.kind_of_next.ensures) (sym c.in-Passes.ensures) in let s = pop_state (opening (reverse c.push.new.self.items)) c.args.limit c.args.kinds.now c.loop-symbol.stack.items c.pop.new.self.items c.in-Some.symbol (Part c.in-Part.rule) c.loop-symbol.events.items c.loop-symbol.at c.loop-symbol.level c.in-Some.ensures.items c.in-Part.is c.loop-symbol.invariant in
    let counted = c.levels_in-level-in-Passes.ensures.counted in
    same_state (opening (reverse c.push.new.self.items)) c.args.limit c.args.kinds.now (c.in-Passes.body.now ++ (reverse c.pop.new.self.items)) (reverse c.put-in-Passes.new.stack.items) c.loop-symbol.events.items c.loop-symbol.events.items c.loop-symbol.at (c.loop-symbol.level + depth c.in-Passes.body.now) (c.loop-symbol.level + c.levels_in-level-in-Passes.result) c.in_ok-put-in-Passes.ensures refl (ap (λ n. c.loop-symbol.level + n) counted) (state_pass (opening (reverse c.push.new.self.items)) c.args.limit c.args.kinds.now (reverse c.pop.new.self.items) c.loop-symbol.events.items c.loop-symbol.at c.loop-symbol.level c.in-Part.rule c.in-Passes.body.now w s)

pub returns-then-not-fits-clause-syntax : goal.returns-then-not-fits-clause-syntax
returns-then-not-fits-clause-syntax c =
    λ at e. let first : opening (reverse c.push.new.self.items) ≡ start_of c.args.text = rw (c.in_ok-push.ensures.items, c.new-stack.ensures.items, c.start_of-start.ensures) refl in
    let is : c.refusal.result ≡ Syntax at = cc in
    let r = c.refusal.ensures.syntax at is in
    let s = pop_state (opening (reverse c.push.new.self.items)) c.args.limit c.args.kinds.now c.loop-symbol.stack.items c.pop.new.self.items c.in-Some.symbol (Word c.in-Word.kind) c.loop-symbol.events.items c.loop-symbol.at c.loop-symbol.level c.in-Some.ensures.items c.in-Word.is c.loop-symbol.invariant in
    let other : (kind_at c.args.kinds.now c.loop-symbol.at ≡ Some c.in-Word.kind) × (c.loop-symbol.level ≤ c.args.limit) → ⊥ = λ next. let fit = c.fits.ensures.1 next in let bad = c.if-not-fits.true in absurd cc in
    rw first at (at_syntax (opening (reverse c.push.new.self.items)) c.args.limit c.args.kinds.now c.loop-symbol.at at (sym r.0) (syntax_next (opening (reverse c.push.new.self.items)) c.args.limit c.args.kinds.now (reverse c.pop.new.self.items) c.loop-symbol.events.items c.loop-symbol.at c.loop-symbol.level c.in-Word.kind other r.1 s))

pub returns-then-not-fits-clause-too_deep : goal.returns-then-not-fits-clause-too_deep
returns-then-not-fits-clause-too_deep c =
    λ at e. let first : opening (reverse c.push.new.self.items) ≡ start_of c.args.text = rw (c.in_ok-push.ensures.items, c.new-stack.ensures.items, c.start_of-start.ensures) refl in
    let is : c.refusal.result ≡ TooDeep at = cc in
    let r = c.refusal.ensures.too_deep at is in
    let s = pop_state (opening (reverse c.push.new.self.items)) c.args.limit c.args.kinds.now c.loop-symbol.stack.items c.pop.new.self.items c.in-Some.symbol (Word c.in-Word.kind) c.loop-symbol.events.items c.loop-symbol.at c.loop-symbol.level c.in-Some.ensures.items c.in-Word.is c.loop-symbol.invariant in
    rw first at (at_too_deep (opening (reverse c.push.new.self.items)) c.args.limit c.args.kinds.now c.loop-symbol.at at (sym r.0) (deep_word (opening (reverse c.push.new.self.items)) c.args.limit c.args.kinds.now (reverse c.pop.new.self.items) c.loop-symbol.events.items c.loop-symbol.at c.loop-symbol.level kind.Assert r.1 c.in-Word.kind r.2 s))

pub returns-then-level-limit-clause-too_deep : goal.returns-then-level-limit-clause-too_deep
returns-then-level-limit-clause-too_deep c =
    λ at e. let first : opening (reverse c.push.new.self.items) ≡ start_of c.args.text = rw (c.in_ok-push.ensures.items, c.new-stack.ensures.items, c.start_of-start.ensures) refl in let same : c.loop-symbol.at ≡ at = cc in let w : way (kind_at c.args.kinds.now c.loop-symbol.at) (alternatives c.in-Part.rule) ≡ takes c.in-Takes.body.now = rw (← c.kind_of_next.ensures) (sym c.in-Takes.ensures) in let s = pop_state (opening (reverse c.push.new.self.items)) c.args.limit c.args.kinds.now c.loop-symbol.stack.items c.pop.new.self.items c.in-Some.symbol (Part c.in-Part.rule) c.loop-symbol.events.items c.loop-symbol.at c.loop-symbol.level c.in-Some.ensures.items c.in-Part.is c.loop-symbol.invariant in let counted = c.levels_in-level.ensures.counted in rw first at (at_too_deep (opening (reverse c.push.new.self.items)) c.args.limit c.args.kinds.now c.loop-symbol.at at same (deep_taken (opening (reverse c.push.new.self.items)) c.args.limit c.args.kinds.now (reverse c.pop.new.self.items) c.loop-symbol.events.items c.loop-symbol.at c.loop-symbol.level kind.Assert (takes_within c.args.kinds.now c.loop-symbol.at c.in-Part.rule c.in-Takes.body.now w) c.in-Part.rule c.in-Takes.body.now w (omega arith) s))

pub returns-in-Refuses-clause-too_deep : goal.returns-in-Refuses-clause-too_deep
returns-in-Refuses-clause-too_deep c =
    λ at e. let first : opening (reverse c.push.new.self.items) ≡ start_of c.args.text = rw (c.in_ok-push.ensures.items, c.new-stack.ensures.items, c.start_of-start.ensures) refl in
    let is : c.refusal-in-Refuses.result ≡ TooDeep at = cc in
    let r = c.refusal-in-Refuses.ensures.too_deep at is in
    let w : way (kind_at c.args.kinds.now c.loop-symbol.at) (alternatives c.in-Part.rule) ≡ refuses = rw (← c.kind_of_next.ensures) (sym c.in-Refuses.ensures) in
    let s = pop_state (opening (reverse c.push.new.self.items)) c.args.limit c.args.kinds.now c.loop-symbol.stack.items c.pop.new.self.items c.in-Some.symbol (Part c.in-Part.rule) c.loop-symbol.events.items c.loop-symbol.at c.loop-symbol.level c.in-Some.ensures.items c.in-Part.is c.loop-symbol.invariant in
    rw first at (at_too_deep (opening (reverse c.push.new.self.items)) c.args.limit c.args.kinds.now c.loop-symbol.at at (sym r.0) (deep_refused (opening (reverse c.push.new.self.items)) c.args.limit c.args.kinds.now (reverse c.pop.new.self.items) c.loop-symbol.events.items c.loop-symbol.at c.loop-symbol.level kind.Assert r.1 c.in-Part.rule w r.2 s))

pub returns-in-Refuses-clause-syntax : goal.returns-in-Refuses-clause-syntax
returns-in-Refuses-clause-syntax c =
    λ at e. let first : opening (reverse c.push.new.self.items) ≡ start_of c.args.text = rw (c.in_ok-push.ensures.items, c.new-stack.ensures.items, c.start_of-start.ensures) refl in
    let is : c.refusal-in-Refuses.result ≡ Syntax at = cc in
    let r = c.refusal-in-Refuses.ensures.syntax at is in
    let w : way (kind_at c.args.kinds.now c.loop-symbol.at) (alternatives c.in-Part.rule) ≡ refuses = rw (← c.kind_of_next.ensures) (sym c.in-Refuses.ensures) in
    let s = pop_state (opening (reverse c.push.new.self.items)) c.args.limit c.args.kinds.now c.loop-symbol.stack.items c.pop.new.self.items c.in-Some.symbol (Part c.in-Part.rule) c.loop-symbol.events.items c.loop-symbol.at c.loop-symbol.level c.in-Some.ensures.items c.in-Part.is c.loop-symbol.invariant in
    rw first at (at_syntax (opening (reverse c.push.new.self.items)) c.args.limit c.args.kinds.now c.loop-symbol.at at (sym r.0) (syntax_part (opening (reverse c.push.new.self.items)) c.args.limit c.args.kinds.now (reverse c.pop.new.self.items) c.loop-symbol.events.items c.loop-symbol.at c.loop-symbol.level kind.Assert c.in-Part.rule w r.1 s))

pub returns-then-at-kinds-clause-syntax : goal.returns-then-at-kinds-clause-syntax
returns-then-at-kinds-clause-syntax c =
    λ at e. let first : opening (reverse c.push.new.self.items) ≡ start_of c.args.text = rw (c.in_ok-push.ensures.items, c.new-stack.ensures.items, c.start_of-start.ensures) refl in let same : c.loop-symbol.at ≡ at = cc in let s = same_state (opening (reverse c.push.new.self.items)) c.args.limit c.args.kinds.now (reverse c.loop-symbol.stack.items) [] c.loop-symbol.events.items c.loop-symbol.events.items c.loop-symbol.at c.loop-symbol.level c.loop-symbol.level (empty c.loop-symbol.stack.items c.loop-symbol.stack.len c.in_default.ensures.cases.0 c.loop-symbol.stack.ok.0) refl refl c.loop-symbol.invariant in let room : c.loop-symbol.at < length c.args.kinds.now = omega arith in rw first at (at_syntax (opening (reverse c.push.new.self.items)) c.args.limit c.args.kinds.now c.loop-symbol.at at same (syntax_over (opening (reverse c.push.new.self.items)) c.args.limit c.args.kinds.now [] c.loop-symbol.events.items c.loop-symbol.at c.loop-symbol.level kind.Assert room s))

pub returns-clause-ok : goal.returns-clause-ok
returns-clause-ok c =
    let first : opening (reverse c.push.new.self.items) ≡ start_of c.args.text = rw (c.in_ok-push.ensures.items, c.new-stack.ensures.items, c.start_of-start.ensures) refl in let s = same_state (opening (reverse c.push.new.self.items)) c.args.limit c.args.kinds.now (reverse c.loop-symbol.stack.items) [] c.loop-symbol.events.items c.loop-symbol.events.items c.loop-symbol.at c.loop-symbol.level c.loop-symbol.level (empty c.loop-symbol.stack.items c.loop-symbol.stack.len c.in_default.ensures.cases.0 c.loop-symbol.stack.ok.0) refl refl c.loop-symbol.invariant in let over : c.loop-symbol.at ≡ length c.args.kinds.now = omega (arith, c.loop-symbol.invariant.within) in rw first at (text_end (opening (reverse c.push.new.self.items)) c.args.limit c.args.kinds.now [] c.loop-symbol.events.items c.loop-symbol.at c.loop-symbol.level over s)

pub returns-clause-shallow : goal.returns-clause-shallow
returns-clause-shallow c =
    let first : opening (reverse c.push.new.self.items) ≡ start_of c.args.text = rw (c.in_ok-push.ensures.items, c.new-stack.ensures.items, c.start_of-start.ensures) refl in let s = same_state (opening (reverse c.push.new.self.items)) c.args.limit c.args.kinds.now (reverse c.loop-symbol.stack.items) [] c.loop-symbol.events.items c.loop-symbol.events.items c.loop-symbol.at c.loop-symbol.level c.loop-symbol.level (empty c.loop-symbol.stack.items c.loop-symbol.stack.len c.in_default.ensures.cases.0 c.loop-symbol.stack.ok.0) refl refl c.loop-symbol.invariant in let over : c.loop-symbol.at ≡ length c.args.kinds.now = omega (arith, c.loop-symbol.invariant.within) in rw first at (shallow_end (opening (reverse c.push.new.self.items)) c.args.limit c.args.kinds.now [] c.loop-symbol.events.items c.loop-symbol.at c.loop-symbol.level over s)
