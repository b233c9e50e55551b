-- A reading of tokens whose levels are within the limit opens no more levels.
use Rattle.std.proofs.Common.{◌≡◌, ℕ, ◌<◌, ◌≤◌, refl, ap, None, List, [], ◌∷◌, ◌++◌, arith, append_assoc, length, take, drop}
use Rattle.lq_text_grammar.specs.declared.kind.Kind.{Kind}
use Rattle.lq_text_grammar.specs.declared.rule.Rule.{Rule}
use Rattle.lq_text_grammar.specs.declared.symbol.Symbol.{Symbol}
use Rattle.lq_text_grammar.specs.declared.symbol.Symbol.TheVariants.{Word, Part}
use Rattle.lq_text_grammar.specs.declared.symbol.Event.{Event}
use Rattle.lq_text_grammar.specs.declared.symbol.Event.TheVariants as event
use Rattle.lq_text_grammar.specs.Reading.{next, IsText}
use Rattle.lq_text_grammar.specs.Levels as levels
use Rattle.lq_text_grammar.specs.Levels.{Way, takes, passes, refuses, way, Leads, stays, word, takes_one, passes_on, makes, leaves, depth, way_depth, is_token_way, token_depth, kind_at, IsLevel, IsShallow, Within}
use Rattle.lq_text_grammar.proofs.Runs.{Reached, reached_start, reached_pass, reached_make, reached_leave, reached_take, reached_word, level_at}
use Rattle.lq_text_grammar.proofs.Plainly.{from_plain}

before_it : (done rest : List Kind) → take (length done) (done ++ rest) ≡ done
before_it [] rest = refl
before_it (k ∷ done) rest = ap (λ (l : List Kind). k ∷ l) (before_it done rest)

behind_it : (done rest : List Kind) → drop (length done) (done ++ rest) ≡ rest
behind_it [] rest = refl
behind_it (k ∷ done) rest = behind_it done rest

inside : (done : List Kind) (k : Kind) (ks : List Kind) → length done < length (done ++ k ∷ ks)
inside [] k ks = omega arith
inside (j ∷ done) k ks = omega (arith, inside done k ks)

-- no token of these has a level above the limit
abbrev Calm : Rule → ℕ → List Kind → Type 0
Calm start limit ks = IsShallow start limit ks (length ks)

level_here : (start : Rule) (limit : ℕ) (done : List Kind) (k : Kind) (ks : List Kind) (l : ℕ) → Calm start limit (done ++ k ∷ ks) → IsLevel start done k l → l ≤ limit
level_here start limit done k ks l calm level =
    calm (length done) k l (inside done k ks) (rw (behind_it done (k ∷ ks)) refl) (rw (before_it done (k ∷ ks)) level)

within_from : (start : Rule) (limit : ℕ) (done : List Kind) {ss : List Symbol} {ks : List Kind} {es : List Event} (past : List Event) → Leads None ss ks es [] → Reached start done (next ks None) ss past → Calm start limit (done ++ ks) → Within limit ss ks es
within_from start limit done past (stays w) r calm = levels.over
within_from start limit done past (word {ss = ss} {ks = ks} k d) r calm =
    let small : depth ss ≤ limit = level_here start limit done k ks (depth ss) calm (level_at start done k (Word k ∷ ss) past refl r) in
    levels.word k small (within_from start limit (done ++ k ∷ []) (past ++ event.Take ∷ []) d (reached_word start done k ss past r (next ks None)) (rw append_assoc calm))
within_from start limit done past (takes_one {x = x} {ss = ss} {k = k} {ks = ks} b e d) r calm =
    let deep : token_depth k (Part x ∷ ss) ≡ depth (b ++ ss) = ap (λ (w : Way). way_depth w ss) e in
    let small = level_here start limit done k ks (token_depth k (Part x ∷ ss)) calm (level_at start done k (Part x ∷ ss) past (ap is_token_way e) r) in
    let low : depth (b ++ ss) ≤ limit = rw deep at small in
    levels.takes_one b e low (within_from start limit (done ++ k ∷ []) (past ++ event.Take ∷ []) d (reached_take start done k x ss past b e r (next ks None)) (rw append_assoc calm))
within_from start limit done {ks = ks} past (passes_on {x = x} {ss = ss} b e d) r calm =
    levels.passes_on b e (within_from start limit done past d (reached_pass start done (next ks None) x ss past b e r) calm)
within_from start limit done {ks = ks} past (makes {a = a} {ss = ss} d) r calm =
    levels.makes (within_from start limit done (past ++ event.Make a ∷ []) d (reached_make start done (next ks None) a ss past r) calm)
within_from start limit done {ks = ks} past (leaves {ss = ss} d) r calm =
    levels.leaves (within_from start limit done past d (reached_leave start done (next ks None) ss past r) calm)

pub within_limit : (start : Rule) (limit : ℕ) (ks : List Kind) (es : List Event) → IsText start ks es → IsShallow start limit ks (length ks) → Within limit (Part start ∷ []) ks es
within_limit start limit ks es d calm = within_from start limit [] [] (from_plain d) (reached_start start (next ks None)) calm
