-- The levels that a reading has are those of its tokens.
use Rattle.std.specs.Prelude.{⊤, ◌↔◌}
use Rattle.std.proofs.Common.{◌≡◌, ℕ, suc, zero, refl, ap, Some, None, List, [], ◌∷◌, ◌++◌, append_assoc, length, take, get_or}
use Rattle.std.proofs.lemmas.List.{append-nil}
use Rattle.lq_text_grammar.specs.declared.kind.Kind.{Kind}
use Rattle.lq_text_grammar.specs.declared.rule.Rule.{Rule}
use Rattle.lq_text_grammar.specs.declared.symbol.Symbol.{Symbol}
use Rattle.lq_text_grammar.specs.declared.symbol.Symbol.TheVariants.{Word, Part}
use Rattle.lq_text_grammar.specs.declared.symbol.Event.{Event}
use Rattle.lq_text_grammar.specs.declared.symbol.Event.TheVariants as event
use Rattle.lq_text_grammar.specs.Grammar.{begins, before, otherwise, alternatives}
use Rattle.lq_text_grammar.specs.Reading.{next, IsText, Reads, over, word, part, make, leave}
use Rattle.lq_text_grammar.specs.Levels.{Way, takes, way, depth, way_depth, is_token_way, token_depth, kind_at, IsLevel, levels_of}
use Rattle.lq_text_grammar.proofs.Plainly.{from_plain, chosen}
use Rattle.lq_text_grammar.proofs.Runs.{Reached, reached_start, reached_pass, reached_make, reached_leave, reached_take, reached_word, level_at}
use Rattle.lq_text_grammar.proofs.Unique.{one_level}

-- behind these tokens the others have these levels, in their order
abbrev Stand : Rule → List Kind → List Kind → List ℕ → Type 0
Stand start done [] [] = ⊤
Stand start done (k ∷ ks) (l ∷ ls) = IsLevel start done k l × Stand start (done ++ k ∷ []) ks ls
Stand start done _ _ = ⊥

stand : (start : Rule) (done : List Kind) {ss : List Symbol} {ks : List Kind} {es : List Event} (past : List Event) (d : Reads ss ks es) → Reached start done (next ks None) ss past → Stand start done ks (levels_of d)
stand start done past over r = tt
stand start done past (word {ss = ss} {ks = ks} k d) r =
    (level_at start done k (Word k ∷ ss) past refl r, stand start (done ++ k ∷ []) (past ++ event.Take ∷ []) d (reached_word start done k ss past r (next ks None)))
stand start done past (part {x = x} {ss = ss} (begins k b) o g (word {ks = ks} _ d)) r =
    let e : way (Some k) (alternatives x) ≡ takes b = chosen x ss (begins k b) o g (from_plain (word k d)) in
    let deep : token_depth k (Part x ∷ ss) ≡ depth (b ++ ss) = ap (λ (w : Way). way_depth w ss) e in
    let here : IsLevel start done k (token_depth k (Part x ∷ ss)) = level_at start done k (Part x ∷ ss) past (ap is_token_way e) r in
    (rw deep at here, stand start (done ++ k ∷ []) (past ++ event.Take ∷ []) d (reached_take start done k x ss past b e r (next ks None)))
stand start done past (part {x = x} {ss = ss} {ks = ks} (before js b) o g d) r =
    stand start done past d (reached_pass start done (next ks None) x ss past b (chosen x ss (before js b) o g (from_plain d)) r)
stand start done past (part {x = x} {ss = ss} {ks = ks} (otherwise b) o g d) r =
    stand start done past d (reached_pass start done (next ks None) x ss past b (chosen x ss (otherwise b) o g (from_plain d)) r)
stand start done {ks = ks} past (make {a = a} {ss = ss} d) r = stand start done (past ++ event.Make a ∷ []) d (reached_make start done (next ks None) a ss past r)
stand start done {ks = ks} past (leave {ss = ss} d) r = stand start done past d (reached_leave start done (next ks None) ss past r)

at_place : (start : Rule) (done ks : List Kind) (ls : List ℕ) (j : ℕ) (k : Kind) → Stand start done ks ls → kind_at ks j ≡ Some k → IsLevel start (done ++ take j ks) k (get_or ls j 0)
at_place start done [] ls zero k s e = absurd cc
at_place start done [] ls (suc j) k s e = absurd cc
at_place start done (i ∷ ks) [] j k s e = absurd s
at_place start done (i ∷ ks) (l ∷ ls) zero k s e = let same : i ≡ k = cc in rw (append-nil, ← same) s.0
at_place start done (i ∷ ks) (l ∷ ls) (suc j) k s e = rw append_assoc at (at_place start (done ++ i ∷ []) ks ls j k s.1 e)

level_of_reading : (start : Rule) (ks : List Kind) (es : List Event) (d : IsText start ks es) (j : ℕ) (k : Kind) → kind_at ks j ≡ Some k → IsLevel start (take j ks) k (get_or (levels_of d) j 0)
level_of_reading start ks es d j k e = at_place start [] ks (levels_of d) j k (stand start [] [] d (reached_start start (next ks None))) e

pub same_level : (start : Rule) (ks : List Kind) (es : List Event) (d : IsText start ks es) (j : ℕ) (k : Kind) (l : ℕ) → kind_at ks j ≡ Some k → IsLevel start (take j ks) k l ↔ (l ≡ get_or (levels_of d) j 0)
same_level start ks es d j k l e =
    let there = level_of_reading start ks es d j k e in
    (λ level. one_level start (take j ks) k l (get_or (levels_of d) j 0) level there, λ is. rw is there)

pub same_length : {ss : List Symbol} {ks : List Kind} {es : List Event} (d : Reads ss ks es) → length (levels_of d) ≡ length ks
same_length over = refl
same_length (word k d) = ap suc (same_length d)
same_length (part a o g d) = same_length d
same_length (make d) = same_length d
same_length (leave d) = same_length d
