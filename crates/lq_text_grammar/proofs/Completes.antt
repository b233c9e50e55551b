-- Whatever is still to be read has a shortest reading.
use Rattle.std.proofs.Common.{◌≡◌, ℕ, suc, zero, ◌+◌, ◌<◌, refl, ◌∙◌, true, Option, Some, None, List, [], ◌∷◌, ◌++◌, arith}
use Rattle.std.proofs.Math.Dec.{ltb}
use Rattle.std.proofs.lemmas.Bool.{ltb-true}
use Rattle.lq_text_grammar.specs.declared.kind.Kind.{Kind}
use Rattle.lq_text_grammar.specs.declared.rule.Rule.{Rule}
use Rattle.lq_text_grammar.specs.declared.symbol.Symbol.{Symbol}
use Rattle.lq_text_grammar.specs.declared.symbol.Symbol.TheVariants.{Word, Part, Make, Leave}
use Rattle.lq_text_grammar.specs.declared.symbol.Event.{Event}
use Rattle.lq_text_grammar.specs.declared.symbol.Event.TheVariants as event
use Rattle.lq_text_grammar.specs.Grammar.{alternatives}
use Rattle.lq_text_grammar.specs.Reading.{next}
use Rattle.lq_text_grammar.specs.Levels.{Way, takes, passes, refuses, way, Leads, stays, word, takes_one, passes_on, makes, leaves}
use Rattle.lq_text_grammar.proofs.Facts.{lead, follow, weight}
use Rattle.lq_text_grammar.proofs.SameKind.{same_next, same_next-eq}
use Rattle.lq_text_grammar.proofs.Checked.{or_next, first_then, among, fine, weigh, lighter, ends_well}
use Rattle.lq_text_grammar.proofs.Found.{both, takes_found, passes_found, ends_found, first_then-append, fine-append, weigh-append}

-- what is to be read has readings
abbrev pub Sound : List Symbol → Type 0
Sound ss = fine ss None ≡ true

pub passed : (x : Rule) (ss b : List Symbol) (n : Option Kind) → way n (alternatives x) ≡ passes b → Sound (Part x ∷ ss) → Sound (b ++ ss)
passed x ss b n e s =
    let p = both (among (first_then ss None) (follow x)) (fine ss None) s in
    let q = both (fine b (first_then ss None)) (lighter x b) (passes_found x (first_then ss None) n b p.0 e) in
    fine-append b ss None q.0 p.1

pub taken : (x : Rule) (ss b : List Symbol) (k : Kind) → way (Some k) (alternatives x) ≡ takes b → Sound (Part x ∷ ss) → Sound (b ++ ss)
taken x ss b k e s =
    let p = both (among (first_then ss None) (follow x)) (fine ss None) s in
    let q = both (fine b (first_then ss None)) (ltb (weigh b) (40 + weight x)) (takes_found x (first_then ss None) k b p.0 e) in
    fine-append b ss None q.0 p.1

abbrev pub Ending : List Symbol → Type 0
Ending ss = (ks : List Kind) × (es : List Event) × (next ks None ≡ first_then ss None) × Leads None ss ks es []

abbrev Endings : ℕ → Type 0
Endings w = (ss : List Symbol) → weigh ss < w → Sound ss → Ending ss

part_ends : (w : ℕ) (x : Rule) (ss : List Symbol) → weight x + weigh ss < suc w → Sound (Part x ∷ ss) → Endings w
    → (n : Option Kind) (W : Way) → n ≡ or_next (lead x) (first_then ss None) → way n (alternatives x) ≡ W → ends_well x (first_then ss None) n W ≡ true → Ending (Part x ∷ ss)
part_ends w x ss small s again n refuses at is e = absurd cc
part_ends w x ss small s again None (takes b) at is e = absurd cc
part_ends w x ss small s again (Some k) (takes b) at is e =
    let lower : weigh b < weight x = ltb-true (weigh b) (weight x) e in
    let r = again (b ++ ss) (rw (weigh-append b ss) (omega arith)) (taken x ss b k is s) in
    (k ∷ r.0, event.Take ∷ r.1, at, takes_one b is r.3)
part_ends w x ss small s again n (passes b) at is e =
    let p = both (ltb (weigh b) (weight x)) (same_next (first_then b (first_then ss None)) n) e in
    let lower : weigh b < weight x = ltb-true (weigh b) (weight x) p.0 in
    let r = again (b ++ ss) (rw (weigh-append b ss) (omega arith)) (passed x ss b n is s) in
    let starts : next r.0 None ≡ n = r.2 ∙ first_then-append b ss None ∙ same_next-eq (first_then b (first_then ss None)) n p.1 in
    (r.0, r.1, starts ∙ at, passes_on b (rw starts is) r.3)

pub completes : (w : ℕ) (ss : List Symbol) → weigh ss < w → Sound ss → Ending ss
completes zero ss small s = absurd (omega arith)
completes (suc w) [] small s = ([], [], refl, stays refl)
completes (suc w) (Word k ∷ ss) small s =
    let r = completes w ss (omega arith) s in
    (k ∷ r.0, event.Take ∷ r.1, refl, word k r.3)
completes (suc w) (Part x ∷ ss) small s =
    let p = both (among (first_then ss None) (follow x)) (fine ss None) s in
    part_ends w x ss small s (completes w) (or_next (lead x) (first_then ss None)) (way (or_next (lead x) (first_then ss None)) (alternatives x)) refl refl (ends_found x (first_then ss None) p.0)
completes (suc w) (Make a ∷ ss) small s =
    let r = completes w ss (omega arith) s in
    (r.0, event.Make a ∷ r.1, r.2, makes r.3)
completes (suc w) (Leave ∷ ss) small s =
    let r = completes w ss (omega arith) s in
    (r.0, r.1, r.2, leaves r.3)
