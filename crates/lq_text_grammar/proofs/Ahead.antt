-- Behind tokens that begin a text each token has a level.
use Rattle.std.proofs.Common.{◌≡◌, ℕ, suc, zero, ◌+◌, ◌<◌, refl, ap, subst, true, cond, Option, Some, None, List, [], ◌∷◌, ◌++◌, arith}
use Rattle.lq_text_grammar.specs.declared.kind.Kind.{Kind}
use Rattle.lq_text_grammar.specs.declared.rule.Rule.{Rule}
use Rattle.lq_text_grammar.specs.declared.rule.Rule.TheVariants.{InProgram, InType, InBinding, InExpression, InPattern, InEntry, InPred}
use Rattle.lq_text_grammar.specs.declared.rule.ProgramPart.TheVariants.{Program}
use Rattle.lq_text_grammar.specs.declared.rule.TypePart.TheVariants.{WholeType}
use Rattle.lq_text_grammar.specs.declared.rule.BindingPart.TheVariants.{RecBind}
use Rattle.lq_text_grammar.specs.declared.rule.ExpressionPart.TheVariants.{Seq}
use Rattle.lq_text_grammar.specs.declared.rule.PatternPart.TheVariants.{Pattern}
use Rattle.lq_text_grammar.specs.declared.rule.EntryPart.TheVariants.{Quals}
use Rattle.lq_text_grammar.specs.declared.rule.PredPart.TheVariants.{Predicate}
use Rattle.lq_text_grammar.specs.declared.symbol.Symbol.{Symbol}
use Rattle.lq_text_grammar.specs.declared.symbol.Symbol.TheVariants.{Word, Part, Make, Leave}
use Rattle.lq_text_grammar.specs.declared.symbol.Event.{Event}
use Rattle.lq_text_grammar.specs.declared.symbol.Event.TheVariants as event
use Rattle.lq_text_grammar.specs.Grammar.{alternatives}
use Rattle.lq_text_grammar.specs.Reading.{next, Begins}
use Rattle.lq_text_grammar.specs.Levels.{Way, takes, passes, refuses, way, is_token_way, Leads, stays, word, takes_one, passes_on, makes, leaves, IsLevel, token_depth}
use Rattle.lq_text_grammar.proofs.Facts.{follow}
use Rattle.lq_text_grammar.proofs.Checked.{among, fine, weigh, commits, lighter}
use Rattle.lq_text_grammar.proofs.Found.{both, passes_found, weigh-append}
use Rattle.lq_text_grammar.proofs.Plainly.{from_plain}
use Rattle.lq_text_grammar.proofs.States.{cond_small, light_enough}

first_of : List (Option Kind) → Option Kind
first_of [] = None
first_of (f ∷ fs) = f

-- each part is followed by something
followed : (x : Rule) → among (first_of (follow x)) (follow x) ≡ true
unfolding first_of
followed (InProgram Program) = refl
followed (InProgram _) = refl
followed (InType WholeType) = refl
followed (InType _) = refl
followed (InBinding RecBind) = refl
followed (InBinding _) = refl
followed (InExpression Seq) = refl
followed (InExpression _) = refl
followed (InPattern Pattern) = refl
followed (InPattern _) = refl
followed (InEntry Quals) = refl
followed (InEntry _) = refl
followed (InPred Predicate) = refl
followed (InPred _) = refl

passes_lighter : (x : Rule) (n : Option Kind) (b : List Symbol) → way n (alternatives x) ≡ passes b → lighter x b ≡ true
passes_lighter x n b e = (both (fine b (first_of (follow x))) (lighter x b) (passes_found x (first_of (follow x)) n b (followed x) e)).1

-- what is still to be read comes to where the next token is waited for
comes : (w : ℕ) (n : Option Kind) (ss : List Symbol) → weigh ss + cond (commits ss) 0 40 < w → (zs : List Symbol) × (es : List Event) × Leads n ss [] es zs
comes zero n ss small = absurd (omega arith)
comes (suc w) n [] small = ([], [], stays refl)
comes (suc w) n (Word k ∷ ss) small = (Word k ∷ ss, [], stays refl)
comes (suc w) n (Make a ∷ ss) small =
    let r = comes w n ss (omega (arith, cond_small (commits ss))) in
    (r.0, event.Make a ∷ r.1, makes r.2)
comes (suc w) n (Leave ∷ ss) small =
    let r = comes w n ss (omega (arith, cond_small (commits ss))) in
    (r.0, r.1, leaves r.2)
comes (suc w) n (Part x ∷ ss) small = go (way n (alternatives x)) refl (comes w n)
  where
    go : (W : Way) → way n (alternatives x) ≡ W → ((us : List Symbol) → weigh us + cond (commits us) 0 40 < w → (zs : List Symbol) × (es : List Event) × Leads n us [] es zs) → (zs : List Symbol) × (es : List Event) × Leads n (Part x ∷ ss) [] es zs
    go (takes b) is again = (Part x ∷ ss, [], stays (ap is_token_way is))
    go refuses is again = (Part x ∷ ss, [], stays (ap is_token_way is))
    go (passes b) is again =
        let r = again (b ++ ss) (omega (arith, weigh-append b ss, light_enough x b ss (passes_lighter x n b is))) in
        (r.0, r.1, passes_on b is r.2)

-- tokens that begin a text lead somewhere, whatever comes next
front : {ss ys : List Symbol} {es : List Event} {all : List Kind} (k : Kind) (ks us : List Kind) → all ≡ ks ++ us → Leads None ss all es ys → (zs : List Symbol) × (fs : List Event) × Leads (Some k) ss ks fs zs
front {ss = ss} k [] us e d = comes (suc (weigh ss + cond (commits ss) 0 40)) (Some k) ss (omega arith)
front k (u ∷ ks) us e (stays w) = absurd cc
front k (u ∷ ks) us e (word {ss = ss} {ks = rest} t d) =
    let same : t ≡ u = cc in
    let more : rest ≡ ks ++ us = cc in
    let r = front k ks us more d in
    (r.0, event.Take ∷ r.1, subst (λ (a : Kind). Leads (Some k) (Word t ∷ ss) (a ∷ ks) (event.Take ∷ r.1) r.0) same (word t r.2))
front k (u ∷ ks) us e (takes_one {x = x} {ss = ss} {k = t} {ks = rest} b f d) =
    let same : t ≡ u = cc in
    let more : rest ≡ ks ++ us = cc in
    let r = front k ks us more d in
    (r.0, event.Take ∷ r.1, subst (λ (a : Kind). Leads (Some k) (Part x ∷ ss) (a ∷ ks) (event.Take ∷ r.1) r.0) same (takes_one b f r.2))
front k (u ∷ ks) us e (passes_on {x = x} {ss = ss} {ks = all} b f d) =
    let r = front k (u ∷ ks) us e d in
    let first : next all None ≡ Some u = ap (λ (l : List Kind). next l None) e in
    (r.0, r.1, passes_on b (rw first at f) r.2)
front k (u ∷ ks) us e (makes {a = a} d) = let r = front k (u ∷ ks) us e d in (r.0, event.Make a ∷ r.1, makes r.2)
front k (u ∷ ks) us e (leaves d) = let r = front k (u ∷ ks) us e d in (r.0, r.1, leaves r.2)

pub some_level : (start : Rule) (ks : List Kind) (k : Kind) → Begins start ks → (l : ℕ) × IsLevel start ks k l
some_level start ks k (us, es, d) =
    let r = front k ks us refl (from_plain d) in
    (token_depth k r.0, (r.0, r.1, r.2, refl))
