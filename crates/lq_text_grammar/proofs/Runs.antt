-- A run from the start, so far: what is left to be read decides alone which texts go on.
use Rattle.std.specs.Prelude.{IsTrue}
use Rattle.std.proofs.Common.{◌≡◌, ℕ, suc, refl, sym, ap, ◌∙◌, true, false, Option, Some, None, List, [], ◌∷◌, ◌++◌, arith, append_assoc}
use Rattle.std.proofs.lemmas.List.{append-nil}
use Rattle.lq_text_grammar.specs.declared.kind.Kind.{Kind}
use Rattle.lq_text_grammar.specs.declared.rule.Rule.{Rule}
use Rattle.lq_text_grammar.specs.declared.symbol.Action.{Action}
use Rattle.lq_text_grammar.specs.declared.symbol.Symbol.{Symbol}
use Rattle.lq_text_grammar.specs.declared.symbol.Symbol.TheVariants.{Word, Part, Make, Leave}
use Rattle.lq_text_grammar.specs.declared.symbol.Event.{Event}
use Rattle.lq_text_grammar.specs.declared.symbol.Event.TheVariants as event
use Rattle.lq_text_grammar.specs.Grammar.{alternatives}
use Rattle.lq_text_grammar.specs.Reading.{next, IsText, Begins}
use Rattle.lq_text_grammar.specs.Levels.{takes, passes, refuses, way, is_token_way, waits, Leads, stays, word, takes_one, passes_on, makes, leaves, IsLevel, token_depth}
use Rattle.lq_text_grammar.proofs.Checked.{first_then, weigh}
use Rattle.lq_text_grammar.proofs.Completes.{Sound, completes}
use Rattle.lq_text_grammar.proofs.Plainly.{to_plain, from_plain}

pub un_pass : {n : Option Kind} {x : Rule} {ss zs : List Symbol} {es : List Event} (b : List Symbol) (us : List Kind) → way (next us n) (alternatives x) ≡ passes b → Leads n (Part x ∷ ss) us es zs → Leads n (b ++ ss) us es zs
un_pass b [] e (stays w) = let no_way : true ≡ false = sym w ∙ ap is_token_way e in absurd cc
un_pass b us e (passes_on c f d) = let same : c ≡ b = cc in rw (← same) d
un_pass b (t ∷ us) e (takes_one c f d) = absurd cc

-- where a token is taken, that is the first step
abbrev pub Taking : Option Kind → List Symbol → List Kind → List Event → List Symbol → Type 0
Taking n ss us es zs = (fs : List Event) × (es ≡ event.Take ∷ fs) × Leads n ss us fs zs

pub un_take : {n : Option Kind} {x : Rule} {ss zs : List Symbol} {es : List Event} {t : Kind} (b : List Symbol) (us : List Kind) → way (Some t) (alternatives x) ≡ takes b → Leads n (Part x ∷ ss) (t ∷ us) es zs → Taking n (b ++ ss) us es zs
un_take b us e (takes_one {es = fs} c f d) = let same : c ≡ b = cc in (fs, refl, rw (← same) d)
un_take b us e (passes_on c f d) = absurd cc

pub un_word : {n : Option Kind} {k : Kind} {ss zs : List Symbol} {es : List Event} {t : Kind} {us : List Kind} → Leads n (Word k ∷ ss) (t ∷ us) es zs → (k ≡ t) × Taking n ss us es zs
un_word (word {es = fs} t d) = (refl, (fs, refl, d))

pub un_make : {n : Option Kind} {a : Action} {ss zs : List Symbol} {us : List Kind} {es : List Event} → Leads n (Make a ∷ ss) us es zs → (fs : List Event) × (es ≡ event.Make a ∷ fs) × Leads n ss us fs zs
un_make (makes {es = fs} d) = (fs, refl, d)
un_make (stays w) = absurd cc

pub un_leave : {n : Option Kind} {ss zs : List Symbol} {us : List Kind} {es : List Event} → Leads n (Leave ∷ ss) us es zs → Leads n ss us es zs
un_leave (leaves d) = d
un_leave (stays w) = absurd cc

pub un_wait : {n : Option Kind} {ss zs : List Symbol} {es : List Event} → IsTrue (waits n ss) → Leads n ss [] es zs → zs ≡ ss
un_wait w (stays v) = refl
un_wait w (passes_on b e d) = let no_way : true ≡ false = sym w ∙ ap is_token_way e in absurd cc
un_wait w (makes d) = absurd cc
un_wait w (leaves d) = absurd cc

-- nothing goes on from where it is refused
refused : {n : Option Kind} {x : Rule} {ss : List Symbol} {es : List Event} (us : List Kind) → way (next us n) (alternatives x) ≡ refuses → Leads n (Part x ∷ ss) us es [] → ⊥
refused us e (passes_on b f d) = cc
refused (t ∷ us) e (takes_one b f d) = cc

not_word : {n : Option Kind} {k : Kind} {ss : List Symbol} {es : List Event} (us : List Kind) → (next us n ≡ Some k → ⊥) → Leads n (Word k ∷ ss) us es [] → ⊥
not_word us other (word t d) = other refl

-- These tokens have been read by these steps, these symbols are left, and cur is the kind of the next token: texts that go on with it go on
-- from here.
pub record Reached (start : Rule) (done : List Kind) (cur : Option Kind) (ss : List Symbol) (past : List Event) : Type 0 where
  pub there : (n : Option Kind) (us : List Kind) (es : List Event) (zs : List Symbol) → next us n ≡ cur → Leads n (Part start ∷ []) (done ++ us) es zs → (fs : List Event) × Leads n ss us fs zs
  pub back : (n : Option Kind) (us : List Kind) (fs : List Event) (zs : List Symbol) → next us n ≡ cur → Leads n ss us fs zs → Leads n (Part start ∷ []) (done ++ us) (past ++ fs) zs

module _ (start : Rule) where
  pub reached_start : (cur : Option Kind) → Reached start [] cur (Part start ∷ []) []
  reached_start cur = record { there = λ n us es zs e d. (es, d); back = λ n us fs zs e d. d }

  pub reached_pass : (done : List Kind) (cur : Option Kind) (x : Rule) (ss : List Symbol) (past : List Event) (b : List Symbol) → way cur (alternatives x) ≡ passes b → Reached start done cur (Part x ∷ ss) past → Reached start done cur (b ++ ss) past
  reached_pass done cur x ss past b e r = record {
    there = λ n us es zs at d. let q = r.there n us es zs at d in (q.0, un_pass b us (rw at e) q.1);
    back = λ n us fs zs at d. r.back n us fs zs at (passes_on b (rw at e) d);
  }

  pub reached_make : (done : List Kind) (cur : Option Kind) (a : Action) (ss : List Symbol) (past : List Event) → Reached start done cur (Make a ∷ ss) past → Reached start done cur ss (past ++ event.Make a ∷ [])
  reached_make done cur a ss past r = record {
    there = λ n us es zs at d. let q = r.there n us es zs at d in let u = un_make q.1 in (u.0, u.2);
    back = λ n us fs zs at d. rw append_assoc (r.back n us (event.Make a ∷ fs) zs at (makes d));
  }

  pub reached_leave : (done : List Kind) (cur : Option Kind) (ss : List Symbol) (past : List Event) → Reached start done cur (Leave ∷ ss) past → Reached start done cur ss past
  reached_leave done cur ss past r = record {
    there = λ n us es zs at d. let q = r.there n us es zs at d in (q.0, un_leave q.1);
    back = λ n us fs zs at d. r.back n us fs zs at (leaves d);
  }

  pub reached_take : (done : List Kind) (t : Kind) (x : Rule) (ss : List Symbol) (past : List Event) (b : List Symbol) → way (Some t) (alternatives x) ≡ takes b → Reached start done (Some t) (Part x ∷ ss) past → (cur : Option Kind) → Reached start (done ++ t ∷ []) cur (b ++ ss) (past ++ event.Take ∷ [])
  reached_take done t x ss past b e r cur = record {
    there = λ n us es zs at d. let q = r.there n (t ∷ us) es zs refl (rw append_assoc at d) in let u = un_take b us e q.1 in (u.0, u.2);
    back = λ n us fs zs at d. rw append_assoc (rw append_assoc (r.back n (t ∷ us) (event.Take ∷ fs) zs refl (takes_one b e d)));
  }

  pub reached_word : (done : List Kind) (t : Kind) (ss : List Symbol) (past : List Event) → Reached start done (Some t) (Word t ∷ ss) past → (cur : Option Kind) → Reached start (done ++ t ∷ []) cur ss (past ++ event.Take ∷ [])
  reached_word done t ss past r cur = record {
    there = λ n us es zs at d. let q = r.there n (t ∷ us) es zs refl (rw append_assoc at d) in let u = un_word q.1 in (u.1.0, u.1.2);
    back = λ n us fs zs at d. rw append_assoc (rw append_assoc (r.back n (t ∷ us) (event.Take ∷ fs) zs refl (word t d)));
  }

  -- what has been read begins a text
  pub begins_at : (done : List Kind) (ss : List Symbol) (past : List Event) → ((cur : Option Kind) → Reached start done cur ss past) → Sound ss → Begins start done
  begins_at done ss past r s =
      let e = completes (suc (weigh ss)) ss (omega arith) s in
      (e.0, past ++ e.1, to_plain ((r (first_then ss None)).back None e.0 e.1 [] e.2 e.3))

  -- where all is read and nothing is left, the tokens are a text
  pub ends_at : (done : List Kind) (past : List Event) → Reached start done None [] past → IsText start done past
  ends_at done past r = to_plain (rw append-nil at (rw append-nil at (r.back None [] [] [] refl (stays refl))))

  -- no text begins with the tokens and one of this kind
  pub no_token : (done : List Kind) (t : Kind) (ss : List Symbol) (past : List Event) → ((us : List Kind) (fs : List Event) → Leads None ss (t ∷ us) fs [] → ⊥) → Reached start done (Some t) ss past → Begins start (done ++ t ∷ []) → ⊥
  no_token done t ss past none r (us, es, d) = let q = r.there None (t ∷ us) es [] refl (rw append_assoc at (from_plain d)) in none us q.0 q.1

  pub no_end : (done : List Kind) (ss : List Symbol) (past : List Event) → ((fs : List Event) → Leads None ss [] fs [] → ⊥) → Reached start done None ss past → (es : List Event) → IsText start done es → ⊥
  no_end done ss past none r es d = let q = r.there None [] es [] refl (rw (append-nil done) (from_plain d)) in none q.0 q.1

  -- the level of the next token
  pub level_at : (done : List Kind) (k : Kind) (ss : List Symbol) (past : List Event) → IsTrue (waits (Some k) ss) → Reached start done (Some k) ss past → IsLevel start done k (token_depth k ss)
  level_at done k ss past w r = (ss, past, rw append-nil at (rw append-nil at (r.back (Some k) [] [] ss refl (stays w))), refl)

  pub level_is : (done : List Kind) (k : Kind) (ss : List Symbol) (past : List Event) (l : ℕ) → IsTrue (waits (Some k) ss) → Reached start done (Some k) ss past → IsLevel start done k l → l ≡ token_depth k ss
  level_is done k ss past l w r (zs, es, d, e) = let q = r.there (Some k) [] es zs refl (rw (append-nil done) d) in e ∙ ap (token_depth k) (un_wait w q.1)

pub refused_at : (x : Rule) (ss : List Symbol) (us : List Kind) (es : List Event) → way (next us None) (alternatives x) ≡ refuses → Leads None (Part x ∷ ss) us es [] → ⊥
refused_at x ss us es e d = refused us e d

pub other_word_at : (k : Kind) (ss : List Symbol) (us : List Kind) (es : List Event) → (next us None ≡ Some k → ⊥) → Leads None (Word k ∷ ss) us es [] → ⊥
other_word_at k ss us es e d = not_word us e d

pub over_at : (t : Kind) (us : List Kind) (es : List Event) → Leads None [] (t ∷ us) es [] → ⊥
over_at t us es d = elim d [ ]
