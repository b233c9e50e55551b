-- Lets one after another, each scoped under those before it.
use Rattle.std.proofs.Common.{◌≡◌, ℕ, Bool, true, false, ◌&&◌, ◌||◌, ◌==◌, if◌then◌else◌, List, [], ◌∷◌, ◌++◌, refl, sym, subst}
use Rattle.std.proofs.lemmas.Bool.{and_from, or_left, or_right}
use Rattle.std.proofs.lemmas.Bool.Decides.{Decides-eqb}
use Rattle.lq_base_names.specs.declared.place.Place.{Place}
use Rattle.lq_text_tree.specs.Pattern.{Pattern, pattern, PatternForm, any, bind, nothing, tuple_of, build_of, Patterns, no_patterns, more_patterns, bound_in, bound_in_form, bound_in_all}
use Rattle.lq_text_tree.specs.Tree as form
use Rattle.lq_text_tree.specs.Tree.{Tree, tree, Trees}
use Rattle.lq_text_walk.specs.Scoped.Uses.{is_visible, is_parameter, is_scoped_tree}
use Rattle.lq_meaning_normal_form.specs.Outcomes.Flattening.{Let, let_one, let_function, put_in}
use Rattle.lq_meaning_normal_form.specs.Outcomes.Naming.{parameter, named_part, named_form, named_parts, named_pattern}
use Rattle.lq_meaning_normal_form.specs.Outcomes.OnePass.{Normal, tree_of, with_name, body_under}
use Rattle.lq_meaning_normal_form.specs.Types.Written.{Takes}
use Rattle.lq_sound_readiness.proofs.NormalScopeLemmas.Seeing.{Sub, sub-self, sub-then, sub-more, mono}

abbrev pub S : List ℕ → Tree → Type 0
S vs t = is_scoped_tree vs t ≡ true

abbrev pub Sees : List ℕ → List Let → Type 0
Sees vs [] = Unit {0}
Sees vs (let_one i p q e ∷ ls) = S vs e × Sees (bound_in q ++ vs) ls
Sees vs (let_function i p f j m q b ∷ ls) = (is_parameter q ≡ true) × S (bound_in q ++ f ∷ vs) b × Sees (f ∷ vs) ls

-- what is visible behind lets
abbrev pub after : List ℕ → List Let → List ℕ
after vs [] = vs
after vs (let_one i p q e ∷ ls) = after (bound_in q ++ vs) ls
after vs (let_function i p f j m q b ∷ ls) = after (f ∷ vs) ls

pub put : (vs : List ℕ) (ls : List Let) (t : Tree) → Sees vs ls → S (after vs ls) t → S vs (put_in ls t)
put vs [] t h s = s
put vs (let_one i p q e ∷ ls) t h s =
    and_from (is_scoped_tree vs e) (is_scoped_tree (bound_in q ++ vs) (put_in ls t)) h.0 (put (bound_in q ++ vs) ls t h.1 s)
put vs (let_function i p f j m q b ∷ ls) t h s =
    and_from (is_parameter q) (is_scoped_tree (bound_in q ++ f ∷ vs) b && is_scoped_tree (f ∷ vs) (put_in ls t)) h.0
    (and_from (is_scoped_tree (bound_in q ++ f ∷ vs) b) (is_scoped_tree (f ∷ vs) (put_in ls t)) h.1 (put (f ∷ vs) ls t h.2 s))

pub sub-after : (vs : List ℕ) (ls : List Let) → Sub vs (after vs ls)
sub-after vs [] = sub-self vs
sub-after vs (let_one i p q e ∷ ls) =
    sub-then vs (bound_in q ++ vs) (after (bound_in q ++ vs) ls) (sub-more (bound_in q) vs vs (sub-self vs)) (sub-after (bound_in q ++ vs) ls)
sub-after vs (let_function i p f j m q b ∷ ls) =
    sub-then vs (f ∷ vs) (after (f ∷ vs) ls) (sub-more (f ∷ []) vs vs (sub-self vs)) (sub-after (f ∷ vs) ls)

pub after-both : (vs : List ℕ) (ls ms : List Let) → after vs (ls ++ ms) ≡ after (after vs ls) ms
after-both vs [] ms = refl
after-both vs (let_one i p q e ∷ ls) ms = after-both (bound_in q ++ vs) ls ms
after-both vs (let_function i p f j m q b ∷ ls) ms = after-both (f ∷ vs) ls ms

pub sees-both : (vs : List ℕ) (ls ms : List Let) → Sees vs ls → Sees (after vs ls) ms → Sees vs (ls ++ ms)
sees-both vs [] ms h k = k
sees-both vs (let_one i p q e ∷ ls) ms h k = (h.0, sees-both (bound_in q ++ vs) ls ms h.1 k)
sees-both vs (let_function i p f j m q b ∷ ls) ms h k = (h.0, h.1, sees-both (f ∷ vs) ls ms h.2 k)

-- lets that are scoped, and a tree behind them
abbrev pub IsGood : List ℕ → List Let → Tree → Type 0
IsGood vs ls t = Sees vs ls × S (after vs ls) t

abbrev pub Good : List ℕ → Normal → Type 0
Good vs N = IsGood vs N.lets N.last

pub tree-good : (vs : List ℕ) (N : Normal) → Good vs N → S vs (tree_of N)
tree-good vs N h = put vs N.lets N.last h.0 h.1

-- more lets behind them
pub good-then : (vs : List ℕ) (ls ms : List Let) (t : Tree) → Sees vs ls → IsGood (after vs ls) ms t → IsGood vs (ls ++ ms) t
good-then vs ls ms t h k = (sees-both vs ls ms h k.0, subst (λ us. S us t) (sym (after-both vs ls ms)) k.1)

-- a tree still stands behind more lets
pub later : (vs : List ℕ) (ms : List Let) (t : Tree) → S vs t → S (after vs ms) t
later vs ms t s = mono t vs (after vs ms) (sub-after vs ms) s

first-seen : (x : ℕ) (vs : List ℕ) → is_visible (x ∷ vs) x ≡ true
first-seen x vs = or_left (x == x) (is_visible vs x) ((Decides-eqb x x).1 refl)

pub with-name-good : (vs : List ℕ) (i : ℕ) (p : Place) (N : Normal) → Good vs N → Good vs (with_name i p N)
with-name-good vs i p N h =
    good-then vs N.lets (let_one i p (pattern p (bind N.next)) N.last ∷ []) (tree i p (form.use_of N.next)) h.0 ((h.1, tt), first-seen N.next (after vs N.lets))

pub choose : (s : Bool) (vs : List ℕ) (i : ℕ) (p : Place) (N : Normal) → Good vs N → Good vs (if s then N else with_name i p N)
choose true vs i p N h = h
choose false vs i p N h = with-name-good vs i p N h

-- ---- patterns: with made names they bind the same and more

by-parts : (b r s : Bool) → (b ≡ true → s ≡ true) → (r ≡ true → s ≡ true) → (b || r) ≡ true → s ≡ true
by-parts true r s h k e = h refl
by-parts false r s h k e = k e

sub-front : (us vs : List ℕ) → Sub us (us ++ vs)
sub-front [] vs x h = cc
sub-front (u ∷ us) vs x h =
    by-parts (u == x) (is_visible us x) ((u == x) || is_visible (us ++ vs) x) (or_left (u == x) (is_visible (us ++ vs) x))
    (λ e. or_right (u == x) (is_visible (us ++ vs) x) (sub-front us vs x e)) h

both-sub : (xs ys us vs : List ℕ) → Sub xs us → Sub ys vs → Sub (xs ++ ys) (us ++ vs)
both-sub [] ys us vs h k z e = sub-then ys vs (us ++ vs) k (sub-more us vs vs (sub-self vs)) z e
both-sub (x ∷ xs) ys us vs h k z e =
    by-parts (x == z) (is_visible (xs ++ ys) z) (is_visible (us ++ vs) z)
    (λ is. sub-front us vs z (h z (or_left (x == z) (is_visible xs z) is)))
    (λ rest. both-sub xs ys us vs (λ w d. h w (or_right (x == w) (is_visible xs w) d)) k z rest) e

mutual
  part-sub : (q : Pattern) (k : ℕ) → Sub (bound_in q) (bound_in (named_part k q).pattern)
  part-sub (pattern p f) k = form-sub f k

  form-sub : (f : PatternForm) (k : ℕ) → Sub (bound_in_form f) (bound_in_form (named_form k f).form)
  form-sub any k = λ x h. cc
  form-sub (bind y) k = λ x h. h
  form-sub nothing k = λ x h. h
  form-sub (tuple_of qs) k = parts-sub qs k
  form-sub (build_of c o qs) k = parts-sub qs k

  parts-sub : (qs : Patterns) (k : ℕ) → Sub (bound_in_all qs) (bound_in_all (named_parts k qs).parts)
  parts-sub no_patterns k = λ x h. h
  parts-sub (more_patterns q qs) k =
      both-sub (bound_in q) (bound_in_all qs) (bound_in (named_part k q).pattern) (bound_in_all (named_parts (named_part k q).next qs).parts) (part-sub q k)
      (parts-sub qs (named_part k q).next)

pub pattern-sub : (q : Pattern) (k : ℕ) → Sub (bound_in q) (bound_in (named_pattern k q).pattern)
pattern-sub (pattern p any) k = sub-self []
pattern-sub (pattern p (bind x)) k = sub-self (x ∷ [])
pattern-sub (pattern p nothing) k = sub-self []
pattern-sub (pattern p (tuple_of qs)) k = form-sub (tuple_of qs) k
pattern-sub (pattern p (build_of c o qs)) k = form-sub (build_of c o qs) k

-- under a pattern
pub under-pattern : (q r : Pattern) (vs ws : List ℕ) → Sub (bound_in q) (bound_in r) → Sub vs ws → Sub (bound_in q ++ vs) (bound_in r ++ ws)
under-pattern q r vs ws h k = both-sub (bound_in q) vs (bound_in r) ws h k

pub parameter-sub : (q : Pattern) (k : ℕ) → Takes q → Sub (bound_in q) (bound_in (parameter k q))
parameter-sub (pattern p any) k takes x h = cc
parameter-sub (pattern p (bind y)) k takes x h = h
parameter-sub (pattern p nothing) k takes x h = cc
parameter-sub (pattern p (tuple_of qs)) k takes x h = cc
parameter-sub (pattern p (build_of c o qs)) k takes x h = cc

pub parameter-takes : (q : Pattern) (k : ℕ) → is_parameter (parameter k q) ≡ true
parameter-takes (pattern p any) k = refl
parameter-takes (pattern p (bind x)) k = refl
parameter-takes (pattern p nothing) k = refl
parameter-takes (pattern p (tuple_of qs)) k = refl
parameter-takes (pattern p (build_of c o qs)) k = refl

pub under-same : (q : Pattern) (k : ℕ) (N : Normal) → Takes q → body_under k q N ≡ N
under-same (pattern p any) k N takes = refl
under-same (pattern p (bind x)) k N takes = refl
under-same (pattern p nothing) k N takes = refl
under-same (pattern p (tuple_of qs)) k N takes = cc
under-same (pattern p (build_of c o qs)) k N takes = cc
