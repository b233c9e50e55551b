-- Lets with a last expression that obeys the rules.
use Rattle.std.proofs.Common.{◌≡◌, ℕ, Bool, true, false, if◌then◌else◌, List, [], ◌∷◌, ◌++◌, refl, sym, ◌∙◌, subst}
use Rattle.lq_base_names.specs.declared.place.Place.{Place}
use Rattle.lq_text_tree.specs.MlType.{MlType}
use Rattle.lq_text_tree.specs.Pattern.{pattern, bind}
use Rattle.lq_text_tree.specs.Tree.{Tree}
use Rattle.lq_text_tree.specs.Types.{Signature}
use Rattle.lq_text_tree.specs.TypingRules.{Annotation, PatternIs}
use Rattle.lq_text_walk.specs.Walk.Shape.{One, Two, Three}
use Rattle.lq_meaning_normal_form.specs.Outcomes.Flattening.{Let, let_one, let_function, put_in}
use Rattle.lq_meaning_normal_form.specs.Outcomes.OnePass.{Normal, tree_of, with_name}
use Rattle.lq_meaning_normal_form.specs.Types.Made.{Given, Gives}
use Rattle.lq_meaning_normal_form.specs.Types.Typing.{Uses, OneIs, TwoIs, ThreeIs, TakesAndGives, typing_of}

pub gives-both : (n : Annotation) (xs ys : Given) → Gives n (xs ++ ys) → Gives n xs × Gives n ys
gives-both n [] ys h = (tt, h)
gives-both n (x ∷ xs) ys h = let both = gives-both n xs ys h.1 in ((h.0, both.0), both.1)

module _ (g : Signature) (n : Annotation) (used : Uses) where
  abbrev pub LetIs : Let → Type 0
  LetIs (let_one i p q e) = PatternIs g n q (typing_of g n used e).type × (typing_of g n used e).obeys
  LetIs (let_function i p f j m q b) =
      (n.nodes j ≡ n.binders f) × TakesAndGives g n used q (typing_of g n used b).type (n.nodes j) × (typing_of g n used b).obeys

  abbrev pub LetsAre : List Let → Type 0
  LetsAre [] = Unit {0}
  LetsAre (l ∷ ls) = LetIs l × LetsAre ls

  pub lets-both : (ls ms : List Let) → LetsAre ls → LetsAre ms → LetsAre (ls ++ ms)
  lets-both [] ms h k = k
  lets-both (l ∷ ls) ms h k = (h.0, lets-both ls ms h.1 k)

  -- an expression that obeys the rules and has the type
  abbrev pub Fits : Tree → MlType → Type 0
  Fits t a = (typing_of g n used t).obeys × ((typing_of g n used t).type ≡ a)

  abbrev pub IsGood : List Let → Tree → MlType → Type 0
  IsGood ls t a = LetsAre ls × Fits t a

  abbrev pub Good : Normal → MlType → Type 0
  Good N a = IsGood N.lets N.last a

  pub put-good : (ls : List Let) (t : Tree) (a : MlType) → IsGood ls t a → Fits (put_in ls t) a
  put-good [] t a h = h.1
  put-good (let_one i p q e ∷ ls) t a h = let r = put-good ls t a (h.0.1, h.1) in ((h.0.0.0, h.0.0.1, r.0), r.1)
  put-good (let_function i p f j m q e ∷ ls) t a h = let r = put-good ls t a (h.0.1, h.1) in ((h.0.0.0, h.0.0.1, h.0.0.2, r.0), r.1)

  pub tree-good : (N : Normal) (a : MlType) → Good N a → Fits (tree_of N) a
  tree-good N a h = put-good N.lets N.last a h

  -- ---- nodes over parts that are good

  pub one-good : (h : One) (ls : List Let) (x : Tree) (a r : MlType) → IsGood ls x a → OneIs h a r
      → LetsAre ls × ((OneIs h (typing_of g n used x).type r × (typing_of g n used x).obeys) × (r ≡ r))
  one-good h ls x a r G rule = (G.0, ((subst (λ b. OneIs h b r) (sym G.1.1) rule, G.1.0), refl))

  pub two-good : (h : Two) (ls ms : List Let) (x y : Tree) (a b r : MlType) → IsGood ls x a → IsGood ms y b → TwoIs h a b r
      → LetsAre (ls ++ ms)
      × ((TwoIs h (typing_of g n used x).type (typing_of g n used y).type r × (typing_of g n used x).obeys × (typing_of g n used y).obeys) × (r ≡ r))
  two-good h ls ms x y a b r G H rule =
      let first = subst (λ c. TwoIs h c b r) (sym G.1.1) rule in
      (lets-both ls ms G.0 H.0, ((subst (λ c. TwoIs h (typing_of g n used x).type c r) (sym H.1.1) first, G.1.0, H.1.0), refl))

  pub three-rule : (h : Three) (x y z : Tree) (a b c r : MlType) → Fits x a → Fits y b → Fits z c → ThreeIs h a b c r
      → ThreeIs h (typing_of g n used x).type (typing_of g n used y).type (typing_of g n used z).type r
      × (typing_of g n used x).obeys × (typing_of g n used y).obeys × (typing_of g n used z).obeys
  three-rule h x y z a b c r F G H rule =
      let first = subst (λ d. ThreeIs h d b c r) (sym F.1) rule in
      let second = subst (λ d. ThreeIs h (typing_of g n used x).type d c r) (sym G.1) first in
      (subst (λ d. ThreeIs h (typing_of g n used x).type (typing_of g n used y).type d r) (sym H.1) second, F.0, G.0, H.0)

  -- ---- made names, each of which may be used at its own type

  module _ (own_use : (x : ℕ) → used x (n.binders x)) where
    pub with-name-good : (i : ℕ) (p : Place) (N : Normal) (a : MlType) → n.nodes i ≡ a → n.binders N.next ≡ a → Good N a → Good (with_name i p N) a
    with-name-good i p N a is given G =
        let name = lets-both N.lets (let_one i p (pattern p (bind N.next)) N.last ∷ []) G.0 ((given ∙ sym G.1.1, G.1.0), tt) in
        (name, (subst (used N.next) (given ∙ sym is) (own_use N.next), is))

    pub choose : (s : Bool) (i : ℕ) (p : Place) (N : Normal) (a : MlType) → n.nodes i ≡ a → Gives n (if s then [] else (N.next, n.nodes i) ∷ []) → Good N a
        → Good (if s then N else with_name i p N) a
    choose true i p N a is given G = G
    choose false i p N a is given G = with-name-good i p N a is (given.0 ∙ is) G
