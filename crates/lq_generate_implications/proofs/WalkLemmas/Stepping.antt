-- Items that are gone through, one after another.
use Rattle.std.proofs.Common.{◌≡◌, ℕ, ◌+◌, ◌<◌, cond, List, [], ◌∷◌, ◌++◌, length, map, take, get_or, refl, sym, ap, subst, append_assoc, ◌∙◌, arith}
use Rattle.std.proofs.lemmas.List.{append-nil, take_more}
use Rattle.std.proofs.lemmas.List.Elements.{All-same}
use Rattle.lq_generate_implications.specs.Obligations.Views as asked
use Rattle.lq_generate_implications.specs.Obligations.Views.{all_stated, stated}
use Rattle.lq_refined_rules.specs.Checks.Basis as checks
use Rattle.lq_refined_rules.specs.Checks.Listing.{from}
use Rattle.lq_refined_rules.specs.Checks.Operation.{bind, last_context, last_type}
use Rattle.lq_refined_rules.specs.Checks.Tree as t
use Rattle.lq_refined_rules.specs.Checks.Tree.{define, has_template}
use Rattle.lq_refined_substitution.specs.Implications.Views.{environment_in, environment_lists}
use Rattle.lq_base_names.specs.declared.place.Place.{Place}
use Rattle.lq_refined_rules.specs.Obligations.Obligation.{Obligation}
use Rattle.lq_refined_rules.specs.Obligations.Obligations.{obligations_of, of_definition, of_given, subtyping}
use Rattle.lq_refined_templates.specs.Programs.BlockView.{item_view, program_view}
use Rattle.lq_refined_templates.specs.declared.programs.block.Item.{Item}
use Rattle.lq_refined_types.specs.Types.Context.{Context}
use Rattle.lq_refined_subtyping.specs.Table.Whole.{count_of, refined_at}
use Rattle.lq_refined_types.specs.Subtyping.Implication.{of_flow}
use Rattle.lq_generate_operations.specs.Basis.Basis.{scopes_of, types_in, IsThere, Stands}
use Rattle.lq_generate_operations.specs.Basis.Growing.{are_below-nothing, knows-nothing}
use Rattle.lq_generate_operations.specs.Basis.Names.{bound}
use Rattle.lq_generate_operations.specs.declared.basis.basis.Basis.{Basis}
use Rattle.lq_generate_operations.specs.declared.basis.names.Names.{Names}
use Rattle.lq_generate_implications.specs.Walk.Asking.{stated_in, Adds, Asks, InContext, IsSound}
use Rattle.lq_generate_implications.specs.Walk.Through.{Ends, Enters, Steps, StandsAs}
use Rattle.lq_generate_implications.specs.declared.walk.walk.Walk.{Walk}
use Rattle.lq_generate_implications.proofs.WalkLemmas.Walks.{adds-before, adds-trans, in_context-moved}
use Rattle.lq_generate_implications.proofs.WalkLemmas.Opening.{in_context-entered, moves-left, named, opens-moves, opens-trans}

-- items, and the program behind them
abbrev pub items_on : List Item → t.Program → t.Program
items_on [] rest = rest
items_on (i ∷ is) rest = item_view i (items_on is rest)

pub items-append : (xs ys : List Item) (rest : t.Program) → items_on (xs ++ ys) rest ≡ items_on xs (items_on ys rest)
items-append [] ys rest = refl
items-append (x ∷ xs) ys rest = ap (item_view x) (items-append xs ys rest)

pub items-whole : (is : List Item) → program_view is ≡ items_on is t.no_items
items-whole [] = refl
items-whole (i ∷ is) = ap (item_view i) (items-whole is)

-- one item more
pub items-more : (is : List Item) (i : ℕ) (x : Item) (rest : t.Program) → i < length is → x ≡ get_or is i x
    → items_on (take i is) (item_view x rest) ≡ items_on (take (i + 1) is) rest
items-more is i x rest h e =
    ap (λ y. items_on (take i is) (item_view y rest)) e
    ∙ sym (ap (λ l. items_on l rest) (take_more is i x h) ∙ items-append (take i is) (get_or is i x ∷ []) rest)

module _ (b : Basis) where
  pub steps-as : (w v : Walk) (from env : ℕ) (is js : t.Program → t.Program) → ((x : t.Program) → is x ≡ js x) → Steps b w v from env is → Steps b w v from env js
  steps-as w v from env is js e p = record {
    opens = p.opens;
    stepped = λ P Γ h.
        let k = p.stepped P Γ h in
        record {
          context = k.context;
          obligations = k.obligations;
          steps = λ rest. ap (obligations_of P Γ) (sym (e rest)) ∙ k.steps rest;
          adds = k.adds;
          stands = k.stands;
        };
  }

  -- the obligations of the first block of a program that lets its names go
  pub asks-ended : (w v : Walk) (n : Names) (from env row : ℕ) (block : t.Block) → IsSound b w from → Ends b w v from env row block → bound n ≡ bound w.names
      → Asks b w (named v n) from (λ P Γ. of_given P Γ block)
  asks-ended w v n from env row block s e k = record { moves = moves-left b w from s v n env e.opens k; added = λ P Γ h. (e.ended P Γ h).adds }

  module _ (w : Walk) (first : ℕ) (s : IsSound b w first) where
    pub steps-trans : (v u : Walk) (mid env : ℕ) (is js : t.Program → t.Program) → Steps b w v first mid is → Steps b v u mid env js
        → Steps b w u first env (λ rest. is (js rest))
    steps-trans v u mid env is js p q = record {
      opens = opens-trans b w v u mid env p.opens q.opens;
      stepped = λ P Γ h.
          let k = p.stepped P Γ h in
          let j = q.stepped P k.context (in_context-entered b P Γ k.context w v first mid s p.opens h k.stands) in
          record {
            context = j.context;
            obligations = k.obligations ++ j.obligations;
            steps = λ rest.
                k.steps (js rest) ∙ ap (λ l. k.obligations ++ l) (j.steps rest)
                ∙ sym (append_assoc k.obligations j.obligations (obligations_of P j.context rest));
            adds = adds-trans b P w v u k.obligations j.obligations k.adds j.adds;
            stands = j.stands;
          };
    }

    pub steps-enters : (v : Walk) (env : ℕ) (within : checks.Basis → Context → Context) (os : checks.Basis → Context → List Obligation)
        (is : t.Program → t.Program)
        → ((P : checks.Basis) (Γ : Context) (rest : t.Program) → obligations_of P Γ (is rest) ≡ os P Γ ++ obligations_of P (within P Γ) rest)
        → Enters b w v first env within os → Steps b w v first env is
    steps-enters v env within os is f e = record {
      opens = e.opens;
      stepped = λ P Γ h. record { context = within P Γ; obligations = os P Γ; steps = f P Γ; adds = e.added P Γ h; stands = e.stands P Γ h };
    }

    pub steps-asks : (v : Walk) (os : checks.Basis → Context → List Obligation) (is : t.Program → t.Program)
        → ((P : checks.Basis) (Γ : Context) (rest : t.Program) → obligations_of P Γ (is rest) ≡ os P Γ ++ obligations_of P Γ rest)
        → Asks b w v first os → Steps b w v first first is
    steps-asks v os is f a = record {
      opens = opens-moves b w v first a.moves;
      stepped = λ P Γ h.
          record {
            context = Γ;
            obligations = os P Γ;
            steps = f P Γ;
            adds = a.added P Γ h;
            stands = (in_context-moved b P Γ w v first s a.moves h).1;
          };
    }

    pub steps-define : (v u z : Walk) (mid env row : ℕ) (x : ℕ) (l : Place) (k : ℕ) (block : t.Block) → Ends b w v first mid row block
        → Asks b v u mid (λ P Γ. cond (has_template block) (subtyping P Γ (refined_at (scopes_of b) v.types row) (P.template k) (from l of_flow)) [])
        → Enters b u z mid env (λ P Γ. bind x (refined_at (scopes_of b) v.types row) Γ) (λ P Γ. [])
        → Steps b w z first env (λ rest. define x l k block rest)
    steps-define v u z mid env row x l k block e a n = record {
      opens = opens-trans b w v z mid env e.opens (opens-trans b v u z mid env (opens-moves b v u mid a.moves) n.opens);
      stepped = λ P Γ h.
          let d = e.ended P Γ h in
          let Δ = last_context P Γ block in
          let r = last_type P Γ block in
          let i = in_context-entered b P Γ Δ w v first mid s e.opens h d.stands in
          let j = in_context-moved b P Δ v u mid e.opens.sound a.moves i in
          let own : Adds P b v u (of_definition P Γ l k block) =
          subst (λ q. Adds P b v u (cond (has_template block) (subtyping P Δ q (P.template k) (from l of_flow)) [])) d.refined (a.added P Δ i) in
          record {
            context = bind x r Δ;
            obligations = of_given P Γ block ++ of_definition P Γ l k block;
            steps = λ rest. sym (append_assoc (of_given P Γ block) (of_definition P Γ l k block) (obligations_of P (bind x r Δ) rest));
            adds = adds-trans b P w v z (of_given P Γ block) (of_definition P Γ l k block) d.adds
                (adds-before b P v u z (of_definition P Γ l k block) own (n.added P Δ j));
            stands = subst (λ q. StandsAs (bind x q Δ) b z env) d.refined (n.stands P Δ j);
          };
    }

-- ---- a walk that begins

pub begun-sound : (b : Basis) (w : Walk) → IsThere (count_of w.types) b → environment_lists w.list ≡ [] ∷ [] → bound w.names ≡ [] → w.asked.items ≡ []
    → IsSound b w 0
begun-sound b w t e n a = record {
  there = t;
  names = are_below-nothing (count_of w.types) w.names n;
  asked = All-same (asked.IsThere (length (environment_lists w.list)) (count_of w.types)) w.asked.items [] a (λ i d h. absurd (omega arith));
  inside = let k : length (environment_lists w.list) ≡ 1 = ap length e in omega arith;
}

pub begun-stands : (P : checks.Basis) (b : Basis) (w : Walk) → Stands P b w.types → environment_lists w.list ≡ [] ∷ [] → bound w.names ≡ []
    → InContext P [] b w 0
begun-stands P b w s e n = (s, record { knows = knows-nothing w.names b w.types n; facts = sym (ap (λ l. environment_in l 0) e) })

-- what a walk through all items stated
pub all-asked : (P : checks.Basis) (b : Basis) (w v : Walk) (env : ℕ) (is : List Item) → w.asked.items ≡ [] → InContext P [] b w 0
    → Steps b w v 0 env (items_on is) → stated_in b v ≡ map (stated P) (obligations_of P [] (program_view is))
all-asked P b w v env is a h p =
    let k = p.stepped P [] h in
    let os : obligations_of P [] (program_view is) ≡ k.obligations = ap (obligations_of P []) (items-whole is) ∙ k.steps t.no_items ∙ append-nil k.obligations in
    k.adds ∙ ap (λ l. l ++ map (stated P) k.obligations) (ap (all_stated (environment_lists w.list) (types_in b w.types)) a) ∙ ap (map (stated P)) (sym os)
