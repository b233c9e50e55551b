-- What is said of walks, one step after another.
use Rattle.std.proofs.Common.{◌≡◌, ℕ, ◌<◌, List, [], ◌∷◌, ◌++◌, All, length, map, refl, sym, ap, ap₂, subst, ◌∙◌, append_assoc}
use Rattle.std.proofs.lemmas.List.{append-nil, map-append}
use Rattle.std.proofs.lemmas.List.Elements.{All-head, All-same, All-tail, All-weaker}
use Rattle.lq_generate_implications.specs.Obligations.Views as asked
use Rattle.lq_generate_implications.specs.Obligations.Views.{Stated, all_stated, stated, stated_view}
use Rattle.lq_generate_implications.proofs.ObligationsLemmas.Keeping.{stated-kept, there-kept}
use Rattle.lq_refined_rules.specs.Checks.Basis as checks
use Rattle.lq_refined_subtyping.specs.Contexts.Growing.{HasMore}
use Rattle.lq_refined_substitution.specs.Implications.Views.{count_of as implication_count, environment_lists, implications_of}
use Rattle.lq_refined_rules.specs.Obligations.Obligation.{Obligation}
use Rattle.lq_refined_rules.specs.Obligations.Obligations.{demand, each, of_operation}
use Rattle.lq_refined_rules.specs.Checks.Tree as tree
use Rattle.lq_base_names.specs.declared.place.Place.{Place}
use Rattle.lq_logic_predicates.specs.Formula.{Formula}
use Rattle.lq_refined_types.specs.Types.Context.{Context}
use Rattle.lq_refined_types.specs.Types.Refined.{Refined}
use Rattle.lq_refined_subtyping.specs.Table.Growing.{Extends-refl, Extends-trans, extends-at}
use Rattle.lq_refined_subtyping.specs.Table.Whole.{count_of, refined_at, Grows}
use Rattle.lq_refined_subtyping.specs.declared.table.table.RefinedTypes.{RefinedTypes}
use Rattle.lq_refined_subtyping.specs.Split.Growing.{HasMore-refl, HasMore-trans, environment-there}
use Rattle.lq_refined_types.specs.Subtyping.Implication.{Origin}
use Rattle.lq_generate_operations.specs.Basis.Basis.{scopes_of, types_in, Stands}
use Rattle.lq_generate_operations.specs.Basis.Growing.{are_below-grown, are_below-same, is_there-grown, stands-grown}
use Rattle.lq_generate_operations.specs.Basis.Knowing.{Knows}
use Rattle.lq_generate_operations.specs.Basis.Names.{bound}
use Rattle.lq_generate_operations.specs.declared.basis.basis.Basis.{Basis}
use Rattle.lq_generate_operations.specs.Operations.Growing.{is_context-grown, is_context-same}
use Rattle.lq_generate_implications.specs.Walk.Asking.{stated_in, Adds, Asks, Finds, InContext, IsSound, Moves}
use Rattle.lq_generate_implications.specs.declared.walk.walk.Walk.{Walk}

-- a list whose elements are seen the same
same-seen : {X Y : Type 0} (f g : X → Y) (Q : X → Type 0) (xs : List X) → All Q xs → ((x : X) → Q x → f x ≡ g x) → map f xs ≡ map g xs
same-seen f g Q [] h e = refl
same-seen f g Q (x ∷ xs) h e = ap₂ (λ y ys. y ∷ ys) (e x (All-head Q x xs h)) (same-seen f g Q xs (All-tail Q x xs h) e)

-- the type of a number stays
pub row-kept : (b : Basis) (old new : RefinedTypes) (r : ℕ) → Grows old new → r < count_of old → refined_at (scopes_of b) new r ≡ refined_at (scopes_of b) old r
row-kept b old new r g h = extends-at (scopes_of b) old.rows.items new.rows.items r g h

-- tables only grow, and no implication was made
pub record Grown (w v : Walk) : Type 0 where
  pub types : Grows w.types v.types
  pub environments : HasMore (environment_lists w.list) (environment_lists v.list)
  pub implications : implications_of v.list ≡ implications_of w.list
  pub count : implication_count v.list ≡ implication_count w.list

-- the obligations of each of a list
each-append : (f : ℕ → List Obligation) (xs ys : List ℕ) → each f (xs ++ ys) ≡ each f xs ++ each f ys
each-append f [] ys = refl
each-append f (x ∷ xs) ys = ap (λ l. f x ++ l) (each-append f xs ys) ∙ sym (append_assoc (f x) (each f xs) (each f ys))

each-one : (f : ℕ → List Obligation) (x : ℕ) → each f (x ∷ []) ≡ f x
each-one f x = append-nil (f x)

module _ (b : Basis) where
  -- ---- what stays where tables grow

  pub adds-same : (w v : Walk) (env : ℕ) → IsSound b w env → Grown w v → v.asked.items ≡ w.asked.items → stated_in b v ≡ stated_in b w
  adds-same w v env s g e =
      ap (all_stated (environment_lists v.list) (types_in b v.types)) e
      ∙ same-seen (stated_view (environment_lists v.list) (types_in b v.types)) (stated_view (environment_lists w.list) (types_in b w.types))
      (asked.IsThere (length (environment_lists w.list)) (count_of w.types)) w.asked.items s.asked
      (λ x h. stated-kept (scopes_of b) w.types.rows.items v.types.rows.items g.types (environment_lists w.list) (environment_lists v.list) g.environments x h)

  pub asked-same : (w v : Walk) (env : ℕ) → IsSound b w env → Grown w v → v.asked.items ≡ w.asked.items
      → All (asked.IsThere (length (environment_lists v.list)) (count_of v.types)) v.asked.items
  asked-same w v env s g e =
      let Q = asked.IsThere (length (environment_lists v.list)) (count_of v.types) in
      All-same Q v.asked.items w.asked.items e
      (All-weaker (asked.IsThere (length (environment_lists w.list)) (count_of w.types)) Q
      (λ x h. there-kept (scopes_of b) w.types.rows.items v.types.rows.items g.types (environment_lists w.list) (environment_lists v.list) g.environments x h) w.asked.items s.asked)

  pub moves-same : (w v : Walk) (env : ℕ) → IsSound b w env → Grown w v → bound v.names ≡ bound w.names → v.asked.items ≡ w.asked.items → Moves b w v env
  moves-same w v env s g n e = record {
    types = g.types;
    environments = g.environments;
    implications = g.implications;
    count = g.count;
    names = n;
    sound = record {
      there = is_there-grown w.types v.types b g.types s.there;
      names = are_below-same (count_of v.types) w.names v.names n (are_below-grown w.types v.types w.names g.types s.names);
      asked = asked-same w v env s g e;
      inside = environment-there (environment_lists w.list) (environment_lists v.list) env g.environments s.inside;
    };
  }

  pub moves-refl : (w : Walk) (env : ℕ) → IsSound b w env → Moves b w w env
  moves-refl w env s = record {
    types = Extends-refl w.types.rows.items;
    environments = HasMore-refl (environment_lists w.list);
    implications = refl;
    count = refl;
    names = refl;
    sound = s;
  }

  pub moves-trans : (w0 w1 w2 : Walk) (env : ℕ) → Moves b w0 w1 env → Moves b w1 w2 env → Moves b w0 w2 env
  moves-trans w0 w1 w2 env p q = record {
    types = Extends-trans w0.types.rows.items w1.types.rows.items w2.types.rows.items p.types q.types;
    environments = HasMore-trans (environment_lists w0.list) (environment_lists w1.list) (environment_lists w2.list) p.environments q.environments;
    implications = q.implications ∙ p.implications;
    count = q.count ∙ p.count;
    names = q.names ∙ p.names;
    sound = q.sound;
  }

  -- an environment of the rules still stands in memory
  pub in_context-moved : (P : checks.Basis) (Γ : Context) (w v : Walk) (env : ℕ) → IsSound b w env → Moves b w v env → InContext P Γ b w env → InContext P Γ b v env
  in_context-moved P Γ w v env s m h = (
    stands-grown P b w.types v.types m.types s.there h.0,
    is_context-same Γ w.names v.names b v.types v.list env m.names
        (is_context-grown Γ w.names b w.types v.types w.list v.list env m.types s.names m.environments s.inside h.1),
  )

  -- ---- obligations come one after another

  pub adds-trans : (P : checks.Basis) (w0 w1 w2 : Walk) (os ps : List Obligation) → Adds P b w0 w1 os → Adds P b w1 w2 ps → Adds P b w0 w2 (os ++ ps)
  adds-trans P w0 w1 w2 os ps f g =
      g ∙ ap (λ l. l ++ map (stated P) ps) f ∙ append_assoc (stated_in b w0) (map (stated P) os) (map (stated P) ps)
      ∙ ap (λ l. stated_in b w0 ++ l) (sym (map-append (stated P) os ps))

  pub adds-as : (P : checks.Basis) (w0 w1 : Walk) (os ps : List Obligation) → os ≡ ps → Adds P b w0 w1 os → Adds P b w0 w1 ps
  adds-as P w0 w1 os ps e f = subst (Adds P b w0 w1) e f

  pub adds-none : (P : checks.Basis) (w v : Walk) → stated_in b v ≡ stated_in b w → Adds P b w v []
  adds-none P w v e = e ∙ sym (append-nil (stated_in b w))

  -- first none
  pub adds-behind : (P : checks.Basis) (w0 w1 w2 : Walk) (os : List Obligation) → Adds P b w0 w1 [] → Adds P b w1 w2 os → Adds P b w0 w2 os
  adds-behind P w0 w1 w2 os f g = adds-trans P w0 w1 w2 [] os f g

  -- none behind
  pub adds-before : (P : checks.Basis) (w0 w1 w2 : Walk) (os : List Obligation) → Adds P b w0 w1 os → Adds P b w1 w2 [] → Adds P b w0 w2 os
  adds-before P w0 w1 w2 os f g = adds-as P w0 w2 (os ++ []) os (append-nil os) (adds-trans P w0 w1 w2 os [] f g)

  module _ (w : Walk) (env : ℕ) (s : IsSound b w env) where
    pub asks-nothing : Asks b w w env (λ P Γ. [])
    asks-nothing = record { moves = moves-refl w env s; added = λ P Γ h. adds-none P w w refl }

    -- the same by another word
    pub asks-as : (v : Walk) (F G : checks.Basis → Context → List Obligation) → ((P : checks.Basis) (Γ : Context) → InContext P Γ b w env → F P Γ ≡ G P Γ)
        → Asks b w v env F → Asks b w v env G
    asks-as v F G e a = record { moves = a.moves; added = λ P Γ h. adds-as P w v (F P Γ) (G P Γ) (e P Γ h) (a.added P Γ h) }

    pub asks-trans : (v u : Walk) (F G : checks.Basis → Context → List Obligation) → Asks b w v env F → Asks b v u env G → Asks b w u env (λ P Γ. F P Γ ++ G P Γ)
    asks-trans v u F G p q = record {
      moves = moves-trans w v u env p.moves q.moves;
      added = λ P Γ h. adds-trans P w v u (F P Γ) (G P Γ) (p.added P Γ h) (q.added P Γ (in_context-moved P Γ w v env s p.moves h));
    }

    -- ---- types that are found

    pub finds-types : (types : RefinedTypes) (r : ℕ) (T : checks.Basis → Context → Refined) → Grows w.types types → r < count_of types
        → ((P : checks.Basis) (Γ : Context) → Stands P b w.types → Knows Γ w.names b w.types → refined_at (scopes_of b) types r ≡ T P Γ)
        → Finds b w (record { types = types; list = w.list; names = w.names; asked = w.asked }) env r T
    finds-types types r T g l f =
        let v : Walk = record { types = types; list = w.list; names = w.names; asked = w.asked } in
        let h : Grown w v = record { types = g; environments = HasMore-refl (environment_lists w.list); implications = refl; count = refl } in
        record {
          moves = moves-same w v env s h refl refl;
          there = l;
          added = λ P. adds-none P w v (adds-same w v env s h refl);
          refined = λ P Γ i. f P Γ i.0 i.1.knows;
        }

    -- a type that is found, and then what is asked of it
    pub finds-asks : (v u : Walk) (r : ℕ) (T : checks.Basis → Context → Refined) (F : checks.Basis → Context → Refined → List Obligation)
        → Finds b w v env r T → Asks b v u env (λ P Γ. F P Γ (refined_at (scopes_of b) v.types r)) → Asks b w u env (λ P Γ. F P Γ (T P Γ))
    finds-asks v u r T F f a = record {
      moves = moves-trans w v u env f.moves a.moves;
      added = λ P Γ h.
          adds-behind P w v u (F P Γ (T P Γ)) (f.added P)
          (adds-as P v u (F P Γ (refined_at (scopes_of b) v.types r)) (F P Γ (T P Γ)) (ap (F P Γ) (f.refined P Γ h)) (a.added P Γ (in_context-moved P Γ w v env s f.moves h)));
    }

    -- two of them
    pub finds-both : (v u z : Walk) (l r : ℕ) (T U : checks.Basis → Context → Refined) (F : checks.Basis → Context → Refined → Refined → List Obligation)
        → Finds b w v env l T → Finds b v u env r U
        → Asks b u z env (λ P Γ. F P Γ (refined_at (scopes_of b) u.types l) (refined_at (scopes_of b) u.types r)) → Asks b w z env (λ P Γ. F P Γ (T P Γ) (U P Γ))
    finds-both v u z l r T U F f g a = record {
      moves = moves-trans w v z env f.moves (moves-trans v u z env g.moves a.moves);
      added = λ P Γ h.
          let k = in_context-moved P Γ w v env s f.moves h in
          adds-behind P w v z (F P Γ (T P Γ) (U P Γ)) (f.added P)
          (adds-behind P v u z (F P Γ (T P Γ) (U P Γ)) (g.added P)
          (adds-as P u z _ (F P Γ (T P Γ) (U P Γ))
          (ap₂ (F P Γ) (row-kept b v.types u.types l g.moves.types f.there ∙ f.refined P Γ h) (g.refined P Γ k))
          (a.added P Γ (in_context-moved P Γ v u env f.moves.sound g.moves k))));
    }

    -- the table of types grew, and nothing else happened
    pub types-alone : (types : RefinedTypes) → Grows w.types types
        → Asks b w (record { types = types; list = w.list; names = w.names; asked = w.asked }) env (λ P Γ. [])
    types-alone types g =
        let v : Walk = record { types = types; list = w.list; names = w.names; asked = w.asked } in
        let h : Grown w v = record { types = g; environments = HasMore-refl (environment_lists w.list); implications = refl; count = refl } in
        record { moves = moves-same w v env s h refl refl; added = λ P Γ i. adds-none P w v (adds-same w v env s h refl) }

    -- the table of types grew before something was asked
    pub types-asks : (types : RefinedTypes) (u : Walk) (F G : checks.Basis → Context → List Obligation) → Grows w.types types
        → ((P : checks.Basis) (Γ : Context) → InContext P Γ b w env → F P Γ ≡ G P Γ)
        → Asks b (record { types = types; list = w.list; names = w.names; asked = w.asked }) u env F → Asks b w u env G
    types-asks types u F G g f a =
        let v : Walk = record { types = types; list = w.list; names = w.names; asked = w.asked } in
        let h : Grown w v = record { types = g; environments = HasMore-refl (environment_lists w.list); implications = refl; count = refl } in
        let m = moves-same w v env s h refl refl in
        record {
          moves = moves-trans w v u env m a.moves;
          added = λ P Γ i.
              adds-behind P w v u (G P Γ) (adds-none P w v (adds-same w v env s h refl))
              (adds-as P v u (F P Γ) (G P Γ) (f P Γ i) (a.added P Γ (in_context-moved P Γ w v env s m i)));
        }

  -- a demand by another word
  pub demands : (w v : Walk) (env : ℕ) (p q : Formula) (o : Origin) → p ≡ q → Asks b w v env (λ P Γ. demand P Γ p o) → Asks b w v env (λ P Γ. demand P Γ q o)
  demands w v env p q o e a = subst (λ f. Asks b w v env (λ P Γ. demand P Γ f o)) e a

  -- where what is asked speaks of a type of the table, which grew
  pub asks-kept : (w v u : Walk) (env r : ℕ) (F : checks.Basis → Context → Refined → List Obligation) → Grows w.types v.types → r < count_of w.types
      → Asks b v u env (λ P Γ. F P Γ (refined_at (scopes_of b) v.types r)) → Asks b v u env (λ P Γ. F P Γ (refined_at (scopes_of b) w.types r))
  asks-kept w v u env r F g h a = subst (λ t. Asks b v u env (λ P Γ. F P Γ t)) (row-kept b w.types v.types r g h) a

  -- one of a list of numbers more
  pub asks-each : (w v u : Walk) (env : ℕ) (f : checks.Basis → Context → ℕ → List Obligation) (xs : List ℕ) (x : ℕ) (ys : List ℕ) → IsSound b w env
      → xs ++ x ∷ [] ≡ ys → Asks b w v env (λ P Γ. each (f P Γ) xs) → Asks b v u env (λ P Γ. f P Γ x) → Asks b w u env (λ P Γ. each (f P Γ) ys)
  asks-each w v u env f xs x ys s e p q =
      asks-as w env s u (λ P Γ. each (f P Γ) xs ++ f P Γ x) (λ P Γ. each (f P Γ) ys)
      (λ P Γ h. ap (λ l. each (f P Γ) xs ++ l) (sym (each-one (f P Γ) x)) ∙ sym (each-append (f P Γ) xs (x ∷ [])) ∙ ap (each (f P Γ)) e)
      (asks-trans w env s v u (λ P Γ. each (f P Γ) xs) (λ P Γ. f P Γ x) p q)

  -- an operation by another word
  pub asks-seen : (w v : Walk) (env : ℕ) (l : Place) (r : Refined) (o p : tree.Operation) → o ≡ p → Asks b w v env (λ P Γ. of_operation P Γ l p r)
      → Asks b w v env (λ P Γ. of_operation P Γ l o r)
  asks-seen w v env l r o p e a = subst (λ x. Asks b w v env (λ P Γ. of_operation P Γ l x r)) (sym e) a
