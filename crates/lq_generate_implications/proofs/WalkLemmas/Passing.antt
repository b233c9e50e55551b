-- Bindings that are gone through, blocks and items.
use Rattle.std.proofs.Common.{◌≡◌, ℕ, List, ◌++◌, sym, ap, ap₂, subst, append_assoc, ◌∙◌}
use Rattle.lq_refined_rules.specs.Checks.Basis as checks
use Rattle.lq_refined_rules.specs.Checks.Operation.{last_context, type_of}
use Rattle.lq_refined_rules.specs.Checks.Tree as t
use Rattle.lq_refined_rules.specs.Checks.Tree.{last, last_operation}
use Rattle.lq_base_names.specs.declared.place.Place.{Place}
use Rattle.lq_refined_rules.specs.Obligations.Obligation.{Obligation}
use Rattle.lq_refined_rules.specs.Obligations.Obligations.{of_block, of_given, of_operation}
use Rattle.lq_refined_types.specs.Types.Context.{Context}
use Rattle.lq_refined_subtyping.specs.Table.Growing.{extends-there}
use Rattle.lq_refined_subtyping.specs.Table.Whole.{refined_at}
use Rattle.lq_generate_operations.specs.Basis.Basis.{scopes_of}
use Rattle.lq_generate_operations.specs.Basis.Names.{bound}
use Rattle.lq_generate_operations.specs.declared.basis.basis.Basis.{Basis}
use Rattle.lq_generate_operations.specs.declared.basis.names.Names.{Names}
use Rattle.lq_generate_implications.specs.Walk.Asking.{Adds, Asks, Finds, IsSound}
use Rattle.lq_generate_implications.specs.Walk.Through.{Binds, Ends, Enters, Passes, StandsAs}
use Rattle.lq_generate_implications.specs.declared.walk.walk.Walk.{Walk}
use Rattle.lq_generate_implications.proofs.WalkLemmas.Walks.{adds-as, adds-behind, adds-trans, in_context-moved, moves-trans, row-kept}
use Rattle.lq_generate_implications.proofs.WalkLemmas.Opening.{in_context-entered, moves-left, named, opens-moves, opens-trans}

-- ---- bindings behind bindings

binds-trans : (P : checks.Basis) (Γ Δ Θ : Context) (bs cs : t.Block → t.Block) (os ps : List Obligation) → Binds P Γ Δ bs os → Binds P Δ Θ cs ps
    → Binds P Γ Θ (λ x. bs (cs x)) (os ++ ps)
binds-trans P Γ Δ Θ bs cs os ps p q = record {
  against = λ x s. p.against (cs x) s ∙ ap (λ l. os ++ l) (q.against x s) ∙ sym (append_assoc os ps (of_block P Θ x s));
  given = λ x. p.given (cs x) ∙ ap (λ l. os ++ l) (q.given x) ∙ sym (append_assoc os ps (of_given P Θ x));
  context = λ x. p.context (cs x) ∙ q.context x;
  last = λ x. p.last (cs x) ∙ q.last x;
}

binds-as : (P : checks.Basis) (Γ Δ : Context) (bs cs : t.Block → t.Block) (os : List Obligation) → ((x : t.Block) → bs x ≡ cs x) → Binds P Γ Δ bs os → Binds P Γ Δ cs os
binds-as P Γ Δ bs cs os e p = record {
  against = λ x s. ap (λ y. of_block P Γ y s) (sym (e x)) ∙ p.against x s;
  given = λ x. ap (of_given P Γ) (sym (e x)) ∙ p.given x;
  context = λ x. ap (last_context P Γ) (sym (e x)) ∙ p.context x;
  last = λ x. ap last_operation (sym (e x)) ∙ p.last x;
}

module _ (b : Basis) where
  pub passes-as : (w v : Walk) (from env : ℕ) (bs cs : t.Block → t.Block) → ((x : t.Block) → bs x ≡ cs x) → Passes b w v from env bs → Passes b w v from env cs
  passes-as w v from env bs cs e p = record {
    opens = p.opens;
    bound = λ P Γ h.
        let k = p.bound P Γ h in
        record { context = k.context; obligations = k.obligations; binds = binds-as P Γ k.context bs cs k.obligations e k.binds; adds = k.adds; stands = k.stands };
  }

  module _ (w : Walk) (from : ℕ) (s : IsSound b w from) where
    -- an environment that is entered by a binding
    pub passes-enters : (v : Walk) (env : ℕ) (within : checks.Basis → Context → Context) (os : checks.Basis → Context → List Obligation)
        (bs : t.Block → t.Block) → ((P : checks.Basis) (Γ : Context) → Binds P Γ (within P Γ) bs (os P Γ)) → Enters b w v from env within os
        → Passes b w v from env bs
    passes-enters v env within os bs f e = record {
      opens = e.opens;
      bound = λ P Γ h. record { context = within P Γ; obligations = os P Γ; binds = f P Γ; adds = e.added P Γ h; stands = e.stands P Γ h };
    }

    pub passes-trans : (v u : Walk) (mid env : ℕ) (bs cs : t.Block → t.Block) → Passes b w v from mid bs → Passes b v u mid env cs
        → Passes b w u from env (λ x. bs (cs x))
    passes-trans v u mid env bs cs p q = record {
      opens = opens-trans b w v u mid env p.opens q.opens;
      bound = λ P Γ h.
          let k = p.bound P Γ h in
          let j = q.bound P k.context (in_context-entered b P Γ k.context w v from mid s p.opens h k.stands) in
          record {
            context = j.context;
            obligations = k.obligations ++ j.obligations;
            binds = binds-trans P Γ k.context j.context bs cs k.obligations j.obligations k.binds j.binds;
            adds = adds-trans b P w v u k.obligations j.obligations k.adds j.adds;
            stands = j.stands;
          };
    }

    -- something is asked behind bindings, whose names are let go again
    pub asks-passed : (v u : Walk) (n : Names) (env : ℕ) (bs : t.Block → t.Block) (F G : checks.Basis → Context → List Obligation)
        → ((P : checks.Basis) (Γ Δ : Context) (os : List Obligation) → Binds P Γ Δ bs os → os ++ F P Δ ≡ G P Γ)
        → Passes b w v from env bs → Asks b v u env F → bound n ≡ bound w.names → Asks b w (named u n) from G
    asks-passed v u n env bs F G f p a e = record {
      moves = moves-left b w from s u n env (opens-trans b w v u env env p.opens (opens-moves b v u env a.moves)) e;
      added = λ P Γ h.
          let k = p.bound P Γ h in
          adds-as b P w u (k.obligations ++ F P k.context) (G P Γ) (f P Γ k.context k.obligations k.binds)
          (adds-trans b P w v u k.obligations (F P k.context) k.adds
          (a.added P k.context (in_context-entered b P Γ k.context w v from env s p.opens h k.stands)));
    }

    -- the last operation of a block of which no type is expected
    pub ends-passed : (v u z : Walk) (env row : ℕ) (bs : t.Block → t.Block) (l : Place) (o : t.Operation) → Passes b w v from env bs
        → Finds b v u env row (λ P Γ. type_of P Γ o) → Asks b u z env (λ P Γ. of_operation P Γ l o (refined_at (scopes_of b) u.types row))
        → Ends b w z from env row (bs (last l o))
    ends-passed v u z env row bs l o p f a = record {
      opens = opens-trans b w v z env env p.opens (opens-moves b v z env (moves-trans b v u z env f.moves a.moves));
      there = extends-there u.types.rows.items z.types.rows.items row a.moves.types f.there;
      ended = λ P Γ h.
          let k = p.bound P Γ h in
          let Δ = k.context in
          let i = in_context-entered b P Γ Δ w v from env s p.opens h k.stands in
          let j = in_context-moved b P Δ v u env p.opens.sound f.moves i in
          let c : last_context P Γ (bs (last l o)) ≡ Δ = k.binds.context (last l o) in
          let t : refined_at (scopes_of b) u.types row ≡ type_of P Δ o = f.refined P Δ i in
          record {
            stands = subst (λ Θ. StandsAs Θ b z env) (sym c) (in_context-moved b P Δ u z env f.moves.sound a.moves j).1;
            refined = row-kept b u.types z.types row a.moves.types f.there ∙ t ∙ sym (ap₂ (type_of P) c (k.binds.last (last l o)));
            adds = adds-as b P w z (k.obligations ++ of_operation P Δ l o (type_of P Δ o)) (of_given P Γ (bs (last l o))) (sym (k.binds.given (last l o)))
                (adds-trans b P w v z k.obligations (of_operation P Δ l o (type_of P Δ o)) k.adds
                (adds-behind b P v u z (of_operation P Δ l o (type_of P Δ o)) (f.added P)
                (subst (λ r. Adds P b u z (of_operation P Δ l o r)) t (a.added P Δ j))));
          };
    }
