-- What is stated of obligations stays where environments and types grow.
use Rattle.std.proofs.Common.{◌≡◌, List, [], length, refl, sym, ap, ap₂, subst}
use Rattle.lq_refined_rules.specs.Checks.Basis.{Basis}
use Rattle.lq_refined_subtyping.specs.Contexts.Growing.{HasMore}
use Rattle.lq_refined_substitution.specs.Implications.Views.{environment_in, origin_view}
use Rattle.lq_refined_rules.specs.Obligations.Obligation.{fits, IsShapedAsked}
use Rattle.lq_refined_types.specs.Parts.Part.{Parts, Scopes}
use Rattle.lq_refined_subtyping.specs.declared.table.table.Row.{Row}
use Rattle.lq_refined_subtyping.specs.Table.Growing.{extends-at, extends-there}
use Rattle.lq_refined_subtyping.specs.Table.Rows.{grown, Extends}
use Rattle.lq_refined_subtyping.specs.Split.Fields.{AreThere}
use Rattle.lq_refined_subtyping.specs.Split.Growing.{environment-kept, environment-there}
use Rattle.lq_refined_subtyping.proofs.SplitLemmas.Rows.{knows-grown}
use Rattle.lq_generate_implications.specs.Obligations.Views.{stated_view, asked_view, IsAskedThere, IsThere, IsShaped, IsOver, scopes_of}
use Rattle.lq_generate_implications.specs.declared.obligations.obligation.Asked.{Asked}
use Rattle.lq_generate_implications.specs.declared.obligations.obligation.Asked.TheVariants as asked
use Rattle.lq_generate_implications.specs.declared.obligations.obligation.Obligation.{Obligation}
use Rattle.lq_generate_implications.specs.declared.obligations.obligation.Sources.{Sources}

module _ (scopes : Scopes) (old new : List Row) (e : Extends old new) where
  pub asked-kept : (a : Asked) → IsAskedThere (length old) a → asked_view (grown scopes [] new) a ≡ asked_view (grown scopes [] old) a
  asked-kept (asked.Holds p) h = refl
  asked-kept (asked.Fits l r) h = ap₂ fits (extends-at scopes old new l e h.0) (extends-at scopes old new r e h.1)

  pub asked-there : (a : Asked) → IsAskedThere (length old) a → IsAskedThere (length new) a
  asked-there (asked.Holds p) h = tt
  asked-there (asked.Fits l r) h = (extends-there old new l e h.0, extends-there old new r e h.1)

  pub shaped-kept : (x : Obligation) → IsAskedThere (length old) x.asked → IsShaped (grown scopes [] old) x → IsShaped (grown scopes [] new) x
  shaped-kept x h s = subst IsShapedAsked (sym (asked-kept x.asked h)) s

  -- whatever the environments
  pub types-kept : (es : List Parts) (x : Obligation) → IsAskedThere (length old) x.asked
      → stated_view es (grown scopes [] new) x ≡ stated_view es (grown scopes [] old) x
  types-kept es x h = ap (λ a. record { facts = environment_in es x.env; asked = a; origin = origin_view x.place x.reason }) (asked-kept x.asked h)

  module _ (es fs : List Parts) (m : HasMore es fs) where
    pub stated-kept : (x : Obligation) → IsThere (length es) (length old) x
        → stated_view fs (grown scopes [] new) x ≡ stated_view es (grown scopes [] old) x
    stated-kept x h =
        ap₂ (λ f a. record { facts = f; asked = a; origin = origin_view x.place x.reason }) (environment-kept es fs x.env m h.env) (asked-kept x.asked h.asked)

    pub there-kept : (x : Obligation) → IsThere (length es) (length old) x → IsThere (length fs) (length new) x
    there-kept x h = record { env = environment-there es fs x.env m h.env; asked = asked-there x.asked h.asked }

pub over-grown : (P : Basis) (s : Sources) (old new : List Row) → Extends old new → AreThere (length old) s.fields.now
    → IsOver P s (grown (scopes_of s) [] old) → IsOver P s (grown (scopes_of s) [] new)
over-grown P s old new e h o = record { scopes = o.scopes; fields = knows-grown (scopes_of s) old new s.fields.now P.setting.constructors e h o.fields }
