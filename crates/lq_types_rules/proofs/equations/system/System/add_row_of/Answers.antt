use Rattle.std.proofs.Common.{◌≡◌, ℕ, List, sym, subst}
use Rattle.lq_text_walk.specs.Walk.View.{row_view}
use Rattle.lq_text_tree.specs.Types.{Builds}
use Rattle.lq_types_rules.specs.Equations.Solutions.{each}
use Rattle.lq_types_rules.specs.Equations.Adding.{Adds}
use Rattle.lq_types_rules.specs.Equations.Rows.{RowIs}
use Rattle.lq_types_rules.proofs.EquationsLemmas.Composing.{adds_as}
use Rattle.lq_types_rules.proofs.EquationsLemmas.Shaping.{build_adds, count_of_row}
use Rattle.lq_types_rules.proofs.equations.system.System.add_row_of.Goals as goal

pub returns-in_ok-are_same-in-Some-clause-adds : goal.returns-in_ok-are_same-in-Some-clause-adds
returns-in_ok-are_same-in-Some-clause-adds c = λ g h.
    subst (λ r. Adds c.args.self.now c.are_same.new.self (RowIs g (row_view r) c.args.parts.now c.args.at)) (sym c.in-Build.is)
    (build_adds g c.in-Build.name.0 c.args.self.now c.built.new.self c.are_same.new.self c.in-Some.roots.items c.args.parts.now c.args.at c.requires.parts ((rw c.in-Some.is at c.in_ok-found-in-Build.ensures.offers) g h)
    (subst (λ (rs : List ℕ). Adds c.built.new.self c.are_same.new.self (λ t. each t c.args.parts.now ≡ each t rs)) c.deref.ensures.value c.in_ok-are_same-in-Some.ensures))

pub returns-in-None-clause-adds : goal.returns-in-None-clause-adds
returns-in-None-clause-adds c = λ g h.
    subst (λ r. Adds c.args.self.now c.built.new.self (RowIs g (row_view r) c.args.parts.now c.args.at)) (sym c.in-Build.is)
    (adds_as c.args.self.now c.built.new.self (λ t. ⊥) (λ t. Builds g c.in-Build.name.0 (each t c.args.parts.now) (t c.args.at)) (rw c.in-None.is at c.in_ok-found-in-Build.ensures.never)
    (λ t e. absurd e) (λ t e. (rw c.in-None.is at c.in_ok-found-in-Build.ensures.none) g h (each t c.args.parts.now) (t c.args.at) (count_of_row t c.args.parts.now) e))
