use Rattle.std.proofs.Common.{◌≡◌, ◌∙◌, ℕ, ◌==◌, Bool, true, false, cond, Option, Some, refl, sym, ap}
use Rattle.std.specs.Map.{lookup}
use Rattle.lq_base_names.specs.declared.name.Binder.{Binder}
use Rattle.lq_generate_reading.specs.Visibility.Latest.{changed, latest_in, name_if, name_number, text_number}
use Rattle.lq_generate_reading.proofs.visibility.bound.set_latest.Goals as goal

chosen : (b : Bool) (x : Option Binder) (o : Option (Option Binder)) → name_if (cond b (Some x) o) ≡ cond b (name_number x) (name_if o)
chosen true x o = refl
chosen false x o = refl

pub returns-in_ok-insert-clause-set : goal.returns-in_ok-insert-clause-set
returns-in_ok-insert-clause-set c =
    let to = c.args.to in
    let old = latest_in c.args.latest.now.entries in
    let t = c.in-Some.text in
    let at : (r : ℕ) → latest_in c.insert.new.self.entries r ≡ changed (Some t.0) (name_number to) old r =
    λ r. ap name_if (c.in_ok-insert.ensures.updates.0 record { 0 = r }) ∙ chosen (t.0 == r) to (lookup (λ s. r == s.0) c.args.latest.now.entries) in
    let whole : latest_in c.insert.new.self.entries ≡ changed (Some t.0) (name_number to) old = λ j r. at r j in
    whole ∙ ap (λ o. changed (text_number o) (name_number to) old) (sym c.in-Some.is)
