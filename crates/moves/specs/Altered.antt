-- What is left of an order of which shares are taken: the same reference and locate, the shares less, and an order that fits a slot
-- unless all is taken. Assumes nothing.
use Rattle.std.specs.Prelude.{◌≡◌, refl, ◌≢◌, List, ℕ, ◌-◌, ◌<◌}
use Rattle.std.proofs.Common.{sym, ap, subst, ◌∙◌, arith}
use Rattle.orders.specs.declared.Order.{Order}
use Rattle.orders.specs.Order.{remaining, executed_by, cancelled_by}
use Rattle.orders.specs.OrderLaws.{Fit, executed_remaining, cancelled_remaining, executed_again, cancelled_again}
use Rattle.take.specs.declared.Taking.{Taking}
use Rattle.take.specs.declared.Taking.TheVariants.{Executed, Cancelled}
use Rattle.take.specs.Taken.{taken_by}
use Rattle.steps.specs.Asked.{Asked}
use Rattle.moves.specs.Facts.{Altering}

pub taken_reference : (how : Taking) (o : Order) (n : ℕ) → (taken_by how o n).reference ≡ o.reference
unfolding executed_by cancelled_by
taken_reference Executed o n = refl
taken_reference Cancelled o n = refl

pub taken_locate : (how : Taking) (o : Order) (n : ℕ) → (taken_by how o n).locate ≡ o.locate
unfolding executed_by cancelled_by
taken_locate Executed o n = refl
taken_locate Cancelled o n = refl

pub taken-remaining : (how : Taking) (o : Order) (n : ℕ) → remaining (taken_by how o n) ≡ remaining o - n
taken-remaining Executed o n = executed_remaining o n
taken-remaining Cancelled o n = cancelled_remaining o n

-- fewer are taken than remain
pub taken_again : (how : Taking) (o : Order) (n : ℕ) → Fit o → n < remaining o → Fit (taken_by how o n)
taken_again Executed o n f l = executed_again o n f l
taken_again Cancelled o n f l = cancelled_again o n f l

module _ {b : List ℕ} {k : ℕ} {a : Asked} {o o' : Order} {n : ℕ} (f : Altering b k a o o' n) where
  pub altered_reference : o'.reference.0 ≡ f.reference
  altered_reference =
      ap (λ (x : Order). x.reference.0) f.after ∙ rw (taken_reference f.how o n) f.rests.reference

  pub altered_locate : o'.locate.0 ≡ o.locate.0
  altered_locate = ap (λ (x : Order). x.locate.0) f.after ∙ rw (taken_locate f.how o n)

  pub altered_remaining : remaining o' ≡ remaining o - n
  altered_remaining = ap remaining f.after ∙ taken-remaining f.how o n

  pub altered_fit : remaining o' ≢ 0 → Fit o'
  altered_fit d =
      let below : n < remaining o = omega (arith, altered_remaining, f.within) in
      subst Fit (sym f.after) (taken_again f.how o n f.rests.fit below)
