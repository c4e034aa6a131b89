-- The verdict on an order that is to be placed, from what the code found on each way. Assumes nothing.
use Rattle.refusals.specs.declared.Refusal.TheVariants.{Conflict, Duplicate, Full, Stock}
use Rattle.std.specs.Prelude.{Result, Some, None, Ok, Err}
use mathlib.Core.Path.{◌≡◌, sym, ap, ◌∙◌}
use mathlib.Core.List.{List}
use Prim.Native.Nat.{ℕ}
use borrow.Author.Tests.{eq-eqb, ne_eqb}
use Rattle.kinds.specs.declared.Slot.{Slot}
use Rattle.directory.specs.Directory.{entry_at}
use Rattle.book.specs.Book.{find, lowest_free}
use Rattle.orders.specs.declared.Order.{Order}
use Rattle.orders.specs.Order.{remaining}
use Rattle.decide.specs.declared.Step.TheVariants.{One}
use Rattle.decide.specs.Figured.{figures_of}
use Rattle.decide.specs.Decide.{Verdict, enter, placing}
use Rattle.slots.specs.Stored.{is_at, is_live, put_order, entered, placed}
use Rattle.slots.specs.Stepped.{Stepped, refuses, settles}
use Rattle.decide.specs.declared.Step.{Step}
use Rattle.refusals.specs.declared.Refusal.{Refusal}

module _ (d b : List ℕ) (k symbol : ℕ) (o : Order) (r : Result Step Refusal) where
  abbrev verdict : Verdict
  verdict = placing (entry_at d o.locate.0) symbol (is_live b k o.reference.0) (is_at (lowest_free b k)) o

  pub no_entry : entry_at d o.locate.0 ≡ None → r ≡ Err Stock → Stepped b k 0 verdict r b
  no_entry p e = refuses (rw p) e

  module _ (n : ℕ) (at : entry_at d o.locate.0 ≡ Some n) where
    pub no_symbol : n ≡ 0 → r ≡ Err Stock → Stepped b k 0 verdict r b
    no_symbol z e = refuses (rw (at, z)) e

    module _ (some : n ≡ 0 → ⊥) where
      pub other : (n ≡ symbol → ⊥) → r ≡ Err Conflict → Stepped b k 0 verdict r b
      other q e = refuses (rw (at, ne_eqb n 0 some, ne_eqb n symbol q)) e

      module _ (own : n ≡ symbol) where
        pub live : (s : Slot) → find b k o.reference.0 ≡ Some s → r ≡ Err Duplicate → Stepped b k 0 verdict r b
        live s f e = refuses (rw (at, ne_eqb n 0 some, eq-eqb n symbol own, f)) e

        pub no_room : find b k o.reference.0 ≡ None → lowest_free b k ≡ None → r ≡ Err Full → Stepped b k 0 verdict r b
        no_room f g e = refuses (rw (at, ne_eqb n 0 some, eq-eqb n symbol own, f, g)) e

        pub enters_at : (s : Slot) (b' : List ℕ) → find b k o.reference.0 ≡ None → lowest_free b k ≡ Some s
            → r ≡ (Ok (One (figures_of o o.added (remaining o)))) → b' ≡ put_order b k s.0 o → Stepped b k 0 verdict r b'
        unfolding entered
        enters_at s b' f g e h =
            settles {w = enter o} (rw (at, ne_eqb n 0 some, eq-eqb n symbol own, f, g)) e (h ∙ ap (placed b k o) (sym g))
