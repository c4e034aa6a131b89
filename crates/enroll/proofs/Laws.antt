-- The verdict on a symbol that is to be registered, from what the code found on each way. Assumes nothing.
use Rattle.refusals.specs.declared.Refusal.TheVariants.{Conflict, Stock}
use Rattle.std.specs.Prelude.{Result, Some, None, Ok, Err}
use mathlib.Core.Path.{◌≡◌, refl}
use mathlib.Core.List.{List}
use Prim.Native.Nat.{ℕ}
use borrow.Author.Tests.{eq-eqb, ne_eqb}
use Rattle.directory.specs.Directory.{entry_at, registered}
use Rattle.decide.specs.declared.Step.TheVariants.{Plain}
use Rattle.decide.specs.Decide.{Verdict, refuse, enroll, pass, registering}
use Rattle.enroll.specs.Enrolled.{Enrolled, enlists}
use Rattle.decide.specs.declared.Step.{Step}
use Rattle.refusals.specs.declared.Refusal.{Refusal}

module _ (d : List ℕ) (l symbol : ℕ) (r : Result Step Refusal) where
  abbrev verdict : Verdict
  verdict = registering (entry_at d l) l symbol

  pub no_entry : entry_at d l ≡ None → r ≡ Err Stock → Enrolled d verdict r d
  no_entry p e = enlists {w = refuse Stock} (rw p) e refl

  module _ (n : ℕ) (at : entry_at d l ≡ Some n) where
    pub new : (d' : List ℕ) → n ≡ 0 → r ≡ (Ok Plain) → d' ≡ registered d l symbol → Enrolled d verdict r d'
    new d' z e f = enlists {w = enroll l symbol} (rw (at, z)) e f

    pub another : (n ≡ 0 → ⊥) → (n ≡ symbol → ⊥) → r ≡ Err Conflict → Enrolled d verdict r d
    another z q e = enlists {w = refuse Conflict} (rw (at, ne_eqb n 0 z, ne_eqb n symbol q)) e refl

    pub again : (n ≡ 0 → ⊥) → n ≡ symbol → r ≡ (Ok Plain) → Enrolled d verdict r d
    again z q e = enlists {w = pass} (rw (at, ne_eqb n 0 z, eq-eqb n symbol q)) e refl
