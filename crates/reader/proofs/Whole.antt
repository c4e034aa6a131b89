-- What a builder ensures, field by field, is the right answer, whole: the faults show the refusal, and where there is none the
-- fields held are the fields read, which make the message. Assumes nothing.
use Rattle.std.specs.Prelude.{Ok}
use mathlib.Core.Path.{◌≡◌, refl, sym, ap, ap₂, ◌∙◌}
use mathlib.Core.Bool.{Bool, true, false, cond}
use mathlib.Core.List.{List, [], ◌∷◌}
use Prim.Native.Nat.{ℕ, zero, suc, ◌<◌}
use native.Mathlib.Omega.{arith}
use borrow.Author.Tests.{ne_eqb, le-leb}
use lib.Dec.{eqb, leb}
use lib.ListN.{length}
use Rattle.laws.specs.Facts.{FactsBelow, fact_at}
use Rattle.laws.specs.Facts.FactsBelow.{no_facts, ◌▸◌}
use Rattle.laws.specs.Lists.{same}
use Rattle.layout.specs.Kind.{Cell}
use Rattle.layout.specs.Layout.{cells_of}
use Rattle.layout.specs.Chained.{fields_few}
use Rattle.messages.specs.declared.Message.{Message}
use Rattle.messages.specs.Numbers.{values_of}
use Rattle.messages.specs.Typed.{message}
use Rattle.messages.specs.TypedLaws.{message_back}
use Rattle.wellformed.specs.WellFormed.{values}
use Rattle.wellformed.specs.FaultSum.{faults, shows, held_values}
use Rattle.wellformed.proofs.FaultSumLaws.{faults_show, holds-values}
use Rattle.checked.specs.declared.Checked.{Checked}
use Rattle.parsed.specs.Parsed.{answer_of, HoldsField, IsParsed}
use Rattle.reader.specs.Read.{no_message, judged_as}

length-holds : (s : List ℕ) (cs : List Cell) → length (held_values s cs) ≡ length cs
length-holds s [] = refl
length-holds s (c ∷ cs) = ap suc (length-holds s cs)

at : {t : ℕ} {s : List ℕ} {p : Checked Message} → IsParsed t s p → (i : ℕ) → i < 17 → HoldsField t s p i
at {t} {s} {p} h =
    let P = HoldsField t s p in
    let f : FactsBelow P 17 =
    no_facts ▸ h.v0 ▸ h.v1 ▸ h.v2 ▸ h.v3 ▸ h.v4 ▸ h.v5 ▸ h.v6 ▸ h.v7 ▸ h.v8 ▸ h.v9 ▸ h.v10 ▸ h.v11 ▸ h.v12 ▸ h.v13 ▸ h.v14 ▸ h.v15 ▸ h.v16 in
    fact_at f

-- the message holds each field of its type
holds_all : {t : ℕ} {s : List ℕ} {p : Checked Message} → IsParsed t s p → values_of p.value ≡ held_values s (cells_of t)
holds_all {t} {s} {p} h =
    same 17 (values_of p.value) (held_values s (cells_of t)) (h.size ∙ sym (length-holds s (cells_of t))) (omega (arith, h.size, fields_few t)) (at h)

-- a message without a fault is the one that its fields make
message_is : {t : ℕ} {s : List ℕ} {p : Checked Message} → IsParsed t s p → faults s (cells_of t) ≡ 0 → p.value ≡ message t (values s (cells_of t))
message_is {t} {s} {p} h e =
    sym (message_back p.value) ∙ ap₂ message h.letter (holds_all h ∙ holds-values s (cells_of t) e)

shows_some : (w : ℕ) → eqb (shows (suc w)) 0 ≡ false
shows_some w = go (leb 512 (suc w)) (leb 16 (suc w)) (leb 2 (suc w)) (leb 1 (suc w)) (le-leb 1 (suc w) (omega arith))
  where
    go : (a b c d : Bool) → d ≡ true → eqb (cond a 3 (cond b 4 (cond c 5 (cond d 6 0)))) 0 ≡ false
    go true b c d e = refl
    go false true c d e = refl
    go false false true d e = refl
    go false false false d e = rw e

pub whole : {t : ℕ} {s : List ℕ} {p : Checked Message} → IsParsed t s p → answer_of p ≡ judged_as t s
unfolding answer_of judged_as
whole {t} {s} {p} h = rw (h.summed, faults_show t s) (go (faults s (cells_of t)) refl)
  where
    go : (w : ℕ) → faults s (cells_of t) ≡ w
        → cond (eqb w 0) (Ok p.value) (no_message (shows w)) ≡ cond (eqb (shows w) 0) (Ok (message t (values s (cells_of t)))) (no_message (shows w))
    go zero e = ap Ok (message_is h e)
    go (suc w) e = rw (shows_some w, ne_eqb (suc w) 0 (λ z. omega arith))
