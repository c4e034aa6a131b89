-- What a message that is read is: as long as its type says, with no field at fault, so its Stock field is a text. Assumes nothing.
use Rattle.std.specs.Prelude.{ℕ, ◌≤◌, ◌≡◌, refl, Bool, true, false, cond, not, ◌&&◌, ◌||◌, List, [], ◌∷◌, eqb, length, Result, Ok}
use Rattle.std.proofs.Common.{subst, true≢false, arith, eqb-true}
use Rattle.std.proofs.lemmas.Bool.{false≢true, eqb-false, not-false}
use Rattle.laws.specs.Bools.{and_right}
use Rattle.laws.specs.Field.{field}
use Rattle.refusals.specs.Refusals.{LENGTH, TYPE}
use Rattle.text.specs.Text.{text}
use Rattle.layout.specs.Kind.{Kind, Cell}
use Rattle.layout.specs.Kind.Kind.{number, time, shares, price4, price8, texts, side, printable, code, alpha, reserved}
use Rattle.layout.specs.Layout.{cells_of, length_of}
use Rattle.messages.specs.declared.Message.{Message}
use Rattle.wellformed.specs.WellFormed.{good, earns, value_at, wrong, faulty, refusal}
use Rattle.reader.specs.Read.{no_message, type_of, judged_as, answer}
use Rattle.symbol.specs.Symbol.{is_text, is_stock, stock_in, stock_at, stock_of, is_good}
use Rattle.refusals.specs.declared.Refusal.{Refusal}

pub record Formed (s : List ℕ) : Type 0 where
  pub some : 1 ≤ length s
  pub sized : length s ≡ length_of (type_of s)
  pub faultless : refusal s (cells_of (type_of s)) ≡ 0

-- the answer is Ok only where no test refused
passed : (a b c : Bool) (x : Result Message Refusal) → is_good (cond a (no_message LENGTH) (cond b (no_message TYPE) (cond c x (no_message LENGTH)))) ≡ true
    → (a ≡ false) × (c ≡ true) × (is_good x ≡ true)
passed true b c x e = absurd (false≢true e)
passed false true c x e = absurd (false≢true e)
passed false false false x e = absurd (false≢true e)
passed false false true x e = (refl, refl, e)

judged-good : (n : ℕ) (b : Bool) (m : Message) → is_good (cond b (Ok m) (no_message n)) ≡ true → b ≡ true
judged-good n true m e = refl
judged-good n false m e = absurd (false≢true e)

pub formed : (s : List ℕ) → is_good (answer s) ≡ true → Formed s
unfolding answer judged_as
formed s e =
    let n = length_of (type_of s) in
    let p = passed (eqb (length s) 0) (eqb n 0) (eqb (length s) n) (judged_as (type_of s) s) e in
    let z = eqb-false (length s) 0 p.0 in
    record {
      some = omega arith;
      sized = eqb-true _ _ p.1;
      faultless = eqb-true _ _ (judged-good (refusal s (cells_of (type_of s))) _ _ p.2);
    }

-- ---- the Stock field

-- no field earns FIELD where none earns anything
no_fault : (a b c d : Bool) → ◌≡◌ {A = ℕ} (cond a 3 (cond b 4 (cond c 5 (cond d 6 0)))) 0 → b ≡ false
no_fault a false c d e = refl
no_fault true true c d e = absurd (omega arith)
no_fault false true c d e = absurd (omega arith)

-- a Stock field that does not earn FIELD is a text
text-held : (k : Kind) (w v : ℕ) → is_text k && eqb w 8 ≡ true → eqb (earns k) 4 && not (good k w v) ≡ false → text w v ≡ true
text-held texts w v e f = not-false (text w v) f
text-held number w v e f = absurd (false≢true e)
text-held time w v e f = absurd (false≢true e)
text-held shares w v e f = absurd (false≢true e)
text-held price4 w v e f = absurd (false≢true e)
text-held price8 w v e f = absurd (false≢true e)
text-held side w v e f = absurd (false≢true e)
text-held printable w v e f = absurd (false≢true e)
text-held code w v e f = absurd (false≢true e)
text-held alpha w v e f = absurd (false≢true e)
text-held reserved w v e f = absurd (false≢true e)

or_left : (a b : Bool) → a || b ≡ false → a ≡ false
or_left true b e = e
or_left false b e = refl

or_right : (a b : Bool) → a || b ≡ false → b ≡ false
or_right true b e = absurd (true≢false e)
or_right false b e = e

text_in : (s : List ℕ) (cs : List Cell) → faulty 4 s cs ≡ false → 1 ≤ stock_in cs → text 8 (field s (stock_in cs) 8) ≡ true
text_in s [] f l = absurd (omega arith)
text_in s (c ∷ cs) f l =
    go (is_stock c) refl l (or_left (wrong 4 s c) (faulty 4 s cs) f) (text_in s cs (or_right (wrong 4 s c) (faulty 4 s cs) f))
  where
    go : (b : Bool) → is_stock c ≡ b → 1 ≤ cond b c.offset (stock_in cs) → wrong 4 s c ≡ false
        → (1 ≤ stock_in cs → text 8 (field s (stock_in cs) 8) ≡ true) → text 8 (field s (cond b c.offset (stock_in cs)) 8) ≡ true
    go true e l f rest =
        let w : c.width ≡ 8 = eqb-true _ _ (and_right (is_text c.kind) (eqb c.width 8) e) in
        subst (λ (n : ℕ). text n (field s c.offset n) ≡ true) w (text-held c.kind c.width (value_at s c) e f)
    go false e l f rest = rest l

-- the Stock field of a well-formed message is a text
pub stock-text : (s : List ℕ) → Formed s → 1 ≤ stock_at (type_of s) → text 8 (stock_of s) ≡ true
unfolding stock_at refusal
stock-text s h l =
    let cs = cells_of (type_of s) in
    text_in s cs (no_fault (faulty 3 s cs) (faulty 4 s cs) (faulty 5 s cs) (faulty 6 s cs) h.faultless) l
