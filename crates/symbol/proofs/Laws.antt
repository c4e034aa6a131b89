-- The ways through the symbol question, over plain values. Assumes nothing.
use Prim.Native.Nat.{ℕ, zero, suc, ◌+◌, ◌-◌, ◌/◌, ◌%◌, ◌≤◌, ◌<◌}
use mathlib.Core.Path.{◌≡◌, refl, sym, ap, ap₂, ◌∙◌, subst}
use mathlib.Core.Bool.{true, false}
use mathlib.Core.List.{List, [], ◌∷◌}
use native.Mathlib.Nat.{add-sub_cancel_left}
use native.Mathlib.Omega.{arith}
use borrow.Author.Tests.{ne_eqb, le-leb, lt-leb}
use denote.Ref.{Bor}
use lib.ListN.{length, take, drop}
use Rattle.laws.specs.Field.{field}
use Rattle.reader.specs.Read.{type_of, answer}
use Rattle.directory.specs.Directory.{good_length, entry_at, is_symbol}
use Rattle.symbol.specs.declared.Part.{Part}
use Rattle.symbol.specs.Symbol.{stock_at, locate_of, stock_of, is_good, is_named, unpadded, empty_part, symbol_part, IsPart}
use Rattle.symbol.specs.Stocks.{Stock, stock_for, stocks, stocks-printed, stock_fits}
use Rattle.symbol.specs.Unpadded.{after_space, no_space}
use Rattle.symbol.specs.Formed.{formed}
use Rattle.symbol.specs.Means.{part_inside}

-- ---- where the Stock field starts

-- an arm with the letter k
pub starts : {t k n : ℕ} → stock_for stocks k ≡ n → t ≡ k → n ≡ stock_at t
starts {t} {k} e q = sym (ap stock_at q ∙ stocks-printed k ∙ e)

-- t is no letter of the list, after what is known before: the facts of the arms, the last outermost
abbrev pub Unlisted : Type 0 → ℕ → List Stock → Type 0
Unlisted known t [] = known
Unlisted known t (p ∷ ps) = Unlisted (known × (t ≡ p.letter → ⊥)) t ps

unlisted : (known : Type 0) (t : ℕ) (ps : List Stock) → Unlisted known t ps → known × (stock_for ps t ≡ 0)
unlisted known t [] u = (u, refl)
unlisted known t (p ∷ ps) u =
    let h = unlisted (known × (t ≡ p.letter → ⊥)) t ps u in
    (h.0.0, rw (ne_eqb t p.letter h.0.1) h.1)

-- what is no arm's letter
pub starts_nowhere : (t : ℕ) → Unlisted (Unit {0}) t stocks → 0 ≡ stock_at t
starts_nowhere t u = sym (stocks-printed t ∙ (unlisted (Unit {0}) t stocks u).1)

-- ---- the length

-- as many bytes are unpadded of the symbol v as of its first n bytes, rest

pub one_less : (v rest n : ℕ) → unpadded 8 v ≡ unpadded n rest → 0 < n → rest % 256 ≡ 32 → unpadded 8 v ≡ unpadded (n - 1) (rest / 256)
one_less v rest zero h l e = absurd (omega arith)
one_less v rest (suc n) h l e = let p : suc n - 1 ≡ n = omega arith in rw p (h ∙ after_space n rest e)

pub counted : (v rest n : ℕ) → unpadded 8 v ≡ unpadded n rest → 0 < n → (rest % 256 ≡ 32 → ⊥) → n ≡ unpadded 8 v
counted v rest zero h l e = absurd (omega arith)
counted v rest (suc n) h l e = sym (h ∙ no_space n rest e)

pub all_spaces : (v rest n : ℕ) → unpadded 8 v ≡ unpadded n rest → n ≡ 0 → 0 ≡ unpadded 8 v
unfolding unpadded
all_spaces v rest n h e = sym (h ∙ ap (λ (x : ℕ). unpadded x rest) e)

-- ---- the place

module _ (s : List ℕ) where
  pub some_bytes : is_good (answer s) ≡ true → 0 < length s
  some_bytes f = (formed s f).some

  pub fits : (start : ℕ) → is_good (answer s) ≡ true → start ≡ stock_at (type_of s) → (start ≡ 0 → ⊥) → start + 8 ≤ length s
  fits start f e n =
      let z = (formed s f).sized in
      let p : 1 ≤ stock_at (type_of s) = omega arith in
      let h = stock_fits (type_of s) p in
      omega arith

pub unsized : (d s : List ℕ) → good_length (length d) ≡ false → empty_part ≡ symbol_part d s
unfolding symbol_part is_named
unsized d s g = rw g

pub unread : (d s : List ℕ) → good_length (length d) ≡ true → is_good (answer s) ≡ false → empty_part ≡ symbol_part d s
unfolding symbol_part is_named
unread d s g f = rw (g, f)

module _ (d s : List ℕ) (g : good_length (length d) ≡ true) (f : is_good (answer s) ≡ true) where
  pub no_stock : (start : ℕ) → start ≡ stock_at (type_of s) → start ≡ 0 → empty_part ≡ symbol_part d s
  unfolding symbol_part is_named
  no_stock start e z = rw (g, f, lt-leb 1 (stock_at (type_of s)) (omega arith))

  module _ (start l v : ℕ) (e : start ≡ stock_at (type_of s)) (n : start ≡ 0 → ⊥) (p : l ≡ locate_of s) (q : v ≡ field s start 8) where
    asked : is_symbol (stock_of s) (entry_at d (locate_of s)) ≡ is_symbol v (entry_at d l)
    asked = sym (ap₂ (λ x y. is_symbol x (entry_at d y)) (q ∙ ap (λ (x : ℕ). field s x 8) e) p)

    pub unregistered : is_symbol v (entry_at d l) ≡ false → empty_part ≡ symbol_part d s
    unfolding symbol_part is_named
    unregistered r = rw (g, f, le-leb 1 (stock_at (type_of s)) (omega arith), asked ∙ r)

    pub registered : (len : ℕ) → is_symbol v (entry_at d l) ≡ true → len ≡ unpadded 8 v → record { start = start; len = len } ≡ symbol_part d s
    unfolding symbol_part is_named
    registered len r u =
        rw (g, f, le-leb 1 (stock_at (type_of s)) (omega arith), asked ∙ r)
        (ap₂ (λ (x y : ℕ). record { start = x; len = y }) e (u ∙ ap (unpadded 8) (q ∙ ap (λ (x : ℕ). field s x 8) e)))

-- ---- the part

-- the part that is asked for lies inside the message, so that its bounds are right
pub inside : (d s : List ℕ) (p : Part) → p ≡ symbol_part d s → p.start + p.len ≤ length s
inside d s p e = rw e (part_inside d s)

pub cut : (m : Bor (List ℕ)) (p q : Part) (r : Bor (List ℕ)) → p ≡ q → r.ref_ptr ≡ (m.ref_ptr.0, p.start + m.ref_ptr.1)
    → r.now ≡ take (p.start + p.len - p.start) (drop p.start m.now) → IsPart m q r
cut m p q r e a b =
    subst (λ x. IsPart m x r) e
    (record { place = a; bytes = b ∙ ap (λ (n : ℕ). take n (drop p.start m.now)) (add-sub_cancel_left p.start p.len) })
