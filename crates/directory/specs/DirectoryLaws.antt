-- What a directory's length and an entry say, as facts of numbers, and what registering leaves alone. Assumes nothing.
use Rattle.std.specs.Prelude.{ℕ, ◌≤◌, ◌<◌, ◌≡◌, refl, ◌↔◌, ◌⊎◌, ◌≢◌, List, leb, ltb, length, get_or, Option, Some, None}
use Rattle.std.proofs.Common.{ap, inl, inr, ⊎_elim, arith, le-leb, lt-ltb, leb-true, leb-false, ltb-true, ltb-false, eqb-true, length-set, get_or-set_same, get_or-set_other}
use mathlib.Core.Bool.{Bool, true, false, cond, ◌&&◌}
use Rattle.std.proofs.Math.Seq.{set_out}
use Rattle.laws.specs.Bools.{and_left, and_right, and_both}
use Rattle.laws.specs.Least.{same_or, lt-or-le}
use Rattle.directory.specs.Directory.{most_numbers, DirectoryLength, good_length, unused_of, entry_at, is_symbol, registered}

-- ---- lengths

pub length_means : (n : ℕ) → good_length n ≡ true ↔ DirectoryLength n
unfolding good_length
length_means n = (
  λ e. record {
    least = leb-true 2 n (and_left (leb 2 n) (leb n most_numbers) e);
    most = leb-true n most_numbers (and_right (leb 2 n) (leb n most_numbers) e);
  },
  λ l. and_both (leb 2 n) (leb n most_numbers) (le-leb 2 n l.least) (le-leb n most_numbers l.most),
)

-- ---- entries

-- the symbol n stands at the locate l
pub record EntryIs (d : List ℕ) (l n : ℕ) : Type 0 where
  pub from : 1 ≤ l
  pub inside : l < length d
  pub symbol : get_or d l 0 ≡ n

stands_entry : (d : List ℕ) (l n : ℕ) → EntryIs d l n → entry_at d l ≡ Some n
unfolding entry_at
stands_entry d l n s = rw (le-leb 1 l s.from, lt-ltb l (length d) s.inside) (ap Some s.symbol)

entry_stands : (d : List ℕ) (l n : ℕ) → entry_at d l ≡ Some n → EntryIs d l n
unfolding entry_at
entry_stands d l n = go (leb 1 l) refl (ltb l (length d)) refl
  where
    go : (a : Bool) → leb 1 l ≡ a → (b : Bool) → ltb l (length d) ≡ b → cond (a && b) (Some (get_or d l 0)) None ≡ Some n → EntryIs d l n
    go true p true q e = record { from = leb-true 1 l p; inside = ltb-true l (length d) q; symbol = cc }
    go true p false q e = let z : ◌≡◌ {A = ℕ} 0 1 = cc in absurd (omega arith)
    go false p b q e = let z : ◌≡◌ {A = ℕ} 0 1 = cc in absurd (omega arith)

-- a symbol stands at a locate exactly where its number holds it, inside the directory
pub entry_means : (d : List ℕ) (l n : ℕ) → entry_at d l ≡ Some n ↔ EntryIs d l n
entry_means d l n = (entry_stands d l n, stands_entry d l n)

-- and none does where the locate is 0 or beyond the directory
pub outside_means : (d : List ℕ) (l : ℕ) → entry_at d l ≡ None ↔ (l ≡ 0) ⊎ (length d ≤ l)
unfolding entry_at
outside_means d l = (go (leb 1 l) refl (ltb l (length d)) refl, out)
  where
    go : (a : Bool) → leb 1 l ≡ a → (b : Bool) → ltb l (length d) ≡ b → cond (a && b) (Some (get_or d l 0)) None ≡ None → (l ≡ 0) ⊎ (length d ≤ l)
    go true p true q e = let z : ◌≡◌ {A = ℕ} 0 1 = cc in absurd (omega arith)
    go true p false q e = inr (omega (arith, ltb-false l (length d) q))
    go false p b q e = inl (omega (arith, leb-false 1 l p))

    out : (l ≡ 0) ⊎ (length d ≤ l) → cond (leb 1 l && ltb l (length d)) (Some (get_or d l 0)) None ≡ None
    out h = by (leb 1 l) refl (ltb l (length d)) refl
      where
        by : (a : Bool) → leb 1 l ≡ a → (b : Bool) → ltb l (length d) ≡ b → cond (a && b) (Some (get_or d l 0)) None ≡ None
        by true p true q =
            absurd (⊎_elim (λ e. omega (arith, leb-true 1 l p)) (λ g. omega (arith, ltb-true l (length d) q)) h)
        by true p false q = refl
        by false p b q = refl

-- a test of the symbol
pub symbol_is : (symbol : ℕ) (e : Option ℕ) → is_symbol symbol e ≡ true → e ≡ Some symbol
symbol_is symbol None e = absurd (mathlib.Core.Bool.false≢true e)
symbol_is symbol (Some n) e = ap Some (eqb-true n symbol e)

-- ---- registering

pub registered-length : (d : List ℕ) (l symbol : ℕ) → length (registered d l symbol) ≡ length d
unfolding registered
registered-length d l symbol = length-set d l symbol

pub registered-same : (d : List ℕ) (l n symbol : ℕ) → entry_at d l ≡ Some n → entry_at (registered d l symbol) l ≡ Some symbol
unfolding registered
registered-same d l n symbol e =
    let s = entry_stands d l n e in
    stands_entry _ l symbol (record {
      from = s.from;
      inside = rw (length-set d l symbol) s.inside;
      symbol = get_or-set_same d l symbol 0 s.inside;
    })

pub registered_other : (d : List ℕ) (l symbol m : ℕ) → m ≢ l → entry_at (registered d l symbol) m ≡ entry_at d m
unfolding registered entry_at
registered_other d l symbol m n = rw (length-set d l symbol, get_or-set_other d l m symbol 0 n)

pub registered_unused : (d : List ℕ) (l symbol : ℕ) → 1 ≤ l → unused_of (registered d l symbol) ≡ unused_of d
unfolding registered unused_of
registered_unused d l symbol h = get_or-set_other d l 0 symbol 0 (λ q. omega arith)

-- numbers below a bound stay below it
pub registered_below : (d : List ℕ) (l symbol n : ℕ) → ((i : ℕ) → get_or d i 0 < n) → symbol < n → (i : ℕ) → get_or (registered d l symbol) i 0 < n
unfolding registered
registered_below d l symbol n h b i = ⊎_elim
    (λ (e : i ≡ l). ⊎_elim (λ g. rw (e, get_or-set_same d l symbol 0 g) b) (λ g. rw (set_out d l symbol g) (h i)) (lt-or-le l (length d)))
    (λ d'. rw (get_or-set_other d l i symbol 0 d') (h i))
    (same_or i l)
