-- A record is written part after part: what stands from the front on grows by the bytes of one number with each store, and the
-- kind is put at the head last. Assumes nothing.
use mathlib.Core.Path.{◌≡◌, refl, sym, ap, ◌∙◌}
use mathlib.Core.List.{List, [], ◌∷◌, ◌++◌, append_assoc}
use Prim.Native.Nat.{ℕ, ◌+◌, ◌-◌, ◌≤◌, ◌<◌}
use native.Mathlib.Omega.{arith}
use lib.ListN.{length, take, set, length-append}
use lib.Seq.{length-take-le, take-length, take_at}
use borrow.Rule.Slice.PartMut.{Post-is, mid_of, post_of, put_mid, mid_len, same_len_mid}
use Rattle.store.specs.Store.{big_endian}
use Rattle.store.specs.StoreLaws.{length-big_endian}
use Rattle.records.specs.Append.{appended, reach}
use Rattle.records.specs.RecordLaws.{appended_fits, appended_over, reach_fits, reach_over}

-- n bytes, of which the first a are x
pub record Begun (n : ℕ) (l : List ℕ) (a : ℕ) (x : List ℕ) : Type 0 where
  pub size : length l ≡ n
  pub front : take a l ≡ x

pub start : (n : ℕ) (l : List ℕ) → length l ≡ n → Begun n l 1 (take 1 l)
start n l e = record { size = e; front = refl }

-- a number stored behind them
pub part : {n : ℕ} {l : List ℕ} {a : ℕ} {x : List ℕ} (e v : ℕ) {ys : List ℕ} → Begun n l a x → a ≤ e → e ≤ n
    → ys ≡ big_endian (length (mid_of a (e - a) l)) v → Begun n (put_mid a (e - a) l ys) e (x ++ big_endian (e - a) v)
part {n} {l} {a} {x} e v {ys} b h k q =
    let m : length (mid_of a (e - a) l) ≡ e - a = mid_len a e l (omega (arith, b.size)) in
    let s : length ys ≡ length (mid_of a (e - a) l) = ap length q ∙ length-big_endian (length (mid_of a (e - a) l)) v in
    let y : ys ≡ big_endian (e - a) v = q ∙ ap (λ (w : ℕ). big_endian w v) m in
    let f : length (take a l) ≡ a = length-take-le a l (omega (arith, b.size)) in
    let g : length (take a l ++ ys) ≡ e = omega (arith, length-append (take a l) ys) in
    record {
      size = same_len_mid a (e - a) l ys s ∙ b.size;
      front =
          ap (take e) (sym (append_assoc (take a l) ys (post_of a (e - a) l)))
          ∙ take_at (take a l ++ ys) (post_of a (e - a) l) e g
          ∙ rw (b.front, y);
    }

-- the kind at the head of what was written
pub headed : {n kind : ℕ} {l body x : List ℕ} (l₀ : List ℕ) → length l₀ ≡ n → 0 < n → Begun n l n x → x ≡ take 1 l₀ ++ body → set l 0 kind ≡ kind ∷ body
headed [] h k b q = absurd (omega arith)
headed {n} {kind} {l} {body} (y ∷ l₀) h k b q =
    let e : l ≡ y ∷ body = sym (take-length l) ∙ ap (λ (m : ℕ). take m l) b.size ∙ b.front ∙ q in
    ap (λ (m : List ℕ). set m 0 kind) e

-- where a row does not fit, nothing changes
pub unfit : (out : List ℕ) (at : ℕ) (row : List ℕ) → length out < at + length row → (at ≡ reach out at row) × (out ≡ appended out at row)
unfit out at row h = (sym (reach_over out at row h), sym (appended_over out at row h))

-- where it fits, the row copied whole is the row appended
pub fit : (out : List ℕ) (at : ℕ) (row now : List ℕ) → at + length row ≤ length out → now ≡ row
    → (at + length row ≡ reach out at row) × (put_mid at (at + length row - at) out now ≡ appended out at row)
fit out at row now h e = rw (reach_fits out at row h, appended_fits out at row h, e, Post-is at (at + length row) out (omega arith)) (refl, refl)
