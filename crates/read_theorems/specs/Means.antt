-- What `good` tests: a field passes exactly where it holds what 01 asks of its kind. Assumes nothing.
use Rattle.std.specs.Prelude.{◌≡◌, refl, ◌↔◌, ◌⊎◌, Bool, true, false, ◌||◌, ℕ, eqb}
use Rattle.std.proofs.Common.{inl, inr, ltb-true, lt-ltb, leb-true, le-leb, eqb-true, eq-eqb}
use Rattle.kinds.specs.Admission.{maximum}
use Rattle.kinds.specs.Sides.{good_side}
use Rattle.text.proofs.TextMeaning.{text_means, means_text}
use Rattle.layout.specs.Kind.{Kind}
use Rattle.layout.specs.Kind.Kind.{number, time, shares, price4, price8, texts, side, printable, code, alpha, reserved}
use Rattle.wellformed.specs.WellFormed.{good, good_time, good_shares, good_price, good_printable}
use Rattle.read_theorems.specs.Statements.{Means}

-- one of two letters
either : (v a b : ℕ) → eqb v a || eqb v b ≡ true ↔ (v ≡ a) ⊎ (v ≡ b)
either v a b = (go (eqb v a) refl, back)
  where
    go : (x : Bool) → eqb v a ≡ x → x || eqb v b ≡ true → (v ≡ a) ⊎ (v ≡ b)
    go true p e = inl (eqb-true v a p)
    go false p e = inr (eqb-true v b e)

    or-true : (x : Bool) → x || true ≡ true
    or-true true = refl
    or-true false = refl

    back : (v ≡ a) ⊎ (v ≡ b) → eqb v a || eqb v b ≡ true
    back (inl e) = rw (eq-eqb v a e)
    back (inr e) = rw (eq-eqb v b e) (or-true (eqb v a))

any : (true ≡ true) ↔ Unit {0}
any = (λ e. tt, λ u. refl)

pub good_means : (k : Kind) (w v : ℕ) → good k w v ≡ true ↔ Means k w v
unfolding good_time good_shares good_price maximum good_side good_printable
good_means number w v = any
good_means time w v = (ltb-true v 86400000000000, lt-ltb v 86400000000000)
good_means shares w v = (leb-true 1 v, le-leb 1 v)
good_means price4 w v = (leb-true v 2000000000, le-leb v 2000000000)
good_means price8 w v = any
good_means texts w v = (text_means w v, λ r. means_text w v r.0 r.1)
good_means side w v = either v 66 83
good_means printable w v = either v 89 78
good_means code w v = any
good_means alpha w v = any
good_means reserved w v = any
