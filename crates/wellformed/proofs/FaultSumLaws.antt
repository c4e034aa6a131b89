-- Why the sum of the faults shows the refusal: it is 512, 16, 2 and 1 times the counts of the fields at fault that earn 3, 4, 5
-- and 6, and no type has so many fields of a kind that a count overruns the next number, by one computed test over the table.
-- And where nothing is at fault, what the code holds of each field is the field's number. Assumes nothing.
use Rattle.std.specs.Prelude.{◌≡◌, refl, Bool, true, false, cond, not, ◌&&◌, ◌||◌, List, [], ◌∷◌, ℕ, zero, suc, ◌+◌, ◌*◌, ◌≤◌, eqb, leb, ltb}
use Rattle.std.proofs.Common.{sym, ap₂, zero-add, arith, lt-ltb, le-leb, leb-true}
use Rattle.std.proofs.lemmas.Bool.{lt-leb}
use Rattle.laws.specs.Bools.{fault, fault-le, and_left, and_right, fault_none}
use Rattle.kinds.specs.Admission.{maximum}
use Rattle.kinds.specs.Sides.{good_side}
use Rattle.kinds.specs.SideLaws.{good_back}
use Rattle.layout.specs.Kind.{Kind, Cell}
use Rattle.layout.specs.Kind.Kind.{number, time, shares, price4, price8, texts, side, printable, code, alpha, reserved}
use Rattle.layout.specs.Layout.{cells_of}
use Rattle.layout.specs.Chained.{each_type}
use Rattle.wellformed.specs.WellFormed.{good, good_price, earns, value_at, faulty, refusal, values}
use Rattle.wellformed.specs.FaultSum.{unit, faults, shows, side_held, price_held, held_as, held_values}

-- how many fields at fault earn the refusal n
count : ℕ → List ℕ → List Cell → ℕ
count n s [] = 0
count n s (c ∷ cs) = cond (eqb (earns c.kind) n) (fault (good c.kind c.width (value_at s c))) 0 + count n s cs

-- how many fields could
abbrev most : ℕ → List Cell → ℕ
most n [] = 0
most n (c ∷ cs) = cond (eqb (earns c.kind) n) 1 0 + most n cs

count_le : (n : ℕ) (s : List ℕ) (cs : List Cell) → count n s cs ≤ most n cs
unfolding count
count_le n s [] = omega arith
count_le n s (c ∷ cs) = go (eqb (earns c.kind) n) (good c.kind c.width (value_at s c)) (count_le n s cs)
  where
    go : (b g : Bool) {x y : ℕ} → x ≤ y → cond b (fault g) 0 + x ≤ cond b 1 0 + y
    go true g l = omega (arith, fault-le g)
    go false g l = omega arith

-- some field earns n where one is counted
faulty_count : (n : ℕ) (s : List ℕ) (cs : List Cell) → faulty n s cs ≡ ltb 0 (count n s cs)
unfolding count fault
faulty_count n s [] = refl
faulty_count n s (c ∷ cs) = go (eqb (earns c.kind) n) (good c.kind c.width (value_at s c)) (count n s cs) (faulty_count n s cs)
  where
    go : (b g : Bool) (x : ℕ) {f : Bool} → f ≡ ltb 0 x → (b && not g) || f ≡ ltb 0 (cond b (fault g) 0 + x)
    go true true x e = rw zero-add e
    go true false x e = sym (lt-ltb 0 (1 + x) (omega arith))
    go false g x e = rw zero-add e

-- a field adds what it counts
fault_count : (k : Kind) (f : ℕ)
    → unit k * f ≡ 512 * cond (eqb (earns k) 3) f 0 + (16 * cond (eqb (earns k) 4) f 0 + (2 * cond (eqb (earns k) 5) f 0 + cond (eqb (earns k) 6) f 0))
fault_count number f = omega arith
fault_count time f = omega arith
fault_count shares f = omega arith
fault_count price4 f = omega arith
fault_count price8 f = omega arith
fault_count texts f = omega arith
fault_count side f = omega arith
fault_count printable f = omega arith
fault_count code f = omega arith
fault_count alpha f = omega arith
fault_count reserved f = omega arith

faults_count : (s : List ℕ) (cs : List Cell) → faults s cs ≡ 512 * count 3 s cs + (16 * count 4 s cs + (2 * count 5 s cs + count 6 s cs))
unfolding count
faults_count s [] = refl
faults_count s (c ∷ cs) = omega (arith, faults_count s cs, fault_count c.kind (fault (good c.kind c.width (value_at s c))))

-- the sum shows the first of the four that is counted
shows_first : (a b c d : ℕ) → b ≤ 31 → c ≤ 7 → d ≤ 1
    → cond (ltb 0 a) 3 (cond (ltb 0 b) 4 (cond (ltb 0 c) 5 (cond (ltb 0 d) 6 0))) ≡ shows (512 * a + (16 * b + (2 * c + d)))
shows_first (suc a) b c d lb lc ld =
    rw (lt-ltb 0 (suc a) (omega arith), le-leb 512 (512 * suc a + (16 * b + (2 * c + d))) (omega arith))
shows_first zero (suc b) c d lb lc ld =
    let w = 512 * 0 + (16 * suc b + (2 * c + d)) in
    rw (lt-ltb 0 (suc b) (omega arith), lt-leb 512 w (omega arith), le-leb 16 w (omega arith))
shows_first zero zero (suc c) d lb lc ld =
    let w = 512 * 0 + (16 * 0 + (2 * suc c + d)) in
    rw (lt-ltb 0 (suc c) (omega arith), lt-leb 512 w (omega arith), lt-leb 16 w (omega arith), le-leb 2 w (omega arith))
shows_first zero zero zero zero lb lc ld = refl
shows_first zero zero zero (suc zero) lb lc ld = refl
shows_first zero zero zero (suc (suc d)) lb lc ld = absurd (omega arith)

-- no count overruns the next number
abbrev room : List Cell → Bool
room cs = leb (most 4 cs) 31 && (leb (most 5 cs) 7 && leb (most 6 cs) 1)

room_of_lem : (t : ℕ) → room (cells_of t) ≡ true
room_of_lem t = each_type room refl refl t

-- the refusal of each type is what its faults show
pub faults_show : (t : ℕ) (s : List ℕ) → refusal s (cells_of t) ≡ shows (faults s (cells_of t))
unfolding refusal
faults_show t s =
    let cs = cells_of t in
    let four = leb (most 4 cs) 31 in
    let five = leb (most 5 cs) 7 in
    let six = leb (most 6 cs) 1 in
    let tail : five && six ≡ true = and_right four (five && six) (room_of_lem t) in
    rw (faulty_count 3 s cs, faulty_count 4 s cs, faulty_count 5 s cs, faulty_count 6 s cs, faults_count s cs)
    (shows_first (count 3 s cs) (count 4 s cs) (count 5 s cs) (count 6 s cs)
    (omega (arith, count_le 4 s cs, leb-true (most 4 cs) 31 (and_left four (five && six) (room_of_lem t))))
    (omega (arith, count_le 5 s cs, leb-true (most 5 cs) 7 (and_left five six tail)))
    (omega (arith, count_le 6 s cs, leb-true (most 6 cs) 1 (and_right five six tail))))

-- a field that is not at fault is held as it reads
side_held_lem : (v : ℕ) → 16 * fault (good_side v) ≡ 0 → side_held v ≡ v
unfolding side_held
side_held_lem v e = good_back v (fault_none (good_side v) (omega arith))

price_held_lem : (v : ℕ) → 2 * fault (good_price v) ≡ 0 → price_held v ≡ v
unfolding good_price price_held fault
price_held_lem v = go (leb v maximum)
  where
    go : (b : Bool) → 2 * fault b ≡ 0 → cond b v 0 ≡ v
    go true e = refl
    go false e = absurd (omega arith)

held_value : (k : Kind) (w v : ℕ) → unit k * fault (good k w v) ≡ 0 → held_as k v ≡ v
held_value number w v e = refl
held_value time w v e = refl
held_value shares w v e = refl
held_value price4 w v e = price_held_lem v e
held_value price8 w v e = refl
held_value texts w v e = refl
held_value side w v e = side_held_lem v e
held_value printable w v e = refl
held_value code w v e = refl
held_value alpha w v e = refl
held_value reserved w v e = refl

pub holds-values : (s : List ℕ) (cs : List Cell) → faults s cs ≡ 0 → held_values s cs ≡ values s cs
holds-values s [] e = refl
holds-values s (c ∷ cs) e =
    ap₂ ◌∷◌ (held_value c.kind c.width (value_at s c) (omega arith)) (holds-values s cs (omega arith))
