-- What `faulty` and `refusal` mean of any fields: some field earns the refusal; and the first that is earned, or 0 where every
-- field is well formed. Assumes nothing.
use Rattle.std.specs.Prelude.{◌≡◌, refl, ◌↔◌, Bool, true, false, cond, not, ◌&&◌, ◌||◌, ℕ, suc, ◌≤◌, ◌<◌, eqb}
use Rattle.std.proofs.Common.{sym, ◌∙◌, true≢false, arith, eqb-true, eq-eqb}
use Rattle.std.proofs.lemmas.Bool.{false≢true}
use mathlib.Core.List.Memᴰ.{head as here}
use mathlib.Core.List.Memᴰ.{tail as there}
use mathlib.Core.List.{List, [], ◌∷◌, Memᴰ as Among}
use Rattle.std.proofs.Math.Decide.{dec_lt}
use Rattle.laws.specs.Bools.{true_not_false}
use Rattle.layout.specs.Kind.{Kind, Cell}
use Rattle.layout.specs.Kind.Kind.{number, time, shares, price4, price8, texts, side, printable, code, alpha, reserved}
use Rattle.wellformed.specs.WellFormed.{good, earns, value_at, wrong, faulty, refusal}
use Rattle.read_theorems.specs.Statements.{AtFault, FirstFault, AllGood}

-- a field that is not well formed earns 3 to 6
earned_some : (k : Kind) (w v : ℕ) → good k w v ≡ false → (3 ≤ earns k) × (earns k ≤ 6)
earned_some number w v e = absurd (true≢false e)
earned_some time w v e = omega arith
earned_some shares w v e = omega arith
earned_some price4 w v e = omega arith
earned_some price8 w v e = absurd (true≢false e)
earned_some texts w v e = omega arith
earned_some side w v e = omega arith
earned_some printable w v e = omega arith
earned_some code w v e = absurd (true≢false e)
earned_some alpha w v e = absurd (true≢false e)
earned_some reserved w v e = absurd (true≢false e)

pub fault_range : {s : List ℕ} {cs : List Cell} {n : ℕ} → AtFault s cs n → (3 ≤ n) × (n ≤ 6)
fault_range {s} f =
    let c = f.cell in
    let e = f.earned in
    let r = earned_some c.kind c.width (value_at s c) f.bad in
    omega arith

-- ---- some field earns n

later : {s : List ℕ} {c : Cell} {cs : List Cell} {n : ℕ} → AtFault s cs n → AtFault s (c ∷ cs) n
later f = record { cell = f.cell; among = there f.among; earned = f.earned; bad = f.bad }

found : (n : ℕ) (s : List ℕ) (cs : List Cell) → faulty n s cs ≡ true → AtFault s cs n
found n s [] e = absurd (false≢true e)
found n s (c ∷ cs) e = go (eqb (earns c.kind) n) refl (good c.kind c.width (value_at s c)) refl e (found n s cs)
  where
    go : (a : Bool) → eqb (earns c.kind) n ≡ a → (g : Bool) → good c.kind c.width (value_at s c) ≡ g
        → (a && not g) || faulty n s cs ≡ true → (faulty n s cs ≡ true → AtFault s cs n) → AtFault s (c ∷ cs) n
    go true p false q e rest = record { cell = c; among = here refl; earned = eqb-true _ _ p; bad = q }
    go true p true q e rest = later (rest e)
    go false p g q e rest = later (rest e)

or_right : (a b : Bool) → b ≡ true → a || b ≡ true
or_right true b e = refl
or_right false b e = e

shown : (n : ℕ) (s : List ℕ) {c : Cell} {cs : List Cell} → Among c cs → wrong n s c ≡ true → faulty n s cs ≡ true
shown n s (here q) e = rw (← q) (rw e)
shown n s (there {x = x} {xs = xs} m) e = or_right (wrong n s x) (faulty n s xs) (shown n s m e)

-- the test that the definition makes says that some field earns n
pub faulty_means : (n : ℕ) (s : List ℕ) (cs : List Cell) → faulty n s cs ≡ true ↔ AtFault s cs n
faulty_means n s cs = (found n s cs, λ f. shown n s f.among (rw (eq-eqb _ _ f.earned, f.bad)))

-- ---- the first refusal

-- what a refusal n says of the fields
pub data FoundFault (s : List ℕ) (cs : List Cell) (n : ℕ) : Type 0 where
  no_fault : n ≡ 0 → AllGood s cs → FoundFault s cs n
  first-fault : FirstFault s cs n → FoundFault s cs n

-- no field earns a refusal below n
abbrev Clear : List ℕ → List Cell → ℕ → Type 0
Clear s cs n = (m : ℕ) → m < n → AtFault s cs m → ⊥

clear_three : (s : List ℕ) (cs : List Cell) → Clear s cs 3
clear_three s cs m l f = let r = fault_range f in omega arith

-- one more check that passes
clear_next : (s : List ℕ) (cs : List Cell) (n : ℕ) → Clear s cs n → faulty n s cs ≡ false → Clear s cs (suc n)
clear_next s cs n h e m l f = elim (dec_lt m n) [ yes b ↦ h m b f | no b ↦ last b ]
  where
    last : (m < n → ⊥) → ⊥
    last b = let q : m ≡ n = omega arith in true_not_false (faulty n s cs) ((faulty_means n s cs).1 (rw q at f)) e

clear_all : (s : List ℕ) (cs : List Cell) → Clear s cs 7 → AllGood s cs
clear_all s cs h c m = go (good c.kind c.width (value_at s c)) refl
  where
    go : (g : Bool) → good c.kind c.width (value_at s c) ≡ g → g ≡ true
    go true e = refl
    go false e =
        let r = earned_some c.kind c.width (value_at s c) e in
        absurd (h (earns c.kind) (omega arith) (record { cell = c; among = m; earned = refl; bad = e }))

pub refusal_found : (s : List ℕ) (cs : List Cell) → FoundFault s cs (refusal s cs)
unfolding refusal
refusal_found s cs =
    go (faulty 3 s cs) refl (faulty 4 s cs) refl (faulty 5 s cs) refl (faulty 6 s cs) refl
  where
    four : faulty 3 s cs ≡ false → Clear s cs 4
    four = clear_next s cs 3 (clear_three s cs)

    five : faulty 3 s cs ≡ false → faulty 4 s cs ≡ false → Clear s cs 5
    five e d = clear_next s cs 4 (four e) d

    six : faulty 3 s cs ≡ false → faulty 4 s cs ≡ false → faulty 5 s cs ≡ false → Clear s cs 6
    six e d f = clear_next s cs 5 (five e d) f

    at : (n : ℕ) → faulty n s cs ≡ true → Clear s cs n → FoundFault s cs n
    at n e h = first-fault (record { fault = found n s cs e; before = h })

    go : (a : Bool) → faulty 3 s cs ≡ a → (b : Bool) → faulty 4 s cs ≡ b → (c : Bool) → faulty 5 s cs ≡ c → (d : Bool) → faulty 6 s cs ≡ d
        → FoundFault s cs (cond a 3 (cond b 4 (cond c 5 (cond d 6 0))))
    go true p b q c r d t = at 3 p (clear_three s cs)
    go false p true q c r d t = at 4 q (four p)
    go false p false q true r d t = at 5 r (five p q)
    go false p false q false r true t = at 6 t (six p q r)
    go false p false q false r false t = no_fault refl (clear_all s cs (clear_next s cs 6 (six p q r) t))

-- no other number says it
pub found_unique : {s : List ℕ} {cs : List Cell} {m n : ℕ} → FoundFault s cs m → FoundFault s cs n → m ≡ n
found_unique (no_fault p a) (no_fault q b) = p ∙ sym q
found_unique (no_fault p a) (first-fault g) = absurd (true_not_false _ (a g.fault.cell g.fault.among) g.fault.bad)
found_unique (first-fault f) (no_fault q b) = absurd (true_not_false _ (b f.fault.cell f.fault.among) f.fault.bad)
found_unique {m = m} {n = n} (first-fault f) (first-fault g) = elim (dec_lt m n) [ yes l ↦ absurd (g.before m l f.fault) | no h ↦ least h ]
  where
    least : (m < n → ⊥) → m ≡ n
    least h = elim (dec_lt n m) [ yes l ↦ absurd (f.before n l g.fault) | no k ↦ omega arith ]
