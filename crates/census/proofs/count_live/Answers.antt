-- The sum is that of the map numbers' one bits, which is the live count. Assumes nothing.
use Rattle.std.proofs.Common.{rules, ◌∙◌, arith, ◌≡◌, ◌<◌, ◌^◌, sum_by, take}
use Rattle.std.proofs.iter.runs.Made.{chains}
use lib.Count.{ones}
use Rattle.census.proofs.Laws.{counted, few}
use Rattle.census.proofs.count_live.Goals as goal

pub sum-requires-clause-fits : goal.sum-requires-clause-fits
sum-requires-clause-fits c =
    let b = c.args.numbers.now in
    let k = c.args.k in
    let q = counted b k (omega (arith, c.requires.size)) (λ i. (c.type_inv.numbers i).fits) in
    let small : sum_by ones (take k b) < 2 ^ 64 = omega (arith, q, few b k, c.requires.most) in
    search (rules, chains)

pub returns : goal.returns
returns c =
    let b = c.args.numbers.now in
    let k = c.args.k in
    let e : c.sum.result ≡ sum_by ones (take k b) = search rules in
    e ∙ counted b k (omega (arith, c.requires.size)) (λ i. (c.type_inv.numbers i).fits)
