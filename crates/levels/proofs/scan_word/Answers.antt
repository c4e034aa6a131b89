-- The goals that the check leaves. Assumes nothing.
use Rattle.std.specs.Prelude.{Some}
use Rattle.std.proofs.Common.{sym, ap, ◌∙◌, arith}
use lib.Count.{trailing_le}
use Rattle.levels.specs.declared.Best.{Best}
use Rattle.levels.specs.Glances.{room_of}
use Rattle.levels.specs.GlanceLaws.{unsound_seen, other_seen, stands_seen}
use Rattle.levels.specs.Sweep as sweep
use Rattle.levels.proofs.scan_word.Goals as goal
use Rattle.levels.proofs.scan_word.Goals.{in-Other, in-Stands}

pub loop-m-init : goal.loop-m-init
loop-m-init c =
    (sweep.sweep_start _ _ _ _ _ (c.shared_slice_known-1.given c.args.j).fits c.requires.1, c.room_of-room.ensures)

pub overflow_cast-t : goal.overflow_cast-t
overflow_cast-t c = omega (arith, trailing_le 64 c.loop-m.m)

pub overflow_add-j : goal.overflow_add-j
overflow_add-j c = omega (arith, sweep.next_lt _ _ _ _ _ _ c.loop-m.invariant.0 c.loop-m-test.true)

pub glance-glimpse-requires : goal.glance-glimpse-requires
glance-glimpse-requires c =
    let l = sweep.next_lt _ _ _ _ _ _ c.loop-m.invariant.0 c.loop-m-test.true in
    (omega (arith, l, c.requires.0), c.base_of-base.ensures, c.loop-m.invariant.1)

pub returns-in-Unsound : goal.returns-in-Unsound
returns-in-Unsound c =
    sweep.sweep_unsound _ _ _ _ _ _ c.loop-m.invariant.0 c.loop-m-test.true
    (unsound_seen _ _ _ (sym c.glance-glimpse.ensures ∙ c.in-Unsound.is))

pub join-now-requires : goal.join-now-requires
join-now-requires c =
    let p = c.requires in
    let q = sweep.sweep_small _ _ _ _ c.loop-m.invariant.0 p.0 c.args.book.sized.most in
    let h = stands_seen _ c.loop-m.now _ _ _ (sym c.glance-glimpse.ensures ∙ c.in-Stands.is) in
    (omega (arith, q.shares), omega (arith, q.orders), h.1)

pub overflow_sub-m : goal.overflow_sub-m
overflow_sub-m c = omega (arith, c.loop-m-test.true)

pub loop-m-smaller : goal.loop-m-smaller
loop-m-smaller c = sweep.sweep_less _ _ _ _ _ _ c.loop-m.invariant.0 c.loop-m-test.true

pub loop-m-preserved : goal.loop-m-preserved
loop-m-preserved c =
    let w = c.args.w in
    let i = c.loop-m.invariant in
    let t = c.loop-m-test.true in
    let g = c.glance-glimpse.ensures in
    elim c.match-glimpse.branch [
      | in-Other v ↦ (
        sweep.sweep_more _ _ _ _ _ _ i.0 t _ (other_seen _ _ _ (sym g ∙ v.in-Other.is) ∙ ap Some (sym v.now-is)),
        v.room-is ∙ i.1 ∙ ap (λ (x : Best). room_of w x.ticks) (sym v.now-is),
      )
      | in-Stands v ↦ (
        sweep.sweep_more _ _ _ _ _ _ i.0 t _
            ((stands_seen _ _ _ _ _ (sym g ∙ v.in-Stands.is)).0 ∙ ap Some (sym (v.now-is ∙ v.join-now.ensures))),
        v.room-is ∙ v.room_of-room-in-Stands.ensures ∙ ap (λ (x : Best). room_of w x.ticks) (sym v.now-is),
      )
    ]

pub returns : goal.returns
returns c = sweep.sweep_done _ _ _ _ _ _ c.loop-m.invariant.0 c.loop-m-test.false
