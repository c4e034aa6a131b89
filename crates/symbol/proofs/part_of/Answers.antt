-- Each way is what its tests decide, and the fields that are read lie inside a message that is well formed. Assumes nothing.
use mathlib.Core.Path.{sym, ◌∙◌}
use native.Mathlib.Omega.{arith}
use Rattle.symbol.proofs.Laws.{some_bytes, fits, unsized, unread, no_stock, unregistered, registered}
use Rattle.symbol.proofs.part_of.Goals as goal

pub returns-then-not-good : goal.returns-then-not-good
returns-then-not-good c =
    let a = c.args in
    unsized a.directory.now a.message.now (sym c.good_length-good.ensures ∙ c.if-not-good.true)

pub returns-then-not-formed : goal.returns-then-not-formed
returns-then-not-formed c =
    let a = c.args in
    unread a.directory.now a.message.now (sym c.good_length-good.ensures ∙ c.if-not-good.false)
    (sym c.is_well_formed-formed.ensures ∙ c.if-not-formed.true)

pub bounds-message-0 : goal.bounds-message-0
bounds-message-0 c = some_bytes c.args.message.now (sym c.is_well_formed-formed.ensures ∙ c.if-not-formed.false)

pub returns-then-start-eq0 : goal.returns-then-start-eq0
returns-then-start-eq0 c =
    let a = c.args in
    no_stock a.directory.now a.message.now (sym c.good_length-good.ensures ∙ c.if-not-good.false)
    (sym c.is_well_formed-formed.ensures ∙ c.if-not-formed.false) _ c.stock_at-start.ensures (omega (arith, c.if-start-eq0.true))

pub u16_at-requires : goal.u16_at-requires
u16_at-requires c =
    omega (
      arith,
      fits c.args.message.now _ (sym c.is_well_formed-formed.ensures ∙ c.if-not-formed.false)
          c.stock_at-start.ensures c.if-start-eq0.false,
    )

pub u64_at-symbol-requires : goal.u64_at-symbol-requires
u64_at-symbol-requires c =
    fits c.args.message.now _ (sym c.is_well_formed-formed.ensures ∙ c.if-not-formed.false)
    c.stock_at-start.ensures c.if-start-eq0.false

pub returns-then-not-registered : goal.returns-then-not-registered
returns-then-not-registered c =
    let a = c.args in
    unregistered a.directory.now a.message.now (sym c.good_length-good.ensures ∙ c.if-not-good.false)
    (sym c.is_well_formed-formed.ensures ∙ c.if-not-formed.false)
    _ _ _ c.stock_at-start.ensures c.if-start-eq0.false c.u16_at.ensures c.u64_at-symbol.ensures
    (sym c.is_registered-registered.ensures ∙ c.if-not-registered.true)

pub returns : goal.returns
returns c =
    let a = c.args in
    registered a.directory.now a.message.now (sym c.good_length-good.ensures ∙ c.if-not-good.false)
    (sym c.is_well_formed-formed.ensures ∙ c.if-not-formed.false)
    _ _ _ c.stock_at-start.ensures c.if-start-eq0.false c.u16_at.ensures c.u64_at-symbol.ensures _
    (sym c.is_registered-registered.ensures ∙ c.if-not-registered.false) c.unpadded_len.ensures
